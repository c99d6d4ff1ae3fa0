use Rattle.std.proofs.Common.{◌≡◌, refl, rules, arith}
use Rattle.std.proofs.lemmas.List.FromFn.{map-range_with_len_more}
use Rattle.std.specs.Fork.{slice_chunk}
use Rattle.ib_map.specs.declared.TheConstants.{PAGE_WORDS}
use Rattle.ib_c.proofs.check.images_with.Goals as goal

pub loop-page-preserved : goal.loop-page-preserved
loop-page-preserved c =
    let image : c.image_with.result ≡ slice_chunk c.args.words.now PAGE_WORDS c.loop-page.page = search rules in
    rw (c.in_ok-push.ensures.items, c.loop-page.invariant, image, map-range_with_len_more (slice_chunk c.args.words.now PAGE_WORDS) 0 c.loop-page.page c.loop-page.page (omega arith)) refl
