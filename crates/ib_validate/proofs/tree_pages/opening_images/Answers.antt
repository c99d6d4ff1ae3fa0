use Rattle.std.proofs.Common.{refl, arith}
use Rattle.std.proofs.lemmas.List.FromFn.{map-range_with_len_more}
use Rattle.ib_page.specs.Opening.{opening_words}
use Rattle.ib_validate.proofs.tree_pages.opening_images.Goals as goal

pub loop-page-preserved : goal.loop-page-preserved
loop-page-preserved c = rw (c.in_ok-push.ensures.items, c.loop-page.invariant, c.opening_image.ensures, map-range_with_len_more (opening_words 1) 0 c.loop-page.page c.loop-page.page (omega arith)) refl
