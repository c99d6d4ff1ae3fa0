-- One page more is written.
use Rattle.std.proofs.Common.{◌≡◌, ◌*◌, ◌^◌, ◌-◌, ◌<◌, ◌++◌, ◌∙◌, ℕ, List, length, take, drop, get_or, ap, sym, subst, arith}
use Rattle.std.specs.List.{flat_map}
use Rattle.std.proofs.lemmas.List.Elements.{All-append}
use Rattle.std.proofs.Math.Seq.{take-length}
use borrow.Rule.Slice.PartMut.{mid_of}
use Rattle.ib_map.specs.declared.TheConstants.{PAGE_WORDS}
use Rattle.ib_replay.specs.Files.{AreWords, word_bytes}
use Rattle.ib_image.specs.declared.copy.CopiedPage.{CopiedPage}
use Rattle.ib_image.specs.declared.image_file.TheConstants.{PAGE_NUMBERS}
use Rattle.ib_image.specs.ImageFiles.{page_numbers}
use Rattle.ib_image.proofs.WriteLaws.{page-numbers-more, pages-more, pages-size}
use Rattle.ib_image.proofs.image_file.write_pages.Goals as goal

pub loop-index-preserved : goal.loop-index-preserved
loop-index-preserved c =
    let e : CopiedPage = c.index-pages-index.result in
    let i = c.loop-index.index in
    let size : length (get_or c.args.pages.now i e).image ≡ PAGE_WORDS = ap (λ (p : CopiedPage). length p.image) (sym c.index-pages-index.is) ∙ c.write_page.ensures.size in
    let wrote = c.write_page.ensures.numbers ∙ ap (λ (p : CopiedPage). word_bytes (page_numbers p) ++ drop (8 * PAGE_NUMBERS) (mid_of (8 * (PAGE_NUMBERS * i)) (length c.loop-index.out - 8 * (PAGE_NUMBERS * i)) c.loop-index.out)) c.index-pages-index.is in
    record {
      numbers = pages-more c.args.pages.now c.args.out.now c.loop-index.out c.write_page.new.out i e c.loop-index-test.true c.requires.room c.loop-index.invariant.numbers c.loop-index.invariant.size size wrote;
      size = pages-size c.args.pages.now c.args.out.now c.loop-index.out c.write_page.new.out i e c.loop-index-test.true c.requires.room c.loop-index.invariant.numbers c.loop-index.invariant.size size;
      fits = subst AreWords (sym (page-numbers-more c.args.pages.now i e c.loop-index-test.true))
          (All-append (λ (w : ℕ). w < 2 ^ 64) (flat_map page_numbers (take i c.args.pages.now)) (page_numbers (get_or c.args.pages.now i e)) c.loop-index.invariant.fits (subst (λ (p : CopiedPage). AreWords (page_numbers p)) c.index-pages-index.is c.write_page.ensures.fits));
    }

pub returns-clause-fits : goal.returns-clause-fits
returns-clause-fits c =
    let past = c.loop-index-test.false in let end = c.loop-index.auto.index-end in
    let at : c.loop-index.index ≡ length c.args.pages.now = omega arith in
    subst (λ (ps : List CopiedPage). AreWords (flat_map page_numbers ps)) (ap (λ (n : ℕ). take n c.args.pages.now) at ∙ take-length c.args.pages.now) c.loop-index.invariant.fits
