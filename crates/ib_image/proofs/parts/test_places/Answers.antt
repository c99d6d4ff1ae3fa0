-- A place that may stand is passed over, and the first other one is the fault.
use Rattle.std.specs.Prelude.{slice_index}
use Rattle.std.proofs.Common.{◌≡◌, ◌∙◌, ℕ, true, inl, inr, sym, ap, subst, arith}
use Rattle.std.proofs.lemmas.Bool.{cases_eq}
use Rattle.ib_image.specs.declared.fault.ImageFault.TheVariants.{BadImage}
use Rattle.ib_image.specs.Copies.{page_in}
use Rattle.ib_image.specs.ImageFaults.{is_place}
use Rattle.ib_image.specs.ImageFiles.{number_of}
use Rattle.ib_image.specs.Parsed.{copy_in}
use Rattle.ib_image.proofs.ParsedLaws.{length-copy_in, place-of}
use Rattle.ib_image.proofs.parts.test_places.Goals as goal

pub returns-then-not-may_stand-clause-fault : goal.returns-then-not-may_stand-clause-fault
returns-then-not-may_stand-clause-fault c =
    let numbers = c.args.numbers.now in let pages = c.args.front.pages in let page = c.loop-page.page in
    let lt = c.loop-page-test.true in let long = length-copy_in numbers pages in
    let place = place-of numbers pages page c.number_of-at.result lt c.number_of-at.ensures in
    record {
      page = page;
      inside = omega (arith, lt, long);
      before = c.loop-page.invariant;
      wrong = ap (is_place c.args.front.first c.args.entries page) place ∙ (sym c.may_stand.ensures ∙ c.if-not-may_stand.true);
      is = ap (λ (n : ℕ). BadImage n (slice_index numbers c.number_of-at.result)) c.number_of-at.ensures ∙ ap (BadImage (number_of page)) (sym place);
    }

pub loop-page-preserved : goal.loop-page-preserved
loop-page-preserved c = λ page lt.
    let numbers = c.args.numbers.now in let pages = c.args.front.pages in
    let place = place-of numbers pages c.loop-page.page c.number_of-at.result c.loop-page-test.true c.number_of-at.ensures in
    let here = ap (is_place c.args.front.first c.args.entries c.loop-page.page) place ∙ (sym c.may_stand.ensures ∙ c.if-not-may_stand.false) in
    elim (cases_eq page c.loop-page.page) [
      | inl e ↦ subst (λ (n : ℕ). is_place c.args.front.first c.args.entries n (page_in (copy_in numbers pages) n).place ≡ true) (sym e) here
      | inr ne ↦ c.loop-page.invariant page (omega (arith, lt, ne))
    ]
