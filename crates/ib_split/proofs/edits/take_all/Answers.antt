-- One page more is taken.
use Rattle.ib_plans.specs.Agreement.{taken_bits, with_bits}
use Rattle.std.proofs.Common.{◌≡◌, ◌∙◌, ◌+◌, ◌∷◌, suc, arith, ap, drop, drop-cons, get_or, subst}
use Rattle.ib_plans.specs.Insert.{AreFresh}
use Rattle.ib_split.proofs.BitLaws.{SameBits, take-first}
use Rattle.ib_split.proofs.edits.take_all.Goals as goal

pub loop-page-preserved : goal.loop-page-preserved
loop-page-preserved c =
    let rest : drop c.loop-page.page-index c.args.pages.now ≡ get_or c.args.pages.now c.loop-page.page-index 0 ∷ drop (c.loop-page.page-index + 1) c.args.pages.now =
    drop-cons c.args.pages.now c.loop-page.page-index 0 c.loop-page-test.true ∙ (let e : suc c.loop-page.page-index ≡ c.loop-page.page-index + 1 = omega arith in ap (λ k. get_or c.args.pages.now c.loop-page.page-index 0 ∷ drop k c.args.pages.now) e) in
    let i = c.loop-page.invariant in
    let t = take-first (get_or c.args.pages.now c.loop-page.page-index 0) (drop (c.loop-page.page-index + 1) c.args.pages.now) c.loop-page.space c.take.new.self (with_bits c.args.pages.now 1 (taken_bits c.args.space.now))
    c.take.ensures (subst (AreFresh (taken_bits c.loop-page.space)) rest i.0) (subst (λ xs. SameBits (with_bits xs 1 (taken_bits c.loop-page.space)) (with_bits c.args.pages.now 1 (taken_bits c.args.space.now))) rest i.1) in
    (t.0, t.1, λ j le. c.take.ensures.behind j le ∙ i.2 j le, c.take.ensures.size ∙ i.3)
