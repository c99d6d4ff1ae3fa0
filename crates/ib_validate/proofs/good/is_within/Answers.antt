use Rattle.std.proofs.Common.{◌≡◌, ◌≤◌, ◌<◌, ◌↔◌, ◌+◌, ◌-◌, arith, IsTrue, true, false, not, Bool, ap, sym, ◌∙◌, inl, inr, ℕ, length}
use Rattle.std.proofs.lemmas.Bool.{cases_lt}
use Rattle.ib_map.specs.Keys.{rank}
use Rattle.ib_page.specs.Form.{page_of}
use Rattle.ib_walk.specs.Words.{state_of}
use Rattle.ib_validate.specs.Positions.{end_of}
use Rattle.ib_validate.proofs.RangeLaws.{ascends, Rises-first_last, rises-is, not-rises}
use Rattle.ib_validate.proofs.good.is_within.Goals as goal

not-below : (b : Bool) (x y : ℕ) → IsTrue b ↔ (x < y) → b ≡ false → y ≤ x
not-below b x y h e = elim (cases_lt x y) [ inl lt ↦ let t : b ≡ true = h.1 lt in absurd (cc) | inr le ↦ le ]

pub returns-then-not-is_below : goal.returns-then-not-is_below
returns-then-not-is_below c =
    let rs = (state_of (page_of c.args.image.now)).records in
    let far = c.if-count-eq0.false in
    let long : c.count-count.result - 1 + 1 ≡ length rs = omega arith in
    let test = Rises-first_last rs (c.count-count.result - 1) (rank c.args.at.low) (end_of c.args.at.high) c.record_at.result c.record_at-then-not-is_below.result
    (ascends c.args.image.now c.requires) long c.record_at.ensures c.record_at-then-not-is_below.ensures in
    rises-is c.is_inside.result (rank c.args.at.low) rs (end_of c.args.at.high)
    (λ t. test.0 (not-below c.is_below.result _ _ c.is_below.ensures.below c.if-not-is_below.true, c.is_inside.ensures.0 t)) (λ r. c.is_inside.ensures.1 (test.1 r).1)

pub returns-else-not-is_below : goal.returns-else-not-is_below
returns-else-not-is_below c =
    let rs = (state_of (page_of c.args.image.now)).records in
    ap not c.if-not-is_below.false ∙ sym (not-rises rs (rank c.args.at.low) (end_of c.args.at.high) c.record_at.result c.record_at.ensures (c.is_below.ensures.below.0 c.if-not-is_below.false))
