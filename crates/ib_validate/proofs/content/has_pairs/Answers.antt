-- The pairs that are left, beside the records from the place on.
use Rattle.std.proofs.Common.{◌≡◌, ◌↔◌, ◌≤◌, ◌<◌, true, false, IsTrue, ℕ, Bool, inl, inr}
use Rattle.std.proofs.lemmas.Bool.{cases_lt}
use Rattle.ib_page.specs.Form.{page_of}
use Rattle.ib_walk.specs.Words.{state_of}
use Rattle.ib_validate.specs.Positions.{end_of}
use Rattle.ib_validate.proofs.ContentLaws.{pair-outside, pair-inside, pair-differs, pairs-end, within-slice_get}
use Rattle.ib_validate.proofs.content.has_pairs.Goals as goal

not-inside : (b : Bool) (x y : ℕ) → IsTrue b ↔ (x < y) → b ≡ false → y ≤ x
not-inside b x y h e = elim (cases_lt x y) [ inl lt ↦ let t : b ≡ true = h.1 lt in absurd (cc) | inr le ↦ le ]

pub returns-then-not-is_record_at-clause-same : goal.returns-then-not-is_record_at-clause-same
returns-then-not-is_record_at-clause-same c =
    pair-differs (state_of (page_of c.args.image.now)).records c.loop-pair.pair-iterator c.next.new.self c.loop-pair.place (end_of c.args.high) c.in-Some.pair c.in-Some.ensures.steps _ c.loop-pair.invariant.same
    (c.is_inside.ensures.0 c.if-is_inside.true) (λ h. let t : c.is_record_at.result ≡ true = c.is_record_at.ensures.1 h in let f = c.if-not-is_record_at.true in cc)

pub loop-pair-preserved-then-is_inside : goal.loop-pair-preserved-then-is_inside
loop-pair-preserved-then-is_inside c =
    let at = c.is_record_at.ensures.0 c.if-not-is_record_at.false in
    record {
      same = pair-inside (state_of (page_of c.args.image.now)).records c.loop-pair.pair-iterator c.next.new.self c.loop-pair.place (end_of c.args.high) c.in-Some.pair c.in-Some.ensures.steps _ c.loop-pair.invariant.same
          (c.is_inside.ensures.0 c.if-is_inside.true) at;
      far = within-slice_get _ _ _ at;
    }

pub loop-pair-preserved : goal.loop-pair-preserved
loop-pair-preserved c = record {
  same = pair-outside (state_of (page_of c.args.image.now)).records c.loop-pair.pair-iterator c.next.new.self c.loop-pair.place (end_of c.args.high) c.in-Some.pair c.in-Some.ensures.steps _ c.loop-pair.invariant.same
      (not-inside c.is_inside.result _ _ c.is_inside.ensures c.if-is_inside.false);
  far = c.loop-pair.invariant.far;
}

pub returns-clause-same : goal.returns-clause-same
returns-clause-same c =
    pairs-end (state_of (page_of c.args.image.now)).records c.loop-pair.pair-iterator c.loop-pair.place (end_of c.args.high) c.count-count.result _
    c.in-None.ensures.steps.0 c.loop-pair.invariant.far c.count-count.ensures.count c.loop-pair.invariant.same
