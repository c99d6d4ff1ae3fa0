-- The leaf is passed over, or the chunk ends at its last key or at `high`.
use Rattle.std.proofs.Common.{◌≡◌, ◌≤◌, ◌∙◌, true, false, refl, inl, inr, arith}
use Rattle.std.proofs.lemmas.Bool.{cases_lt}
use Rattle.ib_map.specs.Keys.{end_rank, rank}
use Rattle.ib_page.specs.Image.{records_of}
use Rattle.ib_scan.specs.Walked.{HasLastKey}
use Rattle.ib_scan.proofs.KeyLaws.{last_below, tree_ascends}
use Rattle.ib_scan.proofs.part.part_in.Goals as goal

pub returns-then-is_below : goal.returns-then-is_below
returns-then-is_below c = (
  c.next-next.ensures,
  record {
    some = λ z. c.if-next-eq0.false (c.next-next.ensures ∙ z);
    below = last_below 0 (records_of c.args.image.now) end_rank c.in-Some.last c.args.start (tree_ascends c.args.image.now c.requires) c.in-Some.ensures (c.is_below.ensures.below.0 c.if-is_below.true);
  },
)

pub returns-then-is_below-2 : goal.returns-then-is_below-2
returns-then-is_below-2 c =
    let from : rank c.args.start ≤ rank c.in-Some.last = elim (cases_lt (rank c.in-Some.last) (rank c.args.start)) [
      | inl lt ↦ absurd (let t : c.is_below.result ≡ true = c.is_below.ensures.below.1 lt in let f : c.is_below.result ≡ false = c.if-is_below.false in cc)
      | inr ge ↦ omega arith
    ] in
    let last : HasLastKey c.args.start c.in-Some.last c.args.image.now = record { some = λ z. c.if-next-eq0.false (c.next-next.ensures ∙ z); is_last = c.in-Some.ensures; from = from } in
    inr (c.in-Some.last, last, inr (c.is_below-in-Some.ensures.below.0 c.if-is_below-2.true, refl))

pub returns-else-is_below-2 : goal.returns-else-is_below-2
returns-else-is_below-2 c =
    let from : rank c.args.start ≤ rank c.in-Some.last = elim (cases_lt (rank c.in-Some.last) (rank c.args.start)) [
      | inl lt ↦ absurd (let t : c.is_below.result ≡ true = c.is_below.ensures.below.1 lt in let f : c.is_below.result ≡ false = c.if-is_below.false in cc)
      | inr ge ↦ omega arith
    ] in
    let above : rank c.args.high ≤ rank c.in-Some.last = elim (cases_lt (rank c.in-Some.last) (rank c.args.high)) [
      | inl lt ↦ absurd (let t : c.is_below-in-Some.result ≡ true = c.is_below-in-Some.ensures.below.1 lt in let f : c.is_below-in-Some.result ≡ false = c.if-is_below-2.false in cc)
      | inr ge ↦ omega arith
    ] in
    let last : HasLastKey c.args.start c.in-Some.last c.args.image.now = record { some = λ z. c.if-next-eq0.false (c.next-next.ensures ∙ z); is_last = c.in-Some.ensures; from = from } in
    inr (c.in-Some.last, last, inl (above, refl))
