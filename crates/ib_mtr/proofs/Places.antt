-- The place of the newest grant on a latch, looked for from the end of the memo.
use Rattle.std.proofs.Common.{◌≡◌, ◌≢◌, ℕ, ◌+◌, ◌<◌, true, false, nat_eq, List, length, get_or, drop, sym, ap, subst, eq-eqb, eqb-true, add-one}
use Rattle.std.specs.Prelude.{IsSomeAnd}
use Rattle.std.specs.List.{All}
use Rattle.std.proofs.Math.Seq.{drop-cons}
use Rattle.std.proofs.lemmas.List.Elements.{All-cons}
use Rattle.std.proofs.lemmas.Option.{slice_get-get_or}
use Rattle.ib_levels.specs.declared.latch.Latch.{Latch}
use Rattle.ib_levels.specs.declared.level.Mode.{Mode}
use Rattle.ib_mtr.specs.Memo.{IsNewest}

module _ (memo : List (Latch × Mode)) (latch : Latch) (at : ℕ) (d : Latch × Mode) (within : at < length memo) (later : All (λ g. g.0 ≢ latch) (drop (at + 1) memo)) where
  -- the grant at the place is on another latch
  pub none_from : nat_eq (get_or memo at d).0.0 latch.0 ≡ false → All (λ g. g.0 ≢ latch) (drop at memo)
  none_from other =
      subst (All (λ g. g.0 ≢ latch)) (sym (drop-cons memo at d within))
      (All-cons (λ g. g.0 ≢ latch) (get_or memo at d) _ (λ e. let same = eq-eqb (get_or memo at d).0.0 latch.0 (ap (λ (l : Latch). l.0) e) in absurd (cc))
      (subst (λ (n : ℕ). All (λ g. g.0 ≢ latch) (drop n memo)) (add-one at) later))

  -- .. or it is the newest on the latch
  pub newest_at : nat_eq (get_or memo at d).0.0 latch.0 ≡ true → IsNewest latch at memo
  newest_at same = record {
    there = subst (λ o. IsSomeAnd o (λ g. g.0 ≡ latch)) (sym (slice_get-get_or memo at d within)) (ap (λ (n : ℕ). record { 0 = n }) (eqb-true (get_or memo at d).0.0 latch.0 same));
    last = later;
  }
