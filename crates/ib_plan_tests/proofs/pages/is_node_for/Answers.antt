-- The first record is the one that is compared.
use Rattle.std.proofs.Common.{◌≤◌, ℕ, sym, subst, Option, inl, inr}
use Rattle.std.specs.Prelude.{IsSomeAnd}
use Rattle.std.proofs.lemmas.Bool.{cases_lt}
use Rattle.ib_map.specs.Keys.{MapKey, rank}
use Rattle.ib_plan_tests.proofs.pages.is_node_for.Goals as goal

pub returns-clause-first : goal.returns-clause-first
returns-clause-first c not_above =
    subst (λ (o : Option (MapKey × ℕ)). IsSomeAnd o (λ r. rank r.0 ≤ rank c.args.key)) (sym c.record_at.ensures)
    (elim (cases_lt (rank c.args.key) (rank c.record_at.result.0)) [
      | inl lt ↦ absurd (let above = c.is_below.ensures.below.1 lt in let no = rw above at not_above in cc)
      | inr le ↦ le
    ])
