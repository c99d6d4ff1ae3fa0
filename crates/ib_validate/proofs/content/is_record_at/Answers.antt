use Rattle.std.proofs.Common.{◌≡◌, ◌∙◌, sym, ap, Some, ℕ}
use Rattle.std.proofs.lemmas.Bool.{eq-eqb, eqb-true}
use Rattle.ib_map.specs.Keys.{MapKey}
use Rattle.ib_map.proofs.KeyLaws.{rank_injective}
use Rattle.ib_validate.proofs.content.is_record_at.Goals as goal

same-pair : (x y : MapKey × ℕ) → x.0 ≡ y.0 → x.1 ≡ y.1 → x ≡ y
same-pair x y a b = λ i. (a i, b i)

pub returns-then-is_same : goal.returns-then-is_same
returns-then-is_same c =
    let key = rank_injective c.record_at-value.result.0 c.args.pair.0 (c.is_same.ensures.same.0 c.if-is_same.true) in (
      λ t. c.record_at-value.ensures ∙ ap (λ (x : MapKey × ℕ). Some x) (same-pair c.record_at-value.result c.args.pair key (eqb-true _ _ t)),
      λ h. let same : c.record_at-value.result ≡ c.args.pair = let x = sym c.record_at-value.ensures ∙ h in cc in eq-eqb _ _ (ap (λ (x : MapKey × ℕ). x.1) same),
    )
