-- When a session may wish for a latch.
use Rattle.std.proofs.Common.{◌≡◌, ◌↔◌, ℕ, Bool, true, false, Option, Some, None, Result, refl, sym, ap, ◌∙◌}
use Rattle.std.specs.Prelude.{IsTrue}
use Rattle.std.specs.Result.{is_ok}
use Rattle.ib_levels.specs.declared.level.Level.{Level}
use Rattle.ib_levels.specs.declared.listed.Against.{Against}
use Rattle.ib_levels.specs.Level.{MayFollowAll, first_against}
use Rattle.ib_levels.specs.Holding.{is_held, levels_of}
use Rattle.ib_levels.specs.Listed.{answer_to, refused_by}
use Rattle.ib_levels.proofs.Counts.{none_from_unheld, unheld_from_none}
use Rattle.ib_levels.proofs.Orderly.{may_from_none, none_from_may}
use Rattle.ib_core.specs.declared.phase.Phase.TheVariants.{Free}
use Rattle.ib_core.specs.declared.session.Session.{Session}
use Rattle.ib_core.specs.Holders.{CanWish}

module _ (l : ℕ) (v : Level) (a : Session) where
  allowed_by : (o : Option Level) → first_against v (levels_of a.held) ≡ o → IsTrue (is_ok (refused_by v o)) ↔ MayFollowAll v (levels_of a.held)
  allowed_by None is = (λ _. may_from_none v (levels_of a.held) is, λ _. refl)
  allowed_by (Some held) is = (λ ok. absurd (cc), λ may. let none = none_from_may v (levels_of a.held) may in absurd (cc))

  -- in the middle of nothing, with nothing on the latch
  pub wish_by_answer : (ok : Bool) (answer : Result (Unit {0}) Against) → a.phase ≡ Free → is_held l a.held ≡ false → ok ≡ is_ok answer → answer ≡ answer_to (is_held l a.held) v (levels_of a.held) → IsTrue ok ↔ CanWish l v a
  wish_by_answer ok answer free unheld is answered =
      let same : ok ≡ is_ok (refused_by v (first_against v (levels_of a.held))) = is ∙ ap is_ok (answered ∙ ap (λ b. answer_to b v (levels_of a.held)) unheld) in
      let both = allowed_by (first_against v (levels_of a.held)) refl in (
        λ yes. record { free = free; none = none_from_unheld l a.held unheld; allowed = both.0 (sym same ∙ yes) },
        λ can. same ∙ both.1 can.allowed,
      )

  -- .. and with something there
  pub no_wish_held : is_held l a.held ≡ true → IsTrue false ↔ CanWish l v a
  no_wish_held held = (λ no. absurd (cc), λ can. let unheld = unheld_from_none l a.held can.none in absurd (cc))
