-- What a step that took a grant leaves.
use Rattle.std.proofs.Common.{◌≡◌, inr, subst, ℕ, List, Some, refl, sym, true, false, Bool, ap, ◌∙◌, ℤ, pos, ◌-ℤ◌}
use Rattle.std.specs.Prelude.{if◌then◌else◌}
use Rattle.ib_word.specs.declared.word.LockWord.{LockWord}
use Rattle.ib_word.specs.declared.word.TheConstants.{X_LOCK_DECR}
use Rattle.ib_levels.specs.declared.holding.Holding.{Holding}
use Rattle.ib_levels.specs.declared.level.Level.{Level}
use Rattle.ib_levels.specs.declared.level.Mode.{Mode}
use Rattle.ib_levels.specs.declared.level.Mode.TheVariants.{S, Sx, X}
use Rattle.ib_core.specs.declared.phase.Phase.{Phase}
use Rattle.ib_core.specs.declared.phase.Phase.TheVariants.{Free, Next}
use Rattle.ib_core.specs.declared.event.Answer.TheVariants.{Granted, Reserved}
use Rattle.ib_core.specs.declared.session.Session.{Session}
use Rattle.ib_word.specs.Word.{is_drained}
use Rattle.ib_core.specs.Responses.{response}
use Rattle.ib_core.specs.Takings.{first_response, first_weight, reserving}
use Rattle.ib_rule.specs.declared.view.View.{View}
use Rattle.ib_rule.specs.Afterwards.{granted, looked_on, phased, tried_on, word_loaded}
use Rattle.ib_rule.specs.Laws.{Stores}
use Rattle.ib_rule.specs.Views.{with_grant}
use Rattle.ib_rule.specs.Pass.{PassState, with_view}
use Rattle.ib_latch.specs.declared.tries.Reserve.TheVariants.{Owned, Next as NextWriter}
use Rattle.ib_latch.specs.Tries.{HasTakenGrant, looked_at, phase_by, phase_of, reserve_at, signed_on, won_with}

-- a session that is free is as before after a look
pub free_look : (l n : ℕ) (v : View) → v.session.phase ≡ Free → phased (word_loaded l n v.session v.session.phase) v ≡ v
free_look l n v free = ap (λ (p : Phase). phased (word_loaded l n v.session p) v) free ∙ sym (λ j. record v { session = record v.session { phase = free j } })

-- a reservation by its session
pub reserving_is : (l : ℕ) (v : Level) (w : ℤ) (held : List Holding) → (reserving l v w held).session ≡ record { held = held; phase = phase_of l v (reserve_at w) }
reserving_is l v w held = by_test (is_drained w)
  where
    by_test : (b : Bool) → Path Session (if b then response Granted held Free else response Reserved held (Next l v)).session (record { held = held; phase = phase_of l v (if b then Owned else NextWriter (record { 0 = w })) })
    by_test true = refl
    by_test false = refl

-- a grant taken in one step
pub granted_taken : (mode : Mode) (a : Session) (p q : PassState) (v : View) → q ≡ with_view p (granted mode a v) → v.grants ≡ p.view.grants → v.memory ≡ p.view.memory → v.written ≡ p.view.written → HasTakenGrant mode a.held a.phase p.view q.view
granted_taken mode a p q v is grants memory written = record {
  session = ap (λ (q : PassState). q.view.session) is;
  grants = ap (λ (q : PassState). q.view.grants) is ∙ ap (with_grant (Some mode)) grants;
  kept = λ k was. subst (Stores k) (sym (ap (λ (q : PassState). q.view.written) is ∙ written)) was;
  memory = ap (λ (q : PassState). q.view.memory) is ∙ memory;
}

-- what was taken is taken when the writer is stored
pub signed_taken : (mode : Mode) (held : List Holding) (phase : Phase) (u : View) (l : ℕ) (p q : PassState) → q ≡ signed_on l p → HasTakenGrant mode held phase u p.view → HasTakenGrant mode held phase u q.view
signed_taken mode held phase u l p q is taken = record {
  session = ap (λ (q : PassState). q.view.session) is ∙ taken.session;
  grants = ap (λ (q : PassState). q.view.grants) is ∙ taken.grants;
  kept = λ k was. subst (Stores k) (sym (ap (λ (q : PassState). q.view.written) is)) (inr (taken.kept k was));
  memory = ap (λ (q : PassState). q.view.memory) is ∙ taken.memory;
}

-- a try that was won
pub won_taken : (mode : Mode) (l : ℕ) (w : LockWord) (a : Session) (p q : PassState) → q ≡ won_with mode l w a (looked_at l w p) → HasTakenGrant mode a.held a.phase p.view q.view
won_taken S l w a p q is = granted_taken S a p q (tried_on l w w (looked_on l w p.view)) is refl refl refl
won_taken Sx l w a p q is = signed_taken Sx a.held a.phase p.view l _ q is (granted_taken Sx a p _ (tried_on l w w (looked_on l w p.view)) refl refl refl refl)
won_taken X l w a p q is = signed_taken X a.held a.phase p.view l _ q is (granted_taken X a p _ (tried_on l w w (looked_on l w p.view)) refl refl refl refl)

-- the session after a first grant, as the response to it tells
pub first_is : (mode : Mode) (l : ℕ) (v : Level) (w : ℤ) (held : List Holding) → (first_response mode l v (w -ℤ pos (first_weight mode)) held).session ≡ record { held = held; phase = phase_by mode l v w }
first_is S l v w held = refl
first_is Sx l v w held = refl
first_is X l v w held = reserving_is l v (w -ℤ pos X_LOCK_DECR) held
