-- What a first try for a mode came to, by the exchange that is its event.
use Rattle.std.proofs.Common.{◌≡◌, ◌≢◌, ℕ, true, Ok, Err, ap, ◌∙◌, subst}
use Rattle.ib_word.specs.Word.{cell_of}
use Rattle.ib_word.specs.declared.word.LockWord.{LockWord}
use Rattle.ib_levels.specs.declared.level.Level.{Level}
use Rattle.ib_levels.specs.declared.level.Mode.{Mode}
use Rattle.ib_core.specs.declared.event.Answer.{Answer}
use Rattle.ib_core.specs.declared.event.Event.{Event}
use Rattle.ib_core.specs.Responses.{latch_of}
use Rattle.ib_core.specs.Takings.{is_given_at}
use Rattle.ib_core.specs.Turns.{turn_at}
use Rattle.ib_rule.specs.declared.kind.StepKind.TheVariants.{Try}
use Rattle.ib_rule.specs.Afterwards.{tried_on}
use Rattle.ib_rule.specs.Conditions.{MayTry, try_event}
use Rattle.ib_rule.specs.Pass.{PassState, with_view}
use Rattle.ib_rule.specs.Steps.{view_after}
use Rattle.ib_rule.specs.Told.{IsEvent}
use Rattle.ib_rule.specs.Turns.{IsTryFor}
use Rattle.ib_rule.specs.Views.{KnowsHeld}
use Rattle.ib_rule.proofs.Outcomes.{first_view, try_latch}

module _ (mode : Mode) (l : ℕ) (u : Level) (expected : LockWord) (p q : PassState) (e : Event) (is : e ≡ try_event mode l u p.view.session.phase) where
  -- it was won
  pub first_won : (answer : Answer) → KnowsHeld p.view → MayTry mode l u p.view.session p.view.session.phase → is_given_at mode expected.0 ≡ true
      → q ≡ with_view p (view_after (Try e (cell_of expected.0)) (cell_of expected.0) p.view) → IsEvent e p.view.session answer q.view.session
      → answer ≡ (turn_at e (cell_of expected.0) p.view.session).answer → IsTryFor mode l u expected (Ok tt) p q
  first_won answer known may given view event answered =
      let came = view ∙ ap (λ (e : Event). with_view p (view_after (Try e (cell_of expected.0)) (cell_of expected.0) p.view)) is in
      record {
        tried = record {
          view = came;
          event = λ _. subst (λ (e : Event). IsEvent e p.view.session (turn_at e (cell_of expected.0) p.view.session).answer q.view.session) is
              (subst (λ (a : Answer). IsEvent e p.view.session a q.view.session) answered event);
          lost = tt;
        };
        taken = λ _. came ∙ ap (with_view p) (first_view p.view l expected.0 known mode u may given);
        lost = tt;
      }

  -- it was not, and found this word
  pub first_lost : (found : LockWord) → q ≡ with_view p (view_after (Try e (cell_of expected.0)) (cell_of found.0) p.view)
      → q ≡ with_view p (tried_on (latch_of e) expected found p.view) → found.0 ≢ expected.0 → IsTryFor mode l u expected (Err found) p q
  first_lost found view refused other = record {
    tried = record {
      view = view ∙ ap (λ (e : Event). with_view p (view_after (Try e (cell_of expected.0)) (cell_of found.0) p.view)) is;
      event = λ ok. absurd (cc);
      lost = other;
    };
    taken = λ ok. absurd (cc);
    lost = refused ∙ ap (λ (k : ℕ). with_view p (tried_on k expected found p.view)) (ap latch_of is ∙ try_latch mode l u p.view.session.phase);
  }
