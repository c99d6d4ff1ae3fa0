-- What remains of a session's knowledge after a step on a latch that it still holds, or never held.
use Rattle.std.proofs.Common.{◌≡◌, ◌≢◌, ℕ, ◌<◌, List, [], ◌∷◌, Some, None, Bool, true, false, cond, not, refl, sym, ap, ◌∙◌, subst, arith}
use Rattle.std.specs.Prelude.{◌==◌, ◌||◌, nat_lt, filter}
use Rattle.std.specs.List.{AllByRecursion}
use Rattle.std.proofs.lemmas.Bool.Decides.{nat_tests}
use Rattle.ib_levels.specs.declared.level.Mode.{Mode}
use Rattle.ib_levels.proofs.Counts.{by_equal}
use Rattle.ib_core.specs.declared.phase.Phase.{Phase}
use Rattle.ib_core.specs.declared.phase.Phase.TheVariants.{Free, Flagged}
use Rattle.ib_core.specs.declared.event.Event.{Event}
use Rattle.ib_core.specs.declared.event.Event.TheVariants.{S, Sx, X, Again}
use Rattle.ib_core.specs.declared.event.Answer.{Answer}
use Rattle.ib_core.specs.declared.event.Answer.TheVariants.{Granted, Reserved}
use Rattle.ib_core.specs.declared.latch_word.LatchWord.{LatchWord}
use Rattle.ib_core.specs.declared.latch_word.LatchWord.TheVariants.{Lock}
use Rattle.ib_core.specs.declared.session.Session.{Session}
use Rattle.ib_core.specs.Debts.{wish_of, won}
use Rattle.ib_core.specs.Responses.{latch_of}
use Rattle.ib_core.specs.Sessions.{claims, holdings}
use Rattle.ib_core.specs.Turns.{turn_at, word_for}
use Rattle.ib_core.proofs.NumberTests.{lt_some}
use Rattle.ib_rule.specs.declared.kind.StepKind.TheVariants.{Turn}
use Rattle.ib_rule.specs.declared.looks.Looks.{Looks}
use Rattle.ib_rule.specs.declared.view.View.{View}
use Rattle.ib_rule.specs.Afterwards.{in_phase, phased}
use Rattle.ib_rule.specs.Memory.{latch_at}
use Rattle.ib_rule.specs.Steps.{turn_looks, view_after, mark_looks}
use Rattle.ib_rule.specs.Views.{KnowsHeld, left_as, turned, with_grant, with_looks}

-- nothing is left out of a list of which the test holds everywhere
filter_all : {A : Type 0} (f : A → Bool) (P : A → Type 0) → ((x : A) → P x → f x ≡ true) → (xs : List A) → AllByRecursion P xs → filter f xs ≡ xs
filter_all f P holds [] each = refl
filter_all f P holds (x ∷ xs) each = ap (λ b. cond b (x ∷ filter f xs) (filter f xs)) (holds x each.0) ∙ ap (λ ys. x ∷ ys) (filter_all f P holds xs each.1)

-- what is counted of a latch that is not this one, or of which there is something left, remains
remains : (k l n : ℕ) → (k ≡ l → 0 < n) → (not (k == l) || nat_lt 0 n) ≡ true
remains k l n some = by_equal (λ b. (not b || nat_lt 0 n) ≡ true) k l (λ here. lt_some n (some here)) (λ _. refl)

module _ (l : ℕ) (a : Session) (v : View) (known : KnowsHeld v) (holds : 0 < holdings l v.session → 0 < holdings l a) (claims_it : 0 < claims l v.session → 0 < claims l a) where
  -- where the session still has what it had of the latch, nothing that it knows ends
  pub all_remains : left_as l a v ≡ record v { session = a }
  all_remains = λ j. record v {
    session = a;
    written = filter_all (λ k. not (k == l) || nat_lt 0 (claims l a)) (λ k. 0 < claims k v.session) (λ k has. remains k l (claims l a) (λ here. claims_it (subst (λ k. 0 < claims k v.session) here has))) v.written known.written j;
    memory = record v.memory {
      since = filter_all (λ since. not (since.latch == l) || nat_lt 0 (holdings l a)) (λ since. 0 < holdings since.latch v.session) (λ s has. remains s.latch l (holdings l a) (λ here. holds (subst (λ k. 0 < holdings k v.session) here has))) v.memory.since known.since j;
      loaded = filter_all (λ x. not (latch_at x.place == l) || nat_lt 0 (holdings l a)) (λ x. 0 < holdings (latch_at x.place) v.session) (λ x has. remains (latch_at x.place) l (holdings l a) (λ here. holds (subst (λ k. 0 < holdings k v.session) here has))) v.memory.loaded known.loaded j;
    };
  }

-- the events that are no wishes
abbrev pub is_plain : Event → Bool
is_plain (S l v) = false
is_plain (Sx l v) = false
is_plain (X l v) = false
is_plain (Again l) = false
is_plain e = true

pub no_wish : (p : Phase) (e : Event) → is_plain e ≡ true → wish_of p e ≡ None
no_wish Free (S l v) is = absurd (cc)
no_wish Free (Sx l v) is = absurd (cc)
no_wish Free (X l v) is = absurd (cc)
no_wish Free e is = refl
no_wish (Flagged l mode v g) (Again k) is = absurd (cc)
no_wish (Flagged l mode v g) e is = refl
no_wish p e is = refl

no_win : (answer : Answer) → won answer None ≡ None
no_win Granted = refl
no_win Reserved = refl
no_win answer = refl

-- a turn in which no wish came true, by the session after it
pub left_turn : (e : Event) (n : ℕ) (v : View) (a : Session) → won (turn_at e n v.session).answer (wish_of v.session.phase e) ≡ None → (turn_at e n v.session).session ≡ a → turned e n v ≡ left_as (latch_of e) a v
left_turn e n v a none is = λ j. record (left_as (latch_of e) (is j) v) { grants = with_grant (none j) v.grants }

-- .. as it was no wish
pub plain_turn : (e : Event) (n : ℕ) (v : View) (a : Session) → is_plain e ≡ true → (turn_at e n v.session).session ≡ a → turned e n v ≡ left_as (latch_of e) a v
plain_turn e n v a plain is = left_turn e n v a (ap (won (turn_at e n v.session).answer) (no_wish v.session.phase e plain) ∙ no_win (turn_at e n v.session).answer) is

-- a turn that is a wish that comes true, by the session after it
pub won_turn : (e : Event) (n : ℕ) (v : View) (a : Session) (mode : Mode) → won (turn_at e n v.session).answer (wish_of v.session.phase e) ≡ Some mode → (turn_at e n v.session).session ≡ a
    → turned e n v ≡ record (left_as (latch_of e) a v) { grants = with_grant (Some mode) v.grants }
won_turn e n v a mode wins is = λ j. record (left_as (latch_of e) (is j) v) { grants = with_grant (wins j) v.grants }

-- a step on another word than the lock word counts where it is one of who waits, or a raise
pub no_look : (c : LatchWord) (e : Event) (a : Session) (n : ℕ) (k : Looks) → c ≢ Lock → turn_looks c e a n k ≡ mark_looks c e n k
no_look Lock e a n k off = absurd (off refl)
no_look c e a n k off = refl

-- a turn that changes no more than the phase
pub phase_turn : (e : Event) (n : ℕ) (v : View) (p : Phase) → KnowsHeld v → is_plain e ≡ true → (turn_at e n v.session).session ≡ in_phase p v.session → turned e n v ≡ phased p v
phase_turn e n v p known plain is = plain_turn e n v (in_phase p v.session) plain is ∙ all_remains (latch_of e) (in_phase p v.session) v known (λ h. h) (λ h. h)

-- .. on another word than the lock word
pub mark_turn : (e : Event) (n : ℕ) (v w : View) (p : Phase) → KnowsHeld v → is_plain e ≡ true → word_for e v.session ≢ Lock → w ≡ view_after (Turn e) n v → w.session ≡ in_phase p v.session → w ≡ with_looks (mark_looks (word_for e v.session) e n v.looks) (phased p v)
mark_turn e n v w p known plain off is session =
    is ∙ (λ j. with_looks (no_look (word_for e v.session) e v.session n v.looks off j) (phase_turn e n v p known plain (sym (ap (λ (u : View). u.session) is) ∙ session) j))

pub lt_more : (n : ℕ) → 1 < n → nat_lt 1 n ≡ true
lt_more n is = grind (arith, nat_tests)
