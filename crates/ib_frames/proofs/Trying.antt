-- One page that a session changes: what it asks of an append under the law of any entries.
use Rattle.std.proofs.Common.{◌≡◌, ◌≢◌, ℕ, ◌+◌, ◌*◌, ◌^◌, ◌<◌, ◌≤◌, true, false, [], ◌∷◌, length, refl, sym, ◌∙◌, subst, arith}
use Rattle.std.specs.Prelude.{None}
use Rattle.std.proofs.lemmas.Bool.{ne_eqb}
use Rattle.std.proofs.lemmas.List.Elements.{All-cons, All-nil}
use mathlib.Core.Logic.{dite}
use native.Mathlib.Decide.{ℕ_discrete}
use Rattle.ib_map.specs.Keys.{MapKey}
use Rattle.ib_map.specs.declared.TheConstants.{PAGE_WORDS}
use Rattle.ib_map.specs.declared.call.Change.TheVariants.{Insert}
use Rattle.ib_map.specs.Writes.{PlacesRise, spans_pages, touches}
use Rattle.ib_page.specs.Work.{WorkPage, changed_of}
use Rattle.ib_page.specs.Writes.{writes_of}
use Rattle.ib_page.proofs.StoreLaws.{untouched, writes_rise}
use Rattle.ib_levels.proofs.Counts.{on-none}
use Rattle.ib_core.specs.declared.phase.Phase.TheVariants.{Free}
use Rattle.ib_core.specs.declared.session.Session.{Session}
use Rattle.ib_core.specs.Sessions.{holdings, x_grants}
use Rattle.ib_logrec.specs.declared.entry.TheConstants.{MOST_SESSIONS}
use Rattle.ib_logrec.specs.Law.{AreInGrammar}
use Rattle.ib_logrec.specs.Grammar.{IsInGrammar}
use Rattle.ib_rule.specs.Pass.{PassState}
use Rattle.ib_rule.specs.Views.{is_watched}
use Rattle.ib_rule.proofs.Storing.{grammar_push}
use Rattle.ib_frames.specs.Appends.{entry_for, MayAppend}

-- who owns X holds the latch
pub held_by_x : (l : ℕ) (a : Session) → 0 < x_grants l a → 0 < holdings l a
held_by_x l a x = dite (ℕ_discrete (holdings l a) 0) (λ none. let z : x_grants l a ≡ 0 = on-none l (λ h. h.x) a.held none in absurd (omega arith)) (λ some. omega arith)

module _ (p : WorkPage) where
  elsewhere : (page : ℕ) → p.page ≢ page → changed_of page (p ∷ []) ≡ None
  elsewhere page away = rw (ne_eqb p.page page away) refl

  pub alone : (page : ℕ) → touches page (writes_of (p ∷ [])) ≡ true → p.page ≡ page
  alone page is = dite (ℕ_discrete p.page page) (λ here. here) (λ away. let z : true ≡ false = sym is ∙ untouched (p ∷ []) page (elsewhere page away) in absurd (cc))

  rises : (pages : ℕ) → p.page < pages → PlacesRise 0 (writes_of (p ∷ [])) (pages * PAGE_WORDS)
  rises pages inside = writes_rise 0 pages (p ∷ []) (omega arith, tt) (All-cons (λ (q : WorkPage). q.page < pages) p [] inside (All-nil (λ (q : WorkPage). q.page < pages)))

  module _ (pages : ℕ) (pass : PassState) (key : MapKey) (value : ℕ) (inside : p.page < pages) (number : (1 ≤ pass.number) × (pass.number ≤ MOST_SESSIONS)) (made : length pass.view.memory.own + 1 < 2 ^ 32)
      (some : 0 < length (writes_of (p ∷ []))) (few : length (writes_of (p ∷ [])) ≤ 160) where
    pub entry_fits : IsInGrammar pages (entry_for pass (Insert key value) (p ∷ []))
    entry_fits = record {
      session = number.0;
      most_session = number.1;
      number = omega arith;
      most_number = omega arith;
      writes = omega arith;
      most_writes = omega arith;
      places = rises pages inside;
      structural = refl;
    }

    pub may_append_one : pass.view.session.phase ≡ Free → 0 < x_grants 0 pass.view.session → is_watched 0 pass.view.memory.since ≡ true → 0 < x_grants (p.page + 2) pass.view.session → spans_pages (writes_of (p ∷ [])) ≡ false → AreInGrammar pages pass.view.memory.seen
        → MayAppend (AreInGrammar pages) pass (Insert key value) (p ∷ [])
    may_append_one free log_x watched page_x whole legal = record {
      free = free;
      log_x = log_x;
      watched = watched;
      pages_x = λ page is. subst (λ k. 0 < x_grants (k + 2) pass.view.session) (alone page is) page_x;
      index = λ is. let z : true ≡ false = sym is ∙ whole in absurd (cc);
      legal = grammar_push pages pass.view.memory.seen (entry_for pass (Insert key value) (p ∷ [])) legal entry_fits;
    }
