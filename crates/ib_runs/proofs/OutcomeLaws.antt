-- From all sessions' turns, and the log that the closed space keeps, to one legal run.
use Rattle.std.specs.List.{AllByRecursion}
use Rattle.std.proofs.Common.{◌≡◌, inl, inr, ℕ, ◌+◌, ◌-◌, ◌<◌, ◌≤◌, zero, suc, true, false, List, [], ◌∷◌, ◌++◌, map, filter, length, eqb, cond, refl, sym, ap, subst, ◌∙◌, arith, append_assoc, length-append, length-drop, drop}
use Rattle.std.specs.Prelude.{slice_index_or}
use Rattle.std.proofs.lemmas.Bool.{cases_lt, ne_eqb}
use Rattle.std.proofs.lemmas.List.{length-map, length-take-le}
use Rattle.std.proofs.Math.ListN.{get_or-eq_default}
use Rattle.std.proofs.Math.Seq.{get_or-append_seam}
use Rattle.ib_map.specs.History.{changes_of}
use Rattle.ib_map.specs.Replies.{FullRecord}
use Rattle.ib_map.specs.Runs.{run_of, AreAnswers, IsLegalSession}
use Rattle.ib_map.specs.declared.call.Call.{Call}
use Rattle.ib_layout.specs.Geometry.{Sizes}
use Rattle.ib_layout.specs.Places.{log_place}
use Rattle.ib_logrec.specs.declared.entry.Entry.{Entry}
use Rattle.ib_logrec.specs.Law.{AreInGrammar}
use Rattle.ib_logrec.specs.Log.{history_of, log_words, logged, memory_after, used}
use Rattle.ib_map.specs.Writes.{word_place}
use Rattle.ib_rule.specs.Closed.{IsClosed, log_in, used_in}
use Rattle.ib_rule.specs.Memory.{EndedFact, entries_of}
use Rattle.ib_rule.specs.Pass.{PassState}
use Rattle.ib_rule.specs.Room.{HadRoom}
use Rattle.ib_rule.specs.Roles.{session_number_of}
use Rattle.ib_rule.specs.Space.{SpaceState}
use Rattle.ib_rule.specs.Views.{ended_as}
use Rattle.ib_rule.specs.declared.view.Ended.{Ended}
use Rattle.ib_leaf.specs.Calls.{CallLaw}
use Rattle.ib_runs.specs.Answers.{KeptAnswers, IsWhole, answers_of, calls_in}
use Rattle.ib_runs.specs.Guests.{AreGuests}
use Rattle.ib_runs.specs.Sessions.{HasAnswered, changes_in}
use Rattle.ib_shared.specs.SharedLaw.{SharedLaw}
use Rattle.ib_runs.specs.Shared.{FitLaws, calls_under}
use Rattle.ib_runs.specs.Turns.{AllDone, AreDone}
use Rattle.ib_runs.specs.Outcomes.{HasLogUnder, IsOutcomeUnder}
use Rattle.ib_runs.proofs.AnswerLaws.{answers_longer}
use Rattle.ib_runs.proofs.TurnLaws.{ended-parts}

-- a session's changes in a log's history are those of its entries
changes-entries : (n : ℕ) (log : List Entry) → changes_of n (history_of log) ≡ changes_in (entries_of n log)
changes-entries n [] = refl
changes-entries n (e ∷ es) = elim (eqb e.session n) as (λ b. map (λ entry. entry.change) (cond b (logged e ∷ filter (λ entry. eqb entry.session n) (history_of es)) (filter (λ entry. eqb entry.session n) (history_of es)))
    ≡ changes_in (cond b (e ∷ entries_of n es) (entries_of n es))) [
      | true ↦ ap (λ cs. e.change ∷ cs) (changes-entries n es)
      | false ↦ changes-entries n es
    ]

-- no entry is of session 0
entries-none : (pages : ℕ) (log : List Entry) → AreInGrammar pages log → entries_of 0 log ≡ []
entries-none pages [] are = refl
entries-none pages (e ∷ es) are = let some = are.0.session in let ne : eqb e.session 0 ≡ false = ne_eqb e.session 0 (omega arith) in rw ne (entries-none pages es are.1)

pub done_whole : (law : CallLaw) (sizes : Sizes) (commands : ℕ → List Call) (n : ℕ) (qs : List PassState) (outs : List KeptAnswers) → AreDone law sizes commands n qs outs → AllByRecursion IsWhole outs
done_whole law sizes commands n [] [] done = tt
done_whole law sizes commands n [] (out ∷ outs) done = absurd done
done_whole law sizes commands n (q ∷ qs) [] done = absurd done
done_whole law sizes commands n (q ∷ qs) (out ∷ outs) done = (done.0.whole, done_whole law sizes commands (n + 1) qs outs done.1)

module _ (shared : SharedLaw) (sizes : Sizes) (records : FitLaws (calls_under shared sizes)) (log : List Entry) where
  abbrev law : CallLaw
  law = calls_under shared sizes

  abbrev IsLegal : ℕ → List FullRecord → Type 0
  IsLegal session rs = IsLegalSession (law.fits log session) (history_of log) session rs

  -- one session against the whole log
  legal-session : (calls : List Call) (rs : List FullRecord) (p q : PassState) (n : ℕ) → q.number ≡ n → session_number_of q.view.role ≡ n → HasAnswered law sizes calls rs p q → EndedFact log (ended_as q.view) → IsLegal n rs
  legal-session calls rs p q n number role h ended = record {
    answers = subst (λ es. AreAnswers (law.fits es n) 0 rs) ended.0.1
        (answers_longer law records q.view.memory.seen ended.0.0 n 0 rs (subst (λ k. AreAnswers (law.fits q.view.memory.seen k) 0 rs) number h.answers));
    changes = changes-entries n log ∙ (ap changes_in (subst (λ k. entries_of k log ≡ q.view.memory.own) role ended.1) ∙ h.made);
  }

  legal-done : (commands : ℕ → List Call) (n : ℕ) (qs : List PassState) (outs : List KeptAnswers) → AreDone law sizes commands n qs outs → AllByRecursion (EndedFact log) (map (λ (q : PassState). ended_as q.view) qs)
      → (i : ℕ) → i < length outs → IsLegal (n + i) (slice_index_or (map answers_of outs) i [])
  legal-done commands n [] [] done ended i lt = absurd (omega arith)
  legal-done commands n [] (out ∷ outs) done ended i lt = absurd done
  legal-done commands n (q ∷ qs) [] done ended i lt = absurd done
  legal-done commands n (q ∷ qs) (out ∷ outs) done ended zero lt =
      let d = done.0 in
      subst (λ k. IsLegal k (answers_of out)) (omega arith) (legal-session (commands n) (answers_of out) d.start q n d.number (ap session_number_of d.role ∙ d.number) d.answered ended.0)
  legal-done commands n (q ∷ qs) (out ∷ outs) done ended (suc i) lt =
      subst (λ k. IsLegal k (slice_index_or (map answers_of outs) i [])) (omega arith) (legal-done commands (n + 1) qs outs done.1 ended.1 i (omega arith))

  done-length : (commands : ℕ → List Call) (n : ℕ) (qs : List PassState) (outs : List KeptAnswers) → AreDone law sizes commands n qs outs → length qs ≡ length outs
  done-length commands n [] [] done = refl
  done-length commands n [] (out ∷ outs) done = absurd done
  done-length commands n (q ∷ qs) [] done = absurd done
  done-length commands n (q ∷ qs) (out ∷ outs) done = let rest = done-length commands (n + 1) qs outs done.1 in omega arith

  done-calls : (before rest : List (List Call)) (n : ℕ) (qs : List PassState) (outs : List KeptAnswers) → n ≡ length before + 1 → length qs ≡ length rest → AreDone law sizes (λ k. slice_index_or (before ++ rest) (k - 1) []) n qs outs
      → map calls_in (map answers_of outs) ≡ rest
  done-calls before [] n [] [] at len done = refl
  done-calls before [] n (q ∷ qs) outs at len done = absurd (omega arith)
  done-calls before (calls ∷ rest) n [] outs at len done = absurd (omega arith)
  done-calls before [] n [] (out ∷ outs) at len done = absurd done
  done-calls before (calls ∷ rest) n (q ∷ qs) [] at len done = absurd done
  done-calls before (calls ∷ rest) n (q ∷ qs) (out ∷ outs) at len done =
      let here : slice_index_or (before ++ calls ∷ rest) (n - 1) [] ≡ calls = ap (λ k. slice_index_or (before ++ calls ∷ rest) k []) (omega (arith, at)) ∙ get_or-append_seam before calls rest [] in
      let long = length-append before (calls ∷ []) in
      let others = done-calls (before ++ calls ∷ []) rest (n + 1) qs outs (omega arith) (omega arith)
      (subst (λ ls. AreDone law sizes (λ k. slice_index_or ls (k - 1) []) (n + 1) qs outs) (sym (append_assoc before (calls ∷ []) rest)) done.1) in
      ap (λ x. x ∷ map calls_in (map answers_of outs)) (done.0.answered.same_calls ∙ here) ∙ ap (λ x. calls ∷ x) others

  -- who stands beside the sessions has no entry in the log
  guests-none : (first : ℕ) (qs : List PassState) → AreGuests first qs → AllByRecursion (EndedFact log) (map (λ (q : PassState). ended_as q.view) qs) → (i : ℕ) → i < length qs → entries_of (first + i) log ≡ []
  guests-none first [] are ended i lt = absurd (omega arith)
  guests-none first (q ∷ qs) are ended zero lt =
      let number : session_number_of q.view.role ≡ first + 0 = ap session_number_of are.0.role ∙ omega arith in
      subst (λ k. entries_of k log ≡ []) number (ended.0.1 ∙ are.0.unchanged)
  guests-none first (q ∷ qs) are ended (suc i) lt =
      subst (λ k. entries_of k log ≡ []) (omega arith) (guests-none (first + 1) qs are.1 ended.1 i (omega arith))

  -- all sessions against the log that the closed space keeps
  pub outcome_of : (space : SpaceState) (words : List ℕ) (commands : List (List Call)) (outs : List KeptAnswers) → space.sizes ≡ sizes → AllDone (calls_under shared) commands outs space → (c : IsClosed shared.lawful shared.opening sizes words space.ended) → c.log ≡ log
      → used_in words ≡ used log → IsOutcomeUnder law sizes commands (map answers_of outs) log
  outcome_of space words commands outs same all c log_is used_is = record {
    same_calls = done-calls [] commands 1 all.passes outs refl all.count done;
    kept = kept;
    room = let r = c.room in omega arith;
    had_room = subst (HadRoom sizes.log_words) log_is c.had_room;
    run = go;
  }
    where
      done : AreDone law sizes (λ n. slice_index_or commands (n - 1) []) 1 all.passes outs
      done = subst (λ k. AreDone (calls_under shared k) k (λ n. slice_index_or commands (n - 1) []) 1 all.passes outs) same all.done

      kept : law.lawful log
      kept = subst law.lawful log_is c.legal

      ended : AllByRecursion (EndedFact log) (map (λ (q : PassState). ended_as q.view) all.passes) × AllByRecursion (EndedFact log) (map (λ (q : PassState). ended_as q.view) all.guests)
      ended = ended-parts log all.passes all.guests (subst (λ es. AllByRecursion (EndedFact es) (map (λ (q : PassState). ended_as q.view) (all.passes ++ all.guests))) log_is (subst (AllByRecursion (EndedFact c.log)) all.ended c.sessions))

      others : (n : ℕ) → length space.ended < n → entries_of n log ≡ []
      others n lt = ap (entries_of n) (sym log_is) ∙ c.others n lt

      sat : length all.passes ≡ length outs
      sat = done-length (λ n. slice_index_or commands (n - 1) []) 1 all.passes outs done

      many : length space.ended ≡ length outs + length all.guests
      many = ap length all.ended ∙ (length-map (all.passes ++ all.guests) (λ (q : PassState). ended_as q.view) ∙ (length-append all.passes all.guests ∙ ap (λ n. n + length all.guests) sat))

      -- a session that is none of those has no entry
      none-behind : (n : ℕ) → length outs ≤ n → entries_of (suc n) log ≡ []
      none-behind n le = elim (cases_lt n (length outs + length all.guests)) [
        | inl lt ↦ subst (λ k. entries_of k log ≡ []) (let s = sat in omega arith) (guests-none (length all.passes + 1) all.guests all.beside ended.1 (n - length outs) (omega arith))
        | inr far ↦ others (suc n) (let m = many in omega arith)
      ]

      nobody : (n : ℕ) → entries_of n log ≡ [] → IsLegal n []
      nobody n none = record { answers = tt; changes = changes-entries n log ∙ ap changes_in none }

      wide : length (map answers_of outs) ≡ length outs
      wide = length-map outs answers_of

      go : (session : ℕ) → IsLegal session (run_of (map answers_of outs) session)
      go zero = nobody 0 (entries-none sizes.pages log (subst (AreInGrammar sizes.pages) log_is c.grammar))
      go (suc n) = elim (cases_lt n (length outs)) [
        | inl lt ↦ subst (λ k. IsLegal k (slice_index_or (map answers_of outs) n [])) (omega arith) (legal-done (λ n. slice_index_or commands (n - 1) []) 1 all.passes outs done ended.0 n lt)
        | inr le ↦ subst (IsLegal (suc n)) (sym (get_or-eq_default (map answers_of outs) [] (let w = wide in omega arith))) (nobody (suc n) (none-behind n le))
      ]

  -- its log has as many words as its end says
  pub used_is : (words : List ℕ) (ended : List Ended) → IsClosed shared.lawful shared.opening sizes words ended → log_in sizes words ≡ log_words log → used_in words ≡ used log
  used_is words ended c is =
      let a = length-drop (log_place sizes 0) words in
      let b = c.sized in
      let d = c.room in
      sym (length-take-le (used_in words) (drop (log_place sizes 0) words) (omega arith)) ∙ ap length is

  -- what the closed space has
  pub log_of : (words : List ℕ) (ended : List Ended) → (c : IsClosed shared.lawful shared.opening sizes words ended) → c.log ≡ log → HasLogUnder law sizes words log
  log_of words ended c log_is = record {
    kept = subst law.lawful log_is c.legal;
    logged = c.logged ∙ ap log_words log_is;
    paged = λ page index lt in-page. c.paged page index lt in-page ∙ ap (λ es. memory_after law.start es (word_place page index)) log_is;
  }
