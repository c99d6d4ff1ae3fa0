-- Old words have one first fault, and those that are brought over have none.
use Rattle.std.specs.Prelude.{Result, Ok, Err, IfOk, IfErr, MatchResult}
use Rattle.std.proofs.Common.{◌≡◌, ◌⊎◌, ℕ, ◌+◌, true, List, [], ◌∷◌, ◌++◌, length, Option, None, Some, inl, inr, refl, sym, ap, subst, ◌∙◌, arith, append_assoc, append-nil, length-append}
use Rattle.std.proofs.Math.Seq.{take-length}
use Rattle.std.proofs.lemmas.Bool.{le-ltb}
use Rattle.ib_map.specs.Map.{answer_of, is_made}
use Rattle.ib_map.specs.History.{History, changes_of, map_after, IsLegalHistory}
use Rattle.ib_map.specs.Pairs.{Pairs}
use Rattle.ib_map.specs.Space.{has_pages}
use Rattle.ib_map.specs.declared.call.Change.{Change}
use Rattle.ib_map.specs.declared.call.Change.TheVariants.{Insert, Delete}
use Rattle.ib_map.specs.declared.call.LoggedChange.{LoggedChange}
use Rattle.ib_map.proofs.HistoryLaws.{IsLegalHistory-front, IsLegalEntry-shorter, slice_get-last}
use Rattle.ib_logrec.specs.declared.entry.Entry.{Entry}
use Rattle.ib_logrec.specs.declared.fault.FullKind.{FullKind}
use Rattle.ib_logrec.specs.declared.fault.LogFault.{LogFault}
use Rattle.ib_logrec.specs.declared.fault.LogFault.TheVariants.{OutOfMemory}
use Rattle.ib_logrec.specs.Grammar.{◌or◌}
use Rattle.ib_logrec.specs.Log.{memory_after, logged, history_of, map_of, by_place}
use Rattle.ib_logrec.proofs.LogLaws.{history_of-append, length-history_of}
use Rattle.ib_walk.specs.Full.{free_of, need_of}
use Rattle.ib_walk.specs.Pages.{PageMemory}
use Rattle.ib_walk.specs.Words.{bits_of}
use Rattle.ib_tree.specs.TreeLog.{opening}
use Rattle.ib_planned_log.specs.Kept.{IsKeptLog, MayPlan}
use Rattle.ib_planned_log.specs.KeptLog.{IsKeptLog-front}
use Rattle.ib_planned_log.specs.LeafChange.{kept_pages}
use Rattle.ib_old_log.specs.OldEntries.{OldEntry, old_words, old_entry_in, old_log_words, old_used, brought, brought_history}
use Rattle.ib_old_log.specs.OldGrammar.{AreInOldGrammar, IsInOldGrammar, old_fault_at}
use Rattle.ib_old_log.proofs.OldEntryLaws.{length-old_words, old_entry_in-words, old_fault_at-words, same_old_rest}
use Rattle.ib_planned_change.specs.Full.{full_kind}
use Rattle.ib_upgrade.specs.Upgrades.{IsPlannedAnew, IsFirstOldFault, IsUpgradeFault, IsUpgraded, change_fault_behind, logged_fault, plan_fault}
use Rattle.ib_upgrade.proofs.FaultLaws.{fault-none}
use Rattle.ib_upgrade.proofs.SamePlans.{full-same}

-- old entries go on behind a front of them, whose rest of words begins with those of the next entry
record GoesOn (pages : ℕ) (front : List OldEntry) (rest : List ℕ) (olds : List OldEntry) : Type 0 where
  entry : OldEntry
  more : List OldEntry
  tail : List ℕ
  parts : olds ≡ front ++ entry ∷ more
  spelled : rest ≡ old_words entry ++ tail
  is : IsInOldGrammar pages entry

GoesOn-behind : (pages : ℕ) (f g : OldEntry) (front olds : List OldEntry) (rest : List ℕ) → g ≡ f → GoesOn pages front rest olds → GoesOn pages (f ∷ front) rest (g ∷ olds)
GoesOn-behind pages f g front olds rest same on = record {
  entry = on.entry;
  more = on.more;
  tail = on.tail;
  parts = λ i. same i ∷ on.parts i;
  spelled = on.spelled;
  is = on.is;
}

-- two lists of old entries at the front of the same words are the same, or one goes on where the other ends
fronts : (pages : ℕ) (xs ys : List OldEntry) (r s : List ℕ) → AreInOldGrammar pages xs → AreInOldGrammar pages ys → old_log_words xs ++ r ≡ old_log_words ys ++ s
    → ((xs ≡ ys) × (r ≡ s)) ⊎ (GoesOn pages xs r ys ⊎ GoesOn pages ys s xs)
fronts pages [] [] r s x_is y_is same = inl (refl, same)
fronts pages [] (y ∷ ys) r s x_is y_is same =
    inr (inl (record { entry = y; more = ys; tail = old_log_words ys ++ s; parts = refl; spelled = same ∙ append_assoc (old_words y) (old_log_words ys) s; is = y_is.0 }))
fronts pages (x ∷ xs) [] r s x_is y_is same =
    inr (inr (record { entry = x; more = xs; tail = old_log_words xs ++ r; parts = refl; spelled = sym same ∙ append_assoc (old_words x) (old_log_words xs) r; is = x_is.0 }))
fronts pages (x ∷ xs) (y ∷ ys) r s x_is y_is same =
    let apart = sym (append_assoc (old_words x) (old_log_words xs) r) ∙ same ∙ append_assoc (old_words y) (old_log_words ys) s in
    let first = same_old_rest pages x y (old_log_words xs ++ r) (old_log_words ys ++ s) x_is.0 y_is.0 apart in
    elim (fronts pages xs ys r s x_is.1 y_is.1 first.1) [
      | inl both ↦ inl (λ i. first.0 i ∷ both.0 i, both.1)
      | inr (inl on) ↦ inr (inl (GoesOn-behind pages x y xs ys r (sym first.0) on))
      | inr (inr on) ↦ inr (inr (GoesOn-behind pages y x ys xs s first.0 on))
    ]

-- a log whose history goes on is one that goes on
record Splits (log : List Entry) (front : History) (l : LoggedChange) (more : History) : Type 0 where
  before : List Entry
  entry : Entry
  behind : List Entry
  parts : log ≡ before ++ entry ∷ behind
  front_is : history_of before ≡ front
  change : logged entry ≡ l

split : (log : List Entry) (front : History) (l : LoggedChange) (more : History) → history_of log ≡ front ++ l ∷ more → Splits log front l more
split [] [] l more is = absurd (cc)
split [] (f ∷ front) l more is = absurd (cc)
split (e ∷ log) [] l more is = record { before = []; entry = e; behind = log; parts = refl; front_is = refl; change = cc }
split (e ∷ log) (f ∷ front) l more is =
    let first : logged e ≡ f = cc in
    let rest : history_of log ≡ front ++ l ∷ more = cc in
    let s = split log front l more rest in
    record { before = e ∷ s.before; entry = s.entry; behind = s.behind; parts = ap (λ es. e ∷ es) s.parts; front_is = λ i. first i ∷ s.front_is i; change = s.change }

brought-append : (xs ys : List OldEntry) → brought_history (xs ++ ys) ≡ brought_history xs ++ brought_history ys
brought-append [] ys = refl
brought-append (x ∷ xs) ys = ap (λ hs. brought x ∷ hs) (brought-append xs ys)

-- what may be planned finds nothing full
may-none : (memory : PageMemory) (bits : ℕ → ℕ) (pages : ℕ) (change : Change) → MayPlan 1 1 memory bits pages change → full_kind memory bits pages change ≡ None
may-none memory bits pages (Insert key value) may = let no = le-ltb (free_of bits pages) (need_of memory key 1) may.1 in rw (may.0) (rw no refl)
may-none memory bits pages (Delete key) may = refl

module _ (pages : ℕ) (fits : has_pages pages ≡ true) where
  -- behind two logs that make the same changes the same is wrong with an entry
  behind-same : (xs ys : List Entry) → IsKeptLog pages xs → IsKeptLog pages ys → history_of xs ≡ history_of ys → (place : ℕ) (l : LoggedChange) → change_fault_behind pages xs place l ≡ change_fault_behind pages ys place l
  behind-same xs ys one two history place l =
      let count : length xs ≡ length ys = sym (length-history_of xs) ∙ (ap length history ∙ length-history_of ys) in
      let maps : map_of xs ≡ map_of ys = (λ i. map_after (history i) (count i)) in
      let full = full-same pages fits xs ys one two history l.change in
      λ i. fault-by place (length (changes_of l.session (history i))) (maps i) l (full i)
    where
      fault-by : ℕ → ℕ → Pairs → LoggedChange → Option FullKind → Option LogFault
      fault-by place count map l full = logged_fault place count map l or plan_fault place full

  -- an entry of a kept log has no fault there
  entry-none : (before behind : List Entry) (e : Entry) (place : ℕ) → IsKeptLog pages (before ++ e ∷ behind) → change_fault_behind pages before place (logged e) ≡ None
  entry-none before behind e place kept =
      let lawful = kept.lawful in
      let whole : history_of (before ++ e ∷ behind) ≡ (history_of before ++ logged e ∷ []) ++ history_of behind =
      history_of-append before (e ∷ behind) ∙ sym (append_assoc (history_of before) (logged e ∷ []) (history_of behind)) in
      let shorter = IsLegalHistory-front (history_of before ++ logged e ∷ []) (history_of behind) (subst IsLegalHistory whole lawful.legal) in
      let legal = IsLegalEntry-shorter (history_of before) (logged e ∷ []) (length (history_of before)) (logged e) (omega arith)
      (shorter (length (history_of before)) (logged e) (slice_get-last (history_of before) (logged e))) in
      let numbered : e.number ≡ length (changes_of e.session (history_of before)) + 1 =
      legal.numbered ∙ ap (λ (h : History). length (changes_of e.session h) + 1) (take-length (history_of before)) in
      let made : is_made (answer_of (map_of before) e.change) ≡ true =
      ap (λ n. is_made (answer_of (map_after (history_of before) n) e.change)) (sym (length-history_of before)) ∙ legal.made in
      let may = (kept.planned_are before e behind refl).may in
      fault-none pages before place (length (changes_of e.session (history_of before))) (logged e) numbered made
      (may-none (kept_pages pages before) (bits_of pages (memory_after (by_place opening pages) before)) pages e.change may)

  -- behind a front of entries that were planned anew stand the words of the next one, and nothing is wrong with them
  no-fault-behind : (front more olds : List OldEntry) (e : OldEntry) (rest tail : List ℕ) (log whole : List Entry) (fault : LogFault) → IsPlannedAnew pages front log → IsPlannedAnew pages olds whole
      → olds ≡ front ++ e ∷ more → rest ≡ old_words e ++ tail → IsInOldGrammar pages e
      → (old_fault_at pages (old_used front) rest or change_fault_behind pages log (old_used front) (brought (old_entry_in rest))) ≡ Some fault → ⊥
  no-fault-behind front more olds e rest tail log whole fault one two parts spelled is found =
      let read : old_entry_in rest ≡ e = ap old_entry_in spelled ∙ old_entry_in-words pages e tail is in
      let words : old_fault_at pages (old_used front) rest ≡ None = ap (old_fault_at pages (old_used front)) spelled ∙ old_fault_at-words pages (old_used front) e tail is in
      let history : history_of whole ≡ brought_history front ++ brought e ∷ brought_history more = two.history ∙ (ap brought_history parts ∙ brought-append front (e ∷ more)) in
      let s = split whole (brought_history front) (brought e) (brought_history more) history in
      let kept = subst (IsKeptLog pages) s.parts two.kept in
      let none : change_fault_behind pages log (old_used front) (brought e) ≡ None =
      behind-same log s.before one.kept (IsKeptLog-front pages s.before (s.entry ∷ s.behind) kept) (one.history ∙ sym s.front_is) (old_used front) (brought e)
      ∙ (ap (change_fault_behind pages s.before (old_used front)) (sym s.change) ∙ entry-none s.before s.behind s.entry (old_used front) kept) in
      let all : (old_fault_at pages (old_used front) rest or change_fault_behind pages log (old_used front) (brought (old_entry_in rest))) ≡ None = rw (words, read) none in
      let bad : None ≡ Some fault = sym all ∙ found in cc

  pub first-fault-one : (words : List ℕ) (a b : LogFault) → IsFirstOldFault pages words a → IsFirstOldFault pages words b → a ≡ b
  first-fault-one words a b is_a is_b =
      elim (fronts pages is_a.front is_b.front is_a.rest is_b.rest is_a.grammar is_b.grammar (sym is_a.parts ∙ is_b.parts)) [
        | inl both ↦
            let history : history_of is_a.log ≡ history_of is_b.log = is_a.planned.history ∙ (ap brought_history both.0 ∙ sym is_b.planned.history) in
            let here : (old_fault_at pages (old_used is_b.front) is_b.rest or change_fault_behind pages is_a.log (old_used is_b.front) (brought (old_entry_in is_b.rest))) ≡ Some a =
            subst (λ (front : List OldEntry). (old_fault_at pages (old_used front) is_b.rest or change_fault_behind pages is_a.log (old_used front) (brought (old_entry_in is_b.rest))) ≡ Some a) both.0
            (subst (λ (rest : List ℕ). (old_fault_at pages (old_used is_a.front) rest or change_fault_behind pages is_a.log (old_used is_a.front) (brought (old_entry_in rest))) ≡ Some a) both.1 is_a.found) in
            let same = behind-same is_a.log is_b.log is_a.planned.kept is_b.planned.kept history (old_used is_b.front) (brought (old_entry_in is_b.rest)) in
            let there : Some a ≡ Some b = sym here ∙ (ap (λ (o : Option LogFault). old_fault_at pages (old_used is_b.front) is_b.rest or o) same ∙ is_b.found) in
            cc
        | inr (inl on) ↦ absurd (no-fault-behind is_a.front on.more is_b.front on.entry is_a.rest on.tail is_a.log is_b.log a is_a.planned is_b.planned on.parts on.spelled on.is is_a.found)
        | inr (inr on) ↦ absurd (no-fault-behind is_b.front on.more is_a.front on.entry is_b.rest on.tail is_b.log is_a.log b is_b.planned is_a.planned on.parts on.spelled on.is is_b.found)
      ]

  -- words that are brought over have no fault
  pub not-first-fault : (words new : List ℕ) (fault : LogFault) → IsUpgraded pages words new → IsFirstOldFault pages words fault → ⊥
  not-first-fault words new fault up first =
      elim (fronts pages first.front up.olds first.rest [] first.grammar up.grammar (sym first.parts ∙ (up.spelled ∙ sym (append-nil (old_log_words up.olds))))) [
        | inl both ↦ absurd (let z = ap length both.1 in let m = first.more in omega arith)
        | inr (inl on) ↦ no-fault-behind first.front on.more up.olds on.entry first.rest on.tail first.log up.log fault first.planned up.planned on.parts on.spelled on.is first.found
        | inr (inr on) ↦ absurd (let z = ap length on.spelled in let l = length-append (old_words on.entry) on.tail in let o = length-old_words on.entry in omega arith)
      ]

  -- what is brought over is told as no fault, and a fault as no other
  pub only-upgraded : {X : Type 0} (words new : List ℕ) (r : Result X LogFault) → IfErr r (IsUpgradeFault pages words) → IsUpgraded pages words new → IfErr r (λ fault. fault ≡ OutOfMemory)
  only-upgraded words new (Ok x) fault up = tt
  only-upgraded words new (Err OutOfMemory) fault up = refl
  only-upgraded words new (Err e) fault up = absurd (not-first-fault words new e up fault)

  pub only-fault : {X : Type 0} (items : X → List ℕ) (words : List ℕ) (r : Result X LogFault) → IfOk r (λ x. IsUpgraded pages words (items x)) → IfErr r (IsUpgradeFault pages words) → (other : LogFault)
      → IsFirstOldFault pages words other → MatchResult r (λ _. ⊥) (λ fault. (fault ≡ OutOfMemory) ⊎ (fault ≡ other))
  only-fault items words (Ok x) up fault other is = not-first-fault words (items x) other up is
  only-fault items words (Err OutOfMemory) up fault other is = inl refl
  only-fault items words (Err e) up fault other is = inr (first-fault-one words e other fault is)
