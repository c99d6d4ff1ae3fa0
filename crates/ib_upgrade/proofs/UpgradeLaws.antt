-- How far an old log was brought over, one entry more, and the first fault behind it.
use Rattle.std.specs.Prelude.{map, replicate}
use Rattle.std.specs.List.{range_with_len}
use Rattle.std.proofs.Common.{◌≡◌, ℕ, zero, suc, ◌+◌, ◌^◌, ◌<◌, ◌≤◌, true, List, [], ◌∷◌, ◌++◌, length, get_or, drop, None, Some, refl, sym, ap, subst, ◌∙◌, arith, inl, inr, append_assoc, append-nil, length-append, length-drop, get_or-set_same, get_or-set_other}
use Rattle.std.proofs.Math.ListN.{set}
use Rattle.std.proofs.lemmas.Bool.{cases_eq}
use Rattle.std.proofs.lemmas.Grind.{flat_map-append}
use Rattle.std.proofs.lemmas.List.{drop_all, length_push, length-set, length-replicate, map-append}
use Rattle.std.proofs.lemmas.List.FromFn.{get_or-map-range_with_len, length-map-range_with_len}
use Rattle.ib_map.specs.History.{changes_of}
use Rattle.ib_map.specs.Space.{has_pages}
use Rattle.ib_map.proofs.HistoryLaws.{changes_of-own, changes_of-other}
use Rattle.ib_page.specs.Memory.{image_at}
use Rattle.ib_page.specs.Opening.{opening_words}
use Rattle.ib_page.specs.Work.{WorkPage}
use Rattle.ib_page.specs.Writes.{writes_of}
use Rattle.ib_logrec.specs.declared.entry.TheConstants.{MOST_WRITES}
use Rattle.ib_logrec.specs.declared.entry.Entry.{Entry}
use Rattle.ib_logrec.specs.declared.fault.LogFault.{LogFault}
use Rattle.ib_logrec.specs.declared.fault.LogFault.TheVariants.{OutOfMemory}
use Rattle.ib_logrec.specs.Log.{log_words, history_of}
use Rattle.ib_logrec.specs.Words.{words_of_entry}
use Rattle.ib_logrec.proofs.LogLaws.{log_words-push, history_of-push}
use Rattle.ib_walk.specs.Words.{image_of}
use Rattle.ib_walk.proofs.SpaceLaws.{image_of-opening}
use Rattle.ib_tree.specs.TreeLog.{opening}
use Rattle.ib_tree.proofs.OpeningLaws.{by_place-opening}
use Rattle.ib_planned_log.specs.Kept.{IsKeptLog}
use Rattle.ib_planned_log.specs.KeptLog.{IsKeptLog-none}
use Rattle.ib_old_log.specs.declared.head.OldHead.{OldHead}
use Rattle.ib_old_log.specs.OldHeads.{brought_change, brought_head}
use Rattle.ib_old_log.specs.OldEntries.{OldEntry, old_words, old_entry_in, old_log_words, old_used, brought, brought_history}
use Rattle.ib_old_log.specs.OldGrammar.{IsInOldGrammar, AreInOldGrammar, OldHeadStandsAt, old_fault_at}
use Rattle.ib_old_log.proofs.OldEntryLaws.{length-old_words, old_entry_in-words, old_fault_at-words}
use Rattle.ib_planned_change.specs.Changes.{IsMade, IsMadeForAll, IsNextEntry}
use Rattle.ib_planned_change.specs.Copies.{AreImagesAfter, IsBehind}
use Rattle.ib_upgrade.specs.declared.upgrade.TheConstants.{COUNTS}
use Rattle.ib_upgrade.specs.Upgrades.{IsFirstOldFault, IsUpgradeFault, IsUpgraded, change_fault_behind, entry_fault, entry_of}

-- the words up to a place are those of old entries, of which the log makes the changes; the images, the counts and the new words are what it makes
pub record IsReached (pages : ℕ) (words : List ℕ) (place : ℕ) (images : List (List ℕ)) (numbers new : List ℕ) : Type 0 where
  pub olds : List OldEntry
  pub log : List Entry
  pub within : place ≤ length words
  pub size : old_used olds ≡ place
  pub parts : words ≡ old_log_words olds ++ drop place words
  pub grammar : AreInOldGrammar pages olds
  pub kept : IsKeptLog pages log
  pub history : history_of log ≡ brought_history olds
  pub few : length log ≤ place
  pub count : length images ≡ pages
  pub images_are : AreImagesAfter pages log images
  pub new_is : new ≡ log_words log
  pub sessions : length numbers ≡ COUNTS
  pub counts : (session : ℕ) → session < COUNTS → get_or numbers session 0 ≡ length (changes_of session (history_of log))

-- the images are behind the log
pub behind-reached : (pages : ℕ) (words : List ℕ) (place : ℕ) (images : List (List ℕ)) (numbers new : List ℕ) (r : IsReached pages words place images numbers new) → has_pages pages ≡ true → length words < 2 ^ 32 → IsBehind r.log images
behind-reached pages words place images numbers new r fits short =
    let same = sym r.count in
    record {
      space = subst (λ n. has_pages n ≡ true) same fits;
      kept = subst (λ n. IsKeptLog n r.log) same r.kept;
      few = let f = r.few in let w = r.within in omega arith;
      images_are = subst (λ n. AreImagesAfter n r.log images) same r.images_are;
    }

-- lists one longer
old_log_words-push : (olds : List OldEntry) (e : OldEntry) → old_log_words (olds ++ e ∷ []) ≡ old_log_words olds ++ old_words e
old_log_words-push olds e = flat_map-append old_words olds (e ∷ []) ∙ ap (λ (ws : List ℕ). old_log_words olds ++ ws) (append-nil (old_words e))

grammar-push : (pages : ℕ) (olds : List OldEntry) (e : OldEntry) → AreInOldGrammar pages olds → IsInOldGrammar pages e → AreInOldGrammar pages (olds ++ e ∷ [])
grammar-push pages [] e all one = (one, tt)
grammar-push pages (o ∷ os) e all one = (all.0, grammar-push pages os e all.1 one)

module _ (pages : ℕ) (words : List ℕ) (place : ℕ) (images : List (List ℕ)) (numbers new : List ℕ) (r : IsReached pages words place images numbers new) where
  -- a fault of the words there is the first one
  pub fault-words : (fault : LogFault) → place < length words → old_fault_at pages place (drop place words) ≡ Some fault → IsFirstOldFault pages words fault
  fault-words fault lt found =
      let there : old_fault_at pages (old_used r.olds) (drop place words) ≡ Some fault = ap (λ n. old_fault_at pages n (drop place words)) r.size ∙ found in
      record {
        front = r.olds;
        rest = drop place words;
        log = r.log;
        grammar = r.grammar;
        parts = r.parts;
        planned = record { kept = r.kept; history = r.history };
        more = omega (arith, length-drop place words);
        found = rw there refl;
      }

  -- at the end of the words all of them are brought over
  pub upgraded-all : length words ≤ place → IsUpgraded pages words new
  upgraded-all end = record {
    olds = r.olds;
    log = r.log;
    grammar = r.grammar;
    spelled = r.parts ∙ (ap (λ (ws : List ℕ). old_log_words r.olds ++ ws) (drop_all place words end) ∙ append-nil (old_log_words r.olds));
    planned = record { kept = r.kept; history = r.history };
    words = r.new_is;
  }

  module _ (fits : has_pages pages ≡ true) (short : length words < 2 ^ 32) (next : ℕ) (h : OldHead) (there : OldHeadStandsAt pages place next words h) where
    abbrev e : OldEntry
    e = there.entry

    pub session-in : h.session < length numbers
    session-in = let s = ap (λ (k : OldHead). k.session) there.head in let g = there.stands.grammar.most_session in let n = r.sessions in omega arith

    pub number-some : 1 ≤ h.number
    number-some = let n = ap (λ (k : OldHead). k.number) there.head in let g = there.stands.grammar.number in omega arith

    brought-is : brought_head h ≡ brought there.entry
    brought-is = ap brought_head there.head

    count-is : get_or numbers h.session 0 ≡ length (changes_of h.session (history_of r.log))
    count-is = let i = session-in in let n = r.sessions in r.counts h.session (omega arith)

    -- so is one of the change there
    pub fault-change : (fault : LogFault) → place < length words → entry_fault (length images) r.log place (get_or numbers h.session 0) (brought_head h) ≡ Some fault → IsFirstOldFault pages words fault
    fault-change fault lt found =
        let read : old_entry_in (drop place words) ≡ there.entry = ap old_entry_in there.stands.spelled ∙ old_entry_in-words pages there.entry (drop next words) there.stands.grammar in
        let none : old_fault_at pages (old_used r.olds) (drop place words) ≡ None =
        ap (old_fault_at pages (old_used r.olds)) there.stands.spelled ∙ old_fault_at-words pages (old_used r.olds) there.entry (drop next words) there.stands.grammar in
        let here : change_fault_behind pages r.log (old_used r.olds) (brought_head h) ≡ Some fault =
        ap (λ n. change_fault_behind pages r.log n (brought_head h)) r.size
        ∙ (ap (λ n. entry_fault pages r.log place n (brought_head h)) (sym count-is) ∙ (ap (λ n. entry_fault n r.log place (get_or numbers h.session 0) (brought_head h)) (sym r.count) ∙ found)) in
        let there' : change_fault_behind pages r.log (old_used r.olds) (brought (old_entry_in (drop place words))) ≡ Some fault =
        ap (λ (o : OldEntry). change_fault_behind pages r.log (old_used r.olds) (brought o)) read ∙ (ap (change_fault_behind pages r.log (old_used r.olds)) (sym brought-is) ∙ here) in
        record {
          front = r.olds;
          rest = drop place words;
          log = r.log;
          grammar = r.grammar;
          parts = r.parts;
          planned = record { kept = r.kept; history = r.history };
          more = omega (arith, length-drop place words);
          found = rw none there';
        }

    module _ (numbered : h.number ≡ get_or numbers h.session 0 + 1) (work : List WorkPage) (after : List (List ℕ)) (made : IsMadeForAll (brought_change h.change) work images after) where
      abbrev E : Entry
      E = entry_of (brought_head h) work

      is-made : IsMade r.log (brought_change h.change) work images after
      is-made = made r.log (behind-reached pages words place images numbers new r fits short)

      is-next : IsNextEntry r.log (brought_change h.change) work (entry_of (brought_head h) work)
      is-next = record {
        session = let s = ap (λ (k : OldHead). k.session) there.head in let g = there.stands.grammar.session in omega arith;
        most_session = let s = ap (λ (k : OldHead). k.session) there.head in let g = there.stands.grammar.most_session in omega arith;
        number = let c = count-is in omega arith;
        most_number = let n = ap (λ (k : OldHead). k.number) there.head in let g = there.stands.grammar.most_number in omega arith;
        change_is = refl;
        writes_are = refl;
        structural = refl;
      }

      history-more : history_of (r.log ++ entry_of (brought_head h) work ∷ []) ≡ brought_history (r.olds ++ there.entry ∷ [])
      history-more =
          history_of-push r.log E
          ∙ (ap (λ hs. hs ++ brought_head h ∷ []) r.history
          ∙ (ap (λ l. brought_history r.olds ++ l ∷ []) brought-is ∙ sym (map-append brought r.olds (there.entry ∷ []))))

      counts-more : (session : ℕ) → session < COUNTS → get_or (set numbers h.session h.number) session 0 ≡ length (changes_of session (history_of (r.log ++ entry_of (brought_head h) work ∷ [])))
      counts-more session lt = elim (cases_eq session h.session) [
        | inl same ↦
            let own = changes_of-own session (history_of r.log) (brought_head h) (sym same) in
            let count = r.counts session lt in
            rw (history_of-push r.log E, own, length_push (changes_of session (history_of r.log)) (brought_change h.change), ← count, same)
            (get_or-set_same numbers h.session h.number 0 session-in ∙ numbered)
        | inr other ↦
            let others = changes_of-other session (history_of r.log) (brought_head h) (λ is. other (sym is)) in
            rw (history_of-push r.log E, others) (get_or-set_other numbers h.session session h.number 0 other ∙ r.counts session lt)
      ]

      pub few-writes : length (writes_of work) ≤ MOST_WRITES
      few-writes = is-made.few

      pub reached-more : (log' : List ℕ) → log' ≡ new ++ words_of_entry (entry_of (brought_head h) work) → IsReached pages words next after (set numbers h.session h.number) log'
      reached-more log' is = record {
        olds = r.olds ++ there.entry ∷ [];
        log = r.log ++ E ∷ [];
        within = there.stands.within;
        size = let p = ap length (old_log_words-push r.olds there.entry) in let q = length-append (old_log_words r.olds) (old_words there.entry) in let s = r.size in let n = there.stands.ends in omega arith;
        parts = r.parts ∙ (ap (λ (ws : List ℕ). old_log_words r.olds ++ ws) there.stands.spelled
            ∙ (sym (append_assoc (old_log_words r.olds) (old_words there.entry) (drop next words)) ∙ ap (λ (ws : List ℕ). ws ++ drop next words) (sym (old_log_words-push r.olds there.entry))));
        grammar = grammar-push pages r.olds there.entry r.grammar there.stands.grammar;
        kept = subst (λ n. IsKeptLog n (r.log ++ E ∷ [])) r.count (is-made.kept E is-next);
        history = history-more;
        few = let l = length-append r.log (E ∷ []) in let f = r.few in let n = there.stands.ends in let o = length-old_words there.entry in omega arith;
        count = is-made.size ∙ r.count;
        images_are = subst (λ n. AreImagesAfter n (r.log ++ E ∷ []) after) r.count (is-made.images_are E is-next);
        new_is = is ∙ (ap (λ (ws : List ℕ). ws ++ words_of_entry E) r.new_is ∙ sym (log_words-push r.log E));
        sessions = length-set numbers h.session h.number ∙ r.sessions;
        counts = counts-more;
      }

-- nothing is read yet
abbrev zeros : ℕ → List ℕ
zeros n = replicate n 0

get_or-zeros : (n i : ℕ) → get_or (zeros n) i 0 ≡ 0
get_or-zeros zero i = refl
get_or-zeros (suc n) zero = refl
get_or-zeros (suc n) (suc i) = get_or-zeros n i

pub reached-none : (pages : ℕ) (words : List ℕ) (images : List (List ℕ)) (new : List ℕ) (n : ℕ) → length images ≡ pages → AreImagesAfter pages [] images → new ≡ [] → n ≡ COUNTS
    → IsReached pages words 0 images (replicate n 0) new
reached-none pages words images new n count opening none many = record {
  olds = [];
  log = [];
  within = omega arith;
  size = refl;
  parts = refl;
  grammar = tt;
  kept = IsKeptLog-none pages;
  history = refl;
  few = omega arith;
  count = count;
  images_are = opening;
  new_is = none;
  sessions = length-replicate n 0 ∙ many;
  counts = λ session lt. get_or-zeros n session;
}

-- the images of a new space
pub images-opening : (pages : ℕ) (images : List (List ℕ)) → images ≡ map (opening_words 1) (range_with_len 0 pages) → AreImagesAfter pages [] images
images-opening pages images is page lt =
    let at : image_at images page ≡ opening_words 1 page = ap (λ (ms : List (List ℕ)). image_at ms page) is ∙ get_or-map-range_with_len (opening_words 1) 0 pages page page [] lt (omega arith) in
    at ∙ (sym (image_of-opening 1 page) ∙ ap (λ (start : ℕ → ℕ). image_of start page) (sym (by_place-opening pages)))

pub images-count : (pages : ℕ) (images : List (List ℕ)) → images ≡ map (opening_words 1) (range_with_len 0 pages) → length images ≡ pages
images-count pages images is = ap (λ (ms : List (List ℕ)). length ms) is ∙ length-map-range_with_len (opening_words 1) 0 pages

-- a fault that was found is no want of memory
pub found-fault : (pages : ℕ) (words : List ℕ) (fault : LogFault) → IsFirstOldFault pages words fault → IsUpgradeFault pages words fault
found-fault pages words OutOfMemory first = tt
found-fault pages words fault first = first
