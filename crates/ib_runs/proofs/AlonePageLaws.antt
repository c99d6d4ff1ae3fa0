-- Kept logs that say the same have the same pages after them.
use Rattle.std.proofs.Common.{◌≡◌, ◌∙◌, ℕ, zero, suc, ◌+◌, ◌<◌, Bool, true, false, cond, ltb, List, [], ◌∷◌, ◌++◌, Some, length, take, slice_get, refl, sym, ap, subst, arith, inl, inr}
use Rattle.std.specs.Prelude.{◌==◌}
use Rattle.std.specs.Int.{bit_at}
use Rattle.std.proofs.Math.Path.{fun_ext}
use Rattle.std.proofs.lemmas.Bool.{cases_eq}
use Rattle.std.proofs.lemmas.List.{take-map}
use Rattle.std.proofs.lemmas.Option.{slice_get_within}
use Rattle.ib_map.specs.History.{History, changes_of, map_after, map_with}
use Rattle.ib_map.specs.Replies.{IsEntryOf}
use Rattle.ib_map.specs.declared.call.Change.{Change}
use Rattle.ib_map.specs.declared.call.LoggedChange.{LoggedChange}
use Rattle.ib_heap.specs.declared.TheConstants.{MOST_RECORDS}
use Rattle.ib_page.specs.Form.{page_of}
use Rattle.ib_page.specs.Page.PageValue.{Malformed}
use Rattle.ib_page.specs.Space.{is_taken}
use Rattle.ib_page.specs.Words.{free_page_words}
use Rattle.ib_heap.proofs.FormLaws.{Kinds, kinds_of}
use Rattle.ib_heap.proofs.FormLaws.Kinds.{tree, free, neither}
use Rattle.ib_logrec.specs.declared.entry.Entry.{Entry}
use Rattle.ib_logrec.specs.Log.{by_place, history_of, logged, memory_after}
use Rattle.ib_logrec.proofs.LogLaws.{history_of-push, length-history_of}
use Rattle.ib_walk.specs.Pages.{PageMemory}
use Rattle.ib_walk.specs.Words.{IsLawfulMemory, bits_of, image_of, pages_of, state_of}
use Rattle.ib_walk.proofs.ChoiceLaws.{Some-same, cond-both}
use Rattle.ib_walk.proofs.ImageLaws.{pages_of-image}
use Rattle.ib_plans.specs.Marks.{ticked}
use Rattle.ib_plans.proofs.MetLaws.{root-times_met}
use Rattle.ib_tree.specs.Logs.{pages_after}
use Rattle.ib_tree.specs.TreeLog.{opening}
use Rattle.ib_planned_log.specs.Kept.{IsKeptLog, IsPlannedEntry, Planned, plan_of}
use Rattle.ib_walk.proofs.CountLaws.{bits-met}

-- two logs have the same history, and lead to the same pages and bits
pub record SaySame (pages : ℕ) (xs ys : List Entry) : Type 0 where
  pub history : history_of xs ≡ history_of ys
  pub pages_are : pages_after (by_place opening pages) xs ≡ pages_after (by_place opening pages) ys
  pub bits_are : bits_of pages (memory_after (by_place opening pages) xs) ≡ bits_of pages (memory_after (by_place opening pages) ys)

-- words that say that page 1 is taken are no page of the tree, and no free page
tree-untaken : (ws : List ℕ) → Kinds ws → is_taken ws 1 ≡ true → page_of ws ≡ Malformed
unfolding free_page_words
tree-untaken ws (tree h) taken = let clear : is_taken ws 1 ≡ false = ap (λ (word : ℕ). bit_at word 1 == 1) h.is.shape.kind in absurd (cc)
tree-untaken ws (free h) taken = let clear : is_taken ws 1 ≡ false = ap (λ (xs : List ℕ). is_taken xs 1) h.words in absurd (cc)
tree-untaken ws (neither is) taken = is

-- the bit of the root is set
root-taken : (pages : ℕ) (words : ℕ → ℕ) → IsLawfulMemory pages 1 words → (b : Bool) → is_taken (image_of words 0) 1 ≡ b → is_taken (image_of words 0) 1 ≡ true
unfolding bits_of
root-taken pages words lawful true is = is
root-taken pages words lawful false is =
    let law = lawful.law in
    let clear : bits_of pages words 1 ≡ 0 = ap (λ (b : Bool). cond {A = ℕ} (ltb 1 pages) (cond {A = ℕ} b 1 0) 0) is ∙ cond-both (ltb 1 pages) 0 in
    let met = bits-met law 1 in
    let some = root-times_met (λ n. MOST_RECORDS) (pages_of words) (bits_of pages words) 1 law 1 (omega arith) (omega arith) in
    absurd (omega arith)

-- so page 0 is no page of the tree
page-zero : (pages : ℕ) (words : ℕ → ℕ) → IsLawfulMemory pages 1 words → pages_of words 0 ≡ state_of Malformed
page-zero pages words lawful =
    pages_of-image words 0 ∙ ap state_of (tree-untaken (image_of words 0) (kinds_of (image_of words 0)) (root-taken pages words lawful (is_taken (image_of words 0) 1) refl))

-- one entry more that says the same, in two kept logs
module _ (pages : ℕ) (xs ys : List Entry) (e f : Entry) (same : SaySame pages xs ys) (is : logged e ≡ logged f) where
  abbrev start : ℕ → ℕ
  start = by_place opening pages

  abbrev before : List Entry → PageMemory
  before log = pages_after start log

  abbrev bits : List Entry → ℕ → ℕ
  bits log = bits_of pages (memory_after start log)

  abbrev plan : List Entry → Entry → Planned
  plan log entry = plan_of 1 (before log) (bits log) pages entry.change

  plan-same : plan xs e ≡ plan ys f
  plan-same =
      ap (λ (m : PageMemory). plan_of 1 m (bits xs) pages e.change) same.pages_are ∙ (ap (λ (b : ℕ → ℕ). plan_of 1 (before ys) b pages e.change) same.bits_are
      ∙ ap (λ (l : LoggedChange). plan_of 1 (before ys) (bits ys) pages l.change) is)

  module _ (p : IsPlannedEntry pages start xs e) (q : IsPlannedEntry pages start ys f) (lawful : IsLawfulMemory pages 1 (memory_after start (xs ++ e ∷ [])))
      (also : IsLawfulMemory pages 1 (memory_after start (ys ++ f ∷ []))) where
    page-same : (n : ℕ) → before (xs ++ e ∷ []) n ≡ before (ys ++ f ∷ []) n
    page-same n = elim (cases_eq n 0) [
      | inl none ↦ subst (λ (k : ℕ). before (xs ++ e ∷ []) k ≡ before (ys ++ f ∷ []) k) (sym none)
          (page-zero pages (memory_after start (xs ++ e ∷ [])) lawful ∙ sym (page-zero pages (memory_after start (ys ++ f ∷ [])) also))
      | inr some ↦ p.step.pages_are n some ∙ (ap (λ (m : PageMemory). ticked m (plan xs e).touched (plan xs e).memory n) same.pages_are
          ∙ (ap (λ (g : Planned). ticked (before ys) g.touched g.memory n) plan-same ∙ sym (q.step.pages_are n some)))
    ]

    bit-same : (n : ℕ) → bits (xs ++ e ∷ []) n ≡ bits (ys ++ f ∷ []) n
    bit-same n = p.step.bits_are n ∙ (ap (λ (g : Planned). g.bits n) plan-same ∙ sym (q.step.bits_are n))

    pub SaySame-push : SaySame pages (xs ++ e ∷ []) (ys ++ f ∷ [])
    SaySame-push = record {
      history = history_of-push xs e ∙ (ap (λ (h : History). h ++ logged e ∷ []) same.history ∙ (ap (λ (l : LoggedChange). history_of ys ++ l ∷ []) is ∙ sym (history_of-push ys f)));
      pages_are = fun_ext page-same;
      bits_are = fun_ext bit-same;
    }

-- an entry at a place of a log
pub record HasEntry (log : List Entry) (n : ℕ) : Type 0 where
  pub entry : Entry
  pub back : List Entry
  pub is : log ≡ take n log ++ entry ∷ back
  pub next : take (suc n) log ≡ take n log ++ entry ∷ []
  pub stands : slice_get (history_of log) n ≡ Some (logged entry)

entry-at : (log : List Entry) (n : ℕ) → n < length log → HasEntry log n
entry-at [] n lt = absurd (omega arith)
entry-at (e ∷ log) zero lt = record { entry = e; back = log; is = refl; next = refl; stands = refl }
entry-at (e ∷ log) (suc n) lt =
    let rest = entry-at log n (omega arith) in
    record { entry = rest.entry; back = rest.back; is = ap (λ es. e ∷ es) rest.is; next = ap (λ es. e ∷ es) rest.next; stands = rest.stands }

pub history-take : (log : List Entry) (n : ℕ) → take n (history_of log) ≡ history_of (take n log)
history-take log n = take-map logged n log

-- a change that a session made stands in the log
pub record HasChange (log : List Entry) (n session : ℕ) (change : Change) : Type 0 where
  pub at : HasEntry log n
  pub session_is : at.entry.session ≡ session
  pub change_is : at.entry.change ≡ change

pub change-at : (log : List Entry) (n session : ℕ) (change : Change) → IsEntryOf (history_of log) n session change → HasChange log n session change
change-at log n session change entry =
    let lt = slice_get_within (history_of log) n entry.0 entry.1 in
    let at = entry-at log n (omega (arith, length-history_of log)) in
    let is : logged at.entry ≡ entry.0 = Some-same (logged at.entry) entry.0 (sym at.stands ∙ entry.1) in
    record { at = at; session_is = ap (λ (l : LoggedChange). l.session) is ∙ entry.2; change_is = ap (λ (l : LoggedChange). l.change) is ∙ entry.3 }

entry-is : ℕ → ℕ → Change → LoggedChange
entry-is session number change = record { session = session; number = number; change = change }

-- what kept logs say up to a place, where they say the same up to there
module _ (pages : ℕ) (log other : List Entry) (n : ℕ) (same : SaySame pages (take n log) (take n other)) where
  fronts : take n (history_of log) ≡ take n (history_of other)
  fronts = history-take log n ∙ (same.history ∙ sym (history-take other n))

  -- the maps there are the same
  pub map-same : map_after (history_of log) n ≡ map_after (history_of other) n
  map-same = ap (map_with []) fronts

  module _ (session : ℕ) (change : Change) (kept : IsKeptLog pages log) (also : IsKeptLog pages other) (c : HasChange log n session change) (d : HasChange other n session change) where
    logged-same : logged c.at.entry ≡ logged d.at.entry
    unfolding entry-is
    logged-same =
        let x : LoggedChange = logged c.at.entry in
        let y : LoggedChange = logged d.at.entry in
        let legal = kept.lawful.legal in
        let lawful = also.lawful.legal in
        let owner : x.session ≡ y.session = c.session_is ∙ sym d.session_is in
        let count : x.number ≡ y.number =
        (legal n x c.at.stands).numbered ∙ (ap (λ s. length (changes_of s (take n (history_of log))) + 1) owner
        ∙ (ap (λ (h : History). length (changes_of y.session h) + 1) fronts ∙ sym (lawful n y d.at.stands).numbered)) in
        ap (λ s. entry-is s x.number x.change) owner ∙ (ap (λ k. entry-is y.session k x.change) count ∙ ap (entry-is y.session y.number) (c.change_is ∙ sym d.change_is))

    -- the same change in both takes them one further
    pub SaySame-next : SaySame pages (take (suc n) log) (take (suc n) other)
    SaySame-next =
        let here = c.at in
        let there = d.at in
        let entries = kept.lawful.entries (take n log) here.entry here.back here.is in
        let others = also.lawful.entries (take n other) there.entry there.back there.is in
        subst (λ (es : List Entry). SaySame pages es (take (suc n) other)) (sym here.next)
        (subst (λ (es : List Entry). SaySame pages (take n log ++ here.entry ∷ []) es) (sym there.next)
        (SaySame-push pages (take n log) (take n other) here.entry there.entry same logged-same
        (kept.planned_are (take n log) here.entry here.back here.is) (also.planned_are (take n other) there.entry there.back there.is) entries.lawful others.lawful))
