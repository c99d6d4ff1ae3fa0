-- Two kept logs that make the same changes leave the same pages, but for where the words stand in them: so the same is full behind both.
use Rattle.std.proofs.Common.{◌≡◌, ◌⊎◌, ℕ, zero, suc, true, List, [], ◌∷◌, ◌++◌, length, refl, sym, ap, subst, ◌∙◌, arith, inl, inr, length-append}
use Rattle.std.proofs.lemmas.Bool.{cases_eq}
use Rattle.ib_map.specs.History.{History}
use Rattle.ib_map.specs.Space.{has_pages}
use Rattle.ib_map.specs.declared.call.Change.{Change}
use Rattle.ib_map.specs.declared.call.LoggedChange.{LoggedChange}
use Rattle.ib_page.specs.Form.{page_of}
use Rattle.ib_page.specs.Page.{PageValue, HoldsPage}
use Rattle.ib_page.specs.Page.PageValue.{Malformed as MalformedValue, Free as FreeValue, Tree as TreeValue}
use Rattle.ib_logrec.specs.declared.entry.Entry.{Entry}
use Rattle.ib_logrec.specs.Log.{memory_after, logged, history_of, by_place}
use Rattle.ib_logrec.proofs.LogLaws.{history_of-push, length-history_of}
use Rattle.ib_walk.specs.Pages.{PageMemory, PageState}
use Rattle.ib_walk.specs.Words.{bits_of, image_of, state_of}
use Rattle.ib_walk.proofs.ImageLaws.{pages_of-image}
use Rattle.ib_plans.specs.Marks.{ticked}
use Rattle.ib_plans.proofs.MetLaws.{met-set, root-met}
use Rattle.ib_tree.specs.TreeLog.{opening}
use Rattle.ib_tree.proofs.LogLaws.{last-entry}
use Rattle.ib_planned_log.specs.Kept.{IsKeptLog, plan_of}
use Rattle.ib_planned_log.specs.KeptLog.{IsKeptLog-front}
use Rattle.ib_planned_log.specs.LeafChange.{kept_pages}
use Rattle.ib_planned_log.proofs.PushLaws.{lawful-before}
use Rattle.ib_planned_change.specs.Full.{full_behind, full_kind}
use Rattle.ib_plans.proofs.PageZeroLaws.{bit-taken, no-page}
use Rattle.ib_planned_change.proofs.BehindLaws.{bits-in}

-- lists one longer that are the same have the same parts
push-parts : (xs ys : History) (x y : LoggedChange) → xs ++ x ∷ [] ≡ ys ++ y ∷ [] → (xs ≡ ys) × (x ≡ y)
push-parts [] [] x y same = (refl, (cc))
push-parts [] (b ∷ []) x y same = absurd ((cc))
push-parts [] (b ∷ c ∷ bs) x y same = absurd ((cc))
push-parts (a ∷ []) [] x y same = absurd ((cc))
push-parts (a ∷ c ∷ as') [] x y same = absurd ((cc))
push-parts (a ∷ as') (b ∷ bs) x y same =
    let r = push-parts as' bs x y (cc) in let e = r.0 in let first : a ≡ b = cc in ((cc), r.1)

-- what is no page is malformed
malformed : (v : PageValue) → (HoldsPage v → ⊥) → v ≡ MalformedValue
malformed (TreeValue p) none = absurd (none tt)
malformed (FreeValue clock) none = absurd (none tt)
malformed MalformedValue none = refl

module _ (pages : ℕ) (fits : has_pages pages ≡ true) where
  abbrev start : ℕ → ℕ
  start = by_place opening pages

  -- the bits behind a log
  abbrev bits-after : List Entry → ℕ → ℕ
  bits-after log = bits_of pages (memory_after start log)

  -- page 0 is no page: the root's bit is set in it
  zero-page : (log : List Entry) → IsKeptLog pages log → kept_pages pages log 0 ≡ state_of MalformedValue
  zero-page log kept =
      let law = (lawful-before pages fits log kept).law in
      let set = met-set _ (kept_pages pages log) (bits-after log) 1 law 1 (omega arith) (omega arith) 1 (root-met (kept_pages pages log) 1) in
      let image = image_of (memory_after start log) 0 in
      let taken = bit-taken pages image (λ z. set (bits-in pages (memory_after start log) 1 ∙ z)) in
      pages_of-image (memory_after start log) 0 ∙ ap state_of (malformed (page_of image) (no-page image taken))

  -- pages and bits are the same
  record AreSame (xs ys : List Entry) : Type 0 where
    pub pages_are : kept_pages pages xs ≡ kept_pages pages ys
    pub bits_are : bits-after xs ≡ bits-after ys

  -- what a change is planned to leave
  abbrev then : PageMemory → (ℕ → ℕ) → Change → ℕ → PageState
  then m bits change n = let p = plan_of 1 m bits pages change in ticked m p.touched p.memory n

  same-push : (f g : List Entry) (e d : Entry) → IsKeptLog pages (f ++ e ∷ []) → IsKeptLog pages (g ++ d ∷ []) → e.change ≡ d.change → AreSame f g → AreSame (f ++ e ∷ []) (g ++ d ∷ [])
  same-push f g e d one two change same =
      let p = one.planned_are f e [] refl in
      let q = two.planned_are g d [] refl in
      let page : (n : ℕ) → kept_pages pages (f ++ e ∷ []) n ≡ kept_pages pages (g ++ d ∷ []) n = λ n. elim (cases_eq n 0) [
        | inl z ↦ subst (λ k. kept_pages pages (f ++ e ∷ []) k ≡ kept_pages pages (g ++ d ∷ []) k) (sym z) (zero-page (f ++ e ∷ []) one ∙ sym (zero-page (g ++ d ∷ []) two))
        | inr ne ↦
            p.step.pages_are n ne
            ∙ ((λ i. then (same.pages_are i) (same.bits_are i) (change i) n)
            ∙ sym (q.step.pages_are n ne))
      ] in
      let bit : (n : ℕ) → bits-after (f ++ e ∷ []) n ≡ bits-after (g ++ d ∷ []) n = λ n.
      p.step.bits_are n
      ∙ ((λ i. (plan_of 1 (same.pages_are i) (same.bits_are i) pages (change i)).bits n)
      ∙ sym (q.step.bits_are n)) in
      record { pages_are = λ i n. page n i; bits_are = λ i n. bit n i }

  same-counted : (n : ℕ) (xs ys : List Entry) → length xs ≡ n → IsKeptLog pages xs → IsKeptLog pages ys → history_of xs ≡ history_of ys
      → (xs ≡ []) ⊎ ((front : List Entry) × (e : Entry) × (xs ≡ front ++ e ∷ [])) → (ys ≡ []) ⊎ ((front : List Entry) × (e : Entry) × (ys ≡ front ++ e ∷ [])) → AreSame xs ys
  same-counted n xs ys size one two history (inl x) (inl y) =
      let e : xs ≡ ys = x ∙ sym y in record { pages_are = ap (kept_pages pages) e; bits_are = ap bits-after e }
  same-counted n xs ys size one two history (inl x) (inr y) =
      absurd (let a = ap length history in let b = length-history_of xs in let c = length-history_of ys in let d = ap length x in let f = ap length y.2 in let g = length-append y.0 (y.1 ∷ []) in omega arith)
  same-counted n xs ys size one two history (inr x) (inl y) =
      absurd (let a = ap length history in let b = length-history_of xs in let c = length-history_of ys in let d = ap length y in let f = ap length x.2 in let g = length-append x.0 (x.1 ∷ []) in omega arith)
  same-counted zero xs ys size one two history (inr x) (inr y) = absurd (let f = ap length x.2 in let g = length-append x.0 (x.1 ∷ []) in omega arith)
  same-counted (suc n) xs ys size one two history (inr x) (inr y) =
      let one' = subst (IsKeptLog pages) x.2 one in
      let two' = subst (IsKeptLog pages) y.2 two in
      let parts = push-parts (history_of x.0) (history_of y.0) (logged x.1) (logged y.1)
      (sym (history_of-push x.0 x.1) ∙ (ap history_of (sym x.2) ∙ (history ∙ (ap history_of y.2 ∙ history_of-push y.0 y.1)))) in
      let count : length x.0 ≡ n = (let f = ap length x.2 in let g = length-append x.0 (x.1 ∷ []) in omega arith) in
      let before = same-counted n x.0 y.0 count (IsKeptLog-front pages x.0 (x.1 ∷ []) one') (IsKeptLog-front pages y.0 (y.1 ∷ []) two') parts.0 (last-entry x.0) (last-entry y.0) in
      let change : x.1.change ≡ y.1.change = ap (λ (l : LoggedChange). l.change) parts.1 in
      subst (λ log. AreSame log ys) (sym x.2) (subst (AreSame (x.0 ++ x.1 ∷ [])) (sym y.2) (same-push x.0 y.0 x.1 y.1 one' two' change before))

  -- so the same is full
  pub full-same : (xs ys : List Entry) → IsKeptLog pages xs → IsKeptLog pages ys → history_of xs ≡ history_of ys → (change : Change) → full_behind pages xs change ≡ full_behind pages ys change
  full-same xs ys one two history change =
      let same = same-counted (length xs) xs ys refl one two history (last-entry xs) (last-entry ys) in
      λ i. full_kind (same.pages_are i) (same.bits_are i) pages change
