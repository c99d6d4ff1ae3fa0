-- The words of one page that an entry writes: how many, that each differs, and the image that they leave.
use Rattle.std.specs.List.{AllByRecursion, All}
use Rattle.std.proofs.Common.{◌≡◌, ◌≢◌, ℕ, zero, suc, ◌+◌, ◌*◌, ◌<◌, ◌≤◌, ◌∙◌, false, List, [], ◌∷◌, ◌++◌, length, get_or, refl, sym, ap, subst, arith, inl, inr, length-append, append-nil}
use Rattle.std.proofs.lemmas.Bool.{cases_eq, ne_eqb}
use Rattle.std.proofs.lemmas.List.Elements.{All-cons, All-nil}
use Rattle.ib_map.specs.declared.TheConstants.{PAGE_WORDS}
use Rattle.ib_map.specs.declared.write.Write.{Write}
use Rattle.ib_map.specs.Writes.{PlacesRise, stored, touches, word_place}
use Rattle.ib_page.specs.Work.{WorkPage}
use Rattle.ib_page.specs.Writes.{writes_below, writes_of}
use Rattle.ib_page.proofs.WriteLaws.{writes_none, writes_more_same, writes_more_differ}
use Rattle.ib_page.proofs.StoreLaws.{leads, untouched, writes_rise}
use Rattle.ib_logrec.specs.declared.entry.Entry.{Entry}
use Rattle.ib_logrec.specs.Log.{memory_after}
use Rattle.ib_logrec.proofs.LogLaws.{memory_after-push}
use Rattle.ib_walk.specs.Words.{image_of}
use Rattle.ib_walk.proofs.ImageLaws.{image_of-list, word_of_image}
use Rattle.ib_walk.proofs.WalkLaws.{AllByRecursion-append}

-- one write a word at most
count-le : (page : ℕ) (before changed : List ℕ) (n : ℕ) → length (writes_below page before changed n) ≤ n
count-le page before changed zero = let e = ap length (writes_none page before changed) in omega arith
count-le page before changed (suc n) =
    let r = count-le page before changed n in
    let e : length (writes_below page before changed (suc n)) ≡ length (writes_below page before changed (n + 1)) = ap (λ k. length (writes_below page before changed k)) (omega arith) in
    let w : Write = record { place = word_place page n; value = get_or changed n 0 } in
    elim (cases_eq (get_or before n 0) (get_or changed n 0)) [
      | inl same ↦ let s = ap length (writes_more_same page before changed n same) in omega arith
      | inr differ ↦
          let s = ap length (writes_more_differ page before changed n differ) in
          let a = length-append (writes_below page before changed n) (w ∷ []) in omega arith
    ]

-- what is written is not what stood there
differ-below : (words : ℕ → ℕ) (page : ℕ) (changed : List ℕ) (n : ℕ) → n ≤ PAGE_WORDS → AllByRecursion (λ w. words w.place ≢ w.value) (writes_below page (image_of words page) changed n)
differ-below words page changed zero le = subst (AllByRecursion (λ w. words w.place ≢ w.value)) (sym (writes_none page (image_of words page) changed)) tt
differ-below words page changed (suc n) le =
    let P : Write → Type 0 = λ w. words w.place ≢ w.value in
    let r = differ-below words page changed n (omega arith) in
    let more : writes_below page (image_of words page) changed (suc n) ≡ writes_below page (image_of words page) changed (n + 1) = ap (λ k. writes_below page (image_of words page) changed k) (omega arith) in
    elim (cases_eq (get_or (image_of words page) n 0) (get_or changed n 0)) [
      | inl same ↦ subst (AllByRecursion P) (sym (more ∙ writes_more_same page (image_of words page) changed n same)) r
      | inr differ ↦
          subst (AllByRecursion P) (sym (more ∙ writes_more_differ page (image_of words page) changed n differ))
          (AllByRecursion-append P (writes_below page (image_of words page) changed n) (record { place = word_place page n; value = get_or changed n 0 } ∷ []) r
          ((λ e. differ (word_of_image words page n (omega arith) ∙ e)), tt))
    ]

-- one page of a work set, as it stands among all words
abbrev pub one_page : (ℕ → ℕ) → ℕ → List ℕ → WorkPage
one_page words page changed = record { page = page; before = image_of words page; changed = changed }

module _ (words : ℕ → ℕ) (page : ℕ) (changed : List ℕ) where
  one-append : writes_of (one_page words page changed ∷ []) ≡ writes_below page (image_of words page) changed PAGE_WORDS
  one-append = append-nil (writes_below page (image_of words page) changed PAGE_WORDS)

  pub one-count : length (writes_of (one_page words page changed ∷ [])) ≤ PAGE_WORDS
  one-count = let a = ap length one-append in let b = count-le page (image_of words page) changed PAGE_WORDS in omega arith

  pub one-differ : AllByRecursion (λ w. words w.place ≢ w.value) (writes_of (one_page words page changed ∷ []))
  one-differ = subst (AllByRecursion (λ w. words w.place ≢ w.value)) (sym one-append) (differ-below words page changed PAGE_WORDS (omega arith))

  pub one-rise : (pages : ℕ) → page < pages → PlacesRise 0 (writes_of (one_page words page changed ∷ [])) (pages * PAGE_WORDS)
  one-rise pages lt =
      let all : All (λ (w : WorkPage). w.page < pages) (one_page words page changed ∷ []) = All-cons (λ (w : WorkPage). w.page < pages) (one_page words page changed) [] lt (All-nil (λ (w : WorkPage). w.page < pages)) in
      writes_rise 0 pages (one_page words page changed ∷ []) (omega arith, tt) all

  pub one-untouched : (other : ℕ) → page ≢ other → touches other (writes_of (one_page words page changed ∷ [])) ≡ false
  one-untouched other ne = untouched (one_page words page changed ∷ []) other (let no = ne_eqb page other ne in rw no refl)

-- the image that an entry leaves that writes one page
pub one-image : (start : ℕ → ℕ) (log : List Entry) (e : Entry) (page : ℕ) (changed : List ℕ) → e.writes ≡ writes_of (one_page (memory_after start log) page changed ∷ []) → length changed ≡ PAGE_WORDS
    → image_of (memory_after start (log ++ e ∷ [])) page ≡ changed
one-image start log e page changed is size =
    image_of-list (memory_after start (log ++ e ∷ [])) page changed size (λ index lt.
    let ws = writes_of (one_page (memory_after start log) page changed ∷ []) in
    memory_after-push start log e (word_place page index)
    ∙ (ap (λ (us : List Write). stored us (word_place page index) (memory_after start log (word_place page index))) is
    ∙ (ap (λ (n : ℕ). stored ws (word_place page index) n) (sym (word_of_image (memory_after start log) page index lt))
    ∙ leads 0 (one_page (memory_after start log) page changed ∷ []) 0 (one_page (memory_after start log) page changed) index (omega arith, tt) (omega arith) lt)))
