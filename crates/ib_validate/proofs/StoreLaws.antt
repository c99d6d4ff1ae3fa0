-- Writes stored one after another in the images of pages.
use Rattle.std.proofs.Common.{◌≡◌, ◌||◌, Bool, true, false, eqb, refl, ℕ, ◌+◌, ◌<◌, List, [], ◌∷◌, ◌++◌, length, get_or, take, ap₂, subst, sym, ap, ◌∙◌, inl, inr, arith, get_or-set_same, get_or-set_other}
use Rattle.std.proofs.Math.ListN.{set}
use Rattle.std.proofs.lemmas.Bool.{cases_eq, eq-eqb, ne_eqb}
use Rattle.std.proofs.lemmas.List.Folds.{list_any-append}
use Rattle.std.proofs.lemmas.List.{get_or_default, take_more}
use Rattle.ib_map.specs.declared.write.Write.{Write}
use Rattle.ib_map.specs.Writes.{page_at, index_at, stored, touches}
use Rattle.ib_map.proofs.WriteLaws.{stored-append}
use Rattle.ib_page.specs.Memory.{image_at, word_at}

-- memory with another word at a place
abbrev pub with_word : List (List ℕ) → ℕ → ℕ → List (List ℕ)
with_word memory place word = set memory (page_at place) (set (image_at memory (page_at place)) (index_at place) word)

-- two places on one page with one index are the same
same_place : (a b : ℕ) → page_at a ≡ page_at b → index_at a ≡ index_at b → a ≡ b
same_place a b page index = omega arith

one_more : (memory : List (List ℕ)) (w : Write) (place : ℕ) → page_at w.place < length memory → index_at w.place < length (image_at memory (page_at w.place))
    → word_at (with_word memory w.place w.value) place ≡ stored (w ∷ []) place (word_at memory place)
one_more memory w place page index = elim (cases_eq (page_at place) (page_at w.place)) [
  | inl same ↦
      let image : image_at (with_word memory w.place w.value) (page_at place) ≡ set (image_at memory (page_at w.place)) (index_at w.place) w.value =
      ap (image_at (with_word memory w.place w.value)) same ∙ get_or-set_same memory (page_at w.place) (set (image_at memory (page_at w.place)) (index_at w.place) w.value) [] page in
      elim (cases_eq (index_at place) (index_at w.place)) [
        | inl at ↦
            let here = same_place w.place place (sym same) (sym at) in
            rw (eq-eqb w.place place here, image, at) (get_or-set_same (image_at memory (page_at w.place)) (index_at w.place) w.value 0 index)
        | inr other ↦
            let apart : w.place ≡ place → ⊥ = λ e. other (ap index_at (sym e)) in
            rw (ne_eqb w.place place apart, image, same) (get_or-set_other (image_at memory (page_at w.place)) (index_at w.place) (index_at place) w.value 0 other)
      ]
  | inr other ↦
      let apart : w.place ≡ place → ⊥ = λ e. other (ap page_at (sym e)) in
      let image = get_or-set_other memory (page_at w.place) (page_at place) (set (image_at memory (page_at w.place)) (index_at w.place) w.value) [] other in
      rw (ne_eqb w.place place apart, image) (λ _. word_at memory place)
]

-- one more write, which makes `after` of the image on its page
pub stored-more : (memory : List (List ℕ)) (ws : List Write) (i : ℕ) (d : Write) (page index : ℕ) (image after : List ℕ) (place word : ℕ) → i < length ws
    → page ≡ page_at (get_or ws i d).place → index ≡ index_at (get_or ws i d).place → page < length memory → index < length (get_or memory page image)
    → after ≡ set (get_or memory page image) index (get_or ws i d).value
    → word_at memory place ≡ stored (take i ws) place word → word_at (set memory page after) place ≡ stored (take (i + 1) ws) place word
stored-more memory ws i d page index image after place word lt on at within inside is so_far =
    let w : Write = get_or ws i d in
    let same : get_or memory page image ≡ image_at memory page = get_or_default memory page image [] within in
    let here : get_or memory page image ≡ image_at memory (page_at w.place) = same ∙ ap (image_at memory) on in
    let one = one_more memory w place (subst (λ p. p < length memory) on within) (subst (λ (xs : List ℕ). index_at w.place < length xs) here (subst (λ k. k < length (get_or memory page image)) at inside)) in
    let form : set memory page after ≡ with_word memory w.place w.value =
    ap (λ (xs : List ℕ). set memory page xs) (is ∙ ap (λ (xs : List ℕ). set xs index w.value) same)
    ∙ ap₂ (λ p k. set memory p (set (image_at memory p) k w.value)) on at in
    ap (λ (m : List (List ℕ)). word_at m place) form ∙ one ∙ ap (stored (w ∷ []) place) so_far
    ∙ sym (stored-append (take i ws) (w ∷ []) place word) ∙ ap (λ (vs : List Write). stored vs place word) (sym (take_more ws i d lt))

-- one more write touches its page
touches-push : (page : ℕ) (ws : List Write) (w : Write) → touches page (ws ++ w ∷ []) ≡ (touches page ws || eqb (page_at w.place) page)
touches-push page ws w = list_any-append (λ v. eqb (page_at v.place) page) ws (w ∷ []) ∙ ap (λ b. touches page ws || b) (or-false (eqb (page_at w.place) page))
  where
    or-false : (b : Bool) → (b || false) ≡ b
    or-false true = refl
    or-false false = refl

-- a page that the writes do not touch
pub image_at-more : (memory start : List (List ℕ)) (ws : List Write) (i : ℕ) (d : Write) (page at : ℕ) (after : List ℕ) → i < length ws → at ≡ page_at (get_or ws i d).place
    → ((p : ℕ) → touches p (take i ws) ≡ false → image_at memory p ≡ image_at start p) → touches page (take (i + 1) ws) ≡ false → image_at (set memory at after) page ≡ image_at start page
image_at-more memory start ws i d page at after lt on so_far off =
    let parts = touches-more ws i d page lt off in
    get_or-set_other memory at page after [] (λ e. let x = eq-eqb (page_at (get_or ws i d).place) page (sym on ∙ sym e) in let y = parts.1 in cc) ∙ so_far page parts.0
  where
    or-parts : (a b : Bool) → (a || b) ≡ false → (a ≡ false) × (b ≡ false)
    or-parts true b e = absurd (let x = e in cc)
    or-parts false true e = absurd (let x = e in cc)
    or-parts false false e = (refl, refl)

    touches-more : (ws : List Write) (i : ℕ) (d : Write) (page : ℕ) → i < length ws → touches page (take (i + 1) ws) ≡ false
        → (touches page (take i ws) ≡ false) × (eqb (page_at (get_or ws i d).place) page ≡ false)
    touches-more ws i d page lt off =
        let e = ap (touches page) (take_more ws i d lt) ∙ touches-push page (take i ws) (get_or ws i d) in
        or-parts (touches page (take i ws)) (eqb (page_at (get_or ws i d).place) page) (sym e ∙ off)
