-- The images with the changed ones of a work set in their places.
use Rattle.std.specs.List.{All}
use Rattle.std.specs.Prelude.{slice_get}
use Rattle.std.proofs.Common.{◌≡◌, ◌≢◌, ℕ, zero, suc, ◌+◌, ◌<◌, cond, List, [], ◌∷◌, ◌++◌, length, take, Some, None, refl, sym, ap, subst, ◌∙◌, arith, inl, inr, eq-eqb, ne_eqb, get_or, get_or-set_same, get_or-set_other}
use Rattle.std.proofs.Math.ListN.{set}
use Rattle.std.proofs.lemmas.Bool.{cases_eq}
use Rattle.std.proofs.lemmas.List.{length-set}
use Rattle.std.proofs.lemmas.List.Elements.{All-nil, All-cons, All-head, All-tail}
use Rattle.ib_page.specs.Memory.{image_at}
use Rattle.ib_page.specs.Work.{WorkPage, PagesAscend, changed_of}
use Rattle.ib_planned_change.specs.Copies.{put_back}

-- one page more
pub put_back-push : (ws : List WorkPage) (w : WorkPage) (images : List (List ℕ)) → put_back (ws ++ w ∷ []) images ≡ set (put_back ws images) w.page w.changed
put_back-push [] w images = refl
put_back-push (v ∷ vs) w images = put_back-push vs w (set images v.page v.changed)

pub length-put_back : (ws : List WorkPage) (images : List (List ℕ)) → length (put_back ws images) ≡ length images
length-put_back [] images = refl
length-put_back (w ∷ ws) images = length-put_back ws (set images w.page w.changed) ∙ length-set images w.page w.changed

none-head : (n : ℕ) (w : WorkPage) (ws : List WorkPage) → changed_of n (w ∷ ws) ≡ None → (w.page ≢ n) × (changed_of n ws ≡ None)
none-head n w ws none = elim (cases_eq w.page n) [
  | inl e ↦ let bad : Some w.changed ≡ None = sym (ap (λ b. cond b (Some w.changed) (changed_of n ws)) (eq-eqb w.page n e)) ∙ none in absurd (cc)
  | inr ne ↦ (ne, sym (ap (λ b. cond b (Some w.changed) (changed_of n ws)) (ne_eqb w.page n ne)) ∙ none)
]

-- a page that is not there stays
pub put_back-still : (ws : List WorkPage) (images : List (List ℕ)) (n : ℕ) → changed_of n ws ≡ None → image_at (put_back ws images) n ≡ image_at images n
put_back-still [] images n none = refl
put_back-still (w ∷ ws) images n none =
    let parts = none-head n w ws none in
    put_back-still ws (set images w.page w.changed) n parts.1 ∙ get_or-set_other images w.page n w.changed [] (λ e. parts.0 (sym e))

-- no page behind a page is that one
above-none : (low : ℕ) (ws : List WorkPage) (n : ℕ) → PagesAscend low ws → n < low → changed_of n ws ≡ None
above-none low [] n ascends lt = refl
above-none low (w ∷ ws) n ascends lt =
    let a = ascends.0 in
    ap (λ b. cond b (Some w.changed) (changed_of n ws)) (ne_eqb w.page n (λ e. omega arith)) ∙ above-none (w.page + 1) ws n ascends.1 (omega arith)

-- one that is there is as it is changed
pub put_back-changed : (low : ℕ) (ws : List WorkPage) (images : List (List ℕ)) (n : ℕ) (image : List ℕ) → PagesAscend low ws → All (λ w. w.page < length images) ws → changed_of n ws ≡ Some image
    → image_at (put_back ws images) n ≡ image
put_back-changed low [] images n image ascends within is = cc
put_back-changed low (w ∷ ws) images n image ascends within is = elim (cases_eq w.page n) [
  | inl e ↦
      let here : Some w.changed ≡ Some image = sym (ap (λ b. cond b (Some w.changed) (changed_of n ws)) (eq-eqb w.page n e)) ∙ is in
      let same : w.changed ≡ image = cc in
      let lt = All-head (λ (v : WorkPage). v.page < length images) w ws within in
      put_back-still ws (set images w.page w.changed) n (above-none (w.page + 1) ws n ascends.1 (omega arith))
      ∙ (ap (λ k. get_or (set images w.page w.changed) k []) (sym e) ∙ (get_or-set_same images w.page w.changed [] lt ∙ same))
  | inr ne ↦
      let size = length-set images w.page w.changed in
      put_back-changed (w.page + 1) ws (set images w.page w.changed) n image ascends.1
      (λ k d lt. let a = All-tail (λ (v : WorkPage). v.page < length images) w ws within k d lt in omega arith)
      (sym (ap (λ b. cond b (Some w.changed) (changed_of n ws)) (ne_eqb w.page n ne)) ∙ is)
]

-- what is so of each changed image is so of that of a page
pub changed-each : (P : List ℕ → Type 0) (ws : List WorkPage) (n : ℕ) (image : List ℕ) → All (λ w. P w.changed) ws → changed_of n ws ≡ Some image → P image
changed-each P [] n image all is = cc
changed-each P (w ∷ ws) n image all is = elim (cases_eq w.page n) [
  | inl e ↦
      let here : Some w.changed ≡ Some image = sym (ap (λ b. cond b (Some w.changed) (changed_of n ws)) (eq-eqb w.page n e)) ∙ is in
      let same : w.changed ≡ image = cc in subst P same (All-head (λ (v : WorkPage). P v.changed) w ws all)
  | inr ne ↦ changed-each P ws n image (All-tail (λ (v : WorkPage). P v.changed) w ws all) (sym (ap (λ b. cond b (Some w.changed) (changed_of n ws)) (ne_eqb w.page n ne)) ∙ is)
]

-- one page more of a work set
pub take-page : (ws : List WorkPage) (i : ℕ) (w : WorkPage) → slice_get ws i ≡ Some w → take (i + 1) ws ≡ take i ws ++ w ∷ []
take-page [] i w is = cc
take-page (v ∷ vs) zero w is = let same : v ≡ w = cc in ap (λ x. x ∷ []) same
take-page (v ∷ vs) (suc i) w is = let e : suc i + 1 ≡ suc (i + 1) = omega arith in rw e (ap (λ xs. v ∷ xs) (take-page vs i w is))

pub all-push : (P : WorkPage → Type 0) (ws : List WorkPage) (w : WorkPage) → All P ws → P w → All P (ws ++ w ∷ [])
all-push P [] w all here = All-cons P w [] here (All-nil P)
all-push P (v ∷ vs) w all here = All-cons P v (vs ++ w ∷ []) (All-head P v vs all) (all-push P vs w (All-tail P v vs all) here)
