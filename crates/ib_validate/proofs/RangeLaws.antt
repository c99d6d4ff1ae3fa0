-- Ascending keys lie in a range where the first one and the last one do.
use Rattle.std.proofs.Common.{◌≡◌, ◌↔◌, ℕ, ◌+◌, ◌<◌, ◌≤◌, Bool, true, false, IsTrue, List, [], ◌∷◌, length, Some, refl, sym, subst, arith}
use Rattle.std.specs.List.{slice_get}
use Rattle.std.proofs.lemmas.Bool.{and_left, lt-leb}
use Rattle.ib_map.specs.Keys.{MapKey, rank, end_rank}
use Rattle.ib_map.specs.Pairs.{Pairs, Rises}
use Rattle.ib_page.specs.Page.{PageValue, rises}
use Rattle.ib_page.specs.Form.{page_of}
use Rattle.ib_page.specs.Image.{IsTreePage}
use Rattle.ib_heap.proofs.FormLaws.{tree_in}
use Rattle.ib_heap.proofs.PageLaws.{rises-Decides}
use Rattle.ib_walk.specs.Words.{state_of}

same_bool : (b c : Bool) → (b ≡ true → c ≡ true) → (c ≡ true → b ≡ true) → b ≡ c
same_bool true true f g = refl
same_bool true false f g = absurd (let x = f refl in cc)
same_bool false true f g = absurd (let x = g refl in cc)
same_bool false false f g = refl

-- the keys of a page ascend
pub ascends : (ws : List ℕ) → IsTreePage ws → Rises 0 (state_of (page_of ws)).records end_rank
ascends ws tree = let h = tree_in ws tree in subst (λ (v : PageValue). Rises 0 (state_of v).records end_rank) (sym h.holds) h.fits.ascends

last-below : (a : ℕ) (x : MapKey × ℕ) (xs : Pairs) (high : ℕ) (last : MapKey × ℕ) → Rises a (x ∷ xs) high → slice_get (x ∷ xs) (length xs) ≡ Some last → rank last.0 < high
last-below a x [] high last r e = let same : x ≡ last = cc in subst (λ (y : MapKey × ℕ). rank y.0 < high) same (let h = r.1 in omega arith)
last-below a x (y ∷ ys) high last r e = last-below (rank x.0 + 1) y ys high last r.1 e

below-last : (a : ℕ) (x : MapKey × ℕ) (xs : Pairs) (high end : ℕ) (last : MapKey × ℕ) → Rises a (x ∷ xs) end → slice_get (x ∷ xs) (length xs) ≡ Some last → rank last.0 < high → Rises a (x ∷ xs) high
below-last a x [] high end last r e lt = let same : last ≡ x = cc in let under = subst (λ (y : MapKey × ℕ). rank y.0 < high) same lt in (r.0, omega arith)
below-last a x (y ∷ ys) high end last r e lt = (r.0, below-last (rank x.0 + 1) y ys high end last r.1 e lt)

pub Rises-first_last : (xs : Pairs) (n low high : ℕ) (first last : MapKey × ℕ) → Rises 0 xs end_rank → n + 1 ≡ length xs → slice_get xs 0 ≡ Some first → slice_get xs n ≡ Some last
    → ((low ≤ rank first.0) × (rank last.0 < high)) ↔ Rises low xs high
Rises-first_last [] n low high first last r long f l = absurd (omega arith)
Rises-first_last (x ∷ xs) n low high first last r long f l =
    let same : x ≡ first = cc in
    let at : n ≡ length xs = omega arith in
    let end : slice_get (x ∷ xs) (length xs) ≡ Some last = subst (λ k. slice_get (x ∷ xs) k ≡ Some last) at l in (
      λ h. let up = below-last 0 x xs high end_rank last r end h.1 in (subst (λ (y : MapKey × ℕ). low ≤ rank y.0) (sym same) h.0, up.1),
      λ h. (subst (λ (y : MapKey × ℕ). low ≤ rank y.0) same h.0, last-below low x xs high last h end),
    )

-- the test of a range, where it stands for what it says
pub rises-is : (b : Bool) (low : ℕ) (xs : Pairs) (high : ℕ) → (IsTrue b → Rises low xs high) → (Rises low xs high → IsTrue b) → b ≡ rises low xs high
rises-is b low xs high to from = let d = rises-Decides low xs high in same_bool b (rises low xs high) (λ e. d.1 (to e)) (λ e. from (d.0 e))

pub not-rises : (xs : Pairs) (low high : ℕ) (first : MapKey × ℕ) → slice_get xs 0 ≡ Some first → rank first.0 < low → rises low xs high ≡ false
not-rises [] low high first f lt = absurd (cc)
not-rises (x ∷ xs) low high first f lt =
    let same : first ≡ x = cc in
    and_left _ _ (lt-leb low (rank x.0) (subst (λ (y : MapKey × ℕ). rank y.0 < low) same lt))
