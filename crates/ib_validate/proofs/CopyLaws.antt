-- Lists that are the same at each place, and what a write of one place leaves to be copied.
use Rattle.std.proofs.Common.{◌≡◌, ◌≢◌, ℕ, zero, suc, ◌+◌, ◌<◌, ◌≤◌, List, [], ◌∷◌, length, get_or, drop, drop-cons, drop_of_length-le, add-one, refl, sym, subst, ◌∙◌, arith, All}

pub same-list : {X : Type 0} (d : X) (xs ys : List X) → length xs ≡ length ys → ((p : ℕ) → p < length xs → get_or xs p d ≡ get_or ys p d) → xs ≡ ys
same-list d [] [] long h = refl
same-list d [] (y ∷ ys) long h = absurd (omega arith)
same-list d (x ∷ xs) [] long h = absurd (omega arith)
same-list d (x ∷ xs) (y ∷ ys) long h =
    let first : x ≡ y = h 0 (omega arith) in
    let rest : xs ≡ ys = same-list d xs ys (omega arith) (λ p lt. h (suc p) (omega arith)) in
    cc

-- a page that is not among the rest is the next one, or not among those from the next one on
pub All-next : (ps : List ℕ) (i page : ℕ) → i < length ps → get_or ps i 0 ≢ page → All (λ p. p ≢ page) (drop (i + 1) ps) → All (λ p. p ≢ page) (drop i ps)
All-next ps i page lt ne rest = let next : drop i ps ≡ get_or ps i 0 ∷ drop (i + 1) ps = drop-cons ps i 0 lt ∙ rw (add-one i) refl in subst (λ (qs : List ℕ). All (λ p. p ≢ page) qs) (sym next) front
  where
    front : All (λ p. p ≢ page) (get_or ps i 0 ∷ drop (i + 1) ps)
    front zero d l = ne
    front (suc k) d l = rest k d (omega arith)

pub All-end : (ps : List ℕ) (i page : ℕ) → length ps ≤ i → All (λ p. p ≢ page) (drop i ps)
All-end ps i page le = subst (λ (qs : List ℕ). All (λ p. p ≢ page) qs) (sym (drop_of_length-le ps le)) (λ k d l. absurd (omega arith))
