-- The words of a free page.
use Rattle.std.proofs.Common.{◌≡◌, ℕ, zero, suc, ◌-◌, [], ◌∷◌, ◌∙◌, List, length, drop, take, get_or, refl, ap, sym, arith, subst, replicate, set, All}
use Rattle.std.proofs.lemmas.List.Elements.{All-replicate}
use Rattle.ib_map.specs.declared.TheConstants.{PAGE_WORDS}
use Rattle.ib_heap.specs.Words.{zeros, free_page_words}

all_zeros : (ws : List ℕ) (n : ℕ) → length ws ≡ n → All (λ word. word ≡ 0) ws → ws ≡ zeros n
unfolding zeros
all_zeros [] n long h = ap (λ k. replicate k 0) long
all_zeros (w ∷ ws) n long h =
    let rest : ws ≡ zeros (length ws) = all_zeros ws (length ws) refl (λ k d lt. h (suc k) d (omega arith)) in
    ap (λ (v : ℕ). v ∷ ws) (h 0 0 (omega arith)) ∙ (ap (λ (vs : List ℕ). 0 ∷ vs) rest ∙ ap (λ k. replicate k 0) long)

zeros_all : (n : ℕ) → All (λ (word : ℕ). word ≡ 0) (zeros n)
unfolding zeros
zeros_all n = All-replicate (λ (word : ℕ). word ≡ 0) n 0 refl

pub free-from : (ws : List ℕ) → length ws ≡ PAGE_WORDS → All (λ (word : ℕ). word ≡ 0) (take 5 ws) → All (λ (word : ℕ). word ≡ 0) (drop 6 ws) → ws ≡ free_page_words (get_or ws 5 0)
unfolding free_page_words
free-from [] long front back = absurd (omega arith)
free-from (a ∷ []) long front back = absurd (omega arith)
free-from (a ∷ b ∷ []) long front back = absurd (omega arith)
free-from (a ∷ b ∷ c ∷ []) long front back = absurd (omega arith)
free-from (a ∷ b ∷ c ∷ d ∷ []) long front back = absurd (omega arith)
free-from (a ∷ b ∷ c ∷ d ∷ e ∷ []) long front back = absurd (omega arith)
free-from (a ∷ b ∷ c ∷ d ∷ e ∷ f ∷ rest) long front back =
    let tail : rest ≡ zeros (PAGE_WORDS - 6) = all_zeros rest (PAGE_WORDS - 6) (omega arith) back in
    let zero_a : a ≡ 0 = front 0 0 (omega arith) in
    let zero_b : b ≡ 0 = front 1 0 (omega arith) in
    let zero_c : c ≡ 0 = front 2 0 (omega arith) in
    let zero_d : d ≡ 0 = front 3 0 (omega arith) in
    let zero_e : e ≡ 0 = front 4 0 (omega arith) in
    cc

free-parts : (clock : ℕ) → All (λ (word : ℕ). word ≡ 0) (take 5 (free_page_words clock)) × All (λ (word : ℕ). word ≡ 0) (drop 6 (free_page_words clock))
unfolding free_page_words
free-parts clock = (All-replicate (λ (word : ℕ). word ≡ 0) 5 0 refl, zeros_all (PAGE_WORDS - 6))

pub free-to : (ws : List ℕ) → ws ≡ free_page_words (get_or ws 5 0) → All (λ (word : ℕ). word ≡ 0) (take 5 ws) × All (λ (word : ℕ). word ≡ 0) (drop 6 ws)
free-to ws is = subst (λ (vs : List ℕ). All (λ (word : ℕ). word ≡ 0) (take 5 vs) × All (λ (word : ℕ). word ≡ 0) (drop 6 vs)) (sym is) (free-parts (get_or ws 5 0))

-- the words that are written first
pub free-words : (clock : ℕ) → set (replicate PAGE_WORDS 0) 5 clock ≡ free_page_words clock
unfolding free_page_words zeros
free-words clock = refl

-- a word among zeros
pub zeros-at : (n i : ℕ) → get_or (zeros n) i 0 ≡ 0
unfolding zeros
zeros-at zero i = refl
zeros-at (suc n) zero = refl
zeros-at (suc n) (suc i) = zeros-at n i

pub free_word : (index : ℕ) → get_or (free_page_words 0) index 0 ≡ 0
unfolding free_page_words
free_word zero = refl
free_word (suc zero) = refl
free_word (suc (suc zero)) = refl
free_word (suc (suc (suc zero))) = refl
free_word (suc (suc (suc (suc zero)))) = refl
free_word (suc (suc (suc (suc (suc zero))))) = refl
free_word (suc (suc (suc (suc (suc (suc i)))))) = zeros-at (PAGE_WORDS - 6) i
