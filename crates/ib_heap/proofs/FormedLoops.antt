-- What the loops of the test leave, and what the ends of the lists say.
use Rattle.std.proofs.Common.{inl, inr, ◌≡◌, ℕ, zero, suc, ◌+◌, ◌-◌, ◌*◌, ◌/◌, ◌%◌, ◌<◌, ◌≤◌, true, false, ◌∙◌, List, [], ◌∷◌, length, get_or, set, refl, ap, sym, arith, Bool, ◌&&◌, eqb}
use Rattle.std.proofs.lemmas.Bool.{and_left, and_right, eq-eqb, ne_eqb, cases_eq}
use Rattle.ib_heap.specs.declared.formed.ChainStep.{ChainStep}
use Rattle.ib_heap.specs.Chain.{Node, offsets_of, chain_from, free_from, is_directory, owners, first_of, first_free}
use Rattle.ib_heap.specs.Walks.{is_new, are_new, met_with, chain_holds, LeavesStep, end_from, free_end}
use Rattle.ib_heap.proofs.HeapLaws.{Chained, Freed, AreOffsets}

rest-more : (count i : ℕ) → i < count → count - i ≡ suc (count - (i + 1))
rest-more count i lt = omega arith

rest-none : (count i : ℕ) → count ≤ i → count - i ≡ 0
rest-none count i le = omega arith

-- the chain, with one more offset met
pub chain-new : (ws met more : List ℕ) (n count i at next : ℕ) → i < count → is_new n met at ≡ true → more ≡ set met at 1 → next ≡ get_or ws at 0 % 256 → are_new n met (offsets_of (chain_from ws (count - i) at)) ≡ are_new n more (offsets_of (chain_from ws (count - (i + 1)) next))
chain-new ws met more n count i at next lt new e f =
    ap (λ m. are_new n met (offsets_of (chain_from ws m at))) (rest-more count i lt)
    ∙ (ap (λ (b : Bool). b && are_new n (set met at 1) (offsets_of (chain_from ws (count - (i + 1)) (get_or ws at 0 % 256)))) new
    ∙ (ap (λ (v : List ℕ). are_new n v (offsets_of (chain_from ws (count - (i + 1)) (get_or ws at 0 % 256)))) (sym e) ∙ ap (λ p. are_new n more (offsets_of (chain_from ws (count - (i + 1)) p))) (sym f)))

pub chain-met : (ws met more : List ℕ) (count i at next : ℕ) → i < count → more ≡ set met at 1 → next ≡ get_or ws at 0 % 256 → met_with met (offsets_of (chain_from ws (count - i) at)) ≡ met_with more (offsets_of (chain_from ws (count - (i + 1)) next))
chain-met ws met more count i at next lt e f =
    ap (λ m. met_with met (offsets_of (chain_from ws m at))) (rest-more count i lt)
    ∙ (ap (λ (v : List ℕ). met_with v (offsets_of (chain_from ws (count - (i + 1)) (get_or ws at 0 % 256)))) (sym e) ∙ ap (λ p. met_with more (offsets_of (chain_from ws (count - (i + 1)) p))) (sym f))

pub chain-more : (ws : List ℕ) (count i : ℕ) (s next : ChainStep) → i < count → LeavesStep ws s next → chain_holds ws (count - i) s ≡ chain_holds ws (count - (i + 1)) next
chain-more ws count i s next lt h = ap (λ m. chain_holds ws m s) (rest-more count i lt) ∙ h.holds (count - (i + 1))

pub chain-not : (ws met : List ℕ) (n count i : ℕ) (s : ChainStep) → i < count → is_new n met s.at ≡ false → (are_new n met (offsets_of (chain_from ws (count - i) s.at)) && chain_holds ws (count - i) s) ≡ false
chain-not ws met n count i s lt bad = and_left (are_new n met (offsets_of (chain_from ws (count - i) s.at))) (chain_holds ws (count - i) s)
    (ap (λ m. are_new n met (offsets_of (chain_from ws m s.at))) (rest-more count i lt) ∙ and_left (is_new n met s.at) (are_new n (set met s.at 1) (offsets_of (chain_from ws (count - (i + 1)) (get_or ws s.at 0 % 256)))) bad)

pub chain-bad : (ws met : List ℕ) (n count i : ℕ) (s : ChainStep) → i < count → ((m : ℕ) → chain_holds ws (suc m) s ≡ false) → (are_new n met (offsets_of (chain_from ws (count - i) s.at)) && chain_holds ws (count - i) s) ≡ false
chain-bad ws met n count i s lt bad = and_right (are_new n met (offsets_of (chain_from ws (count - i) s.at))) (chain_holds ws (count - i) s) (ap (λ m. chain_holds ws m s) (rest-more count i lt) ∙ bad (count - (i + 1)))

pub chain-last : (ws met : List ℕ) (n count i : ℕ) (s : ChainStep) → count ≤ i → chain_holds ws 0 s ≡ (are_new n met (offsets_of (chain_from ws (count - i) s.at)) && chain_holds ws (count - i) s)
chain-last ws met n count i s le = ap (λ m. are_new n met (offsets_of (chain_from ws m s.at)) && chain_holds ws m s) (sym (rest-none count i le))

-- the free list
pub free-new : (ws met more : List ℕ) (n count i at : ℕ) → i < count → is_new n met at ≡ true → more ≡ set met at 1
    → (are_new n met (free_from ws (count - i) at) && eqb (free_end ws (count - i) at) 0) ≡ (are_new n more (free_from ws (count - (i + 1)) (get_or ws at 0)) && eqb (free_end ws (count - (i + 1)) (get_or ws at 0)) 0)
free-new ws met more n count i at lt new e =
    let ends : Bool = eqb (free_end ws (count - (i + 1)) (get_or ws at 0)) 0 in
    ap (λ m. are_new n met (free_from ws m at) && eqb (free_end ws m at) 0) (rest-more count i lt)
    ∙ (ap (λ (b : Bool). (b && are_new n (set met at 1) (free_from ws (count - (i + 1)) (get_or ws at 0))) && ends) new
    ∙ ap (λ (v : List ℕ). are_new n v (free_from ws (count - (i + 1)) (get_or ws at 0)) && ends) (sym e))

-- the words of the directory behind its last slot
pub zero-step : (ws : List ℕ) (j : ℕ) → j < 10 → get_or ws (8 + j) 0 ≡ 0 → is_directory ws (10 - j) (8 + j) [] ≡ is_directory ws (10 - (j + 1)) (8 + (j + 1)) []
zero-step ws j lt z = ap (λ m. is_directory ws m (8 + j) []) (let e : 10 - j ≡ suc (10 - (j + 1)) = omega arith in e) ∙ (rw (eq-eqb (get_or ws (8 + j) 0) 0 z) (ap (λ m. is_directory ws (10 - (j + 1)) m []) (let e : 8 + j + 1 ≡ 8 + (j + 1) = omega arith in e)))

-- what the ends of the lists say
pub chained-from : (ws : List ℕ) (n p last : ℕ) → end_from ws n p ≡ 19 → get_or ws 19 0 ≡ last * 256 → Chained ws (chain_from ws n p) last × (p ≡ first_of (chain_from ws n p))
chained-from ws zero p last e w = (w, e)
chained-from ws (suc n) p last e w = let r = chained-from ws n (get_or ws p 0 % 256) last e w in let f = r.1 in ((let g : get_or ws p 0 ≡ (get_or ws p 0 / 256) * 256 + first_of (chain_from ws n (get_or ws p 0 % 256)) = omega arith in g, r.0), refl)

pub freed-from : (ws : List ℕ) (n p : ℕ) → free_end ws n p ≡ 0 → Freed ws (free_from ws n p) × (p ≡ first_free (free_from ws n p))
freed-from ws zero p e = (tt, e)
freed-from ws (suc n) p e = let r = freed-from ws n (get_or ws p 0) e in ((r.1, r.0), refl)

-- the number of slots, by the supremum's
pub slots-number : (n j : ℕ) (xs : List Node) → AreOffsets n (offsets_of xs) → get_or (owners xs) j 0 ≡ 19 → j + 1 ≡ length (owners xs)
slots-number n zero [] h e = refl
slots-number n (suc j) [] h e = absurd (let z : 0 ≡ 19 = e in omega arith)
slots-number n zero (x ∷ xs) h e = elim (cases_eq x.owned 0) [
  | inl f ↦ (let z = eq-eqb x.owned 0 f in let e1 : get_or (owners xs) 0 0 ≡ 19 = rw z at e in rw z (slots-number n 0 xs h.1 e1))
  | inr f ↦ absurd (let z = ne_eqb x.owned 0 f in let e1 : x.offset ≡ 19 = rw z at e in let a = h.0.is in omega arith)
]
slots-number n (suc j) (x ∷ xs) h e = elim (cases_eq x.owned 0) [
  | inl f ↦ (let z = eq-eqb x.owned 0 f in let e1 : get_or (owners xs) (suc j) 0 ≡ 19 = rw z at e in rw z (slots-number n (suc j) xs h.1 e1))
  | inr f ↦ (let z = ne_eqb x.owned 0 f in let e1 : get_or (owners xs) j 0 ≡ 19 = rw z at e in let r = slots-number n j xs h.1 e1 in rw z (omega arith))
]
