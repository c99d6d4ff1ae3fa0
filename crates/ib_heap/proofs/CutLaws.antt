-- The chain cut into slots.
use Rattle.std.proofs.Common.{◌≡◌, ◌≢◌, ℕ, zero, suc, ◌+◌, ◌-◌, ◌*◌, ◌<◌, ◌≤◌, [], ◌∷◌, ◌∙◌, List, length, drop, get_or, refl, ap, sym, arith, inl, inr}
use Rattle.std.specs.List.{concat}
use Rattle.std.proofs.lemmas.Bool.{cases_eq, eq-eqb, ne_eqb}
use Rattle.ib_heap.specs.Chain.{Node, Chain, first_of, used_in_chain}
use Rattle.ib_heap.specs.ChainPut.{owned_by, chain_offset, rest_of}
use Rattle.ib_heap.specs.Heap.{begin_with, slots_of, heap_of, used_offsets}
use Rattle.ib_heap.specs.Put.{offset_for}
use Rattle.ib_heap.proofs.HeapLaws.{Owned}

-- the first slot, which has a record, and the others
pub record IsCut (xs : List Node) : Type 0 where
  pub slot : List ℕ
  pub slots : List (List ℕ)
  pub is : slots_of xs ≡ slot ∷ slots
  pub some : 0 < length slot

-- a record that owns no slot stands in that of the next one, one that owns a slot ends it
pub slots-inside : (x : Node) (xs : List Node) → x.owned ≡ 0 → slots_of (x ∷ xs) ≡ begin_with x.offset (slots_of xs)
slots-inside x xs e = rw (eq-eqb x.owned 0 e) refl

pub slots-owner : (x : Node) (xs : List Node) → x.owned ≢ 0 → slots_of (x ∷ xs) ≡ (x.offset ∷ []) ∷ slots_of xs
slots-owner x xs ne = rw (ne_eqb x.owned 0 ne) refl

pub is-cut : (xs : List Node) → IsCut xs
is-cut [] = record { slot = 19 ∷ []; slots = []; is = refl; some = omega arith }
is-cut (x ∷ xs) = elim (cases_eq x.owned 0) [
  | inl e ↦ (let r = is-cut xs in record { slot = x.offset ∷ r.slot; slots = r.slots; is = slots-inside x xs e ∙ ap (begin_with x.offset) r.is; some = omega arith })
  | inr ne ↦ record { slot = x.offset ∷ []; slots = slots_of xs; is = slots-owner x xs ne; some = omega arith }
]

-- with the slots of the records behind the first
pub cut-inside : (x : Node) (xs : List Node) (slot : List ℕ) (slots : List (List ℕ)) → x.owned ≡ 0 → slots_of xs ≡ slot ∷ slots → slots_of (x ∷ xs) ≡ (x.offset ∷ slot) ∷ slots
cut-inside x xs slot slots e is = slots-inside x xs e ∙ ap (begin_with x.offset) is

-- all records in order are those of the chain and the supremum
pub concat-first : (x : Node) (xs : List Node) → concat (slots_of (x ∷ xs)) ≡ x.offset ∷ concat (slots_of xs)
concat-first x xs = elim (cases_eq x.owned 0) [
  | inl e ↦ (let r = is-cut xs in ap concat (cut-inside x xs r.slot r.slots e r.is) ∙ ap (λ (slots : List (List ℕ)). x.offset ∷ concat slots) (sym r.is))
  | inr ne ↦ ap concat (slots-owner x xs ne)
]

pub length-concat : (xs : List Node) → length (concat (slots_of xs)) ≡ length xs + 1
length-concat [] = refl
length-concat (x ∷ xs) = let r = length-concat xs in ap length (concat-first x xs) ∙ (let e : suc (length (concat (slots_of xs))) ≡ suc (length xs) + 1 = omega arith in e)

pub concat-at : (k : ℕ) (xs : List Node) → k ≤ length xs → get_or (concat (slots_of xs)) k 0 ≡ first_of (drop k xs)
concat-at zero [] le = refl
concat-at (suc k) [] le = absurd (omega arith)
concat-at zero (x ∷ xs) le = ap (λ (ps : List ℕ). get_or ps 0 0) (concat-first x xs)
concat-at (suc k) (x ∷ xs) le = ap (λ (ps : List ℕ). get_or ps (suc k) 0) (concat-first x xs) ∙ concat-at k xs (omega arith)

-- as many offsets have been used
pub used-same : (c : Chain) → used_offsets (heap_of c) ≡ used_in_chain c
used-same c = let r = length-concat c.nodes in let e : length (concat (slots_of c.nodes)) - 1 + length c.free ≡ length c.nodes + length c.free = omega arith in e

pub offset-same : (c : Chain) → offset_for (heap_of c) ≡ chain_offset c
offset-same c = go c.free
  where
    go : (ps : List ℕ) → offset_for (heap_of (record { nodes = c.nodes; last = c.last; free = ps })) ≡ chain_offset (record { nodes = c.nodes; last = c.last; free = ps })
    go [] = let r = length-concat c.nodes in let e : 20 + 4 * (length (concat (slots_of c.nodes)) - 1 + 0) ≡ 20 + 4 * (length c.nodes + 0) = omega arith in e
    go (p ∷ ps) = refl

pub rest-same : (ps : List ℕ) → rest_of ps ≡ drop 1 ps
rest-same [] = refl
rest-same (p ∷ ps) = refl

-- the first slot's number of records, of which n stand before these
pub owned-first : (n : ℕ) (xs : List Node) (last : ℕ) → Owned n xs last → (slot : List ℕ) (slots : List (List ℕ)) → slots_of xs ≡ slot ∷ slots → owned_by xs last ≡ n + length slot
owned-first n xs last h slot slots is = (go n xs last h) ∙ ap (λ (ss : List (List ℕ)). n + first_length ss) is
  where
    first_length : List (List ℕ) → ℕ
    first_length [] = 0
    first_length (s ∷ ss) = length s

    begin-length : (p : ℕ) (xs : List Node) → first_length (begin_with p (slots_of xs)) ≡ suc (first_length (slots_of xs))
    begin-length p xs = let r = is-cut xs in ap (λ (ss : List (List ℕ)). first_length (begin_with p ss)) r.is ∙ ap (λ (ss : List (List ℕ)). suc (first_length ss)) (sym r.is)

    go : (n : ℕ) (xs : List Node) (last : ℕ) → Owned n xs last → owned_by xs last ≡ n + first_length (slots_of xs)
    go n [] last h = h.0
    go n (x ∷ xs) last (inl h) =
        let r = go (n + 1) xs last h.1 in let b = begin-length x.offset xs in
        rw (eq-eqb x.owned 0 h.0) (let e : owned_by xs last ≡ n + first_length (begin_with x.offset (slots_of xs)) = omega arith in e)
    go n (x ∷ xs) last (inr h) = let a = h.0.0 in rw (ne_eqb x.owned 0 (λ z. omega arith)) a
