-- How many records stand before a slot, by what the slots before it own.
use Rattle.std.proofs.Common.{◌≡◌, ℕ, zero, suc, ◌+◌, ◌/◌, ◌<◌, ◌≤◌, [], ◌∷◌, ◌∙◌, List, length, drop, get_or, refl, ap, sym, arith, inl, inr, subst}
use Rattle.std.proofs.lemmas.Bool.{eq-eqb, ne_eqb}
use Rattle.ib_heap.specs.Chain.{Node, owners, up_to, used_in_chain, read_chain, nodes_of}
use Rattle.ib_heap.specs.ChainPut.{owned_by, owner_from}
use Rattle.ib_heap.proofs.HeapLaws.{Owned}
use Rattle.ib_heap.proofs.SeekLaws.{Known, directory-at, up_to-le}
use Rattle.ib_heap.proofs.SplitLaws.{InSlot, owner-slot}
use Rattle.ib_heap.proofs.PutPage.{owner-word, owned-some}

up_to-first : (n : ℕ) (xs : List Node) (last : ℕ) → Owned n xs last → 1 < length (owners xs) → up_to 1 xs + n ≡ owned_by xs last
up_to-first n [] last h lt = absurd (omega arith)
up_to-first n (x ∷ xs) last (inl h) lt = let e = eq-eqb x.owned 0 h.0 in let l : 1 < length (owners xs) = rw e at lt in let r = up_to-first (n + 1) xs last h.1 l in rw e (omega arith)
up_to-first n (x ∷ xs) last (inr h) lt = let a = h.0.0 in let e = ne_eqb x.owned 0 (λ z. omega arith) in rw e (omega arith)

pub up_to-next : (j n : ℕ) (xs : List Node) (last : ℕ) → (j ≡ 0 → n ≡ 0) → Owned n xs last → suc j < length (owners xs) → up_to (suc j) xs ≡ up_to j xs + owned_by (drop (up_to j xs) xs) last
up_to-next zero n xs last none h lt = let z = none refl in let r = up_to-first n xs last h lt in let e : up_to 1 xs ≡ 0 + owned_by xs last = omega arith in e
up_to-next (suc j) n [] last none h lt = absurd (omega arith)
up_to-next (suc j) n (x ∷ xs) last none (inl h) lt =
    let e = eq-eqb x.owned 0 h.0 in
    let l : suc (suc j) < length (owners xs) = rw e at lt in
    let r = up_to-next (suc j) (n + 1) xs last (λ z. absurd (omega arith)) h.1 l in
    let s : up_to (suc j) (x ∷ xs) ≡ suc (up_to (suc j) xs) = rw e (omega arith) in
    let t : up_to (suc (suc j)) (x ∷ xs) ≡ 1 + up_to (suc (suc j)) xs = rw e refl in
    subst (λ (m : ℕ). up_to (suc (suc j)) (x ∷ xs) ≡ m + owned_by (drop m (x ∷ xs)) last) (sym s) (t ∙ (let q : 1 + up_to (suc (suc j)) xs ≡ suc (up_to (suc j) xs) + owned_by (drop (up_to (suc j) xs) xs) last = omega arith in q))
up_to-next (suc j) n (x ∷ xs) last none (inr h) lt =
    let a = h.0.0 in
    let e = ne_eqb x.owned 0 (λ z. omega arith) in
    let l : suc (suc j) < length (x.offset ∷ owners xs) = rw e at lt in
    let r = up_to-next j 0 xs last (λ z. refl) h.1 (omega arith) in
    let s : up_to (suc j) (x ∷ xs) ≡ suc (up_to j xs) = rw e (omega arith) in
    let t : up_to (suc (suc j)) (x ∷ xs) ≡ 1 + up_to (suc j) xs = rw e refl in
    subst (λ (m : ℕ). up_to (suc (suc j)) (x ∷ xs) ≡ m + owned_by (drop m (x ∷ xs)) last) (sym s) (t ∙ (let q : 1 + up_to (suc j) xs ≡ suc (up_to j xs) + owned_by (drop (up_to j xs) xs) last = omega arith in q))

-- the number of a slot's owner, by its header
pub index-step : (ws : List ℕ) (j : ℕ) → Known ws → suc j < length (owners (nodes_of ws)) → up_to (suc j) (nodes_of ws) ≡ up_to j (nodes_of ws) + get_or ws (get_or ws (8 + suc j) 0) 0 / 256
index-step ws j kn lt =
    let xs = nodes_of ws in let last = (read_chain ws).last in
    let next = up_to-next j 0 xs last (λ z. refl) kn.is.owned lt in
    let some = owned-some 0 (up_to j xs) xs last kn.is.owned in
    let le = up_to-le j xs in
    let within : InSlot j (up_to j xs) xs = (omega arith, (inl (omega arith), omega arith)) in
    let slots = kn.slots in
    let offset : get_or ws (8 + suc j) 0 ≡ owner_from (drop (up_to j xs) xs) = directory-at ws 10 8 (18 ∷ owners xs) (suc j) kn.is.shape.directory (omega arith) ∙ owner-slot 18 j (up_to j xs) xs within le in
    let o = owner-word ws (used_in_chain (read_chain ws)) (up_to j xs) xs last kn.few kn.offsets kn.is.shape.chained le in
    let i = o.is in let l = o.low in
    let word : get_or ws (get_or ws (8 + suc j) 0) 0 ≡ get_or ws (owner_from (drop (up_to j xs) xs)) 0 = ap (λ n. get_or ws n 0) offset in
    omega arith

pub index-low : (ws : List ℕ) (j : ℕ) → Known ws → up_to j (nodes_of ws) ≤ 35
index-low ws j kn = let a = up_to-le j (nodes_of ws) in let b = kn.few in omega arith
