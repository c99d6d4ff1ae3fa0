-- The chain after a record is taken out.
use Rattle.std.proofs.Common.{◌≡◌, ℕ, zero, suc, ◌+◌, ◌-◌, ◌*◌, ◌<◌, ◌≤◌, ◌≢◌, ◌⊎◌, false, [], ◌∷◌, ◌∙◌, List, length, take, drop, get_or, refl, ap, sym, arith, eqb, inl, inr, subst, true}
use Rattle.std.specs.List.{remove}
use Rattle.std.proofs.lemmas.Bool.{cases_eq, eq-eqb, ne_eqb, and_parts, and_from}
use Rattle.ib_map.specs.Pairs.{Pairs}
use Rattle.ib_heap.specs.Chain.{key_at, Node, first_of, owners, times, offsets_of, records_in, last_from, are_keys, is_key_at}
use Rattle.ib_heap.specs.ChainPut.{owner_from}
use Rattle.ib_heap.specs.ChainTake.{own_one_fewer, last_one_fewer, unlink_node, unlink_last}
use Rattle.ib_heap.proofs.HeapLaws.{Chained, Owned}
use Rattle.ib_heap.proofs.PutLaws.{one, one-same, last-member, Apart, apart-rest, apart-first, apart-offset, apart-owner, chain-same, first-member}
use Rattle.ib_heap.proofs.SplitLaws.{first-offsets}
use Rattle.ib_heap.proofs.ShapeLaws.{records-offsets, keys-offsets}
use Rattle.ib_heap.proofs.CountLaws.{offsets-own_one_fewer}
use Rattle.ib_heap.proofs.SeekLaws.{header_owned, owners-some}

-- an offset of the chain, or the supremum
abbrev pub At : ℕ → List Node → Type 0
At q xs = (0 < times q (offsets_of xs)) ⊎ (q ≡ 19)

pub at-more : (q : ℕ) (x : Node) (xs : List Node) → At q xs → At q (x ∷ xs)
at-more q x xs m = elim m [ inl lt ↦ inl (omega arith) | inr z ↦ inr z ]

pub not-first : (q : ℕ) (x : Node) (xs : List Node) → Apart (x ∷ xs) → At q xs → q ≢ x.offset
not-first q x xs apart m = elim m [ inl lt ↦ (λ z. apart-first x xs q apart lt (sym z)) | inr t ↦ (λ z. absurd (let l = apart-offset x xs apart in omega arith)) ]

-- the words of the chain are the same but for one
abbrev pub SameBut : List ℕ → List ℕ → List Node → ℕ → Type 0
SameBut ws vs xs o = (q : ℕ) → At q xs → q ≢ o → get_or vs q 0 ≡ get_or ws q 0

pub chain-own_one_fewer : (ws vs : List ℕ) (xs : List Node) (last : ℕ) → Chained ws xs last → Apart xs → get_or vs (owner_from xs) 0 + 256 ≡ get_or ws (owner_from xs) 0 → SameBut ws vs xs (owner_from xs) → Chained vs (own_one_fewer xs) (last_one_fewer xs last)
chain-own_one_fewer ws vs [] last h apart low same = let c : get_or ws 19 0 ≡ last * 256 = h in let d : get_or vs 19 0 + 256 ≡ get_or ws 19 0 = low in omega arith
chain-own_one_fewer ws vs (x ∷ xs) last h apart low same = elim (cases_eq x.owned 0) [
  | inl e ↦
      let none = eq-eqb x.owned 0 e in
      let is : owner_from (x ∷ xs) ≡ owner_from xs = rw none refl in
      let here : 0 < times x.offset (offsets_of (x ∷ xs)) = let o = one-same x.offset in omega arith in
      let differs : x.offset ≢ owner_from xs = apart-owner x xs 0 apart in
      let first : get_or vs x.offset 0 ≡ get_or ws x.offset 0 = same x.offset (inl here) (λ z. differs (z ∙ is)) in
      let rest : Chained vs (own_one_fewer xs) (last_one_fewer xs last) = chain-own_one_fewer ws vs xs last h.1 (apart-rest x xs apart)
      (subst (λ (q : ℕ). get_or vs q 0 + 256 ≡ get_or ws q 0) is low)
      (λ q m nf. same q (at-more q x xs m) (λ z. nf (z ∙ is))) in
      rw none (first ∙ (h.0 ∙ ap (λ n. x.owned * 256 + n) (first-offsets xs (own_one_fewer xs) (sym (offsets-own_one_fewer xs)))), rest)
  | inr ne ↦
      let some = ne_eqb x.owned 0 ne in
      let is : owner_from (x ∷ xs) ≡ x.offset = rw some refl in
      let down : get_or vs x.offset 0 + 256 ≡ get_or ws x.offset 0 = subst (λ (q : ℕ). get_or vs q 0 + 256 ≡ get_or ws q 0) is low in
      let word = h.0 in
      let rest : Chained vs xs last = chain-same ws vs xs last h.1 (λ q m. same q (at-more q x xs m) (λ z. not-first q x xs apart m (z ∙ is))) in
      rw some (let e : get_or vs x.offset 0 ≡ (x.owned - 1) * 256 + first_of xs = omega (arith, ne) in e, rest)
]

pub first-unlink : (k : ℕ) (xs : List Node) → first_of (unlink_node (suc k) xs) ≡ first_of xs
first-unlink k [] = refl
first-unlink zero (x ∷ []) = refl
first-unlink zero (x ∷ y ∷ ys) = elim (cases_eq y.owned 0) [ inl e ↦ rw (eq-eqb y.owned 0 e) refl | inr ne ↦ rw (ne_eqb y.owned 0 ne) refl ]
first-unlink (suc k) (x ∷ xs) = refl

-- a record that owns no slot is taken out
pub chain-unlink : (ws vs : List ℕ) (b k : ℕ) (xs : List Node) (last : ℕ) → k < length xs → Chained ws xs last → Apart xs → header_owned (drop k xs) ≡ 0
    → get_or vs (last_from b (take k xs)) 0 + first_of (drop k xs) ≡ get_or ws (last_from b (take k xs)) 0 + first_of (drop (suc k) xs)
    → get_or vs (owner_from (drop (suc k) xs)) 0 + 256 ≡ get_or ws (owner_from (drop (suc k) xs)) 0
    → ((q : ℕ) → At q xs → q ≢ first_of (drop k xs) → q ≢ last_from b (take k xs) → q ≢ owner_from (drop (suc k) xs) → get_or vs q 0 ≡ get_or ws q 0)
    → ((q : ℕ) → At q xs → q ≢ b)
    → Chained vs (unlink_node k xs) (unlink_last k xs last)
chain-unlink ws vs b k [] last lt h apart header link down same off = absurd (omega arith)
chain-unlink ws vs b zero (x ∷ xs) last lt h apart header link down same off =
    chain-own_one_fewer ws vs xs last h.1 (apart-rest x xs apart) down (λ q m no. same q (at-more q x xs m) (not-first q x xs apart m) (off q (at-more q x xs m)) no)
chain-unlink ws vs b (suc zero) (y ∷ []) last lt h apart header link down same off = absurd (omega arith)
chain-unlink ws vs b (suc zero) (y ∷ x ∷ xs) last lt h apart header link down same off =
    let word = h.0 in
    let f : first_of (own_one_fewer xs) ≡ first_of xs = sym (first-offsets xs (own_one_fewer xs) (sym (offsets-own_one_fewer xs))) in
    let l : get_or vs y.offset 0 + x.offset ≡ get_or ws y.offset 0 + first_of xs = link in
    let rest : Chained vs (own_one_fewer xs) (last_one_fewer xs last) = chain-unlink ws vs y.offset 0 (x ∷ xs) last (omega arith) h.1 (apart-rest y (x ∷ xs) apart) header link down
    (λ q m na nb no. same q (at-more q y (x ∷ xs) m) na nb no) (λ q m. not-first q y (x ∷ xs) apart m) in
    rw (eq-eqb x.owned 0 header) (let e : get_or vs y.offset 0 ≡ y.owned * 256 + first_of (own_one_fewer xs) = omega arith in e, rest)
chain-unlink ws vs b (suc (suc k)) (x ∷ xs) last lt h apart header link down same off =
    let rest = chain-unlink ws vs x.offset (suc k) xs last (omega arith) h.1 (apart-rest x xs apart) header link down
    (λ q m na nb no. same q (at-more q x xs m) na nb no) (λ q m. not-first q x xs apart m) in
    let here : get_or vs x.offset 0 ≡ get_or ws x.offset 0 = same x.offset (inl (let o = one-same x.offset in omega arith))
    (apart-first x xs (first_of (drop (suc k) xs)) apart (first-member (suc k) xs (omega arith)))
    (apart-first x xs (last_from x.offset (take (suc k) xs)) apart (last-member x.offset k xs (omega arith))) (apart-owner x xs (suc (suc k)) apart) in
    (here ∙ (h.0 ∙ ap (λ n. x.owned * 256 + n) (sym (first-unlink k xs))), rest)

-- the owner of a slot is taken out: the record before it becomes the owner
pub chain-unlink-owner : (ws vs : List ℕ) (j : ℕ) (xs : List Node) (last : ℕ) → suc j < length xs → Chained ws xs last → Apart xs → (header_owned (drop (suc j) xs) ≡ 0 → ⊥)
    → get_or vs (first_of (drop j xs)) 0 ≡ (header_owned (drop (suc j) xs) - 1) * 256 + first_of (drop (suc (suc j)) xs)
    → ((q : ℕ) → At q xs → q ≢ first_of (drop (suc j) xs) → q ≢ first_of (drop j xs) → get_or vs q 0 ≡ get_or ws q 0)
    → Chained vs (unlink_node (suc j) xs) (unlink_last (suc j) xs last)
chain-unlink-owner ws vs j [] last lt h apart header word same = absurd (omega arith)
chain-unlink-owner ws vs zero (y ∷ []) last lt h apart header word same = absurd (omega arith)
chain-unlink-owner ws vs zero (y ∷ x ∷ xs) last lt h apart header word same =
    let rest : Chained vs xs last = chain-same ws vs xs last h.1.1 (λ q m. same q (at-more q y (x ∷ xs) (at-more q x xs m)) (not-first q x xs (apart-rest y (x ∷ xs) apart) m) (not-first q y (x ∷ xs) apart (at-more q x xs m))) in
    rw (ne_eqb x.owned 0 header) (word, rest)
chain-unlink-owner ws vs (suc j) (x ∷ xs) last lt h apart header word same =
    let rest = chain-unlink-owner ws vs j xs last (omega arith) h.1 (apart-rest x xs apart) header word (λ q m na nb. same q (at-more q x xs m) na nb) in
    let here : get_or vs x.offset 0 ≡ get_or ws x.offset 0 = same x.offset (inl (let o = one-same x.offset in omega arith))
    (apart-first x xs (first_of (drop (suc j) xs)) apart (first-member (suc j) xs (omega arith)))
    (apart-first x xs (first_of (drop j xs)) apart (first-member j xs (omega arith))) in
    (here ∙ (h.0 ∙ ap (λ n. x.owned * 256 + n) (sym (first-unlink j xs))), rest)

-- what stands in the chain then
pub length-own_one_fewer : (xs : List Node) → length (own_one_fewer xs) ≡ length xs
length-own_one_fewer [] = refl
length-own_one_fewer (x ∷ xs) = elim (cases_eq x.owned 0) [ inl e ↦ rw (eq-eqb x.owned 0 e) (ap suc (length-own_one_fewer xs)) | inr ne ↦ rw (ne_eqb x.owned 0 ne) refl ]

pub length-unlink : (k : ℕ) (xs : List Node) → k < length xs → length (unlink_node k xs) + 1 ≡ length xs
length-unlink k [] lt = absurd (omega arith)
length-unlink zero (x ∷ xs) lt = let l = length-own_one_fewer xs in omega arith
length-unlink (suc zero) (y ∷ []) lt = absurd (omega arith)
length-unlink (suc zero) (y ∷ x ∷ xs) lt = let l = length-own_one_fewer xs in elim (cases_eq x.owned 0) [ inl e ↦ rw (eq-eqb x.owned 0 e) (omega arith) | inr ne ↦ rw (ne_eqb x.owned 0 ne) (omega arith) ]
length-unlink (suc (suc k)) (x ∷ xs) lt = let r = length-unlink (suc k) xs (omega arith) in omega arith

pub times-unlink : (k q : ℕ) (xs : List Node) → k < length xs → one (first_of (drop k xs)) q + times q (offsets_of (unlink_node k xs)) ≡ times q (offsets_of xs)
times-unlink k q [] lt = absurd (omega arith)
times-unlink zero q (x ∷ xs) lt = ap (λ (ps : List ℕ). one x.offset q + times q ps) (offsets-own_one_fewer xs)
times-unlink (suc zero) q (y ∷ []) lt = absurd (omega arith)
times-unlink (suc zero) q (y ∷ x ∷ xs) lt = let f : times q (offsets_of (own_one_fewer xs)) ≡ times q (offsets_of xs) = ap (λ (ps : List ℕ). times q ps) (offsets-own_one_fewer xs) in
    elim (cases_eq x.owned 0) [ inl e ↦ rw (eq-eqb x.owned 0 e) (omega arith) | inr ne ↦ rw (ne_eqb x.owned 0 ne) (omega arith) ]
times-unlink (suc (suc k)) q (x ∷ xs) lt = let r = times-unlink (suc k) q xs (omega arith) in omega arith

pub records-unlink : (ws : List ℕ) (k : ℕ) (xs : List Node) → k < length xs → records_in ws (unlink_node k xs) ≡ remove (records_in ws xs) k
records-unlink ws k [] lt = absurd (omega arith)
records-unlink ws zero (x ∷ xs) lt = records-offsets ws (own_one_fewer xs) xs (offsets-own_one_fewer xs)
records-unlink ws (suc zero) (y ∷ []) lt = absurd (omega arith)
records-unlink ws (suc zero) (y ∷ x ∷ xs) lt = elim (cases_eq x.owned 0) [
  | inl e ↦ rw (eq-eqb x.owned 0 e) (ap (λ (rs : Pairs). (key_at ws y.offset, get_or ws (y.offset + 3) 0) ∷ rs) (records-offsets ws (own_one_fewer xs) xs (offsets-own_one_fewer xs)))
  | inr ne ↦ rw (ne_eqb x.owned 0 ne) refl
]
records-unlink ws (suc (suc k)) (x ∷ xs) lt = ap (λ (rs : Pairs). (key_at ws x.offset, get_or ws (x.offset + 3) 0) ∷ rs) (records-unlink ws (suc k) xs (omega arith))

pub keys-unlink : (ws : List ℕ) (k : ℕ) (xs : List Node) → are_keys ws xs ≡ true → are_keys ws (unlink_node k xs) ≡ true
keys-unlink ws k [] are = are
keys-unlink ws zero (x ∷ xs) are = keys-offsets ws (own_one_fewer xs) xs (offsets-own_one_fewer xs) ∙ (and_parts (is_key_at ws x.offset) (are_keys ws xs) are).1
keys-unlink ws (suc zero) (y ∷ []) are = are
keys-unlink ws (suc zero) (y ∷ x ∷ xs) are =
    let parts = and_parts (is_key_at ws y.offset) (are_keys ws (x ∷ xs)) are in
    let rest = and_parts (is_key_at ws x.offset) (are_keys ws xs) parts.1 in
    elim (cases_eq x.owned 0) [
      | inl e ↦ rw (eq-eqb x.owned 0 e) (and_from _ _ parts.0 (keys-offsets ws (own_one_fewer xs) xs (offsets-own_one_fewer xs) ∙ rest.1))
      | inr ne ↦ rw (ne_eqb x.owned 0 ne) (and_from _ _ parts.0 rest.1)
    ]
keys-unlink ws (suc (suc k)) (x ∷ xs) are =
    let parts = and_parts (is_key_at ws x.offset) (are_keys ws xs) are in
    and_from _ _ parts.0 (keys-unlink ws (suc k) xs parts.1)

-- the slots then
pub owners-own_one_fewer : (n : ℕ) (xs : List Node) (last : ℕ) → Owned n xs last → owners (own_one_fewer xs) ≡ owners xs
owners-own_one_fewer n [] last h = refl
owners-own_one_fewer n (x ∷ xs) last (inl h) = let e = eq-eqb x.owned 0 h.0 in rw e (rw e (owners-own_one_fewer (n + 1) xs last h.1))
owners-own_one_fewer n (x ∷ xs) last (inr h) = let b = h.0.1.0 in rw (ne_eqb x.owned 0 (λ z. absurd (omega arith))) (rw (ne_eqb (x.owned - 1) 0 (λ z. absurd (omega arith))) refl)

pub owners-unlink : (k n : ℕ) (xs : List Node) (last : ℕ) → k < length xs → Owned n xs last → header_owned (drop k xs) ≡ 0 → owners (unlink_node k xs) ≡ owners xs
owners-unlink k n [] last lt h header = absurd (omega arith)
owners-unlink zero n (x ∷ xs) last lt (inl h) header = rw (eq-eqb x.owned 0 header) (owners-own_one_fewer (n + 1) xs last h.1)
owners-unlink zero n (x ∷ xs) last lt (inr h) header = absurd (let b = h.0.1.0 in let z : x.owned ≡ 0 = header in omega arith)
owners-unlink (suc zero) n (y ∷ []) last lt h header = absurd (omega arith)
owners-unlink (suc zero) n (y ∷ x ∷ xs) last lt h header =
    let e = eq-eqb x.owned 0 header in
    let rest : owners (own_one_fewer xs) ≡ owners xs = elim h [
      | inl a ↦ elim a.1 [ inl d ↦ owners-own_one_fewer (n + 1 + 1) xs last d.1 | inr d ↦ absurd (let b = d.0.1.0 in let z : x.owned ≡ 0 = header in omega arith) ]
      | inr a ↦ elim a.1 [ inl d ↦ owners-own_one_fewer 1 xs last d.1 | inr d ↦ absurd (let b = d.0.1.0 in let z : x.owned ≡ 0 = header in omega arith) ]
    ] in
    elim (cases_eq y.owned 0) [
      | inl f ↦ (let g = eq-eqb y.owned 0 f in rw e (rw g rest))
      | inr f ↦ (let g = ne_eqb y.owned 0 f in rw e (rw g (ap (λ (os : List ℕ). y.offset ∷ os) rest)))
    ]
owners-unlink (suc (suc k)) n (x ∷ xs) last lt (inl h) header = rw (eq-eqb x.owned 0 h.0) (owners-unlink (suc k) (n + 1) xs last (omega arith) h.1 header)
owners-unlink (suc (suc k)) n (x ∷ xs) last lt (inr h) header = let b = h.0.1.0 in rw (ne_eqb x.owned 0 (λ z. absurd (omega arith))) (ap (λ (os : List ℕ). x.offset ∷ os) (owners-unlink (suc k) 0 xs last (omega arith) h.1 header))

-- one of these is another
pub record SetAt (s o : ℕ) (os ps : List ℕ) : Type 0 where
  pub at : get_or ps s 0 ≡ o
  pub other : (m : ℕ) → m ≢ s → get_or ps m 0 ≡ get_or os m 0
  pub long : length ps ≡ length os

pub set-first : (o p : ℕ) (os : List ℕ) → SetAt 0 o (p ∷ os) (o ∷ os)
set-first o p os = record { at = refl; other = go; long = refl }
  where
    go : (m : ℕ) → m ≢ 0 → get_or (o ∷ os) m 0 ≡ get_or (p ∷ os) m 0
    go zero ne = absurd (ne refl)
    go (suc m) ne = refl

pub set-cons : (s o p : ℕ) (os ps : List ℕ) → SetAt s o os ps → SetAt (suc s) o (p ∷ os) (p ∷ ps)
set-cons s o p os ps h = record { at = h.at; other = go; long = ap suc h.long }
  where
    go : (m : ℕ) → m ≢ suc s → get_or (p ∷ ps) m 0 ≡ get_or (p ∷ os) m 0
    go zero ne = refl
    go (suc m) ne = h.other m (λ z. ne (ap suc z))

pub owners-unlink-owner : (j n s : ℕ) (xs : List Node) (last : ℕ) → suc j < length xs → Owned n xs last → (header_owned (drop (suc j) xs) ≡ 0 → ⊥) → header_owned (drop j xs) ≡ 0 → length (owners (take (suc j) xs)) ≡ suc s
    → SetAt s (first_of (drop j xs)) (owners xs) (owners (unlink_node (suc j) xs))
owners-unlink-owner j n s [] last lt h some none e = absurd (omega arith)
owners-unlink-owner zero n s (y ∷ []) last lt h some none e = absurd (omega arith)
owners-unlink-owner zero n s (y ∷ x ∷ xs) last lt h some none e =
    let z = eq-eqb y.owned 0 none in
    let ne = ne_eqb x.owned 0 some in
    let one_slot : length (owners []) ≡ suc s = rw z at e in
    let zero_s : 0 ≡ s = omega arith in
    let four : 4 ≤ x.owned = elim h [
      | inl a ↦ elim a.1 [ inl d ↦ absurd (some d.0) | inr d ↦ d.0.1.0 ]
      | inr a ↦ absurd (let b = a.0.1.0 in let y0 : y.owned ≡ 0 = none in omega arith)
    ] in
    let f = ne_eqb (x.owned - 1) 0 (λ q. absurd (omega arith)) in
    subst (λ (i : ℕ). SetAt i y.offset (owners (y ∷ x ∷ xs)) (owners (unlink_node 1 (y ∷ x ∷ xs)))) zero_s
    (rw z (rw ne (rw f (set-first y.offset x.offset (owners xs)))))
owners-unlink-owner (suc j) n s (x ∷ xs) last lt (inl h) some none e =
    let z = eq-eqb x.owned 0 h.0 in
    let e1 : length (owners (take (suc j) xs)) ≡ suc s = rw z at e in
    rw z (owners-unlink-owner j (n + 1) s xs last (omega arith) h.1 some none e1)
owners-unlink-owner (suc j) n s (x ∷ xs) last lt (inr h) some none e =
    let b = h.0.1.0 in
    let z : eqb x.owned 0 ≡ false = ne_eqb x.owned 0 (λ q. absurd (omega arith)) in
    let e1 : length (x.offset ∷ owners (take (suc j) xs)) ≡ suc s = rw z at e in
    let pos = owners-some (take (suc j) xs) in
    let e2 : length (owners (take (suc j) xs)) ≡ suc (s - 1) = omega arith in
    let r = owners-unlink-owner j 0 (s - 1) xs last (omega arith) h.1 some none e2 in
    let e3 : suc (s - 1) ≡ s = omega arith in
    subst (λ (i : ℕ). SetAt i (first_of (drop j xs)) (owners (x ∷ xs)) (owners (unlink_node (suc (suc j)) (x ∷ xs)))) e3 (rw z (set-cons (s - 1) (first_of (drop j xs)) x.offset (owners xs) (owners (unlink_node (suc j) xs)) r))
