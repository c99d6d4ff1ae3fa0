-- Slots, offsets and records along the chain.
use Rattle.std.proofs.Common.{◌≡◌, ℕ, zero, suc, ◌+◌, ◌-◌, ◌*◌, ◌%◌, ◌<◌, ◌≤◌, ◌⊎◌, [], ◌∷◌, ◌∙◌, List, length, take, drop, get_or, refl, ap, sym, arith, inl, inr, subst, Some, slice_get, true}
use Rattle.std.proofs.lemmas.Bool.{cases_eq, eq-eqb, ne_eqb, cases_lt, and_parts}
use Rattle.ib_map.specs.Keys.{MapKey, rank, end_rank}
use Rattle.ib_map.specs.Pairs.{Pairs, Rises, index_of}
use Rattle.ib_map.specs.declared.TheConstants.{PAGE_WORDS}
use Rattle.ib_heap.specs.Page.{HoldsTree, page_in}
use Rattle.ib_heap.specs.Chain.{key_at, is_key_at, are_keys, Node, first_of, owners, offsets_of, records_in, used_in_chain, read_chain, last_from, up_to, nodes_of}
use Rattle.ib_heap.specs.Form.{page_of}
use Rattle.ib_heap.specs.Image.{records_of}
use Rattle.ib_map.proofs.IndexLaws.{index_of-le}
use Rattle.ib_heap.proofs.RouteLaws.{index_of-behind_lower, index_of-not_behind}
use Rattle.ib_heap.proofs.HeapLaws.{Chained, Directory, AreOffsets, AreOffsets-left, IsHeap, heap_in, first-low}
use Rattle.ib_heap.specs.ChainPut.{owner_from}

-- the word of a slot
pub directory-at : (ws : List ℕ) (n i : ℕ) (slots : List ℕ) (j : ℕ) → Directory ws n i slots → j < n → get_or ws (i + j) 0 ≡ get_or slots j 0
directory-at ws zero i slots j h lt = absurd (omega arith)
directory-at ws (suc n) i [] zero h lt = ap (λ k. get_or ws k 0) (let e : i + 0 ≡ i = omega arith in e) ∙ h.0
directory-at ws (suc n) i [] (suc j) h lt = ap (λ k. get_or ws k 0) (let e : i + suc j ≡ i + 1 + j = omega arith in e) ∙ directory-at ws n (i + 1) [] j h.1 (omega arith)
directory-at ws (suc n) i (s ∷ slots) zero h lt = ap (λ k. get_or ws k 0) (let e : i + 0 ≡ i = omega arith in e) ∙ h.0
directory-at ws (suc n) i (s ∷ slots) (suc j) h lt = ap (λ k. get_or ws k 0) (let e : i + suc j ≡ i + 1 + j = omega arith in e) ∙ directory-at ws n (i + 1) slots j h.1 (omega arith)

pub directory-few : (ws : List ℕ) (n i : ℕ) (slots : List ℕ) → Directory ws n i slots → length slots ≤ n
directory-few ws zero i slots h = omega (arith, h)
directory-few ws (suc n) i [] h = omega arith
directory-few ws (suc n) i (s ∷ slots) h = let rest = directory-few ws n (i + 1) slots h.1 in omega arith

pub owners-some : (xs : List Node) → 0 < length (owners xs)
owners-some [] = omega arith
owners-some (x ∷ xs) = elim (cases_eq x.owned 0) [
  | inl e ↦ rw (eq-eqb x.owned 0 e) (owners-some xs)
  | inr ne ↦ rw (ne_eqb x.owned 0 ne) (omega arith)
]

-- the first slot is the first owner's
pub owner-first : (xs : List Node) → get_or (owners xs) 0 0 ≡ owner_from xs
owner-first [] = refl
owner-first (x ∷ xs) = elim (cases_eq x.owned 0) [ inl e ↦ rw (eq-eqb x.owned 0 e) (owner-first xs) | inr ne ↦ rw (ne_eqb x.owned 0 ne) refl ]

-- the owner of a slot is the record up to which it counts
pub owner-at : (p : ℕ) (xs : List Node) (j : ℕ) → j < length (owners xs) → get_or (p ∷ owners xs) j 0 ≡ last_from p (take (up_to j xs) xs)
owner-at p [] zero lt = refl
owner-at p [] (suc j) lt = absurd (omega arith)
owner-at p (x ∷ xs) zero lt = refl
owner-at p (x ∷ xs) (suc j) lt = elim (cases_eq x.owned 0) [
  | inl e ↦
      let none = eq-eqb x.owned 0 e in
      let within : suc j < length (owners xs) = rw none at lt in
      let rest = owner-at x.offset xs (suc j) within in
      let count : 1 + up_to (suc j) xs ≡ suc (up_to (suc j) xs) = omega arith in
      rw (none, count) (owner-header p x.offset (owners xs) j ∙ rest)
  | inr ne ↦
      let one = ne_eqb x.owned 0 ne in
      let within : suc j < length (x.offset ∷ owners xs) = rw one at lt in
      let rest = owner-at x.offset xs j (omega arith) in
      let count : 1 + up_to j xs ≡ suc (up_to j xs) = omega arith in
      rw (one, count) rest
]
  where
    owner-header : (q r : ℕ) (os : List ℕ) (i : ℕ) → get_or (q ∷ os) (suc i) 0 ≡ get_or (r ∷ os) (suc i) 0
    owner-header q r os i = refl

pub owner-last : (p : ℕ) (xs : List Node) → get_or (p ∷ owners xs) (length (owners xs)) 0 ≡ 19
owner-last p [] = refl
owner-last p (x ∷ xs) = elim (cases_eq x.owned 0) [
  | inl e ↦ rw (eq-eqb x.owned 0 e) (owner-last p xs)
  | inr ne ↦ rw (ne_eqb x.owned 0 ne) (owner-last x.offset xs)
]

pub up_to-le : (j : ℕ) (xs : List Node) → up_to j xs ≤ length xs
up_to-le zero xs = omega arith
up_to-le (suc j) [] = omega arith
up_to-le (suc j) (x ∷ xs) = elim (cases_eq x.owned 0) [
  | inl e ↦ rw (eq-eqb x.owned 0 e) (let r = up_to-le (suc j) xs in omega arith)
  | inr ne ↦ rw (ne_eqb x.owned 0 ne) (let r = up_to-le j xs in omega arith)
]

-- a later slot counts no fewer
pub up_to-grows : (i j : ℕ) (xs : List Node) → i ≤ j → up_to i xs ≤ up_to j xs
up_to-grows zero j xs le = omega arith
up_to-grows (suc i) zero xs le = absurd (omega arith)
up_to-grows (suc i) (suc j) [] le = omega arith
up_to-grows (suc i) (suc j) (x ∷ xs) le = elim (cases_eq x.owned 0) [
  | inl e ↦ rw (eq-eqb x.owned 0 e) (let r = up_to-grows (suc i) (suc j) xs le in omega arith)
  | inr ne ↦ rw (ne_eqb x.owned 0 ne) (let r = up_to-grows i j xs (omega arith) in omega arith)
]

-- the record up to which a slot counts
pub up_to-some : (j : ℕ) (xs : List Node) → 0 < j → j < length (owners xs) → 0 < up_to j xs
up_to-some zero xs some lt = absurd (omega arith)
up_to-some (suc j) [] some lt = absurd (omega arith)
up_to-some (suc j) (x ∷ xs) some lt = omega arith

-- the offset behind the first k, by the word of the last of them
pub link-at : (ws : List ℕ) (n p : ℕ) (xs : List Node) (last k : ℕ) → n ≤ 35 → AreOffsets n (offsets_of xs) → get_or ws p 0 % 256 ≡ first_of xs → Chained ws xs last → k ≤ length xs
    → get_or ws (last_from p (take k xs)) 0 % 256 ≡ first_of (drop k xs)
link-at ws n p [] last zero le offsets first h within = first
link-at ws n p [] last (suc k) le offsets first h within = absurd (omega arith)
link-at ws n p (x ∷ xs) last zero le offsets first h within = first
link-at ws n p (x ∷ xs) last (suc k) le offsets first h within =
    let header = h.0 in
    let low = first-low n xs le offsets.1 in
    link-at ws n x.offset xs last k le offsets.1 (omega arith) h.1 (omega arith)

-- how many the first of these records owns
abbrev pub header_owned : List Node → ℕ
header_owned [] = 0
header_owned (x ∷ xs) = x.owned

-- the header of a record, by its number in the chain
pub node-word : (ws : List ℕ) (t : ℕ) (xs : List Node) (last : ℕ) → t < length xs → Chained ws xs last → get_or ws (first_of (drop t xs)) 0 ≡ header_owned (drop t xs) * 256 + first_of (drop (suc t) xs)
node-word ws t [] last lt c = absurd (omega arith)
node-word ws zero (x ∷ xs) last lt c = c.0
node-word ws (suc t) (x ∷ xs) last lt c = node-word ws t xs last (omega arith) c.1

-- a record, by its offset
pub record-at : (ws : List ℕ) (xs : List Node) (k : ℕ) → k < length xs → slice_get (records_in ws xs) k ≡ Some (key_at ws (first_of (drop k xs)), get_or ws (first_of (drop k xs) + 3) 0)
record-at ws [] k lt = absurd (omega arith)
record-at ws (x ∷ xs) zero lt = refl
record-at ws (x ∷ xs) (suc k) lt = record-at ws xs k (omega arith)

-- where the chain goes on is the supremum exactly where it ends
pub first-in : (n : ℕ) (xs : List Node) (k : ℕ) → n ≤ 35 → AreOffsets n (offsets_of xs) → k ≤ length xs → ((first_of (drop k xs) ≡ 19) × (k ≡ length xs)) ⊎ ((20 ≤ first_of (drop k xs)) × ((first_of (drop k xs) ≤ 156) × (k < length xs)))
first-in n [] zero le h within = inl (refl, refl)
first-in n [] (suc k) le h within = absurd (omega arith)
first-in n (x ∷ xs) zero le h within = let a = h.0.is in let b = h.0.below in inr (omega arith, (omega arith, omega arith))
first-in n (x ∷ xs) (suc k) le h within = elim (first-in n xs k le h.1 (omega arith)) [
  | inl e ↦ inl (e.0, let f = e.1 in omega arith)
  | inr e ↦ inr (e.0, (e.1.0, let f = e.1.1 in omega arith))
]

-- the last of the first k, and the offset where the chain goes on before it
pub last-first : (p : ℕ) (xs : List Node) (k : ℕ) → k < length xs → last_from p (take (suc k) xs) ≡ first_of (drop k xs)
last-first p [] k lt = absurd (omega arith)
last-first p (x ∷ xs) zero lt = refl
last-first p (x ∷ xs) (suc k) lt = last-first x.offset xs k (omega arith)

pub length-records : (ws : List ℕ) (xs : List Node) → length (records_in ws xs) ≡ length xs
length-records ws [] = refl
length-records ws (x ∷ xs) = let r = length-records ws xs in omega arith

pub length-offsets : (xs : List Node) → length (offsets_of xs) ≡ length xs
length-offsets [] = refl
length-offsets (x ∷ xs) = ap suc (length-offsets xs)

-- what is known of an image of a page of the tree
pub record Known (ws : List ℕ) : Type 0 where
  pub is : IsHeap ws (read_chain ws)
  pub records : records_of ws ≡ records_in ws (nodes_of ws)
  pub offsets : AreOffsets (used_in_chain (read_chain ws)) (offsets_of (nodes_of ws))
  pub few : used_in_chain (read_chain ws) ≤ 35
  pub slots : 1 + length (owners (nodes_of ws)) ≤ 10
  pub some : 0 < length (owners (nodes_of ws))
  pub size : length ws ≡ 160
  pub long : length (records_of ws) ≡ length (nodes_of ws)
  pub rises : Rises 0 (records_of ws) end_rank

pub known : (ws : List ℕ) → HoldsTree (page_of ws) → Known ws
known ws holds =
    let k = heap_in ws holds in
    let same : records_of ws ≡ records_in ws (nodes_of ws) = ap (λ v. (page_in v).records) k.holds in
    record {
      is = k.is;
      records = same;
      offsets = AreOffsets-left _ _ _ k.is.shape.offsets;
      few = k.is.shape.few;
      slots = let few = directory-few ws 10 8 (18 ∷ owners (nodes_of ws)) k.is.shape.directory in omega arith;
      some = owners-some (nodes_of ws);
      size = k.is.shape.size;
      long = ap length same ∙ length-records ws (nodes_of ws);
      rises = subst (λ (rs : Pairs). Rises 0 rs end_rank) (sym same) k.is.shape.fits.ascends;
    }

pub last-in : (n p : ℕ) (xs : List Node) (k : ℕ) → n ≤ 35 → AreOffsets n (offsets_of xs) → k ≤ length xs → ((k ≡ 0) × (last_from p (take k xs) ≡ p)) ⊎ ((20 ≤ last_from p (take k xs)) × (last_from p (take k xs) ≤ 156))
last-in n p xs zero le h within = inl (refl, refl)
last-in n p [] (suc k) le h within = absurd (omega arith)
last-in n p (x ∷ xs) (suc k) le h within =
    let a = h.0.is in let b = h.0.below in
    elim (last-in n x.offset xs k le h.1 (omega arith)) [
      | inl e ↦ let f = e.1 in inr (omega arith, omega arith)
      | inr e ↦ inr e
    ]

-- a record of the chain has the words of a key
pub keyed-first : (ws : List ℕ) (xs : List Node) (k : ℕ) → are_keys ws xs ≡ true → k < length xs → is_key_at ws (first_of (drop k xs)) ≡ true
keyed-first ws [] k are lt = absurd (omega arith)
keyed-first ws (x ∷ xs) zero are lt = (and_parts (is_key_at ws x.offset) (are_keys ws xs) are).0
keyed-first ws (x ∷ xs) (suc k) are lt = keyed-first ws xs k (and_parts (is_key_at ws x.offset) (are_keys ws xs) are).1 (omega arith)

pub keyed-at : (ws : List ℕ) (k offset : ℕ) → Known ws → k < length (nodes_of ws) → offset ≡ first_of (drop k (nodes_of ws)) → is_key_at ws offset ≡ true
keyed-at ws k offset kn lt at = ap (λ i. is_key_at ws i) at ∙ keyed-first ws (nodes_of ws) k kn.is.shape.keyed lt

-- the owner of a slot is the last record up to it
pub slot-offset : (ws : List ℕ) (slot offset : ℕ) → 0 < slot → slot < length (owners (nodes_of ws)) → offset ≡ last_from 18 (take (up_to slot (nodes_of ws)) (nodes_of ws))
    → (up_to slot (nodes_of ws) - 1 < length (nodes_of ws)) × (offset ≡ first_of (drop (up_to slot (nodes_of ws) - 1) (nodes_of ws)))
slot-offset ws slot offset pos lt at =
    let some = up_to-some slot (nodes_of ws) pos lt in
    let within = up_to-le slot (nodes_of ws) in
    let e : up_to slot (nodes_of ws) ≡ suc (up_to slot (nodes_of ws) - 1) = omega arith in
    (omega arith, at ∙ (ap (λ n. last_from 18 (take n (nodes_of ws))) e ∙ last-first 18 (nodes_of ws) (up_to slot (nodes_of ws) - 1) (omega arith)))

-- the owner of a slot, by its word
pub record OwnerIs (ws : List ℕ) (slot offset : ℕ) : Type 0 where
  pub at : (slot < length (owners (nodes_of ws)) → offset ≡ last_from 18 (take (up_to slot (nodes_of ws)) (nodes_of ws)))
  pub low : 18 ≤ offset
  pub high : offset ≤ 156
  pub is_record : 0 < slot → slot < length (owners (nodes_of ws)) → 20 ≤ offset
  pub keyed : 0 < slot → slot < length (owners (nodes_of ws)) → is_key_at ws offset ≡ true

pub owner-is : (ws : List ℕ) (slot : ℕ) → Known ws → slot ≤ length (owners (nodes_of ws)) → OwnerIs ws slot (get_or ws (8 + slot) 0)
owner-is ws slot k le =
    let slots = k.slots in
    let word : get_or ws (8 + slot) 0 ≡ get_or (18 ∷ owners (nodes_of ws)) slot 0 = directory-at ws 10 8 (18 ∷ owners (nodes_of ws)) slot k.is.shape.directory (omega arith) in
    elim (cases_lt slot (length (owners (nodes_of ws)))) [
      | inl lt ↦
          let offset : get_or ws (8 + slot) 0 ≡ last_from 18 (take (up_to slot (nodes_of ws)) (nodes_of ws)) = word ∙ owner-at 18 (nodes_of ws) slot lt in
          let keyed : 0 < slot → slot < length (owners (nodes_of ws)) → is_key_at ws (get_or ws (8 + slot) 0) ≡ true = λ pos within. let here = slot-offset ws slot (get_or ws (8 + slot) 0) pos within offset in keyed-at ws _ _ k here.0 here.1 in
          elim (last-in (used_in_chain (read_chain ws)) 18 (nodes_of ws) (up_to slot (nodes_of ws)) k.few k.offsets (up_to-le slot (nodes_of ws))) [
            | inl e ↦ let f = e.1 in let z = e.0 in record { at = λ h. offset; low = omega arith; high = omega arith; is_record = λ pos within. absurd (let s = up_to-some slot (nodes_of ws) pos within in omega arith); keyed = keyed }
            | inr e ↦ let f = e.0 in let z = e.1 in record { at = λ h. offset; low = omega arith; high = omega arith; is_record = λ pos within. omega arith; keyed = keyed }
          ]
      | inr ge ↦
          let e : slot ≡ length (owners (nodes_of ws)) = omega arith in
          let is : get_or ws (8 + slot) 0 ≡ 19 = word ∙ (ap (λ i. get_or (18 ∷ owners (nodes_of ws)) i 0) e ∙ owner-last 18 (nodes_of ws)) in
          record { at = λ h. absurd (omega arith); low = omega arith; high = omega arith; is_record = λ pos within. absurd (omega arith); keyed = λ pos within. absurd (omega arith) }
    ]

-- where the chain goes on behind its first k records
pub next-is : (ws : List ℕ) (k offset : ℕ) → Known ws → k ≤ length (nodes_of ws) → offset ≡ last_from 18 (take k (nodes_of ws)) → get_or ws offset 0 % 256 ≡ first_of (drop k (nodes_of ws))
next-is ws k offset kn le at =
    let start = kn.is.shape.start in
    let low : first_of (nodes_of ws) < 256 = elim (first-in (used_in_chain (read_chain ws)) (nodes_of ws) 0 kn.few kn.offsets (omega arith)) [ inl e ↦ (let f = e.0 in omega arith) | inr e ↦ (let f = e.1.0 in omega arith) ] in
    ap (λ i. get_or ws i 0 % 256) at ∙ link-at ws (used_in_chain (read_chain ws)) 18 (nodes_of ws) (read_chain ws).last k kn.few kn.offsets (omega arith) kn.is.shape.chained le

-- the record at an offset of the chain
pub record-is : (ws : List ℕ) (k offset : ℕ) → Known ws → k < length (nodes_of ws) → offset ≡ first_of (drop k (nodes_of ws)) → slice_get (records_of ws) k ≡ Some (key_at ws offset, get_or ws (offset + 3) 0)
record-is ws k offset kn lt at = ap (λ (rs : Pairs). slice_get rs k) kn.records ∙ (record-at ws (nodes_of ws) k lt ∙ ap (λ i. Some (key_at ws i, get_or ws (i + 3) 0)) (sym at))

-- a slot whose owner is below the key, and one at or behind a slot whose owner is not
pub slot-record : (ws : List ℕ) (slot offset : ℕ) → Known ws → 0 < slot → slot < length (owners (nodes_of ws)) → offset ≡ last_from 18 (take (up_to slot (nodes_of ws)) (nodes_of ws))
    → slice_get (records_of ws) (up_to slot (nodes_of ws) - 1) ≡ Some (key_at ws offset, get_or ws (offset + 3) 0)
slot-record ws slot offset kn pos lt at =
    let here = slot-offset ws slot offset pos lt at in
    record-is ws (up_to slot (nodes_of ws) - 1) offset kn here.0 here.1

pub slot-below : (ws : List ℕ) (slot offset : ℕ) (key : MapKey) → Known ws → 0 < slot → slot < length (owners (nodes_of ws)) → offset ≡ last_from 18 (take (up_to slot (nodes_of ws)) (nodes_of ws))
    → rank (key_at ws offset) < rank key → up_to slot (nodes_of ws) ≤ index_of key (records_of ws)
slot-below ws slot offset key kn pos lt at below =
    let some = up_to-some slot (nodes_of ws) pos lt in
    let r = index_of-behind_lower key 0 (records_of ws) end_rank (up_to slot (nodes_of ws) - 1) _ kn.rises (slot-record ws slot offset kn pos lt at) below in omega arith

pub slot-above : (ws : List ℕ) (slot later offset : ℕ) (key : MapKey) → Known ws → 0 < slot → slot < length (owners (nodes_of ws)) → slot ≤ later → offset ≡ last_from 18 (take (up_to slot (nodes_of ws)) (nodes_of ws))
    → rank key ≤ rank (key_at ws offset) → index_of key (records_of ws) < up_to later (nodes_of ws)
slot-above ws slot later offset key kn pos lt le at above =
    let some = up_to-some slot (nodes_of ws) pos lt in
    let more = up_to-grows slot later (nodes_of ws) le in
    let r = index_of-not_behind key (records_of ws) (up_to slot (nodes_of ws) - 1) _ (slot-record ws slot offset kn pos lt at) above in omega arith

-- a walk from behind the first records on, so many steps
pub record Walk (ws : List ℕ) (key : MapKey) (first before at step : ℕ) : Type 0 where
  pub number : ℕ
  pub number_is : number ≡ first + step
  pub within : number ≤ length (nodes_of ws)
  pub low : number ≤ index_of key (records_of ws)
  pub before_is : before ≡ last_from 18 (take number (nodes_of ws))
  pub at_is : at ≡ first_of (drop number (nodes_of ws))

pub walk-offset : (ws : List ℕ) (key : MapKey) (first before at step : ℕ) → Known ws → Walk ws key first before at step → (at ≡ 19 → ⊥) → (20 ≤ at) × ((at ≤ 156) × (0 < 1))
walk-offset ws key first before at step kn w ne = elim (first-in (used_in_chain (read_chain ws)) (nodes_of ws) w.number kn.few kn.offsets w.within) [
  | inl e ↦ absurd (ne (w.at_is ∙ e.0))
  | inr e ↦ let a = e.0 in let b = e.1.0 in let i = w.at_is in (omega arith, (omega arith, omega arith))
]

pub walk-on : (ws : List ℕ) (key : MapKey) (first before at step next : ℕ) → Known ws → Walk ws key first before at step → (at ≡ 19 → ⊥) → rank (key_at ws at) < rank key
    → ((k : ℕ) → k ≤ length (nodes_of ws) → at ≡ last_from 18 (take k (nodes_of ws)) → next ≡ first_of (drop k (nodes_of ws))) → Walk ws key first at next (step + 1)
walk-on ws key first before at step next kn w ne below reads = elim (first-in (used_in_chain (read_chain ws)) (nodes_of ws) w.number kn.few kn.offsets w.within) [
  | inl e ↦ absurd (ne (w.at_is ∙ e.0))
  | inr e ↦
      let lt = e.1.1 in
      let last : at ≡ last_from 18 (take (suc w.number) (nodes_of ws)) = w.at_is ∙ sym (last-first 18 (nodes_of ws) w.number lt) in
      let r = index_of-behind_lower key 0 (records_of ws) end_rank w.number _ kn.rises (record-is ws w.number at kn lt w.at_is) below in
      let number = w.number_is in
      record { number = suc w.number; number_is = omega arith; within = omega arith; low = omega arith; before_is = last; at_is = reads (suc w.number) (omega arith) last }
]

-- where the walk ends is the offset of the key
pub walk-end : (ws : List ℕ) (key : MapKey) (first before at step : ℕ) → Known ws → (w : Walk ws key first before at step) → (at ≡ 19) ⊎ (rank key ≤ rank (key_at ws at)) → w.number ≡ index_of key (records_of ws)
walk-end ws key first before at step kn w ends =
    let most = index_of-le key (records_of ws) in
    let long = kn.long in
    let low = w.low in
    elim (first-in (used_in_chain (read_chain ws)) (nodes_of ws) w.number kn.few kn.offsets w.within) [
      | inl e ↦ let f = e.1 in omega arith
      | inr e ↦ elim ends [
        | inl is ↦ absurd (let a = w.at_is in let b = e.0 in omega arith)
        | inr above ↦ let r = index_of-not_behind key (records_of ws) w.number _ (record-is ws w.number at kn e.1.1 w.at_is) above in omega arith
      ]
    ]

pub walk-full : (ws : List ℕ) (key : MapKey) (first before at step : ℕ) → Known ws → Walk ws key first before at step → 35 ≤ step → at ≡ 19
walk-full ws key first before at step kn w full = elim (first-in (used_in_chain (read_chain ws)) (nodes_of ws) w.number kn.few kn.offsets w.within) [
  | inl e ↦ w.at_is ∙ e.0
  | inr e ↦ absurd (let lt = e.1.1 in let number = w.number_is in let few = kn.few in omega arith)
]

pub walk-start : (ws : List ℕ) (key : MapKey) (slot before at : ℕ) → Known ws → up_to slot (nodes_of ws) ≤ index_of key (records_of ws) → before ≡ last_from 18 (take (up_to slot (nodes_of ws)) (nodes_of ws))
    → ((k : ℕ) → k ≤ length (nodes_of ws) → before ≡ last_from 18 (take k (nodes_of ws)) → at ≡ first_of (drop k (nodes_of ws))) → Walk ws key (up_to slot (nodes_of ws)) before at 0
walk-start ws key slot before at kn low is reads = record { number = up_to slot (nodes_of ws); number_is = omega arith; within = up_to-le slot (nodes_of ws); low = low; before_is = is; at_is = reads _ (up_to-le slot (nodes_of ws)) is }

pub walk-low : (ws : List ℕ) (key : MapKey) (first before at step : ℕ) → Known ws → Walk ws key first before at step → at ≤ 156
walk-low ws key first before at step kn w = elim (first-in (used_in_chain (read_chain ws)) (nodes_of ws) w.number kn.few kn.offsets w.within) [
  | inl e ↦ let a = e.0 in let i = w.at_is in omega arith
  | inr e ↦ let a = e.1.0 in let i = w.at_is in omega arith
]

pub walk-keyed : (ws : List ℕ) (key : MapKey) (first before at step : ℕ) → Known ws → Walk ws key first before at step → (at ≡ 19 → ⊥) → is_key_at ws at ≡ true
walk-keyed ws key first before at step kn w ne = elim (first-in (used_in_chain (read_chain ws)) (nodes_of ws) w.number kn.few kn.offsets w.within) [
  | inl e ↦ absurd (ne (w.at_is ∙ e.0))
  | inr e ↦ keyed-at ws w.number at kn e.1.1 w.at_is
]

-- the two offsets where the key stands
pub walk-before : (ws : List ℕ) (key : MapKey) (first before at step : ℕ) → Known ws → Walk ws key first before at step → (at ≡ 19) ⊎ (rank key ≤ rank (key_at ws at)) → before ≡ last_from 18 (take (index_of key (records_of ws)) (nodes_of ws))
walk-before ws key first before at step kn w ends = w.before_is ∙ ap (λ n. last_from 18 (take n (nodes_of ws))) (walk-end ws key first before at step kn w ends)

pub walk-at : (ws : List ℕ) (key : MapKey) (first before at step : ℕ) → Known ws → Walk ws key first before at step → (at ≡ 19) ⊎ (rank key ≤ rank (key_at ws at)) → at ≡ first_of (drop (index_of key (records_of ws)) (nodes_of ws))
walk-at ws key first before at step kn w ends = w.at_is ∙ ap (λ n. first_of (drop n (nodes_of ws))) (walk-end ws key first before at step kn w ends)

-- how many steps lead there
pub walk-steps : (ws : List ℕ) (key : MapKey) (first before at step : ℕ) → Known ws → Walk ws key first before at step → (at ≡ 19) ⊎ (rank key ≤ rank (key_at ws at)) → first + step ≡ index_of key (records_of ws)
walk-steps ws key first before at step kn w ends = sym w.number_is ∙ walk-end ws key first before at step kn w ends

-- the records of a page ascend
pub records_ascend : (ws : List ℕ) → HoldsTree (page_of ws) → Rises 0 (records_of ws) end_rank
records_ascend ws holds = (known ws holds).rises

pub size-of : (ws : List ℕ) → HoldsTree (page_of ws) → length ws ≡ PAGE_WORDS
size-of ws holds = (known ws holds).size

-- a walk along the chain from its start
pub chain-start : (ws : List ℕ) → HoldsTree (page_of ws) → get_or ws 18 0 % 256 ≡ first_of (drop 0 (nodes_of ws))
chain-start ws holds = next-is ws 0 18 (known ws holds) (omega arith) refl

pub chain-on : (ws : List ℕ) (k at : ℕ) → HoldsTree (page_of ws) → k < length (nodes_of ws) → at ≡ first_of (drop k (nodes_of ws)) → get_or ws at 0 % 256 ≡ first_of (drop (k + 1) (nodes_of ws))
chain-on ws k at holds lt is =
    let e : suc k ≡ k + 1 = omega arith in
    ap (λ i. get_or ws i 0 % 256) (is ∙ sym (last-first 18 (nodes_of ws) k lt)) ∙ (next-is ws (suc k) _ (known ws holds) (omega arith) refl ∙ ap (λ n. first_of (drop n (nodes_of ws))) e)

pub chain-within : (ws : List ℕ) (k at : ℕ) → HoldsTree (page_of ws) → k < length (nodes_of ws) → at ≡ first_of (drop k (nodes_of ws)) → at ≤ 156
chain-within ws k at holds lt is =
    let kn = known ws holds in
    elim (first-in (used_in_chain (read_chain ws)) (nodes_of ws) k kn.few kn.offsets (omega arith)) [ inl e ↦ (let a = e.0 in omega arith) | inr e ↦ (let a = e.1.0 in omega arith) ]

pub nodes-length : (ws : List ℕ) → HoldsTree (page_of ws) → length (records_of ws) ≡ length (nodes_of ws)
nodes-length ws holds = (known ws holds).long

pub chain-record : (ws : List ℕ) (k at : ℕ) → HoldsTree (page_of ws) → k < length (nodes_of ws) → at ≡ first_of (drop k (nodes_of ws)) → slice_get (records_of ws) k ≡ Some (key_at ws at, get_or ws (at + 3) 0)
chain-record ws k at holds lt is = record-is ws k at (known ws holds) lt is
