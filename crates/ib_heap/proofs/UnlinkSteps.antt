-- The calls that take a record out, joined.
use Rattle.std.proofs.Common.{◌≡◌, ℕ, zero, suc, ◌+◌, ◌-◌, ◌*◌, ◌%◌, ◌<◌, ◌≤◌, ◌≢◌, ◌⊎◌, [], ◌∷◌, ◌∙◌, List, length, take, drop, get_or, refl, ap, sym, arith, inl, inr, subst, Option, Some, None, slice_get, IsSomeAnd, true}
use Rattle.std.specs.List.{remove}
use Rattle.std.proofs.lemmas.Bool.{cases_eq, eq-eqb, ne_eqb, cases_lt}
use Rattle.std.proofs.lemmas.Option.{slice_get_past}
use Rattle.ib_map.specs.Keys.{MapKey, rank, end_rank}
use Rattle.ib_map.specs.Pairs.{Pairs, without, value_at, index_of}
use Rattle.ib_map.proofs.IndexLaws.{value_at-index, remove-index}
use Rattle.ib_heap.specs.Chain.{key_at, Node, first_of, owners, times, offsets_of, records_in, used_in_chain, page_with, last_from, nodes_of, read_chain, is_shaped}
use Rattle.ib_heap.specs.Image.{records_of}
use Rattle.ib_heap.specs.ChainPut.{owner_from}
use Rattle.ib_heap.specs.ChainTake.{unlink_node, unlink_last, unlink_from_chain, own_one_fewer}
use Rattle.ib_heap.specs.Kept.{IsKept}
use Rattle.ib_heap.specs.Steps.{IsOffsetOfKey, IsLinkedPast, IsHandedOver, IsGivenBack}
use Rattle.ib_heap.proofs.KeptLaws.{kept-fixed, kept-offset}
use Rattle.ib_heap.proofs.HeapLaws.{Chained, Directory, Shaped-Decides}
use Rattle.ib_heap.proofs.SeekLaws.{Known, directory-at, first-in, last-first, record-is, header_owned, node-word}
use Rattle.ib_heap.proofs.PutLaws.{owner-in, times-drop, Apart, first-member, apart-next, times-apart}
use Rattle.ib_heap.proofs.SplitLaws.{first-offsets}
use Rattle.ib_heap.proofs.PutShape.{before-in, low-node}
use Rattle.ib_heap.proofs.PutHeap.{slot-number}
use Rattle.ib_heap.proofs.ShapeLaws.{Offsets, offsets-known, directory-same}
use Rattle.ib_heap.proofs.PutPage.{in-slot, middle-apart, neighbours-apart, HeaderWord, before-word, owner-word, owned-some}
use Rattle.ib_heap.proofs.CountLaws.{offsets-own_one_fewer}
use Rattle.ib_heap.proofs.UnlinkLaws.{At, first-unlink, chain-unlink, chain-unlink-owner, owners-unlink, owners-unlink-owner, SetAt, length-unlink}
use Rattle.ib_heap.proofs.RemoveShape.{directory-set, UnlinkWords, unlink-shaped, unlink-page}
use Rattle.ib_heap.proofs.SlotLaws.{count, owner-count, owner-skip, owner-here, owner-before, first-none}

unlink-zero : (xs : List Node) → 0 < length xs → first_of (unlink_node 0 xs) ≡ first_of (drop 1 xs)
unlink-zero [] lt = absurd (omega arith)
unlink-zero (x ∷ xs) lt = first-offsets (own_one_fewer xs) xs (offsets-own_one_fewer xs)

module _ (ws : List ℕ) (key : MapKey) (slot before at : ℕ) (kn : Known ws) (st : IsOffsetOfKey ws key slot before at) (found : value_at key (records_of ws) ≢ None) where
  abbrev k : ℕ
  k = index_of key (records_of ws)

  abbrev nodes : List Node
  nodes = nodes_of ws

  abbrev l : ℕ
  l = (read_chain ws).last

  abbrev own : ℕ
  own = get_or ws (8 + slot) 0

  no-value : slice_get (records_of ws) k ≡ None → value_at key (records_of ws) ≡ None
  no-value z = rw z at (value_at-index key 0 (records_of ws) end_rank kn.rises)

  pub lt : k < length nodes
  lt = elim (cases_lt k (length (records_of ws))) [
    | inl within ↦ (let n = kn.long in omega arith)
    | inr past ↦ absurd (found (no-value (slice_get_past (records_of ws) k past)))
  ]

  pub found-record : slice_get (records_of ws) k ≡ Some (key_at ws at, get_or ws (at + 3) 0)
  found-record = record-is ws k at kn lt st.at_is

  pub same-rank : rank (key_at ws at) ≡ rank key
  same-rank = elim (cases_eq (rank (key_at ws at)) (rank key)) [
    | inl e ↦ e
    | inr ne ↦ absurd (found (rw (found-record, ne_eqb (rank (key_at ws at)) (rank key) ne) at (value_at-index key 0 (records_of ws) end_rank kn.rises)))
  ]

  pub value-is : value_at key (records_of ws) ≡ Some (get_or ws (at + 3) 0)
  value-is = rw (found-record, eq-eqb (rank (key_at ws at)) (rank key) same-rank) at (value_at-index key 0 (records_of ws) end_rank kn.rises)

  gone : remove (records_in ws nodes) k ≡ without key (records_in ws nodes)
  gone = subst (λ (rs : Pairs). remove rs k ≡ without key rs) kn.records
      (remove-index key 0 (records_of ws) end_rank k kn.rises refl (subst (λ (o : Option (MapKey × ℕ)). IsSomeAnd o (λ pair. rank pair.0 ≡ rank key)) (sym found-record) same-rank))

  value-in : value_at key (records_in ws nodes) ≡ Some (get_or ws (at + 3) 0)
  value-in = subst (λ (rs : Pairs). value_at key rs ≡ Some (get_or ws (at + 3) 0)) kn.records value-is

  k_le : k ≤ length nodes
  k_le = let a = lt in omega arith

  offsets : Offsets (read_chain ws)
  offsets = offsets-known (read_chain ws) kn.is.shape.offsets kn.is.shape.once

  pub apart : Apart nodes
  apart = offsets.apart

  pub slot-is : count k nodes ≡ slot
  slot-is = let s = slot-number (slot - 1) k nodes (in-slot slot k nodes st.some st.in_range st.low st.high) k_le in let z = st.some in omega arith

  own-is : own ≡ owner_from (drop k nodes)
  own-is =
      let s = kn.slots in let r = st.in_range in
      directory-at ws 10 8 (18 ∷ owners nodes) slot kn.is.shape.directory (omega arith)
      ∙ (ap (λ i. get_or (18 ∷ owners nodes) i 0) (sym slot-is) ∙ owner-count 18 k nodes k_le)

  at-in : 0 < times at (offsets_of nodes)
  at-in = subst (λ (q : ℕ). 0 < times q (offsets_of nodes)) (sym st.at_is) (first-member k nodes lt)

  pub at-range : (20 ≤ at) × (at ≤ 156)
  at-range = let l = low-node ws kn at at-in in let a = l.is in let b = l.below in (omega arith, omega arith)

  before-cases : ((k ≡ 0) × (before ≡ 18)) ⊎ ((0 < k) × (0 < times before (offsets_of nodes)))
  before-cases = elim (before-in k nodes k_le) [ inl e ↦ inl (e.0, st.before_is ∙ e.1) | inr m ↦ inr (m.0, subst (λ (q : ℕ). 0 < times q (offsets_of nodes)) (sym st.before_is) m.1) ]

  pub before-range : (18 ≤ before) × (before ≤ 156)
  before-range = elim before-cases [ inl e ↦ (let f = e.1 in (omega arith, omega arith)) | inr m ↦ (let l = low-node ws kn before m.1 in let a = l.is in let b = l.below in (omega arith, omega arith)) ]

  own-cases : (own ≡ 19) ⊎ (0 < times own (offsets_of nodes))
  own-cases = elim (owner-in (drop k nodes)) [ inl e ↦ inl (own-is ∙ e) | inr m ↦ inr (subst (λ (q : ℕ). 0 < times q (offsets_of nodes)) (sym own-is) (let t = times-drop k (owner_from (drop k nodes)) nodes in omega arith)) ]

  pub own-range : (19 ≤ own) × (own ≤ 156)
  own-range = elim own-cases [ inl e ↦ (omega arith, omega arith) | inr m ↦ (let l = low-node ws kn own m in let a = l.is in let b = l.below in (omega arith, omega arith)) ]

  pub slot-range : slot ≤ 9
  slot-range = let s = kn.slots in let r = st.in_range in omega arith

  next-low : first_of (drop (suc k) nodes) < 256
  next-low = elim (first-in (used_in_chain (read_chain ws)) nodes (suc k) kn.few kn.offsets (let a = lt in omega arith)) [ inl z ↦ (let y = z.0 in omega arith) | inr z ↦ (let y = z.1.0 in omega arith) ]

  at-word : get_or ws at 0 ≡ header_owned (drop k nodes) * 256 + first_of (drop (suc k) nodes)
  at-word = ap (λ n. get_or ws n 0) st.at_is ∙ node-word ws k nodes l lt kn.is.shape.chained

  next-is : get_or ws at 0 % 256 ≡ first_of (drop (suc k) nodes)
  next-is = let a = at-word in let b = next-low in omega arith

  before-header : HeaderWord (get_or ws before 0) at 8
  before-header =
      let s = kn.is.shape.start in
      let h = before-word ws 18 0 k nodes l (record { owned = 1; is = omega arith; few = omega arith }) kn.is.shape.chained kn.is.owned k_le in
      record { owned = h.owned; is = ap (λ n. get_or ws n 0) st.before_is ∙ (h.is ∙ ap (λ n. h.owned * 256 + n) (sym st.at_is)); few = h.few }

  pub at-le : at ≤ get_or ws before 0
  at-le = let h = before-header in let i = h.is in omega arith

  pub before-few : get_or ws before 0 < 65536
  before-few = let h = before-header in let i = h.is in let f = h.few in let r = at-range in let b = r.1 in omega arith

  pub own-word : 256 ≤ get_or ws own 0
  own-word =
      let o = owner-word ws (used_in_chain (read_chain ws)) k nodes l kn.few kn.offsets kn.is.shape.chained k_le in
      let s = owned-some 0 k nodes l kn.is.owned in
      let i = o.is in
      let e : get_or ws own 0 ≡ get_or ws (owner_from (drop k nodes)) 0 = ap (λ n. get_or ws n 0) own-is in omega arith

  pub two : before ≢ own
  two z = neighbours-apart k nodes apart k_le (sym st.before_is ∙ (z ∙ own-is))

  pub count-some : 0 < get_or ws 2 0
  count-some = let c = kn.is.shape.count in let a = lt in omega arith

  pub plain : (at ≡ own → ⊥) → header_owned (drop k nodes) ≡ 0
  plain ne = elim (cases_eq (header_owned (drop k nodes)) 0) [
    | inl e ↦ e
    | inr some ↦ absurd (ne (st.at_is ∙ (sym (owner-here k nodes lt some) ∙ sym own-is)))
  ]

  pub owning : at ≡ own → header_owned (drop k nodes) ≡ 0 → ⊥
  owning e none = middle-apart k nodes apart lt (sym st.at_is ∙ (e ∙ (own-is ∙ owner-skip k nodes lt none)))

  -- a word that is neither the offset taken out nor its neighbours
  kept-member : (i q : ℕ) → IsKept (used_in_chain (read_chain ws)) i → 0 < times q (offsets_of nodes) → i ≢ q
  kept-member i q kept m = kept-offset (used_in_chain (read_chain ws)) i q kept (offsets.offset q (omega arith))

  kept-at : (i : ℕ) → IsKept (used_in_chain (read_chain ws)) i → i ≢ at
  kept-at i kept = kept-member i at kept at-in

  kept-before : (i : ℕ) → IsKept (used_in_chain (read_chain ws)) i → i ≢ before
  kept-before i kept = elim before-cases [ inl e ↦ (let b = e.1 in kept-fixed _ i before kept (inr (omega arith, omega arith))) | inr m ↦ kept-member i before kept m.1 ]

  kept-own : (i : ℕ) → IsKept (used_in_chain (read_chain ws)) i → i ≢ own
  kept-own i kept = elim own-cases [ inl e ↦ kept-fixed _ i own kept (inr (omega arith, omega arith)) | inr m ↦ kept-member i own kept m ]

  -- as many offsets are used as before
  pub used-unlink : used_in_chain (unlink_from_chain k (read_chain ws)) ≡ used_in_chain (read_chain ws)
  used-unlink = let c = length-unlink k nodes lt in omega arith

  -- no offset of the chain
  at-high : (q : ℕ) → At q nodes → 19 ≤ q
  at-high q m = elim m [ inl n ↦ (let w = low-node ws kn q n in let a = w.is in omega arith) | inr e ↦ omega arith ]

  not-first : (q : ℕ) → q ≢ first_of (drop k nodes) → q ≢ at
  not-first q ne z = ne (z ∙ st.at_is)

  -- a record that owns no slot
  module _ (w1 w2 : List ℕ) (none : header_owned (drop k nodes) ≡ 0) (u : IsLinkedPast ws w1 before at own) (g : IsGivenBack w1 w2 at) where
    not-own-at : at ≢ own
    not-own-at z = owning z none

    both : (i : ℕ) → i ≢ 2 → i ≢ 6 → i ≢ at → i ≢ before → i ≢ own → get_or w2 i 0 ≡ get_or ws i 0
    both i a b d e f = g.other i a b d ∙ u.other i e f

    own-next : own ≡ owner_from (drop (suc k) nodes)
    own-next = own-is ∙ owner-skip k nodes lt none

    before-not-at : before ≢ at
    before-not-at = elim before-cases [
      | inl e ↦ (λ z. absurd (let f = e.1 in let r = at-range in let a = r.0 in omega arith))
      | inr m ↦ (λ z. absurd (let h = before-header in let i = h.is in last-not-first k nodes apart lt m.0 (sym st.before_is ∙ (z ∙ st.at_is))))
    ]
      where
        last-not-first : (i : ℕ) (xs : List Node) → Apart xs → i < length xs → 0 < i → last_from 18 (take i xs) ≡ first_of (drop i xs) → ⊥
        last-not-first zero xs ap1 l some e = absurd (omega arith)
        last-not-first (suc j) xs ap1 l some e = apart-next j xs ap1 l (sym (last-first 18 xs j (omega arith)) ∙ e)

    small : (i : ℕ) → i < 18 → (i ≢ at) × ((i ≢ before) × (i ≢ own))
    small i lt1 = let a = at-range.0 in let b = before-range.0 in let d = own-range.0 in (λ z. absurd (omega arith), (λ z. absurd (omega arith), λ z. absurd (omega arith)))

    before-two : get_or w2 before 0 ≡ get_or w1 before 0
    before-two = let b = before-range.0 in g.other before (λ z. absurd (omega arith)) (λ z. absurd (omega arith)) before-not-at

    own-two : get_or w2 own 0 ≡ get_or w1 own 0
    own-two = let b = own-range.0 in g.other own (λ z. absurd (omega arith)) (λ z. absurd (omega arith)) (λ z. not-own-at (sym z))

    link-now : get_or w2 before 0 + at ≡ get_or ws before 0 + first_of (drop (suc k) nodes)
    link-now = let a = before-two in let b = u.link in let d = next-is in omega arith

    start-now : get_or w2 18 0 ≡ 256 + first_of (unlink_node k nodes)
    start-now = go k refl
      where
        go : (j : ℕ) → k ≡ j → get_or w2 18 0 ≡ 256 + first_of (unlink_node k nodes)
        go zero e =
            let s = kn.is.shape.start in
            let bi : before ≡ 18 = elim before-cases [ inl f ↦ f.1 | inr m ↦ absurd (let x = m.0 in omega arith) ] in
            let l1 : get_or w2 18 0 + at ≡ get_or ws 18 0 + first_of (drop (suc k) nodes) = subst (λ (b : ℕ). get_or w2 b 0 + at ≡ get_or ws b 0 + first_of (drop (suc k) nodes)) bi link-now in
            let a0 : at ≡ first_of nodes = st.at_is ∙ ap (λ n. first_of (drop n nodes)) e in
            let c0 : first_of (unlink_node k nodes) ≡ first_of (drop (suc k) nodes) = ap (λ n. first_of (unlink_node n nodes)) e ∙ (unlink-zero nodes (let a = lt in omega arith) ∙ ap (λ n. first_of (drop (suc n) nodes)) (sym e)) in
            omega arith
        go (suc j) e =
            let nb : 18 ≢ before = elim before-cases [ inl f ↦ (λ z. absurd (let x = f.0 in omega arith)) | inr m ↦ (λ z. absurd (let w = low-node ws kn before m.1 in let a = w.is in omega arith)) ] in
            let a = at-range.0 in let o = own-range.0 in
            both 18 (λ z. absurd (omega arith)) (λ z. absurd (omega arith)) (λ z. absurd (omega arith)) nb (λ z. absurd (omega arith))
            ∙ (kn.is.shape.start ∙ (ap (λ n. 256 + n) (sym (first-unlink j nodes)) ∙ ap (λ n. 256 + first_of (unlink_node n nodes)) (sym e)))

    unlink-words : UnlinkWords ws w2 (read_chain ws) k
    unlink-words =
        let s2 = small 2 (omega arith) in let s6 = small 6 (omega arith) in
        record {
          size = g.size ∙ (u.size ∙ kn.is.shape.size);
          count = (let c = g.count in let o = u.other 2 s2.1.0 s2.1.1 in omega arith);
          front = g.front ∙ st.at_is;
          freed = ap (λ n. get_or w2 n 0) (sym st.at_is) ∙ (g.freed ∙ u.other 6 s6.1.0 s6.1.1);
          start = start-now;
          other = λ i a b far no nine. both i a b (times-apart i at (offsets_of nodes) no at-in)
              (elim before-cases [ inl e ↦ (λ z. elim far [ inl f ↦ absurd (let x = e.1 in omega arith) | inr f ↦ absurd (let x = e.1 in omega arith) ]) | inr m ↦ times-apart i before (offsets_of nodes) no m.1 ])
              (elim own-cases [ inl e ↦ (λ z. nine (z ∙ e)) | inr m ↦ times-apart i own (offsets_of nodes) no m ]);
        }

    chained-now : Chained w2 (unlink_node k nodes) (unlink_last k nodes l)
    chained-now = chain-unlink ws w2 18 k nodes l lt kn.is.shape.chained apart none
        (subst (λ (b : ℕ). get_or w2 b 0 + first_of (drop k nodes) ≡ get_or ws b 0 + first_of (drop (suc k) nodes)) st.before_is (subst (λ (a : ℕ). get_or w2 before 0 + a ≡ get_or ws before 0 + first_of (drop (suc k) nodes)) st.at_is link-now))
        (subst (λ (o : ℕ). get_or w2 o 0 + 256 ≡ get_or ws o 0) own-next (let a = own-two in let b = u.lowered in omega arith))
        (λ q m na nb no. let h = at-high q m in both q (λ z. absurd (omega arith)) (λ z. absurd (omega arith)) (not-first q na) (λ z. nb (z ∙ st.before_is)) (λ z. no (z ∙ own-next)))
        (λ q m z. absurd (let h = at-high q m in omega arith))

    slots-now : owners (unlink_node k nodes) ≡ owners nodes
    slots-now = owners-unlink k 0 nodes l lt kn.is.owned none

    directory-now : Directory w2 10 8 (18 ∷ owners (unlink_node k nodes))
    directory-now = subst (λ (os : List ℕ). Directory w2 10 8 (18 ∷ os)) (sym slots-now)
        (directory-same ws w2 10 8 (18 ∷ owners nodes) kn.is.shape.directory (λ j a b. let s = small j (omega arith) in both j (λ z. absurd (omega arith)) (λ z. absurd (omega arith)) s.0 s.1.0 s.1.1))

    pub plain-shaped : is_shaped w2 (unlink_from_chain k (read_chain ws)) ≡ true
    plain-shaped = (Shaped-Decides w2 (unlink_from_chain k (read_chain ws))).1
        (unlink-shaped ws w2 (read_chain ws) k key (get_or ws (at + 3) 0) kn.is lt unlink-words gone value-in chained-now directory-now (ap length slots-now))

    pub plain-page : page_with w2 (records_in w2 (unlink_node k nodes)) ≡ page_with ws (without key (records_of ws))
    plain-page = unlink-page ws w2 (read_chain ws) k key (get_or ws (at + 3) 0) kn.is lt unlink-words gone value-in ∙ ap (λ (rs : Pairs). page_with ws (without key rs)) (sym kn.records)

    pub plain-kept : (i : ℕ) → IsKept (used_in_chain (read_chain ws)) i → get_or w2 i 0 ≡ get_or ws i 0
    plain-kept i kept = both i (kept-fixed _ i 2 kept (inl refl)) (kept-fixed _ i 6 kept (inr (omega arith, omega arith))) (kept-at i kept) (kept-before i kept) (kept-own i kept)

  -- a record that owns a slot
  module _ (w1 w2 : List ℕ) (some : header_owned (drop k nodes) ≡ 0 → ⊥) (u : IsHandedOver ws w1 before at slot) (g : IsGivenBack w1 w2 at) where
    both2 : (i : ℕ) → i ≢ 2 → i ≢ 6 → i ≢ at → i ≢ before → i ≢ 8 + slot → get_or w2 i 0 ≡ get_or ws i 0
    both2 i a b d e f = g.other i a b d ∙ u.other i e f

    module _ (j : ℕ) (kj : k ≡ suc j) where
      some-j : header_owned (drop (suc j) nodes) ≡ 0 → ⊥
      some-j z = some (ap (λ n. header_owned (drop n nodes)) kj ∙ z)

      lt-j : suc j < length nodes
      lt-j = let a = lt in omega arith

      before-j : before ≡ first_of (drop j nodes)
      before-j = st.before_is ∙ (ap (λ n. last_from 18 (take n nodes)) kj ∙ last-first 18 nodes j (let a = lt-j in omega arith))

      at-j : at ≡ first_of (drop (suc j) nodes)
      at-j = st.at_is ∙ ap (λ n. first_of (drop n nodes)) kj

      none-j : header_owned (drop j nodes) ≡ 0
      none-j = owner-before j 0 nodes l kn.is.owned lt-j some-j

      before-in2 : 0 < times before (offsets_of nodes)
      before-in2 = subst (λ (q : ℕ). 0 < times q (offsets_of nodes)) (sym before-j) (first-member j nodes (let a = lt-j in omega arith))

      before-high : 20 ≤ before
      before-high = let w = low-node ws kn before before-in2 in let a = w.is in omega arith

      before-at2 : before ≢ at
      before-at2 z = apart-next j nodes apart lt-j (sym before-j ∙ (z ∙ at-j))

      word2 : get_or w2 (first_of (drop j nodes)) 0 ≡ (header_owned (drop (suc j) nodes) - 1) * 256 + first_of (drop (suc (suc j)) nodes)
      word2 =
          let h = before-high in
          let a : get_or w2 before 0 ≡ get_or w1 before 0 = g.other before (λ z. absurd (omega arith)) (λ z. absurd (omega arith)) before-at2 in
          let b = u.link in
          let d : get_or ws at 0 ≡ header_owned (drop (suc j) nodes) * 256 + first_of (drop (suc (suc j)) nodes) = at-word ∙ ap (λ n. header_owned (drop n nodes) * 256 + first_of (drop (suc n) nodes)) kj in
          let e : get_or w2 (first_of (drop j nodes)) 0 ≡ get_or w2 before 0 = ap (λ n. get_or w2 n 0) (sym before-j) in
          let s = some-j in
          omega (arith, s)

      start2 : get_or w2 18 0 ≡ 256 + first_of (unlink_node k nodes)
      start2 =
          let h = before-high in let a = at-range.0 in let s = slot-range in
          both2 18 (λ z. absurd (omega arith)) (λ z. absurd (omega arith)) (λ z. absurd (omega arith)) (λ z. absurd (omega arith)) (λ z. absurd (omega arith))
          ∙ (kn.is.shape.start ∙ (ap (λ n. 256 + n) (sym (first-unlink j nodes)) ∙ ap (λ n. 256 + first_of (unlink_node n nodes)) (sym kj)))

      words2 : UnlinkWords ws w2 (read_chain ws) k
      words2 =
          let h = before-high in let sl = slot-range in
          record {
            size = g.size ∙ (u.size ∙ kn.is.shape.size);
            count = (let c = g.count in let o = u.other 2 (λ z. absurd (omega arith)) (λ z. absurd (omega arith)) in omega arith);
            front = g.front ∙ st.at_is;
            freed = ap (λ n. get_or w2 n 0) (sym st.at_is) ∙ (g.freed ∙ u.other 6 (λ z. absurd (omega arith)) (λ z. absurd (omega arith)));
            start = start2;
            other = λ i a b far no nine. both2 i a b (times-apart i at (offsets_of nodes) no at-in) (times-apart i before (offsets_of nodes) no before-in2) (λ z. elim far [ inl f ↦ absurd (omega arith) | inr f ↦ absurd (omega arith) ]);
          }

      chained2 : Chained w2 (unlink_node k nodes) (unlink_last k nodes l)
      chained2 = subst (λ (n : ℕ). Chained w2 (unlink_node n nodes) (unlink_last n nodes l)) (sym kj) (chain-unlink-owner ws w2 j nodes l lt-j kn.is.shape.chained apart some-j word2
          (λ q m na nb. let h = at-high q m in let s = slot-range in both2 q (λ z. absurd (omega arith)) (λ z. absurd (omega arith)) (λ z. na (z ∙ at-j)) (λ z. nb (z ∙ before-j)) (λ z. absurd (omega arith))))

      set2 : SetAt (slot - 1) (first_of (drop j nodes)) (owners nodes) (owners (unlink_node k nodes))
      set2 = subst (λ (n : ℕ). SetAt (slot - 1) (first_of (drop j nodes)) (owners nodes) (owners (unlink_node n nodes))) (sym kj)
          (owners-unlink-owner j 0 (slot - 1) nodes l lt-j kn.is.owned some-j none-j (let e : count (suc j) nodes ≡ slot = ap (λ n. count n nodes) (sym kj) ∙ slot-is in let p = st.some in omega arith))

      directory2 : Directory w2 10 8 (18 ∷ owners (unlink_node k nodes))
      directory2 =
          let p = st.some in let h = before-high in let a = at-range.0 in let s = slot-range in
          directory-set ws w2 (slot - 1) (first_of (drop j nodes)) (owners nodes) (owners (unlink_node k nodes)) kn.is.shape.directory set2
          (λ m ne l1. both2 (8 + m) (λ z. absurd (omega arith)) (λ z. absurd (omega arith)) (λ z. absurd (omega arith)) (λ z. absurd (omega arith)) (λ z. ne (omega arith)))
          (ap (λ n. get_or w2 n 0) (let e : 8 + suc (slot - 1) ≡ 8 + slot = omega arith in e) ∙ (g.other (8 + slot) (λ z. absurd (omega arith)) (λ z. absurd (omega arith)) (λ z. absurd (omega arith)) ∙ (u.here ∙ before-j)))

      owner-shaped-j : is_shaped w2 (unlink_from_chain k (read_chain ws)) ≡ true
      owner-shaped-j = (Shaped-Decides w2 (unlink_from_chain k (read_chain ws))).1
          (unlink-shaped ws w2 (read_chain ws) k key (get_or ws (at + 3) 0) kn.is lt words2 gone value-in chained2 directory2 set2.long)

      owner-page-j : page_with w2 (records_in w2 (unlink_node k nodes)) ≡ page_with ws (without key (records_of ws))
      owner-page-j = unlink-page ws w2 (read_chain ws) k key (get_or ws (at + 3) 0) kn.is lt words2 gone value-in ∙ ap (λ (rs : Pairs). page_with ws (without key rs)) (sym kn.records)

    pub owner-shaped : is_shaped w2 (unlink_from_chain k (read_chain ws)) ≡ true
    owner-shaped = go k refl
      where
        go : (i : ℕ) → k ≡ i → is_shaped w2 (unlink_from_chain k (read_chain ws)) ≡ true
        go zero e = absurd (some (ap (λ n. header_owned (drop n nodes)) e ∙ first-none nodes l kn.is.owned))
        go (suc j) e = owner-shaped-j j e

    pub owner-page : page_with w2 (records_in w2 (unlink_node k nodes)) ≡ page_with ws (without key (records_of ws))
    owner-page = go k refl
      where
        go : (i : ℕ) → k ≡ i → page_with w2 (records_in w2 (unlink_node k nodes)) ≡ page_with ws (without key (records_of ws))
        go zero e = absurd (some (ap (λ n. header_owned (drop n nodes)) e ∙ first-none nodes l kn.is.owned))
        go (suc j) e = owner-page-j j e

    pub owner-kept : (i : ℕ) → IsKept (used_in_chain (read_chain ws)) i → get_or w2 i 0 ≡ get_or ws i 0
    owner-kept i kept =
        let s = slot-range in
        both2 i (kept-fixed _ i 2 kept (inl refl)) (kept-fixed _ i 6 kept (inr (omega arith, omega arith))) (kept-at i kept) (kept-before i kept) (kept-fixed _ i (8 + slot) kept (inr (omega arith, omega arith)))
