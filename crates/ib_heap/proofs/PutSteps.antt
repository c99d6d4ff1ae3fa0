-- A put's calls, joined.
use Rattle.std.proofs.Common.{◌≡◌, ℕ, suc, ◌+◌, ◌-◌, ◌/◌, ◌%◌, ◌<◌, ◌≤◌, ◌≢◌, [], ◌∷◌, ◌∙◌, List, length, drop, get_or, refl, ap, sym, arith, inl, inr, subst, None}
use Rattle.std.proofs.lemmas.Bool.{cases_lt}
use Rattle.std.proofs.lemmas.List.{get_or_past}
use Rattle.ib_map.specs.Keys.{MapKey, rank, end_rank}
use Rattle.ib_map.specs.Pairs.{put, value_at, index_of}
use Rattle.ib_heap.specs.Page.{Page}
use Rattle.ib_heap.specs.Chain.{Node, Chain, first_of, owners, used_in_chain, page_with, read_chain, up_to, nodes_of, records_in, times, offsets_of}
use Rattle.ib_heap.specs.Form.{page_of}
use Rattle.ib_heap.specs.Image.{value_with_records, records_of}
use Rattle.ib_heap.specs.ChainPut.{owned_by, owner_from, give_slot, give_slot_last, chain_offset, rest_of, put_in_chain}
use Rattle.ib_heap.specs.Kept.{IsKept, IsOutside}
use Rattle.ib_heap.specs.Steps.{IsOffsetOfKey, IsOffsetTaken, IsLinkedIn, IsSlotSplit}
use Rattle.ib_heap.proofs.KeptLaws.{kept-offset, kept-far}
use Rattle.ib_heap.specs.Page.PageValue.{Tree}
use Rattle.ib_heap.proofs.PutHeap.{put-in-plain}
use Rattle.ib_heap.proofs.HeapLaws.{Owned, page-from, heap-read, AreOffsets-left, Shaped}
use Rattle.ib_heap.proofs.SeekLaws.{Known, directory-at, first-in, node-word}
use Rattle.ib_heap.proofs.PutLaws.{over_at-room, OverAt, times-append, first-member}
use Rattle.ib_heap.proofs.SplitLaws.{InSlot, split-owned}
use Rattle.ib_heap.proofs.SplitShape.{Group, group, slots-room}
use Rattle.ib_heap.proofs.SplitPage.{SplitWords, split_heap, split-page, split-shaped}
use Rattle.ib_heap.proofs.ShapeLaws.{Offsets, offsets-known, Gives, Written}
use Rattle.ib_heap.proofs.PutPage.{done_plain, k, nodes1, last1, owner_is, before_facts, owner_facts, two, before_header, at_low, owner_header, heap1, shaped1, over1, owner1, nine, Steps, steps, middle-apart}

gives-from : (ns : List Node) (last : ℕ) (free : List ℕ) (p : ℕ) → p ≡ chain_offset (record { nodes = ns; last = last; free = free }) → Gives (record { nodes = ns; last = last; free = free }) p (rest_of free)
gives-from ns last [] p e = inr (refl, (e, refl))
gives-from ns last (q ∷ qs) p e = inl (ap (λ n. n ∷ qs) (sym e))

pub taken-gives : (ws vs : List ℕ) (p : ℕ) → IsOffsetTaken ws vs p → Gives (read_chain ws) p (rest_of (read_chain ws).free)
taken-gives ws vs p h = gives-from (nodes_of ws) (read_chain ws).last (read_chain ws).free p h.offset

module _ (ws w1 : List ℕ) (key : MapKey) (slot before at p : ℕ) (kn : Known ws) (st : IsOffsetOfKey ws key slot before at) (few : length (nodes_of ws) < 35) (tk : IsOffsetTaken ws w1 p) where
  abbrev pub gv : Gives (read_chain ws) p (rest_of (read_chain ws).free)
  gv = taken-gives ws w1 p tk

  abbrev pub own : ℕ
  own = get_or ws (8 + slot) 0

  pub before-range : (18 ≤ before) × (before ≤ 156)
  before-range = let f = before_facts ws key slot before at p kn st few gv in (f.0, f.1.0)

  pub owner-range : (18 ≤ own) × (own ≤ 156)
  owner-range = let f = owner_facts ws key slot before at p kn st few gv in (f.0, f.1.0)

  pub apart-all : (before ≢ own) × (IsOutside p before × IsOutside p own)
  apart-all = (two ws key slot before at p kn st few gv, ((before_facts ws key slot before at p kn st few gv).1.1, (owner_facts ws key slot before at p kn st few gv).1.1))

  pub before-same : get_or w1 before 0 ≡ get_or ws before 0
  before-same = let r = before-range in let a = r.0 in tk.other before (λ z. absurd (omega arith)) (λ z. absurd (omega arith))

  pub owner-same : get_or w1 own 0 ≡ get_or ws own 0
  owner-same = let r = owner-range in let a = r.0 in tk.other own (λ z. absurd (omega arith)) (λ z. absurd (omega arith))

  pub at-le : at ≤ get_or w1 before 0
  at-le = let h = before_header ws key slot before at p kn st few gv in let i = h.is in let s = before-same in omega arith

  pub before-low : get_or w1 before 0 < 65536
  before-low = let h = before_header ws key slot before at p kn st few gv in let i = h.is in let s = before-same in let f = h.few in let l = at_low ws key slot before at p kn st few gv in omega arith

  pub owner-low : get_or w1 own 0 < 65536
  owner-low = let s = owner-same in let l = owner_header ws key slot before at p kn st few gv in omega arith

  pub count-low : get_or w1 2 0 < 65536
  count-low = let c = kn.is.shape.count in let o = tk.other 2 (λ z. absurd (omega arith)) (λ z. absurd (omega arith)) in omega arith

  module _ (vs : List ℕ) (value : ℕ) (lk : IsLinkedIn w1 vs before at own p key value) (absent : value_at key (records_of ws) ≡ None) (in_range : rank key < end_rank) where
    pub written : Written ws vs (read_chain ws) (index_of key (records_of ws)) p key value (rest_of (read_chain ws).free)
    written =
        let o_is = owner_is ws key slot before at p kn st few gv in
        let bs = before-same in let os = owner-same in
        let pl = tk.low in
        record {
          size = lk.size ∙ (tk.size ∙ kn.is.shape.size);
          offset_word = lk.offset_word ∙ st.at_is;
          key_word = lk.key_word;
          is_key = lk.is_key;
          value_word = lk.value_word;
          link = subst (λ (b : ℕ). get_or vs b 0 + first_of (drop (index_of key (records_of ws)) (nodes_of ws)) ≡ get_or ws b 0 + p) st.before_is
              (subst (λ (a : ℕ). get_or vs before 0 + a ≡ get_or ws before 0 + p) st.at_is (let l = lk.link in omega arith));
          raised = subst (λ (o : ℕ). get_or vs o 0 ≡ get_or ws o 0 + 256) o_is (let r = lk.raised in omega arith);
          count = let c = lk.count in let o = tk.other 2 (λ z. absurd (omega arith)) (λ z. absurd (omega arith)) in omega arith;
          front = lk.other 6 (λ z. absurd (omega arith)) (inl (omega arith)) (λ z. absurd (let b = before-range.0 in omega arith)) (λ z. absurd (let b = owner-range.0 in omega arith)) ∙ tk.front;
          top = lk.other 7 (λ z. absurd (omega arith)) (inl (omega arith)) (λ z. absurd (let b = before-range.0 in omega arith)) (λ z. absurd (let b = owner-range.0 in omega arith)) ∙ tk.top;
          other = λ i two six seven out d e. lk.other i two out (λ z. d (z ∙ st.before_is)) (λ z. e (z ∙ o_is)) ∙ tk.other i six seven;
        }

    pub plain : get_or vs own 0 / 256 ≤ 8 → page_of vs ≡ value_with_records (put key value (records_of ws)) (page_of ws)
    plain room = done_plain ws key slot before at p kn st few gv vs value written absent in_range room

    pub plain-read : get_or vs own 0 / 256 ≤ 8 → read_chain vs ≡ heap1 ws key slot before at p kn st few gv vs value written absent in_range
    plain-read room =
        let o = owner1 ws key slot before at p kn st few gv vs value written absent in_range in let i = o.is in let l = o.low in
        let ov = over1 ws key slot before at p kn st few gv vs value written absent in_range in
        let sh = shaped1 ws key slot before at p kn st few gv vs value written absent in_range in
        let owned : Owned 0 (nodes1 ws key slot before at p kn st few gv) (last1 ws key slot before at p kn st few gv) = over_at-room (index_of key (records_of ws)) 0 (nodes1 ws key slot before at p kn st few gv) (last1 ws key slot before at p kn st few gv) ov (omega arith) in
        heap-read vs (heap1 ws key slot before at p kn st few gv vs value written absent in_range) (record { shape = sh; owned = owned })

    pub plain-heap : get_or vs own 0 / 256 ≤ 8 → read_chain vs ≡ put_in_chain (index_of key (records_of ws)) (read_chain ws)
    plain-heap room =
        let o = owner1 ws key slot before at p kn st few gv vs value written absent in_range in let i = o.is in let l = o.low in
        plain-read room
        ∙ put-in-plain (index_of key (records_of ws)) p slot (read_chain ws) tk.offset (omega arith)

    pub full-nine : (get_or vs own 0 / 256 ≤ 8 → ⊥) → owned_by (drop (k ws key slot before at p kn st few gv) (nodes1 ws key slot before at p kn st few gv)) (last1 ws key slot before at p kn st few gv) ≡ 9
    full-nine full = nine ws key slot before at p kn st few gv vs value written absent in_range full

    pub walked : (get_or vs own 0 / 256 ≤ 8 → ⊥) → (q0 q1 q2 q3 q4 : ℕ) → q0 ≡ get_or ws (8 + (slot - 1)) 0 → q1 ≡ get_or vs q0 0 % 256 → q2 ≡ get_or vs q1 0 % 256 → q3 ≡ get_or vs q2 0 % 256 → q4 ≡ get_or vs q3 0 % 256
        → Steps ws key slot before at p kn st few gv vs value written absent in_range q0 q1 q2 q3 q4
    walked full = steps ws key slot before at p kn st few gv vs value written absent in_range (full-nine full)

module _ (vs : List ℕ) (h : Chain) (kk slot own middle : ℕ) (sh : Shaped vs h) (some : 0 < slot) (over : OverAt kk 0 h.nodes h.last) (nn : owned_by (drop kk h.nodes) h.last ≡ 9) (within : InSlot (slot - 1) kk h.nodes)
    (own_is : own ≡ owner_from (drop kk h.nodes)) (middle_is : middle ≡ first_of (drop (up_to (slot - 1) h.nodes + 3) h.nodes)) where
  abbrev tt1 : ℕ
  tt1 = up_to (slot - 1) h.nodes + 3

  grp : Group (slot - 1) kk tt1 h.nodes h.last
  grp = group (slot - 1) kk 0 h.nodes h.last (λ z. refl) over nn within

  pl1 : Offsets h
  pl1 = offsets-known h sh.offsets sh.once

  pub top-is : get_or vs 7 0 / 256 ≡ 1 + length (owners h.nodes)
  top-is = let t = sh.top in let f = sh.few in omega arith

  pub room : length (owners h.nodes) ≤ 8
  room = let r = slots-room kk 0 h.nodes h.last over nn in let f = sh.few in omega arith

  pub unused : (m : ℕ) → length (owners h.nodes) < m → m < 10 → get_or vs (8 + m) 0 ≡ 0
  unused m lt le = directory-at vs 10 8 (18 ∷ owners h.nodes) m sh.directory le ∙ get_or_past (18 ∷ owners h.nodes) m 0 (omega arith)

  own_next : own ≡ owner_from (drop (suc tt1) h.nodes)
  own_next = own_is ∙ sym grp.owner

  pub two-apart : middle ≢ own
  two-apart z = middle-apart tt1 h.nodes pl1.apart grp.in_range (sym middle_is ∙ (z ∙ own_next))

  pub middle-low : get_or vs middle 0 < 65536
  middle-low =
      let w = node-word vs tt1 h.nodes h.last grp.in_range sh.chained in
      let z = grp.header in
      let g = grp.in_range in
      let e : get_or vs middle 0 ≡ get_or vs (first_of (drop tt1 h.nodes)) 0 = ap (λ n. get_or vs n 0) middle_is in
      let l = elim (first-in (used_in_chain h) h.nodes (suc tt1) sh.few (AreOffsets-left _ _ _ sh.offsets) (omega arith)) as (λ u. first_of (drop (suc tt1) h.nodes) < 256) [ inl y ↦ (let x = y.0 in omega arith) | inr y ↦ (let x = y.1.0 in omega arith) ] in
      omega arith

  -- the record that owns the new slot is one of the chain
  middle-in : 0 < times middle (offsets_of h.nodes)
  middle-in = subst (λ (q : ℕ). 0 < times q (offsets_of h.nodes)) (sym middle_is) (first-member tt1 h.nodes grp.in_range)

  pub split-kept : (v2 : List ℕ) → IsSlotSplit vs v2 slot middle own → (i : ℕ) → IsKept (used_in_chain h) i → i ≢ own → get_or v2 i 0 ≡ get_or vs i 0
  split-kept v2 sc i kept other =
      let ti = top-is in let rm = room in
      sc.other i (elim (kept-far _ i kept) [ inl low ↦ inl low | inr high ↦ inr (omega arith) ]) (kept-offset (used_in_chain h) i middle kept (pl1.offset middle (let a = times-append middle (offsets_of h.nodes) h.free in let m = middle-in in omega arith))) other

  pub split-done : (v2 : List ℕ) → IsSlotSplit vs v2 slot middle own → 18 ≤ own → 18 ≤ middle → (page_of v2 ≡ Tree (page_with vs (records_in vs h.nodes)))
  split-done v2 sc ol ml =
      let ti = top-is in let rm = room in
      let mi = middle_is in
      let sw : SplitWords vs v2 h.nodes (slot - 1) tt1 = record {
        size = sc.size ∙ sh.size;
        marked = subst (λ (n : ℕ). get_or v2 n 0 ≡ get_or vs n 0 + 1024) middle_is sc.marked;
        lowered = subst (λ (n : ℕ). get_or v2 n 0 + 1024 ≡ get_or vs n 0) own_next sc.lowered;
        top = sc.top;
        before = λ m lt. sc.before m (omega arith);
        here = ap (λ n. get_or v2 n 0) (let e : 8 + (slot - 1 + 1) ≡ 8 + slot = omega arith in e) ∙ (sc.here ∙ middle_is);
        behind = λ m le lt. elim (cases_lt (length (owners h.nodes)) m) [
          | inl past ↦ sc.other (8 + (m + 1)) (inr (omega arith)) (λ z. absurd (omega arith)) (λ z. absurd (omega arith)) ∙ (unused (m + 1) (omega arith) (omega arith) ∙ sym (unused m past (omega arith)))
          | inr inside ↦ sc.behind m (omega arith) (omega arith)
        ];
        other = λ i far nm nw. sc.other i (elim far [ inl f ↦ inl f | inr f ↦ inr (omega arith) ]) (λ z. nm (z ∙ middle_is)) (λ z. nw (z ∙ own_next));
      } in
      let few1 : length h.nodes ≤ 35 = let f = sh.few in omega arith in
      let shaped2 = split-shaped vs v2 h (slot - 1) kk sh over nn within sw few1 in
      let owned2 : Owned 0 (give_slot tt1 h.nodes) (give_slot_last tt1 h.nodes h.last) = split-owned (slot - 1) kk 0 h.nodes h.last (λ z. refl) over nn within in
      page-from v2 (split_heap tt1 h) (record { shape = shaped2; owned = owned2 }) ∙ ap (λ (q : Page). Tree q) (split-page vs v2 h (slot - 1) kk sh over nn within sw few1)

  pub split-heap-is : (v2 : List ℕ) → IsSlotSplit vs v2 slot middle own → 18 ≤ own → 18 ≤ middle → read_chain v2 ≡ split_heap tt1 h
  split-heap-is v2 sc ol ml =
      let ti = top-is in let rm = room in
      let mi = middle_is in
      let sw : SplitWords vs v2 h.nodes (slot - 1) tt1 = record {
        size = sc.size ∙ sh.size;
        marked = subst (λ (n : ℕ). get_or v2 n 0 ≡ get_or vs n 0 + 1024) middle_is sc.marked;
        lowered = subst (λ (n : ℕ). get_or v2 n 0 + 1024 ≡ get_or vs n 0) own_next sc.lowered;
        top = sc.top;
        before = λ m lt. sc.before m (omega arith);
        here = ap (λ n. get_or v2 n 0) (let e : 8 + (slot - 1 + 1) ≡ 8 + slot = omega arith in e) ∙ (sc.here ∙ middle_is);
        behind = λ m le lt. elim (cases_lt (length (owners h.nodes)) m) [
          | inl past ↦ sc.other (8 + (m + 1)) (inr (omega arith)) (λ z. absurd (omega arith)) (λ z. absurd (omega arith)) ∙ (unused (m + 1) (omega arith) (omega arith) ∙ sym (unused m past (omega arith)))
          | inr inside ↦ sc.behind m (omega arith) (omega arith)
        ];
        other = λ i far nm nw. sc.other i (elim far [ inl f ↦ inl f | inr f ↦ inr (omega arith) ]) (λ z. nm (z ∙ middle_is)) (λ z. nw (z ∙ own_next));
      } in
      let few1 : length h.nodes ≤ 35 = let f = sh.few in omega arith in
      let shaped2 = split-shaped vs v2 h (slot - 1) kk sh over nn within sw few1 in
      let owned2 : Owned 0 (give_slot tt1 h.nodes) (give_slot_last tt1 h.nodes h.last) = split-owned (slot - 1) kk 0 h.nodes h.last (λ z. refl) over nn within in
      heap-read v2 (split_heap tt1 h) (record { shape = shaped2; owned = owned2 })
