-- A removal's calls, joined.
use Rattle.std.proofs.Common.{◌≡◌, ℕ, suc, ◌+◌, ◌-◌, ◌*◌, ◌/◌, ◌%◌, ◌<◌, ◌≤◌, ◌≢◌, ◌⊎◌, ◌∷◌, ◌∙◌, List, length, drop, get_or, ap, sym, arith, inl, inr, subst, true, None}
use Rattle.std.proofs.lemmas.Bool.{cases_eq, cases_lt}
use Rattle.std.proofs.lemmas.List.{get_or_past}
use Rattle.ib_map.specs.Keys.{MapKey}
use Rattle.ib_map.specs.Pairs.{without, value_at, index_of}
use Rattle.ib_map.specs.declared.TheConstants.{PAGE_WORDS}
use Rattle.ib_heap.specs.Page.{Page, PageValue}
use Rattle.ib_heap.specs.Chain.{Node, Chain, first_of, owners, times, offsets_of, records_in, used_in_chain, page_with, nodes_of, read_chain, is_shaped}
use Rattle.ib_heap.specs.Form.{page_of}
use Rattle.ib_heap.specs.Image.{value_with_records, records_of}
use Rattle.ib_heap.specs.ChainPut.{owner_from, owned_by}
use Rattle.ib_heap.specs.ChainTake.{unlink_node, unlink_last, unlink_from_chain, balance, balance_last, remove_from_chain}
use Rattle.ib_heap.specs.Kept.{IsKept}
use Rattle.ib_heap.specs.Steps.{IsOffsetOfKey, IsLent, IsSlotJoined}
use Rattle.ib_heap.proofs.KeptLaws.{kept-fixed, kept-offset, kept-far}
use Rattle.ib_heap.specs.Page.PageValue.{Tree}
use Rattle.ib_heap.proofs.HeapLaws.{Chained, Owned, Directory, AreOffsets, AreOffsets-left, IsHeap, page-from, heap-read, Shaped, Shaped-Decides}
use Rattle.ib_heap.proofs.SeekLaws.{Known, directory-at, directory-few, header_owned, node-word, first-in}
use Rattle.ib_heap.proofs.PutLaws.{owner-in, times-drop, Apart, first-member, apart-next, times-apart}
use Rattle.ib_heap.proofs.PutShape.{Low, low-member}
use Rattle.ib_heap.proofs.ShapeLaws.{Offsets, offsets-known}
use Rattle.ib_heap.proofs.PutPage.{middle-apart, OwnerWord, owner-word}
use Rattle.ib_heap.proofs.CountLaws.{Under, under-unlink, owned-balance}
use Rattle.ib_heap.proofs.UnlinkLaws.{At, SetAt}
use Rattle.ib_heap.proofs.BalanceLaws.{balance-well, offsets-balance, lend-some, chain-lend, chain-join, slots-lend, slots-join, GoneAt}
use Rattle.ib_heap.proofs.RemoveShape.{directory-set, directory-gone, other-page, other-shaped}
use Rattle.ib_heap.proofs.SlotLaws.{count, owner-count, owner-skip, count-step, count-le, Stand, stand, UnlinkSlot, unlink-slot}
use Rattle.ib_heap.proofs.UnlinkSteps.{lt, slot-is, apart, slot-range, used-unlink}

module _ (ws w0 : List ℕ) (key : MapKey) (slot before at : ℕ) (kn : Known ws) (st : IsOffsetOfKey ws key slot before at) (found : value_at key (records_of ws) ≢ None)
    (shp : is_shaped w0 (unlink_from_chain (index_of key (records_of ws)) (read_chain ws)) ≡ true)
    (pg : page_with w0 (records_in w0 (unlink_node (index_of key (records_of ws)) (nodes_of ws))) ≡ page_with ws (without key (records_of ws))) where
  abbrev k : ℕ
  k = index_of key (records_of ws)

  abbrev h1 : Chain
  h1 = unlink_from_chain k (read_chain ws)

  abbrev ys : List Node
  ys = unlink_node k (nodes_of ws)

  abbrev yl : ℕ
  yl = unlink_last k (nodes_of ws) (read_chain ws).last

  abbrev short : ℕ
  short = get_or w0 (8 + slot) 0

  abbrev after : ℕ
  after = get_or w0 (9 + slot) 0

  sh : Shaped w0 h1
  sh = (Shaped-Decides w0 h1).0 shp

  cs : UnlinkSlot ys yl slot
  cs = unlink-slot k slot (nodes_of ws) (read_chain ws).last (lt ws key slot before at kn st found) kn.is.owned (apart ws key slot before at kn st found) (slot-is ws key slot before at kn st found)

  abbrev m0 : ℕ
  m0 = cs.number

  offsets1 : Offsets h1
  offsets1 = offsets-known h1 sh.offsets sh.once

  apart1 : Apart ys
  apart1 = offsets1.apart

  low : (q : ℕ) → 0 < times q (offsets_of ys) → Low q
  low q m = low-member h1 offsets1 sh.few q (omega arith)

  under1 : Under 0 ys yl
  under1 = under-unlink k 0 (nodes_of ws) (read_chain ws).last (lt ws key slot before at kn st found) (λ z. omega arith) kn.is.owned

  slot-few : slot ≤ 9
  slot-few = slot-range ws key slot before at kn st found

  pub size1 : length w0 ≡ 160
  size1 = sh.size

  short-is : short ≡ owner_from (drop m0 ys)
  short-is =
      let s = slot-few in
      directory-at w0 10 8 (18 ∷ owners ys) slot sh.directory (omega arith) ∙ (ap (λ i. get_or (18 ∷ owners ys) i 0) (sym cs.slots) ∙ owner-count 18 m0 ys cs.within)

  owner-cases : (t : ℕ) (o : ℕ) → o ≡ owner_from (drop t ys) → (o ≡ 19) ⊎ (0 < times o (offsets_of ys))
  owner-cases t o e = elim (owner-in (drop t ys)) [ inl z ↦ inl (e ∙ z) | inr m ↦ inr (subst (λ (q : ℕ). 0 < times q (offsets_of ys)) (sym e) (let d = times-drop t (owner_from (drop t ys)) ys in omega arith)) ]

  range-of : (o : ℕ) → (o ≡ 19) ⊎ (0 < times o (offsets_of ys)) → (19 ≤ o) × (o ≤ 156)
  range-of o c = elim c [ inl e ↦ (omega arith, omega arith) | inr m ↦ (let w = low o m in let a = w.is in let b = w.below in (omega arith, omega arith)) ]

  pub short-range : (19 ≤ short) × (short ≤ 156)
  short-range = range-of short (owner-cases m0 short short-is)

  offsets-ok : AreOffsets (used_in_chain h1) (offsets_of ys)
  offsets-ok = AreOffsets-left _ _ _ sh.offsets

  short-word : OwnerWord (get_or w0 short 0) (owned_by (drop m0 ys) yl)
  short-word = let o = owner-word w0 (used_in_chain h1) m0 ys yl sh.few offsets-ok sh.chained cs.within in record { next = o.next; is = ap (λ n. get_or w0 n 0) short-is ∙ o.is; low = o.low }

  pub well-from : ((short ≡ 19) ⊎ (get_or w0 short 0 / 256 ≢ 3)) → Owned 0 ys yl
  well-from c = elim cs.well [
    | inl o ↦ o
    | inr r ↦ absurd (elim c [ inl e ↦ r.1 (sym short-is ∙ e) | inr ne ↦ (let w = short-word in let i = w.is in let b = w.low in let three = r.0 in ne (omega arith)) ])
  ]

  wanted : value_with_records (without key (records_of ws)) (page_of ws) ≡ Tree (page_with ws (without key (records_of ws)))
  wanted = ap (λ (v : PageValue). value_with_records (without key (records_of ws)) v) (page-from ws (read_chain ws) kn.is)

  pub well-page : Owned 0 ys yl → page_of w0 ≡ value_with_records (without key (records_of ws)) (page_of ws)
  well-page owned = page-from w0 h1 (record { shape = sh; owned = owned }) ∙ (ap (λ (q : Page). Tree q) pg ∙ sym wanted)

  abbrev mk : List Node → ℕ → Chain
  mk ns n = record { nodes = ns; last = n; free = h1.free }

  pub well-heap : Owned 0 ys yl → read_chain w0 ≡ remove_from_chain k (read_chain ws)
  well-heap owned = let s = balance-well 0 ys yl owned in heap-read w0 h1 (record { shape = sh; owned = owned }) ∙ (ap (λ (ns : List Node). mk ns yl) (sym s.0) ∙ ap (λ (n : ℕ). mk (balance ys yl) n) (sym s.1))

  kept-here : (i : ℕ) → IsKept (used_in_chain (read_chain ws)) i → IsKept (used_in_chain h1) i
  kept-here i kept = subst (λ (n : ℕ). IsKept n i) (sym (used-unlink ws key slot before at kn st found)) kept

  kept-low : (i q : ℕ) → IsKept (used_in_chain (read_chain ws)) i → (q ≡ 19) ⊎ (0 < times q (offsets_of ys)) → i ≢ q
  kept-low i q kept c = elim c [
    | inl e ↦ kept-fixed _ i q kept (inr (omega arith, omega arith))
    | inr m ↦ kept-offset (used_in_chain h1) i q (kept-here i kept) (offsets1.offset q (omega arith))
  ]

  not-in : (i q : ℕ) → times i (offsets_of ys) ≡ 0 → i ≢ 19 → (q ≡ 19) ⊎ (0 < times q (offsets_of ys)) → i ≢ q
  not-in i q absent nine c z = elim c [ inl e ↦ nine (z ∙ e) | inr m ↦ times-apart i q (offsets_of ys) absent m z ]

  -- a slot of three
  module _ (ne : short ≢ 19) (three : get_or w0 short 0 / 256 ≡ 3) where
    three-owned : owned_by (drop m0 ys) yl ≡ 3
    three-owned = let w = short-word in let i = w.is in let b = w.low in omega arith

    sd : Stand m0 ys yl
    sd = stand m0 ys yl cs.within (λ z. ne (short-is ∙ z))

    abbrev t : ℕ
    t = sd.at

    lt1 : t < length ys
    lt1 = sd.below

    short-t : short ≡ first_of (drop t ys)
    short-t = short-is ∙ sym sd.first

    header3 : header_owned (drop t ys) ≡ 3
    header3 = sd.header ∙ three-owned

    count-t : count t ys ≡ slot
    count-t = sd.slots ∙ cs.slots

    count-next : count (suc t) ys ≡ slot + 1
    count-next = let s = count-step t ys lt1 sd.some in let c = count-t in omega arith

    slots-few : length (owners ys) ≤ 9
    slots-few = let f = directory-few w0 10 8 (18 ∷ owners ys) sh.directory in omega arith

    slot-next : slot + 1 ≤ length (owners ys)
    slot-next = let c = count-le (suc t) ys in let n = count-next in omega arith

    pub slot-small : slot ≤ 8
    slot-small = let a = slots-few in let b = slot-next in omega arith

    after-is : after ≡ owner_from (drop (suc t) ys)
    after-is =
        let s = slot-next in let f = slots-few in let l1 = lt1 in
        ap (λ n. get_or w0 n 0) (let e : 9 + slot ≡ 8 + (slot + 1) = omega arith in e)
        ∙ (directory-at w0 10 8 (18 ∷ owners ys) (slot + 1) sh.directory (omega arith) ∙ (ap (λ i. get_or (18 ∷ owners ys) i 0) (sym count-next) ∙ owner-count 18 (suc t) ys (omega arith)))

    after-cases : (after ≡ 19) ⊎ (0 < times after (offsets_of ys))
    after-cases = owner-cases (suc t) after after-is

    pub after-range : (19 ≤ after) × (after ≤ 156)
    after-range = range-of after after-cases

    short-in : 0 < times short (offsets_of ys)
    short-in = subst (λ (q : ℕ). 0 < times q (offsets_of ys)) (sym short-t) (first-member t ys lt1)

    after-word : OwnerWord (get_or w0 after 0) (owned_by (drop (suc t) ys) yl)
    after-word =
        let l1 = lt1 in
        let o = owner-word w0 (used_in_chain h1) (suc t) ys yl sh.few offsets-ok sh.chained (omega arith) in let i = o.is in
        record { next = o.next; is = ap (λ n. get_or w0 n 0) after-is ∙ o.is; low = o.low }

    word-t : get_or w0 short 0 ≡ 3 * 256 + first_of (drop (suc t) ys)
    word-t = ap (λ n. get_or w0 n 0) short-t ∙ (node-word w0 t ys yl lt1 sh.chained ∙ ap (λ n. n * 256 + first_of (drop (suc t) ys)) header3)

    pub short-much : 768 ≤ get_or w0 short 0
    short-much = let w = word-t in omega arith

    pub short-after : short ≢ after
    short-after z = middle-apart t ys apart1 lt1 (sym short-t ∙ (z ∙ after-is))

    chain-high : (q : ℕ) → At q ys → 19 ≤ q
    chain-high q m = elim m [ inl n ↦ (let w = low q n in let a = w.is in omega arith) | inr e ↦ omega arith ]

    count-pred : 0 < slot → count t ys ≡ suc (slot - 1)
    count-pred p = let c = count-t in omega arith

    -- the slot after it lends its first record
    module _ (five : 5 ≤ get_or w0 after 0 / 256) where
      five1 : 5 ≤ owned_by (drop (suc t) ys) yl
      five1 = let w = after-word in let i = w.is in let b = w.low in omega arith

      ls : (suc t < length ys) × (header_owned (drop (suc t) ys) ≡ 0)
      ls = lend-some 0 t ys yl under1 lt1 header3 five1

      abbrev first : ℕ
      first = get_or w0 short 0 % 256

      next-in : 0 < times (first_of (drop (suc t) ys)) (offsets_of ys)
      next-in = first-member (suc t) ys ls.0

      first-is : first ≡ first_of (drop (suc t) ys)
      first-is = let w = word-t in let l1 = low _ next-in in let a = l1.is in let b = l1.below in omega arith

      lent-in : 0 < times first (offsets_of ys)
      lent-in = subst (λ (q : ℕ). 0 < times q (offsets_of ys)) (sym first-is) next-in

      pub first-range : (18 ≤ first) × (first ≤ 156)
      first-range = let l1 = low first lent-in in let a = l1.is in let b = l1.below in (omega arith, omega arith)

      after-next : after ≡ owner_from (drop (suc (suc t)) ys)
      after-next = after-is ∙ owner-skip (suc t) ys ls.0 ls.1

      pub apart-lend : (short ≢ first) × ((short ≢ after) × (first ≢ after))
      apart-lend = (λ z. apart-next t ys apart1 ls.0 (sym short-t ∙ (z ∙ first-is)), (short-after, λ z. middle-apart (suc t) ys apart1 ls.0 (sym first-is ∙ (z ∙ after-next))))

      pub first-few : get_or w0 first 0 < 65536
      first-few =
          let w = node-word w0 (suc t) ys yl ls.0 sh.chained in
          let z = ls.1 in
          let e : get_or w0 first 0 ≡ get_or w0 (first_of (drop (suc t) ys)) 0 = ap (λ n. get_or w0 n 0) first-is in
          let lw = next-low (suc (suc t)) (let l1 = ls.0 in omega arith) in omega arith
        where
          next-low : (i : ℕ) → i ≤ length ys → first_of (drop i ys) < 256
          next-low i le = elim (first-in (used_in_chain h1) ys i sh.few offsets-ok le) [ inl e ↦ (let f = e.0 in omega arith) | inr e ↦ (let f = e.1.0 in omega arith) ]

      pub after-much : 256 ≤ get_or w0 after 0
      after-much = omega arith

      module _ (w1 : List ℕ) (u : IsLent w0 w1 slot short first after) (pos : 0 < slot) where
        set1 : SetAt (slot - 1) (first_of (drop (suc t) ys)) (owners ys) (owners (balance ys yl))
        set1 = slots-lend 0 t (slot - 1) ys yl under1 lt1 header3 five1 (count-pred pos)

        chained1 : Chained w1 (balance ys yl) (balance_last ys yl)
        chained1 = chain-lend w0 w1 0 t ys yl under1 lt1 header3 five1 sh.chained apart1
            (subst (λ (q : ℕ). get_or w1 q 0 + 768 ≡ get_or w0 q 0) short-t u.fewer)
            (subst (λ (q : ℕ). get_or w1 q 0 ≡ get_or w0 q 0 + 1024) first-is u.marked)
            (subst (λ (q : ℕ). get_or w1 q 0 + 256 ≡ get_or w0 q 0) after-next u.lowered)
            (λ q m na nb nc. let h = chain-high q m in let s = slot-few in u.other q (λ z. na (z ∙ short-t)) (λ z. nb (z ∙ first-is)) (λ z. nc (z ∙ after-next)) (λ z. absurd (omega arith)))

        directory1 : Directory w1 10 8 (18 ∷ owners (balance ys yl))
        directory1 =
            let a = short-range.0 in let b = after-range.0 in let d = first-range.0 in
            directory-set w0 w1 (slot - 1) (first_of (drop (suc t) ys)) (owners ys) (owners (balance ys yl)) sh.directory set1
            (λ m nm l1. u.other (8 + m) (λ z. absurd (omega arith)) (λ z. absurd (omega arith)) (λ z. absurd (omega arith)) (λ z. nm (omega arith)))
            (ap (λ n. get_or w1 n 0) (let e : 8 + suc (slot - 1) ≡ 8 + slot = omega arith in e) ∙ (u.here ∙ first-is))

        other1 : (i : ℕ) → (i < 7) ⊎ (17 < i) → times i (offsets_of ys) ≡ 0 → i ≢ 19 → get_or w1 i 0 ≡ get_or w0 i 0
        other1 i far absent nine = let s = slot-few in u.other i (not-in i short absent nine (inr short-in)) (not-in i first absent nine (inr lent-in)) (not-in i after absent nine after-cases) (λ z. elim far [ inl f ↦ absurd (omega arith) | inr f ↦ absurd (omega arith) ])

        size2 : length w1 ≡ PAGE_WORDS
        size2 = u.size ∙ sh.size

        top1 : get_or w1 7 0 ≡ (1 + length (owners (balance ys yl))) * 256 + (20 + 4 * used_in_chain h1)
        top1 =
            let a = short-range.0 in let b = after-range.0 in let d = first-range.0 in let l1 = set1.long in let t0 = sh.top in
            let e = u.other 7 (λ z. absurd (omega arith)) (λ z. absurd (omega arith)) (λ z. absurd (omega arith)) (λ z. absurd (omega arith)) in omega arith

        heap1 : IsHeap w1 (remove_from_chain k (read_chain ws))
        heap1 = record { shape = other-shaped w0 w1 h1 (balance ys yl) (balance_last ys yl) sh (offsets-balance ys yl) size2 other1 chained1 directory1 top1; owned = owned-balance 0 ys yl under1 }

        pub lend-page : page_of w1 ≡ value_with_records (without key (records_of ws)) (page_of ws)
        lend-page = page-from w1 (remove_from_chain k (read_chain ws)) heap1 ∙ (ap (λ (q : Page). Tree q) (other-page w0 w1 h1 (balance ys yl) (balance_last ys yl) sh (offsets-balance ys yl) size2 other1 ∙ pg) ∙ sym wanted)

        pub lend-heap : read_chain w1 ≡ remove_from_chain k (read_chain ws)
        lend-heap = heap-read w1 (remove_from_chain k (read_chain ws)) heap1

        pub lend-kept : (i : ℕ) → IsKept (used_in_chain (read_chain ws)) i → get_or w1 i 0 ≡ get_or w0 i 0
        lend-kept i kept = let s = slot-few in u.other i (kept-low i short kept (inr short-in)) (kept-low i first kept (inr lent-in)) (kept-low i after kept after-cases) (λ z. elim (kept-far _ i kept) [ inl f ↦ absurd (omega arith) | inr f ↦ absurd (omega arith) ])

    -- it joins the slot after it
    module _ (few : get_or w0 after 0 / 256 < 5) where
      few1 : owned_by (drop (suc t) ys) yl < 5
      few1 = let w = after-word in let i = w.is in let b = w.low in omega arith

      pub after-few : get_or w0 after 0 < 65536
      after-few = omega arith

      top-is : get_or w0 7 0 / 256 ≡ 1 + length (owners ys)
      top-is = let t0 = sh.top in let f = sh.few in omega arith

      pub slot-below : slot + 2 ≤ get_or w0 7 0 / 256
      slot-below = let a = top-is in let b = slot-next in omega arith

      pub top-few : get_or w0 7 0 / 256 ≤ 10
      top-few = let a = top-is in let b = slots-few in omega arith

      module _ (w1 : List ℕ) (u : IsSlotJoined w0 w1 slot short after) (pos : 0 < slot) where
        gone1 : GoneAt (slot - 1) (owners ys) (owners (balance ys yl))
        gone1 = slots-join 0 t (slot - 1) ys yl under1 lt1 header3 few1 (count-pred pos)

        at-chain : (q : ℕ) → At q ys → q ≢ short → q ≢ after → get_or w1 q 0 ≡ get_or w0 q 0
        at-chain q m na nc = let h = chain-high q m in let a = top-few in u.other q (inr (omega arith)) na nc

        chained3 : Chained w1 (balance ys yl) (balance_last ys yl)
        chained3 = chain-join w0 w1 0 t ys yl under1 lt1 header3 few1 sh.chained apart1
            (subst (λ (q : ℕ). get_or w1 q 0 + 768 ≡ get_or w0 q 0) short-t u.fewer)
            (subst (λ (q : ℕ). get_or w1 q 0 ≡ get_or w0 q 0 + 768) after-is u.raised)
            (λ q m na nc. at-chain q m (λ z. na (z ∙ short-t)) (λ z. nc (z ∙ after-is)))

        back3 : (m : ℕ) → slot ≤ m → m < 10 → get_or w1 (8 + m) 0 ≡ get_or (18 ∷ owners ys) (m + 1) 0
        back3 m le l1 =
            let ti = top-is in let sf = slots-few in let a = short-range.0 in let b = after-range.0 in
            elim (cases_lt m (length (owners ys))) [
              | inl inside ↦ u.behind m le (omega arith) ∙ directory-at w0 10 8 (18 ∷ owners ys) (m + 1) sh.directory (omega arith)
              | inr ge ↦ elim (cases_eq m (length (owners ys))) [
                | inl e ↦ ap (λ n. get_or w1 n 0) (let f : 8 + m ≡ 7 + get_or w0 7 0 / 256 = omega arith in f) ∙ (u.end ∙ sym (get_or_past (18 ∷ owners ys) (m + 1) 0 (omega arith)))
                | inr nm ↦ u.other (8 + m) (inr (omega (arith, nm))) (λ z. absurd (omega arith)) (λ z. absurd (omega arith))
                    ∙ (directory-at w0 10 8 (18 ∷ owners ys) m sh.directory l1 ∙ (get_or_past (18 ∷ owners ys) m 0 (omega (arith, nm)) ∙ sym (get_or_past (18 ∷ owners ys) (m + 1) 0 (omega arith))))
              ]
            ]

        directory3 : Directory w1 10 8 (18 ∷ owners (balance ys yl))
        directory3 = directory-gone w0 w1 (slot - 1) (owners ys) (owners (balance ys yl)) sh.directory gone1 (λ m le l1. u.before m (omega arith)) (λ m le l1. back3 m (omega arith) l1)

        other3 : (i : ℕ) → (i < 7) ⊎ (17 < i) → times i (offsets_of ys) ≡ 0 → i ≢ 19 → get_or w1 i 0 ≡ get_or w0 i 0
        other3 i far absent nine = let a = top-few in u.other i (elim far [ inl f ↦ inl f | inr f ↦ inr (omega arith) ]) (not-in i short absent nine (inr short-in)) (not-in i after absent nine after-cases)

        size3 : length w1 ≡ PAGE_WORDS
        size3 = u.size ∙ sh.size

        top3 : get_or w1 7 0 ≡ (1 + length (owners (balance ys yl))) * 256 + (20 + 4 * used_in_chain h1)
        top3 = let l1 = gone1.long in let t0 = sh.top in let e = u.top in omega arith

        heap3 : IsHeap w1 (remove_from_chain k (read_chain ws))
        heap3 = record { shape = other-shaped w0 w1 h1 (balance ys yl) (balance_last ys yl) sh (offsets-balance ys yl) size3 other3 chained3 directory3 top3; owned = owned-balance 0 ys yl under1 }

        pub join-page : page_of w1 ≡ value_with_records (without key (records_of ws)) (page_of ws)
        join-page = page-from w1 (remove_from_chain k (read_chain ws)) heap3 ∙ (ap (λ (q : Page). Tree q) (other-page w0 w1 h1 (balance ys yl) (balance_last ys yl) sh (offsets-balance ys yl) size3 other3 ∙ pg) ∙ sym wanted)

        pub join-heap : read_chain w1 ≡ remove_from_chain k (read_chain ws)
        join-heap = heap-read w1 (remove_from_chain k (read_chain ws)) heap3

        pub join-kept : (i : ℕ) → IsKept (used_in_chain (read_chain ws)) i → get_or w1 i 0 ≡ get_or w0 i 0
        join-kept i kept = let a = top-few in u.other i (elim (kept-far _ i kept) [ inl f ↦ inl f | inr f ↦ inr (omega arith) ]) (kept-low i short kept (inr short-in)) (kept-low i after kept after-cases)
