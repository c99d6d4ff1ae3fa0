-- A removal, step by step.
use Rattle.std.proofs.Common.{◌≡◌, ◌≢◌, ℕ, ◌+◌, ◌/◌, ◌%◌, ◌<◌, ◌≤◌, ◌⊎◌, ◌∙◌, List, length, get_or, ap, arith, Some, None, true}
use Rattle.ib_map.specs.Keys.{MapKey}
use Rattle.ib_map.specs.Pairs.{without, value_at, index_of}
use Rattle.ib_heap.specs.Page.{HoldsTree}
use Rattle.ib_heap.specs.Chain.{nodes_of, read_chain, used_in_chain, records_in, page_with, is_shaped}
use Rattle.ib_heap.specs.Heap.{read_heap, used_offsets}
use Rattle.ib_heap.specs.Take.{remove_in}
use Rattle.ib_heap.specs.Form.{page_of}
use Rattle.ib_heap.specs.Image.{records_of, value_with_records}
use Rattle.ib_heap.specs.ChainTake.{unlink_node, unlink_from_chain}
use Rattle.ib_heap.specs.Kept.{IsKept}
use Rattle.ib_heap.specs.Steps.{IsOffsetOfKey, IsHeader, CanUnlink, IsLinkedPast, CanHandOver, IsHandedOver, CanGiveBack, IsGivenBack, CanLend, IsLent, CanJoin, IsSlotJoined}
use Rattle.ib_heap.proofs.SeekLaws.{Known, known}
use Rattle.ib_heap.proofs.HeapSteps.{heap-take, kept-take}
use Rattle.ib_heap.proofs.UnlinkSteps.{lt, at-range, before-range, own-range, slot-range, at-le, before-few, own-word, two, count-some, plain, owning, plain-shaped, plain-page, plain-kept, owner-shaped, owner-page, owner-kept, value-is}
use Rattle.ib_heap.proofs.BalanceSteps.{size1, short-range, well-from, well-page, well-heap, slot-small, after-range, short-much, short-after, first-range, apart-lend, first-few, after-much, lend-page, lend-heap, lend-kept, after-few, slot-below, top-few, join-page, join-heap, join-kept}

-- what is left where the record is out of the chain, and its slot as it is then
pub record IsOut (ws vs : List ℕ) (key : MapKey) : Type 0 where
  pub shaped : is_shaped vs (unlink_from_chain (index_of key (records_of ws)) (read_chain ws)) ≡ true
  pub page : page_with vs (records_in vs (unlink_node (index_of key (records_of ws)) (nodes_of ws))) ≡ page_with ws (without key (records_of ws))
  pub kept : (i : ℕ) → IsKept (used_in_chain (read_chain ws)) i → get_or vs i 0 ≡ get_or ws i 0

-- what a removal leaves
pub record IsRemoved (ws vs : List ℕ) (key : MapKey) : Type 0 where
  pub page : page_of vs ≡ value_with_records (without key (records_of ws)) (page_of ws)
  pub heap : read_heap vs ≡ remove_in (index_of key (records_of ws)) (read_heap ws)
  pub kept : (i : ℕ) → IsKept (used_offsets (read_heap ws)) i → get_or vs i 0 ≡ get_or ws i 0

module _ (ws : List ℕ) (key : MapKey) (slot before at : ℕ) (holds : HoldsTree (page_of ws)) (found : value_at key (records_of ws) ≢ None) (st : IsOffsetOfKey ws key slot before at) where
  kn : Known ws
  kn = known ws holds

  below : index_of key (records_of ws) < length (nodes_of ws)
  below = lt ws key slot before at kn st found

  abbrev own : ℕ
  own = get_or ws (8 + slot) 0

  pub record-read : at + 3 < length ws
  record-read = let s = kn.size in let r = at-range ws key slot before at kn st found in let b = r.1 in omega arith

  pub slot-read : 8 + slot < length ws
  slot-read = let s = kn.size in let r = slot-range ws key slot before at kn st found in omega arith

  pub value-there : value_at key (records_of ws) ≡ Some (get_or ws (at + 3) 0)
  value-there = value-is ws key slot before at kn st found

  before-header : IsHeader before
  before-header = let r = before-range ws key slot before at kn st found in record { low = r.0; high = r.1 }

  -- it owns its slot
  module _ (owns : at ≡ own) where
    pub can-hand-over : CanHandOver ws before at slot
    can-hand-over =
        let w = own-word ws key slot before at kn st found in
        let e : get_or ws at 0 ≡ get_or ws own 0 = ap (λ n. get_or ws n 0) owns in
        record { size = kn.size; at_high = (at-range ws key slot before at kn st found).1; before_header = before-header; slot_few = slot-range ws key slot before at kn st found; at_word = omega arith }

    module _ (w1 : List ℕ) (u : IsHandedOver ws w1 before at slot) where
      pub can-give-owner : CanGiveBack w1 at
      can-give-owner =
          let r = at-range ws key slot before at kn st found in let b = before-header.low in
          let c = count-some ws key slot before at kn st found in
          let same = u.other 2 (λ z. absurd (omega arith)) (λ z. absurd (omega arith)) in
          record { size = u.size ∙ kn.size; low = r.0; high = r.1; some = omega arith }

      pub owner-out : (w2 : List ℕ) → IsGivenBack w1 w2 at → IsOut ws w2 key
      owner-out w2 g =
          let o = owning ws key slot before at kn st found owns in
          record { shaped = owner-shaped ws key slot before at kn st found w1 w2 o u g; page = owner-page ws key slot before at kn st found w1 w2 o u g; kept = owner-kept ws key slot before at kn st found w1 w2 o u g }

  -- it owns no slot
  module _ (other : at ≡ own → ⊥) where
    pub can-unlink : CanUnlink ws before at own
    can-unlink =
        let o = own-range ws key slot before at kn st found in let low = o.0 in
        record {
          size = kn.size;
          at_high = (at-range ws key slot before at kn st found).1;
          before_header = before-header;
          owner_header = record { low = omega arith; high = o.1 };
          apart = two ws key slot before at kn st found;
          reaches = at-le ws key slot before at kn st found;
          before_word = before-few ws key slot before at kn st found;
          owner_word = own-word ws key slot before at kn st found;
        }

    module _ (w1 : List ℕ) (u : IsLinkedPast ws w1 before at own) where
      pub can-give-plain : CanGiveBack w1 at
      can-give-plain =
          let r = at-range ws key slot before at kn st found in let b = before-header.low in let o = (own-range ws key slot before at kn st found).0 in
          let c = count-some ws key slot before at kn st found in
          let same = u.other 2 (λ z. absurd (omega arith)) (λ z. absurd (omega arith)) in
          record { size = u.size ∙ kn.size; low = r.0; high = r.1; some = omega arith }

      pub plain-out : (w2 : List ℕ) → IsGivenBack w1 w2 at → IsOut ws w2 key
      plain-out w2 g =
          let p = plain ws key slot before at kn st found other in
          record { shaped = plain-shaped ws key slot before at kn st found w1 w2 p u g; page = plain-page ws key slot before at kn st found w1 w2 p u g; kept = plain-kept ws key slot before at kn st found w1 w2 p u g }

  -- the record is out: its slot may be short
  module _ (w0 : List ℕ) (out : IsOut ws w0 key) where
    abbrev short : ℕ
    short = get_or w0 (8 + slot) 0

    abbrev after : ℕ
    after = get_or w0 (9 + slot) 0

    size : length w0 ≡ 160
    size = size1 ws w0 key slot before at kn st found out.shaped out.page

    short-bounds : (19 ≤ short) × (short ≤ 156)
    short-bounds = short-range ws w0 key slot before at kn st found out.shaped out.page

    pub short-slot-read : 8 + slot < length w0
    short-slot-read = let s = size in let r = slot-range ws key slot before at kn st found in omega arith

    pub short-read : short < length w0
    short-read = let s = size in let r = short-bounds.1 in omega arith

    pub removed-well : (short ≡ 19) ⊎ (get_or w0 short 0 / 256 ≢ 3) → IsRemoved ws w0 key
    removed-well well =
        let owned = well-from ws w0 key slot before at kn st found out.shaped out.page well in
        record { page = well-page ws w0 key slot before at kn st found out.shaped out.page owned; heap = heap-take ws w0 key holds below (well-heap ws w0 key slot before at kn st found out.shaped out.page owned); kept = kept-take ws w0 out.kept }

    module _ (ne : short ≢ 19) (three : get_or w0 short 0 / 256 ≡ 3) where
      small : slot ≤ 8
      small = slot-small ws w0 key slot before at kn st found out.shaped out.page ne three

      after-bounds : (19 ≤ after) × (after ≤ 156)
      after-bounds = after-range ws w0 key slot before at kn st found out.shaped out.page ne three

      pub after-slot-read : 8 + (slot + 1) < length w0
      after-slot-read = let s = size in let r = small in omega arith

      pub after-read : after < length w0
      after-read = let s = size in let r = after-bounds.1 in omega arith

      short-header : IsHeader short
      short-header = let r = short-bounds in let low = r.0 in record { low = omega arith; high = r.1 }

      after-header : IsHeader after
      after-header = let r = after-bounds in let low = r.0 in record { low = omega arith; high = r.1 }

      -- the slot after it has one to lend
      module _ (five : 5 ≤ get_or w0 after 0 / 256) where
        abbrev first : ℕ
        first = get_or w0 short 0 % 256

        pub can-lend : CanLend w0 slot short first after
        can-lend =
            let f = first-range ws w0 key slot before at kn st found out.shaped out.page ne three five in let s = small in
            record {
              size = size;
              slot_few = omega arith;
              short_header = short-header;
              first_header = record { low = f.0; high = f.1 };
              after_header = after-header;
              apart = apart-lend ws w0 key slot before at kn st found out.shaped out.page ne three five;
              short_word = short-much ws w0 key slot before at kn st found out.shaped out.page ne three;
              first_word = first-few ws w0 key slot before at kn st found out.shaped out.page ne three five;
              after_word = after-much ws w0 key slot before at kn st found out.shaped out.page ne three five;
            }

        pub removed-lent : (w1 : List ℕ) → IsLent w0 w1 slot short first after → IsRemoved ws w1 key
        removed-lent w1 u = record {
          page = lend-page ws w0 key slot before at kn st found out.shaped out.page ne three five w1 u st.some;
          heap = heap-take ws w1 key holds below (lend-heap ws w0 key slot before at kn st found out.shaped out.page ne three five w1 u st.some);
          kept = kept-take ws w1 (λ i kept. lend-kept ws w0 key slot before at kn st found out.shaped out.page ne three five w1 u st.some i kept ∙ out.kept i kept);
        }

      -- it has none to lend
      module _ (few : get_or w0 after 0 / 256 < 5) where
        pub can-join : CanJoin w0 slot short after
        can-join = record {
          size = size;
          some = st.some;
          last = slot-below ws w0 key slot before at kn st found out.shaped out.page ne three few;
          few = top-few ws w0 key slot before at kn st found out.shaped out.page ne three few;
          short_header = short-header;
          after_header = after-header;
          apart = short-after ws w0 key slot before at kn st found out.shaped out.page ne three;
          short_word = short-much ws w0 key slot before at kn st found out.shaped out.page ne three;
          after_word = after-few ws w0 key slot before at kn st found out.shaped out.page ne three few;
        }

        pub removed-joined : (w1 : List ℕ) → IsSlotJoined w0 w1 slot short after → IsRemoved ws w1 key
        removed-joined w1 u = record {
          page = join-page ws w0 key slot before at kn st found out.shaped out.page ne three few w1 u st.some;
          heap = heap-take ws w1 key holds below (join-heap ws w0 key slot before at kn st found out.shaped out.page ne three few w1 u st.some);
          kept = kept-take ws w1 (λ i kept. join-kept ws w0 key slot before at kn st found out.shaped out.page ne three few w1 u st.some i kept ∙ out.kept i kept);
        }
