-- An insert, step by step.
use Rattle.std.proofs.Common.{◌≡◌, ℕ, zero, suc, ◌+◌, ◌-◌, ◌/◌, ◌<◌, ◌≤◌, ◌∙◌, List, length, drop, get_or, refl, ap, sym, subst, arith, None}
use Rattle.ib_map.specs.Keys.{MapKey, rank, end_rank}
use Rattle.ib_map.specs.Pairs.{put, value_at, index_of}
use Rattle.ib_heap.specs.Page.{Page, HoldsTree}
use Rattle.ib_heap.specs.Page.PageValue.{Tree}
use Rattle.ib_heap.specs.Chain.{Chain, first_of, nodes_of, read_chain, up_to, used_in_chain}
use Rattle.ib_heap.specs.Heap.{read_heap, used_offsets}
use Rattle.ib_heap.specs.Put.{offset_for, put_in}
use Rattle.ib_heap.specs.Form.{page_of}
use Rattle.ib_heap.specs.Image.{records_of, value_with_records}
use Rattle.ib_heap.specs.ChainPut.{owned_by, owner_from, rest_of}
use Rattle.ib_heap.specs.Kept.{IsKept, IsOutside}
use Rattle.ib_heap.specs.Steps.{IsOffsetOfKey, IsHeader, IsOffsetTaken, CanLink, IsLinkedIn, CanSplitSlot, IsSlotSplit}
use Rattle.ib_heap.specs.Walks.{end_from}
use Rattle.ib_heap.proofs.SeekLaws.{Known, known}
use Rattle.ib_heap.proofs.PutPage.{owner_is, shaped1, page1, over1, within, within1, wanted, k_le, owner-drop, own-apart, kept1, heap1, Steps}
use Rattle.ib_heap.proofs.PutLaws.{OverAt}
use Rattle.ib_heap.proofs.SplitLaws.{InSlot}
use Rattle.ib_heap.proofs.HeapLaws.{Shaped}
use Rattle.ib_heap.proofs.ShapeLaws.{Gives, Written}
use Rattle.ib_heap.proofs.SplitPage.{used-split}
use Rattle.ib_heap.proofs.PutSteps.{gv, before-range, owner-range, apart-all, at-le, before-low, owner-low, count-low, written, plain, full-nine, walked, top-is, room, two-apart, middle-low, split-done, split-heap-is, split-kept, plain-heap, plain-read}
use Rattle.ib_heap.proofs.PutHeap.{put-in-split}
use Rattle.ib_heap.proofs.HeapSteps.{heap-put, kept-put}

-- what an insert leaves
pub record IsPut (ws vs : List ℕ) (key : MapKey) (value : ℕ) : Type 0 where
  pub page : page_of vs ≡ value_with_records (put key value (records_of ws)) (page_of ws)
  pub heap : read_heap vs ≡ put_in (index_of key (records_of ws)) (read_heap ws)
  pub kept : (i : ℕ) → IsKept (used_offsets (read_heap vs)) i → IsOutside (offset_for (read_heap ws)) i → get_or vs i 0 ≡ get_or ws i 0

module _ (ws : List ℕ) (key : MapKey) (slot before at : ℕ) (holds : HoldsTree (page_of ws)) (room35 : length (records_of ws) < 35) (st : IsOffsetOfKey ws key slot before at) where
  kn : Known ws
  kn = known ws holds

  abbrev k : ℕ
  k = index_of key (records_of ws)

  abbrev own : ℕ
  own = get_or ws (8 + slot) 0

  pub nodes-few : length (nodes_of ws) < 35
  nodes-few = let long = kn.long in omega arith

  pub slot-read : 8 + slot < length ws
  slot-read = let s = kn.size in let few = kn.slots in let r = st.in_range in omega arith

  -- the offset is taken
  module _ (w1 : List ℕ) (p : ℕ) (tk : IsOffsetTaken ws w1 p) where
    pub can-link : CanLink w1 before at own p
    can-link =
        let b = before-range ws w1 key slot before at p kn st nodes-few tk in
        let o = owner-range ws w1 key slot before at p kn st nodes-few tk in
        let a = apart-all ws w1 key slot before at p kn st nodes-few tk in
        record {
          size = tk.size ∙ kn.size;
          offset_low = tk.low;
          offset_high = tk.high;
          before_header = record { low = b.0; high = b.1 };
          owner_header = record { low = o.0; high = o.1 };
          apart = a.0;
          before_apart = a.1.0;
          owner_apart = a.1.1;
          reaches = at-le ws w1 key slot before at p kn st nodes-few tk;
          before_word = before-low ws w1 key slot before at p kn st nodes-few tk;
          owner_word = owner-low ws w1 key slot before at p kn st nodes-few tk;
          count_word = count-low ws w1 key slot before at p kn st nodes-few tk;
        }

    -- the record is linked in
    module _ (vs : List ℕ) (value : ℕ) (lk : IsLinkedIn w1 vs before at own p key value) (absent : value_at key (records_of ws) ≡ None) (below : rank key < end_rank) where
      size : length vs ≡ 160
      size = lk.size ∙ (tk.size ∙ kn.size)

      pub owner-read : own < length vs
      owner-read = let o = owner-range ws w1 key slot before at p kn st nodes-few tk in let z = o.1 in let s = size in omega arith

      abbrev gives : Gives (read_chain ws) p (rest_of (read_chain ws).free)
      gives = gv ws w1 key slot before at p kn st nodes-few tk

      abbrev wr : Written ws vs (read_chain ws) k p key value (rest_of (read_chain ws).free)
      wr = written ws w1 key slot before at p kn st nodes-few tk vs value lk absent below

      pub put-plain : get_or vs own 0 / 256 ≤ 8 → IsPut ws vs key value
      put-plain few = record {
        page = plain ws w1 key slot before at p kn st nodes-few tk vs value lk absent below few;
        heap = heap-put ws vs key holds (plain-heap ws w1 key slot before at p kn st nodes-few tk vs value lk absent below few);
        kept = kept-put ws vs (λ i kept out.
            kept1 ws key slot before at p kn st nodes-few gives vs value wr absent below i
            (subst (λ (n : ℕ). IsKept n i) (ap used_in_chain (plain-read ws w1 key slot before at p kn st nodes-few tk vs value lk absent below few)) kept)
            (subst (λ (q : ℕ). IsOutside q i) (sym tk.offset) out));
      }

      -- a slot of nine
      module _ (over : 8 < get_or vs own 0 / 256) where
        abbrev first : ℕ
        first = get_or ws (8 + (slot - 1)) 0

        full : get_or vs own 0 / 256 ≤ 8 → ⊥
        full r = omega arith

        walk : Steps ws key slot before at p kn st nodes-few gives vs value wr absent below first (end_from vs 1 first) (end_from vs 2 first) (end_from vs 3 first) (end_from vs 4 first)
        walk = walked ws w1 key slot before at p kn st nodes-few tk vs value lk absent below full first (end_from vs 1 first) (end_from vs 2 first) (end_from vs 3 first) (end_from vs 4 first) refl refl refl refl refl

        pub fourth-read : (n : ℕ) → n < 4 → end_from vs n first < length vs
        fourth-read zero lt = let s = size in let l = walk.low0 in omega arith
        fourth-read (suc zero) lt = let s = size in let l = walk.low1 in omega arith
        fourth-read (suc (suc zero)) lt = let s = size in let l = walk.low2 in omega arith
        fourth-read (suc (suc (suc zero))) lt = let s = size in let l = walk.low3 in omega arith
        fourth-read (suc (suc (suc (suc n)))) lt = absurd (omega arith)

        module _ (middle : ℕ) (is : middle ≡ end_from vs 4 first) where
          abbrev h1 : Chain
          h1 = heap1 ws key slot before at p kn st nodes-few gives vs value wr absent below

          abbrev sh : Shaped vs h1
          sh = shaped1 ws key slot before at p kn st nodes-few gives vs value wr absent below

          abbrev ov : OverAt k 0 h1.nodes h1.last
          ov = over1 ws key slot before at p kn st nodes-few gives vs value wr absent below

          abbrev nn : owned_by (drop k h1.nodes) h1.last ≡ 9
          nn = full-nine ws w1 key slot before at p kn st nodes-few tk vs value lk absent below full

          abbrev wi : InSlot (slot - 1) k h1.nodes
          wi = within1 ws key slot before at p kn st nodes-few gives vs value wr absent below

          abbrev oi : own ≡ owner_from (drop k h1.nodes)
          oi = owner_is ws key slot before at p kn st nodes-few gives ∙ sym (owner-drop _ p (nodes_of ws) (k_le ws key slot before at p kn st nodes-few gives))

          abbrev mi : middle ≡ first_of (drop (up_to (slot - 1) h1.nodes + 3) h1.nodes)
          mi = is ∙ walk.is

          middle-header : IsHeader middle
          middle-header = let l = walk.low4 in let h = walk.high4 in record { low = omega arith; high = omega arith }

          owner-header : IsHeader own
          owner-header = let o = owner-range ws w1 key slot before at p kn st nodes-few tk in record { low = o.0; high = o.1 }

          pub can-split : CanSplitSlot vs slot middle own
          can-split =
              let t = top-is vs h1 k slot own middle sh st.some ov nn wi oi mi in
              let r = room vs h1 k slot own middle sh st.some ov nn wi oi mi in
              let b = wi.1.1 in
              let some = st.some in
              record {
                size = size;
                some = st.some;
                last = omega arith;
                few = omega arith;
                middle_header = middle-header;
                owner_header = owner-header;
                apart = two-apart vs h1 k slot own middle sh st.some ov nn wi oi mi;
                middle_word = middle-low vs h1 k slot own middle sh st.some ov nn wi oi mi;
                owner_word = omega arith;
              }

          pub put-split : (v2 : List ℕ) → IsSlotSplit vs v2 slot middle own → IsPut ws v2 key value
          put-split v2 sp =
              let nine = nn in
              let after = split-heap-is vs h1 k slot own middle sh st.some ov nn wi oi mi v2 sp owner-header.low middle-header.low in
              record {
                page = split-done vs h1 k slot own middle sh st.some ov nn wi oi mi v2 sp owner-header.low middle-header.low
                    ∙ (ap (λ (q : Page). Tree q) (page1 ws key slot before at p kn st nodes-few gives vs value wr absent below) ∙ sym (wanted ws key slot before at p kn st nodes-few gives vs value wr absent below));
                heap = heap-put ws v2 key holds (after ∙ put-in-split _ p slot (read_chain ws) tk.offset (omega arith) (within ws key slot before at p kn st nodes-few gives) (k_le ws key slot before at p kn st nodes-few gives));
                kept = kept-put ws v2 (λ i kept out.
                    let now = subst (λ (n : ℕ). IsKept n i) (ap used_in_chain after ∙ used-split _ h1) kept in
                    split-kept vs h1 k slot own middle sh st.some ov nn wi oi mi v2 sp i now (own-apart ws key slot before at p kn st nodes-few gives vs value wr absent below i now)
                    ∙ kept1 ws key slot before at p kn st nodes-few gives vs value wr absent below i now (subst (λ (q : ℕ). IsOutside q i) (sym tk.offset) out));
              }
