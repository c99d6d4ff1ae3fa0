-- The page after a record is taken out, and after a short slot is balanced.
use Rattle.std.proofs.Common.{◌≡◌, ℕ, zero, suc, ◌+◌, ◌*◌, ◌<◌, ◌≤◌, ◌≢◌, ◌⊎◌, ◌∷◌, ◌++◌, ◌∙◌, List, length, drop, get_or, ap, sym, arith, inl, inr, subst, Some}
use Rattle.std.specs.List.{remove}
use Rattle.std.proofs.lemmas.Bool.{cases_eq, cases_lt}
use Rattle.ib_map.specs.Keys.{MapKey, end_rank}
use Rattle.ib_map.specs.Pairs.{Pairs, without, value_at}
use Rattle.ib_map.proofs.PairLaws.{Rises-without, length-without}
use Rattle.ib_map.specs.declared.TheConstants.{PAGE_WORDS}
use Rattle.ib_heap.specs.Page.{Page, IsPage}
use Rattle.ib_heap.specs.Chain.{Node, Chain, first_of, owners, times, offsets_of, records_in, used_in_chain, page_with}
use Rattle.ib_heap.specs.ChainTake.{unlink_node, unlink_last}
use Rattle.ib_heap.proofs.HeapLaws.{Chained, Directory, IsOffset, AreOffsets, EachOnce, IsHeap, Shaped}
use Rattle.ib_heap.proofs.SeekLaws.{directory-at, directory-few, length-offsets}
use Rattle.ib_heap.proofs.PutLaws.{times-append}
use Rattle.ib_heap.proofs.SplitLaws.{first-offsets}
use Rattle.ib_heap.proofs.SplitShape.{directory-from}
use Rattle.ib_heap.proofs.PutShape.{low-member, off-none, kept-pair}
use Rattle.ib_heap.proofs.ShapeLaws.{Offsets, offsets-known, offsets-from, once-from, freed-same, records-same, records-offsets, same-page, SameRecord, keys-same, keys-offsets}
use Rattle.ib_heap.proofs.UnlinkLaws.{length-unlink, times-unlink, records-unlink, SetAt, keys-unlink}
use Rattle.ib_heap.proofs.BalanceLaws.{GoneAt}

pub directory-set : (ws vs : List ℕ) (s o : ℕ) (os ps : List ℕ) → Directory ws 10 8 (18 ∷ os) → SetAt s o os ps → ((m : ℕ) → m ≢ suc s → m < 10 → get_or vs (8 + m) 0 ≡ get_or ws (8 + m) 0) → get_or vs (8 + suc s) 0 ≡ o
    → Directory vs 10 8 (18 ∷ ps)
directory-set ws vs s o os ps h set same here = directory-from vs 10 8 (18 ∷ ps) (let f = directory-few ws 10 8 (18 ∷ os) h in let l = set.long in omega arith) each
  where
    each : (m : ℕ) → m < 10 → get_or vs (8 + m) 0 ≡ get_or (18 ∷ ps) m 0
    each zero lt = same 0 (λ z. absurd (omega arith)) lt ∙ directory-at ws 10 8 (18 ∷ os) 0 h lt
    each (suc m) lt = elim (cases_eq m s) [
      | inl e ↦ ap (λ n. get_or vs (8 + suc n) 0) e ∙ (here ∙ (sym set.at ∙ ap (λ n. get_or ps n 0) (sym e)))
      | inr ne ↦ same (suc m) (λ z. ne (omega arith)) lt ∙ (directory-at ws 10 8 (18 ∷ os) (suc m) h lt ∙ sym (set.other m ne))
    ]

pub directory-gone : (ws vs : List ℕ) (s : ℕ) (os ps : List ℕ) → Directory ws 10 8 (18 ∷ os) → GoneAt s os ps → ((m : ℕ) → m ≤ s → m < 10 → get_or vs (8 + m) 0 ≡ get_or ws (8 + m) 0) → ((m : ℕ) → suc s ≤ m → m < 10 → get_or vs (8 + m) 0 ≡ get_or (18 ∷ os) (m + 1) 0)
    → Directory vs 10 8 (18 ∷ ps)
directory-gone ws vs s os ps h gone same back = directory-from vs 10 8 (18 ∷ ps) (let f = directory-few ws 10 8 (18 ∷ os) h in let l = gone.long in omega arith) each
  where
    each : (m : ℕ) → m < 10 → get_or vs (8 + m) 0 ≡ get_or (18 ∷ ps) m 0
    each zero lt = same 0 (omega arith) lt ∙ directory-at ws 10 8 (18 ∷ os) 0 h lt
    each (suc m) lt = elim (cases_lt m s) [
      | inl below ↦ same (suc m) (omega arith) lt ∙ (directory-at ws 10 8 (18 ∷ os) (suc m) h lt ∙ sym (gone.front m below))
      | inr ge ↦ back (suc m) (omega arith) lt ∙ (ap (λ n. get_or (18 ∷ os) n 0) (let e : suc m + 1 ≡ suc (m + 1) = omega arith in e) ∙ sym (gone.back m ge))
    ]

-- other headers of the same records
module _ (ws vs : List ℕ) (h : Chain) (ys : List Node) (l : ℕ) (is : Shaped ws h) (same : offsets_of ys ≡ offsets_of h.nodes) (size : length vs ≡ PAGE_WORDS)
    (other : (i : ℕ) → (i < 7) ⊎ (17 < i) → times i (offsets_of h.nodes) ≡ 0 → i ≢ 19 → get_or vs i 0 ≡ get_or ws i 0) where
  abbrev pub other_heap : Chain
  other_heap = record { nodes = ys; last = l; free = h.free }

  known : Offsets h
  known = offsets-known h is.offsets is.once

  header_word : (i : ℕ) → i < 7 → get_or vs i 0 ≡ get_or ws i 0
  header_word i lt = other i (inl lt) (off-none h known is.few i (inl (omega arith))) (λ z. absurd (omega arith))

  pub other-page : page_with vs (records_in vs ys) ≡ page_with ws (records_in ws h.nodes)
  other-page =
      ap (λ (rs : Pairs). page_with vs rs) (records-offsets vs ys h.nodes same ∙ records-same ws vs h.nodes (kept-pair ws vs h known is.few (λ i high off. other i (inr (omega arith)) (off-none h known is.few i off) (λ z. absurd (omega arith)))))
      ∙ same-page ws vs (records_in ws h.nodes) (header_word 1 (omega arith)) (header_word 3 (omega arith)) (header_word 4 (omega arith)) (header_word 5 (omega arith))

  long : length ys ≡ length h.nodes
  long = sym (length-offsets ys) ∙ (ap length same ∙ length-offsets h.nodes)

  free_word : (q : ℕ) → 0 < times q h.free → get_or vs q 0 ≡ get_or ws q 0
  free_word q m =
      let l = low-member h known is.few q (omega arith) in let a = l.is in let o = known.once q in
      other q (inr (omega arith)) (omega arith) (λ z. absurd (omega arith))

  pub other-shaped : Chained vs ys l → Directory vs 10 8 (18 ∷ owners ys) → get_or vs 7 0 ≡ (1 + length (owners ys)) * 256 + (20 + 4 * used_in_chain h) → Shaped vs other_heap
  other-shaped chained directory top =
      let lo = long in let few = is.few in let c = is.count in let hc = header_word 2 (omega arith) in
      record {
        size = size;
        kind = header_word 0 (omega arith) ∙ is.kind;
        count = omega arith;
        fits = subst (λ (q : Page). IsPage q) (sym other-page) is.fits;
        front = header_word 6 (omega arith) ∙ is.front;
        top = omega arith;
        few = omega arith;
        start = other 18 (inr (omega arith)) (off-none h known is.few 18 (inl (omega arith))) (λ z. absurd (omega arith)) ∙ (is.start ∙ ap (λ n. 256 + n) (sym (first-offsets ys h.nodes same)));
        chained = chained;
        freed = freed-same ws vs h.free is.freed free_word;
        directory = directory;
        offsets = subst (λ (ps : List ℕ). AreOffsets (used_in_chain other_heap) (ps ++ h.free)) (sym same) (subst (λ (n : ℕ). AreOffsets n (offsets_of h.nodes ++ h.free)) (let e : used_in_chain h ≡ used_in_chain other_heap = omega arith in e) is.offsets);
        once = subst (λ (ps : List ℕ). EachOnce (used_in_chain other_heap) (ps ++ h.free)) (sym same) (subst (λ (n : ℕ). EachOnce n (offsets_of h.nodes ++ h.free)) (let e : used_in_chain h ≡ used_in_chain other_heap = omega arith in e) is.once);
        keyed = keys-offsets vs ys h.nodes same ∙ (keys-same ws vs h.nodes (kept-pair ws vs h known is.few (λ i high off. other i (inr (omega arith)) (off-none h known is.few i off) (λ z. absurd (omega arith)))) ∙ is.keyed);
      }

-- what was written for a record taken out
pub record UnlinkWords (ws vs : List ℕ) (h : Chain) (k : ℕ) : Type 0 where
  pub size : length vs ≡ PAGE_WORDS
  pub count : get_or vs 2 0 + 1 ≡ get_or ws 2 0
  pub front : get_or vs 6 0 ≡ first_of (drop k h.nodes)
  pub freed : get_or vs (first_of (drop k h.nodes)) 0 ≡ get_or ws 6 0
  pub start : get_or vs 18 0 ≡ 256 + first_of (unlink_node k h.nodes)
  pub other : (i : ℕ) → i ≢ 2 → i ≢ 6 → (i < 8) ⊎ (18 < i) → times i (offsets_of h.nodes) ≡ 0 → i ≢ 19 → get_or vs i 0 ≡ get_or ws i 0

module _ (ws vs : List ℕ) (h : Chain) (k : ℕ) (key : MapKey) (value : ℕ) (is : IsHeap ws h) (lt : k < length h.nodes) (w : UnlinkWords ws vs h k)
    (gone : remove (records_in ws h.nodes) k ≡ without key (records_in ws h.nodes)) (found : value_at key (records_in ws h.nodes) ≡ Some value) where
  abbrev pub unlink_heap : Chain
  unlink_heap = record { nodes = unlink_node k h.nodes; last = unlink_last k h.nodes h.last; free = first_of (drop k h.nodes) ∷ h.free }

  abbrev at : ℕ
  at = first_of (drop k h.nodes)

  known_before : Offsets h
  known_before = offsets-known h is.shape.offsets is.shape.once

  kept_header : (i : ℕ) → i < 8 → i ≢ 2 → i ≢ 6 → get_or vs i 0 ≡ get_or ws i 0
  kept_header i l two six = w.other i two six (inl l) (off-none h known_before is.shape.few i (inl (omega arith))) (λ z. absurd (omega arith))

  times_in : (q : ℕ) → times q (offsets_of (unlink_node k h.nodes)) ≤ times q (offsets_of h.nodes)
  times_in q = let t = times-unlink k q h.nodes lt in omega arith

  same-records : (q : ℕ) → 0 < times q (offsets_of (unlink_node k h.nodes)) → SameRecord ws vs q
  same-records q m = let t = times_in q in kept-pair ws vs h known_before is.shape.few (λ i high off. w.other i (λ z. absurd (omega arith)) (λ z. absurd (omega arith)) (inr (omega arith)) (off-none h known_before is.shape.few i off) (λ z. absurd (omega arith))) q (omega arith)

  pub unlink-records : records_in vs (unlink_node k h.nodes) ≡ without key (records_in ws h.nodes)
  unlink-records = records-same ws vs (unlink_node k h.nodes) same-records ∙ (records-unlink ws k h.nodes lt ∙ gone)

  pub unlink-page : page_with vs (records_in vs (unlink_node k h.nodes)) ≡ page_with ws (without key (records_in ws h.nodes))
  unlink-page = ap (λ (rs : Pairs). page_with vs rs) unlink-records
      ∙ same-page ws vs (without key (records_in ws h.nodes)) (kept_header 1 (omega arith) (λ z. absurd (omega arith)) (λ z. absurd (omega arith))) (kept_header 3 (omega arith) (λ z. absurd (omega arith)) (λ z. absurd (omega arith)))
      (kept_header 4 (omega arith) (λ z. absurd (omega arith)) (λ z. absurd (omega arith))) (kept_header 5 (omega arith) (λ z. absurd (omega arith)) (λ z. absurd (omega arith)))

  unlink_fits : IsPage (page_with ws (without key (records_in ws h.nodes)))
  unlink_fits =
      let f = is.shape.fits in let few = f.few in let longer = length-without key value (records_in ws h.nodes) found in
      record { level = f.level; prev = f.prev; next = f.next; no_prev = f.no_prev; no_next = f.no_next; few = omega arith; ascends = Rises-without key 0 (records_in ws h.nodes) end_rank f.ascends }

  times_new : (q : ℕ) → times q (offsets_of (unlink_node k h.nodes) ++ (at ∷ h.free)) ≡ times q (offsets_of h.nodes) + times q h.free
  times_new q = let a = times-append q (offsets_of (unlink_node k h.nodes)) (at ∷ h.free) in let b = times-unlink k q h.nodes lt in omega arith

  used_is : used_in_chain unlink_heap ≡ used_in_chain h
  used_is = let l = length-unlink k h.nodes lt in omega arith

  kept_free : (q : ℕ) → 0 < times q h.free → get_or vs q 0 ≡ get_or ws q 0
  kept_free q m =
      let l = low-member h known_before is.shape.few q (omega arith) in let a = l.is in let o = known_before.once q in
      w.other q (λ z. absurd (omega arith)) (λ z. absurd (omega arith)) (inr (omega arith)) (omega arith) (λ z. absurd (omega arith))

  pub unlink-shaped : Chained vs (unlink_node k h.nodes) (unlink_last k h.nodes h.last) → Directory vs 10 8 (18 ∷ owners (unlink_node k h.nodes)) → length (owners (unlink_node k h.nodes)) ≡ length (owners h.nodes) → Shaped vs unlink_heap
  unlink-shaped chained directory slots =
      let lo = length-unlink k h.nodes lt in let u = used_is in let few = is.shape.few in let c = is.shape.count in let wc = w.count in let t = is.shape.top in let ht = kept_header 7 (omega arith) (λ z. absurd (omega arith)) (λ z. absurd (omega arith)) in
      record {
        size = w.size;
        kind = kept_header 0 (omega arith) (λ z. absurd (omega arith)) (λ z. absurd (omega arith)) ∙ is.shape.kind;
        count = omega arith;
        fits = subst (λ (q : Page). IsPage q) (sym unlink-page) unlink_fits;
        front = w.front;
        top = omega arith;
        few = omega arith;
        start = w.start;
        chained = chained;
        freed = (w.freed ∙ is.shape.front, freed-same ws vs h.free is.shape.freed kept_free);
        directory = directory;
        offsets = offsets-from (used_in_chain unlink_heap) (offsets_of (unlink_node k h.nodes) ++ (at ∷ h.free)) (λ q m. subst (λ (n : ℕ). IsOffset n q) (sym used_is) (known_before.offset q (let t1 = times_new q in omega arith)));
        once = once-from (used_in_chain unlink_heap) (offsets_of (unlink_node k h.nodes) ++ (at ∷ h.free)) (λ r m. let t1 = times_new (20 + 4 * r) in let e = known_before.each r (omega arith) in omega arith);
        keyed = keys-same ws vs (unlink_node k h.nodes) same-records ∙ keys-unlink ws k h.nodes is.shape.keyed;
      }
