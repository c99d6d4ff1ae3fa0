-- The page after a put, by what was written.
use Rattle.std.proofs.Common.{◌≡◌, ℕ, zero, suc, ◌+◌, ◌*◌, ◌<◌, ◌≤◌, ◌≢◌, ◌⊎◌, [], ◌∷◌, ◌++◌, ◌∙◌, List, length, take, drop, get_or, refl, ap, sym, arith, inl, inr, subst, None}
use Rattle.std.specs.List.{insert}
use Rattle.std.proofs.lemmas.Bool.{cases_eq, cases_lt}
use Rattle.ib_map.specs.Keys.{MapKey, rank, end_rank}
use Rattle.ib_map.specs.Pairs.{Pairs, put, value_at, index_of}
use Rattle.ib_map.proofs.PairLaws.{Rises-put, length-put as length-put-pairs}
use Rattle.ib_map.proofs.IndexLaws.{insert-index}
use Rattle.ib_heap.specs.Page.{Page, IsPage}
use Rattle.ib_heap.specs.Chain.{Node, Chain, first_of, owners, times, offsets_of, records_in, used_in_chain, page_with, last_from, nodes_of, read_chain}
use Rattle.ib_heap.specs.ChainPut.{owner_from, put_node, put_last}
use Rattle.ib_heap.proofs.HeapLaws.{Chained, Freed, Directory, IsOffset, AreOffsets, EachOnce, IsHeap, Shaped}
use Rattle.ib_heap.proofs.SeekLaws.{length-records, Known}
use Rattle.ib_heap.proofs.KeptLaws.{outside-other}
use Rattle.ib_heap.proofs.PutLaws.{one, one-same, one-other, owners-put, length-put, times-put, times-append, first-put, owner-in, times-drop, last-member, SameAt, chain-put, times-apart}
use Rattle.ib_heap.proofs.ShapeLaws.{Offsets, offsets-known, offsets-from, once-from, freed-same, directory-same, records-put, keys-put, SameRecord, Gives, Written, put_heap, same-page}

-- what is known of the offset that a record takes
pub record NewOffset (h : Chain) (p : ℕ) (free : List ℕ) : Type 0 where
  pub more : used_in_chain h ≤ length h.nodes + 1 + length free
  pub few : length h.nodes < 35 → length h.nodes + 1 + length free ≤ 35
  pub not_node : times p (offsets_of h.nodes) ≡ 0
  pub not_free : times p free ≡ 0
  pub was_free : (q : ℕ) → times q free ≤ times q h.free
  pub offset : (q : ℕ) → 0 < one p q + times q (offsets_of h.nodes) + times q free → IsOffset (length h.nodes + 1 + length free) q
  pub each : (r : ℕ) → r < length h.nodes + 1 + length free → one p (20 + 4 * r) + times (20 + 4 * r) (offsets_of h.nodes) + times (20 + 4 * r) free ≡ 1

wider : (n m q : ℕ) → IsOffset n q → n ≤ m → IsOffset m q
wider n m q h le = let b = h.below in record { number = h.number; is = h.is; below = omega arith }

pub new-offset : (h : Chain) (p : ℕ) (free : List ℕ) → Offsets h → used_in_chain h ≤ 35 → Gives h p free → NewOffset h p free
new-offset h p free known few (inl e) =
    let times_is : (q : ℕ) → times q h.free ≡ one p q + times q free = λ q. ap (λ (ps : List ℕ). times q ps) e in
    let long : length h.free ≡ 1 + length free = ap length e ∙ (let l : length (p ∷ free) ≡ 1 + length free = omega arith in l) in
    let same : length h.nodes + 1 + length free ≡ used_in_chain h = omega arith in
    record {
      more = omega arith;
      few = λ lt. omega arith;
      not_node = let o = known.once p in let t = times_is p in let s = one-same p in omega arith;
      not_free = let o = known.once p in let t = times_is p in let s = one-same p in omega arith;
      was_free = λ q. let t = times_is q in omega arith;
      offset = λ q lt. wider (used_in_chain h) _ q (known.offset q (let t = times_is q in omega arith)) (omega arith);
      each = λ r lt. let o = known.each r (omega arith) in let t = times_is (20 + 4 * r) in omega arith;
    }
new-offset h p free known few (inr e) =
    let none : h.free ≡ [] = e.0 in
    let at : p ≡ 20 + 4 * used_in_chain h = e.1.0 in
    let empty : free ≡ [] = e.1.1 in
    let times_old : (q : ℕ) → times q h.free ≡ 0 = λ q. ap (λ (ps : List ℕ). times q ps) none in
    let times_new : (q : ℕ) → times q free ≡ 0 = λ q. ap (λ (ps : List ℕ). times q ps) empty in
    let long_old : length h.free ≡ 0 = ap length none in
    let long_new : length free ≡ 0 = ap length empty in
    let not_node : times p (offsets_of h.nodes) ≡ 0 = elim (cases_lt 0 (times p (offsets_of h.nodes))) [
      | inl lt ↦ absurd (let pl = known.offset p (omega arith) in let i = pl.is in let b = pl.below in omega arith)
      | inr ge ↦ omega arith
    ] in
    record {
      more = omega arith;
      few = λ lt. omega arith;
      not_node = not_node;
      not_free = times_new p;
      was_free = λ q. let t = times_new q in omega arith;
      offset = λ q lt. elim (cases_eq p q) [
        | inl same ↦ record { number = used_in_chain h; is = sym same ∙ at; below = omega arith }
        | inr ne ↦ wider (used_in_chain h) _ q (known.offset q (let o = one-other p q ne in let t = times_new q in omega arith)) (omega arith)
      ];
      each = λ r lt. elim (cases_eq p (20 + 4 * r)) [
        | inl same ↦ (let s = one-same p in let z : one p (20 + 4 * r) ≡ 1 = ap (λ n. one p n) (sym same) ∙ s in let m : times (20 + 4 * r) (offsets_of h.nodes) ≡ 0 = ap (λ n. times n (offsets_of h.nodes)) (sym same) ∙ not_node in let t = times_new (20 + 4 * r) in omega arith)
        | inr ne ↦ (let z = one-other p (20 + 4 * r) ne in let o = known.each r (omega (arith, ne)) in let s = times_old (20 + 4 * r) in let t = times_new (20 + 4 * r) in omega arith)
      ];
    }

-- where the neighbours stand
pub before-in : (k : ℕ) (xs : List Node) → k ≤ length xs → ((k ≡ 0) × (last_from 18 (take k xs) ≡ 18)) ⊎ ((0 < k) × (0 < times (last_from 18 (take k xs)) (offsets_of xs)))
before-in zero xs le = inl (refl, refl)
before-in (suc k) xs le = inr (omega arith, last-member 18 k xs (omega arith))

-- an offset of the chain or of the supremum that is not one of the two neighbours
abbrev pub IsBefore : Chain → ℕ → Type 0
IsBefore h b = (b ≡ 18) ⊎ (0 < times b (offsets_of h.nodes))

abbrev pub IsOwnerOffset : Chain → ℕ → Type 0
IsOwnerOffset h o = (o ≡ 19) ⊎ (0 < times o (offsets_of h.nodes))

-- an offset of the heap is 20 and four times a number below 35
pub record Low (p : ℕ) : Type 0 where
  pub number : ℕ
  pub is : p ≡ 20 + 4 * number
  pub below : number < 35

pub low-member : (h : Chain) → Offsets h → used_in_chain h ≤ 35 → (q : ℕ) → 0 < times q (offsets_of h.nodes) + times q h.free → Low q
low-member h known few q m = let pl = known.offset q m in let b = pl.below in record { number = pl.number; is = pl.is; below = omega arith }

-- the same of an image of a page
pub low-node : (ws : List ℕ) → Known ws → (q : ℕ) → 0 < times q (offsets_of (nodes_of ws)) → Low q
low-node ws kn q m = low-member (read_chain ws) (offsets-known (read_chain ws) kn.is.shape.offsets kn.is.shape.once) kn.few q (omega arith)

-- a word that is the header of no record offset
abbrev pub Off : ℕ → Type 0
Off i = (i < 20) ⊎ ((156 < i) ⊎ ((q : ℕ) → i ≢ 20 + 4 * q))

pub off-low : (i q : ℕ) → Off i → Low q → i ≢ q
off-low i q off l z = let a = l.is in let b = l.below in elim off [ inl f ↦ absurd (omega arith) | inr f ↦ elim f [ inl g ↦ absurd (omega arith) | inr g ↦ g l.number (z ∙ a) ] ]

-- no record stands there
pub off-none : (h : Chain) → Offsets h → used_in_chain h ≤ 35 → (i : ℕ) → Off i → times i (offsets_of h.nodes) ≡ 0
off-none h known few i off = elim (cases_lt 0 (times i (offsets_of h.nodes))) [
  | inl lt ↦ absurd (off-low i i off (low-member h known few i (omega arith)) refl)
  | inr ge ↦ omega arith
]

-- a record keeps its key and value where each word behind 20 that is no header stays as it is
pub kept-pair : (ws vs : List ℕ) (h : Chain) → Offsets h → used_in_chain h ≤ 35 → ((i : ℕ) → 20 < i → Off i → get_or vs i 0 ≡ get_or ws i 0) → (q : ℕ) → 0 < times q (offsets_of h.nodes)
    → SameRecord ws vs q
kept-pair ws vs h known few same q m =
    let l = low-member h known few q (omega arith) in let a = l.is in
    let off : (j : ℕ) → 0 < j → j < 4 → Off (q + j) = λ j pos lt. inr (inr (λ r z. absurd (omega arith))) in
    record { first = same (q + 1) (omega arith) (off 1 (omega arith) (omega arith)); second = same (q + 2) (omega arith) (off 2 (omega arith) (omega arith)); value = same (q + 3) (omega arith) (off 3 (omega arith) (omega arith)) }

module _ (ws vs : List ℕ) (h : Chain) (k p : ℕ) (key : MapKey) (value : ℕ) (free : List ℕ) (is : IsHeap ws h) (gives : Gives h p free) (w : Written ws vs h k p key value free) (le : k ≤ length h.nodes) (lt : length h.nodes < 35) where
  abbrev before : ℕ
  before = last_from 18 (take k h.nodes)

  abbrev owner : ℕ
  owner = owner_from (drop k h.nodes)

  known : Offsets h
  known = offsets-known h is.shape.offsets is.shape.once

  new : NewOffset h p free
  new = new-offset h p free known is.shape.few gives

  n_few : length h.nodes + 1 + length free ≤ 35
  n_few = new.few lt

  p_low : Low p
  p_low = let pl = new.offset p (let o = one-same p in omega arith) in let b = pl.below in let f = n_few in record { number = pl.number; is = pl.is; below = omega arith }

  b_in : ((k ≡ 0) × (before ≡ 18)) ⊎ ((0 < k) × (0 < times before (offsets_of h.nodes)))
  b_in = before-in k h.nodes le

  owner_is : IsOwnerOffset h owner
  owner_is = elim (owner-in (drop k h.nodes)) [ inl e ↦ inl e | inr m ↦ inr (let t = times-drop k owner h.nodes in omega arith) ]

  before_low : (before ≡ 18) ⊎ Low before
  before_low = elim b_in [ inl e ↦ inl e.1 | inr m ↦ inr (low-member h known is.shape.few before (let t = m.1 in omega arith)) ]

  owner_low : (owner ≡ 19) ⊎ Low owner
  owner_low = elim owner_is [ inl e ↦ inl e | inr m ↦ inr (low-member h known is.shape.few owner (omega arith)) ]

  not_before : (i : ℕ) → Off i → i ≢ 18 → i ≢ before
  not_before i off ne = elim before_low [ inl e ↦ (λ z. ne (z ∙ e)) | inr l ↦ off-low i before off l ]

  not_owner : (i : ℕ) → Off i → i ≢ 19 → i ≢ owner
  not_owner i off ne = elim owner_low [ inl e ↦ (λ z. ne (z ∙ e)) | inr l ↦ off-low i owner off l ]

  far_word : (i : ℕ) → i ≢ 2 → i ≢ 6 → i ≢ 7 → (i < 18) ⊎ (159 < i) → get_or vs i 0 ≡ get_or ws i 0
  far_word i a b d far =
      let l = p_low in let e = l.is in let f = l.below in
      let off : Off i = elim far [ inl g ↦ inl (omega arith) | inr g ↦ inr (inl (omega arith)) ] in
      w.other i a b d (elim far [ inl g ↦ inl (omega arith) | inr g ↦ inr (omega arith) ])
      (not_before i off (λ z. elim far [ inl g ↦ absurd (omega arith) | inr g ↦ absurd (omega arith) ])) (not_owner i off (λ z. elim far [ inl g ↦ absurd (omega arith) | inr g ↦ absurd (omega arith) ]))

  not_new : (q : ℕ) → 0 < times q (offsets_of h.nodes) → q ≢ p
  not_new q m z = times-apart p q (offsets_of h.nodes) new.not_node m (sym z)

  -- the word of a key or a value
  kept_word : (q i : ℕ) → 0 < times q (offsets_of h.nodes) → q < i → i ≤ q + 3 → get_or vs i 0 ≡ get_or ws i 0
  kept_word q i m low high =
      let l = low-member h known is.shape.few q (omega arith) in let a = l.is in let b = l.below in
      let pl = p_low in let pa = pl.is in
      let ne = not_new q m in
      let off : Off i = inr (inr (λ r z. absurd (omega arith))) in
      w.other i (λ z. absurd (omega arith)) (λ z. absurd (omega arith)) (λ z. absurd (omega arith))
      (outside-other p q i _ _ pa a ne (omega arith) (omega arith))
      (not_before i off (λ z. absurd (omega arith))) (not_owner i off (λ z. absurd (omega arith)))

  kept_words : (q : ℕ) → 0 < times q (offsets_of h.nodes) → SameRecord ws vs q
  kept_words q m = record { first = kept_word q (q + 1) m (omega arith) (omega arith); second = kept_word q (q + 2) m (omega arith) (omega arith); value = kept_word q (q + 3) m (omega arith) (omega arith) }

  new_records : k ≡ index_of key (records_in ws h.nodes) → records_in vs (put_node k p h.nodes) ≡ put key value (records_in ws h.nodes)
  new_records at = records-put ws vs k p h.nodes le kept_words ∙ (ap (λ (n : MapKey). insert (records_in ws h.nodes) k (n, get_or vs (p + 3) 0)) w.key_word ∙ (ap (λ (n : ℕ). insert (records_in ws h.nodes) k (key, n)) w.value_word ∙ insert-index key value (records_in ws h.nodes) k at))

  same_header : (i : ℕ) → (i < 2) ⊎ ((2 < i) × (i < 6)) → get_or vs i 0 ≡ get_or ws i 0
  same_header i m = far_word i (λ z. elim m [ inl f ↦ absurd (omega arith) | inr f ↦ absurd (omega arith) ]) (λ z. elim m [ inl f ↦ absurd (omega arith) | inr f ↦ absurd (omega arith) ]) (λ z. elim m [ inl f ↦ absurd (omega arith) | inr f ↦ absurd (omega arith) ])
      (inl (elim m [ inl f ↦ omega arith | inr f ↦ omega arith ]))

  new_page : (rs : Pairs) → page_with vs rs ≡ page_with ws rs
  new_page rs = same-page ws vs rs (same_header 1 (inl (omega arith))) (same_header 3 (inr (omega arith, omega arith))) (same_header 4 (inr (omega arith, omega arith))) (same_header 5 (inr (omega arith, omega arith)))

  pub put-page : k ≡ index_of key (records_in ws h.nodes) → page_with vs (records_in vs (put_node k p h.nodes)) ≡ page_with ws (put key value (records_in ws h.nodes))
  put-page at = ap (λ (rs : Pairs). page_with vs rs) (new_records at) ∙ new_page (put key value (records_in ws h.nodes))

  new_fits : value_at key (records_in ws h.nodes) ≡ None → rank key < end_rank → IsPage (page_with ws (put key value (records_in ws h.nodes)))
  new_fits none in_range =
      let f = is.shape.fits in let long = length-records ws h.nodes in let longer = length-put-pairs key value (records_in ws h.nodes) in
      record { level = f.level; prev = f.prev; next = f.next; no_prev = f.no_prev; no_next = f.no_next; few = omega arith; ascends = Rises-put key value 0 (records_in ws h.nodes) end_rank f.ascends (omega arith) in_range none }

  times_new : (q : ℕ) → times q (offsets_of (put_node k p h.nodes) ++ free) ≡ one p q + times q (offsets_of h.nodes) + times q free
  times_new q = let a = times-append q (offsets_of (put_node k p h.nodes)) free in let b = times-put k p q h.nodes le in omega arith

  used_is : used_in_chain (put_heap k p free h) ≡ length h.nodes + 1 + length free
  used_is = let longer = length-put k p h.nodes le in omega arith

  same_at : SameAt ws vs h.nodes before owner
  same_at q m nb nw =
      let pl = p_low in let pa = pl.is in
      w.other q (λ z. elim m [ inl n ↦ absurd (let l = low-member h known is.shape.few q (omega arith) in let a = l.is in omega arith) | inr e ↦ absurd (omega arith) ]) (λ z. elim m [ inl n ↦ absurd (let l = low-member h known is.shape.few q (omega arith) in let a = l.is in omega arith) | inr e ↦ absurd (omega arith) ])
      (λ z. elim m [ inl n ↦ absurd (let l = low-member h known is.shape.few q (omega arith) in let a = l.is in omega arith) | inr e ↦ absurd (omega arith) ])
      (elim m [ inl n ↦ (let l = low-member h known is.shape.few q (omega arith) in outside-other p q q _ _ pa l.is (not_new q n) (omega arith) (omega arith)) | inr e ↦ inl (omega arith) ]) nb nw

  new_chained : Chained vs (put_node k p h.nodes) (put_last k h.nodes h.last)
  new_chained = chain-put ws vs 18 k p h.nodes h.last le is.shape.chained known.apart (inl refl) w.offset_word w.link w.raised same_at

  old_freed : Freed ws free
  old_freed = elim gives [ inl e ↦ (subst (λ (ps : List ℕ). Freed ws ps) e is.shape.freed).1 | inr e ↦ subst (λ (ps : List ℕ). Freed ws ps) (sym e.1.1) tt ]

  not_member : (q o : ℕ) → 0 < times q free → 0 < times o (offsets_of h.nodes) → q ≢ o
  not_member q o m mo z = absurd (let t = subst (λ (x : ℕ). 0 < times x (offsets_of h.nodes)) (sym z) mo in let f = new.was_free q in let u = known.once q in omega arith)

  free_word : (q : ℕ) → 0 < times q free → get_or vs q 0 ≡ get_or ws q 0
  free_word q m =
      let in_free = new.was_free q in
      let l = low-member h known is.shape.few q (omega arith) in let a = l.is in
      let pl = p_low in let pa = pl.is in
      w.other q (λ z. absurd (omega arith)) (λ z. absurd (omega arith)) (λ z. absurd (omega arith))
      (outside-other p q q _ _ pa a (λ z. times-apart p q free new.not_free m (sym z)) (omega arith) (omega arith))
      (elim b_in [ inl e ↦ (λ z. absurd (let f = e.1 in omega arith)) | inr e ↦ not_member q before m e.1 ])
      (elim owner_is [ inl e ↦ (λ z. absurd (omega arith)) | inr e ↦ not_member q owner m e ])

  new_start : get_or vs 18 0 ≡ 256 + first_of (put_node k p h.nodes)
  new_start = go k refl
    where
      go : (j : ℕ) → k ≡ j → get_or vs 18 0 ≡ 256 + first_of (put_node k p h.nodes)
      go zero e =
          let s = is.shape.start in
          let l = subst (λ (j : ℕ). get_or vs (last_from 18 (take j h.nodes)) 0 + first_of (drop j h.nodes) ≡ get_or ws (last_from 18 (take j h.nodes)) 0 + p) e w.link in
          let m : get_or vs 18 0 + first_of h.nodes ≡ get_or ws 18 0 + p = l in
          let n : get_or vs 18 0 ≡ 256 + p = omega arith in
          subst (λ (j : ℕ). get_or vs 18 0 ≡ 256 + first_of (put_node j p h.nodes)) (sym e) n
      go (suc j) e =
          let pl = p_low in let pa = pl.is in
          let same : get_or vs 18 0 ≡ get_or ws 18 0 = w.other 18 (λ z. absurd (omega arith)) (λ z. absurd (omega arith)) (λ z. absurd (omega arith)) (inl (omega arith))
          (elim b_in [ inl f ↦ (λ z. absurd (let g = f.0 in omega arith)) | inr f ↦ (λ z. absurd (let g = low-member h known is.shape.few before (let t = f.1 in omega arith) in let y = g.is in omega arith)) ])
          (not_owner 18 (inl (omega arith)) (λ z. absurd (omega arith))) in
          subst (λ (i : ℕ). get_or vs 18 0 ≡ 256 + first_of (put_node i p h.nodes)) (sym e) (same ∙ (is.shape.start ∙ ap (λ n. 256 + n) (sym (first-put j p h.nodes))))

  new_count : get_or vs 2 0 ≡ length (put_node k p h.nodes)
  new_count = let longer = length-put k p h.nodes le in let a = w.count in let b = is.shape.count in omega arith

  new_top : get_or vs 7 0 ≡ (1 + length (owners (put_node k p h.nodes))) * 256 + (20 + 4 * used_in_chain (put_heap k p free h))
  new_top =
      let longer = used_is in let a = w.top in let b = is.shape.top in let m = new.more in
      let owners_long : length (owners (put_node k p h.nodes)) ≡ length (owners h.nodes) = ap length (owners-put k p h.nodes le) in omega arith

  new_directory : Directory vs 10 8 (18 ∷ owners (put_node k p h.nodes))
  new_directory = subst (λ (os : List ℕ). Directory vs 10 8 (18 ∷ os)) (sym (owners-put k p h.nodes le))
      (directory-same ws vs 10 8 (18 ∷ owners h.nodes) is.shape.directory (λ j a b. far_word j (λ z. absurd (omega arith)) (λ z. absurd (omega arith)) (λ z. absurd (omega arith)) (inl (omega arith))))

  new_offsets : AreOffsets (used_in_chain (put_heap k p free h)) (offsets_of (put_node k p h.nodes) ++ free)
  new_offsets = offsets-from (used_in_chain (put_heap k p free h)) (offsets_of (put_node k p h.nodes) ++ free) (λ q m. wider _ _ q (new.offset q (let t = times_new q in omega arith)) (let u = used_is in omega arith))

  new_once : EachOnce (used_in_chain (put_heap k p free h)) (offsets_of (put_node k p h.nodes) ++ free)
  new_once = once-from (used_in_chain (put_heap k p free h)) (offsets_of (put_node k p h.nodes) ++ free) (λ r m. (let u = used_is in let t = times_new (20 + 4 * r) in let e = new.each r (omega arith) in omega arith))

  pub put-shaped : k ≡ index_of key (records_in ws h.nodes) → value_at key (records_in ws h.nodes) ≡ None → rank key < end_rank → Shaped vs (put_heap k p free h)
  put-shaped at none in_range = record {
    size = w.size;
    kind = same_header 0 (inl (omega arith)) ∙ is.shape.kind;
    count = new_count;
    fits = subst (λ (q : Page). IsPage q) (sym (put-page at)) (new_fits none in_range);
    front = w.front;
    top = new_top;
    few = let u = used_is in let f = n_few in omega arith;
    start = new_start;
    chained = new_chained;
    freed = freed-same ws vs free old_freed free_word;
    directory = new_directory;
    offsets = new_offsets;
    once = new_once;
    keyed = keys-put ws vs k p h.nodes le kept_words w.is_key is.shape.keyed;
  }
