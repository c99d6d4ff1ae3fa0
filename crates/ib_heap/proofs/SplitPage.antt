-- The page after a slot of nine is split.
use Rattle.std.proofs.Common.{◌≡◌, ℕ, suc, ◌+◌, ◌<◌, ◌≤◌, ◌≢◌, ◌⊎◌, ◌∷◌, ◌++◌, ◌∙◌, List, length, drop, get_or, refl, ap, sym, arith, inl, inr, subst}
use Rattle.std.proofs.lemmas.List.Edits.{length-insert}
use Rattle.ib_map.specs.Pairs.{Pairs}
use Rattle.ib_map.specs.declared.TheConstants.{PAGE_WORDS}
use Rattle.ib_heap.specs.Page.{Page, IsPage}
use Rattle.ib_heap.specs.Chain.{Node, Chain, first_of, owners, times, offsets_of, records_in, used_in_chain, page_with, up_to}
use Rattle.ib_heap.specs.ChainPut.{owned_by, owner_from, give_slot, give_slot_last}
use Rattle.ib_heap.proofs.HeapLaws.{Directory, AreOffsets, EachOnce, Shaped}
use Rattle.ib_heap.proofs.PutLaws.{OverAt, owner-in, times-drop, SameAt, first-member}
use Rattle.ib_heap.proofs.SplitLaws.{InSlot, offsets-give_slot, first-offsets}
use Rattle.ib_heap.proofs.SplitShape.{Group, group, slots-room, chain-give_slot, directory-insert}
use Rattle.ib_heap.proofs.PutShape.{Low, low-member, Off, off-low, kept-pair}
use Rattle.ib_heap.proofs.ShapeLaws.{Offsets, offsets-known, freed-same, records-same, records-offsets, same-page, keys-same, keys-offsets}
use Rattle.ib_heap.proofs.SeekLaws.{length-offsets}

-- what was written for a split
pub record SplitWords (ws vs : List ℕ) (nodes : List Node) (j t : ℕ) : Type 0 where
  pub size : length vs ≡ PAGE_WORDS
  pub marked : get_or vs (first_of (drop t nodes)) 0 ≡ get_or ws (first_of (drop t nodes)) 0 + 1024
  pub lowered : get_or vs (owner_from (drop (suc t) nodes)) 0 + 1024 ≡ get_or ws (owner_from (drop (suc t) nodes)) 0
  pub top : get_or vs 7 0 ≡ get_or ws 7 0 + 256
  pub before : (m : ℕ) → m < j + 1 → get_or vs (8 + m) 0 ≡ get_or ws (8 + m) 0
  pub here : get_or vs (8 + (j + 1)) 0 ≡ first_of (drop t nodes)
  pub behind : (m : ℕ) → j + 1 ≤ m → m + 1 < 10 → get_or vs (8 + (m + 1)) 0 ≡ get_or ws (8 + m) 0
  pub other : (i : ℕ) → (i < 7) ⊎ (17 < i) → i ≢ first_of (drop t nodes) → i ≢ owner_from (drop (suc t) nodes) → get_or vs i 0 ≡ get_or ws i 0

abbrev pub split_heap : ℕ → Chain → Chain
split_heap t h = record { nodes = give_slot t h.nodes; last = give_slot_last t h.nodes h.last; free = h.free }

pub length-give_slot : (t : ℕ) (xs : List Node) → length (give_slot t xs) ≡ length xs
length-give_slot t xs = sym (length-offsets (give_slot t xs)) ∙ (ap length (offsets-give_slot t xs) ∙ length-offsets xs)

-- as many offsets are used as before
pub used-split : (t : ℕ) (h : Chain) → used_in_chain (split_heap t h) ≡ used_in_chain h
used-split t h = let a = length-give_slot t h.nodes in omega arith

module _ (ws vs : List ℕ) (h : Chain) (j k : ℕ) (is : Shaped ws h) (over : OverAt k 0 h.nodes h.last) (nine : owned_by (drop k h.nodes) h.last ≡ 9) (within : InSlot j k h.nodes) (w : SplitWords ws vs h.nodes j (up_to j h.nodes + 3)) (few : length h.nodes ≤ 35) where
  abbrev t : ℕ
  t = up_to j h.nodes + 3

  abbrev middle : ℕ
  middle = first_of (drop t h.nodes)

  abbrev owner : ℕ
  owner = owner_from (drop (suc t) h.nodes)

  g : Group j k t h.nodes h.last
  g = group j k 0 h.nodes h.last (λ z. refl) over nine within

  known : Offsets h
  known = offsets-known h is.offsets is.once

  middle_in : 0 < times middle (offsets_of h.nodes)
  middle_in = first-member t h.nodes g.in_range

  middle_low : Low middle
  middle_low = let m = middle_in in low-member h known is.few middle (omega arith)

  owner_low : (owner ≡ 19) ⊎ ((0 < times owner (offsets_of h.nodes)) × Low owner)
  owner_low = elim (owner-in (drop (suc t) h.nodes)) [ inl e ↦ inl e | inr m ↦ (let d = times-drop (suc t) owner h.nodes in inr (omega arith, low-member h known is.few owner (omega arith))) ]

  off_word : (i : ℕ) → (i < 7) ⊎ (17 < i) → Off i → i ≢ 19 → get_or vs i 0 ≡ get_or ws i 0
  off_word i m off ne = w.other i m (off-low i middle off middle_low) (elim owner_low [ inl e ↦ (λ z. ne (z ∙ e)) | inr l ↦ off-low i owner off l.1 ])

  split_records : records_in vs (give_slot t h.nodes) ≡ records_in ws h.nodes
  split_records = records-offsets vs (give_slot t h.nodes) h.nodes (offsets-give_slot t h.nodes) ∙ records-same ws vs h.nodes (kept-pair ws vs h known is.few (λ i high off. off_word i (inr (omega arith)) off (λ z. absurd (omega arith))))

  header_word : (i : ℕ) → i < 7 → get_or vs i 0 ≡ get_or ws i 0
  header_word i lt = off_word i (inl lt) (inl (omega arith)) (λ z. absurd (omega arith))

  pub split-page : page_with vs (records_in vs (give_slot t h.nodes)) ≡ page_with ws (records_in ws h.nodes)
  split-page = ap (λ (rs : Pairs). page_with vs rs) split_records ∙ same-page ws vs (records_in ws h.nodes) (header_word 1 (omega arith)) (header_word 3 (omega arith)) (header_word 4 (omega arith)) (header_word 5 (omega arith))

  same_at : SameAt ws vs h.nodes middle owner
  same_at q m nm nw = w.other q (inr (elim m [ inl n ↦ (let l = low-member h known is.few q (omega arith) in let a = l.is in omega arith) | inr e ↦ omega arith ])) nm nw

  long : length (give_slot t h.nodes) ≡ length h.nodes
  long = length-give_slot t h.nodes

  slots_long : length (owners (give_slot t h.nodes)) ≡ length (owners h.nodes) + 1
  slots_long = ap length g.slots ∙ length-insert (owners h.nodes) j middle (let b = within.1.1 in omega arith)

  free_word : (q : ℕ) → 0 < times q h.free → get_or vs q 0 ≡ get_or ws q 0
  free_word q m =
      let l = low-member h known is.few q (omega arith) in let a = l.is in let o = known.once q in
      w.other q (inr (omega arith)) (not_member q middle m middle_in) (elim owner_low [ inl e ↦ (λ z. absurd (omega arith)) | inr e ↦ not_member q owner m e.0 ])
    where
      not_member : (q o : ℕ) → 0 < times q h.free → 0 < times o (offsets_of h.nodes) → q ≢ o
      not_member q o mq mo z = absurd (let s = subst (λ (x : ℕ). 0 < times x (offsets_of h.nodes)) (sym z) mo in let u = known.once q in omega arith)

  pub split-shaped : Shaped vs (split_heap t h)
  split-shaped =
      let room = slots-room k 0 h.nodes h.last over nine in
      let b = within.1.1 in
      let wtop = w.top in let was = is.top in let l = long in let sl = slots_long in
      let count = header_word 2 (omega arith) in let count_was = is.count in let few_was = is.few in
      record {
        size = w.size;
        kind = header_word 0 (omega arith) ∙ is.kind;
        count = omega arith;
        fits = subst (λ (q : Page). IsPage q) (sym split-page) is.fits;
        front = header_word 6 (omega arith) ∙ is.front;
        top = omega arith;
        few = omega arith;
        start = off_word 18 (inr (omega arith)) (inl (omega arith)) (λ z. absurd (omega arith)) ∙ (is.start ∙ ap (λ n. 256 + n) (first-offsets h.nodes (give_slot t h.nodes) (sym (offsets-give_slot t h.nodes))));
        chained = chain-give_slot ws vs t h.nodes h.last g.in_range is.chained known.apart g.header g.owned w.marked w.lowered same_at;
        freed = freed-same ws vs h.free is.freed free_word;
        directory = subst (λ (os : List ℕ). Directory vs 10 8 (18 ∷ os)) (sym g.slots) (directory-insert ws vs 10 8 (suc j) middle (18 ∷ owners h.nodes) is.directory (omega arith) (omega arith)
            (λ m lt. w.before m (omega arith)) (ap (λ i. get_or vs i 0) (let e : 8 + suc j ≡ 8 + (j + 1) = omega arith in e) ∙ w.here) (λ m le lt. w.behind m (omega arith) lt));
        offsets = subst (λ (ps : List ℕ). AreOffsets (used_in_chain (split_heap t h)) (ps ++ h.free)) (sym (offsets-give_slot t h.nodes)) (subst (λ (n : ℕ). AreOffsets n (offsets_of h.nodes ++ h.free)) (let e : used_in_chain h ≡ used_in_chain (split_heap t h) = omega arith in e) is.offsets);
        once = subst (λ (ps : List ℕ). EachOnce (used_in_chain (split_heap t h)) (ps ++ h.free)) (sym (offsets-give_slot t h.nodes)) (subst (λ (n : ℕ). EachOnce n (offsets_of h.nodes ++ h.free)) (let e : used_in_chain h ≡ used_in_chain (split_heap t h) = omega arith in e) is.once);
        keyed = keys-offsets vs (give_slot t h.nodes) h.nodes (offsets-give_slot t h.nodes) ∙ (keys-same ws vs h.nodes (kept-pair ws vs h known is.few (λ i high off. off_word i (inr (omega arith)) off (λ z. absurd (omega arith)))) ∙ is.keyed);
      }
