-- The clauses of the form, from the test's parts and back.
use Rattle.std.proofs.Common.{inl, inr, ◌≡◌, ℕ, zero, suc, ◌+◌, ◌-◌, ◌/◌, ◌%◌, ◌<◌, ◌≤◌, true, false, ◌∙◌, List, ◌∷◌, ◌++◌, length, get_or, refl, ap, sym, arith, subst, length-append, ◌&&◌, eqb}
use Rattle.std.proofs.lemmas.Bool.{cases_Bool, cases_eq, eq-eqb, eqb-true, and_from, and_parts}
use Rattle.ib_map.specs.Keys.{end_rank}
use Rattle.ib_heap.specs.Page.{rises, HasLimits}
use Rattle.ib_heap.specs.Chain.{Chain, is_heap, read_chain, offsets_of, chain_from, free_from, is_directory, is_owned, owners, records_in, first_of, first_free, used_in_chain}
use Rattle.ib_heap.specs.Walks.{HasHeader, HasSlots, IsUnmet, are_new, met_with, first_step, chain_holds, end_from, free_end}
use Rattle.ib_heap.proofs.PageLaws.{rises-Decides}
use Rattle.ib_heap.proofs.HeapLaws.{Chained, Freed, Directory, AreOffsets, EachOnce, IsHeap, IsHeap-Decides, Owned-Decides, Directory-Decides, AreOffsets-left, last-word}
use Rattle.ib_heap.proofs.SeekLaws.{first-in, owner-last, directory-at, directory-few, owners-some, length-records, length-offsets}
use Rattle.ib_heap.proofs.MetLaws.{new-append, new-offsets, new-few, few-new, few-once, once-few}
use Rattle.ib_heap.proofs.FormedLoops.{chained-from, freed-from, slots-number}

pub length-chain : (ws : List ℕ) (n p : ℕ) → length (chain_from ws n p) ≡ n
length-chain ws zero p = refl
length-chain ws (suc n) p = ap suc (length-chain ws n (get_or ws p 0 % 256))

pub length-free : (ws : List ℕ) (n p : ℕ) → length (free_from ws n p) ≡ n
length-free ws zero p = refl
length-free ws (suc n) p = ap suc (length-free ws n (get_or ws p 0))

pub chained-end : (ws : List ℕ) (n p last : ℕ) → Chained ws (chain_from ws n p) last → p ≡ first_of (chain_from ws n p) → end_from ws n p ≡ 19
chained-end ws zero p last h e = e
chained-end ws (suc n) p last h e = let a = h.0 in chained-end ws n (get_or ws p 0 % 256) last h.1 (omega arith)

pub freed-end : (ws : List ℕ) (n p : ℕ) → Freed ws (free_from ws n p) → p ≡ first_free (free_from ws n p) → free_end ws n p ≡ 0
freed-end ws zero p h e = e
freed-end ws (suc n) p h e = freed-end ws n (get_or ws p 0) h.1 h.0

pub refuse : (ws : List ℕ) → (IsHeap ws (read_chain ws) → ⊥) → false ≡ is_heap ws (read_chain ws)
refuse ws bad = elim (cases_Bool (is_heap ws (read_chain ws))) [
  | inl good ↦ absurd (bad ((IsHeap-Decides ws (read_chain ws)).0 good))
  | inr f ↦ sym f
]

module _ (ws : List ℕ) (k : IsHeap ws (read_chain ws)) where
  abbrev h : Chain
  h = read_chain ws

  low : first_of h.nodes < 256
  low = elim (first-in (used_in_chain h) h.nodes 0 k.shape.few (AreOffsets-left _ _ _ k.shape.offsets) (omega arith)) [ inl e ↦ (let f = e.0 in omega arith) | inr e ↦ (let f = e.1.0 in omega arith) ]

  pub header-of : HasHeader ws
  header-of =
      let t = k.shape.top in let c = k.shape.count in let f = k.shape.few in let s = k.shape.start in let l = low in let w = last-word ws h.nodes h.last k.shape.chained in
      (k.shape.kind, (omega arith, (omega arith, (omega arith, (omega arith, (omega arith, (omega arith, (omega arith, k.shape.directory.0))))))))

  used-is : used_in_chain h ≡ (get_or ws 7 0 % 256 - 20) / 4
  used-is = let t = k.shape.top in let f = k.shape.few in omega arith

  pub end-of : end_from ws (get_or ws 2 0) (get_or ws 18 0 % 256) ≡ 19
  end-of = chained-end ws (get_or ws 2 0) (get_or ws 18 0 % 256) h.last k.shape.chained (let s = k.shape.start in let l = low in omega arith)

  pub list-of : free_end ws ((get_or ws 7 0 % 256 - 20) / 4 - get_or ws 2 0) (get_or ws 6 0) ≡ 0
  list-of = freed-end ws ((get_or ws 7 0 % 256 - 20) / 4 - get_or ws 2 0) (get_or ws 6 0) k.shape.freed k.shape.front

  pub owned-of : is_owned 0 h.nodes h.last ≡ true
  owned-of = (Owned-Decides 0 h.nodes h.last).1 k.owned

  pub directory-of : is_directory ws 9 9 (owners h.nodes) ≡ true
  directory-of = (Directory-Decides ws 9 9 (owners h.nodes)).1 k.shape.directory.1

  pub limits-of : HasLimits (get_or ws 1 0) (get_or ws 3 0) (get_or ws 4 0)
  limits-of = let f = k.shape.fits in (f.level, f.prev, f.next, elim (cases_eq (get_or ws 1 0) 0) [ inl e ↦ inl e | inr ne ↦ inr (f.no_prev (omega (arith, ne)), f.no_next (omega (arith, ne))) ])

  pub slots-of : HasSlots ws
  slots-of =
      let t = k.shape.top in let f = k.shape.few in
      let d = directory-few ws 10 8 (18 ∷ owners h.nodes) k.shape.directory in
      let s = owners-some h.nodes in
      let e : get_or ws 7 0 / 256 ≡ 1 + length (owners h.nodes) = omega arith in
      (omega arith, (omega arith, ap (λ i. get_or ws i 0) (let g : 7 + get_or ws 7 0 / 256 ≡ 8 + length (owners h.nodes) = omega arith in g) ∙ (directory-at ws 10 8 (18 ∷ owners h.nodes) (length (owners h.nodes)) k.shape.directory (omega arith) ∙ owner-last 18 h.nodes)))

  pub rises-of : rises 0 (records_in ws h.nodes) end_rank ≡ true
  rises-of = (rises-Decides 0 (records_in ws h.nodes) end_rank).1 k.shape.fits.ascends

  holds-of : chain_holds ws (get_or ws 2 0) (first_step ws) ≡ true
  holds-of = and_from _ _ (eq-eqb _ _ end-of) (and_from _ _ owned-of (and_from _ _ directory-of (and_from _ _ k.shape.keyed rises-of)))

  new-of : (met : List ℕ) → IsUnmet met → are_new ((get_or ws 7 0 % 256 - 20) / 4) met (offsets_of h.nodes ++ h.free) ≡ true
  new-of met unmet =
      let few : used_in_chain h ≤ 35 = k.shape.few in
      subst (λ (n : ℕ). are_new n met (offsets_of h.nodes ++ h.free) ≡ true) used-is
      (few-new (used_in_chain h) met (offsets_of h.nodes ++ h.free) few unmet.size k.shape.offsets
      (λ r lt. let z = unmet.none r (omega arith) in let o = once-few (used_in_chain h) (offsets_of h.nodes ++ h.free) k.shape.once r lt in omega arith))

  new-parts : (met : List ℕ) → IsUnmet met → (are_new ((get_or ws 7 0 % 256 - 20) / 4) met (offsets_of h.nodes) ≡ true) × (are_new ((get_or ws 7 0 % 256 - 20) / 4) (met_with met (offsets_of h.nodes)) h.free ≡ true)
  new-parts met unmet = and_parts (are_new ((get_or ws 7 0 % 256 - 20) / 4) met (offsets_of h.nodes)) (are_new ((get_or ws 7 0 % 256 - 20) / 4) (met_with met (offsets_of h.nodes)) h.free)
      (sym (new-append ((get_or ws 7 0 % 256 - 20) / 4) met (offsets_of h.nodes) h.free) ∙ new-of met unmet)

  pub chain-of : (met : List ℕ) → IsUnmet met → (are_new ((get_or ws 7 0 % 256 - 20) / 4) met (offsets_of h.nodes) && chain_holds ws (get_or ws 2 0) (first_step ws)) ≡ true
  chain-of met unmet = and_from _ _ (new-parts met unmet).0 holds-of

  pub free-of : (met : List ℕ) → IsUnmet met → (are_new ((get_or ws 7 0 % 256 - 20) / 4) (met_with met (offsets_of h.nodes)) h.free && eqb (free_end ws ((get_or ws 7 0 % 256 - 20) / 4 - get_or ws 2 0) (get_or ws 6 0)) 0) ≡ true
  free-of met unmet = and_from _ _ (new-parts met unmet).1 (eq-eqb _ _ list-of)

abbrev top_n : List ℕ → ℕ
top_n ws = (get_or ws 7 0 % 256 - 20) / 4

-- the numbers of offsets and records, by the header
pub record TopFits (ws : List ℕ) : Type 0 where
  pub low : 20 ≤ get_or ws 7 0 % 256
  pub few : (get_or ws 7 0 % 256 - 20) / 4 ≤ 35
  pub count : get_or ws 2 0 ≤ (get_or ws 7 0 % 256 - 20) / 4
  pub records : get_or ws 2 0 ≤ 35

pub top-fits : (ws : List ℕ) → HasHeader ws → TopFits ws
top-fits ws h =
    let a = h.1.0 in let b = h.1.1.0 in let d = h.1.1.1.1.0 in
    record { low = b; few = omega arith; count = h.1.1.1.1.1.0; records = a }

pub formed-from : (ws met : List ℕ) → IsUnmet met → length ws ≡ 160 → HasHeader ws → HasLimits (get_or ws 1 0) (get_or ws 3 0) (get_or ws 4 0) → HasSlots ws → (are_new (top_n ws) met (offsets_of (read_chain ws).nodes) && chain_holds ws (get_or ws 2 0) (first_step ws)) ≡ true
    → (are_new (top_n ws) (met_with met (offsets_of (read_chain ws).nodes)) (read_chain ws).free && eqb (free_end ws (top_n ws - get_or ws 2 0) (get_or ws 6 0)) 0) ≡ true → IsHeap ws (read_chain ws)
formed-from ws met unmet size hd lm sl chain rest =
    let g : Chain = read_chain ws in
    let a0 = and_parts _ _ chain in let b0 = and_parts _ _ rest in
    let new : are_new (top_n ws) met (offsets_of g.nodes ++ g.free) ≡ true = new-append (top_n ws) met (offsets_of g.nodes) g.free ∙ and_from _ _ a0.0 b0.0 in
    let fe = eqb-true _ _ b0.1 in
    let c0 = and_parts _ _ a0.1 in let c1 = and_parts _ _ c0.1 in let c2 = and_parts _ _ c1.1 in let c3 = and_parts _ _ c2.1 in
    let en = eqb-true _ _ c0.0 in
    let hd2 = hd.1.0 in let hd3 = hd.1.1.0 in let hd4 = hd.1.1.1.0 in let hd5 = hd.1.1.1.1.0 in let hd6 = hd.1.1.1.1.1.0 in let hd7 = hd.1.1.1.1.1.1.0 in let hd8 = hd.1.1.1.1.1.1.1.0 in let hd9 = hd.1.1.1.1.1.1.1.1 in
    let ln = length-chain ws (get_or ws 2 0) (get_or ws 18 0 % 256) in
    let lf = length-free ws (top_n ws - get_or ws 2 0) (get_or ws 6 0) in
    let us : top_n ws ≡ used_in_chain g = omega arith in
    let few : top_n ws ≤ 35 = omega arith in
    let pl : AreOffsets (top_n ws) (offsets_of g.nodes ++ g.free) = new-offsets (top_n ws) met (offsets_of g.nodes ++ g.free) new in
    let lp : length (offsets_of g.nodes ++ g.free) ≡ top_n ws = (let a = length-append (offsets_of g.nodes) g.free in let b = length-offsets g.nodes in omega arith) in
    let once : EachOnce (top_n ws) (offsets_of g.nodes ++ g.free) = few-once (top_n ws) (offsets_of g.nodes ++ g.free) pl lp (λ r lt.
    let f = new-few (top_n ws) met (offsets_of g.nodes ++ g.free) few unmet.size (λ q below. let z = unmet.none q (omega arith) in omega arith) new r lt in
    let z = unmet.none r (omega arith) in omega arith) in
    let pln : AreOffsets (top_n ws) (offsets_of g.nodes) = AreOffsets-left _ _ _ pl in
    let ch = chained-from ws (get_or ws 2 0) (get_or ws 18 0 % 256) g.last en (omega arith) in
    let fr = freed-from ws (top_n ws - get_or ws 2 0) (get_or ws 6 0) fe in
    let dir : Directory ws 10 8 (18 ∷ owners g.nodes) = (hd9, (Directory-Decides ws 9 9 (owners g.nodes)).0 c2.0) in
    let s0 = sl.0 in let s1 = sl.1.0 in
    let some = owners-some g.nodes in
    let at : get_or (18 ∷ owners g.nodes) (suc (get_or ws 7 0 / 256 - 2)) 0 ≡ 19 = sym (directory-at ws 10 8 (18 ∷ owners g.nodes) (suc (get_or ws 7 0 / 256 - 2)) dir (omega arith)) ∙ (ap (λ i. get_or ws i 0) (let e : 8 + suc (get_or ws 7 0 / 256 - 2) ≡ 7 + get_or ws 7 0 / 256 = omega arith in e) ∙ sl.1.1) in
    let sn = slots-number (top_n ws) (get_or ws 7 0 / 256 - 2) g.nodes pln at in
    let lr = length-records ws g.nodes in
    let st = ch.1 in
    record {
      shape = record {
        size = size;
        kind = hd.0;
        count = sym ln;
        fits = record { level = lm.0; prev = lm.1; next = lm.2; no_prev = λ p. elim lm.3 [ inl z ↦ absurd (omega arith) | inr z ↦ z.0 ]; no_next = λ p. elim lm.3 [ inl z ↦ absurd (omega arith) | inr z ↦ z.1 ]; few = omega arith; ascends = (rises-Decides 0 (records_in ws g.nodes) end_rank).0 c3.1 };
        front = fr.1;
        top = omega arith;
        few = omega arith;
        start = omega arith;
        chained = ch.0;
        freed = fr.0;
        directory = dir;
        offsets = subst (λ (n : ℕ). AreOffsets n (offsets_of g.nodes ++ g.free)) us pl;
        once = subst (λ (n : ℕ). EachOnce n (offsets_of g.nodes ++ g.free)) us once;
        keyed = c3.0;
      };
      owned = (Owned-Decides 0 g.nodes g.last).0 c1.0;
    }
