-- What is known of words that are a page in heap form.
use Rattle.std.proofs.Common.{◌≡◌, ℕ, zero, suc, ◌+◌, ◌-◌, ◌*◌, ◌/◌, ◌%◌, ◌<◌, ◌≤◌, ◌⊎◌, true, [], ◌∷◌, ◌++◌, ◌∙◌, List, length, get_or, refl, ap, arith, inl, inr, subst}
use Rattle.std.specs.Bool.{Decides}
use Rattle.std.specs.Str.{bytes_eq}
use Rattle.std.proofs.lemmas.Bool.{cases_Bool, cases_eq, eq-eqb, ne_eqb, and_parts, and_from, cond-true, cond-false}
use Rattle.std.proofs.lemmas.Bool.Decides.{Decides-and, Decides-like, Decides-eqb}
use Rattle.ib_map.specs.declared.TheConstants.{PAGE_WORDS}
use Rattle.ib_heap.specs.Words.{free_page_words}
use Rattle.ib_heap.specs.Page.{IsPage, HoldsTree}
use Rattle.ib_heap.specs.Chain.{Node, Chain, first_of, first_free, is_chained, is_freed, is_owned, owners, is_directory, times, is_offset, are_offsets, each_once, offsets_of, records_in, used_in_chain, page_with, is_shaped, is_heap, chain_from, free_from, read_chain, are_keys}
use Rattle.ib_heap.specs.Form.{page_of}
use Rattle.ib_heap.specs.Page.PageValue.{Tree}
use Rattle.ib_heap.proofs.PageLaws.{Decides-leb, Decides-ltb, counts_page-Decides}

abbrev pub Chained : List ℕ → List Node → ℕ → Type 0
Chained ws [] last = get_or ws 19 0 ≡ last * 256
Chained ws (x ∷ xs) last = (get_or ws x.offset 0 ≡ x.owned * 256 + first_of xs) × Chained ws xs last

pub Chained-Decides : (ws : List ℕ) (xs : List Node) (last : ℕ) → Decides (is_chained ws xs last) (Chained ws xs last)
Chained-Decides ws [] last = Decides-eqb _ _
Chained-Decides ws (x ∷ xs) last = Decides-and _ _ (Decides-eqb _ _) (Chained-Decides ws xs last)

abbrev pub Freed : List ℕ → List ℕ → Type 0
Freed ws [] = Unit {0}
Freed ws (p ∷ ps) = (get_or ws p 0 ≡ first_free ps) × Freed ws ps

pub Freed-Decides : (ws : List ℕ) (ps : List ℕ) → Decides (is_freed ws ps) (Freed ws ps)
Freed-Decides ws [] = (λ h. tt, λ h. refl)
Freed-Decides ws (p ∷ ps) = Decides-and _ _ (Decides-eqb _ _) (Freed-Decides ws ps)

-- a slot's number of records
abbrev pub IsOwner : ℕ → ℕ → Type 0
IsOwner n owned = (owned ≡ n + 1) × ((4 ≤ owned) × (owned ≤ 8))

abbrev pub Owned : ℕ → List Node → ℕ → Type 0
Owned n [] last = (last ≡ n + 1) × (last ≤ 8)
Owned n (x ∷ xs) last = ((x.owned ≡ 0) × Owned (n + 1) xs last) ⊎ (IsOwner n x.owned × Owned 0 xs last)

pub Owned-Decides : (n : ℕ) (xs : List Node) (last : ℕ) → Decides (is_owned n xs last) (Owned n xs last)
Owned-Decides n [] last = Decides-and _ _ (Decides-eqb _ _) (Decides-leb _ _)
Owned-Decides n (x ∷ xs) last =
    let rest = Owned-Decides (n + 1) xs last in
    let none = Owned-Decides 0 xs last in
    let one = Decides-and _ _ (Decides-eqb x.owned (n + 1)) (Decides-and _ _ (Decides-leb 4 x.owned) (Decides-leb x.owned 8)) in
    elim (cases_eq x.owned 0) [
      | inl e ↦ rw (eq-eqb x.owned 0 e) (λ h. inl (e, rest.0 h), λ h. elim h [ inl y ↦ rest.1 y.1 | inr y ↦ absurd (let z = y.0.1 in omega arith) ])
      | inr ne ↦ rw (ne_eqb x.owned 0 ne) (
        λ h. let parts = and_parts _ _ h in inr (one.0 parts.0, none.0 parts.1),
        λ h. elim h [ inl y ↦ absurd (ne y.0) | inr y ↦ and_from _ _ (one.1 y.0) (none.1 y.1) ],
      )
    ]

abbrev pub Directory : List ℕ → ℕ → ℕ → List ℕ → Type 0
Directory ws zero i slots = length slots ≡ 0
Directory ws (suc n) i [] = (get_or ws i 0 ≡ 0) × Directory ws n (i + 1) []
Directory ws (suc n) i (s ∷ slots) = (get_or ws i 0 ≡ s) × Directory ws n (i + 1) slots

pub Directory-Decides : (ws : List ℕ) (n i : ℕ) (slots : List ℕ) → Decides (is_directory ws n i slots) (Directory ws n i slots)
Directory-Decides ws zero i slots = Decides-eqb _ _
Directory-Decides ws (suc n) i [] = Decides-and _ _ (Decides-eqb _ _) (Directory-Decides ws n (i + 1) [])
Directory-Decides ws (suc n) i (s ∷ slots) = Decides-and _ _ (Decides-eqb _ _) (Directory-Decides ws n (i + 1) slots)

-- what holds of a record offset
pub record IsOffset (n p : ℕ) : Type 0 where
  pub number : ℕ
  pub is : p ≡ 20 + 4 * number
  pub below : number < n

offset-from : (n p : ℕ) → (20 ≤ p) × (((p - 20) % 4 ≡ 0) × (p < 20 + 4 * n)) → IsOffset n p
offset-from n p h = let a = h.0 in let b = h.1.0 in let d = h.1.1 in record { number = (p - 20) / 4; is = omega arith; below = omega arith }

offset-to : (n p : ℕ) → IsOffset n p → (20 ≤ p) × (((p - 20) % 4 ≡ 0) × (p < 20 + 4 * n))
offset-to n p h = let a = h.is in let b = h.below in (omega arith, (omega arith, omega arith))

pub IsOffset-Decides : (n p : ℕ) → Decides (is_offset n p) (IsOffset n p)
IsOffset-Decides n p = Decides-like (is_offset n p) (offset-from n p) (offset-to n p) (Decides-and _ _ (Decides-leb 20 p) (Decides-and _ _ (Decides-eqb ((p - 20) % 4) 0) (Decides-ltb p (20 + 4 * n))))

abbrev pub AreOffsets : ℕ → List ℕ → Type 0
AreOffsets n [] = Unit {0}
AreOffsets n (p ∷ ps) = IsOffset n p × AreOffsets n ps

pub AreOffsets-Decides : (n : ℕ) (ps : List ℕ) → Decides (are_offsets n ps) (AreOffsets n ps)
AreOffsets-Decides n [] = (λ h. tt, λ h. refl)
AreOffsets-Decides n (p ∷ ps) = Decides-and _ _ (IsOffset-Decides n p) (AreOffsets-Decides n ps)

abbrev pub EachOnce : ℕ → List ℕ → Type 0
EachOnce zero ps = Unit {0}
EachOnce (suc n) ps = (times (20 + 4 * n) ps ≡ 1) × EachOnce n ps

pub EachOnce-Decides : (n : ℕ) (ps : List ℕ) → Decides (each_once n ps) (EachOnce n ps)
EachOnce-Decides zero ps = (λ h. tt, λ h. refl)
EachOnce-Decides (suc n) ps = Decides-and _ _ (Decides-eqb _ _) (EachOnce-Decides n ps)

-- what a page in heap form is, but for how many records each slot owns
pub record Shaped (ws : List ℕ) (h : Chain) : Type 0 where
  pub size : length ws ≡ PAGE_WORDS
  pub kind : get_or ws 0 0 ≡ 1
  pub count : get_or ws 2 0 ≡ length h.nodes
  pub fits : IsPage (page_with ws (records_in ws h.nodes))
  pub front : get_or ws 6 0 ≡ first_free h.free
  pub top : get_or ws 7 0 ≡ (1 + length (owners h.nodes)) * 256 + (20 + 4 * used_in_chain h)
  pub few : used_in_chain h ≤ 35
  pub start : get_or ws 18 0 ≡ 256 + first_of h.nodes
  pub chained : Chained ws h.nodes h.last
  pub freed : Freed ws h.free
  pub directory : Directory ws 10 8 (18 ∷ owners h.nodes)
  pub offsets : AreOffsets (used_in_chain h) (offsets_of h.nodes ++ h.free)
  pub once : EachOnce (used_in_chain h) (offsets_of h.nodes ++ h.free)
  pub keyed : are_keys ws h.nodes ≡ true

pub Shaped-Decides : (ws : List ℕ) (h : Chain) → Decides (is_shaped ws h) (Shaped ws h)
Shaped-Decides ws h = Decides-like (is_shaped ws h)
    (λ k. record {
      size = k.0;
      kind = k.1.0;
      count = k.1.1.0;
      fits = k.1.1.1.0;
      front = k.1.1.1.1.0;
      top = k.1.1.1.1.1.0;
      few = k.1.1.1.1.1.1.0;
      start = k.1.1.1.1.1.1.1.0;
      chained = k.1.1.1.1.1.1.1.1.0;
      freed = k.1.1.1.1.1.1.1.1.1.0;
      directory = k.1.1.1.1.1.1.1.1.1.1.0;
      offsets = k.1.1.1.1.1.1.1.1.1.1.1.0;
      once = k.1.1.1.1.1.1.1.1.1.1.1.1.0;
      keyed = k.1.1.1.1.1.1.1.1.1.1.1.1.1;
    })
    (λ k. (k.size, (k.kind, (k.count, (k.fits, (k.front, (k.top, (k.few, (k.start, (k.chained, (k.freed, (k.directory, (k.offsets, (k.once, k.keyed))))))))))))))
    (Decides-and _ _ (Decides-eqb _ _) (Decides-and _ _ (Decides-eqb _ _) (Decides-and _ _ (Decides-eqb _ _) (Decides-and _ _ (counts_page-Decides _)
    (Decides-and _ _ (Decides-eqb _ _) (Decides-and _ _ (Decides-eqb _ _) (Decides-and _ _ (Decides-leb _ _) (Decides-and _ _ (Decides-eqb _ _)
    (Decides-and _ _ (Chained-Decides ws h.nodes h.last) (Decides-and _ _ (Freed-Decides ws h.free)
    (Decides-and _ _ (Directory-Decides ws 10 8 (18 ∷ owners h.nodes)) (Decides-and _ _ (AreOffsets-Decides _ _) (Decides-and _ _ (EachOnce-Decides _ _)
    (λ yes. yes, λ yes. yes))))))))))))))

-- words that are a page with this heap
pub record IsHeap (ws : List ℕ) (h : Chain) : Type 0 where
  pub shape : Shaped ws h
  pub owned : Owned 0 h.nodes h.last

pub IsHeap-Decides : (ws : List ℕ) (h : Chain) → Decides (is_heap ws h) (IsHeap ws h)
IsHeap-Decides ws h = Decides-like (is_heap ws h) (λ k. record { shape = k.0; owned = k.1 }) (λ k. (k.shape, k.owned)) (Decides-and _ _ (Shaped-Decides ws h) (Owned-Decides 0 h.nodes h.last))

-- offsets of two lists
pub AreOffsets-left : (n : ℕ) (ps qs : List ℕ) → AreOffsets n (ps ++ qs) → AreOffsets n ps
AreOffsets-left n [] qs h = tt
AreOffsets-left n (p ∷ ps) qs h = (h.0, AreOffsets-left n ps qs h.1)

pub AreOffsets-right : (n : ℕ) (ps qs : List ℕ) → AreOffsets n (ps ++ qs) → AreOffsets n qs
AreOffsets-right n [] qs h = h
AreOffsets-right n (p ∷ ps) qs h = AreOffsets-right n ps qs h.1

-- the chain is read from its words again
pub first-low : (n : ℕ) (xs : List Node) → n ≤ 35 → AreOffsets n (offsets_of xs) → first_of xs < 256
first-low n [] le h = omega arith
first-low n (x ∷ xs) le h = let a = h.0.is in let b = h.0.below in omega arith

-- the word of the supremum
pub last-word : (ws : List ℕ) (xs : List Node) (last : ℕ) → Chained ws xs last → get_or ws 19 0 ≡ last * 256
last-word ws [] last c = c
last-word ws (x ∷ xs) last c = last-word ws xs last c.1

pub chain-read : (ws : List ℕ) (n : ℕ) (xs : List Node) (last : ℕ) → n ≤ 35 → AreOffsets n (offsets_of xs) → Chained ws xs last → chain_from ws (length xs) (first_of xs) ≡ xs
chain-read ws n [] last le offsets h = refl
chain-read ws n (x ∷ xs) last le offsets h =
    let low = first-low n xs le offsets.1 in
    let header = h.0 in
    let owned : get_or ws x.offset 0 / 256 ≡ x.owned = omega arith in
    let next : get_or ws x.offset 0 % 256 ≡ first_of xs = omega arith in
    let rest = chain-read ws n xs last le offsets.1 h.1 in
    ap (λ k. (let y : Node = record { offset = x.offset; owned = k } in y) ∷ chain_from ws (length xs) (get_or ws x.offset 0 % 256)) owned
    ∙ (ap (λ k. x ∷ chain_from ws (length xs) k) next ∙ ap (λ (ys : List Node). x ∷ ys) rest)

pub free-read : (ws : List ℕ) (ps : List ℕ) → Freed ws ps → free_from ws (length ps) (first_free ps) ≡ ps
free-read ws [] h = refl
free-read ws (p ∷ ps) h = ap (λ k. p ∷ free_from ws (length ps) k) h.0 ∙ ap (λ (qs : List ℕ). p ∷ qs) (free-read ws ps h.1)

pub heap-read : (ws : List ℕ) (h : Chain) → IsHeap ws h → read_chain ws ≡ h
heap-read ws h k =
    let few = k.shape.few in
    let top = k.shape.top in
    let count = k.shape.count in
    let start = k.shape.start in
    let nodes_offsets = AreOffsets-left (used_in_chain h) (offsets_of h.nodes) h.free k.shape.offsets in
    let low = first-low (used_in_chain h) h.nodes few nodes_offsets in
    let first : get_or ws 18 0 % 256 ≡ first_of h.nodes = omega arith in
    let nodes : chain_from ws (get_or ws 2 0) (get_or ws 18 0 % 256) ≡ h.nodes =
    ap (λ n. chain_from ws n (get_or ws 18 0 % 256)) count ∙ (ap (λ n. chain_from ws (length h.nodes) n) first ∙ chain-read ws (used_in_chain h) h.nodes h.last few nodes_offsets k.shape.chained) in
    let last : get_or ws 19 0 / 256 ≡ h.last = let e = last-word ws h.nodes h.last k.shape.chained in omega arith in
    let long : (get_or ws 7 0 % 256 - 20) / 4 - get_or ws 2 0 ≡ length h.free = omega arith in
    let free : free_from ws ((get_or ws 7 0 % 256 - 20) / 4 - get_or ws 2 0) (get_or ws 6 0) ≡ h.free =
    ap (λ n. free_from ws n (get_or ws 6 0)) long ∙ (ap (λ n. free_from ws (length h.free) n) k.shape.front ∙ free-read ws h.free k.shape.freed) in
    ap (λ (xs : List Node). let g : Chain = record { nodes = xs; last = get_or ws 19 0 / 256; free = free_from ws ((get_or ws 7 0 % 256 - 20) / 4 - get_or ws 2 0) (get_or ws 6 0) } in g) nodes
    ∙ (ap (λ (n : ℕ). let g : Chain = record { nodes = h.nodes; last = n; free = free_from ws ((get_or ws 7 0 % 256 - 20) / 4 - get_or ws 2 0) (get_or ws 6 0) } in g) last
    ∙ ap (λ (ps : List ℕ). let g : Chain = record { nodes = h.nodes; last = h.last; free = ps } in g) free)

-- the page that words with a heap are
pub page-from : (ws : List ℕ) (h : Chain) → IsHeap ws h → page_of ws ≡ Tree (page_with ws (records_in ws h.nodes))
unfolding page_of
page-from ws h k =
    let read = heap-read ws h k in
    let yes : is_heap ws (read_chain ws) ≡ true = ap (λ (g : Chain). is_heap ws g) read ∙ (IsHeap-Decides ws h).1 k in
    cond-true _ _ _ yes ∙ ap (λ (g : Chain). Tree (page_with ws (records_in ws g.nodes))) read

-- an image of a page of the tree has a heap
pub record HasHeap (ws : List ℕ) : Type 0 where
  pub is : IsHeap ws (read_chain ws)
  pub holds : page_of ws ≡ Tree (page_with ws (records_in ws (read_chain ws).nodes))

pub heap_in : (ws : List ℕ) → HoldsTree (page_of ws) → HasHeap ws
unfolding page_of
heap_in ws holds = elim (cases_Bool (is_heap ws (read_chain ws))) [
  | inl good ↦ let k = (IsHeap-Decides ws (read_chain ws)).0 good in record { is = k; holds = page-from ws (read_chain ws) k }
  | inr bad ↦ absurd (elim (cases_Bool (bytes_eq ws (free_page_words (get_or ws 5 0)))) [
    | inl is_free ↦ subst HoldsTree (cond-false _ _ _ bad ∙ cond-true _ _ _ is_free) holds
    | inr other ↦ subst HoldsTree (cond-false _ _ _ bad ∙ cond-false _ _ _ other) holds
  ])
]
