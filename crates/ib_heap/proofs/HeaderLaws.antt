-- A change of level, links or clock.
use Rattle.std.proofs.Common.{◌≡◌, ℕ, ◌+◌, ◌<◌, ◌≤◌, ◌^◌, ◌≢◌, set, ◌⊎◌, ◌∷◌, ◌∙◌, List, length, get_or, refl, ap, sym, arith, inl, inr, subst}
use Rattle.ib_map.specs.Pairs.{Pairs}
use Rattle.ib_map.specs.declared.TheConstants.{PAGE_WORDS}
use Rattle.std.proofs.lemmas.List.{length-set, get_or-set_same, get_or-set_other}
use Rattle.ib_heap.specs.declared.TheConstants.{MOST_LEVEL}
use Rattle.ib_heap.specs.Words.{zeros, free_page_words}
use Rattle.ib_heap.specs.Page.{Page, PageValue, IsPage, HoldsTree, HoldsPage, page_in}
use Rattle.ib_heap.specs.Image.{level_of, prev_of, next_of, with_links, with_level, value_with_clock}
use Rattle.ib_heap.proofs.FormLaws.{HasFree, kinds_of, tree, free, neither, page_of-free_page_words}
use Rattle.ib_heap.specs.Chain.{owners, Chain, records_in, page_with, read_chain, nodes_of, times, offsets_of}
use Rattle.ib_heap.specs.Form.{page_of}
use Rattle.ib_heap.specs.Page.PageValue.{Tree}
use Rattle.ib_heap.proofs.HeapLaws.{IsHeap, HasHeap, heap_in, heap-read, page-from}
use Rattle.ib_heap.proofs.PutLaws.{chain-same}
use Rattle.ib_heap.proofs.ShapeLaws.{Offsets, offsets-known, freed-same, directory-same, records-same, page_of_parts, page-parts, SameRecord, keys-same}

-- one of the words of level, links and clock
abbrev pub IsHeaderWord : ℕ → Type 0
IsHeaderWord i = (i ≡ 1) ⊎ ((i ≡ 3) ⊎ ((i ≡ 4) ⊎ (i ≡ 5)))

-- the heap stays, and the page has the words of level, links and clock as they are now
module _ (ws vs : List ℕ) (h : Chain) (is : IsHeap ws h) (size : length vs ≡ PAGE_WORDS) (same : (i : ℕ) → (IsHeaderWord i → ⊥) → get_or vs i 0 ≡ get_or ws i 0) where
  far : (i : ℕ) → (5 < i) ⊎ ((i ≡ 0) ⊎ (i ≡ 2)) → get_or vs i 0 ≡ get_or ws i 0
  far i m = same i (λ w. elim w [
    | inl e ↦ elim m [ inl l ↦ (omega arith) | inr r ↦ elim r [ inl z ↦ (omega arith) | inr z ↦ (omega arith) ] ]
    | inr v ↦ elim v [
      | inl e ↦ elim m [ inl l ↦ (omega arith) | inr r ↦ elim r [ inl z ↦ (omega arith) | inr z ↦ (omega arith) ] ]
      | inr u ↦ elim u [
        | inl e ↦ elim m [ inl l ↦ (omega arith) | inr r ↦ elim r [ inl z ↦ (omega arith) | inr z ↦ (omega arith) ] ]
        | inr e ↦ elim m [ inl l ↦ (omega arith) | inr r ↦ elim r [ inl z ↦ (omega arith) | inr z ↦ (omega arith) ] ]
      ]
    ]
  ])

  known : Offsets h
  known = offsets-known h is.shape.offsets is.shape.once

  same-records : (q : ℕ) → 0 < times q (offsets_of h.nodes) → SameRecord ws vs q
  same-records q m = let l = known.apart.above q m in record { first = far (q + 1) (inl (omega arith)); second = far (q + 2) (inl (omega arith)); value = far (q + 3) (inl (omega arith)) }

  records : records_in vs h.nodes ≡ records_in ws h.nodes
  records = records-same ws vs h.nodes same-records

  pub header-heap : IsPage (page_with vs (records_in ws h.nodes)) → IsHeap vs h
  header-heap fits = record {
    shape = record {
      size = size;
      kind = far 0 (inr (inl refl)) ∙ is.shape.kind;
      count = far 2 (inr (inr refl)) ∙ is.shape.count;
      fits = subst (λ (rs : Pairs). IsPage (page_with vs rs)) (sym records) fits;
      front = far 6 (inl (omega arith)) ∙ is.shape.front;
      top = far 7 (inl (omega arith)) ∙ is.shape.top;
      few = is.shape.few;
      start = far 18 (inl (omega arith)) ∙ is.shape.start;
      chained = chain-same ws vs h.nodes h.last is.shape.chained (λ q m. far q (inl (elim m [ inl l ↦ (let g = known.apart.above q l in omega arith) | inr e ↦ omega arith ])));
      freed = freed-same ws vs h.free is.shape.freed (λ q m. far q (inl (let p = known.offset q (omega arith) in let a = p.is in omega arith)));
      directory = directory-same ws vs 10 8 (18 ∷ owners h.nodes) is.shape.directory (λ j a b. far j (inl (omega arith)));
      offsets = is.shape.offsets;
      once = is.shape.once;
      keyed = keys-same ws vs h.nodes same-records ∙ is.shape.keyed;
    };
    owned = is.owned;
  }

  pub header-page : IsPage (page_with vs (records_in ws h.nodes)) → page_of vs ≡ Tree (page_with vs (records_in ws h.nodes))
  header-page fits = page-from vs h (header-heap fits) ∙ ap (λ (rs : Pairs). Tree (page_with vs rs)) records

-- a page with other level, links and clock in its words
pub record Headered (ws vs : List ℕ) (v : PageValue) : Type 0 where
  pub page : page_of vs ≡ v
  pub heap : read_chain vs ≡ read_chain ws

headered : (ws vs : List ℕ) (level prev next clock : ℕ) → (h : HasHeap ws) → length vs ≡ PAGE_WORDS → ((i : ℕ) → (IsHeaderWord i → ⊥) → get_or vs i 0 ≡ get_or ws i 0)
    → get_or vs 1 0 ≡ level → get_or vs 3 0 ≡ prev → get_or vs 4 0 ≡ next → get_or vs 5 0 ≡ clock
    → IsPage (page_of_parts level prev next clock (records_in ws (nodes_of ws))) → Headered ws vs (Tree (page_of_parts level prev next clock (records_in ws (nodes_of ws))))
headered ws vs level prev next clock h size same l p n k fits =
    let rs = records_in ws (nodes_of ws) in
    let is : page_with vs rs ≡ page_of_parts level prev next clock rs = page-parts vs rs level prev next clock l p n k in
    let good = subst IsPage (sym is) fits in
    record {
      page = header-page ws vs (read_chain ws) h.is size same good ∙ ap (λ (q : Page). Tree q) is;
      heap = heap-read vs (read_chain ws) (header-heap ws vs (read_chain ws) h.is size same good);
    }

pub links-set : (ws : List ℕ) (prev next : ℕ) → HoldsTree (page_of ws) → prev < 2 ^ 32 → next < 2 ^ 32 → (0 < level_of ws → prev ≡ 0) → (0 < level_of ws → next ≡ 0)
    → Headered ws (set (set ws 3 prev) 4 next) (with_links prev next (page_of ws))
links-set ws prev next holds p n no_prev no_next =
    let h = heap_in ws holds in
    let size = h.is.shape.size in
    let vs = set (set ws 3 prev) 4 next in
    let level : level_of ws ≡ get_or ws 1 0 = ap (λ v. (page_in v).level) h.holds in
    let f = h.is.shape.fits in
    let first : get_or vs 3 0 ≡ prev = get_or-set_other (set ws 3 prev) 4 3 next 0 (λ e. omega arith) ∙ get_or-set_same ws 3 prev 0 (omega arith) in
    let second : get_or vs 4 0 ≡ next = get_or-set_same (set ws 3 prev) 4 next 0 (simp length-set (omega arith)) in
    let other : (i : ℕ) → i ≢ 3 → i ≢ 4 → get_or vs i 0 ≡ get_or ws i 0 = λ i a b. get_or-set_other (set ws 3 prev) 4 i next 0 b ∙ get_or-set_other ws 3 i prev 0 a in
    let made = headered ws vs (get_or ws 1 0) prev next (get_or ws 5 0) h (simp length-set (omega arith)) (λ i no. other i (λ e. no (inr (inl e))) (λ e. no (inr (inr (inl e)))))
    (other 1 (λ e. omega arith) (λ e. omega arith)) first second (other 5 (λ e. omega arith) (λ e. omega arith))
    (record { level = f.level; prev = p; next = n; no_prev = λ lt. no_prev (omega arith); no_next = λ lt. no_next (omega arith); few = f.few; ascends = f.ascends }) in
    record { page = made.page ∙ ap (λ v. with_links prev next v) (sym h.holds); heap = made.heap }

pub level-set : (ws : List ℕ) (level : ℕ) → HoldsTree (page_of ws) → level ≤ MOST_LEVEL → (0 < level → prev_of ws ≡ 0) → (0 < level → next_of ws ≡ 0) → Headered ws (set ws 1 level) (with_level level (page_of ws))
level-set ws level holds low no_prev no_next =
    let h = heap_in ws holds in
    let size = h.is.shape.size in
    let vs = set ws 1 level in
    let prev : prev_of ws ≡ get_or ws 3 0 = ap (λ v. (page_in v).prev) h.holds in
    let next : next_of ws ≡ get_or ws 4 0 = ap (λ v. (page_in v).next) h.holds in
    let f = h.is.shape.fits in
    let other : (i : ℕ) → i ≢ 1 → get_or vs i 0 ≡ get_or ws i 0 = λ i a. get_or-set_other ws 1 i level 0 a in
    let made = headered ws vs level (get_or ws 3 0) (get_or ws 4 0) (get_or ws 5 0) h (simp length-set (omega arith)) (λ i no. other i (λ e. no (inl e)))
    (get_or-set_same ws 1 level 0 (omega arith)) (other 3 (λ e. omega arith)) (other 4 (λ e. omega arith)) (other 5 (λ e. omega arith))
    (record { level = low; prev = f.prev; next = f.next; no_prev = λ lt. sym prev ∙ no_prev lt; no_next = λ lt. sym next ∙ no_next lt; few = f.few; ascends = f.ascends }) in
    record { page = made.page ∙ ap (λ v. with_level level v) (sym h.holds); heap = made.heap }

clock-tree : (ws : List ℕ) (clock : ℕ) → HasHeap ws → Headered ws (set ws 5 clock) (value_with_clock clock (page_of ws))
clock-tree ws clock h =
    let size = h.is.shape.size in
    let vs = set ws 5 clock in
    let f = h.is.shape.fits in
    let other : (i : ℕ) → i ≢ 5 → get_or vs i 0 ≡ get_or ws i 0 = λ i a. get_or-set_other ws 5 i clock 0 a in
    let made = headered ws vs (get_or ws 1 0) (get_or ws 3 0) (get_or ws 4 0) clock h (simp length-set (omega arith)) (λ i no. other i (λ e. no (inr (inr (inr e)))))
    (other 1 (λ e. omega arith)) (other 3 (λ e. omega arith)) (other 4 (λ e. omega arith)) (get_or-set_same ws 5 clock 0 (omega arith))
    (record { level = f.level; prev = f.prev; next = f.next; no_prev = f.no_prev; no_next = f.no_next; few = f.few; ascends = f.ascends }) in
    record { page = made.page ∙ ap (λ v. value_with_clock clock v) (sym h.holds); heap = made.heap }

free-clock : (old clock : ℕ) → set (free_page_words old) 5 clock ≡ free_page_words clock
unfolding free_page_words
free-clock old clock = refl

free-heap : (old clock : ℕ) → read_chain (free_page_words clock) ≡ read_chain (free_page_words old)
unfolding free_page_words zeros
free-heap old clock = refl

clock-free : (ws : List ℕ) (clock : ℕ) → HasFree ws → Headered ws (set ws 5 clock) (value_with_clock clock (page_of ws))
clock-free ws clock h =
    let made : set ws 5 clock ≡ free_page_words clock = ap (λ (vs : List ℕ). set vs 5 clock) h.words ∙ free-clock h.clock clock in
    record {
      page = ap page_of made ∙ (page_of-free_page_words clock ∙ ap (λ v. value_with_clock clock v) (sym h.holds));
      heap = ap read_chain made ∙ (free-heap h.clock clock ∙ ap read_chain (sym h.words));
    }

pub clock-set : (ws : List ℕ) (clock : ℕ) → HoldsPage (page_of ws) → Headered ws (set ws 5 clock) (value_with_clock clock (page_of ws))
clock-set ws clock holds = elim (kinds_of ws) [
  | tree h ↦ clock-tree ws clock (record { is = h.is; holds = page-from ws (read_chain ws) h.is })
  | free h ↦ clock-free ws clock h
  | neither is ↦ absurd (subst HoldsPage is holds)
]
