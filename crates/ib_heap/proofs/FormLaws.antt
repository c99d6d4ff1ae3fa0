-- What an image holds, and what stands in the words of its header.
use Rattle.std.proofs.Common.{◌≡◌, ◌≢◌, ℕ, ◌-◌, ◌<◌, ◌≤◌, ◌^◌, ◌⊎◌, true, [], ◌∙◌, List, length, get_or, refl, ap, sym, arith, inl, inr, subst}
use Rattle.std.specs.Str.{bytes_eq}
use Rattle.std.proofs.lemmas.Bool.{cases_Bool, cond-true, cond-false}
use Rattle.std.proofs.lemmas.Slice.Eq.{bytes_eq-Decides}
use Rattle.std.proofs.lemmas.List.{length-replicate}
use Rattle.ib_map.specs.declared.TheConstants.{PAGE_WORDS}
use Rattle.ib_heap.specs.declared.TheConstants.{MOST_LEVEL, MOST_RECORDS}
use Rattle.ib_heap.specs.Words.{zeros, free_page_words}
use Rattle.ib_heap.specs.Page.{Page, IsPage, HoldsTree, HoldsPage, page_in}
use Rattle.ib_heap.specs.Page.PageValue.{Malformed, Free, Tree}
use Rattle.ib_heap.specs.Chain.{records_in, is_heap, read_chain, page_with, nodes_of}
use Rattle.ib_heap.specs.Form.{page_of}
use Rattle.ib_heap.proofs.HeapLaws.{IsHeap, IsHeap-Decides, page-from}
use Rattle.ib_heap.proofs.SeekLaws.{length-records}

-- what is known of an image that holds a page of the tree
pub record HasTree (ws : List ℕ) : Type 0 where
  pub page : Page
  pub holds : page_of ws ≡ Tree page
  pub fits : IsPage page
  pub is : IsHeap ws (read_chain ws)

-- what is known of an image that holds a free page
pub record HasFree (ws : List ℕ) : Type 0 where
  pub clock : ℕ
  pub holds : page_of ws ≡ Free clock
  pub words : ws ≡ free_page_words clock

-- an image is a page of the tree, a free page, or neither
pub data Kinds (ws : List ℕ) : Type 0 where
  tree : HasTree ws → Kinds ws
  free : HasFree ws → Kinds ws
  neither : page_of ws ≡ Malformed → Kinds ws

pub kinds_of : (ws : List ℕ) → Kinds ws
unfolding page_of
kinds_of ws = elim (cases_Bool (is_heap ws (read_chain ws))) [
  | inl good ↦ tree (let k = (IsHeap-Decides ws (read_chain ws)).0 good in record { page = page_with ws (records_in ws (nodes_of ws)); holds = page-from ws (read_chain ws) k; fits = k.shape.fits; is = k })
  | inr none ↦ elim (cases_Bool (bytes_eq ws (free_page_words (get_or ws 5 0)))) [
    | inl is_free ↦ free (record {
      clock = get_or ws 5 0;
      holds = cond-false _ _ _ none ∙ cond-true _ _ _ is_free;
      words = (bytes_eq-Decides ws (free_page_words (get_or ws 5 0))).0 is_free;
    })
    | inr neither_one ↦ neither (cond-false _ _ _ none ∙ cond-false _ _ _ neither_one)
  ]
]

-- words that have no heap are no page of the tree
pub page_of-free_page_words : (clock : ℕ) → page_of (free_page_words clock) ≡ Free clock
unfolding page_of free_page_words zeros
page_of-free_page_words clock = cond-true _ _ _ ((bytes_eq-Decides (free_page_words clock) (free_page_words clock)).1 refl)

-- the page that is held by an image of which it is known that it holds one
pub tree_in : (ws : List ℕ) → HoldsTree (page_of ws) → HasTree ws
tree_in ws holds = elim (kinds_of ws) [
  | tree h ↦ h
  | free h ↦ absurd (subst HoldsTree h.holds holds)
  | neither is ↦ absurd (subst HoldsTree is holds)
]

-- a page that is held is within the limits
pub tree_fits : (ws : List ℕ) (p : Page) → page_of ws ≡ Tree p → IsPage p
tree_fits ws p is = elim (kinds_of ws) [
  | tree h ↦ subst IsPage (ap page_in (sym h.holds ∙ is)) h.fits
  | free h ↦ absurd (subst HoldsTree (sym is ∙ h.holds) tt)
  | neither none ↦ absurd (subst HoldsTree (sym is ∙ none) tt)
]

-- an image that holds a page has all its words
pub length-zeros : (n : ℕ) → length (zeros n) ≡ n
unfolding zeros
length-zeros n = length-replicate n 0

pub length-free : (ws : List ℕ) → HasFree ws → length ws ≡ PAGE_WORDS
unfolding free_page_words
length-free ws h = ap length h.words ∙ omega (arith, length-zeros (PAGE_WORDS - 6))

pub length-formed : (ws : List ℕ) → HoldsPage (page_of ws) → length ws ≡ PAGE_WORDS
length-formed ws holds = elim (kinds_of ws) [
  | tree h ↦ h.is.shape.size
  | free h ↦ length-free ws h
  | neither is ↦ absurd (subst HoldsPage is holds)
]

-- what stands in the words of an image's header
pub record HeaderRead (ws : List ℕ) : Type 0 where
  pub level : get_or ws 1 0 ≡ (page_in (page_of ws)).level
  pub count : get_or ws 2 0 ≡ length (page_in (page_of ws)).records
  pub prev : get_or ws 3 0 ≡ (page_in (page_of ws)).prev
  pub next : get_or ws 4 0 ≡ (page_in (page_of ws)).next
  pub clock : get_or ws 5 0 ≡ (page_in (page_of ws)).clock
  pub low : (page_in (page_of ws)).level ≤ MOST_LEVEL
  pub prev_fits : (page_in (page_of ws)).prev < 2 ^ 32
  pub next_fits : (page_in (page_of ws)).next < 2 ^ 32
  pub few : length (page_in (page_of ws)).records ≤ MOST_RECORDS
  pub size : length ws ≡ PAGE_WORDS

header_read-tree : (ws : List ℕ) → IsHeap ws (read_chain ws) → HeaderRead ws
header_read-tree ws is =
    let here : Page = page_with ws (records_in ws (nodes_of ws)) in
    let at : page_in (page_of ws) ≡ here = ap page_in (page-from ws (read_chain ws) is) in
    record {
      level = ap (λ (q : Page). q.level) (sym at);
      count = is.shape.count ∙ (sym (length-records ws (nodes_of ws)) ∙ ap (λ (q : Page). length q.records) (sym at));
      prev = ap (λ (q : Page). q.prev) (sym at);
      next = ap (λ (q : Page). q.next) (sym at);
      clock = ap (λ (q : Page). q.clock) (sym at);
      low = subst (λ (q : Page). q.level ≤ MOST_LEVEL) (sym at) is.shape.fits.level;
      prev_fits = subst (λ (q : Page). q.prev < 2 ^ 32) (sym at) is.shape.fits.prev;
      next_fits = subst (λ (q : Page). q.next < 2 ^ 32) (sym at) is.shape.fits.next;
      few = subst (λ (q : Page). length q.records ≤ MOST_RECORDS) (sym at) is.shape.fits.few;
      size = is.shape.size;
    }

header-free_page_words : (clock : ℕ) → (get_or (free_page_words clock) 1 0 ≡ 0) × (get_or (free_page_words clock) 2 0 ≡ 0)
    × (get_or (free_page_words clock) 3 0 ≡ 0) × (get_or (free_page_words clock) 4 0 ≡ 0) × (get_or (free_page_words clock) 5 0 ≡ clock)
unfolding free_page_words
header-free_page_words clock = (refl, refl, refl, refl, refl)

header_read-free : (ws : List ℕ) → HasFree ws → HeaderRead ws
header_read-free ws h =
    let header = header-free_page_words h.clock in
    let free_page : Page = record { level = 0; prev = 0; next = 0; clock = h.clock; records = [] } in
    let at : page_in (page_of ws) ≡ free_page = ap page_in h.holds in
    let read : (i : ℕ) → get_or ws i 0 ≡ get_or (free_page_words h.clock) i 0 = λ i. ap (λ (xs : List ℕ). get_or xs i 0) h.words in
    record {
      level = read 1 ∙ (header.0 ∙ ap (λ (q : Page). q.level) (sym at));
      count = read 2 ∙ (header.1 ∙ ap (λ (q : Page). length q.records) (sym at));
      prev = read 3 ∙ (header.2 ∙ ap (λ (q : Page). q.prev) (sym at));
      next = read 4 ∙ (header.3 ∙ ap (λ (q : Page). q.next) (sym at));
      clock = read 5 ∙ (header.4 ∙ ap (λ (q : Page). q.clock) (sym at));
      low = subst (λ (q : Page). q.level ≤ MOST_LEVEL) (sym at) (omega arith);
      prev_fits = subst (λ (q : Page). q.prev < 2 ^ 32) (sym at) (omega arith);
      next_fits = subst (λ (q : Page). q.next < 2 ^ 32) (sym at) (omega arith);
      few = subst (λ (q : Page). length q.records ≤ MOST_RECORDS) (sym at) (omega arith);
      size = length-free ws h;
    }

pub header_read : (ws : List ℕ) → HoldsPage (page_of ws) → HeaderRead ws
header_read ws holds = elim (kinds_of ws) [
  | tree h ↦ header_read-tree ws h.is
  | free h ↦ header_read-free ws h
  | neither is ↦ absurd (subst HoldsPage is holds)
]

-- a page of the tree is formed
pub formed-tree : (ws : List ℕ) → HoldsTree (page_of ws) → HoldsPage (page_of ws)
formed-tree ws holds = let h = tree_in ws holds in subst HoldsPage (sym h.holds) tt

-- the first word tells a page of the tree from a free one
first-free_page_words : (clock : ℕ) → get_or (free_page_words clock) 0 0 ≡ 0
unfolding free_page_words
first-free_page_words clock = refl

pub kind_read : (ws : List ℕ) → HoldsPage (page_of ws) → (HoldsTree (page_of ws) × (get_or ws 0 0 ≡ 1)) ⊎ (HasFree ws × (get_or ws 0 0 ≡ 0))
kind_read ws holds = elim (kinds_of ws) [
  | tree h ↦ inl (subst HoldsTree (sym h.holds) tt, h.is.shape.kind)
  | free h ↦ inr (h, ap (λ (xs : List ℕ). get_or xs 0 0) h.words ∙ first-free_page_words h.clock)
  | neither is ↦ absurd (subst HoldsPage is holds)
]

-- words are formed by their heap, or as a free page
pub formed-heap : (ws : List ℕ) → is_heap ws (read_chain ws) ≡ true → HoldsPage (page_of ws)
formed-heap ws good = subst HoldsPage (sym (page-from ws (read_chain ws) ((IsHeap-Decides ws (read_chain ws)).0 good))) tt

pub heap-formed : (ws : List ℕ) → get_or ws 0 0 ≡ 1 → HoldsPage (page_of ws) → is_heap ws (read_chain ws) ≡ true
heap-formed ws one holds = elim (kinds_of ws) [
  | tree h ↦ (IsHeap-Decides ws (read_chain ws)).1 h.is
  | free h ↦ absurd (let none : get_or ws 0 0 ≡ 0 = ap (λ (xs : List ℕ). get_or xs 0 0) h.words ∙ first-free_page_words h.clock in omega arith)
  | neither is ↦ absurd (subst HoldsPage is holds)
]

pub formed-free : (ws : List ℕ) → ws ≡ free_page_words (get_or ws 5 0) → HoldsPage (page_of ws)
formed-free ws is = subst HoldsPage (sym (ap page_of is ∙ page_of-free_page_words (get_or ws 5 0))) tt

pub free-formed : (ws : List ℕ) → get_or ws 0 0 ≢ 1 → HoldsPage (page_of ws) → ws ≡ free_page_words (get_or ws 5 0)
free-formed ws other holds = elim (kinds_of ws) [
  | tree h ↦ absurd (other h.is.shape.kind)
  | free h ↦ (let clock : h.clock ≡ get_or ws 5 0 = sym (ap (λ (xs : List ℕ). get_or xs 5 0) h.words ∙ (header-free_page_words h.clock).4) in h.words ∙ ap free_page_words clock)
  | neither is ↦ absurd (subst HoldsPage is holds)
]

-- a node has no links
pub links-none : (ws : List ℕ) → HoldsTree (page_of ws) → 0 < (page_in (page_of ws)).level → ((page_in (page_of ws)).prev ≡ 0) × ((page_in (page_of ws)).next ≡ 0)
links-none ws holds = let h = tree_in ws holds in subst (λ (q : Page). 0 < q.level → (q.prev ≡ 0) × (q.next ≡ 0)) (sym (ap page_in h.holds)) (λ lt. (h.fits.no_prev lt, h.fits.no_next lt))
