-- A page with no records.
use Rattle.std.proofs.Common.{◌≡◌, ◌≢◌, ℕ, zero, suc, ◌-◌, ◌≤◌, [], ◌∷◌, ◌∙◌, List, get_or, refl, ap, sym, arith, replicate, set, get_or-set_other}
use Rattle.ib_map.specs.declared.TheConstants.{PAGE_WORDS}
use Rattle.ib_map.specs.Keys as K
use Rattle.ib_heap.specs.declared.TheConstants.{MOST_LEVEL}
use Rattle.ib_heap.specs.Words.{zeros}
use Rattle.ib_heap.specs.Page.PageValue.{Tree}
use Rattle.ib_heap.specs.Chain.{Chain}
use Rattle.ib_heap.specs.Heap.{read_heap, heap_of}
use Rattle.ib_heap.specs.Filled.{empty_heap}
use Rattle.ib_heap.specs.Form.{page_of, empty_leaf_words}
use Rattle.ib_heap.proofs.HeapLaws.{IsHeap, heap-read, page-from}
use Rattle.ib_heap.specs.Laws.{FormLaw}
use Rattle.ib_heap.proofs.FreeLaws.{zeros-at}
use Rattle.ib_heap.proofs.FormLaws.{tree_fits, length-formed, formed-tree, page_of-free_page_words}

-- the words that are written
abbrev pub empty_words : ℕ → ℕ → List ℕ
empty_words level clock = set (set (set (set (set (set (set (set (replicate PAGE_WORDS 0) 0 1) 1 level) 5 clock) 7 532) 8 18) 9 19) 18 275) 19 256

-- no records, and no free offsets
abbrev empty_chain : Chain
empty_chain = record { nodes = []; last = 1; free = [] }

empty-is : (level clock : ℕ) → level ≤ MOST_LEVEL → IsHeap (empty_words level clock) empty_chain
unfolding K.end_rank
empty-is level clock le = record {
  shape = record {
    size = refl;
    kind = refl;
    count = refl;
    fits = record { level = le; prev = omega arith; next = omega arith; no_prev = λ h. refl; no_next = λ h. refl; few = omega arith; ascends = omega arith };
    front = refl;
    top = refl;
    few = omega arith;
    start = refl;
    chained = refl;
    freed = tt;
    directory = (refl, (refl, (refl, (refl, (refl, (refl, (refl, (refl, (refl, (refl, refl))))))))));
    offsets = tt;
    once = tt;
    keyed = refl;
  };
  owned = (refl, omega arith);
}

pub empty-page : (level clock : ℕ) → level ≤ MOST_LEVEL → page_of (empty_words level clock) ≡ Tree (record { level = level; prev = 0; next = 0; clock = clock; records = [] })
empty-page level clock le = page-from (empty_words level clock) empty_chain (empty-is level clock le)

pub empty-heap : (level clock : ℕ) → level ≤ MOST_LEVEL → read_heap (empty_words level clock) ≡ empty_heap
empty-heap level clock le = ap heap_of (heap-read (empty_words level clock) empty_chain (empty-is level clock le))

-- an empty leaf, word for word
pub leaf-words : (level clock : ℕ) → level ≡ 0 → empty_words level clock ≡ empty_leaf_words clock
unfolding empty_leaf_words zeros
leaf-words level clock leaf = ap (λ (l : ℕ). empty_words l clock) leaf

pub page_of-leaf : (clock : ℕ) → page_of (empty_leaf_words clock) ≡ Tree (record { level = 0; prev = 0; next = 0; clock = clock; records = [] })
page_of-leaf clock = ap page_of (sym (leaf-words 0 clock refl)) ∙ empty-page 0 clock (omega arith)

-- a word of it
pub leaf-named : (clock : ℕ) → (get_or (empty_leaf_words clock) 0 0 ≡ 1) × (get_or (empty_leaf_words clock) 5 0 ≡ clock) × (get_or (empty_leaf_words clock) 7 0 ≡ 532) × (get_or (empty_leaf_words clock) 8 0 ≡ 18)
    × (get_or (empty_leaf_words clock) 9 0 ≡ 19) × (get_or (empty_leaf_words clock) 18 0 ≡ 275) × (get_or (empty_leaf_words clock) 19 0 ≡ 256)
unfolding empty_leaf_words
leaf-named clock = (refl, refl, refl, refl, refl, refl, refl)

pub leaf-other : (clock index : ℕ) → index ≢ 0 → index ≢ 5 → index ≢ 7 → index ≢ 8 → index ≢ 9 → index ≢ 18 → index ≢ 19 → get_or (empty_leaf_words clock) index 0 ≡ 0
unfolding empty_leaf_words
leaf-other clock zero a b c d e f g = absurd (a refl)
leaf-other clock (suc zero) a b c d e f g = refl
leaf-other clock (suc (suc zero)) a b c d e f g = refl
leaf-other clock (suc (suc (suc zero))) a b c d e f g = refl
leaf-other clock (suc (suc (suc (suc zero)))) a b c d e f g = refl
leaf-other clock (suc (suc (suc (suc (suc zero))))) a b c d e f g = absurd (b refl)
leaf-other clock (suc (suc (suc (suc (suc (suc zero)))))) a b c d e f g = refl
leaf-other clock (suc (suc (suc (suc (suc (suc (suc zero))))))) a b c d e f g = absurd (c refl)
leaf-other clock (suc (suc (suc (suc (suc (suc (suc (suc zero)))))))) a b c d e f g = absurd (d refl)
leaf-other clock (suc (suc (suc (suc (suc (suc (suc (suc (suc zero))))))))) a b c d e f g = absurd (e refl)
leaf-other clock (suc (suc (suc (suc (suc (suc (suc (suc (suc (suc i)))))))))) a b c d e f g = behind i (λ z. f (ap (λ n. suc (suc (suc (suc (suc (suc (suc (suc (suc (suc n)))))))))) z)) (λ z. g (ap (λ n. suc (suc (suc (suc (suc (suc (suc (suc (suc (suc n)))))))))) z))
  where
    behind : (i : ℕ) → i ≢ 8 → i ≢ 9 → get_or (0 ∷ 0 ∷ 0 ∷ 0 ∷ 0 ∷ 0 ∷ 0 ∷ 0 ∷ 275 ∷ 256 ∷ zeros (PAGE_WORDS - 20)) i 0 ≡ 0
    behind zero f g = refl
    behind (suc zero) f g = refl
    behind (suc (suc zero)) f g = refl
    behind (suc (suc (suc zero))) f g = refl
    behind (suc (suc (suc (suc zero)))) f g = refl
    behind (suc (suc (suc (suc (suc zero))))) f g = refl
    behind (suc (suc (suc (suc (suc (suc zero)))))) f g = refl
    behind (suc (suc (suc (suc (suc (suc (suc zero))))))) f g = refl
    behind (suc (suc (suc (suc (suc (suc (suc (suc zero)))))))) f g = absurd (f refl)
    behind (suc (suc (suc (suc (suc (suc (suc (suc (suc zero))))))))) f g = absurd (g refl)
    behind (suc (suc (suc (suc (suc (suc (suc (suc (suc (suc i)))))))))) f g = zeros-at (PAGE_WORDS - 20) i

-- behind the header all is 0
skip : (ws : List ℕ) (j i w : ℕ) → i ≢ j → get_or ws i 0 ≡ 0 → get_or (set ws j w) i 0 ≡ 0
skip ws j i w ne none = get_or-set_other ws j i w 0 ne ∙ none

pub empty-rest : (level clock i : ℕ) → 20 ≤ i → get_or (empty_words level clock) i 0 ≡ 0
unfolding zeros
empty-rest level clock i le =
    let ws : List ℕ = replicate PAGE_WORDS 0 in
    let none : get_or ws i 0 ≡ 0 = zeros-at PAGE_WORDS i in
    let kind = skip ws 0 i 1 (λ e. omega arith) none in
    let vs : List ℕ = set (set ws 0 1) 1 level in
    let high = skip (set ws 0 1) 1 i level (λ e. omega arith) kind in
    let us : List ℕ = set (set vs 5 clock) 7 532 in
    let top = skip (set vs 5 clock) 7 i 532 (λ e. omega arith) (skip vs 5 i clock (λ e. omega arith) high) in
    let slots = skip (set us 8 18) 9 i 19 (λ e. omega arith) (skip us 8 i 18 (λ e. omega arith) top) in
    skip (set (set (set us 8 18) 9 19) 18 275) 19 i 256 (λ e. omega arith) (skip (set (set us 8 18) 9 19) 18 i 275 (λ e. omega arith) slots)

-- the law of the form, part by part
pub form_law : FormLaw
form_law = record {
  levels = refl;
  most = refl;
  tree = tree_fits;
  whole = length-formed;
  formed = formed-tree;
  leaf = page_of-leaf;
  free = page_of-free_page_words;
}
