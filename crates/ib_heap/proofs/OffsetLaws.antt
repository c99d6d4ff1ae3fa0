-- The offset that a new record takes.
use Rattle.std.proofs.Common.{◌≡◌, ℕ, ◌+◌, ◌*◌, ◌%◌, ◌≤◌, [], ◌∷◌, ◌∙◌, List, length, get_or, refl, ap, sym, arith, inl, inr}
use Rattle.ib_heap.specs.Chain.{Node, Chain, first_free, used_in_chain, read_chain, nodes_of}
use Rattle.ib_heap.specs.ChainPut.{chain_offset, rest_of}
use Rattle.ib_heap.proofs.HeapLaws.{Freed, AreOffsets, AreOffsets-right}
use Rattle.ib_heap.proofs.SeekLaws.{Known}
use Rattle.ib_heap.proofs.ShapeLaws.{Gives}

abbrev heap : List Node → ℕ → List ℕ → Chain
heap nodes last free = record { nodes = nodes; last = last; free = free }

-- a free offset, and what is free behind it
pub record FreeOffset (ws : List ℕ) (h : Chain) (p : ℕ) : Type 0 where
  pub offset : p ≡ chain_offset h
  pub low : 20 ≤ p
  pub high : p ≤ 156
  pub next : get_or ws p 0 ≡ first_free (rest_of h.free)
  pub same : length h.nodes + 1 + length (rest_of h.free) ≡ used_in_chain h
  pub gives : Gives h p (rest_of h.free)

pub free-offset : (ws : List ℕ) (nodes : List Node) (last : ℕ) (free : List ℕ) (p : ℕ) → Freed ws free → AreOffsets (length nodes + length free) free → length nodes + length free ≤ 35 → p ≡ first_free free → (p ≡ 0 → ⊥) → FreeOffset ws (heap nodes last free) p
free-offset ws nodes last [] p freed offsets few at some = absurd (some at)
free-offset ws nodes last (q ∷ qs) p freed offsets few at some =
    let a = offsets.0.is in let b = offsets.0.below in
    record { offset = at; low = omega arith; high = omega arith; next = ap (λ n. get_or ws n 0) at ∙ freed.0; same = omega arith; gives = inl (ap (λ n. n ∷ qs) (sym at)) }

-- where none is free
pub record TopOffset (h : Chain) (p : ℕ) : Type 0 where
  pub offset : p ≡ chain_offset h
  pub front : 0 ≡ first_free (rest_of h.free)
  pub more : length h.nodes + 1 + length (rest_of h.free) ≡ used_in_chain h + 1
  pub none : length h.free ≡ 0
  pub gives : Gives h p (rest_of h.free)

pub top-offset : (n : ℕ) (nodes : List Node) (last : ℕ) (free : List ℕ) (p : ℕ) → AreOffsets n free → first_free free ≡ 0 → p ≡ 20 + 4 * (length nodes + length free) → TopOffset (heap nodes last free) p
top-offset n nodes last [] p offsets at is = record { offset = is; front = refl; more = omega arith; none = refl; gives = inr (refl, (is, refl)) }
top-offset n nodes last (q ∷ qs) p offsets at is = absurd (let a = offsets.0.is in let b : q ≡ 0 = at in omega arith)

pub known-free : (ws : List ℕ) → Known ws → (get_or ws 6 0 ≡ 0 → ⊥) → FreeOffset ws (read_chain ws) (get_or ws 6 0)
known-free ws k some = free-offset ws (nodes_of ws) (read_chain ws).last (read_chain ws).free _ k.is.shape.freed (AreOffsets-right _ _ _ k.is.shape.offsets) k.few k.is.shape.front some

pub known-top : (ws : List ℕ) → Known ws → get_or ws 6 0 ≡ 0 → TopOffset (read_chain ws) (get_or ws 7 0 % 256)
known-top ws k none = top-offset _ (nodes_of ws) (read_chain ws).last (read_chain ws).free _ (AreOffsets-right _ _ _ k.is.shape.offsets) (sym k.is.shape.front ∙ none) (let t = k.is.shape.top in let f = k.few in omega arith)
