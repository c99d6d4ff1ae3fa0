-- How many leaves a scan goes over, from the leaf on which it begins to that of each chunk.
use Rattle.std.specs.Prelude.{◌≡◌, ◌⊎◌, ℕ, ◌+◌, ◌<◌, ◌≤◌, List, [], ◌∷◌, Some, length, map, slice_get, take}
use Rattle.ib_map.specs.Chunks.{HeldChunks}
use Rattle.ib_map.specs.Keys.{MapKey}
use Rattle.ib_map.specs.Pairs.{Pairs}
use Rattle.ib_map.specs.Replies.{Span}
use Rattle.ib_logrec.specs.declared.entry.Entry.{Entry}
use Rattle.ib_walk.specs.Chunk.{IsChunk}
use Rattle.ib_walk.specs.Pages.{PageMemory}
use Rattle.ib_walk.specs.Trees.{leaves_of}
use Rattle.ib_tree.specs.Logs.{pages_after}
use Rattle.ib_scan.specs.Scanning.{IsGivenBy}

-- the leaves of a tree, by their pages, in the order of their keys
abbrev pub leaf_pages : PageMemory → ℕ → List ℕ
leaf_pages memory root = map (λ v. v.page) (leaves_of memory root)

-- the leaf `to` is so many leaves behind the leaf `from`
pub record IsBehind (memory : PageMemory) (root from to count : ℕ) : Type 0 where
  pub index : ℕ
  pub from_there : slice_get (leaf_pages memory root) index ≡ Some from
  pub to_there : slice_get (leaf_pages memory root) (index + count) ≡ Some to

-- at a chunk's place, the leaf that gives it is so many leaves behind the leaf `from`
pub record GoesTo (opening : ℕ → ℕ) (log : List Entry) (root : ℕ) (high : MapKey) (from : ℕ) (span : Span) (leaf count : ℕ) : Type 0 where
  pub within : span.place ≤ length log
  pub given : IsGivenBy opening (take span.place log) root leaf high span
  pub behind : IsBehind (pages_after opening (take span.place log)) root from leaf count

-- from the leaf `from` to that of the first chunk, and from the leaf of each chunk to that of the next one: so many leaves in all, up to the leaf `last`
abbrev pub GoesOver : (ℕ → ℕ) → List Entry → ℕ → MapKey → ℕ → List Span → ℕ → ℕ → Type 0
GoesOver opening log root high from [] last count = (last ≡ from) × (count ≡ 0)
GoesOver opening log root high from (span ∷ spans) last count =
    (leaf : ℕ) × (here : ℕ) × GoesTo opening log root high from span leaf here × ((rest : ℕ) × GoesOver opening log root high leaf spans last rest × (count ≡ here + rest))

-- .. whatever the last leaf is
pub record GoesToLast (opening : ℕ → ℕ) (log : List Entry) (root : ℕ) (high : MapKey) (from : ℕ) (spans : List Span) (count : ℕ) : Type 0 where
  pub last : ℕ
  pub over : GoesOver opening log root high from spans last count

-- the leaf of the chunk that begins at a key is so many leaves behind the leaf `from`
pub record GoesToKey (opening : ℕ → ℕ) (log : List Entry) (root : ℕ) (next high : MapKey) (from count : ℕ) : Type 0 where
  pub end : MapKey
  pub pairs : Pairs
  pub chunk : IsChunk (pages_after opening log) root next high end pairs
  pub behind : IsBehind (pages_after opening log) root from chunk.leaf.page count

-- .. and further, to the leaf of the chunk that begins at the key `next`, as the tree is after the log
pub record GoesToNext (opening : ℕ → ℕ) (log : List Entry) (root : ℕ) (next high : MapKey) (from : ℕ) (spans : List Span) (count : ℕ) : Type 0 where
  pub last : ℕ
  pub before : ℕ
  pub over : GoesOver opening log root high from spans last before
  pub behind : ℕ
  pub further : GoesToKey opening log root next high last behind
  pub sum : count ≡ before + behind

-- a scan that finds no room stops on the last chunk's leaf where no chunk place is spare, else on that of the chunk that has too many pairs
abbrev pub GoesToStop : (ℕ → ℕ) → List Entry → ℕ → MapKey → MapKey → ℕ → List Span → HeldChunks → ℕ → Type 0
GoesToStop opening log root next high from spans out count =
    ((out.chunk_room ≡ 0) × GoesToLast opening log root high from spans count) ⊎ ((0 < out.chunk_room) × GoesToNext opening log root next high from spans count)
