-- What a scan has read of a tree: chunks one behind another, each at a place of the log of its own.
use Rattle.std.specs.Prelude.{◌≡◌, ℕ, ◌<◌, ◌≤◌, List, [], ◌∷◌, ◌++◌, Some, length, take}
use Rattle.ib_map.specs.Keys.{MapKey, rank, key_after}
use Rattle.ib_map.specs.Replies.{Span}
use Rattle.ib_logrec.specs.declared.entry.Entry.{Entry}
use Rattle.ib_walk.specs.Chunk.{IsChunk}
use Rattle.ib_tree.specs.Logs.{pages_after}

-- a chunk of a scan up to `high`, as the tree of the root has it at the chunk's place: it begins at `low`, and stands at no place before `floor`
pub record IsReadAt (opening : ℕ → ℕ) (log : List Entry) (root : ℕ) (low high : MapKey) (floor : ℕ) (span : Span) : Type 0 where
  pub begins : span.low ≡ low
  pub placed : floor ≤ span.place
  pub within : span.place ≤ length log
  pub chunk : IsChunk (pages_after opening (take span.place log)) root low high span.high span.pairs

-- Chunks of a scan from `low` on that ended below `high`: each begins at the key after the end of the one before, and their
-- places, none before `floor`, never fall. The next chunk begins at `next`, at no place before `last`.
abbrev pub AreFront : (ℕ → ℕ) → List Entry → ℕ → MapKey → MapKey → ℕ → List Span → MapKey → ℕ → Type 0
AreFront opening log root low high floor [] next last = (next ≡ low) × (last ≡ floor)
AreFront opening log root low high floor (span ∷ spans) next last =
    IsReadAt opening log root low high floor span × (rank span.high < rank high)
    × ((after : MapKey) × (key_after span.high ≡ Some after) × AreFront opening log root after high span.place spans next last)

-- all chunks of a scan from `low` to `high`: those that ended below `high`, and the last one, which ends there. `end` is its place
pub record AreWhole (opening : ℕ → ℕ) (log : List Entry) (root : ℕ) (low high : MapKey) (floor : ℕ) (spans : List Span) (end : ℕ) : Type 0 where
  pub front : List Span
  pub last : Span
  pub are : spans ≡ front ++ last ∷ []
  pub next : MapKey
  pub before_place : ℕ
  pub before : AreFront opening log root low high floor front next before_place
  pub read : IsReadAt opening log root next high before_place last
  pub to : last.high ≡ high
  pub placed : end ≡ last.place
