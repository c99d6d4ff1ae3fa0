-- The chunk of a scan: what it reads of the leaves from a key on, at one place of the log.
use Rattle.std.specs.Prelude.{◌≡◌, ◌⊎◌, ℕ, ◌<◌, ◌≤◌, List, [], ◌∷◌, ◌++◌}
use Rattle.std.specs.List.{AllByRecursion}
use Rattle.ib_map.specs.Keys.{MapKey, rank}
use Rattle.ib_map.specs.Pairs.{Pairs, cut}
use Rattle.ib_walk.specs.Pages.{PageMemory}
use Rattle.ib_walk.specs.Walk.{Visit}
use Rattle.ib_walk.specs.Trees.{leaves_of, content_of}

-- the key is that of the last of the records
abbrev pub IsLastKey : Pairs → MapKey → Type 0
IsLastKey records key = (front : Pairs) × (value : ℕ) × (records ≡ front ++ (key, value) ∷ [])

-- none of the records has the key or one above it
abbrev pub AreBelow : MapKey → Pairs → Type 0
AreBelow key records = AllByRecursion (λ x. rank x.0 < rank key) records

-- the first leaf whose last key is not below `start`, or the last leaf of all where there is none: `front` are the leaves before it, and `back` those behind it
pub record IsChunkLeaf (memory : PageMemory) (root : ℕ) (start : MapKey) (front : List Visit) (leaf : Visit) (back : List Visit) : Type 0 where
  pub leaves : leaves_of memory root ≡ front ++ leaf ∷ back
  pub passed : AllByRecursion (λ v. AreBelow start (memory v.page).records) front
  pub stops : (back ≡ []) ⊎ ((last : MapKey) × IsLastKey (memory leaf.page).records last × (rank start ≤ rank last))

-- a chunk from `start` on ends at the leaf's last key, or at `high` where that is not above it or no leaf follows
abbrev pub EndsAt : Pairs → List Visit → MapKey → MapKey → Type 0
EndsAt records [] high end = end ≡ high
EndsAt records (next ∷ back) high end = (last : MapKey) × IsLastKey records last × ((rank high ≤ rank last) × (end ≡ high) ⊎ (rank last < rank high) × (end ≡ last))

-- a chunk that a scan up to `high` reads from `start` on: its end, and all that the tree has up to there
pub record IsChunk (memory : PageMemory) (root : ℕ) (start high end : MapKey) (pairs : Pairs) : Type 0 where
  pub front : List Visit
  pub leaf : Visit
  pub back : List Visit
  pub at : IsChunkLeaf memory root start front leaf back
  pub ends : EndsAt (memory leaf.page).records back high end
  pub holds : pairs ≡ cut (content_of memory root) start end
