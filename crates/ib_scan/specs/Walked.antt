-- The leaves that a scan holds: those passed over since the leaf that gave the last chunk, that one with them, and the one on which it stands.
use Rattle.std.specs.Prelude.{◌≡◌, ◌≢◌, ◌⊎◌, ℕ, ◌+◌, ◌<◌, ◌≤◌, true, List, [], ◌∷◌, ◌++◌, map}
use Rattle.std.specs.List.{AllByRecursion}
use Rattle.ib_map.specs.Keys.{MapKey, rank}
use Rattle.ib_levels.specs.declared.level.Mode.TheVariants.{S}
use Rattle.ib_layout.specs.Geometry.{Sizes}
use Rattle.ib_page.specs.Image.{next_of, records_of}
use Rattle.ib_logrec.specs.declared.entry.Entry.{Entry}
use Rattle.ib_logrec.specs.Log.{memory_after}
use Rattle.ib_walk.specs.Words.{image_of}
use Rattle.ib_walk.specs.Chunk.{AreBelow, IsLastKey}
use Rattle.ib_tree.specs.Logs.{HasRange, pages_after}
use Rattle.ib_rule.specs.Pass.{PassState}
use Rattle.ib_rule.specs.Views.{is_watched}
use Rattle.ib_cursor.specs.Grants.{Grant, page_grant, HasGrants}
use Rattle.ib_cursor.specs.Going.{IsKnown}

-- a leaf with its image as it was read
pub record ReadLeaf : Type 0 where
  pub page : ℕ
  pub image : List ℕ

abbrev pub first_read : List ReadLeaf → ReadLeaf → ReadLeaf
first_read [] last = last
first_read (p ∷ ps) last = p

-- a leaf gives no chunk from the start on: another is behind it, and its keys are all below the start
pub record IsSkipped (start : MapKey) (image : List ℕ) : Type 0 where
  pub some : next_of image ≢ 0
  pub below : AreBelow start (records_of image)

-- the leaves that were passed over give no chunk, and the link of each names the one behind it
abbrev pub ArePassed : MapKey → List ReadLeaf → ReadLeaf → Type 0
ArePassed start [] last = Unit {0}
ArePassed start (p ∷ ps) last = IsSkipped start p.image × (next_of p.image ≡ (first_read ps last).page) × ArePassed start ps last

-- a leaf that is not the last one and ends at this key, none below the start
pub record HasLastKey (start last : MapKey) (image : List ℕ) : Type 0 where
  pub some : next_of image ≢ 0
  pub is_last : IsLastKey (records_of image) last
  pub from : rank start ≤ rank last

-- the chunk that begins at `start` ends at `end`, by the image of the leaf that gives it: at `high` in the last leaf, else at the leaf's last key or at `high` where that is not above it
abbrev pub EndsBy : MapKey → MapKey → MapKey → List ℕ → Type 0
EndsBy start high end image =
    ((next_of image ≡ 0) × (end ≡ high)) ⊎ ((last : MapKey) × HasLastKey start last image × ((rank high ≤ rank last) × (end ≡ high) ⊎ (rank last < rank high) × (end ≡ last)))

-- the leaf has this image in the memory after the log
abbrev pub IsReadOf : (ℕ → ℕ) → List Entry → ReadLeaf → Type 0
IsReadOf opening log p = p.image ≡ image_of (memory_after opening log) p.page

-- what must stay while the log grows: the leaves are those of this log, and the first one is met in the tree of the root, with a range that begins not above the start
pub record IsWalked (roots : ℕ) (opening : ℕ → ℕ) (log : List Entry) (root : ℕ) (start : MapKey) (ps : List ReadLeaf) (last : ReadLeaf) : Type 0 where
  pub images : AllByRecursion (IsReadOf opening log) ps
  pub image : IsReadOf opening log last
  pub passed : ArePassed start ps last
  pub low : ℕ
  pub high : ℕ
  pub met : HasRange roots (pages_after opening log) (first_read ps last).page (record { root = root; low = low; end = high; level = 0 })
  pub le : low ≤ rank start

abbrev pub leaf_grants : List ReadLeaf → List Grant
leaf_grants ps = map (λ p. page_grant p.page S) ps

-- the leaves passed over and the one on which the scan stands are held in S, each with a look at the log's end since, and the last one alone is loaded, unchanged
pub record IsScanning (sizes : Sizes) (lawful : List Entry → Type 0) (opening : ℕ → ℕ) (roots root : ℕ) (start : MapKey) (ps : List ReadLeaf) (last : ReadLeaf) (p : PassState) : Type 0 where
  pub grants : HasGrants (leaf_grants ps ++ page_grant last.page S ∷ []) p
  pub watched : AllByRecursion (λ q. is_watched (q.page + 2) p.view.memory.since ≡ true) ps
  pub here : is_watched (last.page + 2) p.view.memory.since ≡ true
  pub work : p.work ≡ record { page = last.page; before = last.image; changed = last.image } ∷ []
  pub known : IsKnown sizes lawful p
  pub walked : IsWalked roots opening p.view.memory.seen root start ps last
