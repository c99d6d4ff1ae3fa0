-- How a scan that never waits ended before all was scanned.
use Rattle.std.specs.Prelude.{◌≡◌, ◌⊎◌, ℕ, ◌+◌, ◌*◌, ◌<◌, ◌≤◌, List, [], ◌∷◌, ◌++◌, length}
use Rattle.std.specs.List.{AllByRecursion}
use Rattle.ib_map.specs.Chunks.{HeldChunks}
use Rattle.ib_map.specs.Keys.{MapKey, rank}
use Rattle.ib_map.specs.Replies.{Span}
use Rattle.ib_levels.specs.declared.level.Mode.TheVariants.{S}
use Rattle.ib_layout.specs.Geometry.{Sizes}
use Rattle.ib_heap.specs.declared.TheConstants.{MOST_LEVEL, MOST_RECORDS}
use Rattle.ib_logrec.specs.declared.entry.Entry.{Entry}
use Rattle.ib_walk.specs.Chunk.{AreBelow}
use Rattle.ib_walk.specs.Pages.{PageMemory}
use Rattle.ib_walk.specs.Trees.{leaves_of}
use Rattle.ib_walk.specs.Walk.{Visit}
use Rattle.ib_tree.specs.Logs.{pages_after}
use Rattle.ib_tree.specs.Scans.{AreFront}
use Rattle.ib_rule.specs.Pass.{PassState}
use Rattle.ib_cursor.specs.declared.fault.NowaitFault.{NowaitFault}
use Rattle.ib_cursor.specs.Contention.{IsAnywhereOnPath, refused_latch}
use Rattle.ib_cursor.specs.Going.{IsKnown, WentOn}
use Rattle.ib_cursor.specs.Refusals.{AreFewLooks, WasRefusedIn, looks_of}
use Rattle.ib_scan.specs.Scanning.{Appends, AreHeld, HasStopped}
use Rattle.ib_scan_nowait.specs.declared.halt.Halt.{Halt}
use Rattle.ib_scan_nowait.specs.declared.halt.Halt.TheVariants.{NoRoom, Refused}

-- the latch of a leaf to which a scan has come for the chunk from a key: there are leaves in front of it, and none of their records has the key or one above it
pub record IsLeafToCome (memory : PageMemory) (root : ℕ) (next : MapKey) (l : ℕ) : Type 0 where
  pub front : List Visit
  pub leaf : Visit
  pub back : List Visit
  pub leaves : leaves_of memory root ≡ front ++ leaf ∷ back
  pub at : l ≡ leaf.page + 2
  pub some : 0 < length front
  pub passed : AllByRecursion (λ v. AreBelow next (memory v.page).records) front

-- how far a scan went that was refused a latch: chunks were appended, and it changed nothing but what is seen and the grants of S that were ever taken, 8,192 at most for each chunk, and 8,192; `first` is the first end of the log that it found
pub record HasGoneSome (sizes : Sizes) (lawful : List Entry → Type 0) (out new : HeldChunks) (p q : PassState) : Type 0 where
  pub spans : List Span
  pub appends : Appends out new spans
  pub short : AllByRecursion (λ span. length span.pairs ≤ MOST_RECORDS) spans
  pub went : WentOn p q
  pub first : ℕ
  pub rest : List ℕ
  pub looks : went.added ≡ first ∷ rest
  pub known : IsKnown sizes lawful q
  pub s : q.view.grants.s ≤ p.view.grants.s + 8192 * length spans + 8192
  pub sx : q.view.grants.sx ≡ p.view.grants.sx
  pub x : q.view.grants.x ≡ p.view.grants.x

-- no chunk was appended, and the latch is the index or a page of the path of `low`. At lock words it looked twice at most for each latch of the longest path that a tree can have
pub record IsRefusedOnWay (opening : ℕ → ℕ) (root : ℕ) (low : MapKey) (fault : NowaitFault) (spans : List Span) (p q : PassState) : Type 0 where
  pub none : spans ≡ []
  pub on_path : IsAnywhereOnPath opening q.view.memory.seen root low (refused_latch fault)
  pub few : q.view.looks.count ≤ p.view.looks.count + 2 * (MOST_LEVEL + 2)

-- the latch is that of a leaf to which the scan had come for the chunk from `next`, with a chunk place spare. Two grants of S at least were taken
pub record IsRefusedAtLeaf (opening : ℕ → ℕ) (root : ℕ) (next : MapKey) (fault : NowaitFault) (new : HeldChunks) (p q : PassState) : Type 0 where
  pub to_come : IsLeafToCome (pages_after opening q.view.memory.seen) root next (refused_latch fault)
  pub spare : 0 < new.chunk_room
  pub least : p.view.grants.s + 2 ≤ q.view.grants.s

-- chunks from `low` up to what is before `next` were appended, each as the tree of the root was at its place, off a leaf that was held until the next one was read, the last one's until the end. Then a latch was refused in S at the last looks, and all was given up. At lock words it looked twice at most for each grant, and as often more as the refused try takes
pub record IsRefusedScan (sizes : Sizes) (lawful : List Entry → Type 0) (opening : ℕ → ℕ) (root : ℕ) (low high next : MapKey) (fault : NowaitFault) (out new : HeldChunks) (p q : PassState) : Type 0 where
  pub gone : HasGoneSome sizes lawful out new p q
  pub last : ℕ
  pub chunks : AreFront opening q.view.memory.seen root low high gone.first gone.spans next last
  pub held : AreHeld opening q.view.memory.seen root high gone.spans (length q.view.memory.seen)
  pub within : last ≤ length q.view.memory.seen
  pub from : rank low ≤ rank next
  pub to : rank next ≤ rank high
  pub none : next ≡ low → gone.spans ≡ []
  pub refused : WasRefusedIn S fault p.view.looks q.view.looks
  pub few : AreFewLooks (looks_of fault) p.view q.view
  pub at : IsRefusedOnWay opening root low fault gone.spans p q ⊎ IsRefusedAtLeaf opening root next fault new p q

-- the scan stopped as one that waits: the chunk from `next` finds no room. Two grants of S at least were taken, and at lock words it looked twice at most for each
pub record HasStoppedAtOnce (sizes : Sizes) (lawful : List Entry → Type 0) (opening : ℕ → ℕ) (root : ℕ) (low high next : MapKey) (out new : HeldChunks) (p q : PassState) : Type 0 where
  pub stopped : HasStopped sizes lawful opening root low high next out new p q
  pub least : p.view.grants.s + 2 ≤ q.view.grants.s
  pub few : AreFewLooks 0 p.view q.view

-- no room for the chunk from `next`, or a latch that was refused before it was read
abbrev pub HasHalted : Sizes → (List Entry → Type 0) → (ℕ → ℕ) → ℕ → MapKey → MapKey → Halt → HeldChunks → HeldChunks → PassState → PassState → Type 0
HasHalted sizes lawful opening root low high (NoRoom next) out new p q = HasStoppedAtOnce sizes lawful opening root low high next out new p q
HasHalted sizes lawful opening root low high (Refused next fault) out new p q = IsRefusedScan sizes lawful opening root low high next fault out new p q
