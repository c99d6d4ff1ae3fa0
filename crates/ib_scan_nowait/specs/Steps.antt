-- The steps of a scan that never waits.
use Rattle.std.specs.Prelude.{◌≡◌, ℕ, ◌+◌, ◌*◌, ◌<◌, ◌≤◌, List, [], ◌∷◌, ◌++◌, length}
use Rattle.std.specs.List.{AllByRecursion}
use Rattle.ib_map.specs.Chunks.{HeldChunks}
use Rattle.ib_map.specs.Keys.{MapKey, rank}
use Rattle.ib_map.specs.Replies.{Span}
use Rattle.ib_levels.specs.declared.level.Mode.TheVariants.{S}
use Rattle.ib_layout.specs.Geometry.{Sizes}
use Rattle.ib_heap.specs.declared.TheConstants.{MOST_RECORDS}
use Rattle.ib_page.specs.Image.{next_of}
use Rattle.ib_logrec.specs.declared.entry.Entry.{Entry}
use Rattle.ib_logrec.specs.Log.{memory_after}
use Rattle.ib_walk.specs.Words.{image_of}
use Rattle.ib_tree.specs.Logs.{pages_after}
use Rattle.ib_tree.specs.Scans.{AreFront}
use Rattle.ib_rule.specs.Pass.{PassState}
use Rattle.ib_cursor.specs.declared.fault.NowaitFault.{NowaitFault}
use Rattle.ib_cursor.specs.declared.position.Position.{Position}
use Rattle.ib_cursor.specs.Contention.{refused_latch}
use Rattle.ib_cursor.specs.Going.{IsKnown, WentOn}
use Rattle.ib_cursor.specs.Refusals.{AreFewLooks, WasRefusedIn, looks_of}
use Rattle.ib_scan.specs.Scanning.{Appends, AreHeld}
use Rattle.ib_scan.specs.Steps.{HasRunToStop}
use Rattle.ib_scan.specs.Walked.{IsReadOf, IsWalked, ReadLeaf}
use Rattle.ib_scan_nowait.specs.declared.halt.Halt.{Halt}
use Rattle.ib_scan_nowait.specs.declared.halt.Halt.TheVariants.{NoRoom, Refused}
use Rattle.ib_scan_nowait.specs.Halts.{IsLeafToCome}

-- a leaf with the image that was read, and a leaf as it is after the log
abbrev pub read_on : ℕ → List ℕ → ReadLeaf
read_on page image = record { page = page; image = image }

abbrev pub leaf_after : (ℕ → ℕ) → List Entry → ℕ → ReadLeaf
leaf_after opening log page = read_on page (image_of (memory_after opening log) page)

-- the leaf behind the one on which a scan stands was refused: in the tree after all seen it is behind it still, and the leaves that are held are as they were read
pub record IsNextRefused (sizes : Sizes) (lawful : List Entry → Type 0) (opening : ℕ → ℕ) (roots root : ℕ) (start : MapKey) (ps : List ReadLeaf) (last : ReadLeaf) (fault : NowaitFault) (p q : PassState) : Type 0 where
  pub went : WentOn p q
  pub known : IsKnown sizes lawful q
  pub grants : q.view.grants ≡ p.view.grants
  pub at : refused_latch fault ≡ next_of last.image + 2
  pub refused : WasRefusedIn S fault p.view.looks q.view.looks
  pub few : AreFewLooks (looks_of fault) p.view q.view
  pub walked : IsWalked roots opening q.view.memory.seen root start (ps ++ last ∷ []) (leaf_after opening q.view.memory.seen (next_of last.image))

-- a leaf was refused on the way to the one that gives the chunk from `start`, and the leaf from which the scan went on is as it was read
pub record IsRefusedFrom (sizes : Sizes) (lawful : List Entry → Type 0) (opening : ℕ → ℕ) (root : ℕ) (start : MapKey) (from : ReadLeaf) (fault : NowaitFault) (p q : PassState) : Type 0 where
  pub went : WentOn p q
  pub known : IsKnown sizes lawful q
  pub least : p.view.grants.s ≤ q.view.grants.s
  pub s : q.view.grants.s ≤ p.view.grants.s + 4095
  pub sx : q.view.grants.sx ≡ p.view.grants.sx
  pub x : q.view.grants.x ≡ p.view.grants.x
  pub refused : WasRefusedIn S fault p.view.looks q.view.looks
  pub few : AreFewLooks (looks_of fault) p.view q.view
  pub to_come : IsLeafToCome (pages_after opening q.view.memory.seen) root start (refused_latch fault)
  pub still : IsReadOf opening q.view.memory.seen from

-- the loop came to a chunk that finds no room, as one that keeps some position, with two looks at most for each grant
pub record HasRunToFull (sizes : Sizes) (lawful : List Entry → Type 0) (opening : ℕ → ℕ) (roots root begun : ℕ) (low high next : MapKey) (out new : HeldChunks) (p q : PassState) : Type 0 where
  pub kept : Position
  pub run : HasRunToStop sizes lawful opening roots root begun low high (record { next = next; kept = kept }) out new p q
  pub few : AreFewLooks 0 p.view q.view

-- .. or to a leaf that was refused, with a chunk place spare
pub record HasRunToRefusal (sizes : Sizes) (lawful : List Entry → Type 0) (opening : ℕ → ℕ) (root : ℕ) (low high next : MapKey) (fault : NowaitFault) (out new : HeldChunks) (p q : PassState) : Type 0 where
  pub spans : List Span
  pub appends : Appends out new spans
  pub short : AllByRecursion (λ span. length span.pairs ≤ MOST_RECORDS) spans
  pub went : WentOn p q
  pub known : IsKnown sizes lawful q
  pub least : p.view.grants.s ≤ q.view.grants.s
  pub s : q.view.grants.s ≤ p.view.grants.s + 8192 * length spans + 4095
  pub sx : q.view.grants.sx ≡ p.view.grants.sx
  pub x : q.view.grants.x ≡ p.view.grants.x
  pub last : ℕ
  pub chunks : AreFront opening q.view.memory.seen root low high (length p.view.memory.seen) spans next last
  pub held : AreHeld opening q.view.memory.seen root high spans (length q.view.memory.seen)
  pub within : last ≤ length q.view.memory.seen
  pub from : rank low ≤ rank next
  pub to : rank next ≤ rank high
  pub none : next ≡ low → spans ≡ []
  pub refused : WasRefusedIn S fault p.view.looks q.view.looks
  pub few : AreFewLooks (looks_of fault) p.view q.view
  pub to_come : IsLeafToCome (pages_after opening q.view.memory.seen) root next (refused_latch fault)
  pub spare : 0 < new.chunk_room

abbrev pub HasRunTo : Sizes → (List Entry → Type 0) → (ℕ → ℕ) → ℕ → ℕ → ℕ → MapKey → MapKey → Halt → HeldChunks → HeldChunks → PassState → PassState → Type 0
HasRunTo sizes lawful opening roots root begun low high (NoRoom next) out new p q = HasRunToFull sizes lawful opening roots root begun low high next out new p q
HasRunTo sizes lawful opening roots root begun low high (Refused next fault) out new p q = HasRunToRefusal sizes lawful opening root low high next fault out new p q
