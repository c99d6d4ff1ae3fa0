-- Scans that keep their position from call to call.
use Rattle.std.specs.Prelude.{◌≡◌, ◌≢◌, ◌⊎◌, ℕ, ◌+◌, ◌≤◌, false, List, [], ◌∷◌, ◌++◌, take, drop, Option, Some, None}
use Rattle.std.specs.List.{AllByRecursion}
use Rattle.ib_map.specs.Chunks.{HeldChunks}
use Rattle.ib_map.specs.Keys.{MapKey, rank}
use Rattle.ib_map.specs.Replies.{Span}
use Rattle.ib_map.specs.Writes.{touches}
use Rattle.ib_map.specs.declared.call.Record.{Record}
use Rattle.ib_layout.specs.Geometry.{Sizes}
use Rattle.ib_logrec.specs.declared.entry.Entry.{Entry}
use Rattle.ib_walk.specs.Search.{leaf_for}
use Rattle.ib_tree.specs.Logs.{pages_after}
use Rattle.ib_rule.specs.Pass.{PassState}
use Rattle.ib_cursor.specs.declared.position.Position.{Position}
use Rattle.ib_cursor.specs.Positions.{IsPosition}
use Rattle.ib_scan.specs.declared.stored.Stored.{Stored}
use Rattle.ib_scan.specs.Scanning.{IsGivenBy, HasScanned, HasStopped}
use Rattle.ib_scan.specs.Scans.{HasAll}
use Rattle.ib_scan.specs.Leaves.{GoesToLast, GoesToStop}

-- a position from which a scan of the tree of a root goes on at a key: its page was a leaf of that tree, with a range that begins not above the key
pub record IsKept (lawful : List Entry → Type 0) (opening : ℕ → ℕ) (roots root : ℕ) (next : MapKey) (seen : List Entry) (at : Position) : Type 0 where
  pub position : IsPosition lawful opening roots seen at
  pub tree : position.range.root ≡ root
  pub low : position.range.low ≤ rank next

-- what a scan of the first tree keeps is a position from which it goes on
abbrev pub KeepsPosition : Sizes → (List Entry → Type 0) → (ℕ → ℕ) → ℕ → Stored → PassState → Type 0
KeepsPosition sizes lawful opening roots stored p = (at : Position) → stored.position ≡ Some at → IsKept lawful opening roots 1 stored.next p.view.memory.seen at

-- it may go on: not all was scanned
pub record MayGoOn (sizes : Sizes) (lawful : List Entry → Type 0) (opening : ℕ → ℕ) (roots : ℕ) (stored : Stored) (p : PassState) : Type 0 where
  pub unfinished : stored.finished ≡ false
  pub keeps : KeepsPosition sizes lawful opening roots stored p

-- no entry seen from a position's place on writes its page
abbrev pub IsUnwritten : Position → List Entry → Type 0
IsUnwritten at seen = AllByRecursion (λ e. touches at.page e.writes ≡ false) (drop at.place seen)

-- the leaf on which a call begins, after these entries: the one that was kept, where its clock is the stored one, else the key's leaf in the first tree
abbrev pub IsBegunOn : (ℕ → ℕ) → List Entry → MapKey → Option Position → ℕ → Type 0
IsBegunOn opening log next None leaf = leaf ≡ leaf_for (pages_after opening log) next 1
IsBegunOn opening log next (Some at) leaf =
    (((pages_after opening log at.page).clock ≡ at.clock) × (leaf ≡ at.page)) ⊎ (((pages_after opening log at.page).clock ≢ at.clock) × (leaf ≡ leaf_for (pages_after opening log) next 1))

-- the leaf of this position gave the last of these chunks, and the position is at that chunk's place
pub record GaveLast (opening : ℕ → ℕ) (log : List Entry) (root : ℕ) (kept : Position) (high : MapKey) (spans : List Span) : Type 0 where
  pub before : List Span
  pub last : Span
  pub are : spans ≡ before ++ last ∷ []
  pub placed : kept.place ≡ last.place
  pub given : IsGivenBy opening (take last.place log) root kept.page high last

-- all chunks from where a scan went on were appended. Where the kept leaf was not written since, one grant of S was taken of it, and one of each leaf behind it, up to that of the last chunk
pub record HasAllOn (sizes : Sizes) (lawful : List Entry → Type 0) (opening : ℕ → ℕ) (stored : Stored) (out new : HeldChunks) (p q : PassState) : Type 0 where
  pub all : HasAll sizes lawful opening 1 stored.next stored.high out new p q
  pub grants : (at : Position) → stored.position ≡ Some at → IsUnwritten at q.view.memory.seen
      → (count : ℕ) × GoesToLast opening q.view.memory.seen 1 stored.high at.page all.gone.spans count × (q.view.grants.s ≡ p.view.grants.s + 1 + count)

-- .. with this answer
pub record HasScannedOn (sizes : Sizes) (lawful : List Entry → Type 0) (opening : ℕ → ℕ) (stored : Stored) (answer : Record) (out new : HeldChunks) (p q : PassState) : Type 0 where
  pub scanned : HasScanned sizes lawful opening 1 stored.next stored.high answer out new p q
  pub grants : (at : Position) → stored.position ≡ Some at → IsUnwritten at q.view.memory.seen
      → (count : ℕ) × GoesToLast opening q.view.memory.seen 1 stored.high at.page scanned.gone.spans count × (q.view.grants.s ≡ p.view.grants.s + 1 + count)

-- .. up to a chunk that does not fit. A position is kept from which the scan goes on there: it is of the leaf that gave the last chunk, at that chunk's place, or where there was none of the leaf on which the call began, at a place since its first look at the log's end. Where the leaf kept before was not written since, one grant of S was taken of it, and one of each leaf behind it, up to that of the last chunk where no chunk place is spare, else up to that of the chunk that does not fit
pub record HasStoppedOn (sizes : Sizes) (lawful : List Entry → Type 0) (opening : ℕ → ℕ) (roots : ℕ) (stored : Stored) (next : MapKey) (kept : Position) (out new : HeldChunks) (p q : PassState) : Type 0 where
  pub stopped : HasStopped sizes lawful opening 1 stored.next stored.high next out new p q
  pub keeps : IsKept lawful opening roots 1 next q.view.memory.seen kept
  pub of : ((stopped.gone.spans ≡ []) × (stopped.gone.first ≤ kept.place) × IsBegunOn opening (take kept.place q.view.memory.seen) stored.next stored.position kept.page) ⊎ GaveLast opening q.view.memory.seen 1 kept stored.high stopped.gone.spans
  pub grants : (at : Position) → stored.position ≡ Some at → IsUnwritten at q.view.memory.seen
      → (count : ℕ) × GoesToStop opening q.view.memory.seen 1 next stored.high at.page stopped.gone.spans new count × (q.view.grants.s ≡ p.view.grants.s + 1 + count)

-- .. and the scan is left so: it goes on at that key, from that position
pub record IsLeftAt (sizes : Sizes) (lawful : List Entry → Type 0) (opening : ℕ → ℕ) (roots : ℕ) (stored left : Stored) (next : MapKey) (out new : HeldChunks) (p q : PassState) : Type 0 where
  pub kept : Position
  pub left_is : left ≡ record stored { next = next; position = Some kept }
  pub stopped : HasStoppedOn sizes lawful opening roots stored next kept out new p q
