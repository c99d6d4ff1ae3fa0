-- The steps of a scan.
use Rattle.std.specs.Prelude.{◌≡◌, ◌⊎◌, ℕ, ◌+◌, ◌*◌, ◌<◌, ◌≤◌, true, List, [], ◌∷◌, ◌++◌, length, take, Some}
use Rattle.std.specs.List.{AllByRecursion}
use Rattle.ib_map.specs.Keys.{MapKey, rank}
use Rattle.ib_map.specs.Chunks.{HeldChunks}
use Rattle.ib_map.specs.Replies.{Span}
use Rattle.ib_levels.specs.declared.level.Mode.TheVariants.{S}
use Rattle.ib_layout.specs.Geometry.{Sizes}
use Rattle.ib_heap.specs.declared.TheConstants.{MOST_RECORDS}
use Rattle.ib_page.specs.Image.{next_of}
use Rattle.ib_page.specs.Work.{WorkPage}
use Rattle.ib_logrec.specs.declared.entry.Entry.{Entry}
use Rattle.ib_logrec.specs.Log.{memory_after}
use Rattle.ib_walk.specs.Words.{image_of}
use Rattle.ib_tree.specs.Scans.{AreFront, AreWhole}
use Rattle.ib_rule.specs.Conditions.{HasGrantLeft, HasGrantsLeft}
use Rattle.ib_rule.specs.Pass.{PassState}
use Rattle.ib_rule.specs.Views.{is_watched, with_grant}
use Rattle.ib_cursor.specs.Grants.{Grant, page_grant, HasGrants, IsAway}
use Rattle.ib_cursor.specs.Going.{IsKnown, WentOn}
use Rattle.ib_scan.specs.declared.walk.Found.{Found}
use Rattle.ib_scan.specs.declared.walk.Stop.{Stop}
use Rattle.ib_scan.specs.Leaves.{GoesOver, GoesToLast, GoesToStop}
use Rattle.ib_scan.specs.Scanning.{Appends, AreHeld, HasNoRoom, IsGivenBy}
use Rattle.ib_scan.specs.Stored.{IsKept, GaveLast}
use Rattle.ib_scan.specs.Walked.{ReadLeaf, first_read, IsSkipped, EndsBy, IsScanning}

-- the leaf on which a scan stands may be passed over: the next one is what its link names
pub record MayPass (sizes : Sizes) (lawful : List Entry → Type 0) (opening : ℕ → ℕ) (roots leaf next : ℕ) (p : PassState) : Type 0 where
  pub root : ℕ
  pub start : MapKey
  pub ps : List ReadLeaf
  pub last : ReadLeaf
  pub scans : IsScanning sizes lawful opening roots root start ps last p
  pub here : last.page ≡ leaf
  pub link : next ≡ next_of last.image
  pub skipped : IsSkipped start last.image
  pub room : HasGrantLeft p.view

-- it was passed over: the scan stands on the next one, and all that were held are held still. No more are held than there are pages
pub record HasPassed (sizes : Sizes) (lawful : List Entry → Type 0) (opening : ℕ → ℕ) (roots root : ℕ) (start : MapKey) (ps : List ReadLeaf) (last : ReadLeaf) (p q : PassState) : Type 0 where
  pub out : List ℕ
  pub scans : IsScanning sizes lawful opening roots root start (ps ++ last ∷ []) (record { page = next_of last.image; image = out }) q
  pub few : length ps + 2 ≤ sizes.pages
  pub went : WentOn p q
  pub grants : q.view.grants ≡ with_grant (Some S) p.view.grants

-- a scan stands on a leaf and holds no other, with room for as many grants as there are pages
pub record IsOnLeaf (sizes : Sizes) (lawful : List Entry → Type 0) (opening : ℕ → ℕ) (roots leaf : ℕ) (start : MapKey) (p : PassState) : Type 0 where
  pub root : ℕ
  pub image : List ℕ
  pub scans : IsScanning sizes lawful opening roots root start [] (record { page = leaf; image = image }) p
  pub room : HasGrantsLeft 4096 p.view

-- a leaf as it is loaded, unchanged
abbrev pub loaded_as : ReadLeaf → WorkPage
loaded_as l = record { page = l.page; before = l.image; changed = l.image }

-- it has gone on to this leaf, and holds so many that it passed over, the first of which was loaded at the start
pub record IsAlong (sizes : Sizes) (lawful : List Entry → Type 0) (opening : ℕ → ℕ) (roots root : ℕ) (start : MapKey) (leaf passed : ℕ) (p q : PassState) : Type 0 where
  pub ps : List ReadLeaf
  pub last : ReadLeaf
  pub here : last.page ≡ leaf
  pub count : length ps ≡ passed
  pub few : passed < 4096
  pub begins : p.work ≡ loaded_as (first_read ps last) ∷ []
  pub scans : IsScanning sizes lawful opening roots root start ps last q
  pub went : WentOn p q
  pub s : q.view.grants.s ≡ p.view.grants.s + passed
  pub sx : q.view.grants.sx ≡ p.view.grants.sx
  pub x : q.view.grants.x ≡ p.view.grants.x

-- .. to the leaf that gives the chunk
pub record HasReachedEnd (sizes : Sizes) (lawful : List Entry → Type 0) (opening : ℕ → ℕ) (roots root : ℕ) (start high : MapKey) (found : Found) (p q : PassState) : Type 0 where
  pub along : IsAlong sizes lawful opening roots root start found.leaf found.passed p q
  pub ends : EndsBy start high found.end along.last.image

-- each latch is that of one grant alone
abbrev pub AreApart : List Grant → Type 0
AreApart [] = Unit {0}
AreApart (g ∷ gs) = IsAway g.latch gs × AreApart gs

-- a leaf is held behind so many grants, and it alone is loaded, unchanged
pub record HasFront (count leaf : ℕ) (image : List ℕ) (p : PassState) : Type 0 where
  pub front : List Grant
  pub size : length front ≡ count
  pub grants : HasGrants (front ++ page_grant leaf S ∷ []) p
  pub apart : AreApart (front ++ page_grant leaf S ∷ [])
  pub watched : is_watched (leaf + 2) p.view.memory.since ≡ true
  pub work : p.work ≡ record { page = leaf; before = image; changed = image } ∷ []

-- .. some leaf
pub record HasSomeFront (count : ℕ) (p : PassState) : Type 0 where
  pub leaf : ℕ
  pub image : List ℕ
  pub front : HasFront count leaf image p

-- what leaves the memory of the log and the counts as they are
pub record IsAside (p q : PassState) : Type 0 where
  pub table : q.table ≡ p.table
  pub sizes : q.sizes ≡ p.sizes
  pub number : q.number ≡ p.number
  pub own : q.view.memory.own ≡ p.view.memory.own
  pub seen : q.view.memory.seen ≡ p.view.memory.seen
  pub ends : q.view.memory.ends ≡ p.view.memory.ends
  pub grants : q.view.grants ≡ p.view.grants

-- a scan was begun, from where the pass had this state: it stands on a leaf from which it goes on at a key, and few grants of S were taken
pub record HasBegun (sizes : Sizes) (lawful : List Entry → Type 0) (opening : ℕ → ℕ) (roots root : ℕ) (start : MapKey) (leaf : ℕ) (p q : PassState) : Type 0 where
  pub image : List ℕ
  pub scans : IsScanning sizes lawful opening roots root start [] (record { page = leaf; image = image }) q
  pub went : WentOn p q
  pub looked : 0 < length went.added
  pub least : p.view.grants.s + 1 ≤ q.view.grants.s
  pub s : q.view.grants.s ≤ p.view.grants.s + 10
  pub sx : q.view.grants.sx ≡ p.view.grants.sx
  pub x : q.view.grants.x ≡ p.view.grants.x

-- two grants of S at least were taken
pub record TookTwo (p q : PassState) : Type 0 where
  pub s : p.view.grants.s + 2 ≤ q.view.grants.s

-- how far a scan of the tree has come, from where it stood on its first leaf: chunks are appended up to what is before `start`, and one grant of S was taken of each leaf behind that one, up to the leaf on which it stands
pub record IsUpTo (sizes : Sizes) (lawful : List Entry → Type 0) (opening : ℕ → ℕ) (root begun leaf : ℕ) (low start high : MapKey) (out new : HeldChunks) (p q : PassState) : Type 0 where
  pub spans : List Span
  pub appends : Appends out new spans
  pub short : AllByRecursion (λ span. length span.pairs ≤ MOST_RECORDS) spans
  pub went : WentOn p q
  pub known : IsKnown sizes lawful q
  pub count : ℕ
  pub over : GoesOver opening q.view.memory.seen root high begun spans leaf count
  pub taken : q.view.grants.s ≡ p.view.grants.s + count
  pub s : q.view.grants.s + 8192 * new.chunk_room ≤ p.view.grants.s + 8192 * out.chunk_room
  pub sx : q.view.grants.sx ≡ p.view.grants.sx
  pub x : q.view.grants.x ≡ p.view.grants.x
  pub last : ℕ
  pub chunks : AreFront opening q.view.memory.seen root low high (length p.view.memory.seen) spans start last
  pub within : last ≤ length q.view.memory.seen
  pub to : rank start ≤ rank high
  pub first : ((spans ≡ []) × (start ≡ low) × (new ≡ out) × (q.view.memory.seen ≡ p.view.memory.seen)) ⊎ (rank low < rank start)

-- the leaf with this image gave the last of these chunks, at the end of what is seen, and all before it were held
pub record HasLast (opening : ℕ → ℕ) (log : List Entry) (root leaf : ℕ) (image : List ℕ) (high : MapKey) (spans : List Span) : Type 0 where
  pub before : List Span
  pub last : Span
  pub are : spans ≡ before ++ last ∷ []
  pub held : AreHeld opening log root high before last.place
  pub placed : last.place ≡ length log
  pub given : IsGivenBy opening (take last.place log) root leaf high last
  pub read : image ≡ image_of (memory_after opening (take last.place log)) leaf

-- .. and it stands on this leaf, which gave the last chunk if there is one
pub record IsScannedTo (sizes : Sizes) (lawful : List Entry → Type 0) (opening : ℕ → ℕ) (roots root begun leaf : ℕ) (low start high : MapKey) (out new : HeldChunks) (p q : PassState) : Type 0 where
  pub up_to : IsUpTo sizes lawful opening root begun leaf low start high out new p q
  pub image : List ℕ
  pub scans : IsScanning sizes lawful opening roots root start [] (record { page = leaf; image = image }) q
  pub on : (up_to.spans ≡ []) ⊎ HasLast opening q.view.memory.seen root leaf image high up_to.spans
  pub room : HasGrantsLeft (8192 * new.chunk_room + 8182) q.view

-- how the loop went: the chunks are appended, few grants more were taken for each, and one leaf alone is held
pub record HasRun (sizes : Sizes) (lawful : List Entry → Type 0) (out new : HeldChunks) (spans : List Span) (p q : PassState) : Type 0 where
  pub appends : Appends out new spans
  pub short : AllByRecursion (λ span. length span.pairs ≤ MOST_RECORDS) spans
  pub went : WentOn p q
  pub known : IsKnown sizes lawful q
  pub least : p.view.grants.s ≤ q.view.grants.s
  pub s : q.view.grants.s ≤ p.view.grants.s + 8192 * length spans + 8182
  pub sx : q.view.grants.sx ≡ p.view.grants.sx
  pub x : q.view.grants.x ≡ p.view.grants.x
  pub leaf : ℕ
  pub image : List ℕ
  pub front : HasFront 0 leaf image q

-- .. to the end, and one grant was taken of each leaf behind the first one up to the last
pub record HasRunToEnd (sizes : Sizes) (lawful : List Entry → Type 0) (opening : ℕ → ℕ) (root begun : ℕ) (low high : MapKey) (out new : HeldChunks) (p q : PassState) : Type 0 where
  pub spans : List Span
  pub run : HasRun sizes lawful out new spans p q
  pub chunks : AreWhole opening q.view.memory.seen root low high (length p.view.memory.seen) spans (length q.view.memory.seen)
  pub held : AreHeld opening q.view.memory.seen root high spans (length q.view.memory.seen)
  pub count : ℕ
  pub over : GoesToLast opening q.view.memory.seen root high begun spans count
  pub taken : q.view.grants.s ≡ p.view.grants.s + count

-- .. or up to a chunk that does not fit: then a position is kept of the leaf that gave the last chunk, or where there was none of the first leaf
pub record HasRunToStop (sizes : Sizes) (lawful : List Entry → Type 0) (opening : ℕ → ℕ) (roots root begun : ℕ) (low high : MapKey) (stop : Stop) (out new : HeldChunks) (p q : PassState) : Type 0 where
  pub spans : List Span
  pub run : HasRun sizes lawful out new spans p q
  pub last : ℕ
  pub chunks : AreFront opening q.view.memory.seen root low high (length p.view.memory.seen) spans stop.next last
  pub held : AreHeld opening q.view.memory.seen root high spans (length q.view.memory.seen)
  pub within : last ≤ length q.view.memory.seen
  pub from : rank low ≤ rank stop.next
  pub to : rank stop.next ≤ rank high
  pub none : stop.next ≡ low → spans ≡ []
  pub tight : HasNoRoom opening q.view.memory.seen root stop.next high new
  pub ahead : 1 ≤ out.chunk_room → MOST_RECORDS ≤ out.pair_room → rank low < rank stop.next
  pub count : ℕ
  pub over : GoesToStop opening q.view.memory.seen root stop.next high begun spans new count
  pub taken : q.view.grants.s ≡ p.view.grants.s + count
  pub keeps : IsKept lawful opening roots root stop.next q.view.memory.seen stop.kept
  pub of : ((spans ≡ []) × (stop.kept.page ≡ begun) × (stop.kept.place ≡ length p.view.memory.seen)) ⊎ GaveLast opening q.view.memory.seen root stop.kept high spans
