-- What a scan leaves.
use Rattle.std.specs.Prelude.{◌≡◌, ◌⊎◌, ℕ, ◌+◌, ◌*◌, ◌<◌, ◌≤◌, List, [], ◌∷◌, ◌++◌, length, take}
use Rattle.std.specs.List.{AllByRecursion}
use Rattle.ib_map.specs.Keys.{MapKey, rank}
use Rattle.ib_map.specs.Pairs.{Pairs}
use Rattle.ib_map.specs.Chunks.{HeldChunks, spans_of}
use Rattle.ib_map.specs.Replies.{Span, pair_count}
use Rattle.ib_map.specs.Runs.{first_span_place}
use Rattle.ib_map.specs.declared.call.Call.TheVariants.{Scan}
use Rattle.ib_map.specs.declared.call.Record.{Record}
use Rattle.ib_map.specs.declared.call.Reply.TheVariants.{Scanned}
use Rattle.ib_map.specs.declared.chunks.Chunk.{Chunk}
use Rattle.ib_heap.specs.declared.TheConstants.{MOST_RECORDS}
use Rattle.ib_layout.specs.Geometry.{Sizes}
use Rattle.ib_logrec.specs.declared.entry.Entry.{Entry}
use Rattle.ib_walk.specs.Chunk.{IsChunk}
use Rattle.ib_tree.specs.Logs.{pages_after}
use Rattle.ib_tree.specs.Scans.{AreFront, AreWhole}
use Rattle.ib_rule.specs.Pass.{PassState}
use Rattle.ib_cursor.specs.Going.{IsKnown, WentOn}

-- chunks were appended behind those that were there, with their pairs; the room fell by as many
pub record Appends (old new : HeldChunks) (spans : List Span) : Type 0 where
  pub chunks : List Chunk
  pub list : new.list ≡ old.list ++ chunks
  pub behind : Pairs
  pub pairs : new.pairs ≡ old.pairs ++ behind
  pub spans_are : spans_of new.list new.pairs ≡ spans_of old.list old.pairs ++ spans
  pub chunk_room : new.chunk_room + length spans ≡ old.chunk_room
  pub pair_room : new.pair_room + pair_count spans ≡ old.pair_room

-- after these entries the tree of the root has this chunk of a scan up to `high`, and this leaf gives it
pub record IsGivenBy (opening : ℕ → ℕ) (log : List Entry) (root leaf : ℕ) (high : MapKey) (span : Span) : Type 0 where
  pub chunk : IsChunk (pages_after opening log) root span.low high span.high span.pairs
  pub page : chunk.leaf.page ≡ leaf

-- the leaf that gave a chunk is at a later place what it was at the chunk's own
pub record IsHeldTo (opening : ℕ → ℕ) (log : List Entry) (root : ℕ) (high : MapKey) (span : Span) (place : ℕ) : Type 0 where
  pub leaf : ℕ
  pub given : IsGivenBy opening (take span.place log) root leaf high span
  pub from : span.place ≤ place
  pub within : place ≤ length log
  pub same : pages_after opening (take place log) leaf ≡ pages_after opening (take span.place log) leaf

-- each chunk's leaf is held until the next chunk is read: it is at the next one's place what it was, and the last one's at `end`
abbrev pub AreHeld : (ℕ → ℕ) → List Entry → ℕ → MapKey → List Span → ℕ → Type 0
AreHeld opening log root high [] end = Unit {0}
AreHeld opening log root high (span ∷ spans) end = IsHeldTo opening log root high span (first_span_place spans end) × AreHeld opening log root high spans end

-- how a scan went: it changed nothing but what is seen and the grants of S that were ever taken, one more at least, and 8,192 at most for each chunk that was appended, and 8,192; `first` is the first end of the log that it found
pub record HasGone (sizes : Sizes) (lawful : List Entry → Type 0) (out new : HeldChunks) (p q : PassState) : Type 0 where
  pub spans : List Span
  pub appends : Appends out new spans
  pub short : AllByRecursion (λ span. length span.pairs ≤ MOST_RECORDS) spans
  pub went : WentOn p q
  pub first : ℕ
  pub rest : List ℕ
  pub looks : went.added ≡ first ∷ rest
  pub known : IsKnown sizes lawful q
  pub least : p.view.grants.s + 1 ≤ q.view.grants.s
  pub s : q.view.grants.s ≤ p.view.grants.s + 8192 * length spans + 8192
  pub sx : q.view.grants.sx ≡ p.view.grants.sx
  pub x : q.view.grants.x ≡ p.view.grants.x

-- all chunks from `low` to `high` were appended, each as the tree of the root was at its place, off a leaf that was held until the next one was read, and the place of the record is the last one's
pub record HasScanned (sizes : Sizes) (lawful : List Entry → Type 0) (opening : ℕ → ℕ) (root : ℕ) (low high : MapKey) (answer : Record) (out new : HeldChunks) (p q : PassState) : Type 0 where
  pub gone : HasGone sizes lawful out new p q
  pub chunks : AreWhole opening q.view.memory.seen root low high gone.first gone.spans (length q.view.memory.seen)
  pub held : AreHeld opening q.view.memory.seen root high gone.spans (length q.view.memory.seen)
  pub answer_is : answer ≡ record { call = Scan low high; reply = Scanned (length gone.spans) (pair_count gone.spans); place = length q.view.memory.seen }

-- the chunk that begins at this key, as the tree is after all seen, does not fit the room that is spare
pub record HasNoRoom (opening : ℕ → ℕ) (log : List Entry) (root : ℕ) (next high : MapKey) (out : HeldChunks) : Type 0 where
  pub end : MapKey
  pub pairs : Pairs
  pub chunk : IsChunk (pages_after opening log) root next high end pairs
  pub none : (out.chunk_room ≡ 0) ⊎ (out.pair_room < length pairs)

-- chunks from `low` up to what is before `next` were appended, and the next one does not fit
pub record HasStopped (sizes : Sizes) (lawful : List Entry → Type 0) (opening : ℕ → ℕ) (root : ℕ) (low high next : MapKey) (out new : HeldChunks) (p q : PassState) : Type 0 where
  pub gone : HasGone sizes lawful out new p q
  pub last : ℕ
  pub chunks : AreFront opening q.view.memory.seen root low high gone.first gone.spans next last
  pub held : AreHeld opening q.view.memory.seen root high gone.spans (length q.view.memory.seen)
  pub within : last ≤ length q.view.memory.seen
  pub from : rank low ≤ rank next
  pub to : rank next ≤ rank high
  pub none : next ≡ low → gone.spans ≡ []
  pub tight : HasNoRoom opening q.view.memory.seen root next high new
  -- with room for a leaf at the start it gets ahead
  pub ahead : 1 ≤ out.chunk_room → MOST_RECORDS ≤ out.pair_room → rank low < rank next
