-- What a whole scan asks for, and how it went.
use Rattle.std.specs.Prelude.{ℕ, ◌+◌, ◌*◌, List, length}
use Rattle.ib_map.specs.Keys.{MapKey}
use Rattle.ib_map.specs.Chunks.{HeldChunks}
use Rattle.ib_map.specs.Replies.{Span, full_record}
use Rattle.ib_map.specs.declared.call.Call.TheVariants.{Scan}
use Rattle.ib_map.specs.declared.call.Record.{Record}
use Rattle.ib_map.specs.declared.call.Reply.TheVariants.{Scanned}
use Rattle.ib_layout.specs.Geometry.{Sizes}
use Rattle.ib_logrec.specs.declared.entry.Entry.{Entry}
use Rattle.ib_tree.specs.Fits.{FitsLog}
use Rattle.ib_tree.specs.Scans.{AreWhole}
use Rattle.ib_rule.specs.Conditions.{HasGrantsLeft}
use Rattle.ib_rule.specs.declared.readers.TheConstants.{CHUNK_GRANTS}
use Rattle.ib_rule.specs.Pass.{PassState, IsAtRest}
use Rattle.ib_rule.specs.Space.{SpaceState}
use Rattle.ib_cursor.specs.Spaces.{space_of}
use Rattle.ib_scan.specs.Scanning.{AreHeld, HasGone}

-- a scan may be made: the pass is at rest, and may take as many grants more as a scan takes at most for each chunk place, and for one more
pub record MayScan (space : SpaceState) (out : HeldChunks) (p : PassState) : Type 0 where
  pub rest : IsAtRest space p
  pub room : HasGrantsLeft (CHUNK_GRANTS * out.chunk_room + CHUNK_GRANTS) p.view

-- all chunks were appended
pub record HasAll (sizes : Sizes) (lawful : List Entry → Type 0) (opening : ℕ → ℕ) (root : ℕ) (low high : MapKey) (out new : HeldChunks) (p q : PassState) : Type 0 where
  pub gone : HasGone sizes lawful out new p q
  pub chunks : AreWhole opening q.view.memory.seen root low high gone.first gone.spans (length q.view.memory.seen)
  pub held : AreHeld opening q.view.memory.seen root high gone.spans (length q.view.memory.seen)

-- the answer to a scan
abbrev pub scan_answer : MapKey → MapKey → ℕ → ℕ → ℕ → Record
scan_answer low high chunks pairs place = record { call = Scan low high; reply = Scanned chunks pairs; place = place }

-- the record with these chunks fits what is seen, by the map and by the first tree
abbrev pub FitsSeen : Sizes → (ℕ → ℕ) → Record → List Span → PassState → PassState → Type 0
FitsSeen sizes opening answer spans p q = FitsLog (space_of sizes opening) q.view.memory.seen q.number (length p.view.memory.seen) (full_record answer spans)
