-- What a call of the index asks for, and what it leaves.
use Rattle.std.specs.Prelude.{◌≡◌, ℕ, ◌≤◌, Bool, true, false, List, [], ◌∷◌, ◌++◌, length}
use Rattle.std.specs.List.{AllByRecursion}
use Rattle.ib_map.specs.Map.{is_made}
use Rattle.ib_map.specs.Replies.{FullRecord, full_record}
use Rattle.ib_map.specs.Runs.{reach_after}
use Rattle.ib_map.specs.declared.call.Call.{Call}
use Rattle.ib_map.specs.declared.call.Record.{Record}
use Rattle.ib_layout.specs.Geometry.{Sizes}
use Rattle.ib_logrec.specs.declared.entry.Entry.{Entry}
use Rattle.ib_logrec.specs.Log.{by_place}
use Rattle.ib_tree.specs.Fits.{FitsLog}
use Rattle.ib_tree.specs.TreeLog.{opening}
use Rattle.ib_planned_log.specs.Kept.{IsKeptLog}
use Rattle.ib_rule.specs.Conditions.{HasGrantsLeft}
use Rattle.ib_rule.specs.declared.readers.TheConstants.{CALL_GRANTS}
use Rattle.ib_rule.specs.Pass.{PassState, IsAtRest}
use Rattle.ib_rule.specs.Space.{SpaceState}
use Rattle.ib_cursor.specs.Going.{IsKnown}
use Rattle.ib_cursor.specs.Spaces.{space_of}

-- a call may be made: the pass is at rest, and may take as many grants more as a call takes at most
pub record MayCall (space : SpaceState) (p : PassState) : Type 0 where
  pub rest : IsAtRest space p
  pub room : HasGrantsLeft CALL_GRANTS p.view

-- a session's own entries after a call that made a change: one more, which stands last in the log; and after any other they are as before
abbrev pub MakesOwn : Bool → List Entry → List Entry → List Entry → Type 0
MakesOwn true seen old new = (front : List Entry) × (e : Entry) × (seen ≡ front ++ e ∷ []) × (new ≡ old ++ e ∷ [])
MakesOwn false seen old new = new ≡ old

-- A call was answered. What had been seen is the front of what is seen now, which is lawful, and which the answer fits, as this says when
-- a record of a session that had seen so much fits a log; the answer stands at a place no earlier than what had been seen, nor than the
-- first end of the log that the call found; what is seen now ends with the answer; and the session made what the answer says.
pub record HasCalledBy (fits_log : List Entry → ℕ → ℕ → FullRecord → Type 0) (sizes : Sizes) (lawful : List Entry → Type 0) (call : Call) (answer : Record) (p q : PassState) : Type 0 where
  pub table : q.table ≡ p.table
  pub sizes_are : q.sizes ≡ p.sizes
  pub number : q.number ≡ p.number
  pub more : List Entry
  pub seen : q.view.memory.seen ≡ p.view.memory.seen ++ more
  pub known : IsKnown sizes lawful q
  pub first : ℕ
  pub rest : List ℕ
  pub ends : q.view.memory.ends ≡ p.view.memory.ends ++ first ∷ rest
  pub bounds : AllByRecursion (λ n. (length p.view.memory.seen ≤ n) × (n ≤ length q.view.memory.seen)) (first ∷ rest)
  pub call_is : answer.call ≡ call
  pub from : length p.view.memory.seen ≤ answer.place
  pub looked : first ≤ answer.place
  pub reach : length q.view.memory.seen ≡ reach_after (full_record answer [])
  pub fits : fits_log q.view.memory.seen q.number (length p.view.memory.seen) (full_record answer [])
  pub own : MakesOwn (is_made answer.reply) q.view.memory.seen p.view.memory.own q.view.memory.own

-- .. and it fits the log by the map and by the first tree
abbrev pub HasCalled : Sizes → (List Entry → Type 0) → (ℕ → ℕ) → Call → Record → PassState → PassState → Type 0
HasCalled sizes lawful opening call answer p q = HasCalledBy (FitsLog (space_of sizes opening)) sizes lawful call answer p q

-- under what a call is answered: when a record of a session that had seen so much fits a log, which logs are lawful, and the words of all pages before the first entry
pub record CallLaw : Type 1 where
  pub fits : List Entry → ℕ → ℕ → FullRecord → Type 0
  pub lawful : List Entry → Type 0
  pub start : ℕ → ℕ

-- .. of one tree
abbrev pub tree_calls : Sizes → CallLaw
tree_calls sizes = let start = by_place opening sizes.pages in record { fits = FitsLog (space_of sizes start); lawful = IsKeptLog sizes.pages; start = start }
