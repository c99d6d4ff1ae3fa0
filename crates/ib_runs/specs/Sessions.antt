-- What a session's run leaves.
use Rattle.std.specs.Prelude.{◌≡◌, ℕ, ◌+◌, ◌<◌, ◌≤◌, All, Bool, nat_le, if◌then◌else◌, List, [], ◌∷◌, ◌++◌, length, map, sum_by, None}
use Rattle.std.specs.List.{AllByRecursion, concat, filter_map}
use Rattle.ib_map.specs.Keys.{rank}
use Rattle.ib_map.specs.Replies.{FullRecord, change_of}
use Rattle.ib_map.specs.Runs.{reach_after, reach_of, AreAnswers, change_made}
use Rattle.ib_map.specs.declared.call.Call.{Call}
use Rattle.ib_map.specs.declared.call.Call.TheVariants.{Get, Scan}
use Rattle.ib_map.specs.declared.call.Change.{Change}
use Rattle.ib_layout.specs.Geometry.{Sizes}
use Rattle.ib_logrec.specs.declared.entry.Entry.{Entry}
use Rattle.ib_logrec.specs.Log.{by_place}
use Rattle.ib_tree.specs.Fits.{TreeSpace}
use Rattle.ib_tree.specs.TreeLog.{opening}
use Rattle.ib_rule.specs.Pass.{PassState}
use Rattle.ib_rule.specs.Views.{total}
use Rattle.ib_cursor.specs.Going.{IsKnown}
use Rattle.ib_cursor.specs.Spaces.{space_of}
use Rattle.ib_leaf.specs.Calls.{CallLaw}
use Rattle.ib_script.specs.Script.{scan_count}
use Rattle.ib_script.specs.declared.script_line.TheConstants.{MOST_COMMANDS, MOST_SCANS}
use Rattle.ib_runs.specs.Answers.{calls_in}

-- the space of an index: its pages are those of a new space at the start
abbrev pub index_space : Sizes → TreeSpace
index_space sizes = space_of sizes (by_place opening sizes.pages)

-- the changes of entries
abbrev pub changes_in : List Entry → List Change
changes_in es = map (λ e. e.change) es

-- all calls of a script are such as are taken
abbrev pub AreTaken : (Call → Type 0) → List (List Call) → Type 0
AreTaken takes commands = All (All takes) commands

-- a session has no more commands than a script may have, and no more scans
pub record AreFew (calls : List Call) : Type 0 where
  pub commands : length calls ≤ MOST_COMMANDS
  pub scans : scan_count calls ≤ MOST_SCANS

-- a scan takes fewer grants than these: 8,320 for each chunk, of which there are no more than a log can have entries, and those of one call more
abbrev pub most_scan_grants : ℕ
most_scan_grants = 35000000000

-- the most grants that a call may take, by whether it guesses first: a guess that is wrong costs one more
abbrev pub most_grants : Bool → Call → ℕ
most_grants guesses (Get key) = if guesses then 10 else 9
most_grants guesses (Scan low high) = most_scan_grants
most_grants guesses _ = if guesses then 129 else 128

-- the call asks for no change
abbrev pub IsRead : Call → Type 0
IsRead call = change_of call ≡ None

-- the fewest grants that a call takes: S of the index and of a leaf at least, for a lookup and for a scan with its low key not above its high one; S of the leaf alone for a lookup by a guess. Of a change nothing is said
abbrev pub least_grants : Bool → Call → ℕ
least_grants guesses (Get key) = if guesses then 1 else 2
least_grants guesses (Scan low high) = if nat_le (rank low) (rank high) then 2 else 0
least_grants guesses _ = 0

-- a scan with its low key above its high one
abbrev pub IsEmptyScan : Call → Type 0
IsEmptyScan (Scan low high) = rank high < rank low
IsEmptyScan _ = ⊥

-- a record's place, and those of its chunks
abbrev pub places_in : FullRecord → List ℕ
places_in r = r.place ∷ map (λ span. span.place) r.spans

-- These ends of the log were found for a record, by a session that had seen the log up to `reach`: each of them lies between that and what the
-- session has seen with the record, and no place of the record is before the first. None may be found of a scan with its low key above its high one alone.
abbrev pub IsBehind : ℕ → List ℕ → FullRecord → Type 0
IsBehind reach [] r = IsEmptyScan r.call
IsBehind reach (first ∷ rest) r = AllByRecursion (λ n. (reach ≤ n) × (n ≤ reach_after r)) (first ∷ rest) × AllByRecursion (λ n. first ≤ n) (places_in r)

-- each record stands with the ends of the log that its own call found: none before what the session has seen with the record before
abbrev pub EachIsBehind : ℕ → List (List ℕ) → List FullRecord → Type 0
EachIsBehind reach [] [] = Unit {0}
EachIsBehind reach (ends ∷ found) (r ∷ rs) = IsBehind reach ends r × EachIsBehind (reach_after r) found rs
EachIsBehind reach _ _ = ⊥

-- the ends of the log that were found from one state to another, in order, are those of each record's own call, and none lies beyond what is
-- seen
pub record AreBehind (rs : List FullRecord) (p q : PassState) : Type 0 where
  pub found : List (List ℕ)
  pub ends : q.view.memory.ends ≡ p.view.memory.ends ++ concat found
  pub within : AllByRecursion (λ n. n ≤ length q.view.memory.seen) (concat found)
  pub behind : EachIsBehind 0 found rs

-- A session that had seen nothing was answered: the records are of these calls, in order; each fits what is seen now, which is a lawful
-- log within its words, and ends where the records do; what the session made is what they say was made, in order; and no record is older
-- than what its own call found.
pub record HasAnswered (law : CallLaw) (sizes : Sizes) (calls : List Call) (rs : List FullRecord) (p q : PassState) : Type 0 where
  pub known : IsKnown sizes law.lawful q
  pub same_calls : calls_in rs ≡ calls
  pub answers : AreAnswers (law.fits q.view.memory.seen q.number) 0 rs
  pub reach : reach_of 0 rs ≡ length q.view.memory.seen
  pub made : changes_in q.view.memory.own ≡ filter_map change_made rs
  pub behind : AreBehind rs p q

-- no more grants were taken than the calls may take; and where none of them is a change, no fewer than they must
pub record TakesGrants (guesses : Bool) (calls : List Call) (p q : PassState) : Type 0 where
  pub most : total q.view.grants ≤ total p.view.grants + sum_by (most_grants guesses) calls
  pub least : AllByRecursion IsRead calls → total p.view.grants + sum_by (least_grants guesses) calls ≤ total q.view.grants
