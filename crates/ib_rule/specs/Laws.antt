-- The words of the laws of the rule.
use Rattle.std.specs.Prelude.{◌≡◌, ◌⊎◌, ℕ, ◌+◌, ◌*◌, ◌^◌, ◌<◌, ◌≤◌, List, [], ◌∷◌, map, length, slice_index, slice_index_or, true}
use mathlib.Core.Option.{some}
use lib.ListN.{get_elem?}
use Rattle.atomic_table.specs.Table.{State}
use Rattle.ib_layout.specs.Geometry.{Sizes}
use Rattle.ib_layout.specs.Places.{end_place, latches_of, log_place}
use Rattle.ib_core.specs.declared.event.Event.{Event}
use Rattle.ib_core.specs.declared.session.Session.{Session}
use Rattle.ib_core.specs.Responses.{latch_of}
use Rattle.ib_core.specs.Sessions.{holdings, x_grants}
use Rattle.ib_core.specs.Turns.{Leaves, word_for}
use Rattle.ib_logrec.specs.declared.entry.Entry.{Entry}
use Rattle.ib_logrec.specs.Log.{log_words, used}
use Rattle.ib_rule.specs.declared.memory.OpenAppend.{OpenAppend}
use Rattle.ib_rule.specs.declared.memory.Since.{Since}
use Rattle.ib_rule.specs.declared.view.View.{View}
use Rattle.ib_rule.specs.Memory.{IsStable, has, latch_at}
use Rattle.ib_rule.specs.Roles.{live}
use Rattle.ib_rule.specs.Rule.{RuleHolds}
use Rattle.ib_rule.specs.Steps.{latch_word_place}
use Rattle.ib_rule.specs.Views.{session_in_view}

-- the sessions of all seats, of which those that are no session's hold nothing
abbrev pub sessions_in_state : State (Unit {0}) View → List Session
sessions_in_state s = map session_in_view s.views

-- the latch is among those whose writer word was stored
abbrev pub Stores : ℕ → List ℕ → Type 0
Stores l [] = ⊥
Stores l (k ∷ ks) = (k ≡ l) ⊎ Stores l ks

-- where the word of an event stands that a session makes, and what it is
abbrev pub event_place : Event → View → ℕ
event_place e v = latch_word_place (word_for e v.session) (latch_of e)

abbrev pub event_word : Event → View → State (Unit {0}) View → ℕ
event_word e v s = slice_index s.words (event_place e v)

-- a session makes an event where the rule holds: its seat is this, and it leaves the event's word as the event does
pub record IsMade (lawful : ℕ → List Entry → Type 0) (opening : ℕ → ℕ → ℕ → ℕ) (sizes : Sizes) (s : State (Unit {0}) View) (id : ℕ) (v : View) (e : Event) (left : ℕ) : Type 0 where
  pub kept : RuleHolds lawful opening sizes s
  pub seat : get_elem? s.views id ≡ some v
  pub session : live v.role ≡ 1
  pub inside : latch_of e < latches_of sizes
  pub leaves : Leaves (word_for e v.session) e v.session (event_word e v s) left

-- the words of a lawful log stand in the log's place, and its end behind them
pub record KeepsLog (sizes : Sizes) (lawful : List Entry → Type 0) (words : List ℕ) (log : List Entry) : Type 0 where
  pub legal : lawful log
  pub room : used log ≤ sizes.log_words
  pub end : slice_index words end_place ≡ length log * 2 ^ 32 + used log
  pub logged : (k : ℕ) → k < used log → slice_index words (log_place sizes k) ≡ slice_index_or (log_words log) k 0

-- a latch that is held since a look at the log's end: no entry of another session since then conflicts with it
abbrev pub HoldsSince : ℕ → Session → List Entry → Since → Type 0
HoldsSince number a log s = (0 < holdings s.latch a) × IsStable number log s

abbrev pub IsStoredAt : OpenAppend → ℕ → Type 0
IsStoredAt o q = has q o.places ≡ true

-- who has an append open owns X on the log latch, and on each page of which it has stored a word
abbrev pub OwnsStored : Session → OpenAppend → Type 0
OwnsStored a o = (0 < x_grants 0 a) × ((q : ℕ) → IsStoredAt o q → 0 < x_grants (latch_at q) a)
