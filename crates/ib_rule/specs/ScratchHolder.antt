-- Where the scratch of a session is, and what is in it.
use Rattle.std.specs.Prelude.{◌≡◌, ℕ, ◌≤◌, Bool, true, false, not, Option, Some, None, List, [], vec_capacity}
use Rattle.ib_levels.specs.declared.latch.Latch.{Latch}
use Rattle.ib_levels.specs.declared.level.Mode.{Mode}
use Rattle.ib_page.specs.Work.{WorkPage}
use Rattle.ib_rule.specs.declared.scratch_holder.ScratchHolder.{ScratchHolder}
use Rattle.ib_rule.specs.declared.scratch.Scratch.{Scratch}
use Rattle.ib_rule.specs.declared.pass.TheConstants.{MOST_HELD}

-- a holder: whether its scratch is there and free, whether a mini-transaction works in it, and the pages and the grants that are in it
pub record HolderState : Type 0 where
  pub is_free : Bool
  pub is_taken : Bool
  pub work : List WorkPage
  pub memo : List (Latch × Mode)

-- a holder whose scratch is there and free, one at whose scratch a mini-transaction works, and one whose scratch is with a caller
abbrev pub free : Scratch → ScratchHolder
free s = record { scratch = Some s; is_taken = false }

abbrev pub taken : Scratch → ScratchHolder
taken s = record { scratch = Some s; is_taken = true }

abbrev pub bare : HolderState
bare = record { is_free = false; is_taken = false; work = []; memo = [] }

abbrev pub state_of : Option Scratch → Bool → HolderState
state_of None is_taken = bare
state_of (Some s) is_taken = record { is_free = not is_taken; is_taken = is_taken; work = s.work; memo = s.memo.items }

abbrev pub holder_state : ScratchHolder → HolderState
holder_state d = state_of d.scratch d.is_taken

-- how many grants the memo has room for
abbrev pub memo_room : Option Scratch → ℕ
memo_room None = 0
memo_room (Some s) = vec_capacity s.memo

abbrev pub room_at : ScratchHolder → ℕ
room_at d = memo_room d.scratch

-- an empty scratch, with room for as many grants as a session holds
abbrev pub IsEmptyScratch : Scratch → Type 0
IsEmptyScratch s = (s.work ≡ []) × (s.memo.items ≡ []) × (MOST_HELD ≤ vec_capacity s.memo)

-- a scratch that is free is empty, and one that is worked in has its room
abbrev pub IsScratch : Option Scratch → Bool → Type 0
IsScratch None is_taken = Unit {0}
IsScratch (Some s) false = IsEmptyScratch s
IsScratch (Some s) true = MOST_HELD ≤ vec_capacity s.memo

abbrev pub IsScratchHolder : ScratchHolder → Type 0
IsScratchHolder d = IsScratch d.scratch d.is_taken
