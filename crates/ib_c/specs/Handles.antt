-- What a handle owns: a box, or nothing.
use Rattle.std.specs.Prelude.{ℕ, Option, Some, None}
use Rattle.std.specs.Box.Ownership.{box_owns}
use Rattle.std.specs.Global.{Global}
use Rattle.std_heap.specs.contracts.GlobalAllocator.TheImpl.{ghosts}
use base.Fml.{Fml, ftrue}
use denote.RattleType.{RattleType}
use denote.RawPtr.{Ptr}

-- a box of the heap at the pointer, with this value, or nothing
abbrev pub box_or_none : (R : RattleType) → Global → Ptr → Option R.Denot → Fml
box_or_none R alloc p None = ftrue
box_or_none R alloc p (Some x) = box_owns (ghosts.dealloc_token alloc) R p x

-- how C is told whether there is one
abbrev pub live_of : {X : Type 0} → Option X → ℕ
live_of None = 0
live_of (Some x) = 1
