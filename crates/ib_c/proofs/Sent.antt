-- What a handle owns says the same to every thread, where its box's value does.
use mir.Raw.{raw}
use base.Shift.{Keyless}
use denote.Memory.{lone}
use denote.RattleType.{RattleType}
use denote.RawPtr.{Ptr}
use denote.Param.Send.{IsSend}
use Rattle.std.specs.Prelude.{Option, Some, None}
use Rattle.std.specs.Global.{Global}
use Rattle.std.proofs.Crossing as heap
use Rattle.std_alloc.proofs.SendSync.{lies}
use Rattle.ib_c.specs.Handles.{box_or_none}

pub kept : (R : RattleType) → IsSend R → (a : Global) (p : Ptr) (h : Option R.Denot) → Keyless (box_or_none R a p h)
kept R s a p None = tt
kept R s a p (Some x) = (lies R s p x, heap.frees.frees a (raw (lone R.mir)) p)
