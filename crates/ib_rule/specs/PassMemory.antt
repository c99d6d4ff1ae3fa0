-- The memory of a pass, before it has a seat.
use Rattle.std.specs.Prelude.{◌≡◌, ℕ, vec_len}
use Rattle.ib_core.specs.Member.{idle_among}
use Rattle.ib_rule.specs.declared.pass_memory.PassMemory.{PassMemory}
use Rattle.ib_rule.specs.declared.pass.TheConstants.{ENTRY_WORDS}
use Rattle.ib_rule.specs.ScratchHolder.{IsEmptyScratch}

-- the room of a session among so many latches
pub record IsPassMemory (latches : ℕ) (r : PassMemory) : Type 0 where
  pub member : r.member ≡ idle_among latches
  pub words : vec_len r.words ≡ ENTRY_WORDS
  pub scratch : IsEmptyScratch r.scratch
