use Rattle.std.proofs.Common.{ℕ, ◌+◌, ◌*◌, ◌<◌}
use Rattle.ib_validate.specs.Bits.{KeepsBit}
use Rattle.ib_validate.proofs.bits.keeps_word.Given as goal

abbrev pub invariant-loop-bit : goal.invariant-loop-bit
invariant-loop-bit l = (bit : ℕ) → bit < l.bit → KeepsBit l.before l.after l.written (64 * l.word + bit)
