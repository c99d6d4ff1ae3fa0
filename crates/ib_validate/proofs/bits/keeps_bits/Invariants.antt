use Rattle.std.proofs.Common.{ℕ, ◌<◌}
use Rattle.ib_validate.specs.Bits.{KeepsWord}
use Rattle.ib_validate.proofs.bits.keeps_bits.Given as goal

abbrev pub invariant-loop-word : goal.invariant-loop-word
invariant-loop-word l = (word : ℕ) → word < l.word → KeepsWord l.before l.after l.written word
