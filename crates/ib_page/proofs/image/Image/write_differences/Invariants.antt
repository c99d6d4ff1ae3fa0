-- The writes so far stand behind those that were there.
use Rattle.std.proofs.Common.{◌*◌}
use Rattle.ib_page.specs.Writes.{HasWritten}
use Rattle.ib_page.proofs.image.Image.write_differences.Given as goal

abbrev pub invariant-loop-block : goal.invariant-loop-block
invariant-loop-block l = HasWritten l.page l.self l.other (l.block * 8) l.count l.initial.out l.end l.out
