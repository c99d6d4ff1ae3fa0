use Rattle.std.proofs.Common.{take, drop, length, ◌-◌, ◌+◌}
use Rattle.ib_io.proofs.Cuts.{split-first, split-none, lines-first, lines-last}
use Rattle.ib_io.proofs.line.first_line.Goals as goal

pub returns-in-Some-clause-line : goal.returns-in-Some-clause-line
returns-in-Some-clause-line c = lines-first c.args.text.now (take c.in-Some.end c.args.text.now)
    (take (length c.args.text.now - (c.in-Some.end + 1)) (drop (c.in-Some.end + 1) c.args.text.now)) (split-first _ _ c.in-Some.end c.in-Some.ensures.0 c.in-Some.ensures.1)

pub returns-in-None-clause-line : goal.returns-in-None-clause-line
returns-in-None-clause-line c = lines-last _ c.requires (split-none _ _ c.in-None.ensures)
