-- The look, and the end.
use Rattle.std.proofs.Common.{rules, subst}
use Rattle.ib_mtr.specs.Commits.{HasRead}
use Rattle.ib_mtr.proofs.Committing.{read_only}
use Rattle.ib_mtr.proofs.Ending.{ended_by, ended_looks, ended_waits}
use Rattle.ib_mtr.proofs.commits.read_and_end.Goals as goal

pub returns : goal.returns
returns g c =
    let l = c.log_end-place.ensures in let p2 = c.log_end-place.new.self.pass.now in let b = c.give_back.ensures in let e = c.finish.ensures in
    let ended = ended_by p2 c.give_back.new.self.pass.now c.finish.new.self.1.0 b.given e.finished e.known e.idle l.still.mtr.own.closed in
    subst (HasRead c.args.latches.now.sizes (g.L.Law.lawful c.args.latches.now.sizes.pages) c.args.pass.now c.log_end-place.result.entries) (search rules)
    (read_only c.args.latches.now.sizes (g.L.Law.lawful c.args.latches.now.sizes.pages) c.args.pass.now p2 c.finish.new.self.1.0 c.log_end-place.result.entries l.looked.looked l.looked.pass l.entries ended
    (ended_looks p2 c.give_back.new.self.pass.now c.finish.new.self.1.0 b.given e.finished) (ended_waits p2 c.give_back.new.self.pass.now c.finish.new.self.1.0 b.given e.finished))
