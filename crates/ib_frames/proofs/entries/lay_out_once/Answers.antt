-- The entry that stands at the front of the words is the one that its words spell.
use Rattle.std.proofs.Common.{◌≡◌, ℕ, subst}
use Rattle.std.specs.Prelude.{Option, Some, IfSome}
use Rattle.ib_frames.specs.Appends.{IsLaidOut, entry_for}
use Rattle.ib_frames.proofs.LaidOut.{spelled_entry}
use Rattle.ib_frames.proofs.entries.lay_out_once.Goals as goal

pub returns-in-Some-clause-entry : goal.returns-in-Some-clause-entry
returns-in-Some-clause-entry c =
    let is : c.args.laid ≡ Some c.in-Some.writes = cc in
    let laid : IsLaidOut c.args.pass.now c.args.change c.args.work.now c.in-Some.writes =
    subst (λ (o : Option ℕ). IfSome o (IsLaidOut c.args.pass.now c.args.change c.args.work.now)) is c.requires.laid in
    spelled_entry (entry_for c.args.pass.now c.args.change c.args.work.now) _ c.requires.few laid.spelled
