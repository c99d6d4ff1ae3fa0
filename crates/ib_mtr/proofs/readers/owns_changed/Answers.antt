-- Each page that is changed stands in the work set.
use Rattle.std.proofs.Common.{arith, refl}
use Rattle.ib_mtr.proofs.Asking.{all_owned}
use Rattle.ib_mtr.proofs.readers.owns_changed.Goals as goal

pub returns : goal.returns
returns c = (λ _. all_owned c.args.work.now c.loop-place.place c.args.pass.now.view.session (omega arith) c.loop-place.invariant, λ _. refl)
