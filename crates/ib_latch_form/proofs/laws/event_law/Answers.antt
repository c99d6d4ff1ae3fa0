use Rattle.ib_latch_form.proofs.EventRead.{event-read}
use Rattle.ib_latch_form.proofs.laws.event_law.Goals as goal

pub returns : goal.returns
returns c = event-read
