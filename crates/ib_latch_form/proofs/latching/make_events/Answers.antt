use Rattle.std.proofs.Common.{ap, inl}
use Rattle.ib_io.specs.Told.{ends}
use Rattle.ib_io.specs.declared.status.Status.TheVariants.{Done}
use Rattle.ib_latch_form.specs.Latching.{lines_from}
use Rattle.ib_latch_form.proofs.latching.make_events.Goals as goal

pub returns-in-Ok : goal.returns-in-Ok
returns-in-Ok g c = record {
  told = inl (ends Done (lines_from c.in-Ok.core.state c.args.events), ap (λ m. ends Done (lines_from m.state c.args.events)) c.in-Ok.ensures.opens, c.tell.ensures.told);
  write = c.tell.ensures.write;
}
