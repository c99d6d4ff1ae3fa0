use Rattle.std.proofs.Common.{refl, ap, ◌∙◌}
use Rattle.std.specs.Prelude.{Ok, not}
use Rattle.ib_script.specs.Script.{is_command, is_scan}
use Rattle.ib_script.specs.declared.script_line.ScriptLine.TheVariants.{Skipped}
use Rattle.ib_script.proofs.Readings.{nothing-more, count-other}
use Rattle.ib_script.proofs.tally.Tally.count_reading.Goals as goal

pub returns-in-Skipped : goal.returns-in-Skipped
returns-in-Skipped c = rw c.in-Skipped.is (λ before tallied.
    let reading = Ok Skipped in (
      refl,
      record {
        started = tallied.started ∙ ap not (nothing-more before reading refl);
        commands = tallied.commands ∙ count-other is_command before reading refl;
        scans = tallied.scans ∙ count-other is_scan before reading refl;
      },
    ))

pub returns-in-Session : goal.returns-in-Session
returns-in-Session c = rw c.in-Session.is (λ before tallied. (refl, c.count_session.ensures c.in-Session.number before tallied))

pub returns-in-Space : goal.returns-in-Space
returns-in-Space c = rw c.in-Space.is (c.count_space.ensures c.in-Space.geometry)
