use Rattle.std.proofs.Common.{◌∙◌}
use Rattle.ib_io.proofs.Writing.{puts_finished}
use Rattle.ib_io.proofs.printed.print_whole.Goals as goal

pub returns : goal.returns
returns g c =
    let sent = puts_finished c.finish.result c.requires c.print.ensures.puts c.finish.ensures.puts c.finish.ensures.finished in
    record {
      same_reference = c.finish.ensures.puts.same_reference ∙ c.print.ensures.puts.same_reference;
      bytes = sent.0;
      cause = sent.1;
    }
