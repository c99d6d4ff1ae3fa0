use Rattle.std.proofs.Common.{◌∙◌, ◌+◌, sym, subst}
use Rattle.std.specs.Prelude.{slice_range}
use Rattle.ib_map.specs.Pairs.{Pairs}
use Rattle.ib_io.specs.Writer.{Puts}
use Rattle.ib_io.proofs.Writing.{puts_none, puts_on}
use Rattle.ib_pair_form.proofs.ValueText.{no_keys-text, some_keys-text}
use Rattle.ib_pair_form.proofs.value_part.KeyLinesScanText.print_span.Goals as goal

pub returns-then-is_empty : goal.returns-then-is_empty
returns-then-is_empty g c =
    let first = c.args.first.now in
    let last = c.args.last.now in
    let found : Pairs = slice_range c.args.pairs.now first.start (last.start + last.len) in
    record { puts = rw (no_keys-text first.low last.high first.place found (sym c.is_empty.ensures ∙ c.if-is_empty.true)) (puts_none _) }

pub returns : goal.returns
returns g c =
    let first = c.args.first.now in
    let last = c.args.last.now in
    let found : Pairs = slice_range c.args.pairs.now first.start (last.start + last.len) in
    record {
      puts =
          subst (Puts g.K.Sink.written g.K.Sink.faults c.args.writer.now c.print_key_lines.new.writer) (some_keys-text first.low last.high first.place found (sym c.is_empty.ensures ∙ c.if-is_empty.false))
          (puts_on (puts_on (rw c.from.ensures at c.word_and_number.ensures.puts) c.byte.ensures.puts) c.print_key_lines.ensures.puts);
    }
