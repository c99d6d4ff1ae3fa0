use Rattle.ib_io.proofs.Writing.{puts_on}
use Rattle.ib_text.proofs.chunk_text.ChunkTextScanText.print_span.Goals as goal

pub returns : goal.returns
returns g c = record {
  puts =
      puts_on (puts_on (puts_on (puts_on c.print_two_keys.ensures.puts c.text.ensures.puts) (rw c.from.ensures at c.number.ensures.puts)) c.byte.ensures.puts) c.print_pair_lines.ensures.puts;
}
