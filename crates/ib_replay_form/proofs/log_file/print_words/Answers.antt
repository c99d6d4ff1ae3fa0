-- Each word puts its eight bytes behind those of the words before it.
use Rattle.byteorder.specs.Endian.{big_bytes}
use Rattle.ib_io.proofs.Writing.{puts_each, puts_none}
use Rattle.ib_replay_form.proofs.log_file.print_words.Goals as goal

pub loop-word-init : goal.loop-word-init
loop-word-init g c = puts_none _

pub loop-word-preserved : goal.loop-word-preserved
loop-word-preserved g c =
    let eight = rw c.to_be_bytes.ensures at c.text.ensures.puts in
    puts_each (big_bytes 8) c.args.words.now c.loop-word.word-index 0 c.loop-word-test.true c.loop-word.invariant eight
