use Rattle.std.proofs.Common.{take}
use Rattle.ib_io.specs.Writer.{Puts}
use Rattle.ib_replay.specs.Files.{word_bytes}
use Rattle.ib_replay_form.proofs.log_file.print_words.Given as goal

abbrev pub invariant-loop-word : goal.invariant-loop-word
invariant-loop-word g l = Puts g.K.Sink.written g.K.Sink.faults l.fn.writer l.writer (word_bytes (take l.word-index l.words))
