use Rattle.std.proofs.Common.{ap, length, arith}
use Rattle.ib_replay.proofs.FileLaws.{length-file_of}
use Rattle.ib_replay.proofs.raw_log_replay.replay_bytes.Goals as goal

pub replay-requires-clause-few_words : goal.replay-requires-clause-few_words
replay-requires-clause-few_words c =
    let log = c.in_ok-log in
    omega (arith, c.requires.small, ap length log.ensures.found, length-file_of log.log.pages log.log.words, ap length c.words.ensures)
