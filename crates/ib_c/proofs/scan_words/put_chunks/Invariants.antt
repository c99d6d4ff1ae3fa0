-- So many chunks are written.
use Rattle.std.proofs.Common.{◌≡◌, ◌*◌, ◌++◌, take, drop}
use Rattle.ib_c.specs.ScanWords.{chunks_words}
use Rattle.ib_c.proofs.scan_words.put_chunks.Given as goal

abbrev pub invariant-loop-k : goal.invariant-loop-k
invariant-loop-k l = l.out ≡ chunks_words (take l.k l.list) ++ drop (6 * l.k) l.initial.out
