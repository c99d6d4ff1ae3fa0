-- By the header of the offset.
use Rattle.std.proofs.Common.{◌∙◌, ap, ◌%◌}
use Rattle.ib_heap.proofs.SeekLaws.{known, next-is}
use Rattle.ib_heap.proofs.directory.next_offset.Goals as goal

pub returns-clause-next : goal.returns-clause-next
returns-clause-next g c = λ k le at. ap (λ n. n % 256) c.word.ensures.word ∙ next-is _ k c.args.offset (known (g.W.PageWords.words c.args.page.now) c.requires.page.tree) le at
