-- All records lie between the least key and the greatest.
use Rattle.std.proofs.Common.{ap, length, drop, ◌++◌, ◌∙◌}
use Rattle.ib_map.specs.Pairs.{Pairs}
use Rattle.ib_map.proofs.CutLaws.{cut-whole}
use Rattle.ib_heap.specs.Image.{records_of}
use Rattle.ib_heap.proofs.SeekLaws.{records_ascend}
use Rattle.ib_heap.proofs.rebuild.copy_all.Goals as goal

pub returns-clause-records : goal.returns-clause-records
returns-clause-records c =
    rw (c.least.ensures, c.greatest.ensures) at c.copy_between.ensures.records ∙ ap (λ (rs : Pairs). rs ++ drop (length rs) c.args.out.now) (cut-whole (records_of c.args.words.now) (records_ascend c.args.words.now c.requires.tree))

pub returns-clause-count : goal.returns-clause-count
returns-clause-count c = rw (c.least.ensures, c.greatest.ensures) at c.copy_between.ensures.count ∙ ap length (cut-whole (records_of c.args.words.now) (records_ascend c.args.words.now c.requires.tree))
