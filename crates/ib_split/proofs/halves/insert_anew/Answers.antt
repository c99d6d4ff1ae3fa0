-- What was put in is put in anew.
use Rattle.ib_split.proofs.HalfLaws.{filled_with}
use Rattle.ib_split.proofs.halves.insert_anew.Goals as goal

pub returns-clause-heap : goal.returns-clause-heap
returns-clause-heap c =
    filled_with c.insert-result.result c.args.key c.args.value c.args.image.now c.insert-result.new.self c.reorganize.new.self c.requires c.insert-result.ensures.inserted c.reorganize.ensures.heap
