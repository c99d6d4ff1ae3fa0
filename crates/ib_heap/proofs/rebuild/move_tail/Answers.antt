-- The two parts of the copied records.
use Rattle.std.proofs.Common.{sym, subst}
use Rattle.ib_map.specs.Keys.{end_rank}
use Rattle.ib_map.specs.Pairs.{Pairs, Rises}
use Rattle.ib_map.proofs.RiseLaws.{Rises-take, Rises-drop}
use Rattle.ib_heap.specs.Image.{records_of}
use Rattle.ib_heap.proofs.FormLaws.{formed-tree, header_read}
use Rattle.ib_heap.proofs.SeekLaws.{records_ascend}
use Rattle.ib_heap.proofs.FillLaws.{front-of, tail-of}
use Rattle.ib_heap.proofs.rebuild.move_tail.Goals as goal

pub copy_all-len-requires-clause-room : goal.copy_all-len-requires-clause-room
copy_all-len-requires-clause-room c = (header_read c.args.left.now (formed-tree c.args.left.now c.requires.left)).few

pub rebuild-requires-clause-ascends : goal.rebuild-requires-clause-ascends
rebuild-requires-clause-ascends c =
    let rs = records_of c.args.left.now in
    subst (λ (xs : Pairs). Rises 0 xs end_rank) (sym (front-of rs _ _ c.args.index c.copy_all-len.ensures.records c.requires.in_range)) (Rises-take 0 c.args.index rs end_rank (records_ascend c.args.left.now c.requires.left))

pub rebuild-requires-2-clause-ascends : goal.rebuild-requires-2-clause-ascends
rebuild-requires-2-clause-ascends c =
    let rs = records_of c.args.left.now in
    subst (λ (xs : Pairs). Rises 0 xs end_rank) (sym (tail-of rs _ _ c.args.index c.copy_all-len.result c.copy_all-len.ensures.records c.copy_all-len.ensures.count c.requires.in_range)) (Rises-drop 0 c.args.index rs end_rank (records_ascend c.args.left.now c.requires.left))
