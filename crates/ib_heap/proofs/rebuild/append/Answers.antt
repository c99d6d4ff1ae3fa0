-- The copied records of both pages stand one behind the other.
use Rattle.std.proofs.Common.{◌∙◌, sym, ap, subst}
use Rattle.ib_map.specs.Keys.{end_rank}
use Rattle.ib_map.specs.Pairs.{Pairs, Rises}
use Rattle.ib_heap.specs.Form.{page_of}
use Rattle.ib_heap.specs.Image.{records_of, value_with_records}
use Rattle.ib_heap.proofs.FillLaws.{both-of}
use Rattle.ib_heap.proofs.rebuild.append.Goals as goal

pub rebuild-requires-clause-ascends : goal.rebuild-requires-clause-ascends
rebuild-requires-clause-ascends c =
    let both = both-of (records_of c.args.left.now) (records_of c.args.right.now) _ _ _ _ c.copy_all-len.result c.copy_all-more.result _ c.copy_all-len.ensures.records c.copy_all-more.ensures.records c.copy_all-len.ensures.count c.copy_all-more.ensures.count in
    subst (λ (xs : Pairs). Rises 0 xs end_rank) (sym both) c.requires.ascends

pub returns-clause-page : goal.returns-clause-page
returns-clause-page c =
    let both = both-of (records_of c.args.left.now) (records_of c.args.right.now) _ _ _ _ c.copy_all-len.result c.copy_all-more.result _ c.copy_all-len.ensures.records c.copy_all-more.ensures.records c.copy_all-len.ensures.count c.copy_all-more.ensures.count in
    c.rebuild.ensures.page ∙ ap (λ (xs : Pairs). value_with_records xs (page_of c.args.left.now)) both
