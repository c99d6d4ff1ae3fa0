-- All copied records are those of the page.
use Rattle.std.proofs.Common.{◌∙◌, sym, ap, subst}
use Rattle.ib_map.specs.Keys.{end_rank}
use Rattle.ib_map.specs.Pairs.{Pairs, Rises}
use Rattle.ib_heap.specs.Form.{page_of}
use Rattle.ib_heap.specs.Image.{records_of, value_with_records}
use Rattle.ib_heap.proofs.FormLaws.{formed-tree, header_read}
use Rattle.ib_heap.proofs.SeekLaws.{records_ascend}
use Rattle.ib_heap.proofs.FillLaws.{all-of}
use Rattle.ib_heap.proofs.RecordsLaws.{with-same}
use Rattle.ib_heap.proofs.rebuild.reorganize.Goals as goal

pub copy_all-len-requires-clause-room : goal.copy_all-len-requires-clause-room
copy_all-len-requires-clause-room c = (header_read c.args.words.now (formed-tree c.args.words.now c.requires)).few

pub rebuild-requires-clause-ascends : goal.rebuild-requires-clause-ascends
rebuild-requires-clause-ascends c =
    subst (λ (xs : Pairs). Rises 0 xs end_rank) (sym (all-of (records_of c.args.words.now) _ _ c.copy_all-len.result c.copy_all-len.ensures.records c.copy_all-len.ensures.count)) (records_ascend c.args.words.now c.requires)

pub returns-clause-page : goal.returns-clause-page
returns-clause-page c =
    c.rebuild.ensures.page ∙ (ap (λ (xs : Pairs). value_with_records xs (page_of c.args.words.now)) (all-of (records_of c.args.words.now) _ _ c.copy_all-len.result c.copy_all-len.ensures.records c.copy_all-len.ensures.count)
    ∙ with-same (page_of c.args.words.now))
