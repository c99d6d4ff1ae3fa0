-- The root has no records of its own when it takes the child's.
use Rattle.std.proofs.Common.{◌++◌, length, ap, sym, subst, arith}
use Rattle.ib_map.specs.Keys.{end_rank}
use Rattle.ib_map.specs.Pairs.{Pairs, Rises}
use Rattle.ib_page.specs.Page.{page_in}
use Rattle.ib_page.specs.Image.{records_of}
use Rattle.ib_heap.proofs.SeekLaws.{records_ascend}
use Rattle.ib_merge.proofs.ImageLaws.{records-few}
use Rattle.ib_merge.proofs.images.lower_image.Goals as goal

pub join-requires-clause-few : goal.join-requires-clause-few
join-requires-clause-few c =
    let none = ap (λ v. length (page_in v).records) c.empty.ensures.page in let few = records-few c.args.child.now c.requires.child_tree in omega arith

pub join-requires-clause-ascends : goal.join-requires-clause-ascends
join-requires-clause-ascends c =
    subst (λ (rs : Pairs). Rises 0 (rs ++ records_of c.args.child.now) end_rank) (sym (ap (λ v. (page_in v).records) c.empty.ensures.page)) (records_ascend c.args.child.now c.requires.child_tree)
