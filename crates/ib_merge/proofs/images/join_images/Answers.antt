-- Nodes have no links.
use Rattle.std.proofs.Common.{◌∙◌, ap, arith}
use Rattle.ib_page.specs.Form.{page_of}
use Rattle.ib_page.specs.Page.{page_in}
use Rattle.ib_heap.proofs.FormLaws.{links-none}
use Rattle.ib_merge.proofs.ImageLaws.{level-with_records}
use Rattle.ib_merge.proofs.images.join_images.Goals as goal

pub set_links-requires-clause-prev : goal.set_links-requires-clause-prev
set_links-requires-clause-prev c up =
    let same = ap (λ v. (page_in v).level) c.join.ensures.page ∙ level-with_records _ (page_of c.args.left.now) in
    c.prev-prev.ensures ∙ (links-none c.args.left.now c.requires.tree (omega arith)).0

pub set_links-requires-clause-next : goal.set_links-requires-clause-next
set_links-requires-clause-next c up =
    let same = ap (λ v. (page_in v).level) c.join.ensures.page ∙ level-with_records _ (page_of c.args.left.now) in
    let level = c.requires.level in
    c.next.ensures ∙ (links-none c.args.right.now c.requires.right_tree (omega arith)).1
