-- The record that is found is the child's.
use Rattle.std.proofs.Common.{◌∙◌, sym, ap}
use Rattle.ib_page.specs.Form.{page_of}
use Rattle.ib_page.specs.Image.{records_of}
use Rattle.ib_walk.specs.Search.{child_for}
use Rattle.ib_plans.specs.Merge.{Siblings, siblings_of}
use Rattle.ib_plans.proofs.EditLaws.{state-records}
use Rattle.ib_plans.proofs.SiblingRecordLaws.{HasSiblings-of}
use Rattle.ib_plan_tests.proofs.ReadLaws.{first-le}
use Rattle.ib_plan_tests.proofs.pages.beside_in.Goals as goal

pub returns-clause-beside : goal.returns-clause-beside
returns-clause-beside g c = ap (siblings_of c.args.key) (state-records (page_of c.args.image.now)) ∙ c.records_beside.ensures

pub returns-clause-child : goal.returns-clause-child
returns-clause-child g c =
    let xs = records_of c.args.image.now in
    let le = first-le c.args.key xs c.check_node.ensures.some c.check_node.ensures.first in
    ap (λ (t : Siblings). t.here.1) (sym c.records_beside.ensures) ∙ ((HasSiblings-of c.args.key xs c.check_node.ensures.some le).here
    ∙ ap (child_for c.args.key 0) (sym (state-records (page_of c.args.image.now))))
