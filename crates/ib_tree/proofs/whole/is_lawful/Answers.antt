use Rattle.std.proofs.Common.{sym, ◌∙◌}
use Rattle.ib_validate.specs.Positions.{positions_of}
use Rattle.ib_tree.proofs.WholeTestLaws.{lawful-visited, lawful-unvisited}
use Rattle.ib_tree.proofs.whole.is_lawful.Goals as goal

pub returns-then-visit_all : goal.returns-then-visit_all
returns-then-visit_all c =
    lawful-visited c.args.memory.now c.requires.least c.requires.most c.args.roots c.requires.few c.all_pages_pass.ensures.size c.visit_all.result c.all_pages_pass.result
    (positions_of c.visit_all.new.table) c.visit_all.ensures c.if-visit_all.true c.all_pages_pass.ensures.passes

pub returns-else-visit_all : goal.returns-else-visit_all
returns-else-visit_all c = (
  λ t. absurd (let x = sym c.if-visit_all.false ∙ t in cc),
  λ lawful. absurd (lawful-unvisited c.args.memory.now c.requires.least c.requires.most c.args.roots c.requires.few c.visit_all.result
      (positions_of c.visit_all.new.table) c.visit_all.ensures c.if-visit_all.false lawful),
)
