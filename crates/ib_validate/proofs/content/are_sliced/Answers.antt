use Rattle.std.proofs.Common.{◌≡◌, true}
use Rattle.ib_map.specs.Keys.{rank}
use Rattle.ib_walk.specs.Words.{memory_of}
use Rattle.ib_validate.specs.Positions.{positions_of}
use Rattle.ib_validate.proofs.FreshLaws.{fresh-content, content-fresh, fresh-leaf, leaf-fresh}
use Rattle.ib_validate.proofs.content.are_sliced.Goals as goal

pub returns-then-have_content : goal.returns-then-have_content
returns-then-have_content c = (
  λ t. record {
    each = fresh-content (memory_of c.args.after.now) c.args.map.now c.args.pages.now (positions_of c.args.table.now) (c.have_content.ensures.0 c.if-have_content.true);
    there = fresh-leaf (rank c.args.key) c.args.pages.now (positions_of c.args.table.now) (c.have_leaf_of.ensures.0 t);
  },
  λ h. c.have_leaf_of.ensures.1 (leaf-fresh (rank c.args.key) c.args.pages.now (positions_of c.args.table.now) h.there),
)

pub returns-else-have_content : goal.returns-else-have_content
returns-else-have_content c = (
  λ t. absurd (let e : c.have_content.result ≡ true = t in let f = c.if-have_content.false in cc),
  λ h. c.have_content.ensures.1 (content-fresh (memory_of c.args.after.now) c.args.map.now c.args.pages.now (positions_of c.args.table.now) h.each),
)
