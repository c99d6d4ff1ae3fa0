use Rattle.std.proofs.Common.{◌∙◌, ap, sym, ℕ, Some}
use Rattle.ib_map.specs.Keys.{rank}
use Rattle.ib_page.specs.Form.{page_of}
use Rattle.ib_walk.specs.Walk.{Visit}
use Rattle.ib_walk.specs.Words.{state_of}
use Rattle.ib_validate.specs.Positions.{end_of}
use Rattle.ib_validate.proofs.ChildLaws.{slice_get-children_of}
use Rattle.ib_validate.proofs.children.child_at.Goals as goal

pub returns : goal.returns
returns c = slice_get-children_of (state_of (page_of c.args.node.now)).records (end_of c.args.high) c.args.place c.record_at-page.result c.record_at-page.ensures
    ∙ ap (λ (high : ℕ). Some (let v : Visit = record { page = c.record_at-page.result.1; low = rank c.record_at-page.result.0; high = high } in v)) (sym c.end_of_child.ensures)
