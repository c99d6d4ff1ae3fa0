-- A cell that is returned.
use Rattle.std.proofs.Common.{sym, subst, ap, ◌∙◌, arith}
use Rattle.std.specs.Prelude.{IsSome}
use Rattle.ib_wait.specs.Cells.{AreStacked, CellsState, cell_at, written}
use Rattle.ib_wait.proofs.Stacks.{freed, some_reserved, there_is}
use Rattle.ib_wait.proofs.cells.Cells.free.Goals as goal

pub push_reserved-requires : goal.push_reserved-requires
push_reserved-requires c =
    let is = c.self.invariant in
    let some = subst (λ (s : CellsState). IsSome (cell_at c.args.place s.used)) (sym c.self.view_is) c.requires in
    let there = there_is c.self.inside.used.items c.args.place c.index.result.now c.unwrap-cell.result some c.index.ensures c.unwrap-cell.ensures in
    let less = some_reserved c.self.inside.used.items c.self.inside.returned.items is.stacked c.args.place c.unwrap-cell.result there in
    let f = is.few in let r = is.returned_room in let n = c.self.inside.used.ok.0 in let m = c.self.inside.returned.ok.0 in omega arith

pub invariant_of-self : goal.invariant_of-self
invariant_of-self c =
    let is = c.self.invariant in
    let some = subst (λ (s : CellsState). IsSome (cell_at c.args.place s.used)) (sym c.self.view_is) c.requires in
    let there = there_is c.self.inside.used.items c.args.place c.index.result.now c.unwrap-cell.result some c.index.ensures c.unwrap-cell.ensures in
    record {
      stacked = subst (AreStacked _) (sym c.push_reserved.ensures.items) (freed c.self.inside.used.items c.self.inside.returned.items is.stacked c.args.place c.unwrap-cell.result there);
      few = is.few;
      used_room = is.used_room;
      returned_room = let r = is.returned_room in let k = c.push_reserved.ensures.capacity in omega arith;
      ever = is.ever;
    }

pub returns-clause-cell : goal.returns-clause-cell
returns-clause-cell c =
    let some = subst (λ (s : CellsState). IsSome (cell_at c.args.place s.used)) (sym c.self.view_is) c.requires in
    ap (λ (s : CellsState). cell_at c.args.place s.used) (sym c.self.view_is)
    ∙ ap written (there_is c.self.inside.used.items c.args.place c.index.result.now c.unwrap-cell.result some c.index.ensures c.unwrap-cell.ensures)
