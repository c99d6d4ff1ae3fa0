-- The cell that was returned last, and one that was never used.
use Rattle.std.proofs.Common.{◌≤◌, List, ℕ, Option, sym, subst, ◌∙◌, arith}
use Rattle.std.proofs.lemmas.List.{append-nil}
use Rattle.ib_wait.specs.declared.cells.TheConstants.{MOST_EVER}
use Rattle.ib_wait.specs.declared.cells.Cell.{Cell}
use Rattle.ib_wait.specs.Cells.{AreStacked}
use Rattle.ib_wait.proofs.Stacks.{last_within, last_reserved, fresh_reserved, more_few}
use Rattle.ib_wait.proofs.cells.Cells.reserve.Goals as goal

pub index_mut-requires : goal.index_mut-requires
index_mut-requires c =
    let within = last_within c.self.inside.used.items c.pop.new.self.items c.in-Some.place c.args.cell
    (subst (AreStacked c.self.inside.used.items) c.in-Some.ensures.items c.self.invariant.stacked) in
    let counted = c.self.inside.used.ok.0 in omega arith

pub invariant_of-self : goal.invariant_of-self
invariant_of-self c =
    let is = c.self.invariant in record {
      stacked = last_reserved c.self.inside.used.items c.pop.new.self.items c.in-Some.place c.args.cell
          (subst (AreStacked c.self.inside.used.items) c.in-Some.ensures.items is.stacked);
      few = let f = is.few in omega arith;
      used_room = is.used_room;
      returned_room = let r = is.returned_room in let k = c.in-Some.ensures.capacity in omega arith;
      ever = subst (λ (n : ℕ). n ≤ MOST_EVER) (sym c.one_more_ever-self-inside.ensures) (more_few c.self.inside.ever is.ever);
    }

pub invariant_of-self-2 : goal.invariant_of-self-2
invariant_of-self-2 c =
    let is = c.self.invariant in record {
      stacked = subst (λ (z : List (Option Cell) × List ℕ). AreStacked z.0 z.1) (λ j. (sym c.push_reserved.ensures.items j, (c.in_default.ensures.items ∙ append-nil c.pop.new.self.items) j)) (fresh_reserved c.self.inside.used.items c.self.inside.returned.items is.stacked c.args.cell);
      few = let f = is.few in let n = c.push_reserved.ensures.len in let p = c.len-place.ensures in let d = c.if-place-self.false in omega arith;
      used_room = let r = is.used_room in let k = c.push_reserved.ensures.capacity in omega arith;
      returned_room = let r = is.returned_room in let k = c.in_default.ensures.capacity in omega arith;
      ever = subst (λ (n : ℕ). n ≤ MOST_EVER) (sym c.one_more_ever-self-inside-2.ensures) (more_few c.self.inside.ever is.ever);
    }
