-- A change by a guess, or by the index after it.
use Rattle.std.proofs.Common.{◌∙◌, true, Err, refl, ap, subst, sym, arith}
use Rattle.ib_map.specs.declared.call.Call.TheVariants.{Delete}
use Rattle.ib_logrec.specs.Log.{by_place}
use Rattle.ib_tree.specs.TreeLog.{opening}
use Rattle.ib_planned_log.specs.Kept.{IsKeptLog}
use Rattle.ib_rule.specs.Space.{SpaceState}
use Rattle.ib_leaf.specs.Leaf.{IsShortFor}
use Rattle.ib_hash.specs.Calls.{MayGuess}
use Rattle.ib_hash.specs.Pass.{GuessPassState}
use Rattle.ib_hash.specs.Tries.{HasTried}
use Rattle.ib_runs.proofs.AccessLaws.{accessed-missed}
use Rattle.ib_runs.proofs.GrantLaws.{within_one}
use Rattle.ib_runs.proofs.guessing.GuessesAccessIndex.delete.Goals as goal

pub try_delete-requires : goal.try_delete-requires
try_delete-requires g c = record {
  may = subst (λ (s : SpaceState). MayGuess c.args.self.now s c.args.seat.now c.args.pass.now) (sym c.latches.ensures)
      (record { own = c.requires.seat; pages = c.requires.pages; call = record { rest = c.requires.rest; room = let room = c.requires.room in omega arith } });
}

pub returns-in-Err : goal.returns-in-Err
returns-in-Err g c =
    let space : SpaceState = c.args.index.now in
    let tried = subst (λ (s : SpaceState). HasTried s.sizes (IsKeptLog s.sizes.pages) (by_place opening s.sizes.pages) (IsShortFor c.args.key) c.args.key (Delete c.args.key) (Err c.in-Err.field-0) c.args.seat.now c.try_delete.new.gp c.args.pass.now c.try_delete.new.pass)
    c.latches.ensures c.in-Err.ensures.tried in
    let few = c.delete.ensures.grants in
    let a = accessed-missed space.sizes (Delete c.args.key) refl (λ read. cc) (IsShortFor c.args.key) c.args.key tried.guess c.in-Err.field-0 c.delete.result c.args.pass.now c.try_delete.new.pass c.delete.new.pass (λ h session one other reply place fits. fits)
    tried.tried c.delete.ensures.called few.all few.claims in
    record { seat = ap (λ (x : GuessPassState). x.table) tried.steps ∙ c.requires.seat; rest = c.delete.ensures.rest; called = a.0; takes = a.1; within = within_one true (Delete c.args.key) c.args.pass.now c.delete.new.pass a.1; modes = a.2 }
