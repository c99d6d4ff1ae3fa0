-- A change by a guess, or by the index after it.
use Rattle.std.proofs.Common.{◌∙◌, true, Err, refl, ap, subst, sym, arith}
use Rattle.ib_map.specs.declared.call.Call.TheVariants.{Insert}
use Rattle.ib_logrec.specs.Log.{by_place}
use Rattle.ib_tree.specs.TreeLog.{opening}
use Rattle.ib_planned_log.specs.Kept.{IsKeptLog}
use Rattle.ib_rule.specs.Space.{SpaceState}
use Rattle.ib_leaf.specs.Leaf.{IsFullFor}
use Rattle.ib_hash.specs.Calls.{MayGuess}
use Rattle.ib_hash.specs.Pass.{GuessPassState}
use Rattle.ib_hash.specs.Tries.{HasTried}
use Rattle.ib_runs.proofs.AccessLaws.{accessed-missed}
use Rattle.ib_runs.proofs.GrantLaws.{within_one}
use Rattle.ib_runs.proofs.guessing.GuessesAccessIndex.insert.Goals as goal

pub try_insert-requires : goal.try_insert-requires
try_insert-requires g c = record {
  may = subst (λ (s : SpaceState). MayGuess c.args.self.now s c.args.seat.now c.args.pass.now) (sym c.latches.ensures)
      (record { own = c.requires.seat; pages = c.requires.pages; call = record { rest = c.requires.rest; room = let room = c.requires.room in omega arith } });
}

pub returns-in-Err : goal.returns-in-Err
returns-in-Err g c =
    let space : SpaceState = c.args.index.now in
    let tried = subst (λ (s : SpaceState). HasTried s.sizes (IsKeptLog s.sizes.pages) (by_place opening s.sizes.pages) (IsFullFor c.args.key) c.args.key (Insert c.args.key c.args.value) (Err c.in-Err.field-0) c.args.seat.now c.try_insert.new.gp c.args.pass.now c.try_insert.new.pass)
    c.latches.ensures c.in-Err.ensures.tried in
    let few = c.insert.ensures.grants in
    let a = accessed-missed space.sizes (Insert c.args.key c.args.value) refl (λ read. cc) (IsFullFor c.args.key) c.args.key tried.guess c.in-Err.field-0 c.insert.result c.args.pass.now c.try_insert.new.pass c.insert.new.pass (λ h session one other reply place fits. fits)
    tried.tried c.insert.ensures.called few.all few.claims in
    record { seat = ap (λ (x : GuessPassState). x.table) tried.steps ∙ c.requires.seat; rest = c.insert.ensures.rest; called = a.0; takes = a.1; within = within_one true (Insert c.args.key c.args.value) c.args.pass.now c.insert.new.pass a.1; modes = a.2 }
