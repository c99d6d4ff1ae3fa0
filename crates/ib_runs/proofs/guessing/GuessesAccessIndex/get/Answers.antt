-- A lookup by a guess, or by the descent after it.
use Rattle.std.proofs.Common.{◌∙◌, true, subst, sym, arith}
use Rattle.ib_map.specs.declared.call.Call.TheVariants.{Get}
use Rattle.ib_logrec.specs.Log.{by_place}
use Rattle.ib_tree.specs.TreeLog.{opening}
use Rattle.ib_planned_log.specs.Kept.{IsKeptLog}
use Rattle.ib_rule.specs.Pass.{IsAtRest}
use Rattle.ib_rule.specs.Space.{SpaceState}
use Rattle.ib_hash.specs.Calls.{MayGuess}
use Rattle.ib_hash.specs.Lookups.{HasGot}
use Rattle.ib_runs.proofs.AccessLaws.{accessed-got, got-table}
use Rattle.ib_runs.proofs.GrantLaws.{within_one}
use Rattle.ib_runs.proofs.guessing.GuessesAccessIndex.get.Goals as goal

pub get-requires : goal.get-requires
get-requires g c = record {
  may = subst (λ (s : SpaceState). MayGuess c.args.self.now s c.args.seat.now c.args.pass.now) (sym c.latches.ensures)
      (record { own = c.requires.seat; pages = c.requires.pages; call = record { rest = c.requires.rest; room = let room = c.requires.room in omega arith } });
}

pub returns : goal.returns
returns g c =
    let space : SpaceState = c.args.index.now in
    let rest = subst (λ (s : SpaceState). IsAtRest s c.get.new.pass) c.latches.ensures c.get.ensures.rest in
    let got = subst (λ (s : SpaceState). HasGot s.sizes (IsKeptLog s.sizes.pages) (by_place opening s.sizes.pages) c.args.key c.get.result c.args.seat.now c.get.new.gp c.args.pass.now c.get.new.pass) c.latches.ensures c.get.ensures.got in
    let a = accessed-got space.sizes c.args.key c.get.result c.args.seat.now c.get.new.gp c.args.pass.now c.get.new.pass got in
    record { seat = got-table space.sizes c.args.key c.get.result c.args.seat.now c.get.new.gp c.args.pass.now c.get.new.pass got ∙ c.requires.seat; rest = rest; called = a.0; takes = a.1; within = within_one true (Get c.args.key) c.args.pass.now c.get.new.pass a.1; modes = a.2 }
