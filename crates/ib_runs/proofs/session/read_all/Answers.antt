use Rattle.std.proofs.Common.{◌≡◌, ◌∙◌, true, false, is_ok, ap, sym, subst, arith, inr}
use Rattle.ib_map.specs.Keys.{MapKey, rank}
use Rattle.ib_map.specs.declared.call.Record.{Record}
use Rattle.ib_rule.specs.Space.{SpaceState}
use Rattle.ib_leaf.specs.Calls.{CallLaw}
use Rattle.ib_scan.specs.Scanning.{HasScanned, HasStopped}
use Rattle.ib_runs.specs.Shared.{calls_under}
use Rattle.ib_runs.proofs.ReadLaws.{ok_value, on_err, reserved_by, so_far_more, so_far_all, so_far_room}
use Rattle.ib_runs.proofs.session.read_all.Goals as goal

pub scan-requires-clause-may : goal.scan-requires-clause-may
scan-requires-clause-may g c =
    let i = c.loop-pass.invariant in
    let space : SpaceState = g.S.Shared.space c.args.shared.now in
    let law : CallLaw = calls_under g.S.Shared.law space.sizes in
    let r = reserved_by c.loop-pass.chunks c.reserve.new.self i.room c.in_ok-reserve.ensures.reserved in
    record {
      rest = i.rest;
      room =
          let few = so_far_room law g.S.Shared.root space.sizes c.laws_of.ensures c.args.low c.args.high i.ascends c.args.chunks.now c.args.pass.now (g.S.Shared.begun c.loop-pass.rest) (g.S.Shared.next c.loop-pass.rest) c.loop-pass.chunks c.reserve.new.self c.loop-pass.pass
          i.so_far r.chunk_room c.requires.may.few in
          omega arith;
    }

pub returns-then-is_ok-clause-read : goal.returns-then-is_ok-clause-read
returns-then-is_ok-clause-read g c =
    let i = c.loop-pass.invariant in
    let space : SpaceState = g.S.Shared.space c.args.shared.now in
    let law : CallLaw = calls_under g.S.Shared.law space.sizes in
    let root = g.S.Shared.root in
    let from : MapKey = g.S.Shared.next c.loop-pass.rest in
    let r = reserved_by c.loop-pass.chunks c.reserve.new.self i.room c.in_ok-reserve.ensures.reserved in
    let is : is_ok c.scan.result ≡ true = sym c.is_ok.ensures.value ∙ c.if-is_ok.true in
    let v = ok_value (λ (answer : Record). HasScanned space.sizes law.lawful law.start root from (g.S.Shared.last c.loop-pass.rest) answer c.reserve.new.self c.scan.new.out c.loop-pass.pass c.scan.new.pass) c.scan.result is c.scan.ensures.scanned in
    let scanned = subst (λ (k : MapKey). HasScanned space.sizes law.lawful law.start root from k v.0 c.reserve.new.self c.scan.new.out c.loop-pass.pass c.scan.new.pass) i.up_to v.1 in
    inr (so_far_all law root space.sizes c.laws_of.ensures c.args.low c.args.high i.ascends c.args.chunks.now c.args.pass.now (g.S.Shared.begun c.loop-pass.rest) from v.0 c.loop-pass.chunks c.reserve.new.self c.scan.new.out
    c.loop-pass.pass c.scan.new.pass i.so_far r c.scan.ensures.least scanned)

pub scan-requires-clause-ascends : goal.scan-requires-clause-ascends
scan-requires-clause-ascends g c = let i = c.loop-pass.invariant in let a = i.to in let e = ap rank i.up_to in omega arith

pub loop-pass-smaller : goal.loop-pass-smaller
loop-pass-smaller g c =
    let i = c.loop-pass.invariant in
    let space : SpaceState = g.S.Shared.space c.args.shared.now in
    let law : CallLaw = calls_under g.S.Shared.law space.sizes in
    let r = reserved_by c.loop-pass.chunks c.reserve.new.self i.room c.in_ok-reserve.ensures.reserved in
    let is : is_ok c.scan.result ≡ false = sym c.is_ok.ensures.value ∙ c.if-is_ok.false in
    let stopped : HasStopped space.sizes law.lawful law.start g.S.Shared.root (g.S.Shared.next c.loop-pass.rest) (g.S.Shared.last c.loop-pass.rest) (g.S.Shared.next c.scan.new.scan) c.reserve.new.self c.scan.new.out c.loop-pass.pass c.scan.new.pass =
    on_err _ c.scan.result is c.scan.ensures.stopped in
    let rooms = r.chunk_room in let places = r.pair_room in
    let ahead = stopped.ahead (omega arith) (omega arith) in
    let end = stopped.to in
    let up = ap rank i.up_to in omega arith

pub loop-pass-preserved : goal.loop-pass-preserved
loop-pass-preserved g c =
    let i = c.loop-pass.invariant in
    let space : SpaceState = g.S.Shared.space c.args.shared.now in
    let law : CallLaw = calls_under g.S.Shared.law space.sizes in
    let root = g.S.Shared.root in
    let from : MapKey = g.S.Shared.next c.loop-pass.rest in
    let next : MapKey = g.S.Shared.next c.scan.new.scan in
    let r = reserved_by c.loop-pass.chunks c.reserve.new.self i.room c.in_ok-reserve.ensures.reserved in
    let is : is_ok c.scan.result ≡ false = sym c.is_ok.ensures.value ∙ c.if-is_ok.false in
    let left : HasStopped space.sizes law.lawful law.start root from (g.S.Shared.last c.loop-pass.rest) next c.reserve.new.self c.scan.new.out c.loop-pass.pass c.scan.new.pass =
    on_err _ c.scan.result is c.scan.ensures.stopped in
    let stopped = subst (λ (k : MapKey). HasStopped space.sizes law.lawful law.start root from k next c.reserve.new.self c.scan.new.out c.loop-pass.pass c.scan.new.pass) i.up_to left in
    record {
      rest = c.scan.ensures.rest;
      number = stopped.gone.went.number ∙ i.number;
      room = let a = stopped.gone.appends.chunk_room in let b = r.chunk_room in omega arith;
      ascends = i.ascends;
      up_to = on_err (g.S.Shared.last c.scan.new.scan ≡ g.S.Shared.last c.loop-pass.rest) c.scan.result is c.scan.ensures.up_to ∙ i.up_to;
      to = stopped.to;
      goes_on = on_err _ c.scan.result is c.scan.ensures.goes_on;
      so_far = inr (so_far_more law root space.sizes c.laws_of.ensures c.args.low c.args.high i.ascends c.args.chunks.now c.args.pass.now (g.S.Shared.begun c.loop-pass.rest) from next c.loop-pass.chunks c.reserve.new.self c.scan.new.out
          c.loop-pass.pass c.scan.new.pass i.so_far r c.scan.ensures.least stopped);
    }
