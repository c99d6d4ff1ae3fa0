use Rattle.std.proofs.Common.{◌≡◌, ◌-◌, ◌∙◌, length, ap, arith, refl, subst, sym}
use Rattle.ib_map.specs.declared.call.Call.TheVariants.{Scan}
use Rattle.ib_map.specs.declared.call.Record.{Record}
use Rattle.ib_map.specs.declared.call.Reply.TheVariants.{Scanned}
use Rattle.ib_layout.specs.Geometry.{Sizes}
use Rattle.ib_rule.specs.Space.{SpaceState}
use Rattle.ib_leaf.specs.Calls.{CallLaw}
use Rattle.ib_runs.specs.Answers.{KeptAnswers, IsWhole}
use Rattle.ib_runs.specs.Shared.{calls_under}
use Rattle.ib_runs.specs.Steps.{HasOneMore}
use Rattle.ib_runs.proofs.AnswerLaws.{chunks_more, pairs_more, scan_more}
use Rattle.ib_runs.proofs.session.answer_scan.Goals as goal

pub overflow_sub-pairs : goal.overflow_sub-pairs
overflow_sub-pairs g c =
    let space : SpaceState = g.S.Shared.space c.args.shared.now in
    let a = pairs_more (calls_under g.S.Shared.law space.sizes) g.S.Shared.root space.sizes c.args.low c.args.high c.out.inside.chunks c.read_all.new.chunks c.args.pass.now c.read_all.new.pass c.in_ok-read_all.ensures.read c.list-before.ensures.adjacent c.list.ensures.adjacent in
    let b = ap length c.pairs-pairs_before.ensures.pairs in
    let d = ap length c.pairs.ensures.pairs in omega arith

pub overflow_cast-pairs : goal.overflow_cast-pairs
overflow_cast-pairs g c = let few = c.room.ensures.few_pairs in let d = ap length c.pairs.ensures.pairs in omega arith

pub returns-clause-more : goal.returns-clause-more
returns-clause-more g c =
    let space : SpaceState = g.S.Shared.space c.args.shared.now in
    let sizes : Sizes = space.sizes in
    let law : CallLaw = calls_under g.S.Shared.law sizes in
    let old : KeptAnswers = record { records = c.out.inside.records.items; chunks = c.out.inside.chunks } in
    let new : KeptAnswers = record { records = c.push.new.self.items; chunks = c.read_all.new.chunks } in
    let chunks = length c.list.result.now - length c.list-before.result.now in
    let pairs = length c.pairs.result.now - length c.pairs-pairs_before.result.now in
    let answer : Record = record { call = Scan c.args.low c.args.high; reply = Scanned chunks pairs; place = c.place.result } in
    let a = ap length c.list-before.ensures.list in let b = ap length c.list.ensures.list in
    let d = ap length c.pairs-pairs_before.ensures.pairs in let e = ap length c.pairs.ensures.pairs in
    let x : chunks ≡ length c.read_all.new.chunks.list - length c.out.inside.chunks.list = omega arith in
    let y : pairs ≡ length c.read_all.new.chunks.pairs - length c.out.inside.chunks.pairs = omega arith in
    let is = ap (λ n. record { call = Scan c.args.low c.args.high; reply = Scanned n pairs; place = c.place.result }) x
    ∙ (ap (λ n. record { call = Scan c.args.low c.args.high; reply = Scanned (length c.read_all.new.chunks.list - length c.out.inside.chunks.list) n; place = c.place.result }) y
    ∙ ap (λ n. record { call = Scan c.args.low c.args.high; reply = Scanned (length c.read_all.new.chunks.list - length c.out.inside.chunks.list) (length c.read_all.new.chunks.pairs - length c.out.inside.chunks.pairs); place = n }) c.place.ensures) in
    let whole = subst IsWhole (sym c.out.view_is) c.requires.whole in
    λ guesses. subst (λ (o : KeptAnswers). HasOneMore law guesses sizes (Scan c.args.low c.args.high) o new c.args.pass.now c.read_all.new.pass) c.out.view_is
    (scan_more law g.S.Shared.root guesses sizes c.laws_of.ensures c.args.low c.args.high old new c.args.pass.now c.read_all.new.pass whole answer c.read_all.new.chunks c.requires.may.known c.in_ok-read_all.ensures.read
    c.in_ok-push.ensures.items refl c.list-before.ensures.adjacent c.list.ensures.adjacent is)

pub overflow_sub-list : goal.overflow_sub-list
overflow_sub-list g c =
    let space : SpaceState = g.S.Shared.space c.args.shared.now in
    let a = chunks_more (calls_under g.S.Shared.law space.sizes) g.S.Shared.root space.sizes c.args.low c.args.high c.out.inside.chunks c.read_all.new.chunks c.args.pass.now c.read_all.new.pass c.in_ok-read_all.ensures.read in
    let b = ap length c.list-before.ensures.list in
    let d = ap length c.list.ensures.list in omega arith
