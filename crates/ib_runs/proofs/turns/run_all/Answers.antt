use Rattle.std.specs.List.{AllByRecursion}
use Rattle.std.proofs.Common.{◌≡◌, ◌∙◌, ◌+◌, ℕ, List, [], ◌++◌, Some, Vec, Global, map, length, ap, refl, sym, subst, arith}
use Rattle.std.proofs.lemmas.List.{length-map}
use Rattle.ib_layout.specs.Geometry.{Sizes}
use Rattle.ib_rule.specs.Memory.{EndedFact}
use Rattle.ib_rule.specs.Pass.{PassState}
use Rattle.ib_rule.specs.Space.{SpaceState}
use Rattle.ib_rule.specs.Views.{ended_as}
use Rattle.ib_rule.specs.declared.view.Ended.{Ended}
use Rattle.ib_runs.specs.declared.turns.Turn.{Turn}
use Rattle.ib_leaf.specs.Calls.{CallLaw}
use Rattle.ib_runs.specs.Answers.{KeptAnswers}
use Rattle.ib_runs.specs.Guests.{AreGuests}
use Rattle.ib_runs.specs.Shared.{calls_under}
use Rattle.ib_runs.specs.Turns.{AllDone}
use Rattle.ib_runs.proofs.TurnLaws.{all_gone, done_of, ended-parts, if_some}
use Rattle.ib_runs.proofs.turns.run_all.Goals as goal

pub returns-clause-done : goal.returns-clause-done
returns-clause-done g c =
    let opened : SpaceState = g.S.Shared.space c.come_all-turns.new.shared in
    let joined : SpaceState = g.S.Shared.space c.connect.new.shared in
    let old : List (Turn g.row.A-Seat.Denot) = c.come_all-turns.result.items in
    let new : List (Turn g.row.A-Seat.Denot) = c.turn_beside.new.turns.items in
    let passes : List PassState = map (λ (t : Turn g.row.A-Seat.Denot). t.pass) new in
    let guests : List PassState = g.B.Beside.passes c.turn_beside.new.guest in
    let commands = c.args.script.now.commands in
    let calls : Sizes → CallLaw = calls_under g.S.Shared.law in
    let turned = c.turn_beside.ensures.turns in
    let worked = c.turn_beside.ensures.guests in
    let first : opened.drawn ≡ length old = ap (λ (s : SpaceState). s.drawn) c.come_all-turns.ensures.space in
    let next = ap (λ (s : SpaceState). s.drawn) c.in-Ok.ensures.space in
    let none : joined.ended ≡ [] = ap (λ (s : SpaceState). s.ended) c.in-Ok.ensures.space ∙ (ap (λ (s : SpaceState). s.ended) c.come_all-turns.ensures.space ∙ c.requires.new.1) in
    let many : length old ≡ length commands = let f = c.come_all-turns.ensures.few in let b = c.if-len-count.false in let l = c.len.ensures in let s = c.sessions-count.ensures.sessions in omega arith in
    let wide = length-map new (λ (t : Turn g.row.A-Seat.Denot). t.pass) in
    let end : g.S.Shared.space c.leave_all-2.new.shared ≡ record joined { ended = map (λ (p : PassState). ended_as p.view) (passes ++ guests) } =
    c.leave_all-2.ensures.space
    ∙ (ap (λ (s : SpaceState). record s { ended = map (λ (t : Turn g.row.A-Seat.Denot). ended_as t.pass.view) new ++ s.ended }) c.disconnect.ensures.space
    ∙ ap (λ (es : List Ended). record joined { ended = es }) (all_gone new guests joined.ended none)) in
    if_some c.leave_all-2.result (λ (outs : Vec KeptAnswers Global). map (λ (t : Turn g.row.A-Seat.Denot). t.answers) new ≡ map Some outs.items) (λ (outs : Vec KeptAnswers Global). AllDone calls commands outs.items (g.S.Shared.space c.leave_all-2.new.shared))
    (λ outs is e. subst (AllDone calls commands outs.items) (sym end) (record {
      passes = passes;
      guests = guests;
      count = wide ∙ (turned.len ∙ many);
      done = done_of calls joined commands 1 old new outs.items turned.len c.come_all-turns.ensures.numbered turned.turned e;
      beside = subst (λ (n : ℕ). AreGuests n guests) (let l = turned.len in omega arith) (worked.guests (opened.drawn + 1) c.in-Ok.ensures.new);
      drawn = let l = turned.len in let n = worked.count in omega arith;
      ended = refl;
    })) c.leave_all-2.ensures.all

pub returns-clause-holds : goal.returns-clause-holds
returns-clause-holds g c =
    let joined : SpaceState = g.S.Shared.space c.connect.new.shared in
    let new : List (Turn g.row.A-Seat.Denot) = c.turn_beside.new.turns.items in
    let guests : List PassState = g.B.Beside.passes c.turn_beside.new.guest in
    let none : joined.ended ≡ [] = ap (λ (s : SpaceState). s.ended) c.in-Ok.ensures.space ∙ (ap (λ (s : SpaceState). s.ended) c.come_all-turns.ensures.space ∙ c.requires.new.1) in
    let old : SpaceState = g.S.Shared.space c.args.shared.now in
    let sizes : joined.sizes ≡ old.sizes = ap (λ (s : SpaceState). s.sizes) c.in-Ok.ensures.space ∙ ap (λ (s : SpaceState). s.sizes) c.come_all-turns.ensures.space in
    let after : SpaceState = g.S.Shared.space c.leave_all-2.new.shared in
    let end : after.ended ≡ map (λ (p : PassState). ended_as p.view) (map (λ (t : Turn g.row.A-Seat.Denot). t.pass) new ++ guests) =
    ap (λ (s : SpaceState). s.ended) c.leave_all-2.ensures.space
    ∙ (ap (λ (s : SpaceState). map (λ (t : Turn g.row.A-Seat.Denot). ended_as t.pass.view) new ++ s.ended) c.disconnect.ensures.space
    ∙ all_gone new guests joined.ended none) in
    if_some c.leave_all-2.result (λ (outs : Vec KeptAnswers Global). map (λ (t : Turn g.row.A-Seat.Denot). t.answers) new ≡ map Some outs.items) _
    (λ outs is e log all. subst (λ (k : Sizes). g.B.Beside.holds c.turn_beside.new.beside k.pages log) sizes
    (c.turn_beside.ensures.guests.brought log (ended-parts log (map (λ (t : Turn g.row.A-Seat.Denot). t.pass) new) guests (subst (AllByRecursion (EndedFact log)) end all)).1))
    c.leave_all-2.ensures.all
