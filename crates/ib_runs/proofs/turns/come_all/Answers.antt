use Rattle.std.proofs.Common.{get_or, ◌≡◌, ◌+◌, ◌∙◌, List, [], ◌∷◌, ◌++◌, All, None, map, length, ap, sym, subst, arith, length-append}
use Rattle.std.proofs.lemmas.List.{map-append, length-map}
use Rattle.std.proofs.lemmas.List.Elements.{All-push}
use Rattle.ib_rule.specs.Space.{SpaceState}
use Rattle.ib_rule.specs.Views.{seated}
use Rattle.ib_rule.specs.declared.view.Role.TheVariants.{Session}
use Rattle.ib_rule.specs.declared.view.View.{View}
use Rattle.ib_runs.specs.declared.turns.Turn.{Turn}
use Rattle.ib_runs.specs.Turns.{AreNumbered, HasNotBegun}
use Rattle.ib_runs.proofs.TurnLaws.{numbered_push}
use Rattle.ib_runs.proofs.turns.come_all.Goals as goal

pub loop-before-preserved : goal.loop-before-preserved
loop-before-preserved g c =
    let start : SpaceState = g.S.Shared.space c.args.shared.now in
    let now : SpaceState = g.S.Shared.space c.loop-before.shared in
    let i = c.loop-before.invariant in
    let pass = c.in-Ok.ensures.pass in
    let A = g.A.Access in
    let old : List (Turn g.row.A-Seat.Denot) = c.loop-before.turns.items in
    let t : Turn g.row.A-Seat.Denot = record { pass = c.in-Ok.pass; seat = c.connect-in-Ok.result; answers = None } in
    let items : c.push_reserved.new.self.items ≡ old ++ t ∷ [] = c.push_reserved.ensures.items ∙ ap (λ (ts : List (Turn g.row.A-Seat.Denot)). ts ++ t ∷ []) c.reserve.ensures.items in
    let count : length c.push_reserved.new.self.items ≡ length old + 1 = ap length items ∙ length-append old (t ∷ []) in
    let drawn : now.drawn ≡ length old = ap (λ (s : SpaceState). s.drawn) i.space in
    let number : c.in-Ok.pass.number ≡ now.drawn + 1 = pass.1 in
    let few = i.few in
    let more = c.loop-before-test.true in
    record {
      serves = λ pages s. c.connect-in-Ok.ensures.serves pages (i.serves pages s);
      drawn = let d = c.connect-in-Ok.ensures.drawn in let e = i.drawn in omega arith;
      sits = subst (All (λ (u : Turn g.row.A-Seat.Denot). A.sits c.connect-in-Ok.new.self u.seat)) (sym items) (All-push (λ (u : Turn g.row.A-Seat.Denot). A.sits c.connect-in-Ok.new.self u.seat) old t (λ k d lt. c.connect-in-Ok.ensures.others (get_or old k d).seat (i.sits k d lt)) c.connect-in-Ok.ensures.sits);
      space = c.in-Ok.ensures.drawn ∙ (ap (λ (s : SpaceState). record s { drawn = now.drawn + 1 }) i.space ∙ ap (λ n. record start { drawn = n }) (omega arith));
      few = omega arith;
      numbered = subst (AreNumbered 1) (sym (ap (map (λ (u : Turn g.row.A-Seat.Denot). u.pass)) items ∙ map-append (λ (u : Turn g.row.A-Seat.Denot). u.pass) old (t ∷ [])))
          (numbered_push 1 (map (λ (u : Turn g.row.A-Seat.Denot). u.pass) old) c.in-Ok.pass i.numbered (let l = length-map old (λ (u : Turn g.row.A-Seat.Denot). u.pass) in omega arith));
      ready = subst (All (λ (u : Turn g.row.A-Seat.Denot). HasNotBegun start c.args.count u.pass)) (sym items)
          (All-push (λ (u : Turn g.row.A-Seat.Denot). HasNotBegun start c.args.count u.pass) old t i.ready
          (record {
            rest = record {
              own = record { table = pass.0.table ∙ ap (λ (s : SpaceState). s.table) i.space; sizes = pass.0.sizes ∙ ap (λ (s : SpaceState). s.sizes) i.space; closed = pass.0.closed };
              idle = ap (λ (v : View). v.session) pass.2;
              scratch = pass.3;
            };
            some = omega arith;
            most = omega arith;
            view = pass.2 ∙ ap (λ n. seated (Session n)) (sym pass.1);
          }));
    }
