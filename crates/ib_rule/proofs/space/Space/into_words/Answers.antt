use Rattle.std.proofs.Common.{◌≡◌, ◌<◌, ◌^◌, List, sym, ap, ◌∙◌, subst, arith}
use Rattle.std.proofs.lemmas.Bool.Decides.{nat_tests}
use Rattle.std.specs.Slots.{slots_items}
use mathlib.Core.Option.{some}
use Rattle.atomic_table.specs.declared.shared.Seat.{Seat}
use Rattle.atomic_table.specs.Table.{Me}
use Rattle.ib_layout.specs.Geometry.{Sizes}
use Rattle.ib_rule.specs.declared.view.Ended.{Ended}
use Rattle.ib_rule.specs.declared.view.View.{View}
use Rattle.ib_rule.specs.Roles.{ended_in}
use Rattle.ib_rule.specs.Views.{space_at}
use Rattle.ib_rule.specs.Space.{SpaceState, rest_ended, Rests}
use Rattle.ib_rule.specs.Closed.{IsClosed}
use Rattle.ib_rule.proofs.Closing.{closes}
use Rattle.ib_rule.proofs.space.Space.into_words.Goals as goal

pub returns : goal.returns
returns g c =
    let sizes : Sizes = c.self.inside.table.shared.key in
    let same_sizes : c.self.inside.geometry ≡ c.args.self.sizes = ap (λ (o : SpaceState). o.sizes) c.self.view_is in
    let drawn : c.self.inside.drawn ≡ c.args.self.drawn = ap (λ (o : SpaceState). o.drawn) c.self.view_is in
    let rests = subst (λ r. Rests c.self.inside.table.shared.table_id c.self.inside.drawn r) c.in-Some.is c.self.invariant.rests in
    let own : ended_in c.in-Some.rest.seat.me.0.role ≡ c.args.self.ended = sym (ap rest_ended c.in-Some.is) ∙ ap (λ (o : SpaceState). o.ended) c.self.view_is in
    let me_is : c.into_seat.result.me.0 ≡ space_at c.self.inside.drawn c.args.self.ended c.in-Some.rest.seat.me.0.grants =
    ap (λ (s : Seat (Unit {0}) View). s.me.0) c.into_seat.ensures ∙ (ap (λ (m : Me (Unit {0}) View). m.0) rests.1 ∙ ap (λ (es : List Ended). space_at c.self.inside.drawn es c.in-Some.rest.seat.me.0.grants) own) in
    let fin = c.close_with.ensures.values.2 in
    let small : sizes.log_words < 2 ^ 32 = let r = c.log_words.ensures.in_range in let w = c.log_words.ensures.words in let k = ap (λ (s : Sizes). s.log_words) c.self.invariant.key in grind (arith, nat_tests) in (
      same_sizes,
      drawn,
      subst (λ k. IsClosed g.L.Law.lawful g.L.Law.opening k (slots_items c.close_with.result.words) c.args.self.ended) (c.self.invariant.key ∙ same_sizes)
          (closes g.L.Law.lawful g.L.Law.opening sizes fin.0 fin.1.0 c.into_seat.result.id c.self.inside.drawn c.args.self.ended c.in-Some.rest.seat.me.0.grants (fin.1.1 ∙ ap some me_is) (c.requires.none ∙ sym drawn) _ (sym fin.2) small),
    )
