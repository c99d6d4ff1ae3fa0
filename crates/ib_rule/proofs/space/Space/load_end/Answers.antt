-- The load is allowed by the rule, and tells all that happened since the one before.
use Rattle.std.proofs.Common.{◌≡◌, ℕ, ◌≤◌, ap, arith, refl, subst, sym, ◌∙◌}
use Rattle.std.proofs.lemmas.Bool.Decides.{nat_tests}
use Rattle.ib_layout.specs.Geometry.{Sizes}
use Rattle.ib_logrec.specs.Log.{by_place, used}
use Rattle.ib_rule.specs.declared.view.View.{View}
use Rattle.ib_rule.specs.Pass.{IsWatching, PassState}
use Rattle.ib_rule.specs.Space.{SpaceState}
use Rattle.ib_rule.specs.Stores.{IsLook}
use Rattle.ib_rule.specs.Views.{reaching, total}
use Rattle.ib_rule.proofs.Knowing.{prefix_short}
use Rattle.ib_rule.proofs.Looking.{looked}
use Rattle.ib_rule.proofs.Passing.{pass_knows}
use Rattle.ib_rule.proofs.Watching.{watching_all}
use Rattle.ib_rule.proofs.Seeing.{end_allowed}
use Rattle.ib_rule.proofs.space.Space.load_end.Goals as goal

pub act-end-requires-clause-allowed : goal.act-end-requires-clause-allowed
act-end-requires-clause-allowed g c = end_allowed g.L.Law.lawful g.L.Law.opening _ _ _ _ _ (rw c.pass.invariant.role (λ e. absurd (cc)))

pub returns-clause-looked : goal.returns-clause-looked
returns-clause-looked g c =
    let sizes : Sizes = c.self.inside.table.shared.key in
    let mine = ap (λ (p : PassState). p.view) c.pass.view_is in
    let same_sizes = c.self.invariant.key ∙ ap (λ (o : SpaceState). o.sizes) c.self.view_is in
    subst (λ (z : Sizes × View). IsLook z.0 (g.L.Law.lawful z.0.pages) z.1 c.act-end.new.seat.me.0.memory.seen) (λ j. (same_sizes j, mine j))
    (looked sizes (g.L.Law.lawful sizes.pages) (by_place g.L.Law.opening sizes.pages) c.pass.inside.seat.me.0 c.act-end.result c.act-end.new.seat.me.0.memory.seen c.act-end.ensures.told.0.view.1)

pub invariant_of-pass : goal.invariant_of-pass
invariant_of-pass g c =
    let i = c.pass.invariant in
    let told = c.act-end.ensures.told in
    let shows = told.0.view.1 in
    let log = c.act-end.new.seat.me.0.memory.seen in
    let same_sizes = c.self.invariant.key ∙ (ap (λ (o : SpaceState). o.sizes) c.self.view_is ∙ (sym c.requires.own.1 ∙ sym (ap (λ (p : PassState). p.sizes) c.pass.view_is))) in
    let few = c.log_words-pass-inside.ensures.in_range in
    let small : c.log_words-pass-inside.result ≤ 16777216 = grind (arith, nat_tests) in
    let here : c.log_words-pass-inside.result ≡ c.pass.inside.geometry.log_words = c.log_words-pass-inside.ensures.words in
    let room : used log ≤ c.pass.inside.geometry.log_words = subst (λ (z : Sizes). used log ≤ z.log_words) same_sizes shows.room in
    let end = shows.end in
    pass_knows c.pass.inside _ (reaching log c.pass.inside.seat.me.0).memory i (λ j. (told.0.view.0 j, told.1 j)) told.0.known (omega arith) (omega arith) i.made
    record { mine = (let m = i.front.mine in let l = prefix_short c.pass.inside.seat.me.0.memory.seen log shows.longer in omega arith); short = shows.few; room = room }
    refl refl refl refl refl refl
    (subst (λ (z : ℕ × View). IsWatching z.0 z.1) (λ j. (sym (ap total i.counts) j, sym told.0.view.0 j)) (watching_all log c.pass.inside.seat.me.0))
