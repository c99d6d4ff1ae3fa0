-- The pass knows more of the page, and nothing else of it is changed.
use Rattle.std.proofs.Common.{◌++◌, refl, ap}
use Rattle.ib_map.specs.declared.TheConstants.{PAGE_WORDS}
use Rattle.ib_rule.specs.declared.memory.Knowledge.{Knowledge}
use Rattle.ib_rule.specs.Loads.{loads_below}
use Rattle.ib_rule.specs.Pass.{PassState}
use Rattle.ib_rule.specs.declared.view.View.{View}
use Rattle.ib_rule.proofs.Passing.{pass_knows}
use Rattle.ib_rule.proofs.Watching.{watching_same}
use Rattle.ib_rule.proofs.space.Space.load_page.Goals as goal

pub load_words-requires-clause-may : goal.load_words-requires-clause-may
load_words-requires-clause-may g c =
    let mine = ap (λ (p : PassState). p.view) c.pass.view_is in
    record {
      role = rw c.pass.invariant.role refl;
      closed = rw mine c.requires.own.closed;
      held = rw mine c.requires.held;
      known = c.pass.invariant.known;
    }

pub invariant_of-pass : goal.invariant_of-pass
invariant_of-pass g c =
    let before : Knowledge = c.pass.inside.seat.me.0.memory in
    let told = c.load_words.ensures in
    let front = c.pass.invariant.front in
    pass_knows c.pass.inside _ (record before { loaded = loads_below c.args.page c.load_words.new.out PAGE_WORDS ++ before.loaded }) c.pass.invariant
    (λ j. (told.view j, told.slots j)) told.known c.pass.invariant.place c.pass.invariant.used c.pass.invariant.made
    record { mine = front.mine; short = front.short; room = front.room }
    refl refl refl refl refl refl
    (watching_same c.pass.inside.looked_after c.pass.inside.seat.me.0 _ (ap (λ (v : View). v.grants) told.view) (ap (λ (v : View). v.session) told.view) (ap (λ (v : View). v.memory.since) told.view) c.pass.invariant.watches)
