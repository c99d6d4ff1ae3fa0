-- One line more is loaded.
use Rattle.std.proofs.Common.{◌≡◌, ℕ, ◌+◌, ◌*◌, ◌<◌, refl, sym, ap, ◌∙◌, subst, arith}
use Rattle.ib_core.specs.declared.session.Session.{Session}
use Rattle.ib_core.specs.Sessions.{holdings}
use Rattle.ib_logrec.specs.Log.{by_place}
use Rattle.ib_rule.specs.declared.loads.TheConstants.{LINE_WORDS}
use Rattle.ib_rule.specs.declared.view.Role.{Role}
use Rattle.ib_rule.specs.declared.view.Role.TheVariants.{Session as Seated}
use Rattle.ib_rule.specs.declared.view.View.{View}
use Rattle.ib_rule.specs.Loads.{HasLoaded}
use Rattle.ib_rule.specs.Roles.{session_number_of}
use Rattle.ib_rule.proofs.Loading.{has_none}
use Rattle.ib_rule.proofs.loads.load_words.Goals as goal

pub loop-line-init : goal.loop-line-init
loop-line-init g c = record {
  table = refl;
  id = refl;
  slots = refl;
  known = c.requires.may.known;
  loaded = has_none (by_place g.L.Law.opening c.args.shared.now.key.pages) c.args.page c.args.seat.now.me.0 c.args.out.now;
}

pub load_line-requires-clause-may : goal.load_line-requires-clause-may
load_line-requires-clause-may g c =
    let same = c.loop-line.invariant.loaded.view in
    record {
      role = subst (λ (r : Role). r ≡ Seated (session_number_of r)) (sym (ap (λ (v : View). v.role) same)) c.requires.may.role;
      closed = ap (λ (v : View). v.memory.append) same ∙ c.requires.may.closed;
      held = subst (λ (a : Session). 0 < holdings (c.args.page + 2) a) (sym (ap (λ (v : View). v.session) same)) c.requires.may.held;
      known = c.loop-line.invariant.known;
    }

pub loop-line-preserved : goal.loop-line-preserved
loop-line-preserved g c =
    let before = c.loop-line.invariant in
    let told = c.load_line.ensures in
    let n : ℕ = c.loop-line.line in
    let more : n * LINE_WORDS + LINE_WORDS ≡ (n + 1) * LINE_WORDS = omega arith in
    record {
      table = told.own.0 ∙ before.table;
      id = told.own.1 ∙ before.id;
      slots = told.slots ∙ before.slots;
      known = told.known;
      loaded = subst (λ (k : ℕ). HasLoaded (by_place g.L.Law.opening c.args.shared.now.key.pages) c.args.page c.args.seat.now.me.0 c.load_line.new.out k c.load_line.new.seat.me.0) more (told.loaded c.args.seat.now.me.0 before.loaded);
    }
