-- Each load is allowed by the rule, and tells one word more.
use Rattle.std.proofs.Common.{◌≡◌, ℕ, ◌+◌, ◌<◌, List, length, sym, ap, ◌∙◌, subst, arith}
use Rattle.ib_map.specs.declared.TheConstants.{PAGE_WORDS}
use Rattle.ib_core.specs.declared.session.Session.{Session}
use Rattle.ib_core.specs.Sessions.{holdings}
use Rattle.ib_logrec.specs.Log.{by_place}
use Rattle.ib_rule.specs.declared.view.View.{View}
use Rattle.ib_rule.specs.Loads.{HasLoaded}
use Rattle.ib_rule.proofs.Loading.{has_more, only_loads}
use Rattle.ib_rule.proofs.Seeing.{page_allowed_at}
use Rattle.ib_rule.proofs.loads.load_line.Goals as goal

pub act-word-requires-clause-allowed : goal.act-word-requires-clause-allowed
act-word-requires-clause-allowed g c =
    let same = c.loop-offset.invariant.same in
    let test = c.loop-offset-test.true in
    page_allowed_at g.L.Law.lawful g.L.Law.opening _ _ _ _ _ (rw (ap (λ (v : View). v.role) same ∙ c.requires.may.role) (λ e. absurd (cc))) _ c.args.page (c.args.from + c.loop-offset.offset)
    (omega arith)
    c.requires.page
    (omega arith)
    (ap (λ (v : View). v.memory.append) same ∙ c.requires.may.closed)
    (subst (λ (a : Session). 0 < holdings (c.args.page + 2) a) (sym (ap (λ (v : View). v.session) same)) c.requires.may.held)

pub loop-offset-preserved : goal.loop-offset-preserved
loop-offset-preserved g c =
    let before = c.loop-offset.invariant in
    let told = c.act-word.ensures.told in
    let size = c.set_word.ensures.size in
    let test = c.loop-offset-test.true in
    let opening = by_place g.L.Law.opening c.args.shared.now.key.pages in
    let now : View = c.loop-offset.seat.me.0 in
    let next : View = c.act-word.new.seat.me.0 in
    let o : ℕ = c.loop-offset.offset in
    let i : ℕ = c.args.from + o in
    let room : i < length c.loop-offset.out = omega arith in
    let small : i < PAGE_WORDS = omega arith in
    let more : i + 1 ≡ c.args.from + (o + 1) = omega arith in
    record {
      table = c.act-word.ensures.own.0 ∙ before.table;
      id = c.act-word.ensures.own.1 ∙ before.id;
      same = only_loads c.args.seat.now.me.0 now next _ c.act-word.result before.same told.0.view.0;
      slots = told.1 ∙ before.slots;
      known = told.0.known;
      loaded = λ start at.
          subst (λ (z : List ℕ × ℕ). HasLoaded opening c.args.page start z.0 z.1 next) (λ j. (sym c.set_word.ensures.word j, more j))
          (has_more opening c.args.page start now next i c.act-word.result c.loop-offset.out room small told.0.view.0 told.0.view.1 (before.loaded start at));
    }
