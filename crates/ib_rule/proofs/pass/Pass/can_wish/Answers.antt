use Rattle.std.proofs.Common.{ap, ◌∙◌, sym}
use Rattle.ib_levels.specs.Holding.{is_held}
use Rattle.ib_core.specs.declared.session.Session.{Session}
use Rattle.ib_rule.specs.Pass.{PassState}
use Rattle.ib_rule.proofs.Wishing.{no_wish_held, wish_by_answer}
use Rattle.ib_rule.proofs.pass.Pass.can_wish.Goals as goal

pub returns-in-Free : goal.returns-in-Free
returns-in-Free c =
    let same = c.self.invariant.session ∙ ap (λ (p : PassState). p.view.session) c.self.view_is in
    let holds = c.holds.ensures ∙ ap (λ (a : Session). is_held c.args.latch.0 a.held) same in
    wish_by_answer c.args.latch.0 c.args.level c.args.self.now.view.session c.is_ok.result c.may_take.result (sym c.in-Free.ensures) (sym holds ∙ c.if-not-holds.true) c.is_ok.ensures.value c.may_take.ensures

pub returns-in_default : goal.returns-in_default
returns-in_default c =
    let same = c.self.invariant.session ∙ ap (λ (p : PassState). p.view.session) c.self.view_is in
    let holds = c.holds.ensures ∙ ap (λ (a : Session). is_held c.args.latch.0 a.held) same in
    no_wish_held c.args.latch.0 c.args.level c.args.self.now.view.session (sym holds ∙ c.if-not-holds.false)
