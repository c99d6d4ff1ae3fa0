use Rattle.std.proofs.Common.{◌≤◌, ap, ◌∙◌, sym, subst, arith}
use Rattle.ib_core.specs.declared.session.Session.{Session}
use Rattle.ib_core.specs.Sessions.{claims, holdings}
use Rattle.ib_core.proofs.OnLatch.{counted}
use Rattle.ib_rule.specs.Pass.{PassState}
use Rattle.ib_rule.proofs.pass.Pass.counts.Goals as goal

pub counts-counts-requires : goal.counts-counts-requires
counts-counts-requires c = subst (λ a. holdings c.args.latch.0 a ≤ 1) (sym c.self.invariant.session) (c.self.invariant.proper.single c.args.latch.0)

pub returns-clause-claims : goal.returns-clause-claims
returns-clause-claims c =
    let same = c.self.invariant.session ∙ ap (λ (p : PassState). p.view.session) c.self.view_is in
    let sum = counted c.args.latch.0 c.self.inside.member.session (subst (λ a. holdings c.args.latch.0 a ≤ 1) (sym c.self.invariant.session) (c.self.invariant.proper.single c.args.latch.0)) in
    let sx = c.counts-counts.ensures.sx in let x = c.counts-counts.ensures.x in let from_sx = c.from-2.ensures in let from_x = c.from-3.ensures in
    let here = ap (λ (a : Session). claims c.args.latch.0 a) same in let e = sum.claimed in omega arith
