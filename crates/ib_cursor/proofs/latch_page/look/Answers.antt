-- A look tells what was seen, and keeps a claim.
use Rattle.std.proofs.Common.{◌≡◌, subst}
use Rattle.ib_logrec.specs.Log.{by_place}
use Rattle.ib_rule.specs.declared.view.Role.TheVariants.{Session}
use Rattle.ib_rule.specs.Pass.{PassState}
use Rattle.ib_cursor.proofs.ClaimLaws.{looked_on_by, started_by}
use Rattle.ib_cursor.proofs.latch_page.look.Goals as goal

pub returns-clause-looked_on : goal.returns-clause-looked_on
returns-clause-looked_on g c =
    let key = c.args.mtr.now.latches.now.sizes in
    looked_on_by key (g.L.Law.lawful key.pages) (by_place g.L.Law.opening key.pages) c.args.mtr.now.pass.now c.log_end.new.self.pass.now (subst (λ (r : PassState). r.view.role ≡ Session r.number) c.pass.ensures c.number.ensures.session) c.log_end.ensures.looked

pub returns-clause-started : goal.returns-clause-started
returns-clause-started g c =
    let key = c.args.mtr.now.latches.now.sizes in
    started_by key (g.L.Law.lawful key.pages) (by_place g.L.Law.opening key.pages) c.args.mtr.now.pass.now c.log_end.new.self.pass.now c.log_end.ensures.looked
