-- The load tells what was seen, and the page.
use Rattle.std.proofs.Common.{◌≡◌, subst, ap}
use Rattle.ib_logrec.specs.Log.{by_place}
use Rattle.ib_rule.specs.declared.view.Role.TheVariants.{Session}
use Rattle.ib_rule.specs.Pass.{PassState}
use Rattle.ib_cursor.proofs.ClaimLaws.{looked_on_loaded}
use Rattle.ib_cursor.proofs.latch_page.read.Goals as goal

pub returns-clause-looked_on : goal.returns-clause-looked_on
returns-clause-looked_on g c =
    let key = c.args.mtr.now.latches.now.sizes in
    looked_on_loaded key (g.L.Law.lawful key.pages) (by_place g.L.Law.opening key.pages) c.args.page c.args.mtr.now.pass.now c.load.new.self.pass.now
    (subst (λ (r : PassState). r.view.role ≡ Session r.number) c.pass.ensures c.number.ensures.session) c.load.ensures.loaded

pub returns-clause-loaded : goal.returns-clause-loaded
returns-clause-loaded g c = record {
  image = c.load.ensures.loaded.image;
  size = c.load.ensures.loaded.size;
  is_page = c.load.ensures.loaded.is_page;
  work = ap (λ (r : PassState). r.work) c.load.ensures.loaded.pass;
}
