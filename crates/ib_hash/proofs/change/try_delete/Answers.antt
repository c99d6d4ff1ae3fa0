-- There is no guess, or it was tried.
use Rattle.std.proofs.Common.{◌∙◌, ap, refl}
use Rattle.ib_hash.specs.Pass.{looked_at}
use Rattle.ib_hash.proofs.change.try_delete.Goals as goal

pub returns-then-page-eq0-clause-tried : goal.returns-then-page-eq0-clause-tried
returns-then-page-eq0-clause-tried g c = record {
  guess = c.load_guess-page.result;
  steps = c.load_guess-page.ensures.looked ∙ ap (λ n. looked_at n c.load_guess-page.result c.args.gp.now) c.slot_of.ensures.slot;
  tried = (c.if-page-eq0.true, refl);
}

pub returns-clause-tried : goal.returns-clause-tried
returns-clause-tried g c = record {
  guess = c.load_guess-page.result;
  steps = c.load_guess-page.ensures.looked ∙ ap (λ n. looked_at n c.load_guess-page.result c.args.gp.now) c.slot_of.ensures.slot;
  tried = c.delete_by_guess.ensures.tried;
}
