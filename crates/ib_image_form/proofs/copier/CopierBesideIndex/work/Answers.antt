-- The copy is one of each log of which what was seen is a front.
use Rattle.std.proofs.Common.{◌∙◌, ap, refl, sym}
use Rattle.ib_rule.specs.declared.view.Role.TheVariants.{Session}
use Rattle.ib_image_form.proofs.CopyLaws.{copy-of-longer}
use Rattle.ib_image_form.proofs.copier.CopierBesideIndex.work.Goals as goal

pub returns : goal.returns
returns g c =
    let copied = c.copy_pages.ensures.copy in
    record {
      still = λ pages served. copied.copied.size ∙ (sym c.requires.served ∙ served);
      count = refl;
      rest = (c.copy_pages.ensures.rest, tt);
      guests = λ n new.
          let number = c.copy_pages.ensures.number ∙ new.0.number in
          (record { number = number; role = c.copy_pages.ensures.role ∙ ap (λ k. Session k) number; unchanged = c.copy_pages.ensures.unchanged }, tt);
      brought = λ log ended. copy-of-longer c.copy_pages.new.copy c.args.index.now.sizes.pages c.copy_pages.new.pass.view.memory.seen log ended.0.0 copied;
    }
