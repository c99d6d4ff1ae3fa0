-- The mark of a page is right.
use Rattle.std.proofs.Common.{◌<◌, ◌∙◌, ℕ, List, length, sym, subst, arith, [], false}
use Rattle.std.proofs.lemmas.List.{get_or_default}
use Rattle.ib_page.specs.Image.{IsFormed}
use Rattle.ib_validate.proofs.PositionLaws.{marks_of-at}
use Rattle.ib_validate.proofs.pages.Pages.page.Goals as goal

pub invariant_of-result : goal.invariant_of-result
invariant_of-result c =
    let lt : c.args.page < length c.self.inside.images.now = subst (λ (v : List (List ℕ)). c.args.page < length v) (sym c.self.view_is) c.requires in
    let right = c.self.invariant.right c.args.page lt in
    let mark = marks_of-at c.self.inside.forms.now c.args.page false (let size = c.self.invariant.size in omega arith) in
    let image = c.index-images-page.is ∙ get_or_default c.self.inside.images.now c.args.page c.index-images-page.result [] lt in (
      λ t. subst IsFormed (sym image) (right.0 (mark ∙ t)),
      λ h. sym mark ∙ right.1 (subst IsFormed image h),
    )
