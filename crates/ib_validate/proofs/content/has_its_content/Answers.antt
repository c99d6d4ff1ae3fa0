use Rattle.std.proofs.Common.{◌∙◌, ap, sym, subst, arith, Option}
use Rattle.ib_walk.specs.Pages.{PageState}
use Rattle.ib_walk.specs.Words.{memory_of}
use Rattle.ib_validate.specs.PatchTest.{Position}
use Rattle.ib_validate.specs.Contents.{HasItsContent}
use Rattle.ib_validate.specs.Positions.{position_if}
use Rattle.ib_validate.proofs.MemoryLaws.{memory_of-page}
use Rattle.ib_validate.proofs.content.has_its_content.Goals as goal

pub returns-in-Some : goal.returns-in-Some
returns-in-Some c =
    let lt = c.requires.in_range in
    let size = c.requires.size in
    let page = ap (λ (p : PageState). p.records) (memory_of-page c.args.after.now c.args.page c.page.result (omega arith) c.page.ensures c.has_content.ensures.size) in
    let there = sym c.position_at.ensures ∙ ap position_if c.in-Some.is in
    let leaf = c.is_leaf.ensures.0 c.if-is_leaf.true in
    let P : Option Position → Type 0 = λ o. HasItsContent (memory_of c.args.after.now) c.args.map.now c.args.page o in
    (λ t. subst P (sym there) (λ tree height. page ∙ c.has_content.ensures.same.0 t), λ h. c.has_content.ensures.same.1 (sym page ∙ subst P there h leaf.0 leaf.1))
