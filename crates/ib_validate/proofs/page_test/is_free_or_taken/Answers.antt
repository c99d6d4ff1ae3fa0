use Rattle.std.proofs.Common.{ap, sym, ◌∙◌}
use Rattle.ib_walk.specs.Pages.{PageState}
use Rattle.ib_validate.specs.PageTests.{bit_of}
use Rattle.ib_validate.proofs.MemoryLaws.{memory_of-page}
use Rattle.ib_validate.proofs.page_test.is_free_or_taken.Goals as goal

pub returns-else-is_taken : goal.returns-else-is_taken
returns-else-is_taken c =
    let page = ap (λ (p : PageState). p.kind) (memory_of-page c.args.after.now c.args.page c.page.result c.requires c.page.ensures c.is_free.ensures.size) in
    (λ t bit. page ∙ c.is_free.ensures.free.0 t, λ h. c.is_free.ensures.free.1 (sym page ∙ h (ap bit_of c.if-is_taken.false)))
