use Rattle.std.proofs.Common.{subst, sym}
use Rattle.ib_heap.specs.declared.TheConstants.{MOST_RECORDS}
use Rattle.ib_walk.specs.Pages.{IsSound}
use Rattle.ib_validate.proofs.MemoryLaws.{memory_of-page}
use Rattle.ib_validate.proofs.page_test.is_sound_at.Goals as goal

pub returns-else-page-eq0 : goal.returns-else-page-eq0
returns-else-page-eq0 c =
    let page = memory_of-page c.args.after.now c.args.page c.page.result c.requires c.page.ensures c.is_sound.ensures.size in
    (λ t ne. subst (IsSound MOST_RECORDS) (sym page) (c.is_sound.ensures.sound.0 t), λ h. c.is_sound.ensures.sound.1 (subst (IsSound MOST_RECORDS) page (h c.if-page-eq0.false)))
