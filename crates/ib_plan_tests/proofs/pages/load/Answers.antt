-- The page that is read in has its image in the memory.
use Rattle.std.proofs.Common.{sym, subst}
use Rattle.ib_page.specs.Work.{WorkPage, changed_of}
use Rattle.std.specs.Prelude.{IfSome, List}
use Rattle.ib_plan_tests.specs.Reads.{IsImageAt}
use Rattle.ib_plan_tests.proofs.ReadLaws.{put-at}
use Rattle.ib_plan_tests.proofs.pages.load.Goals as goal

pub returns : goal.returns
returns g c page =
    let image = c.image_at-image.result.now in
    let own : IsImageAt c.args.memory.now c.args.page image = record {
      is = c.image_at-image.ensures.words;
      clock = c.check_clocks.ensures.clock;
      space_clock = c.check_clocks.ensures.space_clock;
    } in
    subst (λ (work : List WorkPage). IfSome (changed_of page work) (IsImageAt c.args.memory.now page)) (sym c.add.ensures.added)
    (put-at (IsImageAt c.args.memory.now page) (record { page = c.args.page; before = image; changed = image }) c.args.work.now page
    (λ e. subst (λ n. IsImageAt c.args.memory.now n image) e own) (c.requires page))
