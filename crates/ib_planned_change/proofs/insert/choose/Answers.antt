-- The images are those of every kept log that they are behind, and so are the needed pages and the free ones.
use Rattle.std.proofs.Common.{ap, arith, length}
use Rattle.ib_planned_change.proofs.ChooseLaws.{agrees-here, image-there, is-fresh, is-high, is-space, path-trees}
use Rattle.ib_planned_change.proofs.DescentLaws.{way-length}
use Rattle.ib_page.specs.Work.{changed_of}
use Rattle.ib_walk.specs.Words.{bits_of}
use Rattle.ib_logrec.specs.Log.{memory_after, by_place}
use Rattle.ib_tree.specs.TreeLog.{opening}
use Rattle.ib_planned_log.specs.LeafChange.{kept_pages}
use Rattle.ib_planned_change.proofs.insert.choose.Goals as goal

pub pages_needed-requires-clause-some : goal.pages_needed-requires-clause-some
pages_needed-requires-clause-some c = λ none.
    let s = c.requires.some in let l = way-length s.0 c.args.images.now s.1 c.args.key c.args.path.now (c.requires.path s.0 s.1) in let z = ap length none in absurd (omega arith)

pub pages_needed-requires-clause-there : goal.pages_needed-requires-clause-there
pages_needed-requires-clause-there c =
    let s = c.requires.some in path-trees s.0 c.args.images.now s.1 c.args.key c.args.path.now (c.requires.path s.0 s.1) c.args.work.now c.requires.copies c.requires.there

pub returns-in_default-clause-refused : goal.returns-in_default-clause-refused
returns-in_default-clause-refused c = λ log value b.
    let start = by_place opening (length c.args.images.now) in
    let agrees = agrees-here log c.args.images.now b c.args.key c.args.path.now (c.requires.path log b) c.args.work.now c.requires.copies in
    let high = c.in_default.ensures.needed (length c.args.images.now) 1 c.args.key (kept_pages (length c.args.images.now) log) (bits_of (length c.args.images.now) (memory_after start log)) agrees in
    is-high log c.args.images.now b c.args.key value high.0

pub returns-in_default-choose_pages-clause-refused : goal.returns-in_default-choose_pages-clause-refused
returns-in_default-choose_pages-clause-refused c = λ log value b.
    let start = by_place opening (length c.args.images.now) in
    let agrees = agrees-here log c.args.images.now b c.args.key c.args.path.now (c.requires.path log b) c.args.work.now c.requires.copies in
    let needs = c.in-Ok.ensures.needed (length c.args.images.now) 1 c.args.key (kept_pages (length c.args.images.now) log) (bits_of (length c.args.images.now) (memory_after start log)) agrees in
    let image = image-there (changed_of 0 c.args.work.now) c.requires.space in
    let short = c.in_default-choose_pages.ensures.short image.0 image.1 in
    is-space log c.args.images.now b c.args.key c.args.path.now (c.requires.path log b) c.args.work.now c.requires.copies image.0 image.1 c.in-Ok.need needs.0 needs.1 value short.1

pub returns-clause-fresh : goal.returns-clause-fresh
returns-clause-fresh c = λ log b.
    let start = by_place opening (length c.args.images.now) in
    let agrees = agrees-here log c.args.images.now b c.args.key c.args.path.now (c.requires.path log b) c.args.work.now c.requires.copies in
    let needs = c.in-Ok.ensures.needed (length c.args.images.now) 1 c.args.key (kept_pages (length c.args.images.now) log) (bits_of (length c.args.images.now) (memory_after start log)) agrees in
    let image = image-there (changed_of 0 c.args.work.now) c.requires.space in
    let chosen = c.in-Ok-choose_pages.ensures.chosen image.0 image.1 in
    (needs.0, is-fresh log c.args.images.now b c.args.key c.args.path.now (c.requires.path log b) c.args.work.now c.requires.copies image.0 image.1 c.in-Ok.need needs.0 needs.1 c.in-Ok-choose_pages.fresh chosen.0 chosen.1)
