-- The child of the key is the value that the search found.
use Rattle.std.proofs.Common.{◌<◌, ◌^◌, ℕ, sym, subst, arith}
use Rattle.ib_logrec.specs.Log.{by_place, memory_after}
use Rattle.ib_page.specs.Image.{records_of}
use Rattle.ib_walk.specs.Words.{image_of}
use Rattle.ib_cursor.proofs.PageLaws.{child_read}
use Rattle.ib_cursor.proofs.held_page.HeldPage.child.Goals as goal

pub overflow_cast-result : goal.overflow_cast-result
overflow_cast-result g c =
    let m = c.args.self.now.mtr.now in
    let rs = records_of (image_of (memory_after (by_place g.L.Law.opening m.latches.now.sizes.pages) m.pass.now.view.memory.seen) c.args.self.now.page) in
    let is = child_read c.args.key rs c.child_in.result c.requires.first c.child_in.ensures.value in
    let small : c.child_in.result < 2 ^ 32 = subst (λ (n : ℕ). n < 2 ^ 32) (sym is) c.requires.small in omega arith

pub returns-clause-child : goal.returns-clause-child
returns-clause-child g c =
    let m = c.args.self.now.mtr.now in
    let rs = records_of (image_of (memory_after (by_place g.L.Law.opening m.latches.now.sizes.pages) m.pass.now.view.memory.seen) c.args.self.now.page) in
    child_read c.args.key rs c.child_in.result c.requires.first c.child_in.ensures.value
