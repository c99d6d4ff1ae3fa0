-- The state of the page is that of its words.
use Rattle.std.proofs.Common.{◌∙◌, ap, sym}
use Rattle.ib_logrec.specs.Log.{by_place, memory_after}
use Rattle.ib_walk.proofs.ImageLaws.{pages_of-image}
use Rattle.ib_cursor.specs.Guesses.{leaf_standing}
use Rattle.ib_cursor.proofs.held_page.HeldPage.leaf_standing.Goals as goal

pub returns-clause-standing : goal.returns-clause-standing
returns-clause-standing g c =
    let m = c.args.self.now.mtr.now in
    c.leaf_standing_in.ensures.standing
    ∙ sym (ap (leaf_standing c.args.key) (pages_of-image (memory_after (by_place g.L.Law.opening m.latches.now.sizes.pages) m.pass.now.view.memory.seen) c.args.self.now.page))
