-- A word of the image is the word at its place.
use Rattle.std.proofs.Common.{◌∙◌, sym}
use Rattle.ib_logrec.specs.Log.{by_place, memory_after}
use Rattle.ib_walk.proofs.ImageLaws.{word_of_image}
use Rattle.ib_cursor.proofs.held_page.HeldPagePageWords.word.Goals as goal

pub returns-clause-word : goal.returns-clause-word
returns-clause-word g c =
    let m = c.args.self.now.mtr.now in
    c.word_at.ensures.word ∙ sym (word_of_image (memory_after (by_place g.L.Law.opening m.latches.now.sizes.pages) m.pass.now.view.memory.seen) c.args.self.now.page c.args.index c.requires.index)
