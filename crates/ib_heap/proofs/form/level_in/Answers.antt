-- The level is a word of the header.
use Rattle.std.proofs.Common.{◌∙◌, arith}
use Rattle.ib_heap.proofs.FormLaws.{formed-tree, header_read}
use Rattle.ib_heap.proofs.form.level_in.Goals as goal

pub overflow_cast-result : goal.overflow_cast-result
overflow_cast-result g c = let ws = g.W.PageWords.words c.args.page.now in let h = header_read ws (formed-tree ws c.requires.tree) in let w = c.word.ensures.word in omega arith

pub returns-clause-level : goal.returns-clause-level
returns-clause-level g c = let ws = g.W.PageWords.words c.args.page.now in c.word.ensures.word ∙ (header_read ws (formed-tree ws c.requires.tree)).level

pub returns-clause-low : goal.returns-clause-low
returns-clause-low g c = let ws = g.W.PageWords.words c.args.page.now in let h = header_read ws (formed-tree ws c.requires.tree) in let w = c.word.ensures.word in omega arith
