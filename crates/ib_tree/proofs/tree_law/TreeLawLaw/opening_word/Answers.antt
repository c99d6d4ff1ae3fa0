-- Behind the words of a page the opening has zeros.
use Rattle.std.proofs.Common.{sym, arith}
use Rattle.std.proofs.lemmas.List.{get_or_past}
use Rattle.ib_page.specs.Opening.{opening_words}
use Rattle.ib_walk.proofs.SpaceLaws.{length-opening}
use Rattle.ib_tree.proofs.tree_law.TreeLawLaw.opening_word.Goals as goal

pub returns-else-index-lt-PAGE_WORDS : goal.returns-else-index-lt-PAGE_WORDS
returns-else-index-lt-PAGE_WORDS c =
    sym (get_or_past (opening_words 1 c.args.page) c.args.index 0 (let size = length-opening 1 c.args.page in omega arith))
