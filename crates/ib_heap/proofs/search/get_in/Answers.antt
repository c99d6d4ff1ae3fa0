-- The record at the offset where the key stands, or none.
use Rattle.std.proofs.Common.{◌∙◌, ◌+◌, ap, sym, get_or, List, ℕ, Some}
use Rattle.ib_map.specs.Keys.{rank}
use Rattle.ib_heap.proofs.SeekLaws.{known}
use Rattle.ib_heap.proofs.FindLaws.{at-low, found, absent-at}
use Rattle.ib_heap.proofs.search.get_in.Goals as goal

pub value_word-requires-clause-in_page : goal.value_word-requires-clause-in_page
value_word-requires-clause-in_page g c =
    let ws = g.W.PageWords.words c.args.page.now in let se = c.seek-cursor.ensures in
    at-low ws c.args.key c.seek-cursor.result.before c.seek-cursor.result.at (known ws c.requires.tree) se.before se.at

pub returns-then-cursor-clause-value : goal.returns-then-cursor-clause-value
returns-then-cursor-clause-value g c =
    let ws = g.W.PageWords.words c.args.page.now in let kn = known ws c.requires.tree in let se = c.seek-cursor.ensures in
    let same = se.still.same in
    let there = se.found c.if-cursor.true in
    ap (λ n. Some n) (c.value_word.ensures.value ∙ ap (λ (xs : List ℕ). get_or xs (c.seek-cursor.result.at + 3) 0) same)
    ∙ sym (found ws c.args.key c.seek-cursor.result.before c.seek-cursor.result.at kn se.before se.at there.0 (ap rank there.1))

pub returns-clause-value : goal.returns-clause-value
returns-clause-value g c =
    let ws = g.W.PageWords.words c.args.page.now in let kn = known ws c.requires.tree in let se = c.seek-cursor.ensures in
    sym (absent-at ws c.args.key c.seek-cursor.result.before c.seek-cursor.result.at kn se.before se.at (se.other c.if-cursor.false))
