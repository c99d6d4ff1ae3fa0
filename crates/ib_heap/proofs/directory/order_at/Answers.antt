-- The first words decide, or the second ones do.
use Rattle.std.proofs.Common.{◌≡◌, ◌+◌, ◌∙◌, ap, arith, get_or, List, ℕ}
use Rattle.ib_map.proofs.CompareLaws.{first_above, first_below, second_above, second_below}
use Rattle.ib_heap.proofs.OrderLaws.{order-words}
use Rattle.ib_heap.proofs.directory.order_at.Goals as goal

pub returns-then-word-first-clause-order : goal.returns-then-word-first-clause-order
returns-then-word-first-clause-order g c =
    let first = c.words-first.ensures.first in let word = c.word-word.ensures.word in let lt = c.if-word-first.true in
    first_below _ _ c.args.key c.requires.keyed (omega arith)

pub returns-then-word-first-2-clause-order : goal.returns-then-word-first-2-clause-order
returns-then-word-first-2-clause-order g c =
    let first = c.words-first.ensures.first in let word = c.word-word.ensures.word in let gt = c.if-word-first-2.true in
    first_above _ _ c.args.key c.requires.keyed (omega arith)

pub returns-then-rest-second-clause-order : goal.returns-then-rest-second-clause-order
returns-then-rest-second-clause-order g c =
    let ws = g.W.PageWords.words c.args.page.now in let key = c.args.key in
    let one : get_or ws (c.args.offset + 1) 0 ≡ key.first =
    (let first = c.words-first.ensures.first in let word = c.word-word.ensures.word in let ge = c.if-word-first.false in let le = c.if-word-first-2.false in omega arith) in
    let two : c.word-rest.result ≡ get_or ws (c.args.offset + 2) 0 = c.word-rest.ensures.word ∙ ap (λ (xs : List ℕ). get_or xs (c.args.offset + 2) 0) c.word-word.ensures.same in
    second_below _ _ key c.requires.keyed one (let second = c.words-first.ensures.second in let lt = c.if-rest-second.true in omega arith)

pub returns-then-rest-second-2-clause-order : goal.returns-then-rest-second-2-clause-order
returns-then-rest-second-2-clause-order g c =
    let ws = g.W.PageWords.words c.args.page.now in let key = c.args.key in
    let one : get_or ws (c.args.offset + 1) 0 ≡ key.first =
    (let first = c.words-first.ensures.first in let word = c.word-word.ensures.word in let ge = c.if-word-first.false in let le = c.if-word-first-2.false in omega arith) in
    let two : c.word-rest.result ≡ get_or ws (c.args.offset + 2) 0 = c.word-rest.ensures.word ∙ ap (λ (xs : List ℕ). get_or xs (c.args.offset + 2) 0) c.word-word.ensures.same in
    second_above _ _ key c.requires.keyed one (let second = c.words-first.ensures.second in let gt = c.if-rest-second-2.true in omega arith)

pub returns-clause-order : goal.returns-clause-order
returns-clause-order g c =
    let ws = g.W.PageWords.words c.args.page.now in let key = c.args.key in
    let one : get_or ws (c.args.offset + 1) 0 ≡ key.first =
    (let first = c.words-first.ensures.first in let word = c.word-word.ensures.word in let ge = c.if-word-first.false in let le = c.if-word-first-2.false in omega arith) in
    let two : c.word-rest.result ≡ get_or ws (c.args.offset + 2) 0 = c.word-rest.ensures.word ∙ ap (λ (xs : List ℕ). get_or xs (c.args.offset + 2) 0) c.word-word.ensures.same in
    order-words _ _ key one (let second = c.words-first.ensures.second in let ge = c.if-rest-second.false in let le = c.if-rest-second-2.false in omega arith)
