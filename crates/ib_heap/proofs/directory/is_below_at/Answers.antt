-- The first words decide, or the second ones do.
use Rattle.std.proofs.Common.{◌≡◌, ◌+◌, ◌∙◌, ap, refl, arith, inl, inr, get_or, List, ℕ}
use Rattle.std.proofs.lemmas.Bool.{cases_eq, cases_lt, false≢true, lt-ltb, ltb-true}
use Rattle.ib_map.specs.Keys.{rank}
use Rattle.ib_map.proofs.CompareLaws.{first_above, first_below, second_above, second_below}
use Rattle.ib_heap.proofs.OrderLaws.{order-words}
use Rattle.ib_heap.proofs.directory.is_below_at.Goals as goal

pub returns-then-word-first-clause-below : goal.returns-then-word-first-clause-below
returns-then-word-first-clause-below g c =
    let first = c.words-first.ensures.first in let word = c.word-word.ensures.word in let lt = c.if-word-first.true in
    (λ _. first_below _ _ c.args.key c.requires.keyed (omega arith), λ _. refl)

pub returns-then-word-first-2-clause-below : goal.returns-then-word-first-2-clause-below
returns-then-word-first-2-clause-below g c =
    let first = c.words-first.ensures.first in let word = c.word-word.ensures.word in let gt = c.if-word-first-2.true in
    (λ no. absurd (false≢true no), λ below. absurd (let above = first_above _ _ c.args.key c.requires.keyed (omega arith) in omega arith))

pub returns-clause-below : goal.returns-clause-below
returns-clause-below g c =
    let ws = g.W.PageWords.words c.args.page.now in let key = c.args.key in
    let one : get_or ws (c.args.offset + 1) 0 ≡ key.first =
    (let first = c.words-first.ensures.first in let word = c.word-word.ensures.word in let ge = c.if-word-first.false in let le = c.if-word-first-2.false in omega arith) in
    let two : c.word.result ≡ get_or ws (c.args.offset + 2) 0 = c.word.ensures.word ∙ ap (λ (xs : List ℕ). get_or xs (c.args.offset + 2) 0) c.word-word.ensures.same in
    let second = c.words-first.ensures.second in (
      λ yes. second_below _ _ key c.requires.keyed one (let lt = ltb-true _ _ yes in omega arith),
      λ below. elim (cases_lt (get_or ws (c.args.offset + 2) 0) key.second) [
        | inl lt ↦ lt-ltb _ _ (omega arith)
        | inr ge ↦ absurd (elim (cases_eq (get_or ws (c.args.offset + 2) 0) key.second) [
          | inl e ↦ let same = ap rank (order-words _ _ key one e) in omega arith
          | inr ne ↦ let above = second_above _ _ key c.requires.keyed one (omega arith) in omega arith
        ])
      ],
    )
