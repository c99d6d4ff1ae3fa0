-- The record at the offset where the key stands, or its neighbours.
use Rattle.std.proofs.Common.{◌≡◌, ◌∙◌, ◌+◌, ap, sym, get_or, List, ℕ, length, Option, Some}
use Rattle.ib_map.specs.Keys.{end_rank, rank}
use Rattle.ib_map.specs.Pairs.{index_of, value_at}
use Rattle.ib_heap.specs.Image.{records_of}
use Rattle.ib_heap.specs.Standing.{standing_at}
use Rattle.ib_heap.proofs.SeekLaws.{known}
use Rattle.ib_heap.proofs.FindLaws.{at-low, found, absent-at}
use Rattle.ib_heap.proofs.WithinLaws.{within-by}
use Rattle.ib_heap.proofs.StandingLaws.{stands-between, stands-first, stands-last}
use Rattle.ib_heap.proofs.search.standing_in.Goals.{then-cursor-eq-INFIMUM-via-then-cursor-eq-INFIMUM, then-cursor-eq-INFIMUM-via-else-cursor-eq-INFIMUM+then-cursor-eq-SUPREMUM}
use Rattle.ib_heap.proofs.search.standing_in.Goals as goal

pub value_word-requires-clause-in_page : goal.value_word-requires-clause-in_page
value_word-requires-clause-in_page g c =
    let ws = g.W.PageWords.words c.args.page.now in let se = c.seek-cursor.ensures in
    at-low ws c.args.key c.seek-cursor.result.before c.seek-cursor.result.at (known ws c.requires.tree) se.before se.at

pub returns-then-cursor-clause-standing : goal.returns-then-cursor-clause-standing
returns-then-cursor-clause-standing g c =
    let ws = g.W.PageWords.words c.args.page.now in let kn = known ws c.requires.tree in let se = c.seek-cursor.ensures in
    let there = se.found c.if-cursor.true in
    let value : Some c.value_word.result ≡ value_at c.args.key (records_of ws) =
    ap (λ n. Some n) (c.value_word.ensures.value ∙ ap (λ (xs : List ℕ). get_or xs (c.seek-cursor.result.at + 3) 0) se.still.same)
    ∙ sym (found ws c.args.key c.seek-cursor.result.before c.seek-cursor.result.at kn se.before se.at there.0 (ap rank there.1)) in
    ap (λ (o : Option ℕ). standing_at o (index_of c.args.key (records_of ws)) (length (records_of ws))) value

pub returns-then-cursor-clause-within : goal.returns-then-cursor-clause-within
returns-then-cursor-clause-within g c =
    let ws = g.W.PageWords.words c.args.page.now in
    within-by c.args.key 0 (records_of ws) end_rank (known ws c.requires.tree).rises _ (returns-then-cursor-clause-standing g c)

pub returns-then-cursor-eq-INFIMUM-clause-standing : goal.returns-then-cursor-eq-INFIMUM-clause-standing
returns-then-cursor-eq-INFIMUM-clause-standing g c =
    let ws = g.W.PageWords.words c.args.page.now in let kn = known ws c.requires.tree in let se = c.seek-cursor.ensures in
    let absent = absent-at ws c.args.key c.seek-cursor.result.before c.seek-cursor.result.at kn se.before se.at (se.other c.if-cursor.false) in
    elim c.then-cursor-eq-INFIMUM.branch [
      | then-cursor-eq-INFIMUM-via-then-cursor-eq-INFIMUM w ↦ stands-first ws c.args.key c.seek-cursor.result.before c.seek-cursor.result.at kn se.before se.at absent w.if-cursor-eq-INFIMUM.true
      | then-cursor-eq-INFIMUM-via-else-cursor-eq-INFIMUM+then-cursor-eq-SUPREMUM w ↦ stands-last ws c.args.key c.seek-cursor.result.before c.seek-cursor.result.at kn se.before se.at absent w.if-cursor-eq-SUPREMUM.true
    ]

pub returns-then-cursor-eq-INFIMUM-clause-within : goal.returns-then-cursor-eq-INFIMUM-clause-within
returns-then-cursor-eq-INFIMUM-clause-within g c =
    let ws = g.W.PageWords.words c.args.page.now in
    within-by c.args.key 0 (records_of ws) end_rank (known ws c.requires.tree).rises _ (returns-then-cursor-eq-INFIMUM-clause-standing g c)

pub returns-clause-standing : goal.returns-clause-standing
returns-clause-standing g c =
    let ws = g.W.PageWords.words c.args.page.now in let kn = known ws c.requires.tree in let se = c.seek-cursor.ensures in
    let absent = absent-at ws c.args.key c.seek-cursor.result.before c.seek-cursor.result.at kn se.before se.at (se.other c.if-cursor.false) in
    stands-between ws c.args.key c.seek-cursor.result.before c.seek-cursor.result.at kn se.before se.at absent c.if-cursor-eq-INFIMUM.false c.if-cursor-eq-SUPREMUM.false

pub returns-clause-within : goal.returns-clause-within
returns-clause-within g c =
    let ws = g.W.PageWords.words c.args.page.now in
    within-by c.args.key 0 (records_of ws) end_rank (known ws c.requires.tree).rises _ (returns-clause-standing g c)
