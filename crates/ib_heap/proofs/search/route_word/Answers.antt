-- The key's own record, or the last one before its offset.
use Rattle.std.proofs.Common.{arith, ap}
use Rattle.ib_map.specs.Keys.{rank}
use Rattle.ib_heap.proofs.SeekLaws.{known}
use Rattle.ib_heap.proofs.FindLaws.{at-low, before-low, absent-at, routed-at, routed-before, routed-not_above}
use Rattle.ib_heap.proofs.search.route_word.Goals as goal

pub returns-then-cursor-clause-record : goal.returns-then-cursor-clause-record
returns-then-cursor-clause-record g c =
    let ws = g.W.PageWords.words c.args.page.now in let kn = known ws c.requires.page.tree in let se = c.seek-cursor.ensures in
    let there = se.found c.if-cursor.true in
    routed-at ws c.args.key c.seek-cursor.result.before c.seek-cursor.result.at kn se.before se.at there.0 there.1

pub returns-then-cursor-clause-in_page : goal.returns-then-cursor-clause-in_page
returns-then-cursor-clause-in_page g c =
    let ws = g.W.PageWords.words c.args.page.now in let se = c.seek-cursor.ensures in
    at-low ws c.args.key c.seek-cursor.result.before c.seek-cursor.result.at (known ws c.requires.page.tree) se.before se.at

pub returns-clause-record : goal.returns-clause-record
returns-clause-record g c =
    let ws = g.W.PageWords.words c.args.page.now in let kn = known ws c.requires.page.tree in let se = c.seek-cursor.ensures in
    routed-before ws c.args.key c.seek-cursor.result.before c.seek-cursor.result.at kn se.before se.at
    (absent-at ws c.args.key c.seek-cursor.result.before c.seek-cursor.result.at kn se.before se.at (se.other c.if-cursor.false)) c.requires.first

pub returns-clause-in_page : goal.returns-clause-in_page
returns-clause-in_page g c =
    let ws = g.W.PageWords.words c.args.page.now in let se = c.seek-cursor.ensures in
    before-low ws c.args.key c.seek-cursor.result.before c.seek-cursor.result.at (known ws c.requires.page.tree) se.before se.at

pub returns-then-cursor-clause-not_above : goal.returns-then-cursor-clause-not_above
returns-then-cursor-clause-not_above g c =
    let se = c.seek-cursor.ensures in
    let there = se.found c.if-cursor.true in
    let same = ap rank there.1 in omega arith

pub returns-clause-not_above : goal.returns-clause-not_above
returns-clause-not_above g c =
    let ws = g.W.PageWords.words c.args.page.now in let kn = known ws c.requires.page.tree in let se = c.seek-cursor.ensures in
    routed-not_above ws c.args.key c.seek-cursor.result.before c.seek-cursor.result.at kn se.before se.at
    (absent-at ws c.args.key c.seek-cursor.result.before c.seek-cursor.result.at kn se.before se.at (se.other c.if-cursor.false)) c.requires.first
