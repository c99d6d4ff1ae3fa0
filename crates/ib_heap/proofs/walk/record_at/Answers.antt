-- Each step goes on to the next record of the chain.
use Rattle.std.proofs.Common.{arith, ◌∙◌, ◌≡◌, ap, sym, Some}
use Rattle.ib_heap.proofs.SeekLaws.{size-of, chain-start, chain-on, chain-within, chain-record, nodes-length}
use Rattle.ib_heap.proofs.walk.record_at.Goals as goal

pub next_word-at-requires : goal.next_word-at-requires
next_word-at-requires c = let size = size-of c.args.words.now c.requires.tree in omega arith

pub loop-step-init : goal.loop-step-init
loop-step-init c = c.next_word-at.ensures.next ∙ chain-start c.args.words.now c.requires.tree

pub next_word-at-requires-in-loop-step : goal.next_word-at-requires-in-loop-step
next_word-at-requires-in-loop-step c =
    let ws = c.args.words.now in
    let size = size-of ws c.requires.tree in let long = nodes-length ws c.requires.tree in let r = c.requires.in_range in let t = c.loop-step-test.true in
    let low = chain-within ws c.loop-step._step c.loop-step.at c.requires.tree (omega arith) c.loop-step.invariant in omega arith

pub loop-step-preserved : goal.loop-step-preserved
loop-step-preserved c =
    let ws = c.args.words.now in
    let long = nodes-length ws c.requires.tree in let r = c.requires.in_range in let t = c.loop-step-test.true in
    c.next_word-at-in-loop-step.ensures.next ∙ chain-on ws c.loop-step._step c.loop-step.at c.requires.tree (omega arith) c.loop-step.invariant

pub record_of-requires : goal.record_of-requires
record_of-requires c =
    let ws = c.args.words.now in
    let size = size-of ws c.requires.tree in let long = nodes-length ws c.requires.tree in let r = c.requires.in_range in let e = c.loop-step-test.false in let most = c.loop-step.auto._step-end in
    let low = chain-within ws c.loop-step._step c.loop-step.at c.requires.tree (omega arith) c.loop-step.invariant in omega arith

pub returns : goal.returns
returns c =
    let ws = c.args.words.now in
    let long = nodes-length ws c.requires.tree in let r = c.requires.in_range in let e = c.loop-step-test.false in let most = c.loop-step.auto._step-end in
    let same : c.loop-step._step ≡ c.args.index = omega arith in
    let there = chain-record ws c.loop-step._step c.loop-step.at c.requires.tree (omega arith) c.loop-step.invariant in
    (rw same at there) ∙ ap Some (sym c.record_of.ensures)
