-- Where the walk ends is the offset of the key.
use Rattle.std.proofs.Common.{arith, ◌∙◌, ◌-◌, inl, sym}
use Rattle.ib_heap.proofs.SeekLaws.{known, walk-start, walk-low, walk-keyed, walk-before, walk-at, walk-on, walk-full, walk-steps}
use Rattle.ib_heap.proofs.OrderLaws.{order-below, order-lt, standing-found, standing-from, standing-other, standing-record}
use Rattle.ib_heap.proofs.search.seek.Goals as goal

pub loop-steps-init : goal.loop-steps-init
loop-steps-init g c =
    let ws = g.W.PageWords.words c.args.page.now in
    let first = c.slot_of-slot.ensures.still.same in
    let second = c.owner-before.ensures.still.same ∙ first in
    let before = rw first at c.owner-before.ensures.offset in
    let next = rw second at c.next_offset-at.ensures.next in
    let some = c.slot_of-slot.ensures.some in
    let range = c.slot_of-slot.ensures.in_range in
    let all = g.met.W.PageWords.read_more in
    record {
      same = c.next_offset-at.ensures.still.same ∙ second;
      can = c.next_offset-at.ensures.still.can;
      read = all _ _ _ c.slot_of-slot.ensures.still.read (all _ _ _ c.owner-before.ensures.still.read c.next_offset-at.ensures.still.read);
      walk = walk-start ws c.args.key (c.slot_of-slot.result - 1) c.owner-before.result c.next_offset-at.result (known ws c.requires.tree) c.slot_of-slot.ensures.low (before (omega arith)) next;
    }

pub standing-order-requires-clause-in_page : goal.standing-order-requires-clause-in_page
standing-order-requires-clause-in_page g c = walk-low _ c.args.key _ _ _ _ (known _ c.requires.tree) c.loop-steps.invariant.walk

pub standing-order-requires-clause-keyed : goal.standing-order-requires-clause-keyed
standing-order-requires-clause-keyed g c = λ ne. rw c.loop-steps.invariant.same (walk-keyed _ c.args.key _ _ _ _ (known _ c.requires.tree) c.loop-steps.invariant.walk ne)

pub next_offset-at-requires-in-loop-steps-clause-in_page : goal.next_offset-at-requires-in-loop-steps-clause-in_page
next_offset-at-requires-in-loop-steps-clause-in_page g c = walk-low _ c.args.key _ _ _ _ (known _ c.requires.tree) c.loop-steps.invariant.walk

pub returns-then-is_ge-clause-before : goal.returns-then-is_ge-clause-before
returns-then-is_ge-clause-before g c =
    let order = rw c.loop-steps.invariant.same at c.standing-order.ensures.order in
    let ends = standing-from _ _ _ _ c.standing-order.ensures.supremum order (sym c.is_ge.ensures ∙ c.if-is_ge.true) in
    walk-before _ c.args.key _ _ _ _ (known _ c.requires.tree) c.loop-steps.invariant.walk ends

pub returns-then-is_ge-clause-at : goal.returns-then-is_ge-clause-at
returns-then-is_ge-clause-at g c =
    let order = rw c.loop-steps.invariant.same at c.standing-order.ensures.order in
    let ends = standing-from _ _ _ _ c.standing-order.ensures.supremum order (sym c.is_ge.ensures ∙ c.if-is_ge.true) in
    walk-at _ c.args.key _ _ _ _ (known _ c.requires.tree) c.loop-steps.invariant.walk ends

pub loop-steps-preserved : goal.loop-steps-preserved
loop-steps-preserved g c =
    let ws = g.W.PageWords.words c.args.page.now in
    let first = c.standing-order.ensures.still.same ∙ c.loop-steps.invariant.same in
    let order = rw c.loop-steps.invariant.same at c.standing-order.ensures.order in
    let lower = sym c.is_ge.ensures ∙ c.if-is_ge.false in
    let record_there = standing-record _ _ c.standing-order.ensures.supremum lower in
    let next = rw first at c.next_offset-at-in-loop-steps.ensures.next in
    let all = g.met.W.PageWords.read_more in
    record {
      same = c.next_offset-at-in-loop-steps.ensures.still.same ∙ first;
      can = c.next_offset-at-in-loop-steps.ensures.still.can;
      read = all _ _ _ c.loop-steps.invariant.read (all _ _ _ c.standing-order.ensures.still.read c.next_offset-at-in-loop-steps.ensures.still.read);
      walk = walk-on ws c.args.key _ c.loop-steps.before c.loop-steps.at c.loop-steps.steps _ (known ws c.requires.tree) c.loop-steps.invariant.walk record_there (order-below _ _ _ (order record_there) (order-lt _ lower)) next;
    }

pub returns-clause-before : goal.returns-clause-before
returns-clause-before g c = walk-before _ c.args.key _ _ _ _ (known _ c.requires.tree) c.loop-steps.invariant.walk (inl (walk-full _ _ _ _ _ _ (known _ c.requires.tree) c.loop-steps.invariant.walk (omega arith)))

pub returns-clause-at : goal.returns-clause-at
returns-clause-at g c = walk-at _ c.args.key _ _ _ _ (known _ c.requires.tree) c.loop-steps.invariant.walk (inl (walk-full _ _ _ _ _ _ (known _ c.requires.tree) c.loop-steps.invariant.walk (omega arith)))

pub returns-then-is_ge-clause-steps : goal.returns-then-is_ge-clause-steps
returns-then-is_ge-clause-steps g c =
    let order = rw c.loop-steps.invariant.same at c.standing-order.ensures.order in
    let ends = standing-from _ _ _ _ c.standing-order.ensures.supremum order (sym c.is_ge.ensures ∙ c.if-is_ge.true) in
    walk-steps _ c.args.key _ _ _ _ (known _ c.requires.tree) c.loop-steps.invariant.walk ends

pub returns-clause-steps : goal.returns-clause-steps
returns-clause-steps g c =
    let w = c.loop-steps.invariant.walk in
    let e = walk-steps _ c.args.key _ _ _ _ (known _ c.requires.tree) w (inl (walk-full _ _ _ _ _ _ (known _ c.requires.tree) w (omega arith))) in
    omega arith

pub returns-then-is_ge-clause-found : goal.returns-then-is_ge-clause-found
returns-then-is_ge-clause-found g c = λ yes.
    let order = rw c.loop-steps.invariant.same at c.standing-order.ensures.order in
    standing-found _ _ _ _ c.standing-order.ensures.supremum order (sym c.is_eq.ensures ∙ yes)

pub returns-then-is_ge-clause-other : goal.returns-then-is_ge-clause-other
returns-then-is_ge-clause-other g c = λ no.
    let order = rw c.loop-steps.invariant.same at c.standing-order.ensures.order in
    standing-other _ _ _ _ order (sym c.is_eq.ensures ∙ no)

pub returns-clause-other : goal.returns-clause-other
returns-clause-other g c = λ no. inl (walk-full _ _ _ _ _ _ (known _ c.requires.tree) c.loop-steps.invariant.walk (omega arith))
