-- One more record, or none that goes on.
use Rattle.std.proofs.Common.{arith, ◌∙◌, ◌≡◌, ◌+◌, ◌-◌, ◌%◌, sym, ap, Bool, ◌&&◌, get_or}
use Rattle.ib_heap.specs.Chain.{offsets_of, chain_from}
use Rattle.ib_heap.specs.Walks.{are_new, met_with, first_step, chain_holds}
use Rattle.ib_heap.proofs.FormedLoops.{chain-new, chain-met, chain-more, chain-not, chain-bad, chain-last}
use Rattle.ib_heap.proofs.formed.has_chain.Goals as goal

pub loop-i-init : goal.loop-i-init
loop-i-init c =
    let ws = c.args.words.now in
    let all : c.args.count - 0 ≡ c.args.count = omega arith in
    record {
      holds = ap (λ m. are_new c.args.n c.args.met.now (offsets_of (chain_from ws m (get_or ws 18 0 % 256))) && chain_holds ws m (first_step ws)) all;
      meets = ap (λ m. met_with c.args.met.now (offsets_of (chain_from ws m (get_or ws 18 0 % 256)))) all;
      offsets = c.requires.met_offsets;
      owned = omega arith;
      last = omega arith;
    }

pub returns-then-not-meet-clause-holds : goal.returns-then-not-meet-clause-holds
returns-then-not-meet-clause-holds c =
    let t = c.loop-i-test.true in
    sym (sym c.loop-i.invariant.holds ∙ chain-not c.args.words.now c.loop-i.met c.args.n c.args.count c.loop-i.i c.loop-i.step (omega arith) (sym c.meet.ensures.is_new ∙ c.if-not-meet.true))

pub returns-in-None-clause-holds : goal.returns-in-None-clause-holds
returns-in-None-clause-holds c =
    let t = c.loop-i-test.true in
    sym (sym c.loop-i.invariant.holds ∙ chain-bad c.args.words.now c.loop-i.met c.args.n c.args.count c.loop-i.i c.loop-i.step (omega arith) c.in-None.ensures)

pub loop-i-preserved : goal.loop-i-preserved
loop-i-preserved c =
    let t = c.loop-i-test.true in
    let ws = c.args.words.now in
    let left = c.in-Some.ensures in
    let i = c.loop-i.invariant in
    let met = c.meet.ensures.meets c.if-not-meet.false in
    let new = chain-new ws c.loop-i.met c.meet.new.met c.args.n c.args.count c.loop-i.i c.loop-i.step.at c.in-Some.next.at (omega arith) (sym c.meet.ensures.is_new ∙ c.if-not-meet.false) met left.at in
    let more = chain-more ws c.args.count c.loop-i.i c.loop-i.step c.in-Some.next (omega arith) left in
    record {
      holds = ap (λ (b : Bool). b && chain_holds ws (c.args.count - (c.loop-i.i + 1)) c.in-Some.next) (sym new)
          ∙ (ap (λ (b : Bool). are_new c.args.n c.loop-i.met (offsets_of (chain_from ws (c.args.count - c.loop-i.i) c.loop-i.step.at)) && b) (sym more) ∙ i.holds);
      meets = sym (chain-met ws c.loop-i.met c.meet.new.met c.args.count c.loop-i.i c.loop-i.step.at c.in-Some.next.at (omega arith) met left.at) ∙ i.meets;
      offsets = c.meet.ensures.offsets;
      owned = (let o = left.owned in let p = i.owned in omega arith);
      last = left.last;
    }

pub returns-clause-holds : goal.returns-clause-holds
returns-clause-holds c =
    let t = c.loop-i-test.false in
    c.is_end.ensures ∙ (chain-last c.args.words.now c.loop-i.met c.args.n c.args.count c.loop-i.i c.loop-i.step (omega arith) ∙ c.loop-i.invariant.holds)
