-- The step of the member is the event of the state, and keeps what the machine counts.
use Rattle.std.proofs.Common.{◌-◌, length, ap, ◌∙◌, subst, arith}
use Rattle.ib_core.specs.Machine.{Machine, IsGoodState, outcome_of}
use Rattle.ib_core.proofs.Steps.{length_sessions}
use Rattle.ib_core.proofs.OneStep.{can, room, counted, event_of}
use Rattle.ib_core.proofs.machine.Core.step.Goals as goal

pub step-requires-clause-can : goal.step-requires-clause-can
step-requires-clause-can c =
    let view = c.self.view_is in
    let n = length_sessions c.self.inside.members.items in
    let ss = ap (λ (v : Machine). length v.state.sessions) view in let mk = ap (λ (v : Machine). length v.state.marks) view in
    let s = ap (λ (v : Machine). v.steps) view in
    can c.self.inside.members.items c.self.inside.words.items c.self.inside.marks.items c.self.inside.steps c.self.invariant c.args.event (c.args.session - 1) c.latch.result c.latch-2.result (omega arith) c.latch.ensures c.latch-2.ensures (omega arith) c.index_mut-member.result.now c.index_mut-member.ensures.value c.index_mut-word.result.now c.index_mut-word.ensures.value c.index_mut-marks.result.now c.index_mut-marks.ensures.value

pub step-requires-clause-latch : goal.step-requires-clause-latch
step-requires-clause-latch c =
    let view = c.self.view_is in
    let n = length_sessions c.self.inside.members.items in
    let ss = ap (λ (v : Machine). length v.state.sessions) view in let mk = ap (λ (v : Machine). length v.state.marks) view in
    let s = ap (λ (v : Machine). v.steps) view in
    room c.self.inside.members.items c.self.inside.words.items c.self.inside.marks.items c.self.inside.steps c.self.invariant c.args.event (c.args.session - 1) c.latch.result c.latch-2.result (omega arith) c.latch.ensures c.latch-2.ensures (omega arith) c.index_mut-member.result.now c.index_mut-member.ensures.value c.index_mut-word.result.now c.index_mut-word.ensures.value c.index_mut-marks.result.now c.index_mut-marks.ensures.value

pub invariant_of-self : goal.invariant_of-self
invariant_of-self c =
    let view = c.self.view_is in
    let n = length_sessions c.self.inside.members.items in
    let ss = ap (λ (v : Machine). length v.state.sessions) view in let mk = ap (λ (v : Machine). length v.state.marks) view in
    let s = ap (λ (v : Machine). v.steps) view in
    counted c.self.inside.members.items c.self.inside.words.items c.self.inside.marks.items c.self.inside.steps c.self.invariant c.args.event (c.args.session - 1) c.latch.result c.latch-2.result (omega arith) c.latch.ensures c.latch-2.ensures (omega arith) c.index_mut-member.result.now c.index_mut-member.ensures.value c.index_mut-word.result.now c.index_mut-word.ensures.value c.index_mut-marks.result.now c.index_mut-marks.ensures.value
    c.step.result c.step.new.self c.step.new.word c.step.new.marks c.step.ensures.turn c.step.ensures.weighs c.step.ensures.latches (omega arith)

pub returns-clause-event : goal.returns-clause-event
returns-clause-event c =
    let view = c.self.view_is in
    let n = length_sessions c.self.inside.members.items in
    let ss = ap (λ (v : Machine). length v.state.sessions) view in let mk = ap (λ (v : Machine). length v.state.marks) view in
    let s = ap (λ (v : Machine). v.steps) view in
    event_of c.self.inside.members.items c.self.inside.words.items c.self.inside.marks.items c.self.inside.steps c.self.invariant c.args.event (c.args.session - 1) c.latch.result c.latch-2.result (omega arith) c.latch.ensures c.latch-2.ensures (omega arith) c.index_mut-member.result.now c.index_mut-member.ensures.value c.index_mut-word.result.now c.index_mut-word.ensures.value c.index_mut-marks.result.now c.index_mut-marks.ensures.value
    c.step.result c.step.new.self c.step.new.word c.step.new.marks c.step.ensures.turn c.step.ensures.weighs c.step.ensures.latches (omega arith) ∙ ap (λ (v : Machine). outcome_of v.state (c.args.session - 1) c.args.event) view

pub returns-clause-good : goal.returns-clause-good
returns-clause-good c =
    let view = c.self.view_is in
    let n = length_sessions c.self.inside.members.items in
    let ss = ap (λ (v : Machine). length v.state.sessions) view in let mk = ap (λ (v : Machine). length v.state.marks) view in
    let s = ap (λ (v : Machine). v.steps) view in (
      subst (λ (v : Machine). IsGoodState v.state) view c.self.invariant.good,
      (counted c.self.inside.members.items c.self.inside.words.items c.self.inside.marks.items c.self.inside.steps c.self.invariant c.args.event (c.args.session - 1) c.latch.result c.latch-2.result (omega arith) c.latch.ensures c.latch-2.ensures (omega arith) c.index_mut-member.result.now c.index_mut-member.ensures.value c.index_mut-word.result.now c.index_mut-word.ensures.value c.index_mut-marks.result.now c.index_mut-marks.ensures.value
          c.step.result c.step.new.self c.step.new.word c.step.new.marks c.step.ensures.turn c.step.ensures.weighs c.step.ensures.latches (omega arith)).good,
    )
