-- One more of the leaves in front is given up.
use Rattle.std.proofs.Common.{◌≡◌, ◌+◌, ◌-◌, ◌≤◌, ◌<◌, ◌∙◌, ℕ, suc, subst, arith}
use Rattle.ib_rule.specs.Pass.{PassState}
use Rattle.ib_cursor.proofs.GrantLaws.{released-looks, released-waits}
use Rattle.ib_scan.specs.Steps.{HasFront}
use Rattle.ib_scan.proofs.LeaveLaws.{may_leave, front_there, aside_both, front_step}
use Rattle.ib_scan.proofs.walk.leave_front.Goals as goal

pub release_at-requires-clause-at : goal.release_at-requires-clause-at
release_at-requires-clause-at g c = let h = c.requires.front in front_there (c.args.count - c.loop.counter) h.leaf h.image c.loop.mtr.pass.now (c.loop.invariant.left h)

pub release_at-requires-clause-unchanged : goal.release_at-requires-clause-unchanged
release_at-requires-clause-unchanged g c = let h = c.requires.front in may_leave (c.args.count - c.loop.counter) h.leaf h.image c.loop.mtr.pass.now (c.loop.invariant.left h)

pub loop-preserved : goal.loop-preserved
loop-preserved g c =
    let p : PassState = c.loop.mtr.pass.now in let q : PassState = c.release_at.new.self.pass.now in
    let n : ℕ = c.args.count - (c.loop.counter + 1) in
    let lt : c.loop.counter < c.args.count = c.loop-test.true in
    let e : c.args.count - c.loop.counter ≡ suc n = omega arith in
    let h = c.requires.front in
    let step = front_step n h.leaf h.image p q (subst (λ (k : ℕ). HasFront k h.leaf h.image p) e (c.loop.invariant.left h)) c.release_at.ensures.released in
    record {
      mtr = c.release_at.ensures.still.mtr;
      latches = c.release_at.ensures.still.latches ∙ c.loop.invariant.latches;
      pass = c.release_at.ensures.still.pass ∙ c.loop.invariant.pass;
      few = omega arith;
      left = λ k. (front_step n k.leaf k.image p q (subst (λ (m : ℕ). HasFront m k.leaf k.image p) e (c.loop.invariant.left k)) c.release_at.ensures.released).front;
      aside = aside_both c.args.mtr.now.pass.now p q c.loop.invariant.aside step.aside;
      looks = released-looks 0 p q c.release_at.ensures.released ∙ c.loop.invariant.looks;
      waits = released-waits 0 p q c.release_at.ensures.released ∙ c.loop.invariant.waits;
    }

pub returns-clause-left : goal.returns-clause-left
returns-clause-left g c = λ h.
    let ge : c.args.count ≤ c.loop.counter = c.loop-test.false in
    let e : c.args.count - c.loop.counter ≡ 0 = omega arith in
    subst (λ (k : ℕ). HasFront k h.leaf h.image c.loop.mtr.pass.now) e (c.loop.invariant.left h)
