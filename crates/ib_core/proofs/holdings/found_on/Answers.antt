-- The holding at the place that is found has all the grants.
use Rattle.std.proofs.Common.{sym}
use Rattle.ib_core.proofs.AtHeld.{is_held_at, on-held_at, on-none_held}
use Rattle.ib_core.proofs.holdings.found_on.Goals as goal

pub returns-in-Some-clause-s : goal.returns-in-Some-clause-s
returns-in-Some-clause-s c = sym (on-held_at c.args.latch.0 (λ h. h.s) c.args.held.now c.in-Some.at _ (is_held_at c.args.latch.0 c.args.held.now c.in-Some.at (cc) c.in-Some.ensures.within) c.requires)

pub returns-in-Some-clause-sx : goal.returns-in-Some-clause-sx
returns-in-Some-clause-sx c = sym (on-held_at c.args.latch.0 (λ h. h.sx) c.args.held.now c.in-Some.at _ (is_held_at c.args.latch.0 c.args.held.now c.in-Some.at (cc) c.in-Some.ensures.within) c.requires)

pub returns-in-Some-clause-x : goal.returns-in-Some-clause-x
returns-in-Some-clause-x c = sym (on-held_at c.args.latch.0 (λ h. h.x) c.args.held.now c.in-Some.at _ (is_held_at c.args.latch.0 c.args.held.now c.in-Some.at (cc) c.in-Some.ensures.within) c.requires)

pub returns-in-Some-clause-index : goal.returns-in-Some-clause-index
returns-in-Some-clause-index c = λ _. is_held_at c.args.latch.0 c.args.held.now c.in-Some.at (cc) c.in-Some.ensures.within

pub returns-in-None-clause-s : goal.returns-in-None-clause-s
returns-in-None-clause-s c = sym (on-none_held c.args.latch.0 (λ h. h.s) c.args.held.now (cc))

pub returns-in-None-clause-sx : goal.returns-in-None-clause-sx
returns-in-None-clause-sx c = sym (on-none_held c.args.latch.0 (λ h. h.sx) c.args.held.now (cc))

pub returns-in-None-clause-x : goal.returns-in-None-clause-x
returns-in-None-clause-x c = sym (on-none_held c.args.latch.0 (λ h. h.x) c.args.held.now (cc))
