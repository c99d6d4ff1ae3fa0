-- The holding that is found has all the grants.
use Rattle.std.proofs.Common.{sym}
use Rattle.ib_core.proofs.OnLatch.{on-found, on-not_found}
use Rattle.ib_core.proofs.holdings.grants_on.Goals as goal

pub returns-in-Some-clause-s : goal.returns-in-Some-clause-s
returns-in-Some-clause-s c = sym (on-found c.args.latch.0 (λ h. h.s) c.args.held.now c.in-Some.h c.requires (cc))

pub returns-in-Some-clause-sx : goal.returns-in-Some-clause-sx
returns-in-Some-clause-sx c = sym (on-found c.args.latch.0 (λ h. h.sx) c.args.held.now c.in-Some.h c.requires (cc))

pub returns-in-Some-clause-x : goal.returns-in-Some-clause-x
returns-in-Some-clause-x c = sym (on-found c.args.latch.0 (λ h. h.x) c.args.held.now c.in-Some.h c.requires (cc))

pub returns-in-None-clause-s : goal.returns-in-None-clause-s
returns-in-None-clause-s c = sym (on-not_found c.args.latch.0 (λ h. h.s) c.args.held.now (cc))

pub returns-in-None-clause-sx : goal.returns-in-None-clause-sx
returns-in-None-clause-sx c = sym (on-not_found c.args.latch.0 (λ h. h.sx) c.args.held.now (cc))

pub returns-in-None-clause-x : goal.returns-in-None-clause-x
returns-in-None-clause-x c = sym (on-not_found c.args.latch.0 (λ h. h.x) c.args.held.now (cc))
