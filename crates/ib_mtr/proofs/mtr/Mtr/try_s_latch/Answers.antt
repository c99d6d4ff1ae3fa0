-- Refused, the pass is as it was but for looks; granted, the memo and the session have one grant more.
use Rattle.std.proofs.Common.{rules, List, ◌+◌, refl, subst, sym}
use Rattle.ib_levels.specs.declared.holding.Holding.{Holding}
use Rattle.ib_levels.specs.declared.level.Mode.TheVariants.{S}
use Rattle.ib_levels.proofs.Counts.{on-none}
use Rattle.ib_core.specs.declared.phase.Phase.TheVariants.{Free}
use Rattle.ib_latch.specs.Tries.{HasTakenGrant}
use Rattle.ib_latch.proofs.Claims.{held_first}
use Rattle.ib_mtr.proofs.Keeping.{granted, memo_room, refused}
use Rattle.ib_mtr.proofs.mtr.Mtr.try_s_latch.Goals as goal

pub returns-in_err-try_s-clause-still : goal.returns-in_err-try_s-clause-still
returns-in_err-try_s-clause-still g c =
    let mtr = refused c.args.self.now.latches.now c.args.self.now.pass.now c.try_s.new.pass _ c.requires.mtr (search rules) c.in_err-try_s.ensures.refused in
    record { mtr = mtr; latches = refl; pass = refl }

pub remember-requires-clause-room : goal.remember-requires-clause-room
remember-requires-clause-room g c =
    memo_room c.args.self.now.latches.now c.args.self.now.pass.now c.try_s.new.pass c.requires.mtr c.requires.may.grows (search rules)

pub returns-clause-still : goal.returns-clause-still
returns-clause-still g c =
    let l = c.args.latch.0 in let a = c.args.self.now.pass.now.view.session in let v = c.args.level in
    let taken = subst (λ (held : List Holding). HasTakenGrant S held Free c.args.self.now.pass.now.view c.try_s.new.pass.view) (sym (held_first S l v a (on-none l (λ h. h.sx + h.x) a.held c.requires.may.may.none))) (c.in_ok-try_s.ensures.taken refl) in
    let mtr = granted c.args.self.now.latches.now c.args.self.now.pass.now c.try_s.new.pass c.remember.new.self S c.args.latch c.args.level c.requires.mtr c.requires.may.latch
    (search rules) taken c.remember.ensures.session c.remember.ensures.more in
    record { mtr = mtr; latches = refl; pass = refl }
