-- The index is tried in SX, and then the log's end looked at.
use Rattle.std.proofs.Common.{◌∷◌, ◌++◌, [], ◌∙◌, subst, ap}
use Rattle.ib_core.specs.declared.session.Session.{Session}
use Rattle.ib_rule.specs.declared.memory.Knowledge.{Knowledge}
use Rattle.ib_rule.specs.Pass.{PassState}
use Rattle.ib_rule.specs.Views.{is_watched}
use Rattle.ib_cursor.specs.Claims.{claim_grant}
use Rattle.ib_cursor.specs.Grants.{hold_of}
use Rattle.ib_cursor.specs.Shapes.{HasLookedOn}
use Rattle.ib_cursor.proofs.GrantLaws.{none_granted, may_take_index}
use Rattle.ib_cursor.proofs.LatchingLaws.{latched_by}
use Rattle.ib_cursor.proofs.RefusalLaws.{few_same}
use Rattle.ib_cursor.proofs.nowait_claim.try_claim.Goals as goal

pub try_take-requires-clause-may : goal.try_take-requires-clause-may
try_take-requires-clause-may g c = may_take_index c.args.mtr.now.latches.now c.args.mtr.now.pass.now c.requires.mtr c.requires.memo c.requires.room

pub returns-in-Ok-clause-latched : goal.returns-in-Ok-clause-latched
returns-in-Ok-clause-latched g c =
    let key = c.args.mtr.now.latches.now.sizes in
    let p = c.args.mtr.now.pass.now in let q = c.try_take.new.mtr.pass.now in let r = c.look.new.mtr.pass.now in
    let same = ap (λ m. m.now.sizes) c.try_take.ensures.still.latches in
    let looked_on = subst (λ k. HasLookedOn k (g.L.Law.lawful k.pages) q r) same c.look.ensures.looked_on in
    latched_by key (g.L.Law.lawful key.pages) claim_grant p q r c.in-Ok.ensures.taken looked_on.seen
    c.look.ensures.memo c.look.ensures.session c.look.ensures.grants c.look.ensures.work

pub returns-in-Ok-clause-claimed : goal.returns-in-Ok-clause-claimed
returns-in-Ok-clause-claimed g c =
    let p : PassState = c.args.mtr.now.pass.now in
    let idle = none_granted c.args.mtr.now.latches.now p c.requires.mtr c.requires.memo in
    let held = ap (λ (a : Session). a.held) c.in-Ok.ensures.taken.taken.session ∙ ap (λ (a : Session). a.held ++ hold_of claim_grant ∷ []) idle.session in
    c.look.ensures.started (ap (λ (m : Knowledge). is_watched 1 m.since) c.in-Ok.ensures.taken.taken.memory ∙ c.requires.unwatched) held

pub returns-in-Ok-clause-few : goal.returns-in-Ok-clause-few
returns-in-Ok-clause-few g c = few_same 0 c.args.mtr.now.pass.now.view c.try_take.new.mtr.pass.now.view c.look.new.mtr.pass.now.view c.look.ensures.looks c.look.ensures.grants c.in-Ok.ensures.few
