-- Where a latch was refused, all is given back.
use Rattle.std.proofs.Common.{arith}
use Rattle.ib_map.proofs.KeyLaws.{rank-lt_end}
use Rattle.ib_layout.specs.Geometry.{Sizes}
use Rattle.ib_logrec.specs.Log.{by_place}
use Rattle.ib_cursor.specs.Refusals.{IsHeldByInsert, TakesFor}
use Rattle.ib_cursor.proofs.RefusalLaws.{given_up, looks_two, without_work}
use Rattle.ib_cursor.proofs.nowait_claim.descend_to_insert_nowait.Goals as goal

pub take_to_insert-requires-clause-sought : goal.take_to_insert-requires-clause-sought
take_to_insert-requires-clause-sought g c = record { some = c.requires.root.some; there = c.requires.root.there; is_key = rank-lt_end c.args.key }

pub give_back-requires : goal.give_back-requires
give_back-requires g c = without_work c.take_to_insert.new.mtr.latches.now c.take_to_insert.new.mtr.pass.now c.take_to_insert.ensures.still.mtr

pub returns-in-Err-clause-refused : goal.returns-in-Err-clause-refused
returns-in-Err-clause-refused g c =
    let sizes : Sizes = c.args.mtr.now.latches.now.sizes in
    given_up sizes (g.L.Law.lawful sizes.pages) (TakesFor (IsHeldByInsert c.args.root c.args.key) (by_place g.L.Law.opening sizes.pages) c.args.root c.args.key) (record { s = 8; sx = 1; x = 10 }) c.in-Err.fault c.args.mtr.now.pass.now c.take_to_insert.new.mtr.pass.now c.give_back.new.self.pass.now c.in-Err.ensures.refusal c.give_back.ensures.given c.give_back.ensures.idle

pub returns-in-Err-clause-few : goal.returns-in-Err-clause-few
returns-in-Err-clause-few g c =
    let sizes : Sizes = c.args.mtr.now.latches.now.sizes in
    let v = given_up sizes (g.L.Law.lawful sizes.pages) (TakesFor (IsHeldByInsert c.args.root c.args.key) (by_place g.L.Law.opening sizes.pages) c.args.root c.args.key) (record { s = 8; sx = 1; x = 10 }) c.in-Err.fault c.args.mtr.now.pass.now c.take_to_insert.new.mtr.pass.now c.give_back.new.self.pass.now c.in-Err.ensures.refusal c.give_back.ensures.given c.give_back.ensures.idle in
    let few = v.refusal.few.most in let tried = looks_two c.in-Err.fault in let a = v.refusal.grants.s in let b = v.refusal.grants.sx in let d = v.refusal.grants.x in omega arith
