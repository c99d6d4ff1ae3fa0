-- The leaf is loaded, or all is given back.
use Rattle.std.proofs.Common.{inl, inr, ap, arith}
use Rattle.ib_map.proofs.KeyLaws.{rank-lt_end}
use Rattle.ib_layout.specs.Geometry.{Sizes}
use Rattle.ib_logrec.specs.Log.{by_place}
use Rattle.ib_rule.specs.declared.looks.Looks.{Looks}
use Rattle.ib_cursor.specs.Refusals.{TakesForLeaf}
use Rattle.ib_cursor.proofs.RefusalLaws.{few_same, given_up, looks_two, without_work}
use Rattle.ib_cursor.proofs.nowait_descent.descend_to_change_nowait.Goals as goal

pub reach_leaf_to_change-requires-clause-sought : goal.reach_leaf_to_change-requires-clause-sought
reach_leaf_to_change-requires-clause-sought g c = record { some = c.requires.root.some; there = c.requires.root.there; is_key = rank-lt_end c.args.key }

pub load_end-requires-clause-sought : goal.load_end-requires-clause-sought
load_end-requires-clause-sought g c = record { some = c.requires.root.some; there = c.requires.root.there; is_key = rank-lt_end c.args.key }

pub returns-in-Ok-clause-few : goal.returns-in-Ok-clause-few
returns-in-Ok-clause-few g c =
    let few = c.in-Ok.ensures.few.most in let d = c.in-Ok.ensures.reached in let same = ap (λ (k : Looks). k.count) c.load_end.ensures.looks in
    let s = d.s in let sx = d.sx in
    elim (d.x Rattle.std.proofs.Common.refl) [ inl x ↦ omega arith | inr x ↦ let y = x.0 in omega arith ]

pub returns-in-Ok-clause-twice : goal.returns-in-Ok-clause-twice
returns-in-Ok-clause-twice g c =
    few_same 0 c.args.mtr.now.pass.now.view c.reach_leaf_to_change.new.mtr.pass.now.view c.load_end.new.mtr.pass.now.view c.load_end.ensures.looks c.load_end.ensures.grants c.in-Ok.ensures.few

pub give_back-requires : goal.give_back-requires
give_back-requires g c = without_work c.reach_leaf_to_change.new.mtr.latches.now c.reach_leaf_to_change.new.mtr.pass.now c.reach_leaf_to_change.ensures.still.mtr

pub returns-in-Err-clause-refused : goal.returns-in-Err-clause-refused
returns-in-Err-clause-refused g c =
    let sizes : Sizes = c.args.mtr.now.latches.now.sizes in
    given_up sizes (g.L.Law.lawful sizes.pages) (TakesForLeaf (by_place g.L.Law.opening sizes.pages) c.args.root c.args.key) (record { s = 9; sx = 0; x = 1 }) c.in-Err.fault c.args.mtr.now.pass.now c.reach_leaf_to_change.new.mtr.pass.now c.give_back.new.self.pass.now c.in-Err.ensures.refusal c.give_back.ensures.given c.give_back.ensures.idle

pub returns-in-Err-clause-few : goal.returns-in-Err-clause-few
returns-in-Err-clause-few g c =
    let sizes : Sizes = c.args.mtr.now.latches.now.sizes in
    let v = given_up sizes (g.L.Law.lawful sizes.pages) (TakesForLeaf (by_place g.L.Law.opening sizes.pages) c.args.root c.args.key) (record { s = 9; sx = 0; x = 1 }) c.in-Err.fault c.args.mtr.now.pass.now c.reach_leaf_to_change.new.mtr.pass.now c.give_back.new.self.pass.now c.in-Err.ensures.refusal c.give_back.ensures.given c.give_back.ensures.idle in
    let few = v.refusal.few.most in let tried = looks_two c.in-Err.fault in let a = v.refusal.grants.s in let b = v.refusal.grants.sx in let d = v.refusal.grants.x in omega arith
