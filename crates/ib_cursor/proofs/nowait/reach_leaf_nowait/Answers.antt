-- The descent by tries, its end, and how it gives up.
use Rattle.std.proofs.Common.{◌≡◌, ◌+◌, ◌-◌, suc, ℕ, ◌∷◌, [], ◌∙◌, ap, subst, refl, length, length-append, arith, false, sym}
use Rattle.ib_levels.specs.declared.level.Mode.TheVariants.{S}
use Rattle.ib_layout.specs.Geometry.{Sizes}
use Rattle.ib_logrec.specs.Log.{by_place}
use Rattle.ib_rule.specs.Pass.{PassState}
use Rattle.ib_mtr.proofs.Keeping.{still_then}
use Rattle.ib_cursor.specs.Grants.{index_grant}
use Rattle.ib_cursor.specs.Going.{HasSeen}
use Rattle.ib_cursor.specs.Descent.{IsAt, IsDown}
use Rattle.ib_cursor.specs.Refusals.{IsVainOnPath, looks_of}
use Rattle.ib_cursor.proofs.GrantLaws.{none_granted, may_take_index, released-looks}
use Rattle.ib_cursor.proofs.ContentionLaws.{contended_index, contended_root, contended_below}
use Rattle.ib_cursor.proofs.DownLaws.{down_root, down_step, reached, reached_work}
use Rattle.ib_cursor.proofs.RefusalLaws.{few_both, few_released, looks_granted, looks_vain}
use Rattle.ib_cursor.proofs.nowait.reach_leaf_nowait.Goals as goal

pub try_take-requires-clause-may : goal.try_take-requires-clause-may
try_take-requires-clause-may g c = may_take_index c.args.mtr.now.latches.now c.args.mtr.now.pass.now c.requires.may.mtr c.requires.may.memo (let r = c.requires.may.room in omega arith)

pub returns-in-Err-clause-contended : goal.returns-in-Err-clause-contended
returns-in-Err-clause-contended g c =
    let sizes : Sizes = c.args.mtr.now.latches.now.sizes in let p : PassState = c.args.mtr.now.pass.now in
    contended_index sizes (g.L.Law.lawful sizes.pages) (by_place g.L.Law.opening sizes.pages) c.args.sought.root c.args.sought.key c.in-Err.fault p c.try_take.new.mtr.pass.now (none_granted c.args.mtr.now.latches.now p c.requires.may.mtr c.requires.may.memo) c.requires.may.none c.in-Err.ensures.vain

pub returns-in-Err-try_root_in-clause-contended : goal.returns-in-Err-try_root_in-clause-contended
returns-in-Err-try_root_in-clause-contended g c =
    let sizes : Sizes = c.args.mtr.now.latches.now.sizes in let p : PassState = c.args.mtr.now.pass.now in
    let q : PassState = c.try_take.new.mtr.pass.now in let r : PassState = c.try_root_in.new.mtr.pass.now in
    let had = c.in-Err-try_root_in.ensures.vain in
    let stop = subst (λ (s : Sizes). IsVainOnPath s (g.L.Law.lawful s.pages) (by_place g.L.Law.opening s.pages) c.args.sought.root c.args.sought.key S c.args.sought.root had.0 c.in-Err-try_root_in.fault q r) (ap (λ m. m.now.sizes) c.try_take.ensures.still.latches) had.1 in
    contended_root sizes (g.L.Law.lawful sizes.pages) (by_place g.L.Law.opening sizes.pages) c.args.sought.root c.args.sought.key c.in-Err-try_root_in.fault c.args.sought.root had.0 p q r c.release_at.new.self.pass.now (none_granted c.args.mtr.now.latches.now p c.requires.may.mtr c.requires.may.memo) c.requires.may.none c.in-Ok.ensures.taken c.in-Ok.ensures.few.least stop c.release_at.ensures.released

pub loop-level-init : goal.loop-level-init
loop-level-init g c =
    let sizes : Sizes = c.args.mtr.now.latches.now.sizes in let p : PassState = c.args.mtr.now.pass.now in
    let q : PassState = c.try_take.new.mtr.pass.now in let r : PassState = c.try_root_in.new.mtr.pass.now in
    let same = ap (λ m. m.now.sizes) c.try_take.ensures.still.latches in
    let seen = subst (λ (s : Sizes). HasSeen s (g.L.Law.lawful s.pages) q r) same c.in-Ok-try_root_in.ensures.seen in
    let here = subst (λ (s : Sizes). IsAt s (g.L.Law.lawful s.pages) (by_place g.L.Law.opening s.pages) c.args.sought.root c.args.sought.key (index_grant ∷ []) c.args.sought.root c.in-Ok-try_root_in.level S r) same c.in-Ok-try_root_in.ensures.here in
    let down = down_root sizes (g.L.Law.lawful sizes.pages) (by_place g.L.Law.opening sizes.pages) c.args.sought.root c.args.sought.key false c.in-Ok-try_root_in.level p q r (λ e. absurd (cc)) c.in-Ok-try_root_in.ensures.low c.in-Ok.ensures.taken seen here c.in-Ok-try_root_in.ensures.grants in
    record {
      still = still_then c.try_take.ensures.still c.try_root_in.ensures.still;
      down = subst (λ n. IsDown sizes (g.L.Law.lawful sizes.pages) (by_place g.L.Law.opening sizes.pages) c.args.sought.root c.args.sought.key (index_grant ∷ []) false n c.args.sought.root c.in-Ok-try_root_in.level p r) (sym (ap length c.new-path.ensures)) down;
      twice = few_both 0 p.view q.view r.view c.in-Ok.ensures.few c.in-Ok-try_root_in.ensures.few;
      few = let a = looks_granted S p.view q.view c.in-Ok.ensures.taken.taken.grants c.in-Ok.ensures.few in let b = looks_granted S q.view r.view c.in-Ok-try_root_in.ensures.grants c.in-Ok-try_root_in.ensures.few in let l = c.in-Ok-try_root_in.ensures.low in omega arith;
    }

pub loop-level-preserved : goal.loop-level-preserved
loop-level-preserved g c =
    let sizes : Sizes = c.args.mtr.now.latches.now.sizes in let p : PassState = c.args.mtr.now.pass.now in
    let q : PassState = c.loop-level.mtr.pass.now in let r : PassState = c.try_down_in.new.mtr.pass.now in
    let inv = c.loop-level.invariant in
    let n : ℕ = c.loop-level.level - 1 in
    let up : c.loop-level.level ≡ suc n = omega (arith, c.loop-level-test.true) in
    let same = ap (λ m. m.now.sizes) inv.still.latches in
    let here = subst (λ (s : Sizes). IsAt s (g.L.Law.lawful s.pages) (by_place g.L.Law.opening s.pages) c.args.sought.root c.args.sought.key (index_grant ∷ []) c.in-Ok-try_down_in.child n S r) same c.in-Ok-try_down_in.ensures.here in
    let step = down_step sizes (g.L.Law.lawful sizes.pages) (by_place g.L.Law.opening sizes.pages) c.args.sought.root c.args.sought.key false false (length c.loop-level.path) c.loop-level.page c.in-Ok-try_down_in.child n p q r refl
    (subst (λ l. IsDown sizes (g.L.Law.lawful sizes.pages) (by_place g.L.Law.opening sizes.pages) c.args.sought.root c.args.sought.key (index_grant ∷ []) false (length c.loop-level.path) c.loop-level.page l p q) up inv.down)
    here c.in-Ok-try_down_in.ensures.went c.in-Ok-try_down_in.ensures.grants in
    let long = ap length c.push.ensures ∙ length-append c.loop-level.path (c.loop-level.page ∷ []) in
    record {
      still = still_then inv.still c.try_down_in.ensures.still;
      down = subst (λ k. IsDown sizes (g.L.Law.lawful sizes.pages) (by_place g.L.Law.opening sizes.pages) c.args.sought.root c.args.sought.key (index_grant ∷ []) false k c.in-Ok-try_down_in.child n p r) (sym long) step;
      twice = few_both 0 p.view q.view r.view inv.twice c.in-Ok-try_down_in.ensures.few;
      few = let a = inv.few in let b = looks_granted S q.view r.view c.in-Ok-try_down_in.ensures.grants c.in-Ok-try_down_in.ensures.few in omega (arith, up);
    }

pub returns-in-Err-try_down_in-clause-contended : goal.returns-in-Err-try_down_in-clause-contended
returns-in-Err-try_down_in-clause-contended g c =
    let sizes : Sizes = c.args.mtr.now.latches.now.sizes in let p : PassState = c.args.mtr.now.pass.now in
    let q : PassState = c.loop-level.mtr.pass.now in let r : PassState = c.try_down_in.new.mtr.pass.now in
    let inv = c.loop-level.invariant in let had = c.in-Err-try_down_in.ensures.vain in
    let stop = subst (λ (s : Sizes). IsVainOnPath s (g.L.Law.lawful s.pages) (by_place g.L.Law.opening s.pages) c.args.sought.root c.args.sought.key S had.0 (c.loop-level.level - 1) c.in-Err-try_down_in.fault q r) (ap (λ m. m.now.sizes) inv.still.latches) had.1 in
    contended_below sizes (g.L.Law.lawful sizes.pages) (by_place g.L.Law.opening sizes.pages) c.args.sought.root c.args.sought.key c.in-Err-try_down_in.fault (length c.loop-level.path) c.loop-level.page c.loop-level.level had.0 (c.loop-level.level - 1) p q r c.release_at-in-Err-try_down_in.new.self.pass.now c.release_at-in-Err-try_down_in-2.new.self.pass.now
    inv.down inv.twice.least stop c.release_at-in-Err-try_down_in.ensures.released c.release_at-in-Err-try_down_in-2.ensures.released

pub returns-clause-reached : goal.returns-clause-reached
returns-clause-reached g c =
    let sizes : Sizes = c.args.mtr.now.latches.now.sizes in
    let p : PassState = c.args.mtr.now.pass.now in let q : PassState = c.loop-level.mtr.pass.now in let inv = c.loop-level.invariant in
    let low : c.loop-level.level ≡ 0 = (let z = c.loop-level-test.false in omega arith) in
    let down = subst (λ n. IsDown sizes (g.L.Law.lawful sizes.pages) (by_place g.L.Law.opening sizes.pages) c.args.sought.root c.args.sought.key (index_grant ∷ []) false (length c.loop-level.path) c.loop-level.page n p q) low inv.down in
    reached sizes (g.L.Law.lawful sizes.pages) (by_place g.L.Law.opening sizes.pages) c.args.sought.root c.args.sought.key false (length c.loop-level.path) c.loop-level.page p q c.release_at-2.new.self.pass.now down c.release_at-2.ensures.released
    c.loop-level.path c.push-2.new.self refl c.push-2.ensures

pub returns-clause-none : goal.returns-clause-none
returns-clause-none g c =
    let sizes : Sizes = c.args.mtr.now.latches.now.sizes in
    let p : PassState = c.args.mtr.now.pass.now in let q : PassState = c.loop-level.mtr.pass.now in let inv = c.loop-level.invariant in
    let low : c.loop-level.level ≡ 0 = (let z = c.loop-level-test.false in omega arith) in
    let down = subst (λ n. IsDown sizes (g.L.Law.lawful sizes.pages) (by_place g.L.Law.opening sizes.pages) c.args.sought.root c.args.sought.key (index_grant ∷ []) false (length c.loop-level.path) c.loop-level.page n p q) low inv.down in
    reached_work sizes (g.L.Law.lawful sizes.pages) (by_place g.L.Law.opening sizes.pages) c.args.sought.root c.args.sought.key false (length c.loop-level.path) c.loop-level.page p q c.release_at-2.new.self.pass.now down c.release_at-2.ensures.released

pub returns-in-Err-clause-few : goal.returns-in-Err-clause-few
returns-in-Err-clause-few g c =
    let sizes : Sizes = c.args.mtr.now.latches.now.sizes in
    let a = looks_vain sizes (g.L.Law.lawful sizes.pages) S 1 c.in-Err.fault c.args.mtr.now.pass.now c.try_take.new.mtr.pass.now c.in-Err.ensures.vain in omega arith

pub returns-in-Err-try_root_in-clause-few : goal.returns-in-Err-try_root_in-clause-few
returns-in-Err-try_root_in-clause-few g c =
    let sizes : Sizes = c.try_take.new.mtr.latches.now.sizes in let q : PassState = c.try_take.new.mtr.pass.now in let r : PassState = c.try_root_in.new.mtr.pass.now in
    let a = looks_granted S c.args.mtr.now.pass.now.view q.view c.in-Ok.ensures.taken.taken.grants c.in-Ok.ensures.few in
    let b = looks_vain sizes (g.L.Law.lawful sizes.pages) S (c.args.sought.root + 2) c.in-Err-try_root_in.fault q r c.in-Err-try_root_in.ensures.vain.1.vain in
    let d = released-looks 0 r c.release_at.new.self.pass.now c.release_at.ensures.released in omega arith

pub returns-in-Err-try_down_in-clause-few : goal.returns-in-Err-try_down_in-clause-few
returns-in-Err-try_down_in-clause-few g c =
    let sizes : Sizes = c.loop-level.mtr.latches.now.sizes in let q : PassState = c.loop-level.mtr.pass.now in let r : PassState = c.try_down_in.new.mtr.pass.now in let had = c.in-Err-try_down_in.ensures.vain in
    let a = c.loop-level.invariant.few in let b = looks_vain sizes (g.L.Law.lawful sizes.pages) S (had.0 + 2) c.in-Err-try_down_in.fault q r had.1.vain in
    let d = released-looks 1 r c.release_at-in-Err-try_down_in.new.self.pass.now c.release_at-in-Err-try_down_in.ensures.released in
    let e = released-looks 0 c.release_at-in-Err-try_down_in.new.self.pass.now c.release_at-in-Err-try_down_in-2.new.self.pass.now c.release_at-in-Err-try_down_in-2.ensures.released in
    omega (arith, c.loop-level-test.true)

-- the looks of those that were had, and of the refused try
pub returns-in-Err-clause-vain : goal.returns-in-Err-clause-vain
returns-in-Err-clause-vain g c = c.in-Err.ensures.vain.few

pub returns-in-Err-try_root_in-clause-vain : goal.returns-in-Err-try_root_in-clause-vain
returns-in-Err-try_root_in-clause-vain g c =
    let f = c.in-Err-try_root_in.fault in let p : PassState = c.args.mtr.now.pass.now in let q : PassState = c.try_take.new.mtr.pass.now in let r : PassState = c.try_root_in.new.mtr.pass.now in
    few_released (looks_of f) 0 p r c.release_at.new.self.pass.now c.release_at.ensures.released
    (few_both (looks_of f) p.view q.view r.view c.in-Ok.ensures.few c.in-Err-try_root_in.ensures.vain.1.vain.few)

pub returns-in-Err-try_down_in-clause-vain : goal.returns-in-Err-try_down_in-clause-vain
returns-in-Err-try_down_in-clause-vain g c =
    let f = c.in-Err-try_down_in.fault in let p : PassState = c.args.mtr.now.pass.now in let q : PassState = c.loop-level.mtr.pass.now in let r : PassState = c.try_down_in.new.mtr.pass.now in
    let s : PassState = c.release_at-in-Err-try_down_in.new.self.pass.now in
    few_released (looks_of f) 0 p s c.release_at-in-Err-try_down_in-2.new.self.pass.now c.release_at-in-Err-try_down_in-2.ensures.released
    (few_released (looks_of f) 1 p r s c.release_at-in-Err-try_down_in.ensures.released (few_both (looks_of f) p.view q.view r.view c.loop-level.invariant.twice c.in-Err-try_down_in.ensures.vain.1.vain.few))

pub returns-clause-few : goal.returns-clause-few
returns-clause-few g c =
    let a = c.loop-level.invariant.few in
    let d = released-looks 0 c.loop-level.mtr.pass.now c.release_at-2.new.self.pass.now c.release_at-2.ensures.released in omega arith

pub returns-clause-twice : goal.returns-clause-twice
returns-clause-twice g c = few_released 0 0 c.args.mtr.now.pass.now c.loop-level.mtr.pass.now c.release_at-2.new.self.pass.now c.release_at-2.ensures.released c.loop-level.invariant.twice
