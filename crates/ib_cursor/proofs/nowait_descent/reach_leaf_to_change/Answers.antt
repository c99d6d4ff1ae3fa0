-- The descent step by step, its end, and the page that was refused.
use Rattle.std.proofs.Common.{Some, ◌≡◌, ◌+◌, ◌-◌, suc, ℕ, ◌∷◌, [], ◌∙◌, ap, subst, refl, length, length-append, arith, sym, true}
use Rattle.std.specs.Prelude.{◌==◌}
use Rattle.ib_levels.specs.declared.level.Mode.{Mode}
use Rattle.ib_layout.specs.Geometry.{Sizes}
use Rattle.ib_logrec.specs.Log.{by_place}
use Rattle.ib_rule.specs.Pass.{PassState}
use Rattle.ib_rule.specs.Views.{with_grant}
use Rattle.ib_mtr.proofs.Keeping.{still_then}
use Rattle.ib_cursor.specs.Grants.{index_grant}
use Rattle.ib_cursor.specs.Descent.{IsAt, IsDown}
use Rattle.ib_cursor.specs.Modes.{mode_by}
use Rattle.ib_cursor.specs.Refusals.{IsVainOnPath}
use Rattle.ib_cursor.proofs.DownLaws.{child_level, down_step, reached, reached_work}
use Rattle.ib_cursor.proofs.LeafRefusalLaws.{allowed_at, down_grants, leaf_page}
use Rattle.ib_cursor.proofs.RefusalLaws.{few_both, few_released}
use Rattle.ib_cursor.proofs.nowait_descent.reach_leaf_to_change.Goals as goal

pub returns-in-Err-try_down_in-clause-refusal : goal.returns-in-Err-try_down_in-clause-refusal
returns-in-Err-try_down_in-clause-refusal g c =
    let sizes : Sizes = c.args.mtr.now.latches.now.sizes in
    let p : PassState = c.args.mtr.now.pass.now in let q : PassState = c.loop-level.mtr.pass.now in let r : PassState = c.try_down_in.new.mtr.pass.now in
    let inv = c.loop-level.invariant in let f = c.in-Err-try_down_in.fault in let had = c.in-Err-try_down_in.ensures.vain in
    let same = ap (λ m. m.now.sizes) inv.still.latches in
    let v = subst (λ (s : Sizes). IsVainOnPath s (g.L.Law.lawful s.pages) (by_place g.L.Law.opening s.pages) c.args.sought.root c.args.sought.key c.mode_at-mode.result had.0 (c.loop-level.level - 1 + 1 - 1) f q r) same had.1 in
    let w = subst (λ (z : ℕ × Mode). IsVainOnPath sizes (g.L.Law.lawful sizes.pages) (by_place g.L.Law.opening sizes.pages) c.args.sought.root c.args.sought.key z.1 had.0 z.0 f q r) (λ j. (child_level c.loop-level.level j, c.mode_at-mode.ensures j)) v in
    leaf_page sizes (g.L.Law.lawful sizes.pages) (by_place g.L.Law.opening sizes.pages) c.args.sought.root c.args.sought.key f (mode_by (c.loop-level.level - 1 == 0)) had.0 (c.loop-level.level - 1) p q r
    (allowed_at had.0 (c.loop-level.level - 1) c.args.sought.root) inv.down.went inv.few
    (down_grants sizes (g.L.Law.lawful sizes.pages) (by_place g.L.Law.opening sizes.pages) c.args.sought.root c.args.sought.key (index_grant ∷ []) (length c.loop-level.path) c.loop-level.page c.loop-level.level p q c.loop-level-test.true inv.down) w

pub loop-level-preserved : goal.loop-level-preserved
loop-level-preserved g c =
    let sizes : Sizes = c.args.mtr.now.latches.now.sizes in
    let p : PassState = c.args.mtr.now.pass.now in let q : PassState = c.loop-level.mtr.pass.now in let r : PassState = c.try_down_in.new.mtr.pass.now in
    let inv = c.loop-level.invariant in let o = c.in-Ok-try_down_in.ensures in let child = c.in-Ok-try_down_in.child in
    let n : ℕ = c.loop-level.level - 1 in
    let up : c.loop-level.level ≡ suc n = omega (arith, c.loop-level-test.true) in
    let same = ap (λ m. m.now.sizes) inv.still.latches in
    let here = subst (λ (s : Sizes). IsAt s (g.L.Law.lawful s.pages) (by_place g.L.Law.opening s.pages) c.args.sought.root c.args.sought.key (index_grant ∷ []) child (c.loop-level.level - 1 + 1 - 1) c.mode_at-mode.result r) same o.here in
    let there = subst (λ (z : ℕ × Mode). IsAt sizes (g.L.Law.lawful sizes.pages) (by_place g.L.Law.opening sizes.pages) c.args.sought.root c.args.sought.key (index_grant ∷ []) child z.0 z.1 r) (λ j. (child_level c.loop-level.level j, c.mode_at-mode.ensures j)) here in
    let step = down_step sizes (g.L.Law.lawful sizes.pages) (by_place g.L.Law.opening sizes.pages) c.args.sought.root c.args.sought.key true (n == 0) (length c.loop-level.path) c.loop-level.page child n p q r refl
    (subst (λ l. IsDown sizes (g.L.Law.lawful sizes.pages) (by_place g.L.Law.opening sizes.pages) c.args.sought.root c.args.sought.key (index_grant ∷ []) true (length c.loop-level.path) c.loop-level.page l p q) up inv.down)
    there o.went (o.grants ∙ ap (λ m. with_grant (Some m) q.view.grants) c.mode_at-mode.ensures) in
    let long = ap length c.push.ensures ∙ length-append c.loop-level.path (c.loop-level.page ∷ []) in
    record {
      still = still_then inv.still c.try_down_in.ensures.still;
      down = subst (λ k. IsDown sizes (g.L.Law.lawful sizes.pages) (by_place g.L.Law.opening sizes.pages) c.args.sought.root c.args.sought.key (index_grant ∷ []) true k child n p r) (sym long) step;
      few = few_both 0 p.view q.view r.view inv.few o.few;
    }

pub returns-clause-reached : goal.returns-clause-reached
returns-clause-reached g c =
    let sizes : Sizes = c.args.mtr.now.latches.now.sizes in
    let p : PassState = c.args.mtr.now.pass.now in let q : PassState = c.loop-level.mtr.pass.now in let inv = c.loop-level.invariant in
    let low : c.loop-level.level ≡ 0 = (let z = c.loop-level-test.false in omega arith) in
    let down = subst (λ n. IsDown sizes (g.L.Law.lawful sizes.pages) (by_place g.L.Law.opening sizes.pages) c.args.sought.root c.args.sought.key (index_grant ∷ []) true (length c.loop-level.path) c.loop-level.page n p q) low inv.down in
    reached sizes (g.L.Law.lawful sizes.pages) (by_place g.L.Law.opening sizes.pages) c.args.sought.root c.args.sought.key true (length c.loop-level.path) c.loop-level.page p q c.release_at.new.self.pass.now down c.release_at.ensures.released
    c.loop-level.path c.push-2.new.self refl c.push-2.ensures

pub returns-clause-none : goal.returns-clause-none
returns-clause-none g c =
    let sizes : Sizes = c.args.mtr.now.latches.now.sizes in
    let p : PassState = c.args.mtr.now.pass.now in let q : PassState = c.loop-level.mtr.pass.now in let inv = c.loop-level.invariant in
    let low : c.loop-level.level ≡ 0 = (let z = c.loop-level-test.false in omega arith) in
    let down = subst (λ n. IsDown sizes (g.L.Law.lawful sizes.pages) (by_place g.L.Law.opening sizes.pages) c.args.sought.root c.args.sought.key (index_grant ∷ []) true (length c.loop-level.path) c.loop-level.page n p q) low inv.down in
    reached_work sizes (g.L.Law.lawful sizes.pages) (by_place g.L.Law.opening sizes.pages) c.args.sought.root c.args.sought.key true (length c.loop-level.path) c.loop-level.page p q c.release_at.new.self.pass.now down c.release_at.ensures.released

pub returns-clause-few : goal.returns-clause-few
returns-clause-few g c = few_released 0 0 c.args.mtr.now.pass.now c.loop-level.mtr.pass.now c.release_at.new.self.pass.now c.release_at.ensures.released c.loop-level.invariant.few
