-- The descent step by step, and its end.
use Rattle.std.proofs.Common.{Some, ◌≡◌, ◌+◌, ◌-◌, suc, ℕ, ◌∷◌, [], ◌∙◌, ap, subst, refl, length, length-append, arith, sym}
use Rattle.std.specs.Prelude.{◌==◌, ◌&&◌}
use Rattle.ib_levels.specs.declared.level.Mode.{Mode}
use Rattle.ib_layout.specs.Geometry.{Sizes}
use Rattle.ib_logrec.specs.Log.{by_place}
use Rattle.ib_rule.specs.Pass.{PassState}
use Rattle.ib_rule.specs.Views.{with_grant}
use Rattle.ib_mtr.proofs.Keeping.{still_then}
use Rattle.ib_cursor.specs.Grants.{index_grant}
use Rattle.ib_cursor.specs.Descent.{IsAt, IsDown}
use Rattle.ib_cursor.specs.Modes.{is_exclusive}
use Rattle.ib_cursor.proofs.DownLaws.{child_level, down_step, reached, reached_work}
use Rattle.ib_cursor.proofs.descent.reach_leaf.Goals as goal

pub loop-level-preserved : goal.loop-level-preserved
loop-level-preserved g c =
    let sizes : Sizes = c.args.mtr.now.latches.now.sizes in
    let p : PassState = c.args.mtr.now.pass.now in let q : PassState = c.loop-level.mtr.pass.now in let r : PassState = c.step_down-page.new.mtr.pass.now in
    let inv = c.loop-level.invariant in
    let n : ℕ = c.loop-level.level - 1 in
    let up : c.loop-level.level ≡ suc n = omega (arith, c.loop-level-test.true) in
    let same = ap (λ m. m.now.sizes) inv.still.latches in
    let b = is_exclusive c.args.search && (n == 0) in
    let here = subst (λ (s : Sizes). IsAt s (g.L.Law.lawful s.pages) (by_place g.L.Law.opening s.pages) c.args.sought.root c.args.sought.key (index_grant ∷ []) c.step_down-page.result (c.loop-level.level - 1 + 1 - 1) c.mode_at.result r) same c.step_down-page.ensures.here in
    let there = subst (λ (z : ℕ × Mode). IsAt sizes (g.L.Law.lawful sizes.pages) (by_place g.L.Law.opening sizes.pages) c.args.sought.root c.args.sought.key (index_grant ∷ []) c.step_down-page.result z.0 z.1 r) (λ j. (child_level c.loop-level.level j, c.mode_at.ensures j)) here in
    let step = down_step sizes (g.L.Law.lawful sizes.pages) (by_place g.L.Law.opening sizes.pages) c.args.sought.root c.args.sought.key (is_exclusive c.args.search) b (length c.loop-level.path) c.loop-level.page c.step_down-page.result n p q r refl
    (subst (λ l. IsDown sizes (g.L.Law.lawful sizes.pages) (by_place g.L.Law.opening sizes.pages) c.args.sought.root c.args.sought.key (index_grant ∷ []) (is_exclusive c.args.search) (length c.loop-level.path) c.loop-level.page l p q) up inv.down)
    there c.step_down-page.ensures.went (c.step_down-page.ensures.grants ∙ ap (λ m. with_grant (Some m) q.view.grants) c.mode_at.ensures) in
    let long = ap length c.push.ensures ∙ length-append c.loop-level.path (c.loop-level.page ∷ []) in
    record {
      still = still_then inv.still c.step_down-page.ensures.still;
      down = subst (λ k. IsDown sizes (g.L.Law.lawful sizes.pages) (by_place g.L.Law.opening sizes.pages) c.args.sought.root c.args.sought.key (index_grant ∷ []) (is_exclusive c.args.search) k c.step_down-page.result n p r) (sym long) step;
    }

pub returns-clause-reached : goal.returns-clause-reached
returns-clause-reached g c =
    let sizes : Sizes = c.args.mtr.now.latches.now.sizes in
    let p : PassState = c.args.mtr.now.pass.now in let q : PassState = c.loop-level.mtr.pass.now in let inv = c.loop-level.invariant in
    let low : c.loop-level.level ≡ 0 = (let z = c.loop-level-test.false in omega arith) in
    let down = subst (λ n. IsDown sizes (g.L.Law.lawful sizes.pages) (by_place g.L.Law.opening sizes.pages) c.args.sought.root c.args.sought.key (index_grant ∷ []) (is_exclusive c.args.search) (length c.loop-level.path) c.loop-level.page n p q) low inv.down in
    reached sizes (g.L.Law.lawful sizes.pages) (by_place g.L.Law.opening sizes.pages) c.args.sought.root c.args.sought.key (is_exclusive c.args.search) (length c.loop-level.path) c.loop-level.page p q c.release_at.new.self.pass.now down c.release_at.ensures.released
    c.loop-level.path c.push-2.new.self refl c.push-2.ensures

pub returns-clause-none : goal.returns-clause-none
returns-clause-none g c =
    let sizes : Sizes = c.args.mtr.now.latches.now.sizes in
    let p : PassState = c.args.mtr.now.pass.now in let q : PassState = c.loop-level.mtr.pass.now in let inv = c.loop-level.invariant in
    let low : c.loop-level.level ≡ 0 = (let z = c.loop-level-test.false in omega arith) in
    let down = subst (λ n. IsDown sizes (g.L.Law.lawful sizes.pages) (by_place g.L.Law.opening sizes.pages) c.args.sought.root c.args.sought.key (index_grant ∷ []) (is_exclusive c.args.search) (length c.loop-level.path) c.loop-level.page n p q) low inv.down in
    reached_work sizes (g.L.Law.lawful sizes.pages) (by_place g.L.Law.opening sizes.pages) c.args.sought.root c.args.sought.key (is_exclusive c.args.search) (length c.loop-level.path) c.loop-level.page p q c.release_at.new.self.pass.now down c.release_at.ensures.released
