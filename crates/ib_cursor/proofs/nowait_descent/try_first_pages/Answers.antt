-- The index and the root are tried, the root once more where it is a leaf.
use Rattle.std.proofs.Common.{Some, ◌≡◌, ◌∷◌, [], ◌∙◌, ap, subst, arith, inr, refl}
use Rattle.ib_levels.specs.declared.level.Mode.TheVariants.{S, X}
use Rattle.ib_layout.specs.Geometry.{Sizes}
use Rattle.ib_logrec.specs.Log.{by_place}
use Rattle.ib_rule.specs.declared.looks.Grants.{Grants}
use Rattle.ib_rule.specs.Pass.{PassState}
use Rattle.ib_rule.specs.Views.{with_grant}
use Rattle.ib_walk.specs.Trees.{height_of}
use Rattle.ib_tree.specs.Logs.{pages_after}
use Rattle.ib_cursor.specs.Grants.{index_grant, page_grant}
use Rattle.ib_cursor.specs.Going.{HasSeen}
use Rattle.ib_cursor.specs.Descent.{IsAt}
use Rattle.ib_cursor.specs.Refusals.{IsVainOnPath}
use Rattle.ib_cursor.proofs.GrantLaws.{may_take_index, given}
use Rattle.ib_cursor.proofs.DownLaws.{down_root, down_again}
use Rattle.ib_cursor.proofs.LatchingLaws.{beside_taken, went_beside, went_both}
use Rattle.ib_cursor.proofs.LeafRefusalLaws.{leaf_index, leaf_page}
use Rattle.ib_cursor.proofs.RefusalLaws.{few_both, few_released}
use Rattle.ib_cursor.proofs.nowait_descent.try_first_pages.Goals as goal

pub try_take-requires-clause-may : goal.try_take-requires-clause-may
try_take-requires-clause-may g c = may_take_index c.args.mtr.now.latches.now c.args.mtr.now.pass.now c.requires.may.mtr c.requires.may.memo (let r = c.requires.may.room in omega arith)

pub returns-in-Err-clause-refusal : goal.returns-in-Err-clause-refusal
returns-in-Err-clause-refusal g c =
    let sizes : Sizes = c.args.mtr.now.latches.now.sizes in
    leaf_index sizes (g.L.Law.lawful sizes.pages) (by_place g.L.Law.opening sizes.pages) c.args.sought.root c.args.sought.key c.in-Err.fault c.args.mtr.now.pass.now c.try_take.new.mtr.pass.now c.in-Err.ensures.vain

pub returns-in-Err-try_root_in-clause-refusal : goal.returns-in-Err-try_root_in-clause-refusal
returns-in-Err-try_root_in-clause-refusal g c =
    let sizes : Sizes = c.args.mtr.now.latches.now.sizes in
    let p : PassState = c.args.mtr.now.pass.now in let q : PassState = c.try_take.new.mtr.pass.now in let r : PassState = c.try_root_in.new.mtr.pass.now in
    let had = c.in-Err-try_root_in.ensures.vain in
    let v = subst (λ (s : Sizes). IsVainOnPath s (g.L.Law.lawful s.pages) (by_place g.L.Law.opening s.pages) c.args.sought.root c.args.sought.key S c.args.sought.root had.0 c.in-Err-try_root_in.fault q r) (ap (λ m. m.now.sizes) c.try_take.ensures.still.latches) had.1 in
    let t = c.in-Ok.ensures.taken in let gs = t.taken.grants in
    let a = ap (λ (g : Grants). g.s) gs in let b = ap (λ (g : Grants). g.sx) gs in let d = ap (λ (g : Grants). g.x) gs in
    leaf_page sizes (g.L.Law.lawful sizes.pages) (by_place g.L.Law.opening sizes.pages) c.args.sought.root c.args.sought.key c.in-Err-try_root_in.fault S c.args.sought.root had.0 p q r tt
    (went_beside p q (beside_taken index_grant p q t)) c.in-Ok.ensures.few (record { s = omega arith; sx = omega arith; x = omega arith }) v

pub returns-then-level-gt0-clause-down : goal.returns-then-level-gt0-clause-down
returns-then-level-gt0-clause-down g c =
    let sizes : Sizes = c.args.mtr.now.latches.now.sizes in
    let p : PassState = c.args.mtr.now.pass.now in let q : PassState = c.try_take.new.mtr.pass.now in let r : PassState = c.try_root_in.new.mtr.pass.now in
    let same = ap (λ m. m.now.sizes) c.try_take.ensures.still.latches in let n = c.in-Ok-try_root_in.level in let o = c.in-Ok-try_root_in.ensures in
    let seen = subst (λ (s : Sizes). HasSeen s (g.L.Law.lawful s.pages) q r) same o.seen in
    let here = subst (λ (s : Sizes). IsAt s (g.L.Law.lawful s.pages) (by_place g.L.Law.opening s.pages) c.args.sought.root c.args.sought.key (index_grant ∷ []) c.args.sought.root n S r) same o.here in
    down_root sizes (g.L.Law.lawful sizes.pages) (by_place g.L.Law.opening sizes.pages) c.args.sought.root c.args.sought.key Rattle.std.proofs.Common.true n p q r
    (λ _. c.if-level-gt0.true) o.low c.in-Ok.ensures.taken seen here o.grants

pub returns-then-level-gt0-clause-few : goal.returns-then-level-gt0-clause-few
returns-then-level-gt0-clause-few g c = few_both 0 c.args.mtr.now.pass.now.view c.try_take.new.mtr.pass.now.view c.try_root_in.new.mtr.pass.now.view c.in-Ok.ensures.few c.in-Ok-try_root_in.ensures.few

-- the root again, in X
pub returns-in-Ok-try_root_in-2-clause-down : goal.returns-in-Ok-try_root_in-2-clause-down
returns-in-Ok-try_root_in-2-clause-down g c =
    let sizes : Sizes = c.args.mtr.now.latches.now.sizes in
    let p : PassState = c.args.mtr.now.pass.now in let q : PassState = c.try_take.new.mtr.pass.now in let r : PassState = c.try_root_in.new.mtr.pass.now in
    let same = ap (λ m. m.now.sizes) c.try_take.ensures.still.latches in let n = c.in-Ok-try_root_in.level in let o = c.in-Ok-try_root_in.ensures in
    let seen = subst (λ (s : Sizes). HasSeen s (g.L.Law.lawful s.pages) q r) same o.seen in
    let here = subst (λ (s : Sizes). IsAt s (g.L.Law.lawful s.pages) (by_place g.L.Law.opening s.pages) c.args.sought.root c.args.sought.key (index_grant ∷ []) c.args.sought.root n S r) same o.here in
    let s : PassState = c.release_at.new.self.pass.now in let t : PassState = c.try_root_in-2.new.mtr.pass.now in
    let gave = given (index_grant ∷ []) (page_grant c.args.sought.root S) [] r s here.grants ((λ e. absurd (omega arith)), tt) tt c.release_at.ensures.released in
    let still = ap (λ m. m.now.sizes) (c.release_at.ensures.still.latches ∙ (c.try_root_in.ensures.still.latches ∙ c.try_take.ensures.still.latches)) in
    let k = c.in-Ok-try_root_in-2.level in let x = c.in-Ok-try_root_in-2.ensures in
    let height = subst (λ (s : Sizes). n ≡ height_of (pages_after (by_place g.L.Law.opening s.pages) r.view.memory.seen) c.args.sought.root) same o.height in
    let again = subst (λ (k : Sizes). HasSeen k (g.L.Law.lawful k.pages) s t) still x.seen in
    let later = subst (λ (s : Sizes). k ≡ height_of (pages_after (by_place g.L.Law.opening s.pages) t.view.memory.seen) c.args.sought.root) still x.height in
    let there = subst (λ (s : Sizes). IsAt s (g.L.Law.lawful s.pages) (by_place g.L.Law.opening s.pages) c.args.sought.root c.args.sought.key (index_grant ∷ []) c.args.sought.root k X t) still x.here in
    down_again sizes (g.L.Law.lawful sizes.pages) (by_place g.L.Law.opening sizes.pages) c.args.sought.root c.args.sought.key n k p q r s t
    (let z = c.if-level-gt0.false in omega arith) x.low c.in-Ok.ensures.taken seen height o.grants gave again later there x.grants

pub returns-in-Ok-try_root_in-2-clause-few : goal.returns-in-Ok-try_root_in-2-clause-few
returns-in-Ok-try_root_in-2-clause-few g c =
    let p : PassState = c.args.mtr.now.pass.now in let q : PassState = c.try_take.new.mtr.pass.now in let r : PassState = c.try_root_in.new.mtr.pass.now in let s : PassState = c.release_at.new.self.pass.now in
    few_both 0 p.view s.view c.try_root_in-2.new.mtr.pass.now.view (few_released 0 1 p r s c.release_at.ensures.released (few_both 0 p.view q.view r.view c.in-Ok.ensures.few c.in-Ok-try_root_in.ensures.few)) c.in-Ok-try_root_in-2.ensures.few

pub returns-in-Err-try_root_in-2-clause-refusal : goal.returns-in-Err-try_root_in-2-clause-refusal
returns-in-Err-try_root_in-2-clause-refusal g c =
    let sizes : Sizes = c.args.mtr.now.latches.now.sizes in
    let p : PassState = c.args.mtr.now.pass.now in let q : PassState = c.try_take.new.mtr.pass.now in let r : PassState = c.try_root_in.new.mtr.pass.now in
    let same = ap (λ m. m.now.sizes) c.try_take.ensures.still.latches in let n = c.in-Ok-try_root_in.level in let o = c.in-Ok-try_root_in.ensures in
    let seen = subst (λ (s : Sizes). HasSeen s (g.L.Law.lawful s.pages) q r) same o.seen in
    let here = subst (λ (s : Sizes). IsAt s (g.L.Law.lawful s.pages) (by_place g.L.Law.opening s.pages) c.args.sought.root c.args.sought.key (index_grant ∷ []) c.args.sought.root n S r) same o.here in
    let s : PassState = c.release_at.new.self.pass.now in let t : PassState = c.try_root_in-2.new.mtr.pass.now in
    let gave = given (index_grant ∷ []) (page_grant c.args.sought.root S) [] r s here.grants ((λ e. absurd (omega arith)), tt) tt c.release_at.ensures.released in
    let still = ap (λ m. m.now.sizes) (c.release_at.ensures.still.latches ∙ (c.try_root_in.ensures.still.latches ∙ c.try_take.ensures.still.latches)) in
    let f = c.in-Err-try_root_in-2.fault in let had = c.in-Err-try_root_in-2.ensures.vain in
    let v = subst (λ (k : Sizes). IsVainOnPath k (g.L.Law.lawful k.pages) (by_place g.L.Law.opening k.pages) c.args.sought.root c.args.sought.key X c.args.sought.root had.0 f s t) still had.1 in
    let went = went_both p r s (went_both p q r (went_beside p q (beside_taken index_grant p q c.in-Ok.ensures.taken)) seen.went) (went_beside r s gave.beside) in
    let gs = gave.grants ∙ (o.grants ∙ ap (with_grant (Some S)) c.in-Ok.ensures.taken.taken.grants) in
    let a = ap (λ (g : Grants). g.s) gs in let b = ap (λ (g : Grants). g.sx) gs in let d = ap (λ (g : Grants). g.x) gs in
    leaf_page sizes (g.L.Law.lawful sizes.pages) (by_place g.L.Law.opening sizes.pages) c.args.sought.root c.args.sought.key f X c.args.sought.root had.0 p s t (inr refl) went
    (few_released 0 1 p r s c.release_at.ensures.released (few_both 0 p.view q.view r.view c.in-Ok.ensures.few o.few)) (record { s = omega arith; sx = omega arith; x = omega arith }) v
