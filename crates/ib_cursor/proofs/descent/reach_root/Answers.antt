-- The index and the root are taken, the root once more where it is to be changed.
use Rattle.std.proofs.Common.{◌≡◌, ◌∷◌, [], ◌∙◌, ap, subst, arith, false, sym}
use Rattle.ib_levels.specs.declared.level.Mode.TheVariants.{S, X}
use Rattle.ib_layout.specs.Geometry.{Sizes}
use Rattle.ib_logrec.specs.Log.{by_place}
use Rattle.ib_rule.specs.Pass.{PassState}
use Rattle.ib_walk.specs.Trees.{height_of}
use Rattle.ib_tree.specs.Logs.{pages_after}
use Rattle.ib_cursor.specs.Grants.{index_grant, page_grant}
use Rattle.ib_cursor.specs.Going.{HasSeen}
use Rattle.ib_cursor.specs.Descent.{IsAt, IsDown}
use Rattle.ib_cursor.specs.Modes.{is_exclusive}
use Rattle.ib_cursor.proofs.GrantLaws.{may_take_index, given}
use Rattle.ib_cursor.proofs.DownLaws.{down_root, down_again}
use Rattle.ib_cursor.proofs.descent.reach_root.Goals as goal

pub take-requires-clause-may : goal.take-requires-clause-may
take-requires-clause-may g c = may_take_index c.args.mtr.now.latches.now c.args.mtr.now.pass.now c.requires.may.mtr c.requires.may.memo (let r = c.requires.may.room in omega arith)

pub returns-then-level-gt0-clause-down : goal.returns-then-level-gt0-clause-down
returns-then-level-gt0-clause-down g c =
    let sizes : Sizes = c.args.mtr.now.latches.now.sizes in
    let p : PassState = c.args.mtr.now.pass.now in let q : PassState = c.take.new.mtr.pass.now in let r : PassState = c.latch_root-level.new.mtr.pass.now in
    let same = ap (λ m. m.now.sizes) c.take.ensures.still.latches in
    let seen = subst (λ (s : Sizes). HasSeen s (g.L.Law.lawful s.pages) q r) same c.latch_root-level.ensures.seen in
    let here = subst (λ (s : Sizes). IsAt s (g.L.Law.lawful s.pages) (by_place g.L.Law.opening s.pages) c.args.sought.root c.args.sought.key (index_grant ∷ []) c.args.sought.root c.latch_root-level.result S r) same c.latch_root-level.ensures.here in
    down_root sizes (g.L.Law.lawful sizes.pages) (by_place g.L.Law.opening sizes.pages) c.args.sought.root c.args.sought.key (is_exclusive c.args.search) c.latch_root-level.result p q r
    (λ _. c.if-level-gt0.true) c.latch_root-level.ensures.low c.take.ensures.taken seen here c.latch_root-level.ensures.grants

pub returns-in-Find-clause-down : goal.returns-in-Find-clause-down
returns-in-Find-clause-down g c =
    let sizes : Sizes = c.args.mtr.now.latches.now.sizes in
    let p : PassState = c.args.mtr.now.pass.now in let q : PassState = c.take.new.mtr.pass.now in let r : PassState = c.latch_root-level.new.mtr.pass.now in
    let same = ap (λ m. m.now.sizes) c.take.ensures.still.latches in
    let seen = subst (λ (s : Sizes). HasSeen s (g.L.Law.lawful s.pages) q r) same c.latch_root-level.ensures.seen in
    let here = subst (λ (s : Sizes). IsAt s (g.L.Law.lawful s.pages) (by_place g.L.Law.opening s.pages) c.args.sought.root c.args.sought.key (index_grant ∷ []) c.args.sought.root c.latch_root-level.result S r) same c.latch_root-level.ensures.here in
    down_root sizes (g.L.Law.lawful sizes.pages) (by_place g.L.Law.opening sizes.pages) c.args.sought.root c.args.sought.key (is_exclusive c.args.search) c.latch_root-level.result p q r
    (λ e. let f : is_exclusive c.args.search ≡ false = ap is_exclusive c.in-Find.is in absurd (cc)) c.latch_root-level.ensures.low c.take.ensures.taken seen here c.latch_root-level.ensures.grants

pub returns-in-ModifyLeaf-clause-down : goal.returns-in-ModifyLeaf-clause-down
returns-in-ModifyLeaf-clause-down g c =
    let sizes : Sizes = c.args.mtr.now.latches.now.sizes in
    let p : PassState = c.args.mtr.now.pass.now in let q : PassState = c.take.new.mtr.pass.now in let r : PassState = c.latch_root-level.new.mtr.pass.now in
    let same = ap (λ m. m.now.sizes) c.take.ensures.still.latches in
    let seen = subst (λ (s : Sizes). HasSeen s (g.L.Law.lawful s.pages) q r) same c.latch_root-level.ensures.seen in
    let here = subst (λ (s : Sizes). IsAt s (g.L.Law.lawful s.pages) (by_place g.L.Law.opening s.pages) c.args.sought.root c.args.sought.key (index_grant ∷ []) c.args.sought.root c.latch_root-level.result S r) same c.latch_root-level.ensures.here in
    let s : PassState = c.release_at.new.self.pass.now in let t : PassState = c.latch_root.new.mtr.pass.now in
    let gave = given (index_grant ∷ []) (page_grant c.args.sought.root S) [] r s here.grants ((λ e. absurd (omega arith)), tt) tt c.release_at.ensures.released in
    let still = ap (λ m. m.now.sizes) (c.release_at.ensures.still.latches ∙ (c.latch_root-level.ensures.still.latches ∙ c.take.ensures.still.latches)) in
    let height = subst (λ (s : Sizes). c.latch_root-level.result ≡ height_of (pages_after (by_place g.L.Law.opening s.pages) c.latch_root-level.new.mtr.pass.now.view.memory.seen) c.args.sought.root) same c.latch_root-level.ensures.height in
    let again = subst (λ (k : Sizes). HasSeen k (g.L.Law.lawful k.pages) s t) still c.latch_root.ensures.seen in
    let later = subst (λ (s : Sizes). c.latch_root.result ≡ height_of (pages_after (by_place g.L.Law.opening s.pages) c.latch_root.new.mtr.pass.now.view.memory.seen) c.args.sought.root) still c.latch_root.ensures.height in
    let there = subst (λ (s : Sizes). IsAt s (g.L.Law.lawful s.pages) (by_place g.L.Law.opening s.pages) c.args.sought.root c.args.sought.key (index_grant ∷ []) c.args.sought.root c.latch_root.result X t) still c.latch_root.ensures.here in
    subst (λ b. IsDown sizes (g.L.Law.lawful sizes.pages) (by_place g.L.Law.opening sizes.pages) c.args.sought.root c.args.sought.key (index_grant ∷ []) b 0 c.args.sought.root c.latch_root.result p t) (sym (ap is_exclusive c.in-ModifyLeaf.is))
    (down_again sizes (g.L.Law.lawful sizes.pages) (by_place g.L.Law.opening sizes.pages) c.args.sought.root c.args.sought.key c.latch_root-level.result c.latch_root.result p q r s t
    (let z = c.if-level-gt0.false in omega arith) c.latch_root.ensures.low c.take.ensures.taken seen height c.latch_root-level.ensures.grants gave again later there c.latch_root.ensures.grants)
