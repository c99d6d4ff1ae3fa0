-- The path page by page, its end, and the page that was refused.
use Rattle.std.proofs.Common.{ℕ, ap, sym, subst, arith}
use Rattle.ib_layout.specs.Geometry.{Sizes}
use Rattle.ib_logrec.specs.Log.{by_place}
use Rattle.ib_rule.specs.Pass.{PassState}
use Rattle.ib_tree.specs.Logs.{pages_after}
use Rattle.ib_walk.specs.Trees.{height_of}
use Rattle.ib_mtr.proofs.Keeping.{still_then}
use Rattle.ib_cursor.specs.OnPath.{IsOnPath}
use Rattle.ib_levels.specs.declared.level.Mode.TheVariants.{S}
use Rattle.ib_cursor.specs.Shapes.{HasReadLink, IsReading}
use Rattle.ib_cursor.proofs.OnPathLaws.{root_on-path}
use Rattle.ib_cursor.proofs.ReadLaws.{read_first, read_child, read_step, read_done}
use Rattle.ib_cursor.specs.Refusals.{IsVainOnPath}
use Rattle.ib_cursor.proofs.LatchingLaws.{went_none}
use Rattle.ib_cursor.proofs.RefusalLaws.{few_both, few_none}
use Rattle.ib_cursor.proofs.TakeRefusalLaws.{path_refusal}
use Rattle.ib_cursor.proofs.nowait_claim.try_path.Goals as goal

pub try_link-requires-clause-on_path : goal.try_link-requires-clause-on_path
try_link-requires-clause-on_path g c =
    let sizes : Sizes = c.args.mtr.now.latches.now.sizes in
    let p : PassState = c.args.mtr.now.pass.now in
    let m = pages_after (by_place g.L.Law.opening sizes.pages) p.view.memory.seen in
    (height_of m c.args.sought.root, root_on-path m c.args.sought.root c.args.sought.key)

pub loop-level-init : goal.loop-level-init
loop-level-init g c =
    let sizes : Sizes = c.args.mtr.now.latches.now.sizes in
    record {
      still = c.try_link.ensures.still;
      reading = subst (λ ps. IsReading sizes (g.L.Law.lawful sizes.pages) (by_place g.L.Law.opening sizes.pages) c.args.sought.root c.args.sought.key ps c.args.sought.root c.in-Ok.named.level c.in-Ok.named.link c.args.mtr.now.pass.now c.try_link.new.mtr.pass.now) (sym c.new-path.ensures)
          (read_first sizes g.L.Trees.ROOTS (g.L.Law.lawful sizes.pages) (by_place g.L.Law.opening sizes.pages) c.facts_of_trees.ensures.shapes c.args.sought.root c.requires.sought.some c.requires.sought.there c.args.sought.key c.requires.sought.is_key c.in-Ok.named.level c.in-Ok.named.link c.args.mtr.now.pass.now c.try_link.new.mtr.pass.now c.in-Ok.ensures.low c.in-Ok.ensures.link_read);
      few = c.in-Ok.ensures.few;
    }

pub try_link-requires-in-loop-level-clause-on_path : goal.try_link-requires-in-loop-level-clause-on_path
try_link-requires-in-loop-level-clause-on_path g c =
    let sizes : Sizes = c.args.mtr.now.latches.now.sizes in
    let inv = c.loop-level.invariant in
    let child = read_child sizes g.L.Trees.ROOTS (g.L.Law.lawful sizes.pages) (by_place g.L.Law.opening sizes.pages) c.facts_of_trees.ensures.shapes c.args.sought.root c.requires.sought.some c.requires.sought.there c.args.sought.key c.requires.sought.is_key c.loop-level.path c.loop-level.page c.loop-level.level c.loop-level.link c.args.mtr.now.pass.now c.loop-level.mtr.pass.now c.loop-level-test.true inv.reading in
    subst (λ (s : Sizes). (n : ℕ) × IsOnPath (pages_after (by_place g.L.Law.opening s.pages) c.loop-level.mtr.pass.now.view.memory.seen) c.args.sought.root c.args.sought.key c.loop-level.link n) (sym (ap (λ m. m.now.sizes) inv.still.latches)) child

pub loop-level-smaller : goal.loop-level-smaller
loop-level-smaller g c =
    let sizes : Sizes = c.args.mtr.now.latches.now.sizes in
    let p : PassState = c.args.mtr.now.pass.now in let q : PassState = c.loop-level.mtr.pass.now in let t : PassState = c.try_link-in-loop-level.new.mtr.pass.now in
    let inv = c.loop-level.invariant in
    let up = c.loop-level-test.true in
    let same = ap (λ m. m.now.sizes) inv.still.latches in
    let k = subst (λ (s : Sizes). HasReadLink s (g.L.Law.lawful s.pages) (by_place g.L.Law.opening s.pages) c.args.sought.root c.args.sought.key c.loop-level.link c.in-Ok-try_link.below.level c.in-Ok-try_link.below.link q t) same c.in-Ok-try_link.ensures.link_read in
    let step = read_step sizes g.L.Trees.ROOTS (g.L.Law.lawful sizes.pages) (by_place g.L.Law.opening sizes.pages) c.facts_of_trees.ensures.shapes c.args.sought.root c.requires.sought.some c.requires.sought.there c.args.sought.key c.requires.sought.is_key c.loop-level.path c.loop-level.page c.loop-level.level c.loop-level.link c.in-Ok-try_link.below.level c.in-Ok-try_link.below.link p q t up inv.reading k in
    step.1

pub loop-level-preserved : goal.loop-level-preserved
loop-level-preserved g c =
    let sizes : Sizes = c.args.mtr.now.latches.now.sizes in
    let p : PassState = c.args.mtr.now.pass.now in let q : PassState = c.loop-level.mtr.pass.now in let t : PassState = c.try_link-in-loop-level.new.mtr.pass.now in
    let inv = c.loop-level.invariant in
    let up = c.loop-level-test.true in
    let same = ap (λ m. m.now.sizes) inv.still.latches in
    let k = subst (λ (s : Sizes). HasReadLink s (g.L.Law.lawful s.pages) (by_place g.L.Law.opening s.pages) c.args.sought.root c.args.sought.key c.loop-level.link c.in-Ok-try_link.below.level c.in-Ok-try_link.below.link q t) same c.in-Ok-try_link.ensures.link_read in
    let step = read_step sizes g.L.Trees.ROOTS (g.L.Law.lawful sizes.pages) (by_place g.L.Law.opening sizes.pages) c.facts_of_trees.ensures.shapes c.args.sought.root c.requires.sought.some c.requires.sought.there c.args.sought.key c.requires.sought.is_key c.loop-level.path c.loop-level.page c.loop-level.level c.loop-level.link c.in-Ok-try_link.below.level c.in-Ok-try_link.below.link p q t up inv.reading k in
    record {
      still = still_then inv.still c.try_link-in-loop-level.ensures.still;
      reading = subst (λ ps. IsReading sizes (g.L.Law.lawful sizes.pages) (by_place g.L.Law.opening sizes.pages) c.args.sought.root c.args.sought.key ps c.loop-level.link c.in-Ok-try_link.below.level c.in-Ok-try_link.below.link p t) (sym c.push.ensures) step.0;
      few = few_both 0 p.view q.view t.view inv.few c.in-Ok-try_link.ensures.few;
    }

pub returns-clause-on_path : goal.returns-clause-on_path
returns-clause-on_path g c =
    let sizes : Sizes = c.args.mtr.now.latches.now.sizes in
    let inv = c.loop-level.invariant in
    read_done sizes g.L.Trees.ROOTS (g.L.Law.lawful sizes.pages) (by_place g.L.Law.opening sizes.pages) c.facts_of_trees.ensures.shapes c.args.sought.root c.requires.sought.some c.requires.sought.there c.args.sought.key c.requires.sought.is_key c.loop-level.path c.push-2.new.self c.loop-level.page c.loop-level.level c.loop-level.link c.args.mtr.now.pass.now c.loop-level.mtr.pass.now (let z = c.loop-level-test.false in omega arith) c.push-2.ensures inv.reading

pub returns-in-Err-clause-refusal : goal.returns-in-Err-clause-refusal
returns-in-Err-clause-refusal g c =
    let sizes : Sizes = c.args.mtr.now.latches.now.sizes in
    let p : PassState = c.args.mtr.now.pass.now in let q : PassState = c.try_link.new.mtr.pass.now in let had = c.in-Err.ensures.vain in
    path_refusal sizes (g.L.Law.lawful sizes.pages) (by_place g.L.Law.opening sizes.pages) c.args.sought.root c.args.sought.key c.args.sought.root had.0 c.in-Err.fault p p q (went_none p) (few_none p)
    (record { s = omega arith; sx = omega arith; x = omega arith }) had.1

pub returns-in-Err-try_link-clause-refusal : goal.returns-in-Err-try_link-clause-refusal
returns-in-Err-try_link-clause-refusal g c =
    let sizes : Sizes = c.args.mtr.now.latches.now.sizes in
    let p : PassState = c.args.mtr.now.pass.now in let q : PassState = c.loop-level.mtr.pass.now in let t : PassState = c.try_link-in-loop-level.new.mtr.pass.now in
    let inv = c.loop-level.invariant in let had = c.in-Err-try_link.ensures.vain in
    let v = subst (λ (s : Sizes). IsVainOnPath s (g.L.Law.lawful s.pages) (by_place g.L.Law.opening s.pages) c.args.sought.root c.args.sought.key S c.loop-level.link had.0 c.in-Err-try_link.fault q t) (ap (λ m. m.now.sizes) inv.still.latches) had.1 in
    let up = c.loop-level-test.true in let short = inv.reading.short in let s = inv.reading.s in let sx = inv.reading.sx in let x = inv.reading.x in
    path_refusal sizes (g.L.Law.lawful sizes.pages) (by_place g.L.Law.opening sizes.pages) c.args.sought.root c.args.sought.key c.loop-level.link had.0 c.in-Err-try_link.fault p q t inv.reading.went inv.few
    (record { s = omega arith; sx = omega arith; x = omega arith }) v
