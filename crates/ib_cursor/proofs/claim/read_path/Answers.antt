-- The path page by page, and its end.
use Rattle.std.proofs.Common.{ℕ, ap, sym, subst, arith}
use Rattle.ib_layout.specs.Geometry.{Sizes}
use Rattle.ib_logrec.specs.Log.{by_place}
use Rattle.ib_rule.specs.Pass.{PassState}
use Rattle.ib_tree.specs.Logs.{pages_after}
use Rattle.ib_walk.specs.Trees.{height_of}
use Rattle.ib_mtr.proofs.Keeping.{still_then}
use Rattle.ib_cursor.specs.OnPath.{IsOnPath}
use Rattle.ib_cursor.specs.Shapes.{HasReadLink, IsReading}
use Rattle.ib_cursor.proofs.OnPathLaws.{root_on-path}
use Rattle.ib_cursor.proofs.ReadLaws.{read_first, read_child, read_step, read_done}
use Rattle.ib_cursor.proofs.claim.read_path.Goals as goal

pub read_link-first-requires-clause-on_path : goal.read_link-first-requires-clause-on_path
read_link-first-requires-clause-on_path g c =
    let sizes : Sizes = c.args.mtr.now.latches.now.sizes in
    let p : PassState = c.args.mtr.now.pass.now in
    let m = pages_after (by_place g.L.Law.opening sizes.pages) p.view.memory.seen in
    (height_of m c.args.sought.root, root_on-path m c.args.sought.root c.args.sought.key)

pub loop-level-init : goal.loop-level-init
loop-level-init g c =
    let sizes : Sizes = c.args.mtr.now.latches.now.sizes in
    record {
      still = c.read_link-first.ensures.still;
      reading = subst (λ ps. IsReading sizes (g.L.Law.lawful sizes.pages) (by_place g.L.Law.opening sizes.pages) c.args.sought.root c.args.sought.key ps c.args.sought.root c.read_link-first.result.level c.read_link-first.result.link c.args.mtr.now.pass.now c.read_link-first.new.mtr.pass.now) (sym c.new-path.ensures)
          (read_first sizes g.L.Trees.ROOTS (g.L.Law.lawful sizes.pages) (by_place g.L.Law.opening sizes.pages) c.facts_of_trees.ensures.shapes c.args.sought.root c.requires.sought.some c.requires.sought.there c.args.sought.key c.requires.sought.is_key c.read_link-first.result.level c.read_link-first.result.link c.args.mtr.now.pass.now c.read_link-first.new.mtr.pass.now c.read_link-first.ensures.low c.read_link-first.ensures.link_read);
    }

pub read_link-below-requires-clause-on_path : goal.read_link-below-requires-clause-on_path
read_link-below-requires-clause-on_path g c =
    let sizes : Sizes = c.args.mtr.now.latches.now.sizes in
    let inv = c.loop-level.invariant in
    let child = read_child sizes g.L.Trees.ROOTS (g.L.Law.lawful sizes.pages) (by_place g.L.Law.opening sizes.pages) c.facts_of_trees.ensures.shapes c.args.sought.root c.requires.sought.some c.requires.sought.there c.args.sought.key c.requires.sought.is_key c.loop-level.path c.loop-level.page c.loop-level.level c.loop-level.link c.args.mtr.now.pass.now c.loop-level.mtr.pass.now c.loop-level-test.true inv.reading in
    subst (λ (s : Sizes). (n : ℕ) × IsOnPath (pages_after (by_place g.L.Law.opening s.pages) c.loop-level.mtr.pass.now.view.memory.seen) c.args.sought.root c.args.sought.key c.loop-level.link n) (sym (ap (λ m. m.now.sizes) inv.still.latches)) child

pub loop-level-smaller : goal.loop-level-smaller
loop-level-smaller g c =
    let sizes : Sizes = c.args.mtr.now.latches.now.sizes in
    let p : PassState = c.args.mtr.now.pass.now in let q : PassState = c.loop-level.mtr.pass.now in let t : PassState = c.read_link-below.new.mtr.pass.now in
    let inv = c.loop-level.invariant in
    let up = c.loop-level-test.true in
    let same = ap (λ m. m.now.sizes) inv.still.latches in
    let k = subst (λ (s : Sizes). HasReadLink s (g.L.Law.lawful s.pages) (by_place g.L.Law.opening s.pages) c.args.sought.root c.args.sought.key c.loop-level.link c.read_link-below.result.level c.read_link-below.result.link q t) same c.read_link-below.ensures.link_read in
    let step = read_step sizes g.L.Trees.ROOTS (g.L.Law.lawful sizes.pages) (by_place g.L.Law.opening sizes.pages) c.facts_of_trees.ensures.shapes c.args.sought.root c.requires.sought.some c.requires.sought.there c.args.sought.key c.requires.sought.is_key c.loop-level.path c.loop-level.page c.loop-level.level c.loop-level.link c.read_link-below.result.level c.read_link-below.result.link p q t up inv.reading k in
    step.1

pub loop-level-preserved : goal.loop-level-preserved
loop-level-preserved g c =
    let sizes : Sizes = c.args.mtr.now.latches.now.sizes in
    let p : PassState = c.args.mtr.now.pass.now in let q : PassState = c.loop-level.mtr.pass.now in let t : PassState = c.read_link-below.new.mtr.pass.now in
    let inv = c.loop-level.invariant in
    let up = c.loop-level-test.true in
    let same = ap (λ m. m.now.sizes) inv.still.latches in
    let k = subst (λ (s : Sizes). HasReadLink s (g.L.Law.lawful s.pages) (by_place g.L.Law.opening s.pages) c.args.sought.root c.args.sought.key c.loop-level.link c.read_link-below.result.level c.read_link-below.result.link q t) same c.read_link-below.ensures.link_read in
    let step = read_step sizes g.L.Trees.ROOTS (g.L.Law.lawful sizes.pages) (by_place g.L.Law.opening sizes.pages) c.facts_of_trees.ensures.shapes c.args.sought.root c.requires.sought.some c.requires.sought.there c.args.sought.key c.requires.sought.is_key c.loop-level.path c.loop-level.page c.loop-level.level c.loop-level.link c.read_link-below.result.level c.read_link-below.result.link p q t up inv.reading k in
    record {
      still = still_then inv.still c.read_link-below.ensures.still;
      reading = subst (λ ps. IsReading sizes (g.L.Law.lawful sizes.pages) (by_place g.L.Law.opening sizes.pages) c.args.sought.root c.args.sought.key ps c.loop-level.link c.read_link-below.result.level c.read_link-below.result.link p t) (sym c.push.ensures) step.0;
    }

pub returns-clause-on_path : goal.returns-clause-on_path
returns-clause-on_path g c =
    let sizes : Sizes = c.args.mtr.now.latches.now.sizes in
    let inv = c.loop-level.invariant in
    read_done sizes g.L.Trees.ROOTS (g.L.Law.lawful sizes.pages) (by_place g.L.Law.opening sizes.pages) c.facts_of_trees.ensures.shapes c.args.sought.root c.requires.sought.some c.requires.sought.there c.args.sought.key c.requires.sought.is_key c.loop-level.path c.push-2.new.self c.loop-level.page c.loop-level.level c.loop-level.link c.args.mtr.now.pass.now c.loop-level.mtr.pass.now (let z = c.loop-level-test.false in omega arith) c.push-2.ensures inv.reading
