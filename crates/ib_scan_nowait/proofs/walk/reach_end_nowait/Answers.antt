-- Each leaf that gives no chunk is passed over, until one is refused.
use Rattle.std.proofs.Common.{◌∙◌, refl, sym, ap, subst, arith}
use Rattle.ib_layout.specs.Geometry.{Sizes}
use Rattle.ib_logrec.specs.Log.{by_place}
use Rattle.ib_rule.specs.Pass.{PassState}
use Rattle.ib_cursor.proofs.RefusalLaws.{few_both, few_none}
use Rattle.ib_scan.specs.Steps.{MayPass, HasPassed}
use Rattle.ib_scan.proofs.PassLaws.{most_pages}
use Rattle.ib_scan.proofs.LoopLaws.{along_none, along_loaded, along_may, along_passed}
use Rattle.ib_scan_nowait.specs.Steps.{IsNextRefused}
use Rattle.ib_scan_nowait.proofs.LoopLaws.{refused_from}
use Rattle.ib_scan_nowait.proofs.walk.reach_end_nowait.Goals as goal

pub loop-next-init : goal.loop-next-init
loop-next-init g c =
    let sizes : Sizes = c.args.mtr.now.latches.now.sizes in
    record {
      mtr = c.requires.mtr;
      latches = refl;
      pass = refl;
      few = few_none c.args.mtr.now.pass.now;
      along = along_none sizes g.L.Trees.ROOTS (g.L.Law.lawful sizes.pages) (by_place g.L.Law.opening sizes.pages) c.facts_of_trees.ensures.laws c.args.leaf c.args.start c.args.mtr.now.pass.now;
    }

pub part_of-requires-clause-loaded : goal.part_of-requires-clause-loaded
part_of-requires-clause-loaded g c =
    let sizes : Sizes = c.args.mtr.now.latches.now.sizes in let p : PassState = c.args.mtr.now.pass.now in let q : PassState = c.loop-next.mtr.pass.now in let h = c.requires.on in
    let a = c.loop-next.invariant.along h in
    let l = along_loaded sizes g.L.Trees.ROOTS (g.L.Law.lawful sizes.pages) (by_place g.L.Law.opening sizes.pages) c.facts_of_trees.ensures.laws h.root c.args.start c.loop-next.at c.loop-next.passed p q a in
    (a.last.image, l.is, l.tree)

pub pass_over_nowait-requires-clause-may : goal.pass_over_nowait-requires-clause-may
pass_over_nowait-requires-clause-may g c =
    let sizes : Sizes = c.args.mtr.now.latches.now.sizes in let p : PassState = c.args.mtr.now.pass.now in let q : PassState = c.loop-next.mtr.pass.now in let h = c.requires.on in
    let a = c.loop-next.invariant.along h in
    let l = along_loaded sizes g.L.Trees.ROOTS (g.L.Law.lawful sizes.pages) (by_place g.L.Law.opening sizes.pages) c.facts_of_trees.ensures.laws h.root c.args.start c.loop-next.at c.loop-next.passed p q a in
    let part = c.in-Passed.ensures a.last.image l.is in
    let same = ap (λ m. m.now.sizes) c.loop-next.invariant.latches in
    subst (λ (k : Sizes). MayPass k (g.L.Law.lawful k.pages) (by_place g.L.Law.opening k.pages) g.L.Trees.ROOTS c.loop-next.at c.in-Passed.next q) (sym same)
    (along_may sizes g.L.Trees.ROOTS (g.L.Law.lawful sizes.pages) (by_place g.L.Law.opening sizes.pages) c.facts_of_trees.ensures.laws h.root c.args.start c.loop-next.at c.loop-next.passed p q a c.in-Passed.next part.0 part.1 h.room)

pub overflow_add-passed : goal.overflow_add-passed
overflow_add-passed g c = let a = (c.loop-next.invariant.along c.requires.on).few in omega arith

pub loop-next-smaller : goal.loop-next-smaller
loop-next-smaller g c = let a = (c.loop-next.invariant.along c.requires.on).few in omega arith

pub loop-next-preserved : goal.loop-next-preserved
loop-next-preserved g c =
    let sizes : Sizes = c.args.mtr.now.latches.now.sizes in let p : PassState = c.args.mtr.now.pass.now in let q : PassState = c.loop-next.mtr.pass.now in let r : PassState = c.pass_over_nowait.new.mtr.pass.now in
    let same = ap (λ m. m.now.sizes) c.loop-next.invariant.latches in
    let passed = subst (λ (k : Sizes). (m : MayPass k (g.L.Law.lawful k.pages) (by_place g.L.Law.opening k.pages) g.L.Trees.ROOTS c.loop-next.at c.in-Passed.next q)
    → HasPassed k (g.L.Law.lawful k.pages) (by_place g.L.Law.opening k.pages) g.L.Trees.ROOTS m.root m.start m.ps m.last q r) same c.in-Ok.ensures.passed in
    record {
      mtr = c.pass_over_nowait.ensures.still.mtr;
      latches = c.pass_over_nowait.ensures.still.latches ∙ c.loop-next.invariant.latches;
      pass = c.pass_over_nowait.ensures.still.pass ∙ c.loop-next.invariant.pass;
      few = few_both 0 p.view q.view r.view c.loop-next.invariant.few c.in-Ok.ensures.few;
      along = λ h.
          let a = c.loop-next.invariant.along h in
          let l = along_loaded sizes g.L.Trees.ROOTS (g.L.Law.lawful sizes.pages) (by_place g.L.Law.opening sizes.pages) c.facts_of_trees.ensures.laws h.root c.args.start c.loop-next.at c.loop-next.passed p q a in
          let part = c.in-Passed.ensures a.last.image l.is in
          let m = along_may sizes g.L.Trees.ROOTS (g.L.Law.lawful sizes.pages) (by_place g.L.Law.opening sizes.pages) c.facts_of_trees.ensures.laws h.root c.args.start c.loop-next.at c.loop-next.passed p q a c.in-Passed.next part.0 part.1 h.room in
          along_passed sizes g.L.Trees.ROOTS (g.L.Law.lawful sizes.pages) (by_place g.L.Law.opening sizes.pages) c.facts_of_trees.ensures.laws h.root c.args.start c.loop-next.at c.loop-next.passed p q a c.in-Passed.next r part.0
          (most_pages sizes.pages c.facts_of_trees.ensures.space) (passed m);
    }

pub returns-in-Err-clause-refused : goal.returns-in-Err-clause-refused
returns-in-Err-clause-refused g c = λ h.
    let sizes : Sizes = c.args.mtr.now.latches.now.sizes in let p : PassState = c.args.mtr.now.pass.now in let q : PassState = c.loop-next.mtr.pass.now in let r : PassState = c.pass_over_nowait.new.mtr.pass.now in
    let f = c.in-Err.fault in
    let same = ap (λ m. m.now.sizes) c.loop-next.invariant.latches in
    let refused = subst (λ (k : Sizes). (m : MayPass k (g.L.Law.lawful k.pages) (by_place g.L.Law.opening k.pages) g.L.Trees.ROOTS c.loop-next.at c.in-Passed.next q)
    → IsNextRefused k (g.L.Law.lawful k.pages) (by_place g.L.Law.opening k.pages) g.L.Trees.ROOTS m.root m.start m.ps m.last f q r) same c.in-Err.ensures.refused in
    let a = c.loop-next.invariant.along h in
    let l = along_loaded sizes g.L.Trees.ROOTS (g.L.Law.lawful sizes.pages) (by_place g.L.Law.opening sizes.pages) c.facts_of_trees.ensures.laws h.root c.args.start c.loop-next.at c.loop-next.passed p q a in
    let part = c.in-Passed.ensures a.last.image l.is in
    let m = along_may sizes g.L.Trees.ROOTS (g.L.Law.lawful sizes.pages) (by_place g.L.Law.opening sizes.pages) c.facts_of_trees.ensures.laws h.root c.args.start c.loop-next.at c.loop-next.passed p q a c.in-Passed.next part.0 part.1 h.room in
    refused_from sizes g.L.Trees.ROOTS (g.L.Law.lawful sizes.pages) (by_place g.L.Law.opening sizes.pages) c.facts_of_trees.ensures.laws c.args.leaf c.args.start p h c.loop-next.at c.loop-next.passed q a c.loop-next.invariant.few f r (refused m)

pub returns-in-Ends-clause-reached : goal.returns-in-Ends-clause-reached
returns-in-Ends-clause-reached g c = λ h.
    let sizes : Sizes = c.args.mtr.now.latches.now.sizes in let p : PassState = c.args.mtr.now.pass.now in let q : PassState = c.loop-next.mtr.pass.now in
    let a = c.loop-next.invariant.along h in
    let l = along_loaded sizes g.L.Trees.ROOTS (g.L.Law.lawful sizes.pages) (by_place g.L.Law.opening sizes.pages) c.facts_of_trees.ensures.laws h.root c.args.start c.loop-next.at c.loop-next.passed p q a in
    record { along = a; ends = c.in-Ends.ensures a.last.image l.is }
