-- The path goes on to the key's child.
use Rattle.std.proofs.Common.{◌≡◌, ◌∙◌, ◌+◌, ◌-◌, ◌∷◌, ◌++◌, [], List, ℕ, length, length-append, sym, ap, subst, arith}
use Rattle.ib_walk.specs.Trees.{height_of}
use Rattle.ib_heap.specs.Form.{page_of}
use Rattle.ib_walk.specs.Words.{memory_of, state_of}
use Rattle.ib_plans.specs.Agreement.{path_down, path_of}
use Rattle.ib_plan_tests.proofs.Agreeing.{path-step, path-end, height-read}
use Rattle.ib_plan_tests.proofs.pages.path_to.Goals as goal

pub push-requires : goal.push-requires
push-requires g c = let h = c.loop-level.invariant.count in let lt = c.loop-level-test.true in let low = c.level-level-end.ensures.low in omega arith

pub loop-level-preserved : goal.loop-level-preserved
loop-level-preserved g c =
    let m = memory_of c.args.memory.now in
    let height = c.level-level-end.ensures.level ∙ ap (λ ws. (state_of (page_of ws)).level) c.test.ensures ∙ height-read c.args.memory.now c.args.root c.image_at.result.now c.image_at.ensures.words in
    let lt = c.loop-level-test.true in
    let step = path-step m c.args.key c.args.root c.loop-level._level c.loop-level.page c.loop-level.path (omega arith) c.loop-level.invariant.way in
    let rest = path_down m c.args.key (height_of m c.args.root - (c.loop-level._level + 1)) in
    let child = c.child_at-page.ensures in
    record {
      way = subst (λ (path : List ℕ). path_of m c.args.key c.args.root ≡ path ++ rest c.child_at-page.result) (sym c.push.ensures)
          (subst (λ page. path_of m c.args.key c.args.root ≡ (c.loop-level.path ++ c.loop-level.page ∷ []) ++ rest page) (sym child) step);
      count = let long = ap length c.push.ensures in let parts = length-append c.loop-level.path (c.loop-level.page ∷ []) in let n = c.loop-level.invariant.count in omega arith;
    }

pub returns-clause-way : goal.returns-clause-way
returns-clause-way g c =
    let height = c.level-level-end.ensures.level ∙ ap (λ ws. (state_of (page_of ws)).level) c.test.ensures ∙ height-read c.args.memory.now c.args.root c.image_at.result.now c.image_at.ensures.words in
    let done = c.loop-level-test.false in
    let end = c.loop-level.auto._level-end in
    c.push-2.ensures ∙ path-end (memory_of c.args.memory.now) c.args.key c.args.root c.loop-level._level c.loop-level.page c.loop-level.path (omega arith) c.loop-level.invariant.way
