-- The page that was come to is that of the path, and the pages down to it are its front.
use Rattle.std.proofs.Common.{◌≡◌, ◌+◌, ◌<◌, ◌∙◌, ◌∷◌, ◌++◌, [], ℕ, length, sym, ap, subst, arith}
use Rattle.ib_walk.specs.Search.{page_below}
use Rattle.ib_walk.specs.Trees.{height_of}
use Rattle.ib_plans.specs.Agreement.{path_down}
use Rattle.ib_planned_log.specs.LeafChange.{kept_pages}
use Rattle.ib_planned_change.proofs.DescentLaws.{path-within, path-low, path-long, path-more, root-formed, root-height, node-tree, node-first, node-child, node-small}
use Rattle.ib_planned_change.proofs.descent.path_to.Goals as goal

pub level-end-requires : goal.level-end-requires
level-end-requires c = root-formed c.requires.0 c.args.images.now c.requires.1 c.args.key c.image_at.result.now c.image_at.ensures.image

pub image_at-requires-in-loop : goal.image_at-requires-in-loop
image_at-requires-in-loop c =
    let h = c.level-end.ensures.level ∙ root-height c.requires.0 c.args.images.now c.requires.1 c.args.key c.image_at.result.now c.image_at.ensures.image in
    let lt = c.loop-test.true in
    let inside = path-within c.requires.0 c.args.images.now c.requires.1 c.args.key c.loop.counter (omega arith) in
    subst (λ (n : ℕ). n < length c.args.images.now) (sym (c.loop.invariant.page_is c.requires.0 c.requires.1)) inside

pub child_of-page-requires-clause-tree : goal.child_of-page-requires-clause-tree
child_of-page-requires-clause-tree c =
    let h = c.level-end.ensures.level ∙ root-height c.requires.0 c.args.images.now c.requires.1 c.args.key c.image_at.result.now c.image_at.ensures.image in
    let lt = c.loop-test.true in
    node-tree c.requires.0 c.args.images.now c.requires.1 c.args.key c.loop.counter (omega arith) c.loop.page (c.loop.invariant.page_is c.requires.0 c.requires.1) c.image_at-in-loop.result.now c.image_at-in-loop.ensures.image

pub child_of-page-requires-clause-first : goal.child_of-page-requires-clause-first
child_of-page-requires-clause-first c =
    let h = c.level-end.ensures.level ∙ root-height c.requires.0 c.args.images.now c.requires.1 c.args.key c.image_at.result.now c.image_at.ensures.image in
    let lt = c.loop-test.true in
    node-first c.requires.0 c.args.images.now c.requires.1 c.args.key c.loop.counter (omega arith) c.loop.page (c.loop.invariant.page_is c.requires.0 c.requires.1) c.image_at-in-loop.result.now c.image_at-in-loop.ensures.image

pub child_of-page-requires-clause-small : goal.child_of-page-requires-clause-small
child_of-page-requires-clause-small c =
    let h = c.level-end.ensures.level ∙ root-height c.requires.0 c.args.images.now c.requires.1 c.args.key c.image_at.result.now c.image_at.ensures.image in
    let lt = c.loop-test.true in
    node-small c.requires.0 c.args.images.now c.requires.1 c.args.key c.loop.counter (omega arith) c.loop.page (c.loop.invariant.page_is c.requires.0 c.requires.1) c.image_at-in-loop.result.now c.image_at-in-loop.ensures.image

pub push-requires-in-loop : goal.push-requires-in-loop
push-requires-in-loop c =
    let h = c.level-end.ensures.level ∙ root-height c.requires.0 c.args.images.now c.requires.1 c.args.key c.image_at.result.now c.image_at.ensures.image in
    let lt = c.loop-test.true in
    let low = path-low c.requires.0 c.args.images.now c.requires.1 c.args.key in
    let long = ap length (c.loop.invariant.path_is c.requires.0 c.requires.1) ∙ path-long c.requires.0 c.args.images.now c.requires.1 c.args.key c.loop.counter in
    omega arith

pub loop-preserved : goal.loop-preserved
loop-preserved c = record {
  page_is = λ log b.
      let h = c.level-end.ensures.level ∙ root-height log c.args.images.now b c.args.key c.image_at.result.now c.image_at.ensures.image in
      let lt = c.loop-test.true in
      c.child_of-page.ensures ∙ node-child log c.args.images.now b c.args.key c.loop.counter (omega arith) c.loop.page (c.loop.invariant.page_is log b) c.image_at-in-loop.result.now c.image_at-in-loop.ensures.image;
  path_is = λ log b.
      let h = c.level-end.ensures.level ∙ root-height log c.args.images.now b c.args.key c.image_at.result.now c.image_at.ensures.image in
      let lt = c.loop-test.true in
      let next : c.child_of-page.result ≡ page_below (kept_pages (length c.args.images.now) log) c.args.key (c.loop.counter + 1) 1 =
      c.child_of-page.ensures ∙ node-child log c.args.images.now b c.args.key c.loop.counter (omega arith) c.loop.page (c.loop.invariant.page_is log b) c.image_at-in-loop.result.now c.image_at-in-loop.ensures.image in
      c.push-in-loop.ensures ∙ (ap (λ ps. ps ++ c.child_of-page.result ∷ []) (c.loop.invariant.path_is log b)
      ∙ (ap (λ n. path_down (kept_pages (length c.args.images.now) log) c.args.key c.loop.counter 1 ++ n ∷ []) next ∙ sym (path-more log c.args.images.now b c.args.key c.loop.counter)));
}

pub returns : goal.returns
returns c = λ log b.
    let h = c.level-end.ensures.level ∙ root-height log c.args.images.now b c.args.key c.image_at.result.now c.image_at.ensures.image in
    let ge = c.loop-test.false in
    let end = c.loop.auto.counter-end in
    let all : c.loop.counter ≡ height_of (kept_pages (length c.args.images.now) log) 1 = omega arith in
    c.loop.invariant.path_is log b ∙ ap (λ d. path_down (kept_pages (length c.args.images.now) log) c.args.key d 1) all
