use Rattle.std.proofs.Common.{◌≡◌, ℕ, List, ◌+◌, ◌<◌, ◌∙◌, length, slice_get, sym, ap, subst, arith}
use Rattle.ib_page.specs.Form.{page_of}
use Rattle.ib_walk.specs.Pages.{PageState}
use Rattle.ib_walk.specs.Trees.{height_of}
use Rattle.ib_walk.specs.Words.{memory_of, state_of}
use Rattle.ib_tree.proofs.ContentLaws.{IsFirstAt, first-root, first-high, first-some, first-child, first-leaf, tree-held}
use Rattle.ib_tree.proofs.content.first_leaf.Goals as goal

pub image_of-top-requires : goal.image_of-top-requires
image_of-top-requires g c = let has = c.requires in let a = has.within in let b = has.few in let d = has.least in omega arith

pub loop-init : goal.loop-init
loop-init g c = first-root (g.P.Images.images c.args.pages.now) c.args.root c.requires

pub image_of-node-requires : goal.image_of-node-requires
image_of-node-requires g c =
    let height = c.level-end.ensures.level ∙ ap (λ (p : PageState). p.level) (sym (c.image_of-top.ensures ∙ ap (λ (ws : List ℕ). state_of (page_of ws)) (sym c.test.ensures))) in
    let lt = c.loop-test.true in
    first-high (g.P.Images.images c.args.pages.now) c.args.root c.requires c.loop.counter c.loop.page (omega arith) c.loop.invariant

pub record_at-page-requires-clause-tree : goal.record_at-page-requires-clause-tree
record_at-page-requires-clause-tree g c =
    let height = c.level-end.ensures.level ∙ ap (λ (p : PageState). p.level) (sym (c.image_of-top.ensures ∙ ap (λ (ws : List ℕ). state_of (page_of ws)) (sym c.test.ensures))) in
    let lt = c.loop-test.true in
    tree-held (page_of c.test-in-loop.result)
    (subst (λ (p : PageState). 0 < length p.records) (c.image_of-node.ensures ∙ ap (λ (ws : List ℕ). state_of (page_of ws)) (sym c.test-in-loop.ensures)) (first-some (g.P.Images.images c.args.pages.now) c.args.root c.requires c.loop.counter c.loop.page (omega arith) c.loop.invariant))

pub record_at-page-requires-clause-in_range : goal.record_at-page-requires-clause-in_range
record_at-page-requires-clause-in_range g c =
    let height = c.level-end.ensures.level ∙ ap (λ (p : PageState). p.level) (sym (c.image_of-top.ensures ∙ ap (λ (ws : List ℕ). state_of (page_of ws)) (sym c.test.ensures))) in
    let lt = c.loop-test.true in
    subst (λ (p : PageState). 0 < length p.records) (c.image_of-node.ensures ∙ ap (λ (ws : List ℕ). state_of (page_of ws)) (sym c.test-in-loop.ensures)) (first-some (g.P.Images.images c.args.pages.now) c.args.root c.requires c.loop.counter c.loop.page (omega arith) c.loop.invariant)

pub loop-preserved : goal.loop-preserved
loop-preserved g c =
    first-child (g.P.Images.images c.args.pages.now) c.args.root c.requires c.loop.counter c.loop.page c.record_at-page.result c.loop.invariant
    (ap (λ (p : PageState). slice_get p.records 0) (c.image_of-node.ensures ∙ ap (λ (ws : List ℕ). state_of (page_of ws)) (sym c.test-in-loop.ensures)) ∙ c.record_at-page.ensures)

pub overflow_cast-page : goal.overflow_cast-page
overflow_cast-page g c =
    let height = c.level-end.ensures.level ∙ ap (λ (p : PageState). p.level) (sym (c.image_of-top.ensures ∙ ap (λ (ws : List ℕ). state_of (page_of ws)) (sym c.test.ensures))) in
    let lt = c.loop-test.true in
    let child = first-child (g.P.Images.images c.args.pages.now) c.args.root c.requires c.loop.counter c.loop.page c.record_at-page.result c.loop.invariant
    (ap (λ (p : PageState). slice_get p.records 0) (c.image_of-node.ensures ∙ ap (λ (ws : List ℕ). state_of (page_of ws)) (sym c.test-in-loop.ensures)) ∙ c.record_at-page.ensures) in
    let high = first-high (g.P.Images.images c.args.pages.now) c.args.root c.requires (c.loop.counter + 1) c.record_at-page.result.1 (omega arith) child in
    let most = c.requires.most in omega arith

pub returns : goal.returns
returns g c =
    let height = c.level-end.ensures.level ∙ ap (λ (p : PageState). p.level) (sym (c.image_of-top.ensures ∙ ap (λ (ws : List ℕ). state_of (page_of ws)) (sym c.test.ensures))) in
    let done = c.loop-test.false in
    let end = c.loop.auto.counter-end in
    first-leaf (g.P.Images.images c.args.pages.now) c.args.root c.requires c.loop.page
    (subst (λ depth. IsFirstAt (memory_of (g.P.Images.images c.args.pages.now)) c.args.root depth c.loop.page) (let all : c.loop.counter ≡ height_of (memory_of (g.P.Images.images c.args.pages.now)) c.args.root = omega arith in all) c.loop.invariant)
