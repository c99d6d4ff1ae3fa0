use Rattle.std.proofs.Common.{◌≡◌, ℕ, List, ◌+◌, ◌++◌, ◌∙◌, length, sym, ap, subst, arith}
use Rattle.ib_map.specs.Keys.{end_rank}
use Rattle.ib_map.specs.Pairs.{Rises}
use Rattle.ib_walk.specs.Pages.{PageState}
use Rattle.ib_page.specs.Form.{page_of}
use Rattle.ib_walk.specs.Words.{memory_of, state_of}
use Rattle.ib_tree.proofs.ContentLaws.{IsWalked, walked-none, walked-high, walked-rises, walked-next, walked-end, walked-all}
use Rattle.ib_tree.proofs.content.content_in.Goals as goal

pub loop-init : goal.loop-init
loop-init g c =
    subst (IsWalked (memory_of (g.P.Images.images c.args.pages.now)) c.args.root 0 c.first_leaf-page.result) (sym c.new-map.ensures)
    (walked-none (g.P.Images.images c.args.pages.now) c.args.root c.requires c.first_leaf-page.result c.first_leaf-page.ensures)

pub returns-then-page-eq0 : goal.returns-then-page-eq0
returns-then-page-eq0 g c =
    walked-end (g.P.Images.images c.args.pages.now) c.args.root c.requires c.loop.counter c.loop.map
    (subst (λ page. IsWalked (memory_of (g.P.Images.images c.args.pages.now)) c.args.root c.loop.counter page c.loop.map) c.if-page-eq0.true c.loop.invariant)

pub image_of-image-requires : goal.image_of-image-requires
image_of-image-requires g c = walked-high (g.P.Images.images c.args.pages.now) c.args.root c.requires c.loop.counter c.loop.page c.loop.map c.loop.invariant c.if-page-eq0.false

pub insert_records-requires : goal.insert_records-requires
insert_records-requires g c =
    subst (λ (p : PageState). Rises 0 (c.loop.map ++ p.records) end_rank) (c.image_of-image.ensures ∙ ap (λ (ws : List ℕ). state_of (page_of ws)) (sym c.test-leaf.ensures))
    (walked-rises (g.P.Images.images c.args.pages.now) c.args.root c.requires c.loop.counter c.loop.page c.loop.map c.loop.invariant c.if-page-eq0.false)

pub loop-preserved : goal.loop-preserved
loop-preserved g c =
    let m = memory_of (g.P.Images.images c.args.pages.now) in
    let next : (m c.loop.page).next ≡ c.next-page.result = ap (λ (p : PageState). p.next) (c.image_of-image.ensures ∙ ap (λ (ws : List ℕ). state_of (page_of ws)) (sym c.test-leaf.ensures)) ∙ sym c.next-page.ensures.next in
    let map : c.loop.map ++ (m c.loop.page).records ≡ c.insert_records.new.map = ap (λ (p : PageState). c.loop.map ++ p.records) (c.image_of-image.ensures ∙ ap (λ (ws : List ℕ). state_of (page_of ws)) (sym c.test-leaf.ensures)) ∙ sym c.in_ok-insert_records.ensures in
    let walked = walked-next (g.P.Images.images c.args.pages.now) c.args.root c.requires c.loop.counter c.loop.page c.loop.map c.loop.invariant c.if-page-eq0.false in
    subst (IsWalked m c.args.root (c.loop.counter + 1) c.next-page.result) map
    (subst (λ page. IsWalked m c.args.root (c.loop.counter + 1) page (c.loop.map ++ (m c.loop.page).records)) next walked)

pub returns : goal.returns
returns g c =
    let done = c.loop-test.false in
    let end = c.loop.auto.counter-end in
    walked-all (g.P.Images.images c.args.pages.now) c.args.root c.requires c.loop.page c.loop.map
    (subst (λ count. IsWalked (memory_of (g.P.Images.images c.args.pages.now)) c.args.root count c.loop.page c.loop.map) (let all : c.loop.counter ≡ length (g.P.Images.images c.args.pages.now) = omega arith in all) c.loop.invariant)
