-- The image that is looked at is that of the key's leaf.
use Rattle.std.proofs.Common.{◌≡◌, ℕ, ◌∙◌, List, length, Some, None, sym, ap, subst}
use Rattle.std.specs.Prelude.{MatchOption}
use Rattle.ib_map.specs.Pairs.{value_at}
use Rattle.ib_page.specs.Image.{IsTreePage, records_of}
use Rattle.ib_page.specs.Page.{PageValue, HoldsPage, HoldsTree}
use Rattle.ib_page.specs.Page.PageValue.{Malformed, Free, Tree}
use Rattle.ib_page.specs.Form.{page_of}
use Rattle.ib_page.specs.Work.{changed_of}
use Rattle.ib_leaf.proofs.LeafStays.{image-got, leaf-tree, records-are}
use Rattle.ib_leaf.proofs.leaf.look_in.Goals as goal

formed : (v : PageValue) → HoldsTree v → HoldsPage v
formed (Tree p) tree = tt
formed (Free clock) tree = absurd tree
formed Malformed tree = absurd tree

pub get-requires : goal.get-requires
get-requires g c =
    let p = c.args.mtr.now.pass.now in let sizes = c.args.mtr.now.latches.now.sizes in
    let got = subst (λ o. MatchOption o (changed_of c.args.leaf p.work ≡ None) (λ image. changed_of c.args.leaf p.work ≡ Some image.now)) c.unwrap-image.ensures c.image.ensures in
    let same = image-got sizes c.requires.on.seated.fits c.args.key c.args.leaf p c.requires.on.at c.unwrap-image.result.now got in
    subst IsTreePage (sym same) (leaf-tree sizes c.requires.on.seated.fits c.args.key c.args.leaf p c.requires.on.at)

pub len-requires : goal.len-requires
len-requires g c =
    let p = c.args.mtr.now.pass.now in let sizes = c.args.mtr.now.latches.now.sizes in
    let got = subst (λ o. MatchOption o (changed_of c.args.leaf p.work ≡ None) (λ image. changed_of c.args.leaf p.work ≡ Some image.now)) c.unwrap-image.ensures c.image.ensures in
    let same = image-got sizes c.requires.on.seated.fits c.args.key c.args.leaf p c.requires.on.at c.unwrap-image.result.now got in
    let tree = subst IsTreePage (sym same) (leaf-tree sizes c.requires.on.seated.fits c.args.key c.args.leaf p c.requires.on.at) in
    formed (page_of c.unwrap-image.result.now) tree

pub returns-clause-value : goal.returns-clause-value
returns-clause-value g c =
    let p = c.args.mtr.now.pass.now in let sizes = c.args.mtr.now.latches.now.sizes in
    let got = subst (λ o. MatchOption o (changed_of c.args.leaf p.work ≡ None) (λ image. changed_of c.args.leaf p.work ≡ Some image.now)) c.unwrap-image.ensures c.image.ensures in
    let same = image-got sizes c.requires.on.seated.fits c.args.key c.args.leaf p c.requires.on.at c.unwrap-image.result.now got in
    c.get.ensures ∙ (ap (λ (ws : List ℕ). value_at c.args.key (records_of ws)) same
    ∙ ap (value_at c.args.key) (records-are sizes c.requires.on.seated.fits c.args.key c.args.leaf p c.requires.on.at))

pub returns-clause-count : goal.returns-clause-count
returns-clause-count g c =
    let p = c.args.mtr.now.pass.now in let sizes = c.args.mtr.now.latches.now.sizes in
    let got = subst (λ o. MatchOption o (changed_of c.args.leaf p.work ≡ None) (λ image. changed_of c.args.leaf p.work ≡ Some image.now)) c.unwrap-image.ensures c.image.ensures in
    let same = image-got sizes c.requires.on.seated.fits c.args.key c.args.leaf p c.requires.on.at c.unwrap-image.result.now got in
    c.len.ensures.count ∙ (ap (λ (ws : List ℕ). length (records_of ws)) same
    ∙ ap length (records-are sizes c.requires.on.seated.fits c.args.key c.args.leaf p c.requires.on.at))
