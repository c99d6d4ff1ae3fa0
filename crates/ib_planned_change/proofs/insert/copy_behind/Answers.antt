-- The leaf behind a page of the tree is one of the tree.
use Rattle.std.proofs.Common.{◌≡◌, ◌∙◌, subst, arith, length}
use Rattle.ib_page.specs.Form.{page_of}
use Rattle.ib_plans.specs.Agreement.{IsThere}
use Rattle.ib_planned_log.specs.LeafChange.{kept_pages}
use Rattle.ib_planned_change.proofs.BehindLaws.{next-is, tree-formed, tree-image, tree-within}
use Rattle.ib_planned_change.proofs.insert.copy_behind.Goals as goal

pub image_at-requires : goal.image_at-requires
image_at-requires c = let s = c.requires.some in tree-within s.0 c.args.images.now s.1 c.args.page (c.requires.trees s.0 s.1).0

pub next-next-requires : goal.next-next-requires
next-next-requires c =
    let s = c.requires.some in let kind = (c.requires.trees s.0 s.1).0 in
    tree-formed (page_of c.image_at.result.now) (tree-image s.0 c.args.images.now s.1 c.args.page c.image_at.result.now (tree-within s.0 c.args.images.now s.1 c.args.page kind) c.image_at.ensures.image kind)

pub copy-requires-clause-page : goal.copy-requires-clause-page
copy-requires-clause-page c =
    let s = c.requires.some in let trees = c.requires.trees s.0 s.1 in
    let next : c.next-next.result ≡ (kept_pages (length c.args.images.now) s.0 c.args.page).next =
    c.next-next.ensures ∙ next-is s.0 c.args.images.now s.1 c.args.page c.image_at.result.now (tree-within s.0 c.args.images.now s.1 c.args.page trees.0) c.image_at.ensures.image in
    let ne = c.if-next-ne0.true in
    let some : (kept_pages (length c.args.images.now) s.0 c.args.page).next ≡ 0 → ⊥ = λ z. absurd (omega arith) in
    let lt = tree-within s.0 c.args.images.now s.1 (kept_pages (length c.args.images.now) s.0 c.args.page).next (trees.1 some) in omega arith

pub returns-then-next-ne0-clause-behind : goal.returns-then-next-ne0-clause-behind
returns-then-next-ne0-clause-behind c = λ log b ne.
    let next : c.next-next.result ≡ (kept_pages (length c.args.images.now) log c.args.page).next =
    c.next-next.ensures ∙ next-is log c.args.images.now b c.args.page c.image_at.result.now (tree-within log c.args.images.now b c.args.page (c.requires.trees log b).0) c.image_at.ensures.image in
    subst (IsThere c.copy.new.work) next c.copy.ensures.there

pub returns-else-next-ne0-clause-behind : goal.returns-else-next-ne0-clause-behind
returns-else-next-ne0-clause-behind c = λ log b ne.
    let next : c.next-next.result ≡ (kept_pages (length c.args.images.now) log c.args.page).next =
    c.next-next.ensures ∙ next-is log c.args.images.now b c.args.page c.image_at.result.now (tree-within log c.args.images.now b c.args.page (c.requires.trees log b).0) c.image_at.ensures.image in
    let z = c.if-next-ne0.false in absurd (ne (omega arith))
