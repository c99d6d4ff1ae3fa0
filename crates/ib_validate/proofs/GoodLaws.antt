-- The test of a page where it is met says whether it is a leaf there, or a node.
use Rattle.std.proofs.Common.{◌≡◌, ℕ, zero, suc, ◌<◌, Bool, true, ◌||◌, [], ◌∷◌, length, eqb, refl, sym, ap, ◌∙◌, arith}
use Rattle.std.proofs.lemmas.Bool.{and_parts, and_from, eq-eqb, eqb-true}
use Rattle.std.proofs.Math.Dec.{eqb-suc-zero}
use Rattle.ib_map.specs.Keys.{rank}
use Rattle.ib_map.specs.Pairs.{Pairs, first_rank}
use Rattle.ib_page.specs.Page.{rises}
use Rattle.ib_heap.proofs.PageLaws.{rises-Decides}
use Rattle.ib_walk.specs.Pages.{PageKind, Malformed, Free, Tree, PageMemory}
use Rattle.ib_walk.specs.Walk.{Visit}
use Rattle.ib_validate.specs.Patch.{IsGoodAt}
use Rattle.ib_validate.specs.Positions.{is_tree_page, starts, is_good_at}

tree-page : (k : PageKind) → is_tree_page k ≡ true → k ≡ Tree
tree-page Tree e = refl
tree-page Free e = absurd (let x = e in cc)
tree-page Malformed e = absurd (let x = e in cc)

page-tree : (k : PageKind) → k ≡ Tree → is_tree_page k ≡ true
page-tree k e = ap is_tree_page e

starts-first : (xs : Pairs) (low high : ℕ) → starts xs low ≡ true → (first_rank xs high ≡ low) × (0 < length xs)
starts-first [] low high e = absurd (let x = e in cc)
starts-first (x ∷ xs) low high e = (eqb-true (rank x.0) low e, omega arith)

first-starts : (xs : Pairs) (low high : ℕ) → first_rank xs high ≡ low → 0 < length xs → starts xs low ≡ true
first-starts [] low high e some = absurd (omega arith)
first-starts (x ∷ xs) low high e some = eq-eqb (rank x.0) low e

only : (h : ℕ) (b : Bool) → (eqb (suc h) 0 || b) ≡ b
only h b = ap (λ a. a || b) (eqb-suc-zero h)

pub good-at : (m : PageMemory) (h : ℕ) (v : Visit) → is_good_at m h v ≡ true → IsGoodAt m h v
good-at m zero v e =
    let a = and_parts (is_tree_page (m v.page).kind) _ e in
    let b = and_parts (eqb (m v.page).level 0) _ a.1 in
    let c = and_parts (rises v.low (m v.page).records v.high) _ b.1 in
    record { kind = tree-page (m v.page).kind a.0; level = eqb-true (m v.page).level 0 b.0; within = (rises-Decides v.low (m v.page).records v.high).0 c.0 }
good-at m (suc h) v e =
    let a = and_parts (is_tree_page (m v.page).kind) _ e in
    let b = and_parts (eqb (m v.page).level (suc h)) _ a.1 in
    let c = and_parts (rises v.low (m v.page).records v.high) _ b.1 in
    let d = starts-first (m v.page).records v.low v.high (sym (only h (starts (m v.page).records v.low)) ∙ c.1) in
    record { kind = tree-page (m v.page).kind a.0; level = eqb-true (m v.page).level (suc h) b.0; within = (rises-Decides v.low (m v.page).records v.high).0 c.0; first = d.0; some = d.1 }

pub at-good : (m : PageMemory) (h : ℕ) (v : Visit) → IsGoodAt m h v → is_good_at m h v ≡ true
at-good m zero v g =
    and_from (is_tree_page (m v.page).kind) _ (page-tree (m v.page).kind g.kind)
    (and_from (eqb (m v.page).level 0) _ (eq-eqb (m v.page).level 0 g.level)
    (and_from (rises v.low (m v.page).records v.high) _ ((rises-Decides v.low (m v.page).records v.high).1 g.within) refl))
at-good m (suc h) v g =
    and_from (is_tree_page (m v.page).kind) _ (page-tree (m v.page).kind g.kind)
    (and_from (eqb (m v.page).level (suc h)) _ (eq-eqb (m v.page).level (suc h) g.level)
    (and_from (rises v.low (m v.page).records v.high) _ ((rises-Decides v.low (m v.page).records v.high).1 g.within) (only h (starts (m v.page).records v.low) ∙ first-starts (m v.page).records v.low v.high g.first g.some)))
