-- Levels of a walk: what a level weighs, and what each of its pages is.
use Rattle.std.specs.List.{AllByRecursion}
use Rattle.std.proofs.Common.{◌≡◌, ℕ, zero, suc, ◌+◌, ◌≤◌, List, [], ◌∷◌, ◌++◌, refl, ap, arith}
use Rattle.ib_map.specs.Pairs.{Rises}
use Rattle.ib_walk.specs.Pages.{Tree, PageMemory}
use Rattle.ib_walk.specs.Walk.{Visit, children, below, sum_of, weight_along, IsNodeAt, IsLeafAt, IsTree}
use Rattle.ib_walk.specs.Trees.{top_of}
use Rattle.ib_walk.proofs.SearchLaws.{above, AllByRecursion-at}

-- two facts of each element give a third one
pub AllByRecursion-both : {X : Type 0} (A B C : X → Type 0) (xs : List X) → ((x : X) → A x → B x → C x) → AllByRecursion A xs → AllByRecursion B xs → AllByRecursion C xs
AllByRecursion-both A B C [] so a b = tt
AllByRecursion-both A B C (x ∷ xs) so a b = (so x a.0 b.0, AllByRecursion-both A B C xs so a.1 b.1)

-- one level more above
pub above-suc : (depth height : ℕ) → above depth (suc height) ≡ suc (above depth height)
above-suc zero height = refl
above-suc (suc depth) height = ap suc (above-suc depth height)

-- a height is so many levels above another
pub above-sum : (depth height : ℕ) → above depth height ≡ depth + height
above-sum zero height = omega arith
above-sum (suc depth) height = let r = above-sum depth height in omega arith

-- a level weighs no more than it and all levels below it, and these no more than with the levels above them
pub level-le_weight : (f : ℕ → Visit → ℕ) (m : PageMemory) (height : ℕ) (vs : List Visit) → sum_of (f height) vs ≤ weight_along f m height vs
level-le_weight f m zero vs = omega arith
level-le_weight f m (suc height) vs = omega arith

pub below-le_weight : (f : ℕ → Visit → ℕ) (m : PageMemory) (depth height : ℕ) (vs : List Visit) → weight_along f m height (below m depth vs) ≤ weight_along f m (above depth height) vs
below-le_weight f m zero height vs = omega arith
below-le_weight f m (suc depth) height vs = let r = below-le_weight f m depth height (children m vs) in omega arith

-- no level below is the level itself
pub below-zero : (m : PageMemory) (height : ℕ) (vs : List Visit) → height ≡ 0 → below m height vs ≡ vs
below-zero m zero vs e = refl
below-zero m (suc height) vs e = absurd (omega arith)

-- the page of a visit is a page of a tree, at the height of its level, with records in its range
pub kind-visit : (m : PageMemory) (height : ℕ) (xs : List Visit) (w : Visit) (ys : List Visit) → IsTree m height (xs ++ w ∷ ys) → (m w.page).kind ≡ Tree
kind-visit m zero xs w ys t = (AllByRecursion-at (IsLeafAt m) xs w ys t.leaves).kind
kind-visit m (suc height) xs w ys t = (AllByRecursion-at (IsNodeAt m (suc height)) xs w ys t.nodes.0).kind

pub level-visit : (m : PageMemory) (height : ℕ) (xs : List Visit) (w : Visit) (ys : List Visit) → IsTree m height (xs ++ w ∷ ys) → (m w.page).level ≡ height
level-visit m zero xs w ys t = (AllByRecursion-at (IsLeafAt m) xs w ys t.leaves).level
level-visit m (suc height) xs w ys t = (AllByRecursion-at (IsNodeAt m (suc height)) xs w ys t.nodes.0).level

pub Rises-visit : (m : PageMemory) (height : ℕ) (xs : List Visit) (w : Visit) (ys : List Visit) → IsTree m height (xs ++ w ∷ ys) → Rises w.low (m w.page).records w.high
Rises-visit m zero xs w ys t = (AllByRecursion-at (IsLeafAt m) xs w ys t.leaves).within
Rises-visit m (suc height) xs w ys t = (AllByRecursion-at (IsNodeAt m (suc height)) xs w ys t.nodes.0).within

-- a root is a page of a tree
pub kind-root : (m : PageMemory) (height root : ℕ) → IsTree m height (top_of root) → (m root).kind ≡ Tree
kind-root m zero root t = t.leaves.0.kind
kind-root m (suc height) root t = t.nodes.0.0.kind

-- the level below a level is the top of trees that are one lower
pub IsTree-children : (m : PageMemory) (height : ℕ) (vs : List Visit) → IsTree m (suc height) vs → IsTree m height (children m vs)
IsTree-children m height vs t = record { nodes = t.nodes.1; leaves = t.leaves }
