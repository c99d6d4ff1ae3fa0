-- The positions of a new space: its roots, each a leaf with all keys.
use Rattle.std.proofs.Common.{◌≡◌, ℕ, zero, suc, ◌+◌, ◌<◌, ◌≤◌, inl, inr, Bool, true, List, [], ◌∷◌, Option, Some, None, refl, sym, ap, ◌∙◌, arith}
use Rattle.std.proofs.lemmas.Bool.{cases_eq}
use Rattle.std.specs.Prelude.{◌&&◌}
use Rattle.ib_walk.specs.Pages.{PageMemory}
use Rattle.ib_walk.specs.Walk.{Visit, weight_along}
use Rattle.ib_walk.specs.Trees.{top_of, weight_of}
use Rattle.ib_validate.specs.Patch.{top}
use Rattle.ib_validate.specs.PatchTest.{Position, Positions, visit_of, at_page, positions_over, children_at, detach, detach_at, detach_pages, are_back, back_at, all_back, IsKeptBeside}
use Rattle.ib_tree.specs.Tests.{root_position, root_positions}
use Rattle.ib_walk.proofs.ChoiceLaws.{Some-same, cond-eq, cond-ne}
use Rattle.ib_tree.proofs.PositionLaws.{positions_over-set_at}

-- a page above the roots is not met
pub root_positions-above : (roots page : ℕ) → roots < page → root_positions roots page ≡ None
root_positions-above zero page lt = refl
root_positions-above (suc r) page lt =
    cond-ne page (suc r) (Some (root_position (suc r))) (root_positions r page) (λ e. omega arith) ∙ root_positions-above r page (omega arith)

-- what is met is a root, as a leaf
record IsRootPosition (roots : ℕ) (e : Position) : Type 0 where
  some : 0 < e.tree
  few : e.tree ≤ roots
  leaf : e.height ≡ 0

IsRootPosition-met : (roots page : ℕ) (e : Position) → root_positions roots page ≡ Some e → IsRootPosition roots e
IsRootPosition-met zero page e at = absurd (let x = at in cc)
IsRootPosition-met (suc r) page e at = elim (cases_eq page (suc r)) [
  | inl is ↦
      let same = Some-same (root_position (suc r)) e (sym (cond-eq page (suc r) (Some (root_position (suc r))) (root_positions r page) is) ∙ at) in
      let tree = ap (λ (d : Position). d.tree) same in
      record { some = omega arith; few = omega arith; leaf = sym (ap (λ (d : Position). d.height) same) }
  | inr ne ↦
      let found = IsRootPosition-met r page e (sym (cond-ne page (suc r) (Some (root_position (suc r))) (root_positions r page) ne) ∙ at) in
      let few = found.few in
      record { some = found.some; few = omega arith; leaf = found.leaf }
]

-- what the roots weigh, each in its own tree
module _ (f : ℕ → Visit → ℕ) (root n : ℕ) where
  no-positions : (k : ℕ) → positions_over f root (λ page. None) k ≡ 0
  no-positions zero = refl
  no-positions (suc k) = let r = no-positions k in omega arith

  position-set : (r : ℕ) → suc r < n → positions_over f root (root_positions (suc r)) n ≡ positions_over f root (root_positions r) n + at_page f root (suc r) (Some (root_position (suc r)))
  position-set r lt =
      let set = positions_over-set_at f root (root_positions r) n (suc r) (Some (root_position (suc r))) lt in
      let none = ap (at_page f root (suc r)) (root_positions-above r (suc r) (omega arith)) in omega arith

  before-root : (k : ℕ) → k < n → k < root → positions_over f root (root_positions k) n ≡ 0
  before-root zero some lt = no-positions n
  before-root (suc k) some lt =
      let set = position-set k some in
      let none = cond-ne (suc k) root (f 0 (visit_of (suc k) (root_position (suc k)))) 0 (λ e. omega arith) in
      let r = before-root k (omega arith) (omega arith) in omega arith

  with-root : (k : ℕ) → k < n → 0 < root → root ≤ k → positions_over f root (root_positions k) n ≡ f 0 (top root)
  with-root zero some above le = absurd (omega arith)
  with-root (suc k) some above le =
      let set = position-set k some in
      elim (cases_eq (suc k) root) [
        | inl e ↦
            let here = cond-eq (suc k) root (f 0 (visit_of (suc k) (root_position (suc k)))) 0 e in
            let same = ap (λ r. f 0 (top r)) e in
            let r = before-root k (omega arith) (omega arith) in omega arith
        | inr ne ↦
            let none = cond-ne (suc k) root (f 0 (visit_of (suc k) (root_position (suc k)))) 0 ne in
            let r = with-root k (omega arith) above (omega (arith, ne)) in omega arith
      ]

pub IsKeptBeside-opening : (m : PageMemory) (n roots : ℕ) → ((r : ℕ) → 0 < r → r ≤ roots → (m r).level ≡ 0) → roots < n → IsKeptBeside m roots n (root_positions roots)
IsKeptBeside-opening m n roots leaf lt = record {
  table = λ root some le f.
      let weighs : weight_of f m root ≡ f 0 (top root) + 0 = ap (λ h. weight_along f m h (top_of root)) (leaf root some le) in
      let counted = with-root f root n roots lt some le in omega arith;
  few = λ page le. root_positions-above roots page (omega arith);
  trees = λ page e at. let found = IsRootPosition-met roots page e at in (found.some, found.few);
}

-- where all that was met are leaves, no child is met no more, and none has to be met again
module _ (written : ℕ → Bool) (m : PageMemory) (roots : ℕ) where
  IsFlat : Option Position → Type 0
  IsFlat o = (e : Position) → o ≡ Some e → e.height ≡ 0

  opening-flat : (page : ℕ) → IsFlat (root_positions roots page)
  unfolding IsFlat
  opening-flat page e at = (IsRootPosition-met roots page e at).leaf

  detach_at-flat : (page : ℕ) (o : Option Position) (now : Positions) → IsFlat o → detach_at m page o now ≡ now
  unfolding IsFlat
  detach_at-flat page None now flat = refl
  detach_at-flat page (Some e) now flat = ap (λ h. detach (children_at m h (visit_of page e)) now) (flat e refl)

  back_at-flat : (page : ℕ) (o : Option Position) (now : Positions) → IsFlat o → back_at written m page o now ≡ true
  unfolding IsFlat
  back_at-flat page None now flat = refl
  back_at-flat page (Some e) now flat = ap (λ h. are_back written (children_at m h (visit_of page e)) now) (flat e refl)

  pub detach_pages-opening : (ps : List ℕ) (now : Positions) → detach_pages m (root_positions roots) ps now ≡ now
  detach_pages-opening [] now = refl
  detach_pages-opening (p ∷ ps) now =
      ap (detach_pages m (root_positions roots) ps) (detach_at-flat p (root_positions roots p) now (opening-flat p)) ∙ detach_pages-opening ps now

  pub all_back-opening : (ps : List ℕ) (now : Positions) → all_back written m (root_positions roots) ps now ≡ true
  all_back-opening [] now = refl
  all_back-opening (p ∷ ps) now =
      ap (λ b. b && all_back written m (root_positions roots) ps now) (back_at-flat p (root_positions roots p) now (opening-flat p)) ∙ all_back-opening ps now
