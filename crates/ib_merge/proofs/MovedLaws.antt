-- Which move the pages of a merge have.
use Rattle.std.proofs.Common.{◌≡◌, ◌≢◌, ◌∙◌, ℕ, refl}
use Rattle.ib_map.specs.Keys.{MapKey}
use Rattle.ib_plans.specs.Moves.{Move, Takes, Fills, Frees, with_move}
use Rattle.ib_plans.proofs.MoveLaws.{with_move-own, with_move-other}

-- the pages of a merge, over any moves
module _ (parent left : ℕ) (gone : MapKey × ℕ) (moves : ℕ → Move) where
  pub moves-gone : with_move gone.1 Frees (with_move left Fills (with_move parent (Takes gone.0) moves)) gone.1 ≡ Frees
  moves-gone = with_move-own gone.1 Frees (with_move left Fills (with_move parent (Takes gone.0) moves)) gone.1 refl

  pub moves-left : left ≢ gone.1 → with_move gone.1 Frees (with_move left Fills (with_move parent (Takes gone.0) moves)) left ≡ Fills
  moves-left apart = with_move-other gone.1 Frees (with_move left Fills (with_move parent (Takes gone.0) moves)) left apart ∙ with_move-own left Fills (with_move parent (Takes gone.0) moves) left refl

  pub moves-parent : parent ≢ gone.1 → parent ≢ left → with_move gone.1 Frees (with_move left Fills (with_move parent (Takes gone.0) moves)) parent ≡ Takes gone.0
  moves-parent not_gone not_left =
      with_move-other gone.1 Frees (with_move left Fills (with_move parent (Takes gone.0) moves)) parent not_gone
      ∙ (with_move-other left Fills (with_move parent (Takes gone.0) moves) parent not_left ∙ with_move-own parent (Takes gone.0) moves parent refl)

  pub moves-other : (n : ℕ) → n ≢ gone.1 → n ≢ left → n ≢ parent → with_move gone.1 Frees (with_move left Fills (with_move parent (Takes gone.0) moves)) n ≡ moves n
  moves-other n ng nl np =
      with_move-other gone.1 Frees (with_move left Fills (with_move parent (Takes gone.0) moves)) n ng
      ∙ (with_move-other left Fills (with_move parent (Takes gone.0) moves) n nl ∙ with_move-other parent (Takes gone.0) moves n np)
