-- A whole path is taken in two parts: its nodes, and the leaf level.
use Rattle.std.proofs.Common.{ℕ, List, ◌∷◌, ◌++◌}
use Rattle.ib_layout.specs.Geometry.{Sizes}
use Rattle.ib_logrec.specs.declared.entry.Entry.{Entry}
use Rattle.ib_rule.specs.Pass.{PassState}
use Rattle.ib_cursor.specs.Claims.{beside}
use Rattle.ib_cursor.specs.Takings.{HasTakenMore, MayTakeLeaves, MayTakePath}
use Rattle.ib_cursor.proofs.ClaimLaws.{keeps_both}
use Rattle.ib_cursor.proofs.TakeLaws.{more_both, will_rest}

module _ (sizes : Sizes) (lawful : List Entry → Type 0) (opening : ℕ → ℕ) (held path : List ℕ) (leaf left : ℕ) (p s : PassState) (may : MayTakePath sizes lawful opening held path leaf left p)
    (nodes : HasTakenMore sizes lawful opening held may.front p s) where
  abbrev pub leaves_may : MayTakeLeaves sizes lawful opening leaf left s
  leaves_may = record {
    held = held ++ may.front;
    right = may.right;
    will = will_rest sizes lawful opening held may.front (beside left ++ leaf ∷ beside may.right) p s may.will nodes;
    names = λ u known keeps. may.names u known (keeps_both p s u nodes.keeps keeps);
  }

  pub path_taken : (t : PassState) → HasTakenMore sizes lawful opening (held ++ may.front) (beside left ++ leaf ∷ beside may.right) s t
      → HasTakenMore sizes lawful opening held (may.front ++ (beside left ++ leaf ∷ beside may.right)) p t
  path_taken t last = more_both sizes lawful opening held may.front (beside left ++ leaf ∷ beside may.right) p s t nodes last
