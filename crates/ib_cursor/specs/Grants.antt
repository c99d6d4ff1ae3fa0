-- Which grants a mini-transaction has, in order of taking, each on a latch of its own.
use Rattle.std.specs.Prelude.{◌≡◌, ◌≢◌, ℕ, ◌+◌, List, [], ◌∷◌, ◌++◌, map}
use Rattle.std.specs.List.{AllByRecursion}
use Rattle.ib_levels.specs.declared.latch.Latch.{Latch}
use Rattle.ib_levels.specs.declared.holding.Holding.{Holding}
use Rattle.ib_levels.specs.declared.level.Level.{Level}
use Rattle.ib_levels.specs.declared.level.Level.TheVariants.{IndexTree, TreeNode}
use Rattle.ib_levels.specs.declared.level.Mode.{Mode}
use Rattle.ib_levels.specs.declared.level.Mode.TheVariants.{S}
use Rattle.ib_core.specs.declared.phase.Phase.TheVariants.{Free}
use Rattle.ib_core.specs.Takings.{first_holding}
use Rattle.ib_rule.specs.Pass.{PassState, with_view}
use Rattle.ib_latch.specs.Tries.{HasTakenGrant}
use Rattle.ib_mtr.specs.Mtr.{with_memo}

-- a grant on a latch, at the level at which it was taken
pub record Grant : Type 0 where
  pub latch : ℕ
  pub mode : Mode
  pub level : Level

-- .. as it stands in a memo, and as a session holds it where it has no other on the latch
abbrev pub memo_of : Grant → Latch × Mode
memo_of g = (record { 0 = g.latch }, g.mode)

abbrev pub hold_of : Grant → Holding
hold_of g = first_holding g.mode g.latch g.level

abbrev pub index_grant : Grant
index_grant = record { latch = 1; mode = S; level = IndexTree }

abbrev pub page_grant : ℕ → Mode → Grant
page_grant page mode = record { latch = page + 2; mode = mode; level = TreeNode }

-- the mini-transaction has these grants and no others, and its session is in the middle of nothing
pub record HasGrants (gs : List Grant) (p : PassState) : Type 0 where
  pub memo : p.memo ≡ map memo_of gs
  pub session : p.view.session ≡ record { held = map hold_of gs; phase = Free }

-- none of the grants is on the latch
abbrev pub IsAway : ℕ → List Grant → Type 0
IsAway l gs = AllByRecursion (λ g. g.latch ≢ l) gs

-- one grant more is on top of the memo, on a latch of which nothing was held, and nothing else is changed but looks
pub record HasTaken (g : Grant) (p q : PassState) : Type 0 where
  pub pass : q ≡ with_memo (p.memo ++ memo_of g ∷ []) (with_view p q.view)
  pub taken : HasTakenGrant g.mode (p.view.session.held ++ hold_of g ∷ []) Free p.view q.view
