-- What a lookup leaves.
use Rattle.std.specs.Prelude.{◌≡◌, ℕ, ◌+◌, ◌≤◌, List}
use Rattle.ib_map.specs.Keys.{MapKey}
use Rattle.ib_map.specs.declared.call.Call.TheVariants.{Get}
use Rattle.ib_map.specs.declared.call.Record.{Record}
use Rattle.ib_layout.specs.Geometry.{Sizes}
use Rattle.ib_logrec.specs.declared.entry.Entry.{Entry}
use Rattle.ib_rule.specs.Pass.{PassState}
use Rattle.ib_cursor.specs.Descent.{IsNoHigher}
use Rattle.ib_leaf.specs.Calls.{HasCalled}

-- a lookup was answered: from two to nine grants of S were taken, for the index and each page of the key's path, no more than two and the greatest height of the tree, and no other
pub record HasLookedUp (sizes : Sizes) (lawful : List Entry → Type 0) (opening : ℕ → ℕ) (key : MapKey) (answer : Record) (p q : PassState) : Type 0 where
  pub called : HasCalled sizes lawful opening (Get key) answer p q
  pub least : p.view.grants.s + 2 ≤ q.view.grants.s
  pub most : q.view.grants.s ≤ p.view.grants.s + 9
  pub low : (most : ℕ) → IsNoHigher lawful opening 1 most → q.view.grants.s ≤ p.view.grants.s + 2 + most
  pub sx : q.view.grants.sx ≡ p.view.grants.sx
  pub x : q.view.grants.x ≡ p.view.grants.x
