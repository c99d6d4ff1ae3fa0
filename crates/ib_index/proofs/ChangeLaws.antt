-- A change that was tried on the key's leaf alone, and then made with the tree: both are one call.
use Rattle.std.proofs.Common.{◌≡◌, ℕ, ◌+◌, ◌≤◌, Bool, true, false, List, ◌++◌, length, take, refl, sym, ap, subst, ◌∙◌, arith, length-append, take_at, inl, inr}
use Rattle.ib_map.specs.Keys.{MapKey}
use Rattle.ib_map.specs.declared.call.Reply.{Reply}
use Rattle.ib_layout.specs.Geometry.{Sizes}
use Rattle.ib_logrec.specs.declared.entry.Entry.{Entry}
use Rattle.ib_walk.specs.Pages.{PageState}
use Rattle.ib_rule.specs.Pass.{PassState}
use Rattle.ib_rule.specs.Views.{total}
use Rattle.ib_cursor.specs.Descent.{one_if}
use Rattle.ib_cursor.proofs.LatchingLaws.{seen_longer}
use Rattle.ib_index.specs.Changes.{TakesFewUnless, WasLeaf}
use Rattle.ib_index.specs.Grows.{TakesAtMost}
use Rattle.ib_leaf.specs.Ends.{reaches_log}
use Rattle.ib_leaf.specs.Leaf.{HasLeaf}
use Rattle.ib_index.specs.Leaf.{AddsFewX, NeedsTree, TakesFew, TakesFor}

one-most : (b : Bool) → one_if b ≤ 1
one-most true = omega arith
one-most false = omega arith

-- the key's leaf was one that needs more, as an earlier look told
pub was-leaf : (sizes : Sizes) (why : ℕ → PageState → Type 0) (key : MapKey) (p q r : PassState) → NeedsTree sizes why key p q → (more : List Entry) → r.view.memory.seen ≡ q.view.memory.seen ++ more → WasLeaf sizes why key p r
was-leaf sizes why key p q r needs more longer = record {
  place = length q.view.memory.seen;
  from = seen_longer p q needs.stopped.went;
  to = let a = ap length longer in let b = length-append q.view.memory.seen more in omega arith;
  was = subst (HasLeaf sizes why key) (sym (ap (take (length q.view.memory.seen)) longer ∙ take_at q.view.memory.seen more (length q.view.memory.seen) refl)) needs.needs;
}

module _ (sizes : Sizes) (lawful : List Entry → Type 0) (opens : ℕ → ℕ) (why : ℕ → PageState → Type 0) (key : MapKey) (p q r : PassState) where
  -- the leaf alone was enough
  pub few-alone : (reply : Reply) → TakesFor sizes reply p q → TakesFewUnless sizes why key reply p q
  few-alone reply few = record { few = inl few; claims = let sx = few.sx in omega arith; all = by-x (reaches_log reply) few.x }
    where
      by-x : (b : Bool) → AddsFewX sizes (1 + one_if b) p q → total q.view.grants ≤ total p.view.grants + 128
      by-x b (inl x) = let s = few.s in let sx = few.sx in let one = one-most b in omega arith
      by-x b (inr x) = let s = few.s in let sx = few.sx in let one = one-most b in let h = x.0 in omega arith

  -- or the key's leaf was found to need more
  pub few-again : (reply : Reply) → NeedsTree sizes why key p q → TakesFew sizes 1 p q → TakesAtMost 64 q r → (more : List Entry) → r.view.memory.seen ≡ q.view.memory.seen ++ more → TakesFewUnless sizes why key reply p r
  few-again reply needs few most more longer = record {
    few = inr (was-leaf sizes why key p q r needs more longer);
    claims = let sx = few.sx in let m = most.claims in omega arith;
    all = by-x few.x;
  }
    where
      by-x : AddsFewX sizes 1 p q → total r.view.grants ≤ total p.view.grants + 128
      by-x (inl x) = let s = few.s in let sx = few.sx in let m = most.all in omega arith
      by-x (inr x) = let s = few.s in let sx = few.sx in let m = most.all in let h = x.0 in omega arith
