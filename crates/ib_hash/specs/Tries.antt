-- What a change by a guess comes to.
use Rattle.std.specs.Prelude.{◌≡◌, ◌≢◌, ◌↔◌, ℕ, ◌+◌, ◌<◌, Bool, true, List, [], ◌∷◌, length, take, Some, Result, Ok, Err}
use Rattle.ib_map.specs.Keys.{MapKey}
use Rattle.ib_map.specs.declared.call.Call.{Call}
use Rattle.ib_map.specs.declared.call.Record.{Record}
use Rattle.ib_levels.specs.declared.level.Mode.TheVariants.{X}
use Rattle.ib_layout.specs.Geometry.{Sizes}
use Rattle.ib_logrec.specs.declared.entry.Entry.{Entry}
use Rattle.ib_walk.specs.Pages.{PageState}
use Rattle.ib_planned_log.specs.LeafChange.{kept_pages}
use Rattle.ib_rule.specs.Pass.{PassState}
use Rattle.ib_rule.specs.Views.{is_watched, with_grant}
use Rattle.ib_cursor.specs.Going.{IsKnown, WentOn}
use Rattle.ib_cursor.specs.Grants.{page_grant, HasGrants}
use Rattle.ib_leaf.specs.Calls.{HasCalled}
use Rattle.ib_leaf.specs.Ends.{HasStopped, grants_for, reaches_log}
use Rattle.ib_leaf.specs.Leaf.{IsAtLeaf, IsSeated}
use Rattle.ib_hash.specs.declared.miss.Miss.{Miss}
use Rattle.ib_hash.specs.declared.miss.Miss.TheVariants.{NoGuess, Wrong, NeedsTree}
use Rattle.ib_hash.specs.Pass.{GuessPassState, looked_at}
use Rattle.ib_hash.specs.Right.{IsRightAfter}
use Rattle.ib_hash.specs.Slots.{slot_for}

-- a page that was guessed is held in X alone. It is told whether the guess is right after all seen: if so the page is the key's leaf, and is loaded
pub record HasClaimedGuess (sizes : Sizes) (lawful : List Entry → Type 0) (opening : ℕ → ℕ) (key : MapKey) (page : ℕ) (right : Bool) (p q : PassState) : Type 0 where
  pub went : WentOn p q
  pub looked : 0 < length went.added
  pub held : HasGrants (page_grant page X ∷ []) q
  pub watched : is_watched (page + 2) q.view.memory.since ≡ true
  pub known : IsKnown sizes lawful q
  pub seated : IsSeated sizes q
  pub told : (right ≡ true) ↔ IsRightAfter sizes q.view.memory.seen page key
  pub at_leaf : right ≡ true → IsAtLeaf sizes key page q
  pub grants : q.view.grants ≡ with_grant (Some X) p.view.grants

-- the change was answered, as the index answers it. In the memory at its place, which has not its own entry, the guess is right, and its page was enough. X was granted on the page, and on the log latch where the change came as far as the log
pub record HasTriedRight (sizes : Sizes) (lawful : List Entry → Type 0) (opening : ℕ → ℕ) (why : ℕ → PageState → Type 0) (key : MapKey) (call : Call) (guess : ℕ) (answer : Record) (p q : PassState) : Type 0 where
  pub some : guess ≢ 0
  pub called : HasCalled sizes lawful opening call answer p q
  pub right : IsRightAfter sizes (take answer.place q.view.memory.seen) guess key
  pub enough : why guess (kept_pages sizes.pages (take answer.place q.view.memory.seen) guess) → ⊥
  pub grants : q.view.grants ≡ grants_for (reaches_log answer.reply) (with_grant (Some X) p.view.grants)

-- the guess is wrong in the memory after all seen. X was granted on its page alone
pub record HasTriedWrong (sizes : Sizes) (key : MapKey) (guess page : ℕ) (p q : PassState) : Type 0 where
  pub some : guess ≢ 0
  pub is : page ≡ guess
  pub stopped : HasStopped sizes p q
  pub wrong : IsRightAfter sizes q.view.memory.seen guess key → ⊥
  pub grants : q.view.grants ≡ with_grant (Some X) p.view.grants

-- the guess is right in the memory after all seen, but the change needs more than its page. X was granted on the page alone
pub record HasTriedShort (sizes : Sizes) (why : ℕ → PageState → Type 0) (key : MapKey) (guess page : ℕ) (p q : PassState) : Type 0 where
  pub some : guess ≢ 0
  pub is : page ≡ guess
  pub stopped : HasStopped sizes p q
  pub right : IsRightAfter sizes q.view.memory.seen guess key
  pub needs : why guess (kept_pages sizes.pages q.view.memory.seen guess)
  pub grants : q.view.grants ≡ with_grant (Some X) p.view.grants

-- what a change comes to, by the guess that was found. Without one nothing was done
abbrev pub TriedBy : Sizes → (List Entry → Type 0) → (ℕ → ℕ) → (ℕ → PageState → Type 0) → MapKey → Call → ℕ → Result Record Miss → PassState → PassState → Type 0
TriedBy sizes lawful opening why key call guess (Ok answer) p q = HasTriedRight sizes lawful opening why key call guess answer p q
TriedBy sizes lawful opening why key call guess (Err NoGuess) p q = (guess ≡ 0) × (q ≡ p)
TriedBy sizes lawful opening why key call guess (Err (Wrong page)) p q = HasTriedWrong sizes key guess page p q
TriedBy sizes lawful opening why key call guess (Err (NeedsTree page)) p q = HasTriedShort sizes why key guess page p q

-- a change by the guess of the key's slot, which was loaded once. Nothing was stored. The cases exclude each other
pub record HasTried (sizes : Sizes) (lawful : List Entry → Type 0) (opening : ℕ → ℕ) (why : ℕ → PageState → Type 0) (key : MapKey) (call : Call) (result : Result Record Miss) (gp hp : GuessPassState) (p q : PassState) : Type 0 where
  pub guess : ℕ
  pub steps : hp ≡ looked_at (slot_for key) guess gp
  pub tried : TriedBy sizes lawful opening why key call guess result p q
