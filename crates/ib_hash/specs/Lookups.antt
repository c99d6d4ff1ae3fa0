-- What a lookup by a guess comes to.
use Rattle.std.specs.Prelude.{◌≡◌, ◌≢◌, ◌⊎◌, ℕ, ◌+◌, ◌<◌, ◌≤◌, List, ◌∷◌, take, Option, Some, None}
use Rattle.ib_map.specs.Keys.{MapKey}
use Rattle.ib_map.specs.declared.call.Call.TheVariants.{Get}
use Rattle.ib_map.specs.declared.call.Record.{Record}
use Rattle.ib_map.specs.declared.call.Reply.{Reply}
use Rattle.ib_map.specs.declared.call.Reply.TheVariants.{Found as FoundReply, NotFound}
use Rattle.ib_levels.specs.declared.level.Mode.TheVariants.{S}
use Rattle.ib_heap.specs.declared.search.KeyStanding.{KeyStanding}
use Rattle.ib_heap.specs.declared.search.KeyStanding.TheVariants.{Outside, Between, Found}
use Rattle.ib_layout.specs.Geometry.{Sizes}
use Rattle.ib_logrec.specs.declared.entry.Entry.{Entry}
use Rattle.ib_planned_log.specs.LeafChange.{leaf_after}
use Rattle.ib_rule.specs.Pass.{PassState}
use Rattle.ib_rule.specs.Views.{with_grant}
use Rattle.ib_leaf.specs.Calls.{HasCalled}
use Rattle.ib_leaf.specs.Ends.{HasStopped}
use Rattle.ib_hash.specs.Pass.{GuessPassState, looked_at, stored_at}
use Rattle.ib_hash.specs.Right.{IsRightAfter}
use Rattle.ib_hash.specs.Slots.{slot_for}

-- the reply to a lookup by where the key stands on the page that was guessed: none where the guess is wrong
abbrev pub reply_for : Option KeyStanding → Option Reply
reply_for None = None
reply_for (Some Outside) = None
reply_for (Some Between) = Some NotFound
reply_for (Some (Found value)) = Some (FoundReply value)

-- the key was looked up on the page that was guessed, by one grant of S. The guess is right in the memory after the first end that the call found
pub record HasLookedByGuess (sizes : Sizes) (lawful : List Entry → Type 0) (opening : ℕ → ℕ) (key : MapKey) (guess : ℕ) (answer : Record) (p q : PassState) : Type 0 where
  pub called : HasCalled sizes lawful opening (Get key) answer p q
  pub right : IsRightAfter sizes (take called.first q.view.memory.seen) guess key
  pub grants : q.view.grants ≡ with_grant (Some S) p.view.grants

-- the guess is wrong in the memory after the first end that was found. One grant of S was taken, and nothing is known of the key
pub record HasMissed (sizes : Sizes) (key : MapKey) (guess : ℕ) (p q : PassState) : Type 0 where
  pub stopped : HasStopped sizes p q
  pub first : ℕ
  pub rest : List ℕ
  pub added : stopped.went.added ≡ first ∷ rest
  pub wrong : IsRightAfter sizes (take first q.view.memory.seen) guess key → ⊥
  pub grants : q.view.grants ≡ with_grant (Some S) p.view.grants

-- there is no guess, and nothing was done, or there is one that is wrong
abbrev pub HasNotLooked : Sizes → MapKey → ℕ → PassState → PassState → Type 0
HasNotLooked sizes key guess p q = ((guess ≡ 0) × (q ≡ p)) ⊎ ((guess ≢ 0) × HasMissed sizes key guess p q)

-- the key was looked up by a descent, which ended at this leaf: it is the key's in the tree after all seen
pub record HasLookedByDescent (sizes : Sizes) (lawful : List Entry → Type 0) (opening : ℕ → ℕ) (key : MapKey) (leaf : ℕ) (answer : Record) (p q : PassState) : Type 0 where
  pub called : HasCalled sizes lawful opening (Get key) answer p q
  pub there : leaf < sizes.pages
  pub is_leaf : leaf ≡ leaf_after sizes.pages q.view.memory.seen key
  pub least : p.view.grants.s + 2 ≤ q.view.grants.s
  pub s : q.view.grants.s ≤ p.view.grants.s + 9
  pub sx : q.view.grants.sx ≡ p.view.grants.sx
  pub x : q.view.grants.x ≡ p.view.grants.x

-- the guess is right in the memory after this front of what is seen: one grant of S was added, and nothing was stored
pub record GotByGuess (sizes : Sizes) (key : MapKey) (guess first : ℕ) (gp hp : GuessPassState) (p q : PassState) : Type 0 where
  pub right : IsRightAfter sizes (take first q.view.memory.seen) guess key
  pub grants : q.view.grants ≡ with_grant (Some S) p.view.grants
  pub steps : hp ≡ looked_at (slot_for key) guess gp

-- it is not right there: from two to ten grants of S were added, to nine where there is no guess, and the leaf of the key stored, in the tree after all seen
pub record GotByDescent (sizes : Sizes) (key : MapKey) (guess first : ℕ) (gp hp : GuessPassState) (p q : PassState) : Type 0 where
  pub wrong : IsRightAfter sizes (take first q.view.memory.seen) guess key → ⊥
  pub least : p.view.grants.s + 2 ≤ q.view.grants.s
  pub s : q.view.grants.s ≤ p.view.grants.s + 10
  pub none : guess ≡ 0 → q.view.grants.s ≤ p.view.grants.s + 9
  pub sx : q.view.grants.sx ≡ p.view.grants.sx
  pub x : q.view.grants.x ≡ p.view.grants.x
  pub steps : hp ≡ stored_at (slot_for key) (leaf_after sizes.pages q.view.memory.seen key) (looked_at (slot_for key) guess gp)

-- the key was looked up, as the index answers it. The guess of its slot was loaded once, and is judged in the memory after the first end that the call found
pub record HasGot (sizes : Sizes) (lawful : List Entry → Type 0) (opening : ℕ → ℕ) (key : MapKey) (answer : Record) (gp hp : GuessPassState) (p q : PassState) : Type 0 where
  pub called : HasCalled sizes lawful opening (Get key) answer p q
  pub guess : ℕ
  pub by : GotByGuess sizes key guess called.first gp hp p q ⊎ GotByDescent sizes key guess called.first gp hp p q
