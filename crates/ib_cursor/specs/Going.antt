-- How far calls of a cursor went, and what a session knows of the log after a look.
use Rattle.std.specs.Prelude.{◌≡◌, ℕ, ◌+◌, ◌<◌, ◌≤◌, true, false, List, [], ◌∷◌, ◌++◌, length, Some}
use Rattle.std.specs.List.{AllByRecursion}
use Rattle.ib_map.specs.Writes.{touches}
use Rattle.ib_layout.specs.Geometry.{Sizes}
use Rattle.ib_core.specs.declared.phase.Phase.TheVariants.{Free}
use Rattle.ib_core.specs.Sessions.{holdings}
use Rattle.ib_logrec.specs.declared.entry.Entry.{Entry}
use Rattle.ib_logrec.specs.Log.{used}
use Rattle.ib_rule.specs.Memory.{entries_of}
use Rattle.ib_rule.specs.Pass.{PassState}
use Rattle.ib_rule.specs.Views.{is_watched, with_grant}
use Rattle.ib_cursor.specs.Grants.{Grant, memo_of, hold_of}

-- what is seen is lawful and fits the log, and the session's entries in it are its own
pub record IsKnown (sizes : Sizes) (lawful : List Entry → Type 0) (p : PassState) : Type 0 where
  pub legal : lawful p.view.memory.seen
  pub room : used p.view.memory.seen ≤ sizes.log_words
  pub mine : entries_of p.number p.view.memory.seen ≡ p.view.memory.own

-- how a call went that changed nothing: entries more are seen, by ends of the log that it found, each from what was seen before on and up to what is seen now
pub record WentOn (p q : PassState) : Type 0 where
  pub table : q.table ≡ p.table
  pub sizes : q.sizes ≡ p.sizes
  pub number : q.number ≡ p.number
  pub own : q.view.memory.own ≡ p.view.memory.own
  pub more : List Entry
  pub seen : q.view.memory.seen ≡ p.view.memory.seen ++ more
  pub added : List ℕ
  pub ends : q.view.memory.ends ≡ p.view.memory.ends ++ added
  pub bounds : AllByRecursion (λ n. (length p.view.memory.seen ≤ n) × (n ≤ length q.view.memory.seen)) added

-- one look at the log's end, and all in front of it is seen: the entries first seen write no page whose latch was watched, and each latch that is held is watched from then on
pub record HasSeen (sizes : Sizes) (lawful : List Entry → Type 0) (p q : PassState) : Type 0 where
  pub went : WentOn p q
  pub one : went.added ≡ length q.view.memory.seen ∷ []
  pub known : IsKnown sizes lawful q
  pub steady : (page : ℕ) → is_watched (page + 2) p.view.memory.since ≡ true → AllByRecursion (λ e. touches page e.writes ≡ false) went.more
  pub watched : (l : ℕ) → 0 < holdings l q.view.session → is_watched l q.view.memory.since ≡ true

-- a grant more, and then a look
pub record HasLatched (sizes : Sizes) (lawful : List Entry → Type 0) (g : Grant) (p q : PassState) : Type 0 where
  pub seen : HasSeen sizes lawful p q
  pub memo : q.memo ≡ p.memo ++ memo_of g ∷ []
  pub session : q.view.session ≡ record { held = p.view.session.held ++ hold_of g ∷ []; phase = Free }
  pub grants : q.view.grants ≡ with_grant (Some g.mode) p.view.grants
  pub work : q.work ≡ p.work
