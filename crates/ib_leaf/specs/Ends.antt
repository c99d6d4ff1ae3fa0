-- How a change of the key's leaf ends, however its session came there.
use Rattle.std.specs.Prelude.{◌≡◌, ℕ, ◌<◌, ◌≤◌, Bool, true, false, List, [], ◌∷◌, ◌++◌, length, take, Option, Some, None, MatchOption}
use Rattle.ib_map.specs.Keys.{MapKey}
use Rattle.ib_map.specs.Map.{is_made}
use Rattle.ib_map.specs.declared.call.Call.{Call}
use Rattle.ib_map.specs.declared.call.Record.{Record}
use Rattle.ib_map.specs.declared.call.Reply.{Reply}
use Rattle.ib_map.specs.declared.call.Reply.TheVariants.{LogFull as LogFullReply}
use Rattle.ib_levels.specs.declared.level.Mode.TheVariants.{X}
use Rattle.ib_layout.specs.Geometry.{Sizes}
use Rattle.ib_logrec.specs.declared.entry.Entry.{Entry}
use Rattle.ib_logrec.specs.Log.{by_place}
use Rattle.ib_walk.specs.Pages.{PageState}
use Rattle.ib_tree.specs.TreeLog.{opening}
use Rattle.ib_planned_log.specs.Kept.{IsKeptLog}
use Rattle.ib_planned_log.specs.LeafChange.{kept_pages, leaf_after}
use Rattle.ib_frames.specs.declared.appends.LogFull.{LogFull}
use Rattle.ib_rule.specs.declared.looks.Grants.{Grants}
use Rattle.ib_rule.specs.Pass.{PassState, IsAtRest}
use Rattle.ib_rule.specs.Space.{SpaceState}
use Rattle.ib_rule.specs.Views.{with_grant}
use Rattle.ib_cursor.specs.Going.{IsKnown, WentOn}
use Rattle.ib_leaf.specs.Calls.{HasCalled}
use Rattle.ib_leaf.specs.Leaf.{leaf_page}

-- a mini-transaction ended: entries more are seen, and one end more of the log was found
pub record IsEnd (p q : PassState) (place : ℕ) : Type 0 where
  pub table : q.table ≡ p.table
  pub sizes : q.sizes ≡ p.sizes
  pub number : q.number ≡ p.number
  pub more : List Entry
  pub seen : q.view.memory.seen ≡ p.view.memory.seen ++ more
  pub ends : q.view.memory.ends ≡ p.view.memory.ends ++ place ∷ []
  pub low : length p.view.memory.seen ≤ place
  pub high : place ≤ length q.view.memory.seen

-- a change that is answered so came as far as the log: it was made, or the log was full
abbrev pub reaches_log : Reply → Bool
reaches_log (LogFullReply used cap) = true
reaches_log reply = is_made reply

-- the answer to a call that found the log full, where so many entries were seen
abbrev pub full_answer : Call → LogFull → ℕ → Record
full_answer call full seen = record { call = call; reply = LogFullReply full.used full.cap; place = seen }

-- the log in which an end is judged: what stood before the place of its answer, or where there is none all that is seen
abbrev pub log_before : Option Record → PassState → List Entry
log_before None q = q.view.memory.seen
log_before (Some answer) q = take answer.place q.view.memory.seen

-- in the tree after these entries the leaf on which the session stood is the key's leaf still, and as it was
pub record HasKeptLeaf (sizes : Sizes) (key : MapKey) (leaf : ℕ) (p : PassState) (log : List Entry) : Type 0 where
  pub legal : IsKeptLog sizes.pages log
  pub here : leaf ≡ leaf_after sizes.pages log key
  pub page : kept_pages sizes.pages log leaf ≡ leaf_page sizes key p

-- the grants of a change on the leaf: one of X more, on the log latch, where it came as far as the log
abbrev pub grants_for : Bool → Grants → Grants
grants_for false g = g
grants_for true g = with_grant (Some X) g

abbrev pub grants_after : Option Record → Grants → Grants
grants_after None g = g
grants_after (Some answer) g = grants_for (reaches_log answer.reply) g

-- a call ended without an answer, having looked at the log's end. Nothing was changed
pub record HasStopped (sizes : Sizes) (p q : PassState) : Type 0 where
  pub went : WentOn p q
  pub looked : 0 < length went.added
  pub known : IsKnown sizes (IsKeptLog sizes.pages) q

-- A change on the leaf ended with this answer, or without one where it needs more than the leaf, after one look more at the log's end. For
-- whoever came there from a state with a look it is a call that began in that state. The leaf was as it was found where the end is judged.
pub record HasLeftLeaf (space : SpaceState) (why : ℕ → PageState → Type 0) (key : MapKey) (leaf : ℕ) (call : Call) (answer : Option Record) (p q : PassState) : Type 0 where
  pub called : (o : PassState) (came : WentOn o p) → 0 < length came.added → MatchOption answer (HasStopped space.sizes o q)
      (λ a. HasCalled space.sizes (IsKeptLog space.sizes.pages) (by_place opening space.sizes.pages) call a o q)
  pub needs : MatchOption answer (why leaf (leaf_page space.sizes key p)) (λ _. why leaf (leaf_page space.sizes key p) → ⊥)
  pub kept : HasKeptLeaf space.sizes key leaf p (log_before answer q)
  pub place : ℕ
  pub end : IsEnd p q place
  pub grants : q.view.grants ≡ grants_after answer p.view.grants
  pub rest : IsAtRest space q
  pub forgotten : q.view.memory.since ≡ []
