-- What a lookup, an insert and a delete on a session's handle come to: the index's own calls, which do not wait.
use Rattle.std.specs.Prelude.{◌≡◌, ℕ, ◌+◌, ◌*◌, ◌<◌, ◌≤◌, List, length, Result, Ok, Err, IfOk, IfErr}
use Rattle.ib_map.specs.KeyBytes.{key_of_bytes}
use Rattle.ib_map.specs.Keys.{MapKey}
use Rattle.ib_map.specs.declared.call.Call.TheVariants.{Delete, Insert}
use Rattle.ib_map.specs.declared.call.Record.{Record}
use Rattle.ib_heap.specs.declared.TheConstants.{MOST_LEVEL}
use Rattle.ib_cursor.specs.Contention.{IsContended}
use Rattle.ib_cursor.specs.Refusals.{AreFewLooks, looks_of}
use Rattle.ib_cursor.specs.declared.fault.NowaitFault.{NowaitFault}
use Rattle.ib_leaf.specs.Calls.{HasCalled, MayCall}
use Rattle.ib_leaf.specs.Leaf.{IsFullFor, IsShortFor}
use Rattle.ib_leaf.specs.Under.{under_plans}
use Rattle.ib_index.specs.Changes.{TakesFewUnless}
use Rattle.ib_index.specs.Lookups.{HasLookedUp as IsLookedUp}
use Rattle.ib_index.specs.Refusals.{IsDeleteContended, IsInsertContended}
use Rattle.ib_rule.specs.Pass.{PassState, IsAtRest}
use Rattle.ib_rule.specs.Space.{SpaceState}
use Rattle.ib_c.specs.declared.answers.Answered.{Answered}
use Rattle.ib_c.specs.declared.status.Status.{Status}
use Rattle.ib_c.specs.declared.status.Status.TheVariants.{BadKey, NotAllowed}
use Rattle.ib_c.specs.Answers.{told_answer}
use Rattle.ib_c.specs.Sessions.{Does}

-- a call is refused: the key has more than 15 bytes, or the session may make none
abbrev pub IsRefusedCall : List ℕ → SpaceState → PassState → Status → Type 0
IsRefusedCall bytes space p BadKey = 15 < length bytes
IsRefusedCall bytes space p NotAllowed = (length bytes ≤ 15) × ¬ MayCall space p
IsRefusedCall bytes space p other = ⊥

-- what a call of the index with a key does to a pass of a space, and answers
abbrev pub DoesWith : Type 1
DoesWith = MapKey → SpaceState → PassState → Result Record NowaitFault → PassState → Type 0

-- a call that is refused changes nothing, and else the index's was made with the key of these bytes
abbrev pub IsCalled : List ℕ → DoesWith → SpaceState → PassState → Result (Result Record NowaitFault) Status → PassState → Type 0
IsCalled bytes does space p (Err s) q = IsRefusedCall bytes space p s × (q ≡ p)
IsCalled bytes does space p (Ok answer) q = (length bytes ≤ 15) × MayCall space p × does (key_of_bytes bytes) space p answer q

-- .. as C is told of it
abbrev pub HasAnswered : List ℕ → DoesWith → Does Answered
HasAnswered bytes does space p r q = (answer : Result (Result Record NowaitFault) Status) × (r ≡ told_answer answer) × IsCalled bytes does space p answer q

-- a lookup: answered as the log and the tree have it, or refused a latch of the key's path, with two looks at most for each grant and those of the refused try. There are never more looks than so
pub record IsLookup (key : MapKey) (space : SpaceState) (p : PassState) (r : Result Record NowaitFault) (q : PassState) : Type 0 where
  pub rest : IsAtRest space q
  pub looked_up : IfOk r (λ answer. under_plans space IsLookedUp key answer p q)
  pub twice : IfOk r (λ answer. AreFewLooks 0 p.view q.view)
  pub contended : IfErr r (λ fault. under_plans space IsContended 1 key fault p q)
  pub vain : IfErr r (λ fault. AreFewLooks (looks_of fault) p.view q.view)
  pub looks : q.view.looks.count ≤ p.view.looks.count + 2 * (MOST_LEVEL + 2)

-- an insert: answered, with the grants that it takes, and two looks at lock words at most for each; or refused a latch, with nothing changed
pub record IsInsert (value : ℕ) (key : MapKey) (space : SpaceState) (p : PassState) (r : Result Record NowaitFault) (q : PassState) : Type 0 where
  pub rest : IsAtRest space q
  pub called : IfOk r (λ answer. under_plans space HasCalled (Insert key value) answer p q)
  pub grants : IfOk r (λ answer. TakesFewUnless space.sizes (IsFullFor key) key answer.reply p q)
  pub twice : IfOk r (λ answer. AreFewLooks 0 p.view q.view)
  pub contended : IfErr r (λ fault. IsInsertContended space.sizes key fault p q)

-- a delete, likewise
pub record IsDelete (key : MapKey) (space : SpaceState) (p : PassState) (r : Result Record NowaitFault) (q : PassState) : Type 0 where
  pub rest : IsAtRest space q
  pub called : IfOk r (λ answer. under_plans space HasCalled (Delete key) answer p q)
  pub grants : IfOk r (λ answer. TakesFewUnless space.sizes (IsShortFor key) key answer.reply p q)
  pub twice : IfOk r (λ answer. AreFewLooks 0 p.view q.view)
  pub contended : IfErr r (λ fault. IsDeleteContended space.sizes key fault p q)

abbrev pub HasLookedUp : List ℕ → Does Answered
HasLookedUp bytes = HasAnswered bytes IsLookup

abbrev pub HasInserted : List ℕ → ℕ → Does Answered
HasInserted bytes value = HasAnswered bytes (IsInsert value)

abbrev pub HasDeleted : List ℕ → Does Answered
HasDeleted bytes = HasAnswered bytes IsDelete
