-- The steps of a session's run.
use Rattle.std.specs.Prelude.{◌≡◌, ◌⊎◌, ℕ, ◌+◌, ◌*◌, ◌<◌, ◌≤◌, Bool, List, [], ◌∷◌, ◌++◌, length}
use Rattle.std.specs.List.{AllByRecursion, filter_map}
use Rattle.ib_map.specs.Keys.{MapKey, rank}
use Rattle.ib_map.specs.Chunks.{HeldChunks, spans_of}
use Rattle.ib_map.specs.Replies.{Span, FullRecord}
use Rattle.ib_map.specs.Runs.{reach_after, first_place, change_made}
use Rattle.ib_map.specs.declared.call.Call.{Call}
use Rattle.ib_layout.specs.Geometry.{Sizes}
use Rattle.ib_layout.specs.declared.geometry.TheConstants.{MOST_LOG_WORDS}
use Rattle.ib_logrec.specs.declared.entry.Entry.{Entry}
use Rattle.ib_tree.specs.Scans.{AreFront, AreWhole}
use Rattle.ib_rule.specs.Conditions.{HasGrantsLeft}
use Rattle.ib_rule.specs.Pass.{PassState, IsAtRest}
use Rattle.ib_rule.specs.Space.{SpaceState}
use Rattle.ib_rule.specs.Views.{total}
use Rattle.ib_cursor.specs.Going.{IsKnown, WentOn}
use Rattle.ib_leaf.specs.Calls.{CallLaw}
use Rattle.ib_runs.specs.declared.session.TheConstants.{SCAN_CHUNKS}
use Rattle.ib_runs.specs.Answers.{KeptAnswers, IsWhole, answers_of}
use Rattle.ib_runs.specs.Sessions.{changes_in, places_in, IsEmptyScan, TakesGrants, most_scan_grants}
use Rattle.ib_runs.specs.Shared.{FitLaws, LogLaws}

-- what is known of a space of these sizes: what its logs and records say, and that its log has no more words than any may have
pub record KnownLaws (law : CallLaw) (root : ℕ) (sizes : Sizes) : Type 0 where
  pub logs : LogLaws law root sizes.pages
  pub records : FitLaws law
  pub few : sizes.log_words ≤ MOST_LOG_WORDS

-- a command may be answered: the session is at rest, it knows what it has seen, may take as many grants more as a scan takes at most, and has no more chunk places spare than one call of a scan is given
pub record MayAnswer (calls : Sizes → CallLaw) (space : SpaceState) (chunks : HeldChunks) (p : PassState) : Type 0 where
  pub rest : IsAtRest space p
  pub known : IsKnown space.sizes (calls space.sizes).lawful p
  pub few : HasGrantsLeft most_scan_grants p.view
  pub room : chunks.chunk_room ≤ SCAN_CHUNKS

-- .. and afterwards it is the same session, at rest again, with no more chunk places spare
pub record IsStillSession (space : SpaceState) (chunks : HeldChunks) (p q : PassState) : Type 0 where
  pub rest : IsAtRest space q
  pub number : q.number ≡ p.number
  pub room : chunks.chunk_room ≤ SCAN_CHUNKS

-- these chunks stand behind those that were there
abbrev pub HasMore : HeldChunks → HeldChunks → List Span → Type 0
HasMore old new spans = spans_of new.list new.pairs ≡ spans_of old.list old.pairs ++ spans

-- how a scan went so far, by one call or several
pub record HasReadChunks (law : CallLaw) (sizes : Sizes) (old new : HeldChunks) (p q : PassState) : Type 0 where
  pub spans : List Span
  pub more : HasMore old new spans
  pub went : WentOn p q
  pub known : IsKnown sizes law.lawful q
  pub first : ℕ
  pub rest : List ℕ
  pub looks : went.added ≡ first ∷ rest

-- .. of the tree of a root, up to what is before `next`: it took two grants at least, and 8,320 at most for each chunk
pub record HasReadTo (law : CallLaw) (root : ℕ) (sizes : Sizes) (low high next : MapKey) (old new : HeldChunks) (p q : PassState) : Type 0 where
  pub read : HasReadChunks law sizes old new p q
  pub last : ℕ
  pub chunks : AreFront law.start q.view.memory.seen root low high read.first read.spans next last
  pub within : last ≤ length q.view.memory.seen
  pub least : total p.view.grants + 2 ≤ total q.view.grants
  pub grants : total q.view.grants ≤ total p.view.grants + 8320 * length read.spans

-- .. or nothing was read yet, and the scan is as it was begun
pub record IsAtStart (begun : Type 0) (low next : MapKey) (old new : HeldChunks) (p q : PassState) : Type 0 where
  pub same : q ≡ p
  pub at : next ≡ low
  pub unkept : begun
  pub none : spans_of new.list new.pairs ≡ spans_of old.list old.pairs

abbrev pub IsSoFar : CallLaw → ℕ → Sizes → Type 0 → MapKey → MapKey → MapKey → HeldChunks → HeldChunks → PassState → PassState → Type 0
IsSoFar law root sizes begun low high next old new p q = IsAtStart begun low next old new p q ⊎ HasReadTo law root sizes low high next old new p q

-- .. or all was
pub record HasReadAll (law : CallLaw) (root : ℕ) (sizes : Sizes) (low high : MapKey) (old new : HeldChunks) (p q : PassState) : Type 0 where
  pub read : HasReadChunks law sizes old new p q
  pub ascends : rank low ≤ rank high
  pub chunks : AreWhole law.start q.view.memory.seen root low high read.first read.spans (length q.view.memory.seen)
  pub least : total p.view.grants + 2 ≤ total q.view.grants
  pub grants : total q.view.grants ≤ total p.view.grants + most_scan_grants

-- .. or there was nothing to read, from a key to a lower one
pub record HasReadNone (low high : MapKey) (old new : HeldChunks) (p q : PassState) : Type 0 where
  pub below : rank high < rank low
  pub same : q ≡ p
  pub chunks : new ≡ old

abbrev pub HasReadKeys : CallLaw → ℕ → Sizes → MapKey → MapKey → HeldChunks → HeldChunks → PassState → PassState → Type 0
HasReadKeys law root sizes low high old new p q = HasReadNone low high old new p q ⊎ HasReadAll law root sizes low high old new p q

-- ends of the log were found, each from what was seen before on and up to what is seen now, and the first is not behind these places
pub record HasFoundEnds (places : List ℕ) (p q : PassState) : Type 0 where
  pub first : ℕ
  pub rest : List ℕ
  pub ends : q.view.memory.ends ≡ p.view.memory.ends ++ first ∷ rest
  pub bounds : AllByRecursion (λ n. (length p.view.memory.seen ≤ n) × (n ≤ length q.view.memory.seen)) (first ∷ rest)
  pub at : AllByRecursion (λ n. first ≤ n) places

-- A call was answered by a record. What had been seen is the front of what is seen now, which the record fits, at no place before that;
-- what is seen now ends with it; and the session made what it says
pub record IsAnswered (law : CallLaw) (sizes : Sizes) (call : Call) (r : FullRecord) (p q : PassState) : Type 0 where
  pub number : q.number ≡ p.number
  pub more : List Entry
  pub seen : q.view.memory.seen ≡ p.view.memory.seen ++ more
  pub known : IsKnown sizes law.lawful q
  pub call_is : r.call ≡ call
  pub fits : law.fits q.view.memory.seen q.number (length p.view.memory.seen) r
  pub from : length p.view.memory.seen ≤ r.place
  pub first : length p.view.memory.seen ≤ first_place r
  pub reach : length q.view.memory.seen ≡ reach_after r
  pub made : changes_in q.view.memory.own ≡ changes_in p.view.memory.own ++ filter_map change_made (r ∷ [])
  pub looks : ((q.view.memory.ends ≡ p.view.memory.ends) × IsEmptyScan r.call) ⊎ HasFoundEnds (places_in r) p q

-- .. and the record stands behind the others, with its chunks
pub record HasOneMore (law : CallLaw) (guesses : Bool) (sizes : Sizes) (call : Call) (old new : KeptAnswers) (p q : PassState) : Type 0 where
  pub r : FullRecord
  pub answered : IsAnswered law sizes call r p q
  pub answers : answers_of new ≡ answers_of old ++ r ∷ []
  pub whole : IsWhole new
  pub takes : TakesGrants guesses (call ∷ []) p q
