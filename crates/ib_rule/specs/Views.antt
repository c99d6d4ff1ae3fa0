-- What a seat knows, at the start and after each kind of change.
use Rattle.std.specs.Prelude.{ℕ, ◌+◌, ◌<◌, ◌==◌, ◌||◌, not, nat_lt, Bool, true, false, cond, if◌then◌else◌, List, [], ◌∷◌, ◌++◌, length, filter, Option, Some, None}
use Rattle.std.specs.List.{AllByRecursion}
use Rattle.ib_levels.specs.declared.holding.Holding.{Holding}
use Rattle.ib_levels.specs.declared.level.Mode.{Mode}
use Rattle.ib_levels.specs.declared.level.Mode.TheVariants.{S, Sx, X}
use Rattle.ib_core.specs.declared.event.Event.{Event}
use Rattle.ib_core.specs.declared.session.Session.{Session as CoreSession}
use Rattle.ib_core.specs.Sessions.{idle, claims, holdings}
use Rattle.ib_core.specs.Responses.{latch_of}
use Rattle.ib_core.specs.Turns.{turn_at}
use Rattle.ib_core.specs.Debts.{wish_of, won}
use Rattle.ib_logrec.specs.declared.entry.Entry.{Entry}
use Rattle.ib_rule.specs.declared.looks.Grants.{Grants}
use Rattle.ib_rule.specs.declared.looks.Looks.{Looks}
use Rattle.ib_rule.specs.declared.looks.Raise.{Raise}
use Rattle.ib_rule.specs.declared.memory.Since.{Since}
use Rattle.ib_rule.specs.declared.memory.Knowledge.{Knowledge}
use Rattle.ib_rule.specs.declared.view.Ended.{Ended}
use Rattle.ib_rule.specs.declared.view.Role.{Role}
use Rattle.ib_rule.specs.declared.view.Role.TheVariants.{Space, Fresh, Spent, Note}
use Rattle.ib_rule.specs.declared.view.View.{View}
use Rattle.ib_rule.specs.Roles.{session_number_of, drawn_in, drawn_more, ended_more}
use Rattle.ib_rule.specs.Memory.{latch_at}

-- the parts of a view
abbrev pub role_of : View → Role
role_of v = v.role

abbrev pub session_in_view : View → CoreSession
session_in_view v = v.session

abbrev pub knowledge_of : View → Knowledge
knowledge_of v = v.memory

abbrev pub with_role : Role → View → View
with_role r v = record v { role = r }

abbrev pub with_looks : Looks → View → View
with_looks k v = record v { looks = k }

-- .. with these raises
abbrev pub with_raises : List Raise → View → View
with_raises rs v = with_looks (record v.looks { raises = rs }) v

abbrev pub with_memory : Knowledge → View → View
with_memory m v = record v { memory = m }

-- no grant, no look, nothing seen, and the view of a seat that has done nothing yet
abbrev pub no_grants : Grants
no_grants = record { s = 0; sx = 0; x = 0 }

abbrev pub no_looks : Looks
no_looks = record { count = 0; steps = 0; waits = 0; all = []; raises = [] }

abbrev pub nothing_seen : Knowledge
nothing_seen = record { met = []; seen = []; own = []; ends = []; since = []; loaded = []; append = None }

abbrev pub seated : Role → View
seated r = record { role = r; session = idle; grants = no_grants; written = []; looks = no_looks; memory = nothing_seen }

-- the space's own view: its grants are those of the sessions that have ended
abbrev pub space_at : ℕ → List Ended → Grants → View
space_at drawn ended grants = record (seated (Space drawn ended)) { grants = grants }

-- .. where no session has ended with grants yet
abbrev pub space_view : ℕ → List Ended → View
space_view drawn ended = seated (Space drawn ended)

-- all grants, and the grants with one more of a mode
abbrev pub total : Grants → ℕ
total g = g.s + g.sx + g.x

abbrev pub with_grant : Option Mode → Grants → Grants
with_grant None g = g
with_grant (Some S) g = record { s = g.s + 1; sx = g.sx; x = g.x }
with_grant (Some Sx) g = record { s = g.s; sx = g.sx + 1; x = g.x }
with_grant (Some X) g = record { s = g.s; sx = g.sx; x = g.x + 1 }

-- what the session knows that belongs to a grant on the latch ends with the last one
abbrev pub memory_left : ℕ → CoreSession → Knowledge → Knowledge
memory_left l a m = record m {
  since = filter (λ since. not (since.latch == l) || nat_lt 0 (holdings l a)) m.since;
  loaded = filter (λ x. not (latch_at x.place == l) || nat_lt 0 (holdings l a)) m.loaded;
}

-- the view after the event on the word found
abbrev pub turned : Event → ℕ → View → View
turned e n v = let t = turn_at e n v.session in record v {
  session = t.session;
  grants = with_grant (won t.answer (wish_of v.session.phase e)) v.grants;
  written = filter (λ k. not (k == latch_of e) || nat_lt 0 (claims (latch_of e) t.session)) v.written;
  memory = memory_left (latch_of e) t.session v.memory;
}

abbrev pub turned_by : Option Event → ℕ → View → View
turned_by None n v = v
turned_by (Some e) n v = turned e n v

-- the view in which the session is this: where it has nothing left on the latch, what it knew of it and had stored there ends
abbrev pub left_as : ℕ → CoreSession → View → View
left_as l a v = record v {
  session = a;
  written = filter (λ k. not (k == l) || nat_lt 0 (claims l a)) v.written;
  memory = memory_left l a v.memory;
}

-- the writer word of the latch is stored
abbrev pub signed : ℕ → View → View
signed l v = record v { written = l ∷ v.written }

-- a page word is loaded
abbrev pub loading : ℕ → ℕ → View → View
loading q n v = with_memory (record v.memory { loaded = record { place = q; value = n; is_fresh = true } ∷ v.memory.loaded }) v

-- a held latch has a since
abbrev pub is_watched : ℕ → List Since → Bool
is_watched l [] = false
is_watched l (s ∷ ss) = (s.latch == l) || is_watched l ss

-- each held latch without a since has one from now on
abbrev pub watches_from : CoreSession → List Holding → List Since → ℕ → List Since
watches_from a [] ss n = []
watches_from a (h ∷ hs) ss n = cond (is_watched h.latch.0 ss) (watches_from a hs ss n) (record { latch = h.latch.0; claims = nat_lt 0 (claims h.latch.0 a); place = n } ∷ watches_from a hs ss n)

-- the log's end is loaded, and all of the log is seen
abbrev pub reaching : List Entry → View → View
reaching log v = with_memory (record v.memory {
  seen = log;
  ends = v.memory.ends ++ length log ∷ [];
  since = v.memory.since ++ watches_from v.session v.session.held v.memory.since (length log);
}) v

-- of two lists the longer
abbrev pub longer : List Entry → List Entry → List Entry
longer xs ys = if nat_lt (length xs) (length ys) then ys else xs

-- a note of what the session has seen, the view that has taken in a note, and the one that has looked at the table since
abbrev pub note_of : View → View
note_of v = with_memory (record nothing_seen { seen = v.memory.seen }) (seated Note)

abbrev pub with_note : View → View → View
with_note v w = with_memory (record v.memory { met = v.memory.seen ∷ w.memory.seen ∷ []; seen = longer v.memory.seen w.memory.seen }) v

abbrev pub forgets : Knowledge → Knowledge
forgets m = record m { met = [] }

-- the view with another list of entries seen
abbrev pub seeing : List Entry → View → View
seeing log v = with_memory (record v.memory { met = []; seen = log }) v

-- the moves of seats: a number is drawn, for a new session; a session ends, and its seat is spent
abbrev pub one_drawn : View → View
one_drawn v = with_role (drawn_more v.role) v

abbrev pub newcomer : View → View
newcomer v = seated (Fresh (drawn_in v.role + 1))

abbrev pub ended_as : View → Ended
ended_as w = record { number = session_number_of w.role; seen = w.memory.seen; own = w.memory.own }

abbrev pub plus : Grants → Grants → Grants
plus g h = record { s = g.s + h.s; sx = g.sx + h.sx; x = g.x + h.x }

abbrev pub with_ended : View → View → View
with_ended v w = record v { role = ended_more (ended_as w) v.role; grants = plus v.grants w.grants }

abbrev pub nobody : View
nobody = seated Spent

-- what a session knows is of latches that it holds, and what it has stored as a writer of those that it has in SX or X, or is the next writer of
pub record KnowsHeld (v : View) : Type 0 where
  pub since : AllByRecursion (λ since. 0 < holdings since.latch v.session) v.memory.since
  pub loaded : AllByRecursion (λ x. 0 < holdings (latch_at x.place) v.session) v.memory.loaded
  pub written : AllByRecursion (λ l. 0 < claims l v.session) v.written
