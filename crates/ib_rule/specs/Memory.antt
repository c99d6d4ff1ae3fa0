-- The memory part of the rule: the log's words and its end, the page words, and what sessions know of them.
use Rattle.std.specs.Prelude.{◌≡◌, ◌⊎◌, ℕ, ◌+◌, ◌-◌, ◌*◌, ◌<◌, ◌≤◌, ◌==◌, ◌||◌, ◌&&◌, nat_lt, Bool, true, false, List, [], ◌∷◌, ◌++◌, length, filter, drop, slice_index, slice_index_or, Option, Some, None}
use Rattle.std.specs.List.{AllByRecursion}
use mathlib.Core.List.{IsPrefix}
use Rattle.ib_map.specs.declared.TheConstants.{PAGE_WORDS}
use Rattle.ib_map.specs.Writes.{page_at, stored, writes_at, touches}
use Rattle.ib_layout.specs.Geometry.{Sizes}
use Rattle.ib_layout.specs.Places.{log_place}
use Rattle.ib_logrec.specs.declared.entry.Entry.{Entry}
use Rattle.ib_logrec.specs.Words.{words_of_entry}
use Rattle.ib_logrec.specs.Log.{used, memory_after}
use Rattle.ib_logrec.specs.Grammar.{IsInGrammar}
use Rattle.ib_core.specs.declared.phase.Phase.TheVariants.{Free}
use Rattle.ib_core.specs.declared.session.Session.{Session}
use Rattle.ib_core.specs.Sessions.{holdings, claims, x_grants}
use Rattle.ib_rule.specs.declared.view.Ended.{Ended}
use Rattle.ib_rule.specs.declared.memory.Since.{Since}
use Rattle.ib_rule.specs.declared.memory.Loaded.{Loaded}
use Rattle.ib_rule.specs.declared.memory.OpenAppend.{OpenAppend}
use Rattle.ib_rule.specs.declared.memory.Knowledge.{Knowledge}
use Rattle.ib_rule.specs.declared.pass.TheConstants.{ENTRY_WORDS}

-- where the page words begin in the table, and how many there are
abbrev pub base : Sizes → ℕ
base sizes = 2 + 5 * (sizes.pages + 2)

abbrev pub page_places : Sizes → ℕ
page_places sizes = PAGE_WORDS * sizes.pages

-- the latch of the page of a place
abbrev pub latch_at : ℕ → ℕ
latch_at place = page_at place + 2

-- an entry conflicts with a holding of another session: on the log latch, on a page that it writes, or in SX or X on the index where it is structural
abbrev pub conflicts : Entry → Since → Bool
conflicts e s = (s.latch == 0) || ((nat_lt 1 s.latch && touches (s.latch - 2) e.writes) || (e.structural && (s.claims && (s.latch == 1))))

-- the entries of a session
abbrev pub entries_of : ℕ → List Entry → List Entry
entries_of n log = filter (λ e. e.session == n) log

-- a latch with a since is held, in its class
pub record Watches (a : Session) (s : Since) : Type 0 where
  pub held : 0 < holdings s.latch a
  pub class : s.claims ≡ nat_lt 0 (claims s.latch a)

-- no entry of another session since then conflicts with it
abbrev pub IsStable : ℕ → List Entry → Since → Type 0
IsStable n log s = AllByRecursion (λ e. (e.session ≡ n) ⊎ (conflicts e s ≡ false)) (drop s.place log)

abbrev pub SinceFact : ℕ → Session → ℕ → List Entry → Since → Type 0
SinceFact n a k log s = Watches a s × (s.place ≤ k) × IsStable n log s

-- a loaded word is that of the page as long as it is fresh
abbrev pub IsRight : (ℕ → ℕ) → List Entry → Loaded → Type 0
IsRight opening log x = x.is_fresh ≡ true → x.value ≡ memory_after opening log x.place

abbrev pub LoadedFact : (ℕ → ℕ) → Session → List Entry → Loaded → Type 0
LoadedFact opening a log x = (0 < holdings (latch_at x.place) a) × IsRight opening log x

-- what an entry must be to be appended by a session that holds this; the log has room for the longest entry
pub record MayComeBehind (sizes : Sizes) (lawful : List Entry → Type 0) (number made : ℕ) (a : Session) (log : List Entry) (e : Entry) : Type 0 where
  pub named : e.session ≡ number
  pub counted : e.number ≡ made + 1
  pub grammar : IsInGrammar sizes.pages e
  pub free : a.phase ≡ Free
  pub log_x : 0 < x_grants 0 a
  pub pages_x : (q : ℕ) → writes_at q e.writes ≡ true → (q < page_places sizes) × (0 < x_grants (latch_at q) a)
  pub index : e.structural ≡ true → 0 < claims 1 a
  pub legal : lawful (log ++ e ∷ [])
  pub longest : used log + ENTRY_WORDS ≤ sizes.log_words

-- a number stands in the list
abbrev pub has : ℕ → List ℕ → Bool
has q [] = false
has q (x ∷ xs) = (x == q) || has q xs

-- an open append: its entry may follow the log, all of which is seen, and what it has stored stands
pub record IsWriting (sizes : Sizes) (lawful : List Entry → Type 0) (words : List ℕ) (log : List Entry) (number : ℕ) (a : Session) (m : Knowledge) (o : OpenAppend) : Type 0 where
  pub fits : MayComeBehind sizes lawful number (length m.own) a log o.entry
  pub whole : m.seen ≡ log
  pub pages_done : (q : ℕ) → has q o.places ≡ true → (writes_at q o.entry.writes ≡ true) × (slice_index words (base sizes + q) ≡ stored o.entry.writes q 0)
  pub words_done : (j : ℕ) → has j o.words ≡ true → (j < length (words_of_entry o.entry)) × (slice_index words (log_place sizes (used log + j)) ≡ slice_index_or (words_of_entry o.entry) j 0)

abbrev pub IsAppending : Sizes → (List Entry → Type 0) → List ℕ → List Entry → ℕ → Session → Knowledge → Option OpenAppend → Type 0
IsAppending sizes lawful words log number a m None = Unit {0}
IsAppending sizes lawful words log number a m (Some o) = IsWriting sizes lawful words log number a m o

-- the page word at a place is one that the open append has stored
abbrev pub stored_in : Option OpenAppend → ℕ → Bool
stored_in None q = false
stored_in (Some o) q = has q o.places

-- an ended session had seen a front of the log, and its own entries are exactly those of its number
abbrev pub EndedFact : List Entry → Ended → Type 0
EndedFact log e = IsPrefix e.seen log × (entries_of e.number log ≡ e.own) × (0 < e.number)

-- what a session knows is true of the log and the words
pub record Follows (sizes : Sizes) (lawful : List Entry → Type 0) (opening : ℕ → ℕ) (words : List ℕ) (log : List Entry) (number : ℕ) (a : Session) (m : Knowledge) : Type 0 where
  pub met : AllByRecursion (λ xs. IsPrefix xs log) m.met
  pub seen : IsPrefix m.seen log
  pub mine : 0 < number → (entries_of number log ≡ m.own) × (entries_of number m.seen ≡ m.own)
  pub since : AllByRecursion (SinceFact number a (length m.seen) log) m.since
  pub loaded : AllByRecursion (LoadedFact opening a log) m.loaded
  pub append : IsAppending sizes lawful words log number a m m.append
