-- A descent that found a latch taken.
use Rattle.std.specs.Prelude.{◌≡◌, ◌≢◌, ◌⊎◌, ℕ, ◌+◌, ◌<◌, ◌≤◌, true, false, List, [], ◌∷◌, length, Some, None}
use Rattle.ib_map.specs.Keys.{MapKey}
use Rattle.ib_word.specs.Word.{cell_of}
use Rattle.ib_word.specs.declared.word.LockWord.{LockWord}
use Rattle.ib_levels.specs.declared.latch.Latch.{Latch}
use Rattle.ib_levels.specs.declared.level.Mode.TheVariants.{S}
use Rattle.ib_layout.specs.Geometry.{Sizes}
use Rattle.ib_core.specs.Takings.{is_given_at}
use Rattle.ib_logrec.specs.declared.entry.Entry.{Entry}
use Rattle.ib_tree.specs.Logs.{pages_after}
use Rattle.ib_rule.specs.declared.looks.Look.{Look}
use Rattle.ib_rule.specs.declared.looks.Looks.{Looks}
use Rattle.ib_rule.specs.Pass.{PassState}
use Rattle.ib_latch.specs.declared.tries.TryFault.{TryFault}
use Rattle.ib_latch.specs.declared.tries.TryFault.TheVariants.{Busy as TryBusy, Raced as TryRaced}
use Rattle.ib_cursor.specs.declared.fault.NowaitFault.{NowaitFault}
use Rattle.ib_cursor.specs.declared.fault.NowaitFault.TheVariants.{Busy, Raced}
use Rattle.ib_cursor.specs.Grants.{HasGrants}
use Rattle.ib_cursor.specs.Going.{IsKnown, WentOn}
use Rattle.ib_cursor.specs.OnPath.{IsOnPath}

-- a try on the latch that was refused, and the latch of a fault
abbrev pub fault_on : Latch → TryFault → NowaitFault
fault_on latch (TryBusy word) = Busy latch word
fault_on latch (TryRaced expected found) = Raced latch expected found

abbrev pub refused_latch : NowaitFault → ℕ
refused_latch (Busy latch word) = latch.0
refused_latch (Raced latch expected found) = latch.0

-- the last look found this word of the latch, of which the session held nothing, and S is not granted in the word: it is not above 0
pub record WasBusy (l : ℕ) (word : LockWord) (first last : Looks) : Type 0 where
  pub count : first.count < last.count
  pub low : is_given_at S word.0 ≡ false
  pub at : ℕ
  pub before : List Look
  pub is : last.all ≡ record { latch = l; found = cell_of word.0; expected = None; at = at; held = 0 } ∷ before

-- the last two looks, with no step on a lock word between them, at a latch of which the session held nothing: one of a word in which S is granted, and an exchange that found another
pub record WasRaced (l : ℕ) (expected found : LockWord) (first last : Looks) : Type 0 where
  pub count : first.count + 1 < last.count
  pub high : is_given_at S expected.0 ≡ true
  pub other : found.0 ≢ expected.0
  pub at : ℕ
  pub before : List Look
  pub is : last.all ≡ record { latch = l; found = cell_of found.0; expected = Some (cell_of expected.0); at = at + 1; held = 0 } ∷ record { latch = l; found = cell_of expected.0; expected = None; at = at; held = 0 } ∷ before

-- a latch was refused in the steps between
abbrev pub WasRefused : NowaitFault → Looks → Looks → Type 0
WasRefused (Busy latch word) first last = WasBusy latch.0 word first last
WasRefused (Raced latch expected found) first last = WasRaced latch.0 expected found first last

-- the index, or a page of the key's path
abbrev pub IsAnywhereOnPath : (ℕ → ℕ) → List Entry → ℕ → MapKey → ℕ → Type 0
IsAnywhereOnPath opening log root key l = (l ≡ 1) ⊎ ((page : ℕ) × (level : ℕ) × (l ≡ page + 2) × IsOnPath (pages_after opening log) root key page level)

-- the descent gave up: nothing is held and no page loaded, and the latch is on the key's path in the tree after all seen
pub record IsContended (sizes : Sizes) (lawful : List Entry → Type 0) (opening : ℕ → ℕ) (root : ℕ) (key : MapKey) (fault : NowaitFault) (p q : PassState) : Type 0 where
  pub went : WentOn p q
  pub looked : 0 < length went.added
  pub known : IsKnown sizes lawful q
  pub grants : HasGrants [] q
  pub work : q.work ≡ []
  pub on_path : IsAnywhereOnPath opening q.view.memory.seen root key (refused_latch fault)
  pub refused : WasRefused fault p.view.looks q.view.looks
  pub s : q.view.grants.s ≤ p.view.grants.s + 9
  pub sx : q.view.grants.sx ≡ p.view.grants.sx
  pub x : q.view.grants.x ≡ p.view.grants.x
