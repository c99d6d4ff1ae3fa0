-- The room that the log had: what stands in it was written only where the longest entry had room.
use Rattle.std.specs.Prelude.{◌≡◌, ℕ, ◌+◌, ◌≤◌, List, ◌∷◌, ◌++◌}
use Rattle.ib_logrec.specs.declared.entry.Entry.{Entry}
use Rattle.ib_logrec.specs.Log.{used}
use Rattle.ib_rule.specs.declared.pass.TheConstants.{ENTRY_WORDS}

-- whenever an entry was written, the log had room for the longest one
abbrev pub HadRoom : ℕ → List Entry → Type 0
HadRoom words log = (front : List Entry) (e : Entry) (back : List Entry) → log ≡ front ++ e ∷ back → used front + ENTRY_WORDS ≤ words
