-- How often entries write a page, which its modify clock counts.
use Rattle.std.specs.Prelude.{◌≡◌, ◌≢◌, ℕ, ◌+◌, List, [], ◌∷◌, ◌++◌, if◌then◌else◌}
use Rattle.ib_map.specs.Writes.{touches}
use Rattle.ib_logrec.specs.declared.entry.Entry.{Entry}
use Rattle.ib_tree.specs.Logs.{pages_after}

-- a lawful entry raises the clock of each page but page 0 by one where it writes the page, and else leaves it
abbrev pub CountsWrites : (List Entry → Type 0) → (ℕ → ℕ) → Type 0
CountsWrites lawful opening = (front : List Entry) (e : Entry) (page : ℕ) → page ≢ 0 → lawful (front ++ e ∷ [])
    → (pages_after opening (front ++ e ∷ []) page).clock ≡ (pages_after opening front page).clock + (if touches page e.writes then 1 else 0)
