-- The pages that a change touches, and their clocks.
use Rattle.std.specs.Prelude.{ℕ, ◌+◌, Bool, true, false, ◌==◌, if◌then◌else◌}
use Rattle.ib_walk.specs.Pages.{PageState, PageMemory}

-- no page, and one more
abbrev pub untouched : ℕ → Bool
untouched n = false

abbrev pub mark : ℕ → (ℕ → Bool) → ℕ → Bool
mark page touched n = if n == page then true else touched n

-- one page's bit is set or clear now
abbrev pub with_bit : ℕ → ℕ → (ℕ → ℕ) → ℕ → ℕ
with_bit page bit bits n = if n == page then bit else bits n

abbrev pub with_clock : ℕ → PageState → PageState
with_clock clock page = record { kind = page.kind; level = page.level; prev = page.prev; next = page.next; clock = clock; records = page.records }

-- a change raises the modify clock of each page that it touches by one
abbrev pub ticked : PageMemory → (ℕ → Bool) → PageMemory → PageMemory
ticked before touched planned n = if touched n then with_clock ((before n).clock + 1) (planned n) else planned n
