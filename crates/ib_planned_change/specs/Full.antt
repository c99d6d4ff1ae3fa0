-- What is full where a change cannot be planned.
use Rattle.std.specs.Prelude.{ℕ, List, nat_lt, Option, Some, None, if◌then◌else◌}
use Rattle.ib_map.specs.declared.call.Change.{Change}
use Rattle.ib_map.specs.declared.call.Change.TheVariants.{Insert, Delete}
use Rattle.ib_logrec.specs.declared.entry.Entry.{Entry}
use Rattle.ib_logrec.specs.declared.fault.FullKind.{FullKind}
use Rattle.ib_logrec.specs.declared.fault.FullKind.TheVariants.{High, Space}
use Rattle.ib_logrec.specs.Log.{memory_after, by_place}
use Rattle.ib_walk.specs.Full.{need_of, is_too_high, free_of}
use Rattle.ib_walk.specs.Pages.{PageMemory}
use Rattle.ib_walk.specs.Words.{bits_of}
use Rattle.ib_tree.specs.TreeLog.{opening}
use Rattle.ib_planned_log.specs.LeafChange.{kept_pages}

-- the tree, where an insert would make it too high, else the space, where fewer pages are free than the insert takes. A delete finds nothing full
abbrev pub full_kind : PageMemory → (ℕ → ℕ) → ℕ → Change → Option FullKind
full_kind memory bits pages (Insert key value) =
    if is_too_high 1 memory key 1 then Some High else (if nat_lt (free_of bits pages) (need_of memory key 1) then Some Space else None)
full_kind memory bits pages (Delete key) = None

-- .. on the pages behind a log, in a space of so many
abbrev pub full_behind : ℕ → List Entry → Change → Option FullKind
full_behind pages log change = full_kind (kept_pages pages log) (bits_of pages (memory_after (by_place opening pages) log)) pages change
