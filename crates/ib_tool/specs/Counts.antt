-- How often each reply came in a run.
use Rattle.std.specs.Prelude.{ℕ, List, ◌++◌, Bool, true, false, codes, decimal, length, count_by, sum_by}
use Rattle.ib_map.specs.Pairs.{Pairs}
use Rattle.ib_map.specs.Runs.{Runs}
use Rattle.ib_map.specs.declared.call.Reply.{Reply}
use Rattle.ib_map.specs.declared.call.Reply.TheVariants.{Inserted, Duplicate, Deleted, Missing, Found, NotFound, LogFull, SpaceFull, TooHigh}
use Rattle.ib_tool.specs.declared.counting.ReplyKind.{ReplyKind}
use Rattle.ib_tool.specs.declared.counting.ReplyKind.TheVariants.{Inserted as InsertedKind, Duplicate as DuplicateKind, Deleted as DeletedKind, Missing as MissingKind, Found as FoundKind, NotFound as NotFoundKind, Refused}

-- whether a reply is one of these: refused is one for a full log, a full space or a tree too high
abbrev pub is_of : ReplyKind → Reply → Bool
is_of InsertedKind Inserted = true
is_of DuplicateKind Duplicate = true
is_of DeletedKind (Deleted value) = true
is_of MissingKind Missing = true
is_of FoundKind (Found value) = true
is_of NotFoundKind NotFound = true
is_of Refused (LogFull used cap) = true
is_of Refused (SpaceFull free need) = true
is_of Refused TooHigh = true
is_of _ _ = false

-- how often one of these came, over all sessions
abbrev pub count_of : ReplyKind → Runs → ℕ
count_of kind runs = sum_by (λ rs. count_by (λ r. is_of kind r.reply) rs) runs

-- a count behind what is counted
abbrev pub count_line : List ℕ → ℕ → List ℕ
count_line name count = name ++ decimal count ++ codes "\n"

-- the replies of a run, counted, and the pairs of the map in the end
abbrev pub counts_of : Runs → Pairs → List ℕ
counts_of runs m =
    count_line (codes "inserted ") (count_of InsertedKind runs)
    ++ count_line (codes "duplicate ") (count_of DuplicateKind runs)
    ++ count_line (codes "deleted ") (count_of DeletedKind runs)
    ++ count_line (codes "missing ") (count_of MissingKind runs)
    ++ count_line (codes "found ") (count_of FoundKind runs)
    ++ count_line (codes "none ") (count_of NotFoundKind runs)
    ++ count_line (codes "refused ") (count_of Refused runs)
    ++ count_line (codes "map ") (length m)
