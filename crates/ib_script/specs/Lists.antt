-- Lists of commands, one for each session: session n's at place n - 1.
use Rattle.std.specs.Prelude.{ℕ, ◌-◌, List, [], ◌∷◌, ◌++◌, length, map, replicate, slice_index_or, slice_set, Vec}
use Rattle.std.specs.declared.alloc.Global.{Global}
use Rattle.ib_map.specs.declared.call.Call.{Call}

abbrev pub lists_of : List (Vec Call Global) → List (List Call)
lists_of vecs = map (λ v. v.items) vecs

-- the lists, and an empty one for each further session up to this one
abbrev pub with_sessions : ℕ → List (List Call) → List (List Call)
with_sessions session lists = lists ++ replicate (session - length lists) []

-- the lists with a command more at the end of a session's
abbrev pub with_command : ℕ → Call → List (List Call) → List (List Call)
with_command session call lists = slice_set lists (session - 1) (slice_index_or lists (session - 1) [] ++ call ∷ [])
