-- The words of the command line.
use Rattle.std.specs.Prelude.{◌≡◌, ℕ, List, [], ◌∷◌, Bool, true, false, Option, Some, None, codes, bytes_eq, if◌then◌else◌}
use Rattle.ib_io.specs.Numbers.{number_of}
use Rattle.ib_script.specs.Loads.{is_load}
use Rattle.ib_tool.specs.declared.form.Form.{Form}
use Rattle.ib_tool.specs.declared.form.Form.TheVariants.{Run, Fast, Pair, Raw, Image, Latch, Replay, Upgrade, Restore, Gen}

-- a form of one word
abbrev pub form_named : List ℕ → Option Form
form_named word =
    if bytes_eq word (codes "run") then Some Run
    else if bytes_eq word (codes "fast") then Some Fast
    else if bytes_eq word (codes "pair") then Some Pair
    else if bytes_eq word (codes "raw") then Some Raw
    else if bytes_eq word (codes "image") then Some Image
    else if bytes_eq word (codes "latch") then Some Latch
    else if bytes_eq word (codes "replay") then Some Replay
    else if bytes_eq word (codes "upgrade") then Some Upgrade
    else if bytes_eq word (codes "restore") then Some Restore
    else None

-- generating from these numbers, where a script may be
abbrev pub gen_by : Option ℕ → Option ℕ → Option ℕ → Option Form
gen_by (Some commands) (Some seed) (Some sessions) =
    if is_load commands seed sessions then Some (Gen (record { commands = commands; seed = seed; sessions = sessions })) else None
gen_by _ _ _ = None

-- the forms: one word alone, or `gen` and three numbers as a script spells them
abbrev pub form_of : List (List ℕ) → Option Form
form_of (word ∷ []) = form_named word
form_of (word ∷ commands ∷ seed ∷ sessions ∷ []) =
    if bytes_eq word (codes "gen") then gen_by (number_of commands) (number_of seed) (number_of sessions) else None
form_of _ = None

-- what a script is generated from may be
abbrev pub IsLawfulForm : Form → Type 0
IsLawfulForm (Gen load) = is_load load.commands load.seed load.sessions ≡ true
IsLawfulForm _ = Unit {0}

-- whether a form reads its source
abbrev pub reads : Form → Bool
reads (Gen load) = false
reads _ = true

-- it names none of `fast`, `image`, `pair`, `upgrade` and `restore`
abbrev pub usage_line : List ℕ
usage_line = codes "usage: ib_tool run | raw | latch | replay | gen N SEED SESSIONS\n"

abbrev pub too_large_line : List ℕ
too_large_line = codes "too large\n"
