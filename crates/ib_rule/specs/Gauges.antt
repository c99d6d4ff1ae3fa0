-- What a caller may ask of a pass: the strongest mode held on a latch.
use Rattle.std.specs.Prelude.{ℕ, nat_lt, if◌then◌else◌, Option, Some, None}
use Rattle.ib_levels.specs.declared.level.Mode.{Mode}
use Rattle.ib_levels.specs.declared.level.Mode.TheVariants.{S, Sx, X}
use Rattle.ib_core.specs.declared.session.Session.{Session}
use Rattle.ib_core.specs.Sessions.{reads, sx_grants, x_grants}

-- the strongest mode that a session holds on the latch
abbrev pub mode_held : ℕ → Session → Option Mode
mode_held l a =
    if nat_lt 0 (x_grants l a) then Some X
    else if nat_lt 0 (sx_grants l a) then Some Sx
    else if nat_lt 0 (reads l a) then Some S
    else None
