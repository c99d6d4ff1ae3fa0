-- What a script may be generated from.
use Rattle.std.specs.Prelude.{ℕ, ◌^◌, Bool, ◌&&◌, nat_le, nat_lt}
use Rattle.ib_io.specs.declared.line_kind.TheConstants.{MOST_SCRIPT_SESSIONS}
use Rattle.ib_script.specs.declared.load.TheConstants.{MOST_GENERATED}

-- so many commands in all, a seed, and so many sessions
abbrev pub is_load : ℕ → ℕ → ℕ → Bool
is_load commands seed sessions =
    (nat_le 1 commands && nat_le commands MOST_GENERATED) && nat_lt seed (2 ^ 32) && (nat_le 1 sessions && nat_le sessions MOST_SCRIPT_SESSIONS)
