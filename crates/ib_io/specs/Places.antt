-- Where a byte stands first.
use Rattle.std.specs.Prelude.{◌≡◌, ◌<◌, ◌≤◌, ◌==◌, ℕ, List, Option, length, MatchOption}
use Rattle.std.specs.List.{position_or_len}

-- the first place of the byte, or that it stands nowhere
abbrev pub IsFirstPlace : ℕ → List ℕ → Option ℕ → Type 0
IsFirstPlace byte text place =
    let first = position_or_len (λ b. b == byte) text in
    MatchOption place (length text ≤ first) (λ at. (at ≡ first) × (at < length text))
