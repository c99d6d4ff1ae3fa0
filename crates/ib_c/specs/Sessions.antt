-- What a call on a session's handle comes to.
use Rattle.std.specs.Prelude.{◌≡◌, Option, Some, None}
use Rattle.ib_rule.specs.Pass.{PassState}
use Rattle.ib_rule.specs.Space.{SpaceState}
use Rattle.ib_c.specs.SessionState.{SessionState}

-- what a call does to a pass of a space, and answers
abbrev pub Does : Type 0 → Type 1
Does A = SpaceState → PassState → A → PassState → Type 0

-- the call did this to the session's pass, which shares the same space still
abbrev pub OnPass : {A : Type 0} → Does A → SessionState → A → SessionState → Type 0
OnPass does s r t = Path SpaceState t.space s.space × does s.space s.pass r t.pass

-- .. or found no session in the handle, and answered this
abbrev pub OnHandle : {A : Type 0} → A → Does A → Option SessionState → A → Option SessionState → Type 0
OnHandle none does None r q = (r ≡ none) × (q ≡ None)
OnHandle none does (Some s) r q = (t : SessionState) × (q ≡ Some t) × OnPass does s r t
