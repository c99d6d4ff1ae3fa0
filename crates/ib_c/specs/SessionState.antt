-- What contracts see of a session: the space that it shares, and its pass.
use Rattle.ib_rule.specs.Pass.{PassState}
use Rattle.ib_rule.specs.Space.{SpaceState}

pub record SessionState : Type 0 where
  pub space : SpaceState
  pub pass : PassState
