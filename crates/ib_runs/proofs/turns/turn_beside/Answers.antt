-- Nobody works, and nothing is brought.
use Rattle.std.proofs.Common.{◌≡◌, false, refl, rules}
use Rattle.ib_rule.specs.Space.{SpaceState}
use Rattle.ib_runs.proofs.GuestLaws.{new-guests}
use Rattle.ib_runs.proofs.turns.turn_beside.Goals as goal

pub returns-then-not-is_there-clause-guests : goal.returns-then-not-is_there-clause-guests
returns-then-not-is_there-clause-guests g c =
    let space : SpaceState = g.S.Shared.space c.args.shared.now in
    let none : c.is_there.result ≡ false = search rules in
    record {
      still = λ pages served. served;
      count = refl;
      rest = c.requires.guests.rest;
      guests = λ n new. new-guests n (g.B.Beside.passes c.args.guest.now) new;
      brought = λ log ended. c.is_there.ensures none space.sizes.pages log;
    }
