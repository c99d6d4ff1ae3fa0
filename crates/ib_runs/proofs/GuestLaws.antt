-- Who has done nothing has changed nothing.
use Rattle.std.proofs.Common.{ℕ, ◌+◌, List, [], ◌∷◌, ap}
use Rattle.ib_rule.specs.declared.view.View.{View}
use Rattle.ib_rule.specs.Pass.{PassState}
use Rattle.ib_runs.specs.Guests.{AreGuests, AreNewGuests}

pub new-guests : (n : ℕ) (ps : List PassState) → AreNewGuests n ps → AreGuests n ps
new-guests n [] are = tt
new-guests n (p ∷ ps) are =
    let one = are.0 in
    (record { number = one.number; role = ap (λ (v : View). v.role) one.view; unchanged = ap (λ (v : View). v.memory.own) one.view }, new-guests (n + 1) ps are.1)
