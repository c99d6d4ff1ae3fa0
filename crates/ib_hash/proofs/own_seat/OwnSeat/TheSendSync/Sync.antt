use denote.Param.Send.{IsSync, part_keyless}
use Rattle.ib_hash.specs.contracts.own_seat.OwnSeat.{the_row}
use Rattle.ib_hash.proofs.own_seat.OwnSeat.TheSendSync.Send.{send}

pub sync : IsSync the_row
sync = record { shared = λ d b o ν q. part_keyless the_row send q d b o }
