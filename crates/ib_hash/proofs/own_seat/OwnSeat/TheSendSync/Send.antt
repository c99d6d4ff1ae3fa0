use denote.Param.Send.{IsSend, sendable}
use denote.Builtin.{unit}
use Rattle.atomic_table.proofs.Sent.{seat_keyless}
use Rattle.ib_hash.specs.contracts.view.GuessSteps as view
use Rattle.ib_hash.specs.contracts.own_seat.OwnSeat.{the_row}

pub send : IsSend the_row
send = record {
  owned = λ d vs. ((λ vss. (tt, (((λ uss. (tt, ((λ wss. (tt, tt)), tt))), seat_keyless unit (search sendable) view.the_row.coded.code d.seat.table_id d.seat.id d.seat.me), tt))), tt);
  leaving = λ k x vs. (tt, tt);
}
