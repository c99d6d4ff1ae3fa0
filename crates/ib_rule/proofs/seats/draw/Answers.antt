use Rattle.std.proofs.Common.{ap}
use Rattle.atomic_table.specs.Table.{Me}
use Rattle.ib_rule.specs.declared.view.View.{View}
use Rattle.ib_rule.proofs.Sessions.{draws, enters}
use Rattle.ib_rule.proofs.seats.draw.Goals as goal

pub split_seat-seat-requires : goal.split_seat-seat-requires
split_seat-seat-requires g c = (
  c.requires.table,
  c.requires.words,
  draws g.L.Law.lawful g.L.Law.opening _ _ _ _ _ (ap (λ (m : Me (Unit {0}) View). m.0.role) c.requires.space) c.requires.room,
)

pub act-requires-clause-allowed : goal.act-requires-clause-allowed
act-requires-clause-allowed g c = enters g.L.Law.lawful g.L.Law.opening _ _ _ _ _ _ (ap (λ (m : Me (Unit {0}) View). m.0.role) c.split_seat-seat.ensures.4)
