use Rattle.std.proofs.Common.{ap, ◌∙◌}
use Rattle.atomic_table.specs.Table.{Me}
use Rattle.ib_rule.specs.declared.view.Role.{Role}
use Rattle.ib_rule.specs.declared.view.View.{View}
use Rattle.ib_rule.specs.Roles.{ended_more}
use Rattle.ib_rule.specs.Views.{ended_as}
use Rattle.ib_rule.proofs.Sessions.{leaves, counts}
use Rattle.ib_rule.proofs.seats.leave.Goals as goal

pub join_seat-requires : goal.join_seat-requires
join_seat-requires g c = (
  c.requires.table.0,
  c.requires.table.1,
  c.requires.other.2,
  c.requires.words,
  leaves g.L.Law.lawful g.L.Law.opening _ _ _ _ _ _ _ _ (ap (λ (m : Me (Unit {0}) View). m.0.role) c.requires.space) c.requires.other.0 c.requires.other.1 c.requires.closed,
)

pub act-requires-clause-allowed : goal.act-requires-clause-allowed
act-requires-clause-allowed g c =
    counts g.L.Law.lawful g.L.Law.opening _ _ _ _ _ _ _
    (ap (λ (m : Me (Unit {0}) View). m.0.role) c.join_seat.ensures.2 ∙ ap (λ (r : Role). ended_more (ended_as c.args.other.me.0) r) (ap (λ (m : Me (Unit {0}) View). m.0.role) c.requires.space))
