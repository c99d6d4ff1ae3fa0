-- The laws of kept logs, clause by clause.
use Rattle.ib_planned_log.proofs.ClockLaws.{clock-le, space_clock-le}
use Rattle.ib_planned_log.proofs.LeafChangeLaws.{delete-kept, delete-planned, in-leaf, insert-kept, insert-planned, insert-room}
use Rattle.ib_planned_log.proofs.PushLaws.{IsKeptLog-push}
use Rattle.ib_planned_log.proofs.laws.kept_law.Goals as goal

pub returns-clause-push : goal.returns-clause-push
returns-clause-push c pages log e fits kept grammar made numbered plan space = IsKeptLog-push pages fits log kept e grammar made plan numbered space

pub returns-clause-clocks : goal.returns-clause-clocks
returns-clause-clocks c pages log page fits kept ne = clock-le pages fits log page ne kept

pub returns-clause-space_clock : goal.returns-clause-space_clock
returns-clause-space_clock c pages log fits kept = space_clock-le pages fits log kept

pub returns-clause-lookup : goal.returns-clause-lookup
returns-clause-lookup c pages log key fits kept = in-leaf pages fits log kept key

pub returns-clause-room : goal.returns-clause-room
returns-clause-room c pages log key fits kept room = insert-room pages fits log kept key room

pub returns-clause-leaf_insert : goal.returns-clause-leaf_insert
returns-clause-leaf_insert c pages log key value e fits kept missing room changes =
    (insert-planned pages fits log kept key e value missing room changes, insert-kept pages fits log kept key e value missing room changes)

pub returns-clause-leaf_delete : goal.returns-clause-leaf_delete
returns-clause-leaf_delete c pages log key value e fits kept there enough changes =
    (delete-planned pages fits log kept key e value there enough changes, delete-kept pages fits log kept key e value there enough changes)
