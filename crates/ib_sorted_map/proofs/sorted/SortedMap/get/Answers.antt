-- What the tree finds is the key's value.
use Rattle.ib_sorted_map.proofs.EntryLaws.{lookup-value_at}
use Rattle.ib_sorted_map.proofs.sorted.SortedMap.get.Goals as goal

pub returns-in-Some-clause-value : goal.returns-in-Some-clause-value
returns-in-Some-clause-value c = rw (← c.self.view_is, ← lookup-value_at c.args.key c.self.inside.pairs.entries) (rw c.new.ensures at c.in-Some.ensures.value)

pub returns-in-None-clause-value : goal.returns-in-None-clause-value
returns-in-None-clause-value c = rw (← c.self.view_is, ← lookup-value_at c.args.key c.self.inside.pairs.entries) (rw c.new.ensures at c.in-None.ensures.value)
