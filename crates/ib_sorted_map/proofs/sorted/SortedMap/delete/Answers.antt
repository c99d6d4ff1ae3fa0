-- What the tree removes is the key's pair.
use Rattle.std.proofs.Common.{◌≡◌, ◌∙◌, Some, None, refl, sym}
use Rattle.ib_map.specs.Pairs.{value_at}
use Rattle.ib_sorted_map.proofs.EntryLaws.{IsMap-from_sorted, lookup-value_at, remove_entry-without}
use Rattle.ib_sorted_map.proofs.sorted.SortedMap.delete.Goals as goal
use Rattle.ib_sorted_map.proofs.sorted.SortedMap.delete.Goals.{in-Some, in-None}

pub invariant_of-self : goal.invariant_of-self
invariant_of-self c = IsMap-from_sorted c.remove.new.self.entries c.remove.ensures.ordered

pub returns : goal.returns
returns c = elim c.match-remove.branch [
  | in-Some w ↦
      let there : value_at c.args.key c.args.self.now ≡ Some w.in-Some.value = sym (rw (← c.self.view_is, ← lookup-value_at c.args.key c.self.inside.pairs.entries) (rw c.new.ensures at w.in-Some.ensures.value)) in
      rw w.result-is (record {
        value = there;
        deleted = rw (c.remove.ensures.entries, c.new.ensures, ← c.self.view_is) (remove_entry-without c.args.key c.self.inside.pairs.entries);
        missing = (λ missing. cc, λ none. let no = rw there at none in cc);
        only_missing = tt;
        unchanged = tt;
        ascends = invariant_of-self c;
      })
  | in-None w ↦
      let absent : value_at c.args.key c.args.self.now ≡ None = sym (rw (← c.self.view_is, ← lookup-value_at c.args.key c.self.inside.pairs.entries) (rw c.new.ensures at w.in-None.ensures.value)) in
      rw w.result-is (record {
        value = tt;
        deleted = tt;
        missing = (λ _. rw absent refl, λ _. refl);
        only_missing = refl;
        unchanged = w.in-None.ensures.unchanged ∙ c.self.view_is;
        ascends = invariant_of-self c;
      })
]
