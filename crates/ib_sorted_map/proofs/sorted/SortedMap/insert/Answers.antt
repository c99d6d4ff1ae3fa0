-- A key that the tree has not is put in.
use Rattle.std.proofs.Common.{◌∙◌, refl}
use Rattle.ib_sorted_map.proofs.EntryLaws.{IsMap-from_sorted, IsSome-from_found, None-from_not_found, insert_entry-put}
use Rattle.ib_sorted_map.proofs.sorted.SortedMap.insert.Goals as goal
use Rattle.ib_sorted_map.proofs.sorted.SortedMap.insert.Goals.{in-Ok, in-Err}

pub invariant_of-self : goal.invariant_of-self
invariant_of-self c = IsMap-from_sorted c.insert.new.self.entries c.insert.ensures.ordered

pub returns-then-contains_key : goal.returns-then-contains_key
returns-then-contains_key c = record {
  inserted = tt;
  absent = tt;
  duplicate = (λ _. rw (← c.self.view_is) (IsSome-from_found c.args.key c.self.inside.pairs.entries c.contains_key.result (rw c.new-key.ensures at c.contains_key.ensures) c.if-contains_key.true), λ _. refl);
  never_missing = λ missing. cc;
  unchanged = search;
  ascends = rw (← c.self.view_is) c.self.invariant;
}

pub returns : goal.returns
returns c =
    let none = None-from_not_found c.args.key c.self.inside.pairs.entries c.contains_key.result (rw c.new-key.ensures at c.contains_key.ensures) c.if-contains_key.false in
    let absent = rw c.self.view_is at none in
    elim c.match-insert.branch [
      | in-Ok w ↦ rw w.result-is (record {
        inserted = rw (w.in-Ok.ensures.entries, c.new-key.ensures, ← c.self.view_is) (insert_entry-put c.args.key c.args.value c.self.inside.pairs.entries none);
        absent = absent;
        duplicate = (λ duplicate. cc, λ some. let no = rw absent at some in cc);
        never_missing = λ missing. cc;
        unchanged = tt;
        ascends = invariant_of-self c;
      })
      | in-Err w ↦ rw w.result-is (record {
        inserted = tt;
        absent = tt;
        duplicate = (λ duplicate. cc, λ some. let no = rw absent at some in cc);
        never_missing = λ missing. cc;
        unchanged = w.in-Err.ensures.err ∙ c.self.view_is;
        ascends = invariant_of-self c;
      })
    ]
