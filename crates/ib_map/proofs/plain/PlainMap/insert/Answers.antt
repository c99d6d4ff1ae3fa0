-- An insert at the index of a key that is not there is `put`.
use Rattle.std.proofs.Common.{arith, refl}
use Rattle.std.proofs.lemmas.Bool.{cond_both}
use Rattle.ib_map.specs.Keys.{end_rank}
use Rattle.ib_map.specs.Map.{IsMap}
use Rattle.ib_map.proofs.KeyLaws.{rank-lt_end}
use Rattle.ib_map.proofs.IndexLaws.{is_some-found, insert-index, Rises-insert}
use Rattle.ib_map.proofs.plain.PlainMap.insert.Goals as goal
use Rattle.ib_map.proofs.plain.PlainMap.insert.Goals.{in-Ok-insert, in-Err-insert}

pub insert-requires : goal.insert-requires
insert-requires c = omega (arith, c.in-Err.ensures.in_range, c.deref.ensures.len)

pub invariant_of-self : goal.invariant_of-self
invariant_of-self c =
    let search = rw c.deref.ensures.value at c.in-Err.ensures in
    rw c.insert.ensures.items (cond_both _ _ _ IsMap
    (λ ok. Rises-insert c.args.key c.args.value 0 c.self.inside.pairs.items end_rank c.in-Err.index c.self.invariant (omega arith) (rank-lt_end c.args.key) search.absent search.index)
    (λ err. c.self.invariant))

pub returns-in-Ok : goal.returns-in-Ok
returns-in-Ok c =
    let found = rw c.deref.ensures.value at c.in-Ok.ensures.value in
    record {
      inserted = tt;
      absent = tt;
      duplicate = (λ _. rw (← c.self.view_is) (is_some-found c.args.key c.self.inside.pairs.items c.in-Ok.field-0 found), λ _. refl);
      never_missing = λ missing. cc;
      unchanged = search;
      ascends = rw (← c.self.view_is) c.self.invariant;
    }

pub returns-after-insert : goal.returns-after-insert
returns-after-insert c =
    let there = rw c.deref.ensures.value at c.in-Err.ensures in
    let absent = rw c.self.view_is at there.absent in
    elim c.match-insert.branch [
      | in-Ok-insert w ↦ rw w.result-is (record {
        inserted = rw (w.in-Ok-insert.ensures.items, ← c.self.view_is) (insert-index c.args.key c.args.value c.self.inside.pairs.items c.in-Err.index there.index);
        absent = absent;
        duplicate = (λ duplicate. cc, λ some. let no = rw absent at some in cc);
        never_missing = λ missing. cc;
        unchanged = tt;
        ascends = invariant_of-self c;
      })
      | in-Err-insert w ↦ rw w.result-is (record {
        inserted = tt;
        absent = tt;
        duplicate = (λ duplicate. cc, λ some. let no = rw absent at some in cc);
        never_missing = λ missing. cc;
        unchanged = search;
        ascends = invariant_of-self c;
      })
    ]
