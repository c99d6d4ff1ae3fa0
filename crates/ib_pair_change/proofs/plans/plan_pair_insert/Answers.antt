-- Both inserts are planned: neither key is there.
use Rattle.std.proofs.Common.{◌≡◌, ℕ, Option, None, sym, subst, refl}
use Rattle.std.specs.Prelude.{◌↔◌, IsErr, IsSome, OnOk, Result, Ok, Err}
use Rattle.ib_map.specs.Keys.{MapKey}
use Rattle.ib_map.specs.Pairs.{value_at}
use Rattle.ib_plans.specs.Agreement.{last_of, memory_in}
use Rattle.ib_plans.specs.declared.fault.TreeFault.{TreeFault}
use Rattle.ib_split.specs.Inserts.{CanInsert, IsPlannedInsertForAll}
use Rattle.ib_pair_change.proofs.PairInserts.{can-first, can-second, missing-second}
use Rattle.ib_pair_change.proofs.plans.plan_pair_insert.Goals as goal

-- what holds where no fault was found holds where the key isn't there
on-ok : (result : Result (Unit {0}) TreeFault) (P : Type 0) (o : Option ℕ) → OnOk result P → IsErr result ↔ IsSome o → o ≡ None → P
on-ok (Ok x) P o ok duplicate none = ok
on-ok (Err fault) P o ok duplicate none = let bad = subst IsSome none (duplicate.0 refl) in cc

pub plan_insert-requires : goal.plan_insert-requires
plan_insert-requires c = can-first c.args.paths.now.first c.args.fresh.now.first c.args.key c.args.value c.args.paths.now.second c.args.fresh.now.second c.args.work.now c.requires.can

pub plan_insert-requires-2 : goal.plan_insert-requires-2
plan_insert-requires-2 c =
    let planned = on-ok c.plan_insert.result (IsPlannedInsertForAll c.args.paths.now.first c.args.fresh.now.first c.args.key c.args.value c.args.work.now c.plan_insert.new.work) _
    c.plan_insert.ensures.planned c.plan_insert.ensures.duplicate c.requires.can.missing in
    subst (λ (k : MapKey). CanInsert c.args.paths.now.second c.args.fresh.now.second k c.plan_insert.new.work) (sym c.second_key-second.ensures.key)
    (can-second c.args.paths.now.first c.args.fresh.now.first c.args.key c.args.value c.args.paths.now.second c.args.fresh.now.second c.args.work.now c.requires.can c.plan_insert.new.work planned)

pub returns : goal.returns
returns c =
    let planned = on-ok c.plan_insert.result (IsPlannedInsertForAll c.args.paths.now.first c.args.fresh.now.first c.args.key c.args.value c.args.work.now c.plan_insert.new.work) _
    c.plan_insert.ensures.planned c.plan_insert.ensures.duplicate c.requires.can.missing in
    let missing = missing-second c.args.paths.now.first c.args.fresh.now.first c.args.key c.args.value c.args.paths.now.second c.args.fresh.now.second c.args.work.now c.requires.can c.plan_insert.new.work planned in
    let there = subst (λ (k : MapKey). value_at k (memory_in c.plan_insert.new.work (last_of c.args.paths.now.second)).records ≡ None) (sym c.second_key-second.ensures.key) missing in
    let second = on-ok c.plan_insert-2.result (IsPlannedInsertForAll c.args.paths.now.second c.args.fresh.now.second c.second_key-second.result 0 c.plan_insert.new.work c.plan_insert-2.new.work) _
    c.plan_insert-2.ensures.planned c.plan_insert-2.ensures.duplicate there in
    record {
      middle = c.plan_insert.new.work;
      first = planned;
      second = subst (λ (k : MapKey). IsPlannedInsertForAll c.args.paths.now.second c.args.fresh.now.second k 0 c.plan_insert.new.work c.plan_insert-2.new.work) c.second_key-second.ensures.key second;
      first_reads = c.plan_insert.ensures.reads;
      second_reads = c.plan_insert-2.ensures.reads;
    }
