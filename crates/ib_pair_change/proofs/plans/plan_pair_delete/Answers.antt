-- Both deletes are planned: both keys are there.
use Rattle.std.proofs.Common.{◌≡◌, ℕ, Option, None, Some, subst, sym, refl, ◌∙◌}
use Rattle.std.specs.Prelude.{◌↔◌, IsErr, OnOk, Result, Ok, Err}
use Rattle.ib_map.specs.Keys.{MapKey}
use Rattle.ib_map.specs.Pairs.{value_at}
use Rattle.ib_plans.specs.Agreement.{last_of, memory_in}
use Rattle.ib_plans.specs.declared.fault.TreeFault.{TreeFault}
use Rattle.ib_merge.specs.Deletes.{CanDelete, IsPlannedDeleteForAll}
use Rattle.ib_pair_change.proofs.PairDeletes.{can-first, can-second, found-second}
use Rattle.ib_pair_change.proofs.plans.plan_pair_delete.Goals as goal

-- what holds where no fault was found holds where the key is there
on-ok : (result : Result ℕ TreeFault) (P : Type 0) (o : Option ℕ) (value : ℕ) → OnOk result P → IsErr result ↔ (o ≡ None) → o ≡ Some value → P
on-ok (Ok x) P o value ok missing some = ok
on-ok (Err fault) P o value ok missing some = let none = missing.0 refl in absurd (cc)

pub plan_delete-requires : goal.plan_delete-requires
plan_delete-requires c = can-first c.args.paths.now.first c.args.key c.args.value c.args.paths.now.second c.args.work.now c.requires.can

pub plan_delete-requires-2 : goal.plan_delete-requires-2
plan_delete-requires-2 c =
    let planned = on-ok c.plan_delete.result (IsPlannedDeleteForAll c.args.paths.now.first c.args.key c.args.work.now c.plan_delete.new.work) _ c.args.value
    c.plan_delete.ensures.planned c.plan_delete.ensures.missing c.requires.can.found in
    subst (λ (k : MapKey). CanDelete c.args.paths.now.second k c.plan_delete.new.work) (sym c.second_key-second.ensures.key)
    (can-second c.args.paths.now.first c.args.key c.args.value c.args.paths.now.second c.args.work.now c.requires.can c.plan_delete.new.work planned)

pub returns : goal.returns
returns c =
    let planned = on-ok c.plan_delete.result (IsPlannedDeleteForAll c.args.paths.now.first c.args.key c.args.work.now c.plan_delete.new.work) _ c.args.value
    c.plan_delete.ensures.planned c.plan_delete.ensures.missing c.requires.can.found in
    let found = found-second c.args.paths.now.first c.args.key c.args.value c.args.paths.now.second c.args.work.now c.requires.can c.plan_delete.new.work planned ∙ c.requires.can.other_found in
    let there = subst (λ (k : MapKey). value_at k (memory_in c.plan_delete.new.work (last_of c.args.paths.now.second)).records ≡ Some 0) (sym c.second_key-second.ensures.key) found in
    let second = on-ok c.plan_delete-2.result (IsPlannedDeleteForAll c.args.paths.now.second c.second_key-second.result c.plan_delete.new.work c.plan_delete-2.new.work) _ 0
    c.plan_delete-2.ensures.planned c.plan_delete-2.ensures.missing there in
    record {
      middle = c.plan_delete.new.work;
      first = planned;
      second = subst (λ (k : MapKey). IsPlannedDeleteForAll c.args.paths.now.second k c.plan_delete.new.work c.plan_delete-2.new.work) c.second_key-second.ensures.key second;
      first_reads = c.plan_delete.ensures.reads;
      second_reads = c.plan_delete-2.ensures.reads;
    }
