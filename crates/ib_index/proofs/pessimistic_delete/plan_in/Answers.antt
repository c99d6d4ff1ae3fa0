-- The plan changes images of pages that are held, and leaves them as they were read.
use Rattle.std.specs.Prelude.{IsErr, IsSome, OnOk, ◌↔◌}
use Rattle.std.proofs.Common.{rules, ◌≡◌, ◌∙◌, List, Option, None, Result, Ok, Err, refl, ap, sym, subst}
use Rattle.ib_map.specs.Pairs.{value_at}
use Rattle.ib_page.specs.Work.{WorkPage}
use Rattle.ib_plans.specs.Agreement.{last_of, memory_in, reads_of}
use Rattle.ib_merge.specs.Deletes.{IsPlannedDeleteForAll}
use Rattle.ib_index.proofs.GrowLaws.{planned-mtr}
use Rattle.ib_index.proofs.pessimistic_delete.plan_in.Goals as goal

pub returns-clause-still : goal.returns-clause-still
returns-clause-still g c = record {
  mtr = planned-mtr c.args.mtr.now.latches.now c.args.mtr.now.pass.now c.plan_delete.new.work c.requires.mtr (c.plan_delete.ensures.reads ∙ ap reads_of c.work-work.ensures.work);
  latches = search rules;
  pass = search rules;
}

-- what is refused only where nothing is there is done where something is
done : {A B E : Type 0} (r : Result A E) (P : Type 0) (o : Option B) → OnOk r P → (IsErr r ↔ (o ≡ None)) → IsSome o → P
done (Ok x) P o ok missing there = ok
done (Err e) P o ok missing there = absurd (let bad = subst IsSome (missing.0 refl) there in cc)

pub returns-clause-planned : goal.returns-clause-planned
returns-clause-planned g c =
    let path = c.args.path.now in let key = c.args.key in let read = c.work-work.result.now in let work = c.plan_delete.new.work in
    let same = c.work-work.ensures.work in
    let there = subst (λ (old : List WorkPage). IsSome (value_at key (memory_in old (last_of path)).records)) (sym same) c.requires.there in
    let planned = done c.plan_delete.result (IsPlannedDeleteForAll path key read work) (value_at key (memory_in read (last_of path)).records) c.plan_delete.ensures.planned c.plan_delete.ensures.missing there in
    (work, refl, subst (λ (old : List WorkPage). IsPlannedDeleteForAll path key old work) same planned, c.plan_delete.ensures.reads ∙ ap reads_of same, search rules)
