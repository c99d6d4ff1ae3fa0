-- An insert that is planned on the images of what is held may be committed.
use Rattle.std.specs.List.{AllByRecursion}
use Rattle.std.specs.Prelude.{is_some}
use Rattle.std.proofs.Common.{◌≤◌, ◌≡◌, ℕ, ◌<◌, ◌^◌, true, cond, List, ◌∷◌, Option, None, length, map, ap, ◌∙◌}
use Rattle.ib_map.specs.Keys.{MapKey}
use Rattle.ib_map.specs.Map.{is_made}
use Rattle.ib_map.specs.Pairs.{value_at}
use Rattle.ib_map.specs.declared.call.Change.TheVariants.{Insert}
use Rattle.ib_map.specs.declared.call.Reply.TheVariants.{Duplicate, Inserted}
use Rattle.ib_levels.specs.declared.level.Level.{Level}
use Rattle.ib_levels.specs.declared.level.Level.TheVariants.{Log}
use Rattle.ib_levels.specs.Level.{may_follow}
use Rattle.ib_layout.specs.Geometry.{Sizes}
use Rattle.ib_page.specs.Work.{WorkPage, IsWork}
use Rattle.ib_plans.specs.Agreement.{last_of, memory_in, reads_of}
use Rattle.ib_split.specs.Inserts.{IsPlannedInsertForAll}
use Rattle.ib_planned_log.specs.Kept.{IsKeptLog}
use Rattle.ib_rule.specs.Pass.{PassState}
use Rattle.ib_rule.specs.Views.{total}
use Rattle.ib_mtr.specs.Commits.{MayCommit}
use Rattle.ib_mtr.specs.Mtr.{with_work}
use Rattle.ib_cursor.specs.Claims.{claim_grant}
use Rattle.ib_cursor.specs.Grants.{Grant}
use Rattle.ib_index.specs.Grows.{IsFreshForAll, IsGrowing, held_grant, most_held}
use Rattle.ib_leaf.specs.Leaf.{IsSeated}
use Rattle.ib_planned_change.proofs.ChangeLaws.{insert-planned}
use Rattle.ib_index.proofs.PathMay.{may-commit}

module _ (sizes : Sizes) (key : MapKey) (path : List ℕ) (held : List (ℕ × Level)) (p : PassState) (can : IsGrowing sizes key path held p) (seated : IsSeated sizes p)
    (few : total p.view.grants < 2 ^ 52) (short : length held ≤ most_held) (follow : AllByRecursion (λ (g : Grant). may_follow g.level Log ≡ true) (claim_grant ∷ map held_grant held))
    (value : ℕ) (fresh : List ℕ) (fresh-are : IsFreshForAll sizes.pages key path fresh p.work) (missing : value_at key (memory_in p.work (last_of path)).records ≡ None)
    (work : List WorkPage) (planned : IsPlannedInsertForAll path fresh key value p.work work) (reads : reads_of work ≡ reads_of p.work) (is-work : IsWork work) where
  pub may-grow : MayCommit (IsKeptLog sizes.pages) (with_work work p) (Insert key value)
  may-grow = may-commit sizes key path held p can seated few short follow (Insert key value)
      (λ log same. ap (λ (o : Option ℕ). is_made (cond (is_some o) Duplicate Inserted)) (same ∙ missing)) work
      (λ memory bits a. let f = fresh-are memory bits a in insert-planned sizes.pages key value fresh memory bits p.work work f.0 f.1 (planned sizes.pages 1 1 memory bits a f.1)) reads is-work
