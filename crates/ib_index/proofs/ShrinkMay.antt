-- A delete that is planned on the images of what is held may be committed.
use Rattle.std.specs.List.{AllByRecursion}
use Rattle.std.proofs.Common.{◌≤◌, ◌≡◌, ℕ, ◌<◌, ◌^◌, true, List, ◌∷◌, Option, Some, length, map, ap, ◌∙◌}
use Rattle.ib_map.specs.Keys.{MapKey}
use Rattle.ib_map.specs.Map.{delete_answer, is_made}
use Rattle.ib_map.specs.Pairs.{value_at}
use Rattle.ib_map.specs.declared.call.Change.TheVariants.{Delete}
use Rattle.ib_levels.specs.declared.level.Level.{Level}
use Rattle.ib_levels.specs.declared.level.Level.TheVariants.{Log}
use Rattle.ib_levels.specs.Level.{may_follow}
use Rattle.ib_layout.specs.Geometry.{Sizes}
use Rattle.ib_page.specs.Work.{WorkPage, IsWork}
use Rattle.ib_plans.specs.Agreement.{last_of, memory_in, reads_of}
use Rattle.ib_merge.specs.Deletes.{IsPlannedDeleteForAll}
use Rattle.ib_planned_log.specs.Kept.{IsKeptLog}
use Rattle.ib_rule.specs.Pass.{PassState}
use Rattle.ib_rule.specs.Views.{total}
use Rattle.ib_mtr.specs.Commits.{MayCommit}
use Rattle.ib_mtr.specs.Mtr.{with_work}
use Rattle.ib_cursor.specs.Claims.{claim_grant}
use Rattle.ib_cursor.specs.Grants.{Grant}
use Rattle.ib_index.specs.Grows.{IsGrowing, held_grant, most_held}
use Rattle.ib_leaf.specs.Leaf.{IsSeated}
use Rattle.ib_planned_change.proofs.ChangeLaws.{delete-planned}
use Rattle.ib_index.proofs.PathMay.{may-commit}

module _ (sizes : Sizes) (key : MapKey) (path : List ℕ) (held : List (ℕ × Level)) (p : PassState) (can : IsGrowing sizes key path held p) (seated : IsSeated sizes p)
    (few : total p.view.grants < 2 ^ 52) (short : length held ≤ most_held) (follow : AllByRecursion (λ (g : Grant). may_follow g.level Log ≡ true) (claim_grant ∷ map held_grant held))
    (value : ℕ) (there : value_at key (memory_in p.work (last_of path)).records ≡ Some value)
    (work : List WorkPage) (planned : IsPlannedDeleteForAll path key p.work work) (reads : reads_of work ≡ reads_of p.work) (is-work : IsWork work) where
  pub may-shrink : MayCommit (IsKeptLog sizes.pages) (with_work work p) (Delete key)
  may-shrink = may-commit sizes key path held p can seated few short follow (Delete key)
      (λ log same. ap (λ (o : Option ℕ). is_made (delete_answer o)) (same ∙ there)) work
      (λ memory bits a. delete-planned sizes.pages key memory bits p.work work (planned sizes.pages 1 1 memory bits a)) reads is-work
