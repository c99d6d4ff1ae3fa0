-- With all held that it reads and writes, a delete from both trees may be planned, and then be committed.
use Rattle.std.specs.List.{AllByRecursion}
use Rattle.std.proofs.Common.{◌≡◌, ℕ, ◌<◌, ◌≤◌, ◌^◌, ◌∙◌, true, List, ◌∷◌, Option, Some, length, map, sym, ap, subst, arith}
use Rattle.ib_map.specs.Keys.{MapKey}
use Rattle.ib_map.specs.Map.{IsMap, delete_answer, is_made}
use Rattle.ib_map.specs.Pairs.{value_at}
use Rattle.ib_map.specs.declared.call.Change.{Change}
use Rattle.ib_map.specs.declared.call.Change.TheVariants.{Delete}
use Rattle.ib_second_key.specs.SecondChanges.{value_or_zero}
use Rattle.ib_second_key.specs.SecondKeys.{IsPrimaryPair, second_key_of}
use Rattle.ib_second_key.proofs.SecondMapLaws.{primary-at, second-without}
use Rattle.ib_levels.specs.declared.level.Level.{Level}
use Rattle.ib_levels.specs.declared.level.Level.TheVariants.{Log}
use Rattle.ib_levels.specs.Level.{may_follow}
use Rattle.ib_layout.specs.Geometry.{Sizes}
use Rattle.ib_page.specs.Work.{WorkPage, IsWork}
use Rattle.ib_logrec.specs.declared.entry.Entry.{Entry}
use Rattle.ib_logrec.specs.Log.{map_of}
use Rattle.ib_walk.proofs.TreeLaws.{Rises-content_of}
use Rattle.ib_plans.specs.Agreement.{Agrees, last_of, memory_in}
use Rattle.ib_merge.specs.Deletes.{HasDeleteImages}
use Rattle.ib_rule.specs.Pass.{PassState}
use Rattle.ib_rule.specs.Views.{total}
use Rattle.ib_mtr.specs.Commits.{MayCommit}
use Rattle.ib_mtr.specs.Mtr.{with_work}
use Rattle.ib_cursor.specs.Claims.{claim_grant}
use Rattle.ib_cursor.specs.Grants.{Grant}
use Rattle.ib_pair_law.specs.PairKept.{IsPairLog}
use Rattle.ib_pair_law.proofs.PushLaws.{first-before, lawful-before, primary-before, second-before}
use Rattle.ib_pair_change.specs.PairCommits.{IsPlannedBoth}
use Rattle.ib_pair_change.specs.PairPlans.{CanDeletePair, IsPlannedPairDelete}
use Rattle.ib_pair_change.proofs.BehindLaws.{leaf-content}
use Rattle.ib_pair_change.proofs.PairBothDeletes.{both-delete}
use Rattle.ib_second.specs.PairReady.{bits_seen, pages_seen}
use Rattle.ib_index.specs.Grows.{held_grant}
use Rattle.ib_leaf.specs.Leaf.{IsSeated}
use Rattle.ib_second.specs.Stands.{StandsOnPair}
use Rattle.ib_second.proofs.PairMay.{may-commit}
use Rattle.ib_second.proofs.PairTicks.{may-tick-twice}
use Rattle.ib_second.proofs.StandLaws.{agrees-first, agrees-other}

module _ (sizes : Sizes) (key : MapKey) (value : ℕ) (path path2 : List ℕ) (held : List (ℕ × Level)) (p : PassState) (seated : IsSeated sizes p) (stands : StandsOnPair sizes key path (second_key_of key value) path2 held p)
    (images : HasDeleteImages path key p.work) (other_images : HasDeleteImages path2 (second_key_of key value) p.work) (found : value_at key (memory_in p.work (last_of path)).records ≡ Some value) where
  abbrev seen : List Entry
  seen = p.view.memory.seen

  abbrev key2 : MapKey
  key2 = second_key_of key value

  pub agrees1 : Agrees sizes.pages 2 1 key path p.work (pages_seen sizes p) (bits_seen sizes p)
  agrees1 = agrees-first sizes seated.fits key path key2 path2 held p stands

  pub agrees2 : Agrees sizes.pages 2 2 key2 path2 p.work (pages_seen sizes p) (bits_seen sizes p)
  agrees2 = agrees-other sizes seated.fits key path key2 path2 held p stands

  -- the map has the pair
  pub pair-there : value_at key (map_of seen) ≡ Some value
  pair-there =
      ap (value_at key) (sym (first-before sizes.pages seated.fits seen stands.known.legal))
      ∙ (leaf-content sizes.pages 2 1 key path p.work (pages_seen sizes p) (bits_seen sizes p) agrees1 images.path_there ∙ found)

  map-is : IsMap (map_of seen)
  map-is =
      let law = (lawful-before sizes.pages seated.fits seen stands.known.legal).law in
      subst IsMap (first-before sizes.pages seated.fits seen stands.known.legal) (Rises-content_of (pages_seen sizes p) 1 (law.trees 1 (omega arith) (omega arith)).0)

  pub pair-primary : IsPrimaryPair key value
  pair-primary = primary-at key value 0 (map_of seen) map-is (primary-before sizes.pages seen stands.known.legal) pair-there

  -- so the second tree has the pair's key
  pub there2 : value_at key2 (memory_in p.work (last_of path2)).records ≡ Some 0
  there2 =
      sym (leaf-content sizes.pages 2 2 key2 path2 p.work (pages_seen sizes p) (bits_seen sizes p) agrees2 other_images.path_there)
      ∙ (ap (value_at key2) (second-before sizes.pages seated.fits seen stands.known.legal)
      ∙ (second-without key value 0 (map_of seen) map-is (primary-before sizes.pages seen stands.known.legal) pair-there).1)

  abbrev pub delete-can : CanDeletePair path key value path2 p.work
  delete-can = record {
    pages = sizes.pages;
    memory = pages_seen sizes p;
    bits = bits_seen sizes p;
    first = agrees1;
    other = agrees2;
    images = images;
    other_images = other_images;
    found = found;
    other_found = there2;
    clocks = may-tick-twice sizes seated.fits key path key2 path2 held p stands seated.few;
  }

  pub delete-may : (work : List WorkPage) → IsPlannedPairDelete path key value path2 p.work work → IsWork work
      → total p.view.grants < 2 ^ 52 → length held ≤ 25 → AllByRecursion (λ (g : Grant). may_follow g.level Log ≡ true) (claim_grant ∷ map held_grant held)
      → MayCommit (IsPairLog sizes.pages) (with_work work p) (Delete key)
  delete-may work planned is-work few short follow =
      may-commit sizes key path key2 path2 held p stands seated few short follow (Delete key) pair-primary.0
      (ap (λ (o : Option ℕ). is_made (delete_answer o)) pair-there) planned.middle work
      (subst (λ (c : Change). IsPlannedBoth sizes.pages (pages_seen sizes p) (bits_seen sizes p) (Delete key) c p.work planned.middle work)
      (ap (λ (o : Option ℕ). let c : Change = Delete (second_key_of key (value_or_zero o)) in c) (sym pair-there)) (both-delete path key value path2 p.work work delete-can planned))
      (planned.second_reads ∙ planned.first_reads) is-work
