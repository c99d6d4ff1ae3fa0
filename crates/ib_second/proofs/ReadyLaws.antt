-- With all held that it reads and writes, an insert into both trees may be planned, and then be committed.
use Rattle.std.specs.List.{AllByRecursion}
use Rattle.std.specs.Prelude.{is_some}
use Rattle.std.proofs.Common.{◌≡◌, ℕ, ◌<◌, ◌≤◌, ◌^◌, ◌∙◌, true, cond, List, ◌∷◌, Option, None, length, map, sym, ap}
use Rattle.ib_map.specs.Keys.{MapKey}
use Rattle.ib_map.specs.Map.{is_made}
use Rattle.ib_map.specs.Pairs.{value_at}
use Rattle.ib_map.specs.declared.call.Change.TheVariants.{Insert}
use Rattle.ib_map.specs.declared.call.Reply.TheVariants.{Duplicate, Inserted}
use Rattle.ib_levels.specs.declared.level.Level.{Level}
use Rattle.ib_levels.specs.declared.level.Level.TheVariants.{Log}
use Rattle.ib_levels.specs.Level.{may_follow}
use Rattle.ib_layout.specs.Geometry.{Sizes}
use Rattle.ib_page.specs.Work.{WorkPage, IsWork}
use Rattle.ib_logrec.specs.declared.entry.Entry.{Entry}
use Rattle.ib_logrec.specs.Log.{map_of}
use Rattle.ib_plans.specs.Agreement.{Agrees, last_of, memory_in}
use Rattle.ib_rule.specs.Pass.{PassState}
use Rattle.ib_rule.specs.Views.{total}
use Rattle.ib_mtr.specs.Commits.{MayCommit}
use Rattle.ib_mtr.specs.Mtr.{with_work}
use Rattle.ib_cursor.specs.Claims.{claim_grant}
use Rattle.ib_cursor.specs.Grants.{Grant}
use Rattle.ib_pair_law.specs.PairKept.{IsPairLog}
use Rattle.ib_second_key.specs.SecondKeys.{IsPrimaryPair, second_key_of}
use Rattle.ib_pair_law.proofs.PushLaws.{first-before, primary-before, second-before}
use Rattle.ib_second_key.proofs.SecondMapLaws.{second-absent}
use Rattle.ib_pair_change.specs.PairPlans.{CanInsertPair, IsPlannedPair}
use Rattle.ib_second.specs.PairReady.{IsPairReady, bits_seen, pages_seen}
use Rattle.ib_index.specs.Grows.{held_grant}
use Rattle.ib_leaf.specs.Leaf.{IsSeated}
use Rattle.ib_pair_change.proofs.BehindLaws.{leaf-content}
use Rattle.ib_pair_change.proofs.PairBoth.{both-insert}
use Rattle.ib_second.proofs.PairMay.{may-commit}
use Rattle.ib_second.proofs.PairTicks.{may-tick-twice}
use Rattle.ib_second.proofs.StandLaws.{agrees-first, agrees-other}

module _ (sizes : Sizes) (key : MapKey) (value : ℕ) (primary : IsPrimaryPair key value) (path fresh path2 fresh2 : List ℕ) (held : List (ℕ × Level)) (p : PassState) (seated : IsSeated sizes p)
    (r : IsPairReady sizes key value path fresh path2 fresh2 held p) where
  abbrev seen : List Entry
  seen = p.view.memory.seen

  abbrev key2 : MapKey
  key2 = second_key_of key value

  pub agrees1 : Agrees sizes.pages 2 1 key path p.work (pages_seen sizes p) (bits_seen sizes p)
  agrees1 = agrees-first sizes seated.fits key path key2 path2 held p r.stands

  pub agrees2 : Agrees sizes.pages 2 2 key2 path2 p.work (pages_seen sizes p) (bits_seen sizes p)
  agrees2 = agrees-other sizes seated.fits key path key2 path2 held p r.stands

  -- the map does not have the key
  absent : value_at key (map_of seen) ≡ None
  absent =
      ap (value_at key) (sym (first-before sizes.pages seated.fits seen r.stands.known.legal))
      ∙ (leaf-content sizes.pages 2 1 key path p.work (pages_seen sizes p) (bits_seen sizes p) agrees1 r.images.path_there ∙ r.missing)

  -- so the second tree does not have the pair's key
  pub absent2 : value_at key2 (memory_in p.work (last_of path2)).records ≡ None
  absent2 =
      sym (leaf-content sizes.pages 2 2 key2 path2 p.work (pages_seen sizes p) (bits_seen sizes p) agrees2 r.other_images.path_there)
      ∙ (ap (value_at key2) (second-before sizes.pages seated.fits seen r.stands.known.legal)
      ∙ second-absent key value (map_of seen) primary (primary-before sizes.pages seen r.stands.known.legal) absent)

  abbrev pub ready-can : CanInsertPair path fresh key value path2 fresh2 p.work
  ready-can = record {
    pages = sizes.pages;
    memory = pages_seen sizes p;
    bits = bits_seen sizes p;
    first = agrees1;
    other = agrees2;
    fresh_are = r.fresh_are;
    other_fresh_are = r.other_fresh_are;
    enough = r.enough;
    low = r.low;
    other_low = r.other_low;
    images = r.images;
    other_images = r.other_images;
    missing = r.missing;
    other_missing = absent2;
    clocks = may-tick-twice sizes seated.fits key path key2 path2 held p r.stands seated.few;
  }

  pub ready-may : (work : List WorkPage) → IsPlannedPair path fresh key value path2 fresh2 p.work work → IsWork work
      → total p.view.grants < 2 ^ 52 → length held ≤ 25 → AllByRecursion (λ (g : Grant). may_follow g.level Log ≡ true) (claim_grant ∷ map held_grant held)
      → MayCommit (IsPairLog sizes.pages) (with_work work p) (Insert key value)
  ready-may work planned is-work few short follow =
      may-commit sizes key path key2 path2 held p r.stands seated few short follow (Insert key value) primary
      (ap (λ (o : Option ℕ). is_made (cond (is_some o) Duplicate Inserted)) absent) planned.middle work
      (both-insert path fresh key value path2 fresh2 p.work work ready-can planned)
      (planned.second_reads ∙ planned.first_reads) is-work
