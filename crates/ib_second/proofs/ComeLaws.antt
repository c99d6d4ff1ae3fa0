-- The descent comes to both paths.
use Rattle.std.specs.Prelude.{◌||◌}
use Rattle.std.proofs.Common.{◌≡◌, ◌∙◌, ℕ, ◌+◌, ◌≤◌, Bool, true, false, List, ◌++◌, refl, arith}
use Rattle.std.proofs.lemmas.List.Folds.{list_any-append}
use Rattle.std.specs.Prelude.{◌==◌}
use Rattle.ib_map.specs.Keys.{MapKey}
use Rattle.ib_map.specs.Space.{has_pages}
use Rattle.ib_layout.specs.Geometry.{Sizes}
use Rattle.ib_logrec.specs.Log.{by_place}
use Rattle.ib_plans.specs.Agreement.{Agrees, IsThere}
use Rattle.ib_walk.specs.Trees.{height_of}
use Rattle.ib_split.proofs.OnPathLaws.{path-length}
use Rattle.ib_tree.specs.PageLists.{is_listed}
use Rattle.ib_rule.specs.Pass.{PassState}
use Rattle.ib_rule.specs.Views.{total}
use Rattle.ib_cursor.specs.Pairs.{HasClaimedPair}
use Rattle.ib_mtr.proofs.Lists.{or_true}
use Rattle.ib_pair_law.specs.Opening.{pair_opening}
use Rattle.ib_pair_law.specs.PairKept.{IsPairLog}
use Rattle.ib_second.specs.PairComes.{HasComeToPair}
use Rattle.ib_second.specs.PairReady.{bits_seen, pages_seen}
use Rattle.ib_index.specs.Grows.{tree_pages}
use Rattle.ib_second.specs.Stands.{StandsOnPair}
use Rattle.ib_second.specs.PathImages.{HasPathImages}
use Rattle.ib_second.proofs.ClaimedPair.{held-there, stands-held}
use Rattle.ib_second.proofs.StandLaws.{agrees-first, agrees-other}
use Rattle.ib_second.proofs.PathImages.{path-images}

or-first : (a b : Bool) → a ≡ true → (a || b) ≡ true
or-first true b is = refl
or-first false b is = cc

module _ (sizes : Sizes) (fits : has_pages sizes.pages ≡ true) (key : MapKey) (path : List ℕ) (key2 : MapKey) (path2 : List ℕ) (p q : PassState)
    (c : HasClaimedPair sizes (IsPairLog sizes.pages) (by_place pair_opening sizes.pages) 1 key path 2 key2 path2 p q) where
  standing : StandsOnPair sizes key path key2 path2 (tree_pages (c.held ++ c.other_held)) q
  standing = stands-held sizes fits key path key2 path2 (c.held ++ c.other_held) q c.holds c.once c.on_path c.on_other_path

  first-there : (n : ℕ) → is_listed c.held n ≡ true → IsThere q.work n
  first-there n among = held-there sizes fits key path key2 path2 (c.held ++ c.other_held) q c.holds n (list_any-append (λ (k : ℕ). k == n) c.held c.other_held ∙ or-first (is_listed c.held n) (is_listed c.other_held n) among)

  other-there : (n : ℕ) → is_listed c.other_held n ≡ true → IsThere q.work n
  other-there n among = held-there sizes fits key path key2 path2 (c.held ++ c.other_held) q c.holds n (list_any-append (λ (k : ℕ). k == n) c.held c.other_held ∙ or_true (is_listed c.held n) (is_listed c.other_held n) among)

  agrees1 : Agrees sizes.pages 2 1 key path q.work (pages_seen sizes q) (bits_seen sizes q)
  agrees1 = agrees-first sizes fits key path key2 path2 (tree_pages (c.held ++ c.other_held)) q standing

  agrees2 : Agrees sizes.pages 2 2 key2 path2 q.work (pages_seen sizes q) (bits_seen sizes q)
  agrees2 = agrees-other sizes fits key path key2 path2 (tree_pages (c.held ++ c.other_held)) q standing

  images1 : HasPathImages path c.held q.work
  images1 = path-images sizes.pages 1 key path c.held q.work (pages_seen sizes q) (bits_seen sizes q) agrees1 c.leaves first-there

  images2 : HasPathImages path2 c.other_held q.work
  images2 = path-images sizes.pages 2 key2 path2 c.other_held q.work (pages_seen sizes q) (bits_seen sizes q) agrees2 c.other_leaves other-there

  few-grants : total q.view.grants ≤ total p.view.grants + 21
  few-grants =
      let s = c.s in let sx = c.sx in let x = c.x in let a = images1.few in let b = images2.few in
      let l = path-length sizes.pages 2 1 key path q.work (pages_seen sizes q) (bits_seen sizes q) agrees1 in
      let m = path-length sizes.pages 2 2 key2 path2 q.work (pages_seen sizes q) (bits_seen sizes q) agrees2 in
      let h : height_of (pages_seen sizes q) 1 ≤ 3 = (agrees1.lawful.trees 1 (omega arith) (omega arith)).1 in
      let k : height_of (pages_seen sizes q) 2 ≤ 3 = (agrees1.lawful.trees 2 (omega arith) (omega arith)).1 in omega arith

  pub has-come : HasComeToPair sizes key path key2 path2 p q
  has-come = record {
    held = c.held;
    other_held = c.other_held;
    stands = standing;
    images = images1;
    other_images = images2;
    once = c.once;
    met = c.met;
    other_met = c.other_met;
    went = c.went;
    looked = c.looked;
    claims = c.sx;
    grants = few-grants;
  }
