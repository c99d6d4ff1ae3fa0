-- While the index of a pair is claimed: nothing of others is seen, and a session stands on both paths with whichever pages of the trees it holds.
use Rattle.std.specs.List.{AllByRecursion}
use Rattle.std.proofs.Common.{◌≡◌, ◌∙◌, ℕ, ◌<◌, ◌≤◌, true, List, [], ◌∷◌, ◌++◌, length, sym, ap, subst, arith, append-nil}
use Rattle.std.proofs.lemmas.List.{length-map}
use Rattle.ib_map.specs.Keys.{MapKey}
use Rattle.ib_map.specs.Space.{has_pages}
use Rattle.ib_levels.specs.declared.level.Level.TheVariants.{TreeNode}
use Rattle.ib_layout.specs.Geometry.{Sizes}
use Rattle.ib_logrec.specs.declared.entry.Entry.{Entry}
use Rattle.ib_logrec.specs.Grammar.{IsInGrammar}
use Rattle.ib_logrec.specs.Log.{by_place}
use Rattle.ib_walk.specs.Trees.{height_of}
use Rattle.ib_walk.proofs.WalkLaws.{AllByRecursion-right}
use Rattle.ib_plans.specs.Agreement.{IsThere, path_of}
use Rattle.ib_plans.proofs.PathListLaws.{length-path_down}
use Rattle.ib_tree.specs.PageLists.{AreOnce, is_listed}
use Rattle.ib_rule.specs.Pass.{PassState}
use Rattle.ib_cursor.specs.Claims.{claim_grant}
use Rattle.ib_cursor.specs.Going.{IsKnown}
use Rattle.ib_cursor.specs.Grants.{HasGrants}
use Rattle.ib_cursor.specs.Shapes.{KeepsClaim, ShapeLaws}
use Rattle.ib_cursor.specs.Takings.{HoldsClaimed}
use Rattle.ib_cursor.proofs.EndLaws.{loaded_some}
use Rattle.ib_index.specs.Grows.{tree_pages}
use Rattle.ib_index.proofs.ClaimedLaws.{grants-same, loaded-each, pages-same}
use Rattle.ib_index.proofs.HeldLaws.{each-among}
use Rattle.ib_pair_law.specs.Opening.{pair_opening}
use Rattle.ib_pair_law.specs.PairKept.{IsPairLog}
use Rattle.ib_pair_law.specs.PairLog.{IsPairLog-front, IsPairLog-stays}
use Rattle.ib_pair_law.proofs.PushLaws.{lawful-before}
use Rattle.ib_pair_change.proofs.SpanLaws.{alone}
use Rattle.ib_second.specs.PairReady.{pages_seen}
use Rattle.ib_second.specs.Stands.{StandsOnPair}

-- pair logs keep the laws of the shapes of trees
pub pair-shapes : (pages : ℕ) → has_pages pages ≡ true → ShapeLaws pages 2 (IsPairLog pages) (by_place pair_opening pages)
pair-shapes pages fits = record {
  laws = record {
    begins = IsPairLog-front pages;
    memory = λ log kept. lawful-before pages fits log kept;
    stays = λ xs e page r kept calm met. (IsPairLog-stays pages xs e page r kept calm).1 met;
  };
  stayed = λ xs e page r kept calm met. (IsPairLog-stays pages xs e page r kept calm).0 met;
  single = λ xs e kept. let lawful = kept.lawful in let g = AllByRecursion-right (IsInGrammar pages) xs (e ∷ []) lawful.grammar in g.0.structural;
}

-- what holds of each page of a list, where it follows from what holds of them
pub all-later : (P Q : ℕ → Type 0) (ns : List ℕ) → ((n : ℕ) → P n → Q n) → AllByRecursion P ns → AllByRecursion Q ns
all-later P Q [] so all = tt
all-later P Q (n ∷ ns) so all = (so n all.0, all-later P Q ns so all.1)

-- pages that are each there once are pages of the space
once-inside : (ns : List ℕ) (pages : ℕ) → AreOnce ns pages → AllByRecursion (λ n. n < pages) ns
once-inside [] pages once = tt
once-inside (n ∷ ns) pages once = (once.0, once-inside ns pages once.2)

module _ (sizes : Sizes) (fits : has_pages sizes.pages ≡ true) where
  abbrev start : ℕ → ℕ
  start = by_place pair_opening sizes.pages

  abbrev lawful : List Entry → Type 0
  lawful = IsPairLog sizes.pages

  -- nobody else writes
  pub seen-same : (p q : PassState) → IsKnown sizes lawful q → KeepsClaim p q → q.view.memory.seen ≡ p.view.memory.seen
  seen-same p q known keeps =
      let none = alone sizes.pages fits p.view.memory.seen keeps.more (subst lawful keeps.seen known.legal) keeps.single in
      keeps.seen ∙ (ap (λ es. p.view.memory.seen ++ es) none ∙ append-nil p.view.memory.seen)

  -- a path has four pages at most
  pub path-few : (root : ℕ) → 0 < root → root ≤ 2 → (key : MapKey) (path : List ℕ) (q : PassState) → lawful q.view.memory.seen → path ≡ path_of (pages_seen sizes q) key root → length path ≤ 4
  path-few root some le key path q legal on_path =
      let low : height_of (pages_seen sizes q) root ≤ 3 = ((lawful-before sizes.pages fits q.view.memory.seen legal).law.trees root some le).1 in
      let long = length-path_down (pages_seen sizes q) key (height_of (pages_seen sizes q) root) root in
      let same = ap length on_path in omega arith

  -- the session stands on both paths with these pages
  module _ (key : MapKey) (path : List ℕ) (key2 : MapKey) (path2 : List ℕ) (held : List ℕ) (q : PassState) (holds : HoldsClaimed sizes lawful start held q) where
    pub stands-held : AreOnce held sizes.pages → path ≡ path_of (pages_seen sizes q) key 1 → path2 ≡ path_of (pages_seen sizes q) key2 2 → StandsOnPair sizes key path key2 path2 (tree_pages held) q
    stands-held once on_path on_other_path = record {
      claimed = holds.claimed;
      read = holds.read;
      known = holds.known;
      on_path = on_path;
      on_other_path = on_other_path;
      grants = subst (λ gs. HasGrants (claim_grant ∷ gs) q) (grants-same held) holds.grants;
      loaded = λ n. holds.loaded n ∙ ap (λ ns. is_listed ns n) (sym (pages-same held));
      count = holds.count ∙ sym (length-map held (λ page. (page, TreeNode)));
      within = loaded-each (λ n. n < sizes.pages) q.work (λ n there. each-among (λ n. n < sizes.pages) held n (once-inside held sizes.pages once) (sym (holds.loaded n) ∙ there));
    }

    pub held-there : (n : ℕ) → is_listed held n ≡ true → IsThere q.work n
    held-there n among = (loaded_some n q.work).1 (holds.loaded n ∙ among)
