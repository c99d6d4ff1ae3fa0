-- All that a delete from both trees may change is taken: the pages of the first tree, after them those of the second, and page 0 after all.
use Rattle.std.specs.List.{AllByRecursion}
use Rattle.std.specs.Prelude.{IsSome, ◌||◌}
use Rattle.std.proofs.Common.{◌≡◌, ◌∙◌, inl, inr, ℕ, ◌+◌, ◌<◌, ◌≤◌, true, false, List, [], ◌∷◌, ◌++◌, Some, length, map, refl, sym, ap, subst, arith, append-nil, length-append}
use Rattle.std.proofs.lemmas.Bool.{cases_lt}
use Rattle.ib_map.specs.Keys.{MapKey}
use Rattle.ib_map.specs.Pairs.{value_at}
use Rattle.ib_map.specs.Space.{has_pages}
use Rattle.ib_second_key.specs.SecondKeys.{second_key_of}
use Rattle.ib_levels.specs.declared.level.Level.{Level}
use Rattle.ib_levels.specs.declared.level.Level.TheVariants.{Log, Space}
use Rattle.ib_levels.specs.Level.{may_follow}
use Rattle.ib_heap.specs.declared.TheConstants.{MOST_RECORDS}
use Rattle.ib_layout.specs.Geometry.{Sizes}
use Rattle.ib_logrec.specs.declared.entry.Entry.{Entry}
use Rattle.ib_logrec.specs.Log.{by_place}
use Rattle.ib_walk.specs.Pages.{PageState}
use Rattle.ib_walk.specs.Trees.{height_of, weight_of}
use Rattle.ib_walk.specs.Walk.{counts_page}
use Rattle.ib_plans.specs.Agreement.{Agrees, IsThere, last_of, memory_in, path_of}
use Rattle.ib_plans.proofs.MetLaws.{met-apart}
use Rattle.ib_merge.specs.Deletes.{HasDeleteImages}
use Rattle.ib_tree.specs.Logs.{pages_after}
use Rattle.ib_tree.specs.PageLists.{is_listed}
use Rattle.ib_rule.specs.declared.looks.Grants.{Grants}
use Rattle.ib_rule.specs.Pass.{PassState}
use Rattle.ib_rule.specs.Views.{total}
use Rattle.ib_cursor.specs.Claims.{claim_grant}
use Rattle.ib_cursor.specs.Going.{IsKnown}
use Rattle.ib_cursor.specs.Grants.{Grant}
use Rattle.ib_cursor.specs.OnPath.{IsOnPath}
use Rattle.ib_cursor.specs.Rows.{MayTakeRows}
use Rattle.ib_cursor.specs.Shapes.{HasIndex, HasReadPath}
use Rattle.ib_cursor.specs.Siblings.{IsPathWithSiblings}
use Rattle.ib_cursor.proofs.EndLaws.{holds_none}
use Rattle.ib_cursor.proofs.LatchingLaws.{went_both}
use Rattle.ib_cursor.proofs.OnPathLaws.{leaf_on-path}
use Rattle.ib_index.specs.Grows.{held_grant, space_pages, tree_pages}
use Rattle.ib_index.proofs.FreshLaws.{follow-log, length-all}
use Rattle.ib_index.proofs.HeldLaws.{among-both}
use Rattle.ib_mtr.proofs.Lists.{or_true}
use Rattle.ib_pair_law.specs.Opening.{pair_opening}
use Rattle.ib_pair_law.specs.PairKept.{IsPairLog}
use Rattle.ib_pair_law.proofs.PushLaws.{lawful-before}
use Rattle.ib_pair_change.proofs.BehindLaws.{last-way}
use Rattle.ib_second.specs.PairComes.{HasTakenRowsOfBoth, HasTakenTree}
use Rattle.ib_second.specs.PairReady.{bits_seen, pages_seen}
use Rattle.ib_second.specs.Stands.{HasTakenAt, StandsOnPair}
use Rattle.ib_second.proofs.ClaimedPair.{all-later, held-there, path-few, seen-same, stands-held}
use Rattle.ib_second.proofs.DeleteImages.{delete-images, held-few, held-none, leaf-same}
use Rattle.ib_second.proofs.StandLaws.{agrees-first, agrees-other}

-- the path of the key in the first tree was read before, and then that of the second key in the second tree, after one claim
pub record HasReadBoth (sizes : Sizes) (key : MapKey) (path : List ℕ) (leaf : ℕ) (key2 : MapKey) (path2 : List ℕ) (p r : PassState) : Type 0 where
  pub fits : has_pages sizes.pages ≡ true
  pub known : IsKnown sizes (IsPairLog sizes.pages) p
  pub on_path : path ≡ path_of (pages_seen sizes p) key 1
  pub lowest : IsOnPath (pages_seen sizes p) 1 key leaf 0
  pub leaf2 : ℕ
  pub left2 : ℕ
  pub read : HasReadPath sizes (IsPairLog sizes.pages) (by_place pair_opening sizes.pages) 2 key2 path2 leaf2 left2 p r

pub both-read : {sizes : Sizes} {key : MapKey} {path : List ℕ} {leaf : ℕ} {key2 : MapKey} {path2 : List ℕ} {p r : PassState} (leaf2 left2 : ℕ) → has_pages sizes.pages ≡ true → HasIndex sizes (IsPairLog sizes.pages) p
    → path ≡ path_of (pages_seen sizes p) key 1 → IsOnPath (pages_seen sizes p) 1 key leaf 0 → HasReadPath sizes (IsPairLog sizes.pages) (by_place pair_opening sizes.pages) 2 key2 path2 leaf2 left2 p r → HasReadBoth sizes key path leaf key2 path2 p r
both-read leaf2 left2 fits index on_path lowest read = record { fits = fits; known = index.known; on_path = on_path; lowest = lowest; leaf2 = leaf2; left2 = left2; read = read }

module _ {sizes : Sizes} {key : MapKey} {path : List ℕ} {leaf : ℕ} {key2 : MapKey} {path2 : List ℕ} {p r : PassState} (h : HasReadBoth sizes key path leaf key2 path2 p r) where
  abbrev start : ℕ → ℕ
  start = by_place pair_opening sizes.pages

  abbrev lawful : List Entry → Type 0
  lawful = IsPairLog sizes.pages

  seen-r : r.view.memory.seen ≡ p.view.memory.seen
  seen-r = seen-same sizes h.fits p r h.read.index.known h.read.keeps

  few1 : length path ≤ 4
  few1 = path-few sizes h.fits 1 (omega arith) (omega arith) key path p h.known.legal h.on_path

  pub few2 : length path2 ≤ 4
  few2 = path-few sizes h.fits 2 (omega arith) (omega arith) key2 path2 r h.read.index.known.legal h.read.on_path

  -- the first path is the key's still
  pub on-first : path ≡ path_of (pages_seen sizes r) key 1
  on-first = subst (λ log. path ≡ path_of (pages_after start log) key 1) (sym seen-r) h.on_path

  -- the rows of the first tree may be taken
  pub may-first : MayTakeRows sizes lawful start 1 path [] r
  may-first = record { holds = holds_none sizes lawful start r h.read.index; once = tt; apart = λ q known keeps. tt; few = let f = few1 in omega arith }

  -- .. and are, by what is said at the sizes of the call
  pub first-taken : (t1 : PassState) (old : Sizes) → old ≡ sizes → (MayTakeRows old (IsPairLog old.pages) (by_place pair_opening old.pages) 1 path [] r → HasTakenTree old [] 1 key path r t1) → HasTakenTree sizes [] 1 key path r t1
  first-taken t1 old same taken = subst (λ (s : Sizes). MayTakeRows s (IsPairLog s.pages) (by_place pair_opening s.pages) 1 path [] r → HasTakenTree s [] 1 key path r t1) same taken may-first

  -- the pages of the first tree are held
  module _ {t1 : PassState} (one : HasTakenTree sizes [] 1 key path r t1) where
    known1 : IsKnown sizes lawful t1
    known1 = one.taken.holds.known

    pub on-second : path2 ≡ path_of (pages_seen sizes t1) key2 2
    on-second = subst (λ log. path2 ≡ path_of (pages_after start log) key2 2) (sym (seen-same sizes h.fits r t1 known1 one.taken.keeps)) h.read.on_path

    stands1 : StandsOnPair sizes key path key2 path2 (tree_pages one.more) t1
    stands1 = stands-held sizes h.fits key path key2 path2 one.more t1 one.taken.holds one.once one.on_path on-second

    pub few-first : length one.more ≤ 11
    few-first = held-few sizes.pages 1 key path one.more t1.work (pages_seen sizes t1) (bits_seen sizes t1) (agrees-first sizes h.fits key path key2 path2 (tree_pages one.more) t1 stands1) one.siblings
        (held-there sizes h.fits key path key2 path2 one.more t1 one.taken.holds)

    -- what the first tree meets, the second does not
    unmet : (n : ℕ) → 0 < weight_of (counts_page n) (pages_seen sizes t1) 1 → weight_of (counts_page n) (pages_seen sizes t1) 2 ≡ 0
    unmet n met = elim (cases_lt 0 (weight_of (counts_page n) (pages_seen sizes t1) 2)) [
      | inl some ↦
          let law = (lawful-before sizes.pages h.fits t1.view.memory.seen known1.legal).law in
          absurd (met-apart (λ n. MOST_RECORDS) (pages_seen sizes t1) (bits_seen sizes t1) 2 law 2 (omega arith) (omega arith) 1 (omega arith) (omega arith) (λ e. omega arith) n n met (omega (arith, some)) refl)
      | inr none ↦ omega (arith, none)
    ]

    -- so the rows of the second tree may be taken behind them
    pub may-second : MayTakeRows sizes lawful start 2 path2 one.more t1
    may-second = record {
      holds = one.taken.holds;
      once = one.once;
      apart = λ q known keeps. subst (λ log. AllByRecursion (λ n. weight_of (counts_page n) (pages_after start log) 2 ≡ 0) one.more) (sym (seen-same sizes h.fits t1 q known keeps))
          (all-later (λ n. 0 < weight_of (counts_page n) (pages_seen sizes t1) 1) (λ n. weight_of (counts_page n) (pages_seen sizes t1) 2 ≡ 0) one.more unmet one.met);
      few = let f = few-first in let g = few2 in omega arith;
    }

    -- .. and are
    pub second-taken : (t2 : PassState) (old : Sizes) → old ≡ sizes → (MayTakeRows old (IsPairLog old.pages) (by_place pair_opening old.pages) 2 path2 one.more t1 → HasTakenTree old one.more 2 key2 path2 t1 t2) → HasTakenTree sizes one.more 2 key2 path2 t1 t2
    second-taken t2 old same taken = subst (λ (s : Sizes). MayTakeRows s (IsPairLog s.pages) (by_place pair_opening s.pages) 2 path2 one.more t1 → HasTakenTree s one.more 2 key2 path2 t1 t2) same taken may-second

    -- the pages of both trees are held
    module _ {t2 : PassState} (two : HasTakenTree sizes one.more 2 key2 path2 t1 t2) where
      abbrev pub pages-both : List ℕ
      pages-both = one.more ++ two.more

      seen2 : t2.view.memory.seen ≡ t1.view.memory.seen
      seen2 = seen-same sizes h.fits t1 t2 two.taken.holds.known two.taken.keeps

      pub stands-both : StandsOnPair sizes key path key2 path2 (tree_pages pages-both) t2
      stands-both = stands-held sizes h.fits key path key2 path2 pages-both t2 two.taken.holds two.once (subst (λ log. path ≡ path_of (pages_after start log) key 1) (sym seen2) one.on_path) two.on_path

      there2 : (n : ℕ) → is_listed pages-both n ≡ true → IsThere t2.work n
      there2 = held-there sizes h.fits key path key2 path2 pages-both t2 two.taken.holds

      first-among : (n : ℕ) → is_listed one.more n ≡ true → is_listed pages-both n ≡ true
      first-among n among = among-both one.more two.more n ∙ ap (λ b. b || is_listed two.more n) among

      second-among : (n : ℕ) → is_listed two.more n ≡ true → is_listed pages-both n ≡ true
      second-among n among = among-both one.more two.more n ∙ or_true (is_listed one.more n) (is_listed two.more n) among

      siblings1 : IsPathWithSiblings (pages_seen sizes t2) 1 key path one.more
      siblings1 = subst (λ log. IsPathWithSiblings (pages_after start log) 1 key path one.more) (sym seen2) one.siblings

      agrees1 : Agrees sizes.pages 2 1 key path t2.work (pages_seen sizes t2) (bits_seen sizes t2)
      agrees1 = agrees-first sizes h.fits key path key2 path2 (tree_pages pages-both) t2 stands-both

      agrees2 : Agrees sizes.pages 2 2 key2 path2 t2.work (pages_seen sizes t2) (bits_seen sizes t2)
      agrees2 = agrees-other sizes h.fits key path key2 path2 (tree_pages pages-both) t2 stands-both

      pub few-second : length two.more ≤ 11
      few-second = held-few sizes.pages 2 key2 path2 two.more t2.work (pages_seen sizes t2) (bits_seen sizes t2) agrees2 two.siblings (λ n among. there2 n (second-among n among))

      pub few-both : length pages-both ≤ 22
      few-both = let a = few-first in let b = few-second in let l = length-append one.more two.more in omega arith

      -- page 0 is none of them
      pub none-both : is_listed pages-both 0 ≡ false
      none-both =
          let none1 = held-none sizes.pages 1 key path one.more t2.work (pages_seen sizes t2) (bits_seen sizes t2) agrees1 siblings1 (λ n among. there2 n (first-among n among)) in
          let none2 = held-none sizes.pages 2 key2 path2 two.more t2.work (pages_seen sizes t2) (bits_seen sizes t2) agrees2 two.siblings (λ n among. there2 n (second-among n among)) in
          among-both one.more two.more 0 ∙ (ap (λ b. b || is_listed two.more 0) none1 ∙ none2)

      -- and page 0 is held behind them
      module _ {t3 : PassState} (last : HasTakenAt sizes key path key2 path2 (tree_pages pages-both) 0 Space t2 t3) where
        there3 : (n : ℕ) → is_listed pages-both n ≡ true → IsThere t3.work n
        there3 n among = let was = there2 n among in subst IsSome (sym (last.same n was)) was

        abbrev first-there : (n : ℕ) → is_listed one.more n ≡ true → IsThere t3.work n
        first-there = λ n among. there3 n (first-among n among)

        abbrev second-there : (n : ℕ) → is_listed two.more n ≡ true → IsThere t3.work n
        second-there = λ n among. there3 n (second-among n among)

        siblings3 : IsPathWithSiblings (pages_seen sizes t3) 1 key path one.more
        siblings3 = subst (λ log. IsPathWithSiblings (pages_after start log) 1 key path one.more) (sym last.seen) siblings1

        siblings4 : IsPathWithSiblings (pages_seen sizes t3) 2 key2 path2 two.more
        siblings4 = subst (λ log. IsPathWithSiblings (pages_after start log) 2 key2 path2 two.more) (sym last.seen) two.siblings

        agrees3 : Agrees sizes.pages 2 1 key path t3.work (pages_seen sizes t3) (bits_seen sizes t3)
        agrees3 = agrees-first sizes h.fits key path key2 path2 (space_pages pages-both) t3 last.stands

        agrees4 : Agrees sizes.pages 2 2 key2 path2 t3.work (pages_seen sizes t3) (bits_seen sizes t3)
        agrees4 = agrees-other sizes h.fits key path key2 path2 (space_pages pages-both) t3 last.stands

        images1 : HasDeleteImages path key t3.work
        images1 = delete-images sizes.pages 1 key path one.more t3.work (pages_seen sizes t3) (bits_seen sizes t3) agrees3 siblings3 first-there (λ some. last.there)

        images2 : HasDeleteImages path2 key2 t3.work
        images2 = delete-images sizes.pages 2 key2 path2 two.more t3.work (pages_seen sizes t3) (bits_seen sizes t3) agrees4 siblings4 second-there (λ some. last.there)

        -- the leaf of the first path is as it was when its value was read
        leaf-is : last_of path ≡ leaf
        leaf-is = ap last_of h.on_path ∙ (last-way (pages_seen sizes p) key (height_of (pages_seen sizes p) 1) 1 ∙ sym (leaf_on-path (pages_seen sizes p) 1 key leaf h.lowest))

        seen3 : t3.view.memory.seen ≡ p.view.memory.seen
        seen3 = last.seen ∙ (seen2 ∙ (seen-same sizes h.fits r t1 known1 one.taken.keeps ∙ seen-r))

        leaf-now : memory_in t3.work (last_of path) ≡ pages_seen sizes p leaf
        leaf-now =
            leaf-same sizes.pages 1 key path one.more t3.work (pages_seen sizes t3) (bits_seen sizes t3) agrees3 siblings3 first-there
            ∙ (ap (λ n. pages_seen sizes t3 n) leaf-is ∙ ap (λ (log : List Entry). pages_after start log leaf) seen3)

        follow : AllByRecursion (λ (g : Grant). may_follow g.level Log ≡ true) (claim_grant ∷ map held_grant (space_pages pages-both))
        follow = (refl, subst (λ (hs : List (ℕ × Level)). AllByRecursion (λ (g : Grant). may_follow g.level Log ≡ true) (map held_grant hs)) (append-nil (space_pages pages-both)) (follow-log pages-both []))

        grants-few : total t3.view.grants ≤ total p.view.grants + 32
        grants-few =
            let a = h.read.s in let b = h.read.sx in let c = h.read.x in let f = few2 in
            let d = one.taken.s in let e = one.taken.sx in let g = one.taken.x in let m = few-first in
            let i = two.taken.s in let j = two.taken.sx in let k = two.taken.x in let l = few-second in
            let x = ap (λ (v : Grants). v.x) last.grants in let y = ap (λ (v : Grants). v.s) last.grants in let z = ap (λ (v : Grants). v.sx) last.grants in omega arith

        -- so a delete of the pair may be planned
        pub taken-both : (value : ℕ) → key2 ≡ second_key_of key value → value_at key (pages_seen sizes p leaf).records ≡ Some value → HasTakenRowsOfBoth sizes key value path path2 p t3
        taken-both value second found = record {
          held = space_pages pages-both;
          stands = subst (λ (k : MapKey). StandsOnPair sizes key path k path2 (space_pages pages-both) t3) second last.stands;
          images = images1;
          other_images = subst (λ (k : MapKey). HasDeleteImages path2 k t3.work) second images2;
          found = ap (λ (s : PageState). value_at key s.records) leaf-now ∙ found;
          few = let f = few-both in let l = ap length (append-nil (space_pages pages-both)) in let n = length-all pages-both [] in omega arith;
          follow = follow;
          went = went_both p r t3 h.read.went (went_both r t1 t3 one.taken.went (went_both t1 t2 t3 two.taken.went last.went));
          claims = ap (λ (v : Grants). v.sx) last.grants ∙ (two.taken.sx ∙ (one.taken.sx ∙ h.read.sx));
          grants = grants-few;
        }
