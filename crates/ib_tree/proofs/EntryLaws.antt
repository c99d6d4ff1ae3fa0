-- An entry behind a lawful log passes its test exactly where it is a tree's entry, and the test leaves where its pages are met.
use Rattle.std.proofs.Common.{◌≡◌, ℕ, ◌<◌, Bool, true, false, List, [], ◌∷◌, ◌++◌, sym, ap, subst, ◌∙◌, arith}
use Rattle.ib_map.specs.Keys.{end_rank}
use Rattle.ib_map.specs.Pairs.{Pairs, Rises, value_at}
use Rattle.ib_map.specs.Map.{key_of}
use Rattle.ib_map.proofs.KeyLaws.{rank-lt_end}
use Rattle.ib_map.proofs.MapLaws.{IsMap-effect_of}
use Rattle.ib_logrec.specs.declared.entry.Entry.{Entry}
use Rattle.ib_logrec.specs.Log.{memory_after, map_of}
use Rattle.ib_page.specs.Space.{IsSpacePage}
use Rattle.ib_walk.specs.Pages.{PageMemory}
use Rattle.ib_walk.specs.Walk.{Visit}
use Rattle.ib_walk.specs.Trees.{height_of, content_of, IsTreeOf, IsLawful}
use Rattle.ib_walk.specs.Words.{image_of, pages_of, bits_of, IsLawfulMemory}
use Rattle.ib_validate.specs.Patch.{slice, IsGoodAt}
use Rattle.ib_validate.specs.PatchTest.{Positions, fresh_of, IsKeptBeside}
use Rattle.ib_tree.specs.Logs.{pages_after, IsTreeEntry}
use Rattle.ib_tree.specs.Tests.{writes_page, IsEntryGiven, PassesEntry}
use Rattle.ib_walk.proofs.TreeLaws.{Rises-content_of}
use Rattle.ib_tree.proofs.KeptLaws.{AreKept-ranges, ranges-AreKept}
use Rattle.ib_tree.proofs.LogLaws.{image_of-untouched, IsLawfulMemory-after, content_of-after, made-last, map_of-push, pages_after-untouched, slice-effect_of, touches-within, value_at-effect_of}
use Rattle.ib_tree.proofs.PatchTheorem.{IsGrounded-passes, test-complete, test-sound}
use Rattle.ib_tree.proofs.PatchedLaws.{most_height-lt, written-cases}
use Rattle.ib_tree.proofs.SliceLaws.{IsOutside, IsSliced-content_of, content_of-sliced}

module _ (pages roots : ℕ) (some : 0 < roots) (opening : ℕ → ℕ) (opens : IsLawfulMemory pages roots opening) (empty : content_of (pages_of opening) 1 ≡ [])
    (front : List Entry) (e : Entry) (good : ℕ → Visit → Bool) (ps : List ℕ) (old : Positions) (given : IsEntryGiven pages roots opening front e good ps old) where
  abbrev m : PageMemory
  m = pages_after opening front

  abbrev new : PageMemory
  new = pages_after opening (front ++ e ∷ [])

  abbrev bits : ℕ → ℕ
  bits = bits_of pages (memory_after opening front)

  abbrev after : ℕ → ℕ
  after = bits_of pages (memory_after opening (front ++ e ∷ []))

  abbrev target : Pairs
  target = map_of (front ++ e ∷ [])

  law : IsLawful m bits roots
  law = let a = IsLawfulMemory-after pages roots opening opens empty front given.lawful in a.law

  same : (page : ℕ) → writes_page e page ≡ false → new page ≡ m page
  same page none = pages_after-untouched opening front e page none

  few : (page : ℕ) → writes_page e page ≡ true → page < pages
  few page touched = touches-within pages e.writes given.grammar.places page touched

  tree : IsTreeOf m (height_of m 1) 1
  tree = (law.trees 1 (omega arith) (omega arith)).0

  low : (m 1).level < 8
  low = let a = (law.trees 1 (omega arith) (omega arith)).1 in let b = most_height-lt roots in omega arith

  content : content_of m 1 ≡ map_of front
  content = content_of-after pages roots opening opens empty front given.lawful

  rises-front : Rises 0 (map_of front) end_rank
  rises-front = subst (λ xs. Rises 0 xs end_rank) content (Rises-content_of m 1 tree)

  rises : Rises 0 target end_rank
  rises = subst (λ xs. Rises 0 xs end_rank) (sym (map_of-push front e)) (IsMap-effect_of (map_of front) e.change rises-front)

  elsewhere : (lo hi : ℕ) → IsOutside (key_of e.change) lo hi → slice target lo hi ≡ slice (content_of m 1) lo hi
  elsewhere lo hi out =
      ap (λ xs. slice xs lo hi) (map_of-push front e) ∙ (slice-effect_of (map_of front) e.change lo hi out ∙ ap (λ xs. slice xs lo hi) (sym content))

  differs : value_at (key_of e.change) target ≡ value_at (key_of e.change) (content_of m 1) → ⊥
  differs is = value_at-effect_of (map_of front) e.change rises-front (made-last front e given.legal)
      (ap (value_at (key_of e.change)) (sym (map_of-push front e)) ∙ (is ∙ ap (value_at (key_of e.change)) content))

  -- page 0 is the space page where it is that or isn't written
  space : (writes_page e 0 ≡ true → IsSpacePage pages (image_of (memory_after opening (front ++ e ∷ [])) 0)) → IsSpacePage pages (image_of (memory_after opening (front ++ e ∷ [])) 0)
  space is = written-cases (writes_page e) 0 (IsSpacePage pages (image_of (memory_after opening (front ++ e ∷ [])) 0)) is (λ none.
      let before = IsLawfulMemory-after pages roots opening opens empty front given.lawful in
      subst (IsSpacePage pages) (sym (image_of-untouched opening front e 0 none)) before.space)

  -- what passes is a tree's entry, and the positions that are left are those of the pages after it
  pub IsTreeEntry-passes : (table : Positions) → PassesEntry pages roots opening front e good ps old table
      → IsTreeEntry pages roots opening front e × IsKeptBeside (pages_after opening (front ++ e ∷ [])) roots pages table
  IsTreeEntry-passes table passes =
      let is : (h : ℕ) (v : Visit) → good h v ≡ true → IsGoodAt new h v = λ h v. (given.tells h v).0 in
      let found = test-sound (writes_page e) m new same bits after roots law pages few old given.kept ps given.listed good is table passes.patch in
      let grounded = IsGrounded-passes (writes_page e) m new same bits after roots law pages few old given.kept ps given.listed good is table passes.patch 1 (omega arith) (omega arith) in
      let level : (new 1).level < 8 = (let a = passes.patch.levels 1 (omega arith) (omega arith) in let b = most_height-lt roots in omega arith) in (
        record {
          lawful = record { space = space passes.space; law = found.0 };
          content = content_of-sliced (writes_page e) m new same 1 tree low (fresh_of ps table 1) grounded level (key_of e.change) target rises elsewhere passes.content;
          others = AreKept-ranges (writes_page e) m new roots found.1;
        },
        found.2,
      )

  -- a tree's entry passes
  pub passes-IsTreeEntry : IsTreeEntry pages roots opening front e → (table : Positions) × PassesEntry pages roots opening front e good ps old table
  passes-IsTreeEntry entry =
      let is : (h : ℕ) (v : Visit) → good h v ≡ true → IsGoodAt new h v = λ h v. (given.tells h v).0 in
      let so : (h : ℕ) (v : Visit) → IsGoodAt new h v → good h v ≡ true = λ h v. (given.tells h v).1 in
      let stay = ranges-AreKept (writes_page e) m new roots bits after law entry.lawful.law entry.others in
      let found = test-complete (writes_page e) m new same bits after roots law pages few old given.kept ps given.listed good so entry.lawful.law stay in
      let grounded = IsGrounded-passes (writes_page e) m new same bits after roots law pages few old given.kept ps given.listed good is found.0 found.1 1 (omega arith) (omega arith) in
      let level : (new 1).level < 8 = (let a = found.1.levels 1 (omega arith) (omega arith) in let b = most_height-lt roots in omega arith) in
      let now = (entry.lawful.law.trees 1 (omega arith) (omega arith)).0 in (
        found.0,
        record {
          space = λ w. entry.lawful.space;
          patch = found.1;
          content = IsSliced-content_of (writes_page e) m new same 1 tree low (fresh_of ps found.0 1) grounded level (key_of e.change) target rises elsewhere
              (rank-lt_end (key_of e.change)) now differs entry.content;
        },
      )
