-- While the index is claimed and each page of the work set watched, the work set agrees with the memory behind whatever harmless entries of others.
use Rattle.std.specs.List.{All, AllByRecursion}
use Rattle.std.specs.Prelude.{IsSome, IfSome}
use Rattle.std.proofs.Common.{◌≡◌, inl, inr, ℕ, true, cond, List, [], ◌∷◌, ◌++◌, Option, Some, None, refl, sym, ap, subst, ◌∙◌, arith, append-nil}
use Rattle.std.proofs.lemmas.Bool.{cases_eq, eq-eqb, ne_eqb}
use Rattle.std.proofs.lemmas.Bool.Decides.{nat_tests}
use Rattle.std.proofs.lemmas.List.Elements.{All-head, All-tail}
use Rattle.ib_map.specs.Keys.{MapKey}
use Rattle.ib_map.specs.Space.{has_pages}
use Rattle.ib_map.proofs.KeyLaws.{rank-lt_end}
use Rattle.ib_page.specs.Form.{page_of}
use Rattle.ib_page.specs.Space.{IsSpacePage}
use Rattle.ib_page.specs.Work.{WorkPage, changed_of}
use Rattle.ib_layout.specs.Geometry.{Sizes}
use Rattle.ib_logrec.specs.declared.entry.Entry.{Entry}
use Rattle.ib_logrec.specs.Grammar.{IsInGrammar}
use Rattle.ib_logrec.specs.Log.{memory_after, by_place}
use Rattle.ib_walk.specs.Pages.{PageMemory}
use Rattle.ib_walk.specs.Words.{image_of, bits_of, pages_of, state_of}
use Rattle.ib_walk.proofs.ImageLaws.{image_of-list, pages_of-image}
use Rattle.ib_walk.proofs.WalkLaws.{AllByRecursion-right}
use Rattle.ib_plans.specs.Agreement.{Agrees, HasBits, bits_in, state_or_free, path_of}
use Rattle.ib_tree.specs.TreeLog.{opening}
use Rattle.ib_planned_log.specs.Kept.{IsKeptLog}
use Rattle.ib_planned_log.specs.KeptLog.{IsKeptLog-stays}
use Rattle.ib_planned_log.specs.LeafChange.{kept_pages}
use Rattle.ib_planned_log.proofs.PushLaws.{lawful-before}
use Rattle.ib_rule.specs.Pass.{PassState}
use Rattle.ib_rule.specs.Stores.{IsHarmless}
use Rattle.ib_rule.proofs.Watching.{untouched}
use Rattle.ib_cursor.specs.Shapes.{ShapeLaws, AreSingle}
use Rattle.ib_cursor.specs.Takings.{IsHeldPage}
use Rattle.ib_cursor.proofs.ClaimLaws.{singles}
use Rattle.ib_cursor.proofs.LogLaws.{tree_of-log}
use Rattle.ib_cursor.proofs.ReadLaws.{path_same}
use Rattle.ib_cursor.proofs.ShapeLaws.{single_path}
use Rattle.ib_cursor.proofs.StepLaws.{image_stays}
use Rattle.ib_cursor.proofs.EndLaws.{all-read}
use Rattle.ib_index.specs.Grows.{HoldsPath}
use Rattle.ib_leaf.proofs.LeafStays.{kept-laws}

-- kept logs keep the laws of the shapes of trees
pub kept-shapes : (pages : ℕ) → has_pages pages ≡ true → ShapeLaws pages 1 (IsKeptLog pages) (by_place opening pages)
kept-shapes pages fits = record {
  laws = kept-laws pages fits;
  stayed = λ xs e page r kept calm met. (IsKeptLog-stays pages xs e page r kept calm).0 met;
  single = λ xs e kept. let lawful = kept.lawful in let g = AllByRecursion-right (IsInGrammar pages) xs (e ∷ []) lawful.grammar in g.0.structural;
}

-- the pages that words are, by the changed images of a work set that has them
pub still-in : (words : ℕ → ℕ) (page : ℕ) (ws : List WorkPage) → All (λ w. image_of words w.page ≡ w.changed) ws → IfSome (changed_of page ws) (λ image. image_of words page ≡ image)
still-in words page [] all = tt
still-in words page (w ∷ ws) all = elim (cases_eq w.page page) [
  | inl e ↦ subst (λ (o : Option (List ℕ)). IfSome o (λ image. image_of words page ≡ image)) (sym (ap (λ b. cond b (Some w.changed) (changed_of page ws)) (eq-eqb w.page page e)))
      (ap (image_of words) (sym e) ∙ All-head (λ w. image_of words w.page ≡ w.changed) w ws all)
  | inr ne ↦ subst (λ (o : Option (List ℕ)). IfSome o (λ image. image_of words page ≡ image)) (sym (ap (λ b. cond b (Some w.changed) (changed_of page ws)) (ne_eqb w.page page ne)))
      (still-in words page ws (All-tail (λ w. image_of words w.page ≡ w.changed) w ws all))
]

state-in : (words : ℕ → ℕ) (page : ℕ) (o : Option (List ℕ)) → IfSome o (λ image. image_of words page ≡ image) → IsSome o → state_or_free o ≡ pages_of words page
state-in words page None is there = cc
state-in words page (Some image) is there = sym (pages_of-image words page ∙ ap (λ (ws : List ℕ). state_of (page_of ws)) is)

bits-in : (pages : ℕ) (words : ℕ → ℕ) (page : ℕ) → bits_of pages words page ≡ bits_in pages (image_of words 0) page
unfolding bits_of
bits-in pages words page = refl

space-in : (pages : ℕ) (words : ℕ → ℕ) → IsSpacePage pages (image_of words 0) → (o : Option (List ℕ)) → IfSome o (λ image. image_of words 0 ≡ image) → IfSome o (HasBits pages (bits_of pages words))
space-in pages words space None is = tt
space-in pages words space (Some image) is = subst (HasBits pages (bits_of pages words)) is (space, bits-in pages words)

module _ (sizes : Sizes) (fits : has_pages sizes.pages ≡ true) (key : MapKey) (path : List ℕ) (p : PassState) (at : HoldsPath sizes key path p) where
  abbrev start : ℕ → ℕ
  start = by_place opening sizes.pages

  abbrev seen : List Entry
  seen = p.view.memory.seen

  -- behind harmless entries of others
  module _ (n : ℕ) (others : List Entry) (harmless : AllByRecursion (IsHarmless n p.view.memory.since) others) (legal : IsKeptLog sizes.pages (seen ++ others)) where
    abbrev m : PageMemory
    m = kept_pages sizes.pages (seen ++ others)

    calm : AreSingle others
    calm = singles n p.view.memory.since others at.claimed harmless

    -- the path of the key is what it was
    pub path-now : path ≡ path_of m key 1
    path-now =
        let shape = kept-shapes sizes.pages fits in
        let lt = rank-lt_end key in
        at.on_path ∙ sym (path_same (kept_pages sizes.pages seen) m 1 key
        (λ page level o. single_path sizes.pages 1 (IsKeptLog sizes.pages) start shape 1 (omega arith) (omega arith) key lt seen others page level legal calm o)
        (tree_of-log sizes.pages 1 (IsKeptLog sizes.pages) start shape.laws 1 (omega arith) (omega arith) (seen ++ others) legal) lt)

    -- .. and so is each image
    image-now : (w : WorkPage) → IsHeldPage start p w → image_of (memory_after start (seen ++ others)) w.page ≡ w.changed
    image-now w h =
        image_stays start seen others w.page (untouched n w.page p.view.memory.since others h.watched harmless)
        ∙ (image_of-list (memory_after start seen) w.page w.before h.read.size (λ index lt. sym (h.read.is_page index lt))
        ∙ sym h.read.unchanged)

    pub images-now : All (λ w. image_of (memory_after start (seen ++ others)) w.page ≡ w.changed) p.work
    images-now = all-read (IsHeldPage start p) (λ w. image_of (memory_after start (seen ++ others)) w.page ≡ w.changed) p.work image-now at.read

    pub images-before : All (λ w. image_of (memory_after start (seen ++ others)) w.page ≡ w.before) p.work
    images-before = all-read (IsHeldPage start p) (λ w. image_of (memory_after start (seen ++ others)) w.page ≡ w.before) p.work (λ w h. image-now w h ∙ h.read.unchanged) at.read

    pub agrees : Agrees sizes.pages 1 1 key path p.work m (bits_of sizes.pages (memory_after start (seen ++ others)))
    agrees =
        let memory = lawful-before sizes.pages fits (seen ++ others) legal in
        record {
          lawful = memory.law;
          few = grind (arith, nat_tests, fits);
          some = omega arith;
          within = omega arith;
          way = path-now;
          same = λ page ne there. state-in (memory_after start (seen ++ others)) page (changed_of page p.work) (still-in (memory_after start (seen ++ others)) page p.work images-now) there;
          space = space-in sizes.pages (memory_after start (seen ++ others)) memory.space (changed_of 0 p.work) (still-in (memory_after start (seen ++ others)) 0 p.work images-now);
        }

  -- .. and with the memory after all seen
  pub agrees-now : Agrees sizes.pages 1 1 key path p.work (kept_pages sizes.pages seen) (bits_of sizes.pages (memory_after start seen))
  agrees-now =
      subst (λ (log : List Entry). Agrees sizes.pages 1 1 key path p.work (kept_pages sizes.pages log) (bits_of sizes.pages (memory_after start log))) (append-nil seen)
      (agrees p.number [] tt (subst (IsKeptLog sizes.pages) (sym (append-nil seen)) at.known.legal))
