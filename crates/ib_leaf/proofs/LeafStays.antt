-- The leaf on which a session stands: what its image says, and that harmless entries leave it as it is, the key's leaf still.
use Rattle.std.specs.List.{AllByRecursion}
use Rattle.std.proofs.Common.{◌≡◌, ℕ, ◌<◌, ◌^◌, true, false, List, ◌++◌, length, Some, sym, ap, subst, ◌∙◌, arith}
use Rattle.ib_map.specs.Keys.{MapKey}
use Rattle.ib_map.specs.Pairs.{value_at}
use Rattle.ib_map.specs.Space.{has_pages}
use Rattle.ib_map.specs.Writes.{touches}
use Rattle.ib_map.proofs.KeyLaws.{rank-lt_end}
use Rattle.ib_page.specs.Form.{page_of}
use Rattle.ib_page.specs.Image.{IsTreePage, clock_of, records_of}
use Rattle.ib_page.specs.Work.{changed_of}
use Rattle.ib_layout.specs.Geometry.{Sizes}
use Rattle.ib_logrec.specs.declared.entry.Entry.{Entry}
use Rattle.ib_logrec.specs.Log.{memory_after, map_of, by_place}
use Rattle.ib_walk.specs.Pages.{PageState, Tree}
use Rattle.ib_walk.specs.Trees.{height_of}
use Rattle.ib_walk.specs.Words.{image_of, bits_of, state_of}
use Rattle.ib_walk.proofs.ChoiceLaws.{Some-same}
use Rattle.ib_walk.proofs.ImageLaws.{image_of-list, pages_of-image}
use Rattle.ib_plans.proofs.EditLaws.{state-clock, state-records}
use Rattle.ib_plans.proofs.PathLaws.{PathPage}
use Rattle.ib_tree.specs.Logs.{pages_after}
use Rattle.ib_tree.specs.TreeLog.{opening}
use Rattle.ib_planned_log.specs.Kept.{IsKeptLog}
use Rattle.ib_planned_log.specs.KeptLog.{IsKeptLog-front, IsKeptLog-stays}
use Rattle.ib_planned_log.specs.LeafChange.{kept_pages, leaf_after}
use Rattle.ib_planned_log.proofs.ClockLaws.{clock-le}
use Rattle.ib_planned_log.proofs.LeafChangeLaws.{in-leaf}
use Rattle.ib_planned_log.proofs.LeafPlanLaws.{leaf-page}
use Rattle.ib_planned_log.proofs.PushLaws.{lawful-before}
use Rattle.ib_rule.specs.Pass.{PassState}
use Rattle.ib_rule.specs.Stores.{IsHarmless}
use Rattle.ib_rule.proofs.Watching.{untouched}
use Rattle.ib_cursor.specs.OnPath.{IsOnPath}
use Rattle.ib_cursor.specs.Laws.{Laws}
use Rattle.ib_cursor.proofs.LogLaws.{path_stays}
use Rattle.ib_cursor.proofs.NextLaws.{there_in}
use Rattle.ib_cursor.proofs.PageLaws.{IsTreeImage, tree_image}
use Rattle.ib_cursor.proofs.StepLaws.{image_stays}
use Rattle.ib_cursor.proofs.OnPathLaws.{leaf_on-path}
use Rattle.ib_leaf.specs.Leaf.{IsAtLeaf, leaf_page, the_leaf}

-- kept logs keep the laws of trees
pub kept-laws : (pages : ℕ) → has_pages pages ≡ true → Laws pages 1 (IsKeptLog pages) (by_place opening pages)
kept-laws pages fits = record {
  begins = IsKeptLog-front pages;
  memory = λ log kept. lawful-before pages fits log kept;
  stays = λ xs e page r kept calm met. (IsKeptLog-stays pages xs e page r kept calm).1 met;
}

module _ (sizes : Sizes) (fits : has_pages sizes.pages ≡ true) (key : MapKey) (leaf : ℕ) (p : PassState) (at : IsAtLeaf sizes key leaf p) where
  abbrev start : ℕ → ℕ
  start = by_place opening sizes.pages

  abbrev seen : List Entry
  seen = p.view.memory.seen

  pub image-is : image_of (memory_after start seen) leaf ≡ at.image
  image-is = image_of-list (memory_after start seen) leaf at.image at.size (λ index lt. sym (at.is_page index lt))

  pub loaded : changed_of leaf p.work ≡ Some at.image
  loaded = ap (changed_of leaf) at.work ∙ there_in leaf at.image

  pub image-got : (ws : List ℕ) → changed_of leaf p.work ≡ Some ws → ws ≡ at.image
  image-got ws got = Some-same ws at.image (sym got ∙ loaded)

  -- the page of the key's leaf is what the image says
  pub page-is : leaf_page sizes key p ≡ state_of (page_of at.image)
  page-is =
      ap (kept_pages sizes.pages seen) (sym at.is_leaf)
      ∙ (pages_of-image (memory_after start seen) leaf ∙ ap (λ (ws : List ℕ). state_of (page_of ws)) image-is)

  on_path-page : PathPage (kept_pages sizes.pages seen) 0 1 (the_leaf sizes key p)
  on_path-page =
      let memory = lawful-before sizes.pages fits seen at.known.legal in
      leaf-page (kept_pages sizes.pages seen) (bits_of sizes.pages (memory_after start seen)) 1 memory.law key (rank-lt_end key) 1 (omega arith) (omega arith)

  in-tree : IsTreeImage (memory_after start seen) leaf
  in-tree = tree_image (memory_after start seen) leaf (subst (λ n. (kept_pages sizes.pages seen n).kind ≡ Tree) (sym at.is_leaf) on_path-page.kind)

  pub leaf-tree : IsTreePage at.image
  leaf-tree = subst IsTreePage image-is in-tree.tree

  pub records-are : records_of at.image ≡ (leaf_page sizes key p).records
  records-are = sym (ap (λ (q : PageState). q.records) page-is ∙ state-records (page_of at.image))

  -- its clock may rise
  pub clock-low : length seen < 2 ^ 31 → clock_of at.image < 2 ^ 63
  clock-low few =
      let le = clock-le sizes.pages fits seen (the_leaf sizes key p) on_path-page.some at.known.legal in
      let same : (leaf_page sizes key p).clock ≡ clock_of at.image = ap (λ (q : PageState). q.clock) page-is ∙ state-clock (page_of at.image) in
      omega arith

  -- behind harmless entries of others
  module _ (n : ℕ) (others : List Entry) (harmless : AllByRecursion (IsHarmless n p.view.memory.since) others) (legal : IsKeptLog sizes.pages (seen ++ others)) where
    calm : AllByRecursion (λ e. touches leaf e.writes ≡ false) others
    calm = untouched n leaf p.view.memory.since others at.watched harmless

    pub leaf-stays : leaf ≡ leaf_after sizes.pages (seen ++ others) key
    leaf-stays =
        let on : IsOnPath (pages_after start seen) 1 key leaf 0 = record { depth = height_of (pages_after start seen) 1; height = omega arith; below = sym at.is_leaf } in
        leaf_on-path (pages_after start (seen ++ others)) 1 key leaf
        (path_stays sizes.pages 1 (IsKeptLog sizes.pages) start (kept-laws sizes.pages fits) 1 (omega arith) (omega arith) key (rank-lt_end key) seen others leaf 0 legal calm on)

    pub image-stays : image_of (memory_after start (seen ++ others)) leaf ≡ at.image
    image-stays = image_stays start seen others leaf calm ∙ image-is

    -- the page of the key's leaf is the same
    pub page-stays : kept_pages sizes.pages (seen ++ others) (leaf_after sizes.pages (seen ++ others) key) ≡ leaf_page sizes key p
    page-stays =
        ap (kept_pages sizes.pages (seen ++ others)) (sym leaf-stays)
        ∙ (pages_of-image (memory_after start (seen ++ others)) leaf ∙ (ap (λ (ws : List ℕ). state_of (page_of ws)) image-stays ∙ sym page-is))

    -- so what the leaf has of the key is what the map has
    pub value-stays : value_at key (map_of (seen ++ others)) ≡ value_at key (leaf_page sizes key p).records
    value-stays = in-leaf sizes.pages fits (seen ++ others) legal key ∙ ap (λ (q : PageState). value_at key q.records) page-stays
