-- A chunk has no more pairs than a page has records, and where it ends below the scan's last key, the tree has the key at its end.
use Rattle.std.proofs.Common.{◌≡◌, ◌≢◌, inl, inr, ℕ, ◌<◌, ◌≤◌, List, [], ◌∷◌, ◌++◌, None, length, append_assoc, refl, sym, ap, subst, ◌∙◌, arith, append-nil}
use Rattle.std.specs.List.{AllByRecursion}
use Rattle.std.proofs.lemmas.Bool.{cases_eq, eq-eqb, ne_eqb}
use Rattle.ib_map.specs.Keys.{MapKey, rank, end_rank}
use Rattle.ib_map.specs.Pairs.{Pairs, cut, value_at}
use Rattle.ib_map.proofs.CutLaws.{cut-append, cut-above}
use Rattle.ib_heap.specs.declared.TheConstants.{MOST_RECORDS}
use Rattle.ib_page.specs.Page.{PageValue}
use Rattle.ib_heap.proofs.CopyLaws.{length-cut}
use Rattle.ib_heap.proofs.FormLaws.{kinds_of, Kinds}
use Rattle.ib_heap.proofs.FormLaws.Kinds.{tree, free, neither}
use Rattle.ib_walk.specs.Pages.{PageMemory}
use Rattle.ib_walk.specs.Walk.{Visit, records_along, IsLeafAt, IsTiled}
use Rattle.ib_walk.specs.Trees.{height_of, content_of, IsTreeOf}
use Rattle.ib_walk.specs.Words.{state_of, image_of, pages_of}
use Rattle.ib_page.specs.Form.{page_of}
use Rattle.ib_walk.specs.Chunk.{IsLastKey, EndsAt, IsChunk}
use Rattle.ib_walk.proofs.SearchLaws.{IsTiled-right, Rises-records_along}
use Rattle.ib_walk.proofs.TreeLaws.{IsTiled-leaves}
use Rattle.ib_walk.proofs.WalkLaws.{AllByRecursion-right, records_along-append}
use Rattle.ib_scan.proofs.ChunkLaws.{cut-passed}
use Rattle.ib_scan.proofs.KeyLaws.{last_between}

-- no page has more records
pub pages_short : (words : ℕ → ℕ) (page : ℕ) → length (pages_of words page).records ≤ MOST_RECORDS
unfolding pages_of
pages_short words page = short (kinds_of (image_of words page))
  where
    short : Kinds (image_of words page) → length (state_of (page_of (image_of words page))).records ≤ MOST_RECORDS
    short (tree h) = subst (λ (v : PageValue). length (state_of v).records ≤ MOST_RECORDS) (sym h.holds) h.fits.few
    short (free h) = subst (λ (v : PageValue). length (state_of v).records ≤ MOST_RECORDS) (sym h.holds) (omega arith)
    short (neither h) = subst (λ (v : PageValue). length (state_of v).records ≤ MOST_RECORDS) (sym h) (omega arith)

-- a key that stands among pairs is found there
value_at-among : (key : MapKey) (xs : Pairs) (value : ℕ) (ys : Pairs) → value_at key (xs ++ (key, value) ∷ ys) ≢ None
value_at-among key [] value ys none = let e = eq-eqb (rank key) (rank key) refl in let bad = rw e at none in cc
value_at-among key (x ∷ xs) value ys none = elim (cases_eq (rank x.0) (rank key)) [
  | inl e ↦ let bad = rw (eq-eqb (rank x.0) (rank key) e) at none in cc
  | inr ne ↦ value_at-among key xs value ys (rw (ne_eqb (rank x.0) (rank key) ne) at none)
]

module _ (m : PageMemory) (root : ℕ) (start high end : MapKey) (pairs : Pairs) (c : IsChunk m root start high end pairs) where
  content : content_of m root ≡ records_along m c.front ++ ((m c.leaf.page).records ++ records_along m c.back)
  content = ap (records_along m) c.at.leaves ∙ records_along-append m c.front (c.leaf ∷ c.back)

  last-here : (back : List Visit) → EndsAt (m c.leaf.page).records back high end → rank end < rank high → IsLastKey (m c.leaf.page).records end
  last-here [] ends lt = let e : rank end ≡ rank high = ap rank ends in absurd (omega arith)
  last-here (next ∷ back) ends lt = elim ends.2 [
    | inl a ↦ let e : rank end ≡ rank high = ap rank a.1 in absurd (omega arith)
    | inr b ↦ subst (IsLastKey (m c.leaf.page).records) (sym b.1) ends.1
  ]

  -- the tree has the key at which a chunk ends below the scan's last key
  pub chunk_end : rank end < rank high → value_at end (content_of m root) ≢ None
  chunk_end lt none =
      let l = last-here c.back c.ends lt in
      let records : (m c.leaf.page).records ≡ l.0 ++ (end, l.1) ∷ [] = l.2 in
      let all : content_of m root ≡ (records_along m c.front ++ l.0) ++ (end, l.1) ∷ records_along m c.back =
      content ∙ (ap (λ xs. records_along m c.front ++ (xs ++ records_along m c.back)) records
      ∙ (ap (λ xs. records_along m c.front ++ xs) (append_assoc l.0 ((end, l.1) ∷ []) (records_along m c.back)) ∙ sym (append_assoc (records_along m c.front) l.0 ((end, l.1) ∷ records_along m c.back)))) in
      value_at-among end (records_along m c.front ++ l.0) l.1 (records_along m c.back) (sym (ap (value_at end) all) ∙ none)

  module _ (t : IsTreeOf m (height_of m root) root) (short : length (m c.leaf.page).records ≤ MOST_RECORDS) where
    tiled : IsTiled c.leaf.high c.back end_rank
    tiled = IsTiled-right 0 c.front c.leaf c.back end_rank (subst (λ vs. IsTiled 0 vs end_rank) c.at.leaves (IsTiled-leaves m root t))

    leaves : AllByRecursion (IsLeafAt m) (c.leaf ∷ c.back)
    leaves = AllByRecursion-right (IsLeafAt m) c.front (c.leaf ∷ c.back) (subst (AllByRecursion (IsLeafAt m)) c.at.leaves t.tree.leaves)

    behind : (back : List Visit) → IsTiled c.leaf.high back end_rank → AllByRecursion (IsLeafAt m) back → IsLeafAt m c.leaf → EndsAt (m c.leaf.page).records back high end → cut (records_along m back) start end ≡ []
    behind [] tiles are here ends = refl
    behind (next ∷ back) tiles are here ends =
        let top = (last_between c.leaf.low (m c.leaf.page).records c.leaf.high ends.0 here.within ends.1).1 in
        let lt : rank end < c.leaf.high = elim ends.2 [
          | inl a ↦ let e : rank end ≡ rank high = ap rank a.1 in let f = a.0 in omega arith
          | inr b ↦ let e : rank end ≡ rank ends.0 = ap rank b.1 in omega arith
        ] in
        cut-above c.leaf.high (records_along m (next ∷ back)) end_rank start end (Rises-records_along m c.leaf.high (next ∷ back) end_rank are tiles) lt

    -- a chunk is read off one leaf
    pub chunk_short : length pairs ≤ MOST_RECORDS
    chunk_short =
        let none = behind c.back tiled leaves.1 leaves.0 c.ends in
        let is : pairs ≡ cut (m c.leaf.page).records start end =
        c.holds ∙ (ap (λ xs. cut xs start end) content
        ∙ (cut-append (records_along m c.front) ((m c.leaf.page).records ++ records_along m c.back) start end
        ∙ (ap (λ xs. xs ++ cut ((m c.leaf.page).records ++ records_along m c.back) start end) (cut-passed m c.front start end c.at.passed)
        ∙ (cut-append (m c.leaf.page).records (records_along m c.back) start end
        ∙ (ap (λ xs. cut (m c.leaf.page).records start end ++ xs) none ∙ append-nil (cut (m c.leaf.page).records start end)))))) in
        let few = length-cut (m c.leaf.page).records start end in
        let e : length pairs ≡ length (cut (m c.leaf.page).records start end) = ap length is in omega arith
