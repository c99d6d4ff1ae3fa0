-- A chunk, read off the leaf that gives it.
use Rattle.std.specs.List.{AllByRecursion}
use Rattle.std.proofs.Common.{◌≡◌, ◌≢◌, ◌⊎◌, inl, inr, ℕ, ◌+◌, ◌<◌, ◌≤◌, List, [], ◌∷◌, ◌++◌, refl, sym, ap, subst, ◌∙◌, arith, append-nil, append_assoc}
use Rattle.std.proofs.lemmas.Bool.{cases_lt}
use Rattle.ib_map.specs.Keys.{MapKey, rank, end_rank}
use Rattle.ib_map.specs.Pairs.{Pairs, Rises, cut}
use Rattle.ib_map.proofs.CutLaws.{cut-append, cut-above}
use Rattle.ib_page.specs.Image.{next_of, records_of}
use Rattle.ib_walk.specs.Pages.{PageMemory}
use Rattle.ib_walk.specs.Walk.{Visit, counts_page, sum_of, records_along, first_page, IsLeafAt, IsTiled}
use Rattle.ib_walk.specs.Trees.{content_of, height_of, leaves_of, IsTreeOf}
use Rattle.ib_walk.specs.Chunk.{IsLastKey, AreBelow, EndsAt, IsChunk}
use Rattle.ib_walk.proofs.MeetLaws.{counts_page-own}
use Rattle.ib_walk.proofs.SearchLaws.{AllByRecursion-at, IsTiled-right, Rises-records_along}
use Rattle.ib_walk.proofs.TreeLaws.{IsTiled-leaves}
use Rattle.ib_walk.proofs.WalkLaws.{AllByRecursion-append, AllByRecursion-right, records_along-append, sum_of-append}
use Rattle.ib_scan.specs.Walked.{ReadLeaf, EndsBy}
use Rattle.ib_scan.proofs.KeyLaws.{last_below, last_between, cut_below}
use Rattle.ib_scan.proofs.LatchingLaws.{AreMetOnce, Stands, IsSameLeaf, link_behind, stands_leaf}

-- leaves whose keys are below the start have nothing of the chunk
pub cut-passed : (m : PageMemory) (vs : List Visit) (start end : MapKey) → AllByRecursion (λ v. AreBelow start (m v.page).records) vs → cut (records_along m vs) start end ≡ []
cut-passed m [] start end below = refl
cut-passed m (v ∷ vs) start end below =
    cut-append (m v.page).records (records_along m vs) start end
    ∙ (ap (λ xs. xs ++ cut (records_along m vs) start end) (cut_below (m v.page).records start end below.0) ∙ cut-passed m vs start end below.1)

module _ (pages : ℕ) (m : PageMemory) (root : ℕ) (t : IsTreeOf m (height_of m root) root) (met : AreMetOnce pages m root) (start high end : MapKey) (ps : List ReadLeaf) (last : ReadLeaf) (s : Stands m root start ps last.page)
    (same : IsSameLeaf m last) where
  abbrev front : List Visit
  front = s.before ++ s.passed

  records : (m s.visit.page).records ≡ records_of last.image
  records = ap (λ k. (m k).records) s.here ∙ same.records

  link : next_of last.image ≡ first_page s.behind 0
  link = sym same.next ∙ link_behind m root t start ps last.page s

  -- a leaf that follows has a page that is not 0
  some-page : (x : Visit) (xs : List Visit) → s.behind ≡ x ∷ xs → x.page ≢ 0
  some-page x xs e z =
      let one = counts_page-own 0 0 x z in
      let rest : sum_of (counts_page 0 0) s.behind ≡ counts_page 0 0 x + sum_of (counts_page 0 0) xs = ap (sum_of (counts_page 0 0)) e in
      let a = ap (sum_of (counts_page 0 0)) s.is in
      let b = sum_of-append (counts_page 0 0) front (s.visit ∷ s.behind) in
      let none = met.none in absurd (omega arith)

  -- the leaf stops the chunk, and says where
  pub record IsStopped (back : List Visit) : Type 0 where
    pub stops : (back ≡ []) ⊎ ((last : MapKey) × IsLastKey (m s.visit.page).records last × (rank start ≤ rank last))
    pub ends : EndsAt (m s.visit.page).records back high end
    pub rest : (back ≡ []) ⊎ (rank end < s.visit.high)

  stopped : (vs : List Visit) → s.behind ≡ vs → EndsBy start high end last.image → IsStopped vs
  stopped [] e (inl a) = record { stops = inl refl; ends = a.1; rest = inl refl }
  stopped [] e (inr b) = absurd (b.1.some (link ∙ ap (λ ws. first_page ws 0) e))
  stopped (x ∷ xs) e (inl a) = absurd (some-page x xs e (sym (ap (λ ws. first_page ws 0) e) ∙ (sym link ∙ a.0)))
  stopped (x ∷ xs) e (inr b) =
      let is : IsLastKey (m s.visit.page).records b.0 = subst (λ rs. IsLastKey rs b.0) (sym records) b.1.is_last in
      let top = (last_between s.visit.low (m s.visit.page).records s.visit.high b.0 (stands_leaf m root t start ps last.page s).within is).1 in
      record {
        stops = inr (b.0, is, b.1.from);
        ends = (b.0, is, b.2);
        rest = inr (elim b.2 [
          | inl c ↦ let e : rank end ≡ rank high = ap rank c.1 in let f = c.0 in omega arith
          | inr c ↦ let e : rank end ≡ rank b.0 = ap rank c.1 in omega arith
        ]);
      }

  stop : EndsBy start high end last.image → IsStopped s.behind
  stop e = stopped s.behind refl e

  rest-rises : Rises s.visit.high (records_along m s.behind) end_rank
  rest-rises = Rises-records_along m s.visit.high s.behind end_rank
      (AllByRecursion-right (IsLeafAt m) front (s.visit ∷ s.behind) (subst (AllByRecursion (IsLeafAt m)) s.is t.tree.leaves)).1
      (IsTiled-right 0 front s.visit s.behind end_rank (subst (λ vs. IsTiled 0 vs end_rank) s.is (IsTiled-leaves m root t)))

  rest-none : IsStopped s.behind → cut (records_along m s.behind) start end ≡ []
  rest-none h = elim h.rest [
    | inl none ↦ ap (λ vs. cut (records_along m vs) start end) none
    | inr lt ↦ cut-above s.visit.high (records_along m s.behind) end_rank start end rest-rises lt
  ]

  pub chunk_read : EndsBy start high end last.image → IsChunk m root start high end (cut (records_of last.image) start end)
  chunk_read e =
      let h = stop e in
      record {
        front = front;
        leaf = s.visit;
        back = s.behind;
        at = record { leaves = s.is; passed = s.below; stops = h.stops };
        ends = h.ends;
        holds = sym (
            ap (λ vs. cut (records_along m vs) start end) s.is
            ∙ (ap (λ xs. cut xs start end) (records_along-append m front (s.visit ∷ s.behind))
            ∙ (cut-append (records_along m front) ((m s.visit.page).records ++ records_along m s.behind) start end
            ∙ (ap (λ xs. xs ++ cut ((m s.visit.page).records ++ records_along m s.behind) start end) (cut-passed m front start end s.below)
            ∙ (cut-append (m s.visit.page).records (records_along m s.behind) start end
            ∙ (ap (λ xs. cut (m s.visit.page).records start end ++ xs) (rest-none h)
            ∙ (append-nil (cut (m s.visit.page).records start end) ∙ ap (λ xs. cut xs start end) records)))))));
      }

  -- the leaf that gives it is the one on which the scan stands
  pub chunk_leaf : (e : EndsBy start high end last.image) → (chunk_read e).leaf.page ≡ last.page
  unfolding chunk_read
  chunk_leaf e = s.here

-- some records have a last key
last-key : (xs : Pairs) → (xs ≡ []) ⊎ ((key : MapKey) × IsLastKey xs key)
last-key [] = inl refl
last-key (x ∷ xs) = elim (last-key xs) [
  | inl none ↦ inr (x.0, ([], x.1, ap (λ (ps : Pairs). x ∷ ps) none))
  | inr some ↦ inr (some.0, (x ∷ some.1.0, some.1.1, ap (λ (ps : Pairs). x ∷ ps) some.1.2))
]

-- a chunk begins at any key
pub some_chunk : (m : PageMemory) (root : ℕ) → IsTreeOf m (height_of m root) root → (start high : MapKey) (front : List Visit) (v : Visit) (vs : List Visit) → leaves_of m root ≡ front ++ v ∷ vs
    → AllByRecursion (λ w. AreBelow start (m w.page).records) front → (end : MapKey) × IsChunk m root start high end (cut (content_of m root) start end)
some_chunk m root t start high front v [] is below =
    (high, record { front = front; leaf = v; back = []; at = record { leaves = is; passed = below; stops = inl refl }; ends = refl; holds = refl })
some_chunk m root t start high front v (x ∷ xs) is below = elim (last-key (m v.page).records) [
  | inl none ↦
      some_chunk m root t start high (front ++ v ∷ []) x xs (is ∙ sym (append_assoc front (v ∷ []) (x ∷ xs)))
      (AllByRecursion-append (λ (w : Visit). AreBelow start (m w.page).records) front (v ∷ []) below (subst (AreBelow start) (sym none) tt, tt))
  | inr last ↦ elim (cases_lt (rank last.0) (rank start)) [
    | inl lt ↦
        let leaf = AllByRecursion-at (IsLeafAt m) front v (x ∷ xs) (subst (AllByRecursion (IsLeafAt m)) is t.tree.leaves) in
        some_chunk m root t start high (front ++ v ∷ []) x xs (is ∙ sym (append_assoc front (v ∷ []) (x ∷ xs)))
        (AllByRecursion-append (λ (w : Visit). AreBelow start (m w.page).records) front (v ∷ []) below (last_below v.low (m v.page).records v.high last.0 start leaf.within last.1 lt, tt))
    | inr ge ↦ elim (cases_lt (rank last.0) (rank high)) [
      | inl lt ↦ (last.0, record { front = front; leaf = v; back = x ∷ xs; at = record { leaves = is; passed = below; stops = inr (last.0, last.1, omega arith) }; ends = (last.0, last.1, inr (lt, refl)); holds = refl })
      | inr up ↦ (high, record { front = front; leaf = v; back = x ∷ xs; at = record { leaves = is; passed = below; stops = inr (last.0, last.1, omega arith) }; ends = (last.0, last.1, inl (omega arith, refl)); holds = refl })
    ]
  ]
]
