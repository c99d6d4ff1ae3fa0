-- The steps of a planned insert make of each page what its level says.
use Rattle.std.specs.Option.{option_or}
use Rattle.std.specs.Prelude.{◌&&◌, ◌||◌, is_some}
use Rattle.std.proofs.Common.{◌≡◌, ◌≢◌, ℕ, ◌+◌, ◌-◌, ◌<◌, ◌≤◌, ◌∙◌, ◌⊎◌, [], ◌∷◌, ◌++◌, zero, suc, inl, inr, true, false, cond, eqb, ltb, List, get_or, drop, length, Option, Some, None, refl, sym, ap, subst, arith}
use Rattle.std.proofs.lemmas.Bool.{cases_eq, eq-eqb, lt-ltb, ne_eqb}
use Rattle.ib_map.specs.Keys.{MapKey, end_rank, rank}
use Rattle.ib_map.specs.Pairs.{put, value_at}
use Rattle.ib_heap.specs.declared.TheConstants.{MOST_RECORDS}
use Rattle.ib_walk.specs.Full.{full_run, need_of, run_of}
use Rattle.ib_walk.specs.Pages.{Free, PageMemory, PageState, Tree}
use Rattle.ib_walk.specs.Search.{child_for, page_below}
use Rattle.ib_walk.specs.Trees.{IsLawful, content_of, height_of}
use Rattle.ib_walk.proofs.ChoiceLaws.{cond-eq, cond-ne}
use Rattle.ib_walk.proofs.SearchLaws.{above}
use Rattle.ib_plans.specs.Changed.{PageChange, state_or, move_or_stays, memory_with, touched_by, moves_by}
use Rattle.ib_plans.specs.Deleted.{page_on}
use Rattle.ib_plans.specs.Insert.{AreFresh, Growth, first_fresh, insert_below, other_fresh, planned_insert, raised, split, split_long}
use Rattle.ib_plans.specs.Inserted.{fresh_on, coming_to, with_coming, in_splits, in_page_above, in_leaf_behind, unraised_change, raise_change, insert_change}
use Rattle.ib_plans.specs.Marks.{mark, with_bit}
use Rattle.ib_plans.specs.Moves.{Stays, Puts, Fills, with_move}
use Rattle.ib_plans.specs.Split.{first_key, lower_half, next_or, raise_page, raised_left, raised_right, raised_root, right_part, split_page, upper_half, with_prev, with_records}
use Rattle.ib_plans.proofs.DeletedLaws.{mark-more, mark-own, or-true, and-false, path-child, path-level, path-kind, path-some, tall-at}
use Rattle.ib_plans.proofs.InsertLaws.{IsInsertedBelow, PathAbove-insert, split_long-long, split_long-short}
use Rattle.ib_plans.proofs.InsertPlanLaws.{raise_long-long, raise_long-short}
use Rattle.ib_plans.proofs.NeedLaws.{IsCounted, IsCounted-need, IsInsertedBelow-need, counted-whole, full_run-behind, full_run-below, full_run-le, run-is, run-le}
use Rattle.ib_plans.proofs.PathListLaws.{length-pages_up, pages_up}
use Rattle.ib_plans.proofs.SplitPageLaws.{split_page-other}

-- the fresh pages from one on
first-drop : (xs : List ℕ) (j : ℕ) → first_fresh (drop j xs) ≡ get_or xs j 0
first-drop [] zero = refl
first-drop [] (suc j) = refl
first-drop (x ∷ xs) zero = refl
first-drop (x ∷ xs) (suc j) = first-drop xs j

other-drop : (xs : List ℕ) (j : ℕ) → other_fresh (drop j xs) ≡ drop (suc j) xs
other-drop [] zero = refl
other-drop [] (suc j) = refl
other-drop (x ∷ xs) zero = refl
other-drop (x ∷ xs) (suc j) = other-drop xs j

-- a page that is free beside another one is another one
other-bit : (b : ℕ → ℕ) (x y : ℕ) → with_bit x 1 b y ≡ 0 → (y ≢ x) × (b y ≡ 0)
other-bit b x y free = elim (cases_eq y x) [
  | inl e ↦ absurd (let a = cond-eq y x 1 (b y) e in omega arith)
  | inr ne ↦ (ne, sym (cond-ne y x 1 (b y) ne) ∙ free)
]

fresh-free : (b : ℕ → ℕ) (xs : List ℕ) → AreFresh b xs → (j : ℕ) → j < length xs → b (get_or xs j 0) ≡ 0
fresh-free b [] free j lt = absurd (omega arith)
fresh-free b (x ∷ xs) free zero lt = free.0
fresh-free b (x ∷ xs) free (suc j) lt = (other-bit b x (get_or xs j 0) (fresh-free (with_bit x 1 b) xs free.2 j (omega arith))).1

fresh-apart : (b : ℕ → ℕ) (xs : List ℕ) → AreFresh b xs → (i j : ℕ) → i < j → j < length xs → get_or xs j 0 ≢ get_or xs i 0
fresh-apart b [] free i j lt there = absurd (omega arith)
fresh-apart b (x ∷ xs) free i zero lt there = absurd (omega arith)
fresh-apart b (x ∷ xs) free zero (suc j) lt there = (other-bit b x (get_or xs j 0) (fresh-free (with_bit x 1 b) xs free.2 j (omega arith))).0
fresh-apart b (x ∷ xs) free (suc i) (suc j) lt there = fresh-apart (with_bit x 1 b) xs free.2 i j (omega arith) (omega arith)

module _ (m : PageMemory) (bits : ℕ → ℕ) (roots : ℕ) (law : IsLawful m bits roots) (key : MapKey) (value : ℕ) (in-range : rank key < end_rank)
    (root : ℕ) (some : 0 < root) (le : root ≤ roots) (fresh : List ℕ) (free : AreFresh bits fresh) (missing : value_at key (content_of m root) ≡ None)
    (room : need_of m key root ≤ length fresh) where
  abbrev top : ℕ
  top = height_of m root

  abbrev path : ℕ → ℕ
  path level = page_on m key root level

  abbrev new : ℕ → ℕ
  new level = fresh_on m fresh key value root level

  abbrev long : ℕ → PageState
  long level = with_coming m fresh key value root level

  abbrev change : ℕ → ℕ → Option PageChange
  change levels n = unraised_change m fresh key value root levels n

  level-is : (level : ℕ) → level ≤ top → (m (path level)).level ≡ level
  level-is = path-level m bits roots law key in-range root some le

  kind-is : (level : ℕ) → level ≤ top → (m (path level)).kind ≡ Tree
  kind-is = path-kind m bits roots law key in-range root some le

  tall-is : (level : ℕ) → level ≤ top → top ≡ above (top - level) level
  tall-is = tall-at m bits roots law key in-range root some le

  child-is : (level : ℕ) → level < top → child_for key 0 (m (path (suc level))).records ≡ path level
  child-is = path-child m bits roots law key in-range root some le

  -- a fresh page is no page of a tree
  new-kind : (level : ℕ) → level < length fresh → (m (new level)).kind ≡ Free
  new-kind level lt = law.unmet (new level) (fresh-free bits fresh free level lt)

  new-other : (level n : ℕ) → level < length fresh → (m n).kind ≡ Tree → n ≢ new level
  new-other level n lt tree e = let a : Tree ≡ Free = sym tree ∙ (ap (λ q. (m q).kind) e ∙ new-kind level lt) in cc

  -- the steps have made of a page what this change says
  pub record IsAt (g : Growth) (levels n : ℕ) (c : Option PageChange) : Type 0 where
    pub memory : g.memory n ≡ state_or c (m n)
    pub touched : g.touched n ≡ (is_some c || (eqb n 0 && ltb 0 levels))
    pub moves : g.moves n ≡ move_or_stays c

  leaf-at : (n : ℕ) → IsAt (insert_below m bits fresh key value 0 (path 0)) 0 n (change 0 n)
  leaf-at n = elim (cases_eq n (path 0)) [
    | inl e ↦ let yes = eq-eqb n (path 0) e in record { memory = rw yes refl; touched = rw yes refl; moves = rw yes refl }
    | inr ne ↦ let no = ne_eqb n (path 0) ne in record { memory = rw no refl; touched = rw no (sym (and-false (eqb n 0))); moves = rw no refl }
  ]

  -- a page of a tree on a higher level is in no split, and no other fresh page is
  in_splits-above : (levels : ℕ) → levels ≤ top → levels ≤ length fresh → (n : ℕ) → levels ≤ (m n).level → (m n).kind ≡ Tree → in_splits m fresh key value root levels n ≡ None
  in_splits-above zero most few n high tree = refl
  in_splits-above (suc level) most few n high tree =
      ap (λ o. option_or o (in_splits m fresh key value root level n))
      (cond-ne n (new level) _ _ (new-other level n few tree) ∙ cond-ne n (path level) _ _ (λ e. let a = ap (λ q. (m q).level) e in let b = level-is level (omega arith) in omega arith))
      ∙ in_splits-above level (omega arith) (omega arith) n (omega arith) tree

  in_splits-new : (levels j : ℕ) → levels ≤ top → levels ≤ j → j < length fresh → in_splits m fresh key value root levels (new j) ≡ None
  in_splits-new zero j most le' lt = refl
  in_splits-new (suc level) j most le' lt =
      ap (λ o. option_or o (in_splits m fresh key value root level (new j)))
      (cond-ne (new j) (new level) _ _ (fresh-apart bits fresh free level j le' lt) ∙ cond-ne (new j) (path level) _ _ (λ e. new-other j (path level) lt (kind-is level (omega arith)) (sym e)))
      ∙ in_splits-new level j (omega arith) (omega arith) lt

  behind-clock : (levels n : ℕ) → (state_or (in_leaf_behind m fresh key value root levels n) (m n)).clock ≡ (m n).clock
  behind-clock zero n = refl
  behind-clock (suc level) n = elim (eqb n (next_or (new zero) (m (path zero)))) as (λ b. (state_or (cond b (Some (let c : PageChange = record { state = with_prev (new zero) (m n); move = Stays } in c)) None) (m n)).clock ≡ (m n).clock) [ true ↦ refl | false ↦ refl ]

  -- a fresh page that is not taken yet has its clock
  new-clock : (levels j : ℕ) → levels ≤ top → levels ≤ j → j < length fresh → (state_or (change levels (new j)) (m (new j))).clock ≡ (m (new j)).clock
  new-clock levels j most le' lt =
      let none = in_splits-new levels j most le' lt in
      let off = cond-ne (new j) (path levels) (Some (let c : PageChange = record { state = long levels; move = Puts (coming_to m fresh key value root levels).0 } in c)) None (λ e. new-other j (path levels) lt (kind-is levels most) (sym e)) in
      ap (λ o. (state_or (option_or o (option_or (in_page_above m fresh key value root levels (new j)) (in_leaf_behind m fresh key value root levels (new j)))) (m (new j))).clock) none
      ∙ (ap (λ o. (state_or (option_or o (in_leaf_behind m fresh key value root levels (new j))) (m (new j))).clock) off ∙ behind-clock levels (new j))

  -- the page above the splits has one record more
  path-change : (levels : ℕ) → levels ≤ top → levels ≤ length fresh → change levels (path levels) ≡ Some (record { state = long levels; move = Puts (coming_to m fresh key value root levels).0 })
  path-change levels most few =
      ap (λ o. option_or o (option_or (in_page_above m fresh key value root levels (path levels)) (in_leaf_behind m fresh key value root levels (path levels))))
      (in_splits-above levels most few (path levels) (let x = level-is levels most in omega arith) (kind-is levels most))
      ∙ ap (λ o. option_or o (in_leaf_behind m fresh key value root levels (path levels))) (cond-eq (path levels) (path levels) _ _ refl)

  -- one split more
  module _ (h : ℕ) (lt : h < top) (few : h < length fresh) (g : Growth) (at : (n : ℕ) → IsAt g h n (change h n)) (parent-same : g.memory (path (suc h)) ≡ m (path (suc h))) where
    abbrev now : Growth
    now = record {
      memory = split_page g.memory (path (suc h)) (path h) (new h);
      bits = with_bit (new h) 1 g.bits;
      touched = mark 0 (mark (new h) (mark (path h) (mark (path (suc h)) (mark (next_or (new h) (g.memory (path h))) g.touched))));
      moves = with_move (new h) Fills (with_move (path h) Fills (with_move (path (suc h)) (Puts (first_key (right_part (g.memory (path h)).records))) g.moves));
      fresh = other_fresh g.fresh;
    }

    child-now : g.memory (path h) ≡ long h
    child-now = (at (path h)).memory ∙ ap (λ c. state_or c (m (path h))) (path-change h (omega arith) (omega arith))

    clock-now : (g.memory (new h)).clock ≡ (m (new h)).clock
    clock-now = ap (λ (q : PageState). q.clock) (at (new h)).memory ∙ new-clock h h (omega arith) (omega arith) few

    next-is : next_or (new h) (g.memory (path h)) ≡ next_or (new h) (m (path h))
    next-is = ap (next_or (new h)) child-now

    abbrev above-it : ℕ → Option PageChange
    above-it n = option_or (in_page_above m fresh key value root (suc h) n) (in_leaf_behind m fresh key value root (suc h) n)

    to : (n : ℕ) (c : Option PageChange) → change (suc h) n ≡ c → IsAt now (suc h) n c → IsAt now (suc h) n (change (suc h) n)
    to n c e a = subst (IsAt now (suc h) n) (sym e) a

    marks : (n : ℕ) → ((n ≡ new h) ⊎ ((n ≡ path h) ⊎ ((n ≡ path (suc h)) ⊎ (n ≡ next_or (new h) (g.memory (path h)))))) → now.touched n ≡ true
    marks n one =
        mark-more 0 (mark (new h) (mark (path h) (mark (path (suc h)) (mark (next_or (new h) (g.memory (path h))) g.touched)))) n
        (elim one [
          | inl e ↦ mark-own (new h) (mark (path h) (mark (path (suc h)) (mark (next_or (new h) (g.memory (path h))) g.touched))) n e
          | inr two ↦ mark-more (new h) (mark (path h) (mark (path (suc h)) (mark (next_or (new h) (g.memory (path h))) g.touched))) n (elim two [
            | inl e ↦ mark-own (path h) (mark (path (suc h)) (mark (next_or (new h) (g.memory (path h))) g.touched)) n e
            | inr three ↦ mark-more (path h) (mark (path (suc h)) (mark (next_or (new h) (g.memory (path h))) g.touched)) n (elim three [
              | inl e ↦ mark-own (path (suc h)) (mark (next_or (new h) (g.memory (path h))) g.touched) n e
              | inr e ↦ mark-more (path (suc h)) (mark (next_or (new h) (g.memory (path h))) g.touched) n (mark-own (next_or (new h) (g.memory (path h))) g.touched n e)
            ])
          ])
        ])

    at-new : (n : ℕ) → n ≡ new h → IsAt now (suc h) n (change (suc h) n)
    at-new n e = to n (Some (record { state = upper_half (long h) (path h) (m n).clock; move = Fills }))
        (ap (λ o. option_or (option_or o (in_splits m fresh key value root h n)) (above-it n)) (cond-eq n (new h) _ _ e))
        (record {
          memory = cond-eq n (new h) (upper_half (g.memory (path h)) (path h) (g.memory (new h)).clock) _ e
              ∙ (ap (λ (q : PageState). upper_half q (path h) (g.memory (new h)).clock) child-now ∙ ap (upper_half (long h) (path h)) (clock-now ∙ ap (λ q. (m q).clock) (sym e)));
          touched = marks n (inl e);
          moves = cond-eq n (new h) Fills _ e;
        })

    at-child : (n : ℕ) → n ≢ new h → n ≡ path h → IsAt now (suc h) n (change (suc h) n)
    at-child n nf e = to n (Some (record { state = lower_half (long h) (new h); move = Fills }))
        (ap (λ o. option_or (option_or o (in_splits m fresh key value root h n)) (above-it n)) (cond-ne n (new h) _ _ nf ∙ cond-eq n (path h) _ _ e))
        (record {
          memory = cond-ne n (new h) (upper_half (g.memory (path h)) (path h) (g.memory (new h)).clock) _ nf
              ∙ (cond-eq n (path h) (lower_half (g.memory (path h)) (new h)) _ e ∙ ap (λ (q : PageState). lower_half q (new h)) child-now);
          touched = marks n (inr (inl e));
          moves = cond-ne n (new h) Fills _ nf ∙ cond-eq n (path h) Fills _ e;
        })

    no-split : (n : ℕ) → n ≢ new h → n ≢ path h → change (suc h) n ≡ option_or (in_splits m fresh key value root h n) (above-it n)
    no-split n nf nc = ap (λ o. option_or (option_or o (in_splits m fresh key value root h n)) (above-it n)) (cond-ne n (new h) _ _ nf ∙ cond-ne n (path h) _ _ nc)

    abbrev parent-now : PageState
    parent-now = with_records (put (first_key (right_part (g.memory (path h)).records)) (new h) (g.memory (path (suc h))).records) (g.memory (path (suc h)))

    at-parent : (n : ℕ) → n ≢ new h → n ≢ path h → n ≡ path (suc h) → IsAt now (suc h) n (change (suc h) n)
    at-parent n nf nc e =
        let tall = ap (λ q. (m q).level) e in
        let up = level-is (suc h) lt in
        let tree = ap (λ q. (m q).kind) e ∙ kind-is (suc h) lt in
        to n (Some (record { state = long (suc h); move = Puts (coming_to m fresh key value root (suc h)).0 }))
        (no-split n nf nc ∙ (ap (λ o. option_or o (above-it n)) (in_splits-above h (omega arith) (omega arith) n (omega arith) tree)
        ∙ ap (λ o. option_or o (in_leaf_behind m fresh key value root (suc h) n)) (cond-eq n (path (suc h)) _ _ e)))
        (record {
          memory = cond-ne n (new h) (upper_half (g.memory (path h)) (path h) (g.memory (new h)).clock) _ nf ∙ (cond-ne n (path h) (lower_half (g.memory (path h)) (new h)) _ nc
              ∙ (cond-eq n (path (suc h)) parent-now _ e
              ∙ (ap (λ (q : PageState). with_records (put (first_key (right_part q.records)) (new h) (g.memory (path (suc h))).records) (g.memory (path (suc h)))) child-now
              ∙ ap (λ (q : PageState). with_records (put (first_key (right_part (long h).records)) (new h) q.records) q) parent-same)));
          touched = marks n (inr (inr (inl e)));
          moves = cond-ne n (new h) Fills _ nf ∙ (cond-ne n (path h) Fills _ nc ∙ (cond-eq n (path (suc h)) (Puts (first_key (right_part (g.memory (path h)).records))) _ e
              ∙ ap (λ (q : PageState). Puts (first_key (right_part q.records))) child-now));
        })

    -- a page that has a leaf behind it is a leaf
    low-of : (m (path h)).next ≢ 0 → h ≡ 0
    low-of there = elim (cases_eq h 0) [
      | inl z ↦ z
      | inr up ↦
          let sound = law.sound (path h) (path-some m bits roots law key in-range root some le h (omega arith)) in
          absurd (there (sound.node (let l = level-is h (omega arith) in omega (arith, up))).1)
    ]

    abbrev behind-now : ℕ → PageState
    behind-now n = with_prev (cond (eqb (g.memory (path h)).level 0) (new h) (g.memory n).prev) (g.memory n)

    at-behind : (n : ℕ) → n ≢ new h → n ≢ path h → n ≢ path (suc h) → n ≡ next_or (new h) (m (path h)) → IsAt now (suc h) n (change (suc h) n)
    at-behind n nf nc np e = elim (cases_eq (m (path h)).next 0) [
      | inl none ↦ absurd (nf (e ∙ cond-eq (m (path h)).next 0 (new h) _ none))
      | inr there ↦
          let low : h ≡ 0 = low-of there in
          let none : in_splits m fresh key value root h n ≡ None = ap (λ k. in_splits m fresh key value root k n) low in
          let first : n ≡ next_or (new zero) (m (path zero)) = e ∙ ap (λ k. next_or (new k) (m (path k))) low in
          let was-none : change h n ≡ None =
          ap (λ o. option_or o (option_or (in_page_above m fresh key value root h n) (in_leaf_behind m fresh key value root h n))) none
          ∙ (ap (λ o. option_or o (in_leaf_behind m fresh key value root h n)) (cond-ne n (path h) _ _ nc) ∙ ap (λ k. in_leaf_behind m fresh key value root k n) low) in
          let same : g.memory n ≡ m n = (at n).memory ∙ ap (λ c. state_or c (m n)) was-none in
          let leaf : (g.memory (path h)).level ≡ 0 = ap (λ (q : PageState). q.level) child-now ∙ (level-is h (omega arith) ∙ low) in
          to n (Some (record { state = with_prev (new zero) (m n); move = Stays }))
          (no-split n nf nc ∙ (ap (λ o. option_or o (above-it n)) none ∙ (ap (λ o. option_or o (in_leaf_behind m fresh key value root (suc h) n)) (cond-ne n (path (suc h)) _ _ np)
          ∙ cond-eq n (next_or (new zero) (m (path zero))) _ _ first)))
          (record {
            memory = cond-ne n (new h) (upper_half (g.memory (path h)) (path h) (g.memory (new h)).clock) _ nf ∙ (cond-ne n (path h) (lower_half (g.memory (path h)) (new h)) _ nc
                ∙ (cond-ne n (path (suc h)) parent-now _ np ∙ (cond-eq n (next_or (new h) (g.memory (path h))) (behind-now n) _ (e ∙ sym next-is)
                ∙ (ap (λ p. with_prev p (g.memory n)) (cond-eq (g.memory (path h)).level 0 (new h) (g.memory n).prev leaf ∙ ap new low) ∙ ap (with_prev (new zero)) same))));
            touched = marks n (inr (inr (inr (e ∙ sym next-is))));
            moves = cond-ne n (new h) Fills _ nf ∙ (cond-ne n (path h) Fills _ nc ∙ (cond-ne n (path (suc h)) (Puts (first_key (right_part (g.memory (path h)).records))) _ np ∙ ((at n).moves ∙ ap move_or_stays was-none)));
          })
    ]

    behind-same : (k n : ℕ) → n ≢ next_or (new k) (m (path k)) → in_leaf_behind m fresh key value root (suc k) n ≡ in_leaf_behind m fresh key value root k n
    behind-same zero n ne = cond-ne n (next_or (new zero) (m (path zero))) _ _ ne
    behind-same (suc k) n ne = refl

    at-other : (n : ℕ) → n ≢ new h → n ≢ path h → n ≢ path (suc h) → n ≢ next_or (new h) (m (path h)) → IsAt now (suc h) n (change (suc h) n)
    at-other n nf nc np nn =
        let a = at n in
        let nn' : n ≢ next_or (new h) (g.memory (path h)) = λ e. nn (e ∙ next-is) in
        let same : change (suc h) n ≡ change h n =
        no-split n nf nc ∙ ap (λ o. option_or (in_splits m fresh key value root h n) o) (
        ap (λ o. option_or o (in_leaf_behind m fresh key value root (suc h) n)) (cond-ne n (path (suc h)) _ _ np)
        ∙ (behind-same h n nn ∙ sym (ap (λ o. option_or o (in_leaf_behind m fresh key value root h n)) (cond-ne n (path h) _ _ nc)))) in
        to n (change h n) same (record {
          memory = split_page-other g.memory (path (suc h)) (path h) (new h) n nf nc np nn' ∙ a.memory;
          touched = elim (cases_eq n 0) [
            | inl z ↦ mark-own 0 (mark (new h) (mark (path h) (mark (path (suc h)) (mark (next_or (new h) (g.memory (path h))) g.touched)))) n z
                ∙ (let yes = eq-eqb n 0 z in let pos = lt-ltb 0 (suc h) (omega arith) in rw (yes, pos) (sym (or-true (is_some (change h n)))))
            | inr nz ↦ cond-ne n 0 true _ nz ∙ (cond-ne n (new h) true _ nf ∙ (cond-ne n (path h) true _ nc ∙ (cond-ne n (path (suc h)) true _ np ∙ (cond-ne n (next_or (new h) (g.memory (path h))) true _ nn'
                ∙ (a.touched ∙ ap (λ b. is_some (change h n) || b) (let no = ne_eqb n 0 nz in rw no refl))))))
          ];
          moves = cond-ne n (new h) Fills _ nf ∙ (cond-ne n (path h) Fills _ nc ∙ (cond-ne n (path (suc h)) (Puts (first_key (right_part (g.memory (path h)).records))) _ np ∙ a.moves));
        })

    pub at-split : (n : ℕ) → IsAt now (suc h) n (change (suc h) n)
    at-split n = elim (cases_eq n (new h)) [
      | inl e ↦ at-new n e
      | inr nf ↦ elim (cases_eq n (path h)) [
        | inl e ↦ at-child n nf e
        | inr nc ↦ elim (cases_eq n (path (suc h))) [
          | inl e ↦ at-parent n nf nc e
          | inr np ↦ elim (cases_eq n (next_or (new h) (m (path h)))) [
            | inl e ↦ at-behind n nf nc np e
            | inr nn ↦ at-other n nf nc np nn
          ]
        ]
      ]
    ]

  -- how many pages of the path from the leaf up to a level are full
  abbrev run : ℕ → ℕ
  run h = full_run m (pages_up m key h (path h))

  run-within : (h : ℕ) → h ≤ top → run h ≤ run_of m key root
  run-within h most =
      let a = full_run-below m key (top - h) h root in
      let b = ap (λ k. full_run m (pages_up m key k root)) (tall-is h most) in
      let c = run-is m bits roots law key value in-range root some le fresh free missing in omega arith

  run-few : (h : ℕ) → h ≤ top → run h ≤ length fresh
  run-few h most = let a = run-within h most in omega arith

  counted : (h : ℕ) → h ≤ top → IsCounted m bits fresh key value h (path h)
  counted h most = IsCounted-need m bits roots law key value in-range root some le fresh free missing room h (top - h) (path h) (tall-is h most) refl

  -- one page more of the path
  run-next : (h : ℕ) → h < top → (run h ≡ suc h → run (suc h) ≡ suc h + cond (eqb (length (m (path (suc h))).records) MOST_RECORDS) 1 0) × (run h ≤ h → run (suc h) ≡ run h)
  run-next h lt =
      let a = full_run-behind m (pages_up m key h (path h)) (path (suc h)) in
      let b = length-pages_up m key h (path h) in
      let e : run (suc h) ≡ full_run m (pages_up m key h (path h) ++ path (suc h) ∷ []) = ap (λ c. full_run m (pages_up m key h c ++ path (suc h) ∷ [])) (child-is h lt) in (
        λ full. e ∙ (let x = a.0 (omega arith) in omega arith),
        λ less. e ∙ (let x = a.1 (omega arith) in omega arith),
      )

  -- the steps up to a level have split as many levels as the run has below it
  pub record IsReached (h : ℕ) (g : Growth) : Type 0 where
    pub levels : ℕ
    pub at : (n : ℕ) → IsAt g levels n (change levels n)
    pub fresh_is : g.fresh ≡ drop levels fresh
    pub over : run h ≡ suc h → levels ≡ h
    pub under : run h ≤ h → levels ≡ run h

  parent-same : (h : ℕ) → h < top → (insert_below m bits fresh key value h (path h)).memory (path (suc h)) ≡ m (path (suc h))
  parent-same h lt =
      let w = IsInsertedBelow-need m bits roots law key value in-range root some le fresh free missing room h (top - h) (path h) (tall-is h (omega arith)) refl in
      (PathAbove-insert m bits roots law key value in-range root some le fresh free missing h (top - suc h) (path (suc h)) (tall-is (suc h) lt) refl (insert_below m bits fresh key value h (path h))
      (subst (λ c. IsInsertedBelow m roots key value root h c (insert_below m bits fresh key value h (path h))) (sym (child-is h lt)) w)).same

  -- a page in the run is split
  reached-split : (h : ℕ) → h < top → run h ≡ suc h → IsReached h (insert_below m bits fresh key value h (path h))
      → IsReached (suc h) (split (path (suc h)) (path h) (insert_below m bits fresh key value h (path h)))
  reached-split h lt full r =
      let few = run-few h (omega arith) in
      let all = r.over full in
      let first : first_fresh (insert_below m bits fresh key value h (path h)).fresh ≡ new h = ap first_fresh r.fresh_is ∙ (first-drop fresh r.levels ∙ ap (λ j. get_or fresh j 0) all) in
      let at = at-split h lt (omega arith) (insert_below m bits fresh key value h (path h)) (λ n. subst (λ k. IsAt (insert_below m bits fresh key value h (path h)) k n (change k n)) all (r.at n)) (parent-same h lt) in
      let next = (run-next h lt).0 full in
      record {
        levels = suc h;
        at = λ n. subst (λ (f : ℕ). IsAt (record {
          memory = split_page (insert_below m bits fresh key value h (path h)).memory (path (suc h)) (path h) f;
          bits = with_bit f 1 (insert_below m bits fresh key value h (path h)).bits;
          touched = mark 0 (mark f (mark (path h) (mark (path (suc h)) (mark (next_or f ((insert_below m bits fresh key value h (path h)).memory (path h))) (insert_below m bits fresh key value h (path h)).touched))));
          moves = with_move f Fills (with_move (path h) Fills (with_move (path (suc h)) (Puts (first_key (right_part ((insert_below m bits fresh key value h (path h)).memory (path h)).records))) (insert_below m bits fresh key value h (path h)).moves));
          fresh = other_fresh (insert_below m bits fresh key value h (path h)).fresh;
        }) (suc h) n (change (suc h) n)) (sym first) (at n);
        fresh_is = ap other_fresh r.fresh_is ∙ (other-drop fresh r.levels ∙ ap (λ j. drop (suc j) fresh) all);
        over = λ e. refl;
        under = λ less. (elim (eqb (length (m (path (suc h))).records) MOST_RECORDS) as (λ b. run (suc h) ≡ suc h + cond b 1 0 → suc h ≡ run (suc h)) [ true ↦ λ e. absurd (omega arith) | false ↦ λ e. omega arith ]) next;
      }

  -- .. and one above it is not
  reached-stay : (h : ℕ) → h < top → run h ≤ h → IsReached h (insert_below m bits fresh key value h (path h)) → IsReached (suc h) (insert_below m bits fresh key value h (path h))
  reached-stay h lt less r =
      let next = (run-next h lt).1 less in
      record { levels = r.levels; at = r.at; fresh_is = r.fresh_is; over = λ e. absurd (omega arith); under = λ _. r.under less ∙ sym next }

  IsReached-path : (h : ℕ) → h ≤ top → IsReached h (insert_below m bits fresh key value h (path h))
  IsReached-path zero most = record {
    levels = 0;
    at = leaf-at;
    fresh_is = refl;
    over = λ e. refl;
    under = λ e. omega arith;
  }
  IsReached-path (suc h) lt =
      let r = IsReached-path h (omega arith) in
      let c = counted h (omega arith) in
      let long = full_run-le m (pages_up m key h (path h)) in
      let size = length-pages_up m key h (path h) in
      subst (λ c. IsReached (suc h) (split_long (path (suc h)) c (insert_below m bits fresh key value h c))) (sym (child-is h lt)) (elim (cases_eq (run h) (suc h)) [
        | inl full ↦ subst (IsReached (suc h)) (sym (split_long-long (path (suc h)) (path h) (insert_below m bits fresh key value h (path h)) (let x = (c.over full).0 in omega arith))) (reached-split h lt full r)
        | inr less ↦ subst (IsReached (suc h)) (sym (split_long-short (path (suc h)) (path h) (insert_below m bits fresh key value h (path h)) (c.under (omega (arith, less))).0)) (reached-stay h lt (omega (arith, less)) r)
      ])

  -- the steps have made of every page what its change says
  pub record IsPlan (g : Growth) (changes : ℕ → Option PageChange) : Type 0 where
    pub memory : (n : ℕ) → g.memory n ≡ memory_with changes m n
    pub touched : (n : ℕ) → g.touched n ≡ touched_by changes (ltb 0 (run_of m key root)) n
    pub moves : (n : ℕ) → g.moves n ≡ moves_by changes n

  path-top : path top ≡ root
  path-top = let e : top - top ≡ 0 = omega arith in ap (λ d. page_below m key d root) e

  abbrev whole : Growth
  whole = insert_below m bits fresh key value top root

  whole-reached : IsReached top whole
  whole-reached = subst (λ p. IsReached top (insert_below m bits fresh key value top p)) path-top (IsReached-path top (omega arith))

  run-top : run top ≡ run_of m key root
  run-top = ap (λ p. full_run m (pages_up m key top p)) path-top ∙ sym (run-is m bits roots law key value in-range root some le fresh free missing)

  -- a root that is not full stays
  plan-stays : run_of m key root ≤ top → IsPlan whole (change (run_of m key root))
  plan-stays less =
      let e : whole-reached.levels ≡ run_of m key root = whole-reached.under (let x = run-top in omega arith) ∙ run-top in
      record { memory = λ n. (subst (λ k. IsAt whole k n (change k n)) e (whole-reached.at n)).memory; touched = λ n. (subst (λ k. IsAt whole k n (change k n)) e (whole-reached.at n)).touched; moves = λ n. (subst (λ k. IsAt whole k n (change k n)) e (whole-reached.at n)).moves }

  -- a full one is raised
  module _ (full : run_of m key root ≡ suc top) (two : suc top < length fresh) where
    abbrev left : ℕ
    left = new top

    abbrev right : ℕ
    right = new (suc top)

    abbrev raise : ℕ → Option PageChange
    raise n = raise_change m fresh key value root top n

    levels-is : whole-reached.levels ≡ top
    levels-is = whole-reached.over (run-top ∙ full)

    at-whole : (n : ℕ) → IsAt whole top n (change top n)
    at-whole n = subst (λ k. IsAt whole k n (change k n)) levels-is (whole-reached.at n)

    root-now : whole.memory root ≡ long top
    root-now = subst (λ p. whole.memory p ≡ long top) path-top
        ((at-whole (path top)).memory ∙ ap (λ c. state_or c (m (path top))) (path-change top (omega arith) (omega arith)))

    clock-whole : (j : ℕ) → top ≤ j → j < length fresh → (whole.memory (new j)).clock ≡ (m (new j)).clock
    clock-whole j above lt = ap (λ (q : PageState). q.clock) (at-whole (new j)).memory ∙ new-clock top j (omega arith) above lt

    root-other : (j : ℕ) → j < length fresh → root ≢ new j
    root-other j lt e = new-other j (path top) lt (kind-is top (omega arith)) (path-top ∙ e)

    apart-two : right ≢ left
    apart-two = fresh-apart bits fresh free top (suc top) (omega arith) two

    abbrev now-raised : Growth
    now-raised = record {
      memory = raise_page whole.memory root left right;
      bits = with_bit right 1 (with_bit left 1 whole.bits);
      touched = mark 0 (mark left (mark right (mark root whole.touched)));
      moves = with_move left Fills (with_move right Fills (with_move root Fills whole.moves));
      fresh = other_fresh (other_fresh whole.fresh);
    }

    raised-is : raised root whole ≡ now-raised
    raised-is =
        let a : first_fresh whole.fresh ≡ left = ap first_fresh whole-reached.fresh_is ∙ (first-drop fresh whole-reached.levels ∙ ap (λ j. get_or fresh j 0) levels-is) in
        let b : first_fresh (other_fresh whole.fresh) ≡ right = ap (λ xs. first_fresh (other_fresh xs)) whole-reached.fresh_is
        ∙ (ap first_fresh (other-drop fresh whole-reached.levels) ∙ (first-drop fresh (suc whole-reached.levels) ∙ ap (λ j. get_or fresh (suc j) 0) levels-is)) in
        λ i. record {
          memory = raise_page whole.memory root (a i) (b i);
          bits = with_bit (b i) 1 (with_bit (a i) 1 whole.bits);
          touched = mark 0 (mark (a i) (mark (b i) (mark root whole.touched)));
          moves = with_move (a i) Fills (with_move (b i) Fills (with_move root Fills whole.moves));
          fresh = other_fresh (other_fresh whole.fresh);
        }

    record IsAtRaised (n : ℕ) (c : Option PageChange) : Type 0 where
      memory : now-raised.memory n ≡ state_or c (m n)
      touched : now-raised.touched n ≡ (is_some c || (eqb n 0 && ltb 0 (run_of m key root)))
      moves : now-raised.moves n ≡ move_or_stays c

    to-raised : (n : ℕ) (c : Option PageChange) → raise n ≡ c → IsAtRaised n c → IsAtRaised n (raise n)
    to-raised n c e a = subst (IsAtRaised n) (sym e) a

    at-raised : (n : ℕ) → IsAtRaised n (raise n)
    at-raised n = elim (cases_eq n left) [
      | inl e ↦ to-raised n (Some (record { state = raised_left (long top) right (m n).clock; move = Fills })) (cond-eq n left _ _ e) (record {
        memory = cond-eq n left (raised_left (whole.memory root) right (whole.memory left).clock) _ e
            ∙ (ap (λ (q : PageState). raised_left q right (whole.memory left).clock) root-now ∙ ap (raised_left (long top) right) (clock-whole top (omega arith) (omega arith) ∙ ap (λ q. (m q).clock) (sym e)));
        touched = mark-more 0 (mark left (mark right (mark root whole.touched))) n (mark-own left (mark right (mark root whole.touched)) n e);
        moves = cond-eq n left Fills _ e;
      })
      | inr nl ↦ elim (cases_eq n right) [
        | inl e ↦ to-raised n (Some (record { state = raised_right (long top) left (m n).clock; move = Fills })) (cond-ne n left _ _ nl ∙ cond-eq n right _ _ e) (record {
          memory = cond-ne n left (raised_left (whole.memory root) right (whole.memory left).clock) _ nl ∙ (cond-eq n right (raised_right (whole.memory root) left (whole.memory right).clock) _ e
              ∙ (ap (λ (q : PageState). raised_right q left (whole.memory right).clock) root-now ∙ ap (raised_right (long top) left) (clock-whole (suc top) (omega arith) two ∙ ap (λ q. (m q).clock) (sym e))));
          touched = mark-more 0 (mark left (mark right (mark root whole.touched))) n (mark-more left (mark right (mark root whole.touched)) n (mark-own right (mark root whole.touched) n e));
          moves = cond-ne n left Fills _ nl ∙ cond-eq n right Fills _ e;
        })
        | inr nr ↦ elim (cases_eq n root) [
          | inl e ↦ to-raised n (Some (record { state = raised_root (long top) left right; move = Fills })) (cond-ne n left _ _ nl ∙ (cond-ne n right _ _ nr ∙ cond-eq n root _ _ e)) (record {
            memory = cond-ne n left (raised_left (whole.memory root) right (whole.memory left).clock) _ nl ∙ (cond-ne n right (raised_right (whole.memory root) left (whole.memory right).clock) _ nr
                ∙ (cond-eq n root (raised_root (whole.memory root) left right) _ e ∙ ap (λ (q : PageState). raised_root q left right) root-now));
            touched = mark-more 0 (mark left (mark right (mark root whole.touched))) n (mark-more left (mark right (mark root whole.touched)) n (mark-more right (mark root whole.touched) n (mark-own root whole.touched n e)));
            moves = cond-ne n left Fills _ nl ∙ (cond-ne n right Fills _ nr ∙ cond-eq n root Fills _ e);
          })
          | inr nt ↦
              let a = at-whole n in
              to-raised n (change top n) (cond-ne n left _ _ nl ∙ (cond-ne n right _ _ nr ∙ cond-ne n root _ _ nt)) (record {
                memory = cond-ne n left (raised_left (whole.memory root) right (whole.memory left).clock) _ nl ∙ (cond-ne n right (raised_right (whole.memory root) left (whole.memory right).clock) _ nr
                    ∙ (cond-ne n root (raised_root (whole.memory root) left right) _ nt ∙ a.memory));
                touched = elim (cases_eq n 0) [
                  | inl z ↦ mark-own 0 (mark left (mark right (mark root whole.touched))) n z
                      ∙ (let yes = eq-eqb n 0 z in let pos = lt-ltb 0 (run_of m key root) (omega arith) in rw (yes, pos) (sym (or-true (is_some (change top n)))))
                  | inr nz ↦ cond-ne n 0 true _ nz ∙ (cond-ne n left true _ nl ∙ (cond-ne n right true _ nr ∙ (cond-ne n root true _ nt
                      ∙ (a.touched ∙ ap (λ b. is_some (change top n) || b) (let no = ne_eqb n 0 nz in rw no refl)))))
                ];
                moves = cond-ne n left Fills _ nl ∙ (cond-ne n right Fills _ nr ∙ (cond-ne n root Fills _ nt ∙ a.moves));
              })
        ]
      ]
    ]

    plan-raised : IsPlan (raised root whole) raise
    plan-raised = subst (λ g. IsPlan g raise) (sym raised-is) (record { memory = λ n. (at-raised n).memory; touched = λ n. (at-raised n).touched; moves = λ n. (at-raised n).moves })

  -- the planned insert makes of each page what its change says
  pub planned_insert-is : IsPlan (planned_insert m bits fresh key value root) (insert_change m fresh key value root)
  planned_insert-is =
      let c = counted-whole m bits roots law key value in-range root some le fresh free missing room in
      let most = run-le m bits roots law key value in-range root some le fresh free missing in
      let is = run-is m bits roots law key value in-range root some le fresh free missing in
      elim (cases_eq (run_of m key root) (suc top)) [
        | inl full ↦
            let yes = eq-eqb (run_of m key root) (suc top) full in
            let q = cond-eq {X = ℕ} (run_of m key root) (suc top) 1 0 full in
            subst (λ b. IsPlan (planned_insert m bits fresh key value root) (λ n. cond b (raise_change m fresh key value root top n) (change (run_of m key root) n))) (sym yes)
            (subst (λ g. IsPlan g (raise_change m fresh key value root top)) (sym (raise_long-long root whole (let x = (c.over (omega arith)).0 in omega arith))) (plan-raised full (omega arith)))
        | inr less ↦
            let no = ne_eqb (run_of m key root) (suc top) less in
            subst (λ b. IsPlan (planned_insert m bits fresh key value root) (λ n. cond b (raise_change m fresh key value root top n) (change (run_of m key root) n))) (sym no)
            (subst (λ g. IsPlan g (change (run_of m key root))) (sym (raise_long-short root whole (c.under (omega (arith, less))).0)) (plan-stays (omega (arith, less))))
      ]

  -- .. all at once
  pub planned_insert-memory : (planned_insert m bits fresh key value root).memory ≡ memory_with (insert_change m fresh key value root) m
  planned_insert-memory = λ i n. planned_insert-is.memory n i

  pub planned_insert-touched : (planned_insert m bits fresh key value root).touched ≡ touched_by (insert_change m fresh key value root) (ltb 0 (run_of m key root))
  planned_insert-touched = λ i n. planned_insert-is.touched n i

  pub planned_insert-moves : (planned_insert m bits fresh key value root).moves ≡ moves_by (insert_change m fresh key value root)
  planned_insert-moves = λ i n. planned_insert-is.moves n i
