-- In a lawful memory a guess is right exactly where its page says so: a page of the tree is met, and a leaf for each key at one place alone.
use Rattle.std.specs.List.{AllByRecursion}
use Rattle.std.specs.Prelude.{Any, ◌↔◌, ◌==◌, ◌&&◌}
use Rattle.std.proofs.Common.{◌≡◌, ◌≢◌, ℕ, zero, suc, ◌+◌, ◌-◌, ◌<◌, ◌≤◌, Bool, true, false, cond, List, [], ◌∷◌, ◌++◌, length, slice_get, Some, None, IsSomeAnd, refl, sym, ap, subst, ◌∙◌, arith, inl, inr}
use Rattle.std.proofs.lemmas.Bool.{cases_lt, cases_eq, eq-eqb, eqb-true}
use Rattle.ib_map.specs.Keys.{MapKey, rank, end_rank}
use Rattle.ib_map.specs.Pairs.{Pairs, Rises}
use Rattle.ib_map.proofs.RiseLaws.{Rises-le}
use Rattle.ib_heap.specs.declared.TheConstants.{MOST_RECORDS}
use Rattle.ib_heap.specs.declared.search.KeyStanding.{KeyStanding}
use Rattle.ib_heap.specs.declared.search.KeyStanding.TheVariants.{Outside, Between, Found}
use Rattle.ib_heap.specs.Standing.{IsWithin, standing_of}
use Rattle.ib_heap.proofs.WithinLaws.{within-by}
use Rattle.ib_walk.specs.Pages.{Malformed, Free, Tree, PageKind, PageMemory, PageState}
use Rattle.ib_walk.specs.Search.{leaf_for}
use Rattle.ib_walk.specs.Trees.{height_of, leaves_of, top_of, times_met, weight_of, IsLawful, IsTreeOf}
use Rattle.ib_walk.specs.Walk.{Visit, below, children, counts_page, counts_visit, sum_of, weight_along, IsLeafAt, IsNodeAt, IsTree}
use Rattle.ib_walk.proofs.MeetLaws.{counts_page-other, counts_page-own, lowest-le_weight}
use Rattle.ib_walk.proofs.SearchLaws.{AllByRecursion-at}
use Rattle.ib_walk.proofs.WalkLaws.{sum_of-append}
use Rattle.ib_plans.proofs.MetLaws.{bit-none, zero-unmet}
use Rattle.ib_tree.proofs.PatchLaws.{counts_visit-own}
use Rattle.ib_cursor.specs.Guesses.{is_leaf, is_tree, leaf_standing}
use Rattle.ib_cursor.proofs.OnPathLaws.{leaf_on-path, on-path_met}
use Rattle.ib_hash.specs.Right.{IsRightGuess, is_right}
use Rattle.ib_walk.proofs.CountLaws.{bits-met}

-- one of these visits is of the page, between those before it and those behind it
record IsAmong (page : ℕ) (visits : List Visit) : Type 0 where
  before : List Visit
  visit : Visit
  behind : List Visit
  is : visits ≡ before ++ visit ∷ behind
  here : visit.page ≡ page

among-any : (page : ℕ) (vs : List Visit) → Any (λ (v : Visit). v.page ≡ page) vs → IsAmong page vs
among-any page [] (k, v, lt, at, here) = absurd (omega arith)
among-any page (u ∷ vs) (zero, v, lt, at, here) = record { before = []; visit = u; behind = vs; is = refl; here = ap (λ (w : Visit). w.page) at ∙ here }
among-any page (u ∷ vs) (suc k, v, lt, at, here) =
    let r = among-any page vs (k, v, omega arith, at, here) in
    record { before = u ∷ r.before; visit = r.visit; behind = r.behind; is = ap (λ (ws : List Visit). u ∷ ws) r.is; here = r.here }

-- visits among which a page counts have it
any-counted : (page h : ℕ) (vs : List Visit) → 0 < sum_of (counts_page page h) vs → Any (λ (v : Visit). v.page ≡ page) vs
any-counted page h [] some = absurd (omega arith)
any-counted page h (v ∷ vs) some = elim (cases_eq v.page page) [
  | inl here ↦ (0, v, omega arith, refl, here)
  | inr away ↦
      let none = counts_page-other page h v away in
      let r = any-counted page h vs (omega arith) in (suc r.0, r.1, (let lt = r.2 in omega arith), r.3, r.4)
]

-- keys within the records of a range are in the range
within-low : (key : MapKey) (low : ℕ) (xs : Pairs) (high : ℕ) → Rises low xs high → IsSomeAnd (slice_get xs 0) (λ r. rank r.0 ≤ rank key) → low ≤ rank key
within-low key low [] high rises first = absurd first
within-low key low (x ∷ xs) high rises first = let a = rises.0 in let b : rank x.0 ≤ rank key = first in omega arith

within-high : (key : MapKey) (low : ℕ) (xs : Pairs) (high i : ℕ) → Rises low xs high → IsSomeAnd (slice_get xs i) (λ r. rank key ≤ rank r.0) → rank key < high
within-high key low [] high zero rises last = absurd last
within-high key low [] high (suc i) rises last = absurd last
within-high key low (x ∷ xs) high zero rises last = let a = Rises-le (rank x.0 + 1) xs high rises.1 in let b : rank key ≤ rank x.0 = last in omega arith
within-high key low (x ∷ xs) high (suc i) rises last = within-high key (rank x.0 + 1) xs high i rises.1 last

-- a page of level 0 that a tree meets is one of its leaves
met-lowest : (m : PageMemory) (page h : ℕ) (vs : List Visit) → IsTree m h vs → (m page).level ≡ 0 → 0 < weight_along (counts_page page) m h vs → Any (λ (v : Visit). v.page ≡ page) (below m h vs)
met-lowest m page zero vs tree low some = any-counted page 0 vs some
met-lowest m page (suc h) vs tree low some = elim (cases_lt 0 (sum_of (counts_page page (suc h)) vs)) [
  | inl pos ↦
      let r = among-any page vs (any-counted page (suc h) vs pos) in
      let node = AllByRecursion-at (IsNodeAt m (suc h)) r.before r.visit r.behind (subst (AllByRecursion (IsNodeAt m (suc h))) r.is tree.nodes.0) in
      let level : (m page).level ≡ suc h = ap (λ (n : ℕ). (m n).level) (sym r.here) ∙ node.level in absurd (omega arith)
  | inr non ↦ met-lowest m page h (children m vs) (record { nodes = tree.nodes.1; leaves = tree.leaves }) low (omega arith)
]

-- a page is a leaf by its kind and its level
leaf-parts : (s : PageState) → is_leaf s ≡ true → (s.kind ≡ Tree) × (s.level ≡ 0)
leaf-parts s is = go s.kind refl is
  where
    go : (k : PageKind) → s.kind ≡ k → (is_tree k && (s.level == 0)) ≡ true → (s.kind ≡ Tree) × (s.level ≡ 0)
    go Malformed kind both = absurd (let z : false ≡ true = both in cc)
    go Free kind both = absurd (let z : false ≡ true = both in cc)
    go Tree kind both = (kind, eqb-true s.level 0 both)

leaf-of : (s : PageState) → s.kind ≡ Tree → s.level ≡ 0 → is_leaf s ≡ true
leaf-of s kind level = ap (λ k. is_tree k && (s.level == 0)) kind ∙ eq-eqb s.level 0 level

-- a standing is right where it is not outside
right-inside : (s : KeyStanding) → (is_right (Some s) ≡ true) ↔ (s ≢ Outside)
right-inside Outside = ((λ is. absurd (let z : false ≡ true = is in cc)), (λ other. absurd (other refl)))
right-inside Between = ((λ _ is. let z : Between ≡ Outside = is in cc), (λ _. refl))
right-inside (Found value) = ((λ _ is. let z : Found value ≡ Outside = is in cc), (λ _. refl))

module _ (m : PageMemory) (bits : ℕ → ℕ) (law : IsLawful m bits 1) where
  tree : IsTreeOf m (height_of m 1) 1
  tree = (law.trees 1 (omega arith) (omega arith)).0

  at-leaf : (page : ℕ) (met : IsAmong page (leaves_of m 1)) → IsLeafAt m met.visit
  at-leaf page met = AllByRecursion-at (IsLeafAt m) met.before met.visit met.behind (subst (AllByRecursion (IsLeafAt m)) met.is tree.tree.leaves)

  leaf-weighs : (f : ℕ → Visit → ℕ) (page : ℕ) (met : IsAmong page (leaves_of m 1)) → f 0 met.visit ≤ weight_of f m 1
  leaf-weighs f page met =
      let sum = sum_of-append (f 0) met.before (met.visit ∷ met.behind) in
      let all = ap (sum_of (f 0)) met.is in
      let le = lowest-le_weight f m (height_of m 1) (top_of 1) in omega arith

  -- the page of a right guess is a leaf
  right-leaf : (page : ℕ) (key : MapKey) → IsRightGuess m page key → is_leaf (m page) ≡ true
  right-leaf page key right =
      let among = among-any page (leaves_of m 1) right.met in
      let leaf = at-leaf page among in
      leaf-of (m page) (ap (λ (n : ℕ). (m n).kind) (sym among.here) ∙ leaf.kind) (ap (λ (n : ℕ). (m n).level) (sym among.here) ∙ leaf.level)

  -- .. and that of the key
  pub right-is : (page : ℕ) (key : MapKey) → rank key < end_rank → IsRightGuess m page key → page ≡ leaf_for m key 1
  right-is page key lt right =
      let met = among-any page (leaves_of m 1) right.met in
      let leaf = at-leaf page met in
      let within : IsWithin key (m met.visit.page).records = subst (λ (n : ℕ). IsWithin key (m n).records) (sym met.here) right.within in
      let low = within-low key met.visit.low (m met.visit.page).records met.visit.high leaf.within within.first in
      let high = within-high key met.visit.low (m met.visit.page).records met.visit.high (length (m met.visit.page).records - 1) leaf.within within.last in
      let own = counts_visit-own 0 met.visit in
      let weighs = leaf-weighs (counts_visit 0 met.visit) page met in
      sym met.here ∙ leaf_on-path m 1 key met.visit.page (on-path_met m 1 tree key lt 0 met.visit (omega arith) low high)

  -- a page of the tree is met
  met-tree : (page : ℕ) → page ≢ 0 → (m page).kind ≡ Tree → 0 < weight_of (counts_page page) m 1
  met-tree page some kind = elim (cases_lt 0 (bits page)) [
    | inl pos ↦
        let none = bit-none page some in
        let is : bits page ≡ times_met m 1 page + 0 = bits-met law page ∙ ap (λ (n : ℕ). times_met m 1 page + n) none in omega arith
    | inr non ↦ absurd (let free : (m page).kind ≡ Free = law.unmet page (omega arith) in let e : Tree ≡ Free = sym kind ∙ free in cc)
  ]

  -- the page alone decides
  pub right-stands : (page : ℕ) (key : MapKey) → page ≢ 0 → (is_right (leaf_standing key (m page)) ≡ true) ↔ IsRightGuess m page key
  right-stands page key some = go (is_leaf (m page)) refl
    where
      stands : (b : Bool) → is_leaf (m page) ≡ b → leaf_standing key (m page) ≡ cond b (Some (standing_of key (m page).records)) None
      stands b is = ap (λ b. cond b (Some (standing_of key (m page).records)) None) is

      go : (b : Bool) → is_leaf (m page) ≡ b → (is_right (leaf_standing key (m page)) ≡ true) ↔ IsRightGuess m page key
      go false none = (
        (λ yes. absurd (let z : false ≡ true = sym (ap is_right (stands false none)) ∙ yes in cc)),
        (λ right. absurd (let z : false ≡ true = sym none ∙ right-leaf page key right in cc)),
      )
      go true is =
          let parts = leaf-parts (m page) is in
          let inside = right-inside (standing_of key (m page).records) in
          let within = within-by key 0 (m page).records end_rank (law.sound page some).ascends (standing_of key (m page).records) refl in (
            (λ yes. record {
              met = met-lowest m page (height_of m 1) (top_of 1) tree.tree parts.1 (met-tree page some parts.0);
              within = within.0 (inside.0 (sym (ap is_right (stands true is)) ∙ yes));
            }),
            (λ right. ap is_right (stands true is) ∙ inside.1 (within.1 right.within)),
          )

  -- page 0 is no leaf
  pub none-right : (key : MapKey) → IsRightGuess m 0 key → ⊥
  none-right key right =
      let met = among-any 0 (leaves_of m 1) right.met in
      let weighs = leaf-weighs (counts_page 0) 0 met in
      let own = counts_page-own 0 0 met.visit met.here in
      let none : times_met m 1 0 ≡ 0 = zero-unmet (λ n. MOST_RECORDS) m bits 1 law in absurd (omega arith)
