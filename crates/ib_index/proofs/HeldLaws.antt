-- What of a tree is held, whichever pages beside the key's path: it is there, as it is in the tree.
use Rattle.std.specs.List.{AllByRecursion}
use Rattle.std.specs.Prelude.{IsSome, IsSomeAnd, ◌==◌, ◌||◌}
use Rattle.std.proofs.Common.{◌≡◌, ◌≢◌, inl, inr, ℕ, zero, suc, ◌<◌, ◌≤◌, Bool, true, false, cond, List, [], ◌∷◌, ◌++◌, Option, Some, None, length, refl, sym, ap, subst, ◌∙◌, arith, eq-eqb, ne_eqb}
use Rattle.std.proofs.lemmas.Bool.{cases_eq}
use Rattle.std.proofs.lemmas.List.Elements.{All-nil, All-cons}
use Rattle.std.proofs.lemmas.List.Folds.{list_any-append}
use Rattle.ib_map.specs.Keys.{MapKey, rank, end_rank}
use Rattle.ib_map.proofs.KeyLaws.{rank-lt_end}
use Rattle.ib_page.specs.Form.{page_of}
use Rattle.ib_page.specs.Image.{IsTreePage}
use Rattle.ib_page.specs.Work.{WorkPage, changed_of}
use Rattle.ib_walk.specs.Pages.{PageMemory, Tree}
use Rattle.ib_walk.specs.Search.{child_for}
use Rattle.ib_walk.specs.Trees.{IsLawful, height_of}
use Rattle.ib_plans.specs.Agreement.{Agrees, HasTreePages, IsThere, last_of, memory_in, state_or_free, path_down}
use Rattle.ib_split.proofs.OnPathLaws.{path-length}
use Rattle.ib_tree.specs.PageLists.{is_listed}
use Rattle.ib_cursor.specs.Claims.{beside}
use Rattle.ib_cursor.specs.OnPath.{IsOnPath}
use Rattle.ib_plans.proofs.EditLaws.{state-tree}
use Rattle.ib_cursor.proofs.OnPathLaws.{bit_on-path, child_on-path, page_on-path, root_on-path}
use Rattle.ib_mtr.proofs.Lists.{or_true}

pub among-both : (xs ys : List ℕ) (n : ℕ) → is_listed (xs ++ ys) n ≡ (is_listed xs n || is_listed ys n)
among-both xs ys n = list_any-append (λ (p : ℕ). p == n) xs ys

pub each-among : (P : ℕ → Type 0) (ns : List ℕ) (n : ℕ) → AllByRecursion P ns → is_listed ns n ≡ true → P n
each-among P [] n all is = cc
each-among P (x ∷ xs) n all is = elim (cases_eq x n) [
  | inl e ↦ subst P e all.0
  | inr ne ↦ each-among P xs n all.1 (sym (ap (λ b. b || is_listed xs n) (ne_eqb x n ne)) ∙ is)
]

pub among-beside : (l n : ℕ) → is_listed (beside l) n ≡ true → (l ≡ n) × (l ≢ 0)
among-beside l n among = elim (cases_eq l 0) [
  | inl z ↦ let e : beside l ≡ [] = ap (λ b. cond b [] (l ∷ [])) (eq-eqb l 0 z) in let bad : false ≡ true = sym (ap (λ ns. is_listed ns n) e) ∙ among in cc
  | inr ne ↦
      let e : beside l ≡ l ∷ [] = ap (λ b. cond b [] (l ∷ [])) (ne_eqb l 0 ne) in
      let has : ((l == n) || false) ≡ true = sym (ap (λ ns. is_listed ns n) e) ∙ among in
      elim (cases_eq l n) [
        | inl same ↦ (same, ne)
        | inr apart ↦ let bad : false ≡ true = sym (ap (λ b. b || false) (ne_eqb l n apart)) ∙ has in cc
      ]
]

pub beside-own : (n : ℕ) → n ≢ 0 → is_listed (beside n) n ≡ true
beside-own n ne = ap (λ (b : Bool). is_listed (cond b [] (n ∷ [])) n) (ne_eqb n 0 ne) ∙ ap (λ b. b || false) (eq-eqb n n refl)

pub last-of : (front : List ℕ) (leaf : ℕ) → last_of (front ++ leaf ∷ []) ≡ leaf
last-of [] leaf = refl
last-of (x ∷ []) leaf = refl
last-of (x ∷ y ∷ ys) leaf = last-of (y ∷ ys) leaf

pub tree-some : (o : Option (List ℕ)) → IsSome o → (state_or_free o).kind ≡ Tree → IsSomeAnd o IsTreePage
tree-some None there kind = cc
tree-some (Some image) there kind = state-tree (page_of image) kind

-- a page of the trees
abbrev pub IsPageOfTree : PageMemory → ℕ → Type 0
IsPageOfTree m n = ((m n).kind ≡ Tree) × (n ≢ 0)

-- what holds of each page that is listed holds of all
pub each-of : (P : ℕ → Type 0) (xs : List ℕ) → ((n : ℕ) → is_listed xs n ≡ true → P n) → AllByRecursion P xs
each-of P [] f = tt
each-of P (x ∷ xs) f = (f x (ap (λ b. b || is_listed xs x) (eq-eqb x x refl)), each-of P xs (λ n among. f n (or_true (x == n) (is_listed xs n) among)))

last-among : (ns : List ℕ) → 0 < length ns → is_listed ns (last_of ns) ≡ true
last-among [] some = absurd (omega arith)
last-among (x ∷ []) some = ap (λ b. b || false) (eq-eqb x x refl)
last-among (x ∷ y ∷ ys) some = or_true (x == last_of (y ∷ ys)) (is_listed (y ∷ ys) (last_of (y ∷ ys))) (last-among (y ∷ ys) (omega arith))

-- a page on a key's path is one of the tree
pub page-kind : (m : PageMemory) (bits : ℕ → ℕ) (roots root : ℕ) (some : 0 < root) (within : root ≤ roots) (law : IsLawful m bits roots) (key : MapKey) (lt : rank key < end_rank)
    → (level page : ℕ) → IsOnPath m root key page level → IsPageOfTree m page
page-kind m bits roots root some within law key lt level page o = ((page_on-path m root key page level (law.trees root some within).0 lt o).kind, (bit_on-path m bits roots root key page level law some within lt o).0)

module _ (pages roots root : ℕ) (key : MapKey) (path : List ℕ) (work : List WorkPage) (m : PageMemory) (bits : ℕ → ℕ) (a : Agrees pages roots root key path work m bits) where
  lt : rank key < end_rank
  lt = rank-lt_end key

  on-kind : (level n : ℕ) → IsOnPath m root key n level → IsPageOfTree m n
  on-kind = page-kind m bits roots root a.some a.within a.lawful key lt

  down-kind : (n level page : ℕ) → IsOnPath m root key page level → is_listed (path_down m key level page) n ≡ true → IsPageOfTree m n
  down-kind n zero page o among = elim (cases_eq page n) [
    | inl e ↦ subst (IsPageOfTree m) e (on-kind 0 page o)
    | inr ne ↦ let z : false ≡ true = sym (ap (λ b. b || false) (ne_eqb page n ne)) ∙ among in cc
  ]
  down-kind n (suc level) page o among = elim (cases_eq page n) [
    | inl e ↦ subst (IsPageOfTree m) e (on-kind (suc level) page o)
    | inr ne ↦ down-kind n level (child_for key 0 (m page).records) (child_on-path m root key page level o)
        (sym (ap (λ b. b || is_listed (path_down m key level (child_for key 0 (m page).records)) n) (ne_eqb page n ne)) ∙ among)
  ]

  pub path-kind : (n : ℕ) → is_listed path n ≡ true → IsPageOfTree m n
  path-kind n among = down-kind n (height_of m root) root (root_on-path m root key) (sym (ap (λ ns. is_listed ns n) a.way) ∙ among)

  tree-at : (n level : ℕ) → IsOnPath m root key n level → IsThere work n → IsSomeAnd (changed_of n work) IsTreePage
  tree-at n level o there = let k = on-kind level n o in tree-some (changed_of n work) there (ap (λ s. s.kind) (a.same n k.1 there) ∙ k.0)

  trees-down : (level n : ℕ) → IsOnPath m root key n level → ((k : ℕ) → is_listed (path_down m key level n) k ≡ true → IsThere work k) → HasTreePages (path_down m key level n) work
  trees-down zero n o there = All-cons (λ k. IsSomeAnd (changed_of k work) IsTreePage) n [] (tree-at n 0 o (there n (ap (λ b. b || false) (eq-eqb n n refl)))) (All-nil (λ k. IsSomeAnd (changed_of k work) IsTreePage))
  trees-down (suc level) n o there =
      let child = child_for key 0 (m n).records in
      All-cons (λ k. IsSomeAnd (changed_of k work) IsTreePage) n (path_down m key level child)
      (tree-at n (suc level) o (there n (ap (λ b. b || is_listed (path_down m key level child) n) (eq-eqb n n refl))))
      (trees-down level child (child_on-path m root key n level o) (λ k among. there k (or_true (n == k) (is_listed (path_down m key level child) k) among)))

  -- what is held is there, the path among it, and page 0 is not
  module _ (held : List ℕ) (ways : (n : ℕ) → is_listed path n ≡ true → is_listed held n ≡ true) (there : (n : ℕ) → is_listed held n ≡ true → IsThere work n) where
    pub held-trees : HasTreePages path work
    held-trees = subst (λ ns. HasTreePages ns work) (sym a.way) (trees-down (height_of m root) root (root_on-path m root key) (λ k among. there k (ways k (ap (λ ns. is_listed ns k) a.way ∙ among))))

    pub held-last : is_listed held (last_of path) ≡ true
    held-last = ways (last_of path) (last-among path (let l = path-length pages roots root key path work m bits a in omega arith))

    module _ (some : (n : ℕ) → is_listed held n ≡ true → n ≢ 0) where
      pub held-same : (n : ℕ) → is_listed held n ≡ true → memory_in work n ≡ m n
      held-same n among = a.same n (some n among) (there n among)

      pub held-zero : is_listed held 0 ≡ false
      held-zero = go (is_listed held 0) refl
        where
          go : (b : Bool) → is_listed held 0 ≡ b → is_listed held 0 ≡ false
          go true among = absurd (some 0 among refl)
          go false none = none
