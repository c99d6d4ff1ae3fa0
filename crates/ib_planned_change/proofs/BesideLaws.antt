-- The pages beside the key's child under a node of the key's path.
use Rattle.std.specs.Prelude.{IsSomeAnd, IfSome, slice_get, unwrap_or}
use Rattle.std.proofs.Common.{◌≡◌, ℕ, suc, ◌-◌, ◌<◌, ◌≤◌, List, [], ◌∷◌, ◌++◌, length, Option, Some, None, refl, sym, ap, subst, ◌∙◌, arith, inl, inr, append_assoc}
use Rattle.std.proofs.lemmas.Bool.{cases_eq}
use Rattle.ib_map.specs.Keys.{MapKey, rank}
use Rattle.ib_map.specs.Pairs.{Pairs}
use Rattle.ib_map.proofs.KeyLaws.{rank-lt_end}
use Rattle.ib_logrec.specs.declared.entry.Entry.{Entry}
use Rattle.ib_walk.specs.Pages.{Tree, PageMemory}
use Rattle.ib_walk.specs.Search.{child_for, page_below}
use Rattle.ib_walk.specs.Trees.{height_of}
use Rattle.ib_walk.proofs.SearchLaws.{above}
use Rattle.ib_plans.specs.Merge.{Siblings, siblings_of}
use Rattle.ib_plans.proofs.LevelLaws.{above-sum}
use Rattle.ib_plans.proofs.PathLaws.{page_below-child}
use Rattle.ib_plans.proofs.SiblingLaws.{SiblingPages, SiblingPages-path}
use Rattle.ib_plans.proofs.SiblingRecordLaws.{HasSiblings as AreSiblings, HasSiblings-of, one_or_none}
use Rattle.ib_planned_log.specs.LeafChange.{kept_pages, leaf_after}
use Rattle.ib_planned_change.specs.Copies.{IsBehind}
use Rattle.ib_planned_change.specs.Steps.{IsBeforeTree, last_beside}
use Rattle.ib_planned_change.proofs.BehindLaws.{bits-behind, lawful-behind, tree-within}
use Rattle.ib_planned_change.proofs.DescentLaws.{leaf-before, path-first, path-page}

-- what holds of a value that there may be
pub if-more : {X : Type 0} (P Q : X → Type 0) (o : Option X) → ((x : X) → P x → Q x) → IfSome o P → IfSome o Q
if-more P Q None f h = tt
if-more P Q (Some x) f h = f x h

module _ (log : List Entry) (images : List (List ℕ)) (b : IsBehind log images) (key : MapKey) (parent depth : ℕ) (lt : depth < height_of (kept_pages (length images) log) 1)
    (at : parent ≡ page_below (kept_pages (length images) log) key depth 1) where
  abbrev m : PageMemory
  m = kept_pages (length images) log

  abbrev t : Siblings
  t = siblings_of key (kept_pages (length images) log parent).records

  abbrev height : ℕ
  height = height_of (kept_pages (length images) log) 1 - suc depth

  tall : height_of (kept_pages (length images) log) 1 ≡ above depth (suc (height_of (kept_pages (length images) log) 1 - suc depth))
  tall = let e = above-sum depth (suc (height_of m 1 - suc depth)) in omega arith

  pub parent-kind : (kept_pages (length images) log parent).kind ≡ Tree
  parent-kind = subst (λ n. (m n).kind ≡ Tree) (sym at) (path-page log images b key depth (omega arith)).kind

  pub parent-in : parent < length images
  parent-in = tree-within log images b parent parent-kind

  records-of : (xs : Pairs) → IsSomeAnd (slice_get xs 0) (λ r. rank r.0 ≤ rank key) → AreSiblings xs (child_for key 0 xs) (siblings_of key xs)
  records-of [] none = absurd none
  records-of (x ∷ xs) first = HasSiblings-of key (x ∷ xs) (omega arith) first

  hs : AreSiblings (kept_pages (length images) log parent).records (child_for key 0 (kept_pages (length images) log parent).records) (siblings_of key (kept_pages (length images) log parent).records)
  hs = records-of (m parent).records (subst (λ n. IsSomeAnd (slice_get (m n).records 0) (λ r. rank r.0 ≤ rank key)) (sym at) (path-first log images b key depth lt))

  left-is : (l : MapKey × ℕ) → t.left ≡ Some l → (m parent).records ≡ hs.before ++ l ∷ t.here ∷ (one_or_none t.right ++ hs.behind)
  left-is l e = subst (λ (o : Option (MapKey × ℕ)). (m parent).records ≡ hs.before ++ (one_or_none o ++ t.here ∷ (one_or_none t.right ++ hs.behind))) e hs.is

  right-is : (r : MapKey × ℕ) → t.right ≡ Some r → (m parent).records ≡ (hs.before ++ one_or_none t.left) ++ t.here ∷ r ∷ hs.behind
  right-is r e =
      subst (λ (o : Option (MapKey × ℕ)). (m parent).records ≡ hs.before ++ (one_or_none t.left ++ t.here ∷ (one_or_none o ++ hs.behind))) e hs.is
      ∙ sym (append_assoc hs.before (one_or_none t.left) (t.here ∷ r ∷ hs.behind))

  beside : (before : Pairs) (pair gone : MapKey × ℕ) (behind : Pairs) → (m parent).records ≡ before ++ pair ∷ gone ∷ behind → SiblingPages m (height_of (kept_pages (length images) log) 1 - suc depth) parent pair.1 gone.1
  beside before pair gone behind is =
      SiblingPages-path m (bits-behind log images b) 1 (lawful-behind log images b).law key (rank-lt_end key) 1 (omega arith) (omega arith) depth (height_of m 1 - suc depth) tall parent (sym at) before pair gone behind is

  -- the key's child is the next page of the path
  pub here-is : (siblings_of key (kept_pages (length images) log parent).records).here.1 ≡ page_below (kept_pages (length images) log) key (suc depth) 1
  here-is = hs.here ∙ (ap (λ n. child_for key 0 (m n).records) at ∙ sym (page_below-child m key depth 1))

  here-kind : (m t.here.1).kind ≡ Tree
  here-kind = subst (λ n. (m n).kind ≡ Tree) (sym here-is) (path-page log images b key (suc depth) (omega arith)).kind

  -- .. and those beside it are of the tree
  pub left-kind : IfSome (siblings_of key (kept_pages (length images) log parent).records).left (λ l. (kept_pages (length images) log l.1).kind ≡ Tree)
  left-kind = go t.left refl
    where
      go : (o : Option (MapKey × ℕ)) → t.left ≡ o → IfSome o (λ l. (m l.1).kind ≡ Tree)
      go None e = tt
      go (Some l) e = (beside hs.before l t.here (one_or_none t.right ++ hs.behind) (left-is l e)).left_kind

  pub right-kind : IfSome (siblings_of key (kept_pages (length images) log parent).records).right (λ r. (kept_pages (length images) log r.1).kind ≡ Tree)
  right-kind = go t.right refl
    where
      go : (o : Option (MapKey × ℕ)) → t.right ≡ o → IfSome o (λ r. (m r.1).kind ≡ Tree)
      go None e = tt
      go (Some r) e = (beside (hs.before ++ one_or_none t.left) t.here r hs.behind (right-is r e)).gone_kind

  -- a node has no page behind it
  here-next : (suc depth ≡ height_of m 1 → ⊥) → (m t.here.1).next ≡ 0
  here-next ne =
      let p = path-page log images b key (suc depth) (omega arith) in
      let level : (m t.here.1).level ≡ height_of m 1 - suc depth = ap (λ n. (m n).level) here-is ∙ p.level in
      let sound = (lawful-behind log images b).law.sound t.here.1 (λ z. p.some (sym here-is ∙ z)) in
      (sound.node (omega (arith, ne, level))).1

  last-of : (o : Option (MapKey × ℕ)) → t.right ≡ o → IsBeforeTree m (unwrap_or o t.here).1
  last-of (Some r) e =
      let p = beside (hs.before ++ one_or_none t.left) t.here r hs.behind (right-is r e) in
      (p.gone_kind, λ ne. (p.behind ne).kind)
  last-of None e = elim (cases_eq (suc depth) (height_of m 1)) [
    | inl low ↦
        let leaf : t.here.1 ≡ leaf_after (length images) log key = here-is ∙ ap (λ d. page_below m key d 1) low in
        subst (IsBeforeTree m) (sym leaf) (leaf-before log images b key)
    | inr ne ↦ (here-kind, λ some. absurd (some (here-next ne)))
  ]

  -- so the rightmost is one of the tree, and so is the leaf behind it
  pub last-before : IsBeforeTree (kept_pages (length images) log) (last_beside (kept_pages (length images) log) key parent)
  last-before = last-of t.right refl

  -- above the lowest nodes there is no page behind it
  pub last-next : (suc depth ≡ height_of (kept_pages (length images) log) 1 → ⊥) → (kept_pages (length images) log (last_beside (kept_pages (length images) log) key parent)).next ≡ 0
  last-next ne = go t.right refl
    where
      go : (o : Option (MapKey × ℕ)) → t.right ≡ o → (m (unwrap_or o t.here).1).next ≡ 0
      go None e = here-next ne
      go (Some r) e = (beside (hs.before ++ one_or_none t.left) t.here r hs.behind (right-is r e)).node (omega (arith, ne))
