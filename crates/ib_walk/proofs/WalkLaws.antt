-- Levels: how they divide, and what leaves them as they are.
use Rattle.std.specs.List.{AllByRecursion}
use Rattle.std.proofs.Common.{◌≡◌, ℕ, zero, suc, ◌+◌, ◌<◌, ◌≤◌, List, [], ◌∷◌, ◌++◌, length, refl, sym, ap, subst, ◌∙◌, arith, append_assoc}
use Rattle.ib_map.specs.Keys.{rank}
use Rattle.ib_map.specs.Pairs.{Pairs, Rises, first_rank}
use Rattle.ib_walk.specs.Pages.{Tree, PageState, PageMemory}
use Rattle.ib_walk.specs.Walk.{Visit, children_of, children, below, records_along, sum_of, weight_along, IsNodeAt, IsLeafAt, IsTree}

module _ {X : Type 0} (P : X → Type 0) where
  pub AllByRecursion-append : (xs ys : List X) → AllByRecursion P xs → AllByRecursion P ys → AllByRecursion P (xs ++ ys)
  AllByRecursion-append [] ys a b = b
  AllByRecursion-append (x ∷ xs) ys a b = (a.0, AllByRecursion-append xs ys a.1 b)

  pub AllByRecursion-left : (xs ys : List X) → AllByRecursion P (xs ++ ys) → AllByRecursion P xs
  AllByRecursion-left [] ys h = tt
  AllByRecursion-left (x ∷ xs) ys h = (h.0, AllByRecursion-left xs ys h.1)

  pub AllByRecursion-right : (xs ys : List X) → AllByRecursion P (xs ++ ys) → AllByRecursion P ys
  AllByRecursion-right [] ys h = h
  AllByRecursion-right (x ∷ xs) ys h = AllByRecursion-right xs ys h.1

pub sum_of-append : (f : Visit → ℕ) (xs ys : List Visit) → sum_of f (xs ++ ys) ≡ sum_of f xs + sum_of f ys
sum_of-append f [] ys = omega arith
sum_of-append f (x ∷ xs) ys = let r = sum_of-append f xs ys in omega arith

pub children_of-append : (xs ys : Pairs) (high : ℕ) → children_of (xs ++ ys) high ≡ children_of xs (first_rank ys high) ++ children_of ys high
children_of-append [] ys high = refl
children_of-append (x ∷ []) [] high = refl
children_of-append (x ∷ []) (y ∷ ys) high = refl
children_of-append (x ∷ w ∷ xs) ys high = ap (λ vs. record { page = x.1; low = rank x.0; high = rank w.0 } ∷ vs) (children_of-append (w ∷ xs) ys high)

pub records_along-append : (m : PageMemory) (xs ys : List Visit) → records_along m (xs ++ ys) ≡ records_along m xs ++ records_along m ys
records_along-append m [] ys = refl
records_along-append m (x ∷ xs) ys = ap (λ zs. (m x.page).records ++ zs) (records_along-append m xs ys) ∙ sym (append_assoc (m x.page).records (records_along m xs) (records_along m ys))

pub children-append : (m : PageMemory) (xs ys : List Visit) → children m (xs ++ ys) ≡ children m xs ++ children m ys
children-append m [] ys = refl
children-append m (x ∷ xs) ys = ap (λ zs. children_of (m x.page).records x.high ++ zs) (children-append m xs ys) ∙ sym (append_assoc (children_of (m x.page).records x.high) (children m xs) (children m ys))

pub below-append : (m : PageMemory) (depth : ℕ) (xs ys : List Visit) → below m depth (xs ++ ys) ≡ below m depth xs ++ below m depth ys
below-append m zero xs ys = refl
below-append m (suc depth) xs ys = ap (below m depth) (children-append m xs ys) ∙ below-append m depth (children m xs) (children m ys)

pub weight_along-append : (f : ℕ → Visit → ℕ) (m : PageMemory) (height : ℕ) (xs ys : List Visit) → weight_along f m height (xs ++ ys) ≡ weight_along f m height xs + weight_along f m height ys
weight_along-append f m zero xs ys = sum_of-append (f zero) xs ys
weight_along-append f m (suc height) xs ys =
    let r = weight_along-append f m height (children m xs) (children m ys) in
    let s = sum_of-append (f (suc height)) xs ys in
    let t = ap (weight_along f m height) (children-append m xs ys) in
    omega arith

-- what a walk reads of a page
pub record IsAlike (new old : PageState) : Type 0 where
  pub kind : new.kind ≡ old.kind
  pub level : new.level ≡ old.level
  pub records : new.records ≡ old.records

pub IsAlike-same : (new old : PageState) → new ≡ old → IsAlike new old
IsAlike-same new old e = record { kind = ap (λ p. p.kind) e; level = ap (λ p. p.level) e; records = ap (λ p. p.records) e }

module _ (m new : PageMemory) where
  -- of a level, whose pages may have changed in their links and clocks alone
  abbrev pub AreAlike : List Visit → Type 0
  AreAlike vs = AllByRecursion (λ v. IsAlike (new v.page) (m v.page)) vs

  pub children-same : (vs : List Visit) → AreAlike vs → children new vs ≡ children m vs
  children-same [] h = refl
  children-same (v ∷ vs) h = let e = h.0.records in let r = children-same vs h.1 in cc

  pub records_along-same : (vs : List Visit) → AreAlike vs → records_along new vs ≡ records_along m vs
  records_along-same [] h = refl
  records_along-same (v ∷ vs) h = let e = h.0.records in let r = records_along-same vs h.1 in cc

  pub IsNodeAt-same : (height : ℕ) (v : Visit) → IsAlike (new v.page) (m v.page) → IsNodeAt m height v → IsNodeAt new height v
  IsNodeAt-same height v a h = record {
    kind = a.kind ∙ h.kind;
    level = a.level ∙ h.level;
    within = subst (λ rs. Rises v.low rs v.high) (sym a.records) h.within;
    first = ap (λ rs. first_rank rs v.high) a.records ∙ h.first;
    some = subst (λ (rs : Pairs). 0 < length rs) (sym a.records) h.some;
  }

  pub IsLeafAt-same : (v : Visit) → IsAlike (new v.page) (m v.page) → IsLeafAt m v → IsLeafAt new v
  IsLeafAt-same v a h = record {
    kind = a.kind ∙ h.kind;
    level = a.level ∙ h.level;
    within = subst (λ rs. Rises v.low rs v.high) (sym a.records) h.within;
  }

  pub nodes-same : (height : ℕ) (vs : List Visit) → AreAlike vs → AllByRecursion (IsNodeAt m height) vs → AllByRecursion (IsNodeAt new height) vs
  nodes-same height [] a h = tt
  nodes-same height (v ∷ vs) a h = (IsNodeAt-same height v a.0 h.0, nodes-same height vs a.1 h.1)

  pub leaves-same : (vs : List Visit) → AreAlike vs → AllByRecursion (IsLeafAt m) vs → AllByRecursion (IsLeafAt new) vs
  leaves-same [] a h = tt
  leaves-same (v ∷ vs) a h = (IsLeafAt-same v a.0 h.0, leaves-same vs a.1 h.1)

  pub AreAlike-nodes : (height : ℕ) (vs : List Visit) → ((p : ℕ) → (m p).kind ≡ Tree → (m p).level ≡ height → IsAlike (new p) (m p)) → AllByRecursion (IsNodeAt m height) vs → AreAlike vs
  AreAlike-nodes height [] same h = tt
  AreAlike-nodes height (v ∷ vs) same h = (same v.page h.0.kind h.0.level, AreAlike-nodes height vs same h.1)

  pub AreAlike-leaves : (vs : List Visit) → ((p : ℕ) → (m p).kind ≡ Tree → (m p).level ≡ 0 → IsAlike (new p) (m p)) → AllByRecursion (IsLeafAt m) vs → AreAlike vs
  AreAlike-leaves [] same h = tt
  AreAlike-leaves (v ∷ vs) same h = (same v.page h.0.kind h.0.level, AreAlike-leaves vs same h.1)

-- a level whose pages, and those below, are as they were
pub record IsSameTree (m new : PageMemory) (height : ℕ) (vs : List Visit) : Type 0 where
  pub tree : IsTree new height vs
  pub lowest : below new height vs ≡ below m height vs
  pub holds : records_along new (below new height vs) ≡ records_along m (below m height vs)
  pub weighs : (f : ℕ → Visit → ℕ) → weight_along f new height vs ≡ weight_along f m height vs

pub IsSameTree-below : (m new : PageMemory) (height : ℕ) (vs : List Visit) → ((p : ℕ) → (m p).kind ≡ Tree → (m p).level ≤ height → IsAlike (new p) (m p))
    → IsTree m height vs → IsSameTree m new height vs
IsSameTree-below m new zero vs same t =
    let a = AreAlike-leaves m new vs (λ p k e. same p k (omega arith)) t.leaves in
    record {
      tree = record { nodes = tt; leaves = leaves-same m new vs a t.leaves };
      lowest = refl;
      holds = records_along-same m new vs a;
      weighs = λ f. refl;
    }
IsSameTree-below m new (suc height) vs same t =
    let a = AreAlike-nodes m new (suc height) vs (λ p k e. same p k (omega arith)) t.nodes.0 in
    let e = children-same m new vs a in
    let r = IsSameTree-below m new height (children m vs) (λ p k l. same p k (omega arith)) (record { nodes = t.nodes.1; leaves = t.leaves }) in
    record {
      tree = record {
        nodes = (nodes-same m new (suc height) vs a t.nodes.0, rw e r.tree.nodes);
        leaves = rw e r.tree.leaves;
      };
      lowest = rw e r.lowest;
      holds = rw e r.holds;
      weighs = λ f. rw e (ap (λ n. sum_of (f (suc height)) vs + n) (r.weighs f));
    }
