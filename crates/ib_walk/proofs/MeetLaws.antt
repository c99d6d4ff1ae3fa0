-- How often a page is met, and what it means for a change.
use Rattle.std.specs.List.{AllByRecursion}
use Rattle.std.proofs.Common.{◌≡◌, ℕ, zero, suc, ◌+◌, ◌<◌, ◌≤◌, false, List, [], ◌∷◌, ◌++◌, refl, ap, ◌∙◌, arith, eqb, ◌≢◌}
use Rattle.std.proofs.lemmas.Bool.{eq-eqb}
use Rattle.std.proofs.lemmas.Bool.Decides.{nat_tests}
use Rattle.ib_walk.specs.Pages.{PageState, PageMemory}
use Rattle.ib_walk.specs.Walk.{Visit, children, below, sum_of, weight_along, counts_page, last_page, IsTree, AreLinked}
use Rattle.ib_walk.proofs.WalkLaws.{sum_of-append, IsAlike, IsSameTree, children-same, records_along-same, nodes-same, leaves-same}

pub counts_page-own : (p height : ℕ) (v : Visit) → v.page ≡ p → counts_page p height v ≡ 1
counts_page-own p height v e = let yes = eq-eqb v.page p e in rw yes refl

pub counts_page-other : (p height : ℕ) (v : Visit) → v.page ≢ p → counts_page p height v ≡ 0
counts_page-other p height v ne = let no : eqb v.page p ≡ false = grind (arith, nat_tests) in rw no refl

pub sum_of-own : (p height : ℕ) (xs : List Visit) (v : Visit) (ys : List Visit) → v.page ≡ p
    → sum_of (counts_page p height) (xs ++ v ∷ ys) ≡ sum_of (counts_page p height) xs + 1 + sum_of (counts_page p height) ys
sum_of-own p height xs v ys e =
    let r = sum_of-append (counts_page p height) xs (v ∷ ys) in let s = counts_page-own p height v e in omega arith

module _ (P : ℕ → Type 0) where
  pub AllByRecursion-met : (height : ℕ) (vs : List Visit) → ((p : ℕ) → 0 < sum_of (counts_page p height) vs → P p) → AllByRecursion (λ v. P v.page) vs
  AllByRecursion-met height [] h = tt
  AllByRecursion-met height (v ∷ vs) h =
      (let e = counts_page-own v.page height v refl in h v.page (omega arith), AllByRecursion-met height vs (λ p l. h p (omega arith)))

  pub AllByRecursion-other : (p height : ℕ) (vs : List Visit) → sum_of (counts_page p height) vs ≡ 0 → ((q : ℕ) → q ≢ p → P q) → AllByRecursion (λ v. P v.page) vs
  AllByRecursion-other p height [] none h = tt
  AllByRecursion-other p height (v ∷ vs) none h =
      (h v.page (λ e. let s = counts_page-own p height v e in omega arith), AllByRecursion-other p height vs (omega arith) h)

pub lowest-le_weight : (f : ℕ → Visit → ℕ) (m : PageMemory) (height : ℕ) (vs : List Visit) → sum_of (f 0) (below m height vs) ≤ weight_along f m height vs
lowest-le_weight f m zero vs = omega arith
lowest-le_weight f m (suc height) vs = let r = lowest-le_weight f m height (children m vs) in omega arith

-- a tree none of whose pages has changed, but in links and clocks
pub IsSameTree-met : (m new : PageMemory) (height : ℕ) (vs : List Visit) → ((p : ℕ) → 0 < weight_along (counts_page p) m height vs → IsAlike (new p) (m p))
    → IsTree m height vs → IsSameTree m new height vs
IsSameTree-met m new zero vs same t =
    let a = AllByRecursion-met (λ p. IsAlike (new p) (m p)) 0 vs same in
    record {
      tree = record { nodes = tt; leaves = leaves-same m new vs a t.leaves };
      lowest = refl;
      holds = records_along-same m new vs a;
      weighs = λ f. refl;
    }
IsSameTree-met m new (suc height) vs same t =
    let a = AllByRecursion-met (λ p. IsAlike (new p) (m p)) (suc height) vs (λ p l. same p (omega arith)) in
    let e = children-same m new vs a in
    let r = IsSameTree-met m new height (children m vs) (λ p l. same p (omega arith)) (record { nodes = t.nodes.1; leaves = t.leaves }) in
    record {
      tree = record {
        nodes = (nodes-same m new (suc height) vs a t.nodes.0, rw e r.tree.nodes);
        leaves = rw e r.tree.leaves;
      };
      lowest = rw e r.lowest;
      holds = rw e r.holds;
      weighs = λ f. rw e (ap (λ n. sum_of (f (suc height)) vs + n) (r.weighs f));
    }

pub record HasLinks (new old : PageState) : Type 0 where
  pub prev : new.prev ≡ old.prev
  pub next : new.next ≡ old.next

-- the links behind some leaves
pub AreLinked-right : (m : PageMemory) (prev : ℕ) (xs ys : List Visit) (next : ℕ) → AreLinked m prev (xs ++ ys) next → AreLinked m (last_page prev xs) ys next
AreLinked-right m prev [] ys next h = h
AreLinked-right m prev (x ∷ xs) ys next h = AreLinked-right m x.page xs ys next h.2

pub AreLinked-same : (m new : PageMemory) (prev : ℕ) (vs : List Visit) (next : ℕ) → AllByRecursion (λ v. HasLinks (new v.page) (m v.page)) vs → AreLinked m prev vs next → AreLinked new prev vs next
AreLinked-same m new prev [] next a h = tt
AreLinked-same m new prev (v ∷ vs) next a h = (a.0.prev ∙ h.0, a.0.next ∙ h.1, AreLinked-same m new v.page vs next a.1 h.2)
