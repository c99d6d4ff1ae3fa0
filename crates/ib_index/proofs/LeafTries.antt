-- A change that was tried on the key's leaf, after the path to it, was a call that was answered, or needs the tree.
use Rattle.std.proofs.Common.{◌≡◌, ℕ, ◌+◌, ◌≤◌, Bool, true, false, List, ◌++◌, length, Option, Some, None, take, refl, sym, ap, subst, ◌∙◌, arith, inl, inr}
use Rattle.ib_map.specs.Keys.{MapKey}
use Rattle.ib_map.specs.Pairs.{value_at}
use Rattle.ib_map.specs.declared.call.Call.{Call}
use Rattle.ib_map.specs.declared.call.Record.{Record}
use Rattle.ib_layout.specs.Geometry.{Sizes}
use Rattle.ib_logrec.specs.declared.entry.Entry.{Entry}
use Rattle.ib_logrec.specs.Log.{by_place}
use Rattle.ib_walk.specs.Pages.{PageState}
use Rattle.ib_tree.specs.TreeLog.{opening}
use Rattle.ib_planned_log.specs.Kept.{IsKeptLog}
use Rattle.ib_planned_log.specs.LeafChange.{kept_pages}
use Rattle.ib_rule.specs.declared.looks.Grants.{Grants}
use Rattle.ib_rule.specs.Pass.{PassState}
use Rattle.ib_rule.specs.Space.{SpaceState}
use Rattle.ib_mtr.specs.Mtr.{IsMtr, started}
use Rattle.ib_cursor.specs.Descent.{HasDescended, one_if}
use Rattle.ib_cursor.specs.Going.{WentOn}
use Rattle.ib_cursor.proofs.DownLaws.{raised_more}
use Rattle.ib_leaf.specs.Ends.{HasKeptLeaf, HasLeftLeaf, grants_for, reaches_log}
use Rattle.ib_leaf.specs.Leaf.{HasLeaf, IsSeated, WorksOnLeaf, leaf_page}
use Rattle.ib_index.specs.Leaf.{HasDescendedToLeaf, HasTriedLeaf, TakesFew}

-- the path ends at the leaf
pub reached : (sizes : Sizes) (key : MapKey) (path : List ℕ) (leaf : ℕ) (p q : PassState) → (d : HasDescended sizes (IsKeptLog sizes.pages) (by_place opening sizes.pages) 1 key true path p q)
    → leaf ≡ d.reached.leaf → IsSeated sizes q → HasDescendedToLeaf sizes key leaf p q
reached sizes key path leaf p q d is seated = subst (λ n. HasDescendedToLeaf sizes key n p q) (sym is) (record {
  went = d.reached.went;
  looked = d.reached.looked;
  at = record { is_leaf = d.reached.is_leaf; grants = d.reached.grants; watched = d.reached.watched; image = d.image; size = d.size; is_page = d.is_page; work = d.work; known = d.reached.known };
  seated = seated;
  takes = record {
    sx = d.reached.sx;
    s = d.reached.s;
    x = elim (d.reached.x refl) [
      | inl one ↦ inl (let e : q.view.grants.x ≡ p.view.grants.x + 1 = one in omega arith)
      | inr two ↦ inr (let e : q.view.grants.x ≡ p.view.grants.x + 2 = two.0 in omega arith, two.1)
    ];
  };
})

-- where the mini-transaction started is where the call began
went-started : (p q : PassState) (w : WentOn (started p) q) → WentOn p q
went-started p q w = record { table = w.table; sizes = w.sizes; number = w.number; own = w.own; more = w.more; seen = w.seen; added = w.added; ends = w.ends; bounds = w.bounds }

pub reached-started : (sizes : Sizes) (key : MapKey) (leaf : ℕ) (p q : PassState) → HasDescendedToLeaf sizes key leaf (started p) q → HasDescendedToLeaf sizes key leaf p q
unfolding went-started
reached-started sizes key leaf p q h = record {
  went = went-started p q h.went;
  looked = h.looked;
  at = h.at;
  seated = h.seated;
  takes = record { sx = h.takes.sx; s = h.takes.s; x = h.takes.x };
}

-- the session has come to the key's leaf, and knows the key's value there and how many records it has
pub record HasLookedIn (space : SpaceState) (key : MapKey) (leaf : ℕ) (value : Option ℕ) (count : ℕ) (p q : PassState) : Type 0 where
  pub reached : HasDescendedToLeaf space.sizes key leaf p q
  pub works : WorksOnLeaf space key leaf q
  pub value_is : value ≡ value_at key (leaf_page space.sizes key q).records
  pub count_is : count ≡ length (leaf_page space.sizes key q).records

-- .. by what is said of the space of the mini-transaction
pub looked-in : (space old : SpaceState) (key : MapKey) (leaf : ℕ) (value : Option ℕ) (count : ℕ) (p q : PassState) → old ≡ space → IsMtr old q → HasDescendedToLeaf space.sizes key leaf (started p) q
    → value ≡ value_at key (leaf_page old.sizes key q).records → count ≡ length (leaf_page old.sizes key q).records → HasLookedIn space key leaf value count p q
looked-in space old key leaf value count p q same mtr h value-is count-is =
    let reached = reached-started space.sizes key leaf p q h in
    record {
      reached = reached;
      works = record { mtr = subst (λ (s : SpaceState). IsMtr s q) same mtr; at = reached.at; seated = reached.seated };
      value_is = subst (λ (s : SpaceState). value ≡ value_at key (leaf_page s.sizes key q).records) same value-is;
      count_is = subst (λ (s : SpaceState). count ≡ length (leaf_page s.sizes key q).records) same count-is;
    }

-- the grants of the path, and so many more of X
takes-more : (sizes : Sizes) (p q r : PassState) (more : List Entry) (few : ℕ) → r.view.memory.seen ≡ q.view.memory.seen ++ more → r.view.grants.sx ≡ q.view.grants.sx → r.view.grants.s ≡ q.view.grants.s
    → r.view.grants.x ≤ q.view.grants.x + few → TakesFew sizes 1 p q → TakesFew sizes (1 + few) p r
takes-more sizes p q r more few seen sx s x takes = record {
  sx = sx ∙ takes.sx;
  s = let a = takes.s in omega arith;
  x = elim takes.x [
    | inl one ↦ inl (let e : q.view.grants.x ≤ p.view.grants.x + 1 = one in omega arith)
    | inr two ↦ inr (let e : q.view.grants.x ≤ p.view.grants.x + 1 + 1 = two.0 in omega arith, raised_more (by_place opening sizes.pages) 1 p.view.memory.seen q.view.memory.seen more r.view.memory.seen seen two.1)
  ];
}

-- so the change was tried as a call: what it left of the leaf, and what the path to the leaf took
module _ (space : SpaceState) (why : ℕ → PageState → Type 0) (key : MapKey) (leaf : ℕ) (p q : PassState) (h : HasDescendedToLeaf space.sizes key leaf p q) (call : Call) where
  abbrev sizes : Sizes
  sizes = space.sizes

  -- the leaf is of the kind that it was
  kind-kept : (log : List Entry) → HasKeptLeaf sizes key leaf q log → why leaf (leaf_page sizes key q) → HasLeaf sizes why key log
  kind-kept log kept needs =
      subst (λ n. why n (kept_pages sizes.pages log n)) kept.here (subst (why leaf) (sym kept.page) needs)

  kind-was : (log : List Entry) → HasKeptLeaf sizes key leaf q log → HasLeaf sizes why key log → why leaf (leaf_page sizes key q)
  kind-was log kept has =
      subst (why leaf) kept.page (subst (λ n. why n (kept_pages sizes.pages log n)) (sym kept.here) has)

  pub tried : (answer : Option Record) (r : PassState) → HasLeftLeaf space why key leaf call answer q r → HasTriedLeaf sizes why key call answer p r
  tried None r left =
      let g = left.grants in
      record {
        called = record { stopped = left.called p h.went h.looked; needs = kind-kept r.view.memory.seen left.kept left.needs };
        alone = tt;
        grants = takes-more sizes p q r left.end.more 0 left.end.seen
            (ap (λ (v : Grants). v.sx) g) (ap (λ (v : Grants). v.s) g) (let x = ap (λ (v : Grants). v.x) g in omega arith) h.takes;
        forgotten = left.forgotten;
      }
  tried (Some answer) r left = record {
    called = left.called p h.went h.looked;
    alone = record { alone = λ has. left.needs (kind-was (take answer.place r.view.memory.seen) left.kept has) };
    grants = takes (reaches_log answer.reply) left.grants;
    forgotten = left.forgotten;
  }
    where
      takes : (b : Bool) → r.view.grants ≡ grants_for b q.view.grants → TakesFew sizes (1 + one_if b) p r
      takes false g = takes-more sizes p q r left.end.more 0 left.end.seen
          (ap (λ (v : Grants). v.sx) g) (ap (λ (v : Grants). v.s) g) (let x = ap (λ (v : Grants). v.x) g in omega arith) h.takes
      takes true g = takes-more sizes p q r left.end.more 1 left.end.seen
          (ap (λ (v : Grants). v.sx) g) (ap (λ (v : Grants). v.s) g) (let x = ap (λ (v : Grants). v.x) g in omega arith) h.takes
