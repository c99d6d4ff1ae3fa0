-- The parts of a whole delete that changes the tree's structure.
use Rattle.std.specs.List.{AllByRecursion}
use Rattle.std.specs.Prelude.{IsSome, IfSome, MatchOption, get_or}
use Rattle.std.proofs.Common.{◌≡◌, ℕ, ◌+◌, ◌<◌, ◌≤◌, true, false, List, [], ◌∷◌, append-nil, length, map, refl, sym, ap, subst, ◌∙◌, arith, Option, Some, None}
use Rattle.ib_map.specs.Keys.{MapKey}
use Rattle.ib_map.specs.Pairs.{value_at}
use Rattle.ib_levels.specs.declared.level.Level.{Level}
use Rattle.ib_levels.specs.declared.level.Level.TheVariants.{Log, Space}
use Rattle.ib_levels.specs.Level.{may_follow}
use Rattle.ib_layout.specs.Geometry.{Sizes}
use Rattle.ib_logrec.specs.Log.{by_place, memory_after}
use Rattle.ib_page.specs.Work.{WorkPage, changed_of}
use Rattle.ib_walk.specs.Pages.{PageState}
use Rattle.ib_walk.specs.Words.{bits_of}
use Rattle.ib_plans.specs.Agreement.{IsThere, last_of, memory_in, state_or_free}
use Rattle.ib_plans.specs.Merge.{siblings_of}
use Rattle.ib_merge.specs.Deletes.{CanDelete, HasDeleteImages, HasNext, HasSiblings, nodes_on_path}
use Rattle.ib_tree.specs.PageLists.{is_listed}
use Rattle.ib_tree.specs.TreeLog.{opening}
use Rattle.ib_planned_log.specs.LeafChange.{kept_pages}
use Rattle.ib_rule.specs.declared.looks.Grants.{Grants}
use Rattle.ib_rule.specs.Pass.{PassState}
use Rattle.ib_rule.specs.Views.{total}
use Rattle.ib_mtr.specs.Mtr.{started}
use Rattle.ib_cursor.specs.Claims.{claim_grant}
use Rattle.ib_cursor.specs.Going.{WentOn}
use Rattle.ib_cursor.specs.Grants.{Grant}
use Rattle.ib_cursor.proofs.LatchingLaws.{looked_first, went_both}
use Rattle.ib_index.specs.Grows.{HasGrown, IsGrowing, held_grant, most_held, space_pages, tree_pages}
use Rattle.ib_leaf.specs.Leaf.{IsSeated}
use Rattle.ib_index.specs.Shrinks.{HasChildren, HasClaimedSiblings, HasWithNext}
use Rattle.ib_index.proofs.AgreeLaws.{agrees-now}
use Rattle.ib_index.proofs.FreshLaws.{follow-log, length-all}
use Rattle.ib_index.proofs.GrowWhole.{value-kept}
use Rattle.ib_index.proofs.SpaceTicks.{may-tick}

-- where the mini-transaction started is where the call began
pub siblings-started : (sizes : Sizes) (key : MapKey) (path : List ℕ) (p q : PassState) → HasClaimedSiblings sizes key path (started p) q → HasClaimedSiblings sizes key path p q
siblings-started sizes key path p q h = record {
  held = h.held;
  growing = h.growing;
  children = h.children;
  zero = h.zero;
  few = h.few;
  went = record { table = h.went.table; sizes = h.went.sizes; number = h.went.number; own = h.went.own; more = h.went.more; seen = h.went.seen; added = h.went.added; ends = h.went.ends; bounds = h.went.bounds };
  looked = h.looked;
  claims = h.claims;
  grants = h.grants;
}

-- pages that are there stay as they are
module _ (key : MapKey) (old new : List WorkPage) (same : (n : ℕ) → IsThere old n → changed_of n new ≡ changed_of n old) where
  there-still : (n : ℕ) → IsThere old n → IsThere new n
  there-still n there = subst IsSome (sym (same n there)) there

  page-still : (n : ℕ) → IsThere old n → memory_in new n ≡ memory_in old n
  page-still n there = ap state_or_free (same n there)

  next-still : (n : ℕ) → HasWithNext old n → HasNext new n
  next-still n has =
      let next = ap (λ s. s.next) (page-still n has.0) in
      λ ne. subst (IsThere new) (sym next) (there-still (memory_in old n).next (has.1 (λ z. ne (next ∙ z))))

  some-still : (o : Option (MapKey × ℕ)) → IfSome o (λ x. IsThere old x.1) → IfSome o (λ x. IsThere new x.1)
  some-still None h = tt
  some-still (Some x) h = there-still x.1 h

  last-still : (o : Option (MapKey × ℕ)) (here : MapKey × ℕ) → MatchOption o (HasWithNext old here.1) (λ x. HasWithNext old x.1) → MatchOption o (HasNext new here.1) (λ x. HasNext new x.1)
  last-still None here h = next-still here.1 h
  last-still (Some x) here h = next-still x.1 h

  siblings-still : (parent : ℕ) → HasChildren key old parent → HasSiblings key new parent
  siblings-still parent h =
      let t = siblings_of key (memory_in old parent).records in
      subst (λ (s : PageState). let t = siblings_of key s.records in IfSome t.left (λ x. IsThere new x.1) × IfSome t.right (λ x. IsThere new x.1)) (sym (page-still parent h.node))
      (some-still t.left h.siblings.0, some-still t.right h.siblings.1)

  behind-still : (parent : ℕ) → HasChildren key old parent
      → let t = siblings_of key (memory_in new parent).records in MatchOption t.right (HasNext new t.here.1) (λ x. HasNext new x.1)
  behind-still parent h =
      let t = siblings_of key (memory_in old parent).records in
      subst (λ (s : PageState). let t = siblings_of key s.records in MatchOption t.right (HasNext new t.here.1) (λ x. HasNext new x.1)) (sym (page-still parent h.node))
      (last-still t.right t.here h.last)

-- all that the delete reads and writes is held: the path with the pages beside it, and page 0 behind them; and the key has this value
pub record IsReadyToShrink (sizes : Sizes) (key : MapKey) (path : List ℕ) (value : ℕ) (p t : PassState) : Type 0 where
  pub held : List (ℕ × Level)
  pub growing : IsGrowing sizes key path held t
  pub short : length held ≤ most_held
  pub follow : AllByRecursion (λ (g : Grant). may_follow g.level Log ≡ true) (claim_grant ∷ map held_grant held)
  pub seated : IsSeated sizes t
  pub went : WentOn p t
  pub looked : 0 < length went.added
  pub claims : t.view.grants.sx ≡ p.view.grants.sx + 1
  pub grants : total t.view.grants ≤ total p.view.grants + 33
  pub can : CanDelete path key t.work
  pub value_is : value_at key (memory_in t.work (last_of path)).records ≡ Some value

module _ (sizes : Sizes) (key : MapKey) (path : List ℕ) (value : ℕ) (p q t : PassState) (reached : HasClaimedSiblings sizes key path p q)
    (old new : Sizes) (same : old ≡ sizes) (then : new ≡ old)
    (taken : IsGrowing old key path (tree_pages reached.held) q → is_listed reached.held 0 ≡ false → HasGrown old key path (tree_pages reached.held) 0 Space q t)
    (seats : IsSeated new t) (there : value_at key (memory_in q.work (last_of path)).records ≡ Some value) where
  grown : HasGrown sizes key path (tree_pages reached.held) 0 Space q t
  grown = subst (λ (k : Sizes). IsGrowing k key path (tree_pages reached.held) q → is_listed reached.held 0 ≡ false → HasGrown k key path (tree_pages reached.held) 0 Space q t) same taken reached.growing reached.zero

  seated-t : IsSeated sizes t
  seated-t = subst (λ (k : Sizes). IsSeated k t) (then ∙ same) seats

  images : HasDeleteImages path key t.work
  images = record {
    path_there = grown.growing.trees;
    siblings_there = λ i d lt. siblings-still key q.work t.work grown.same (get_or (nodes_on_path path) i d) (reached.children i d lt);
    behind_there = λ i d lt. behind-still key q.work t.work grown.same (get_or (nodes_on_path path) i d) (reached.children i d lt);
    space_there = λ some. grown.there;
  }

  can-delete : CanDelete path key t.work
  can-delete = record {
    pages = sizes.pages;
    roots = 1;
    root = 1;
    memory = kept_pages sizes.pages t.view.memory.seen;
    bits = bits_of sizes.pages (memory_after (by_place opening sizes.pages) t.view.memory.seen);
    agrees = agrees-now sizes seated-t.fits key path t grown.growing.at;
    images = images;
    clocks = may-tick sizes key path t seated-t grown.growing.at;
  }

  pub ready-to-shrink : IsReadyToShrink sizes key path value p t
  ready-to-shrink =
      let none = append-nil (space_pages reached.held) in
      record {
        held = space_pages reached.held;
        growing = grown.growing;
        short = let f = reached.few in let l = ap length none in let n = length-all reached.held [] in omega arith;
        follow = (refl, subst (λ hs. AllByRecursion (λ (g : Grant). may_follow g.level Log ≡ true) (map held_grant hs)) none (follow-log reached.held []));
        seated = seated-t;
        went = went_both p q t reached.went grown.went;
        looked = looked_first p q t reached.went grown.went reached.looked;
        claims = ap (λ (v : Grants). v.sx) grown.grants ∙ reached.claims;
        grants = let a = reached.grants in let x = ap (λ (v : Grants). v.x) grown.grants in let y = ap (λ (v : Grants). v.s) grown.grants in let z = ap (λ (v : Grants). v.sx) grown.grants in omega arith;
        can = can-delete;
        value_is = value-kept key (last_of path) q.work t.work (grown.same (last_of path) reached.growing.leaf) ∙ there;
      }
