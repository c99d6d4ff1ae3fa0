-- The parts of a whole insert that changes the tree's structure.
use Rattle.std.specs.Prelude.{IsSome}
use Rattle.std.proofs.Common.{◌≡◌, ℕ, List, None, sym, ap, subst, ◌∙◌}
use Rattle.ib_map.specs.Keys.{MapKey}
use Rattle.ib_map.specs.Pairs.{value_at}
use Rattle.ib_layout.specs.Geometry.{Sizes}
use Rattle.ib_page.specs.Work.{WorkPage, changed_of}
use Rattle.ib_plans.specs.Agreement.{IsThere, MayTick, last_of, memory_in, state_or_free}
use Rattle.ib_rule.specs.Pass.{PassState}
use Rattle.ib_mtr.specs.Mtr.{started}
use Rattle.ib_tree.specs.TreeLog.{opening}
use Rattle.ib_logrec.specs.Log.{by_place, memory_after}
use Rattle.ib_index.specs.Grows.{HasClaimedPath, HoldsAllPages, NeedsPages}
use Rattle.ib_leaf.specs.Leaf.{IsSeated}
use Rattle.ib_index.proofs.AgreeLaws.{agrees-now}
use Rattle.ib_split.specs.Inserts.{CanInsert}
use Rattle.ib_walk.specs.Words.{bits_of}
use Rattle.ib_planned_log.specs.LeafChange.{kept_pages}

-- where the mini-transaction started is where the call began
pub path-started : (sizes : Sizes) (key : MapKey) (path : List ℕ) (p q : PassState) → HasClaimedPath sizes key path (started p) q → HasClaimedPath sizes key path p q
path-started sizes key path p q h = record {
  held = h.held;
  growing = h.growing;
  next = h.next;
  kinds = h.kinds;
  zero = h.zero;
  once = h.once;
  few = h.few;
  went = record { table = h.went.table; sizes = h.went.sizes; number = h.went.number; own = h.went.own; more = h.went.more; seen = h.went.seen; added = h.went.added; ends = h.went.ends; bounds = h.went.bounds };
  looked = h.looked;
  claims = h.claims;
  grants = h.grants;
}

-- the value in the leaf stays behind pages that are loaded
pub value-kept : (key : MapKey) (n : ℕ) (old new : List WorkPage) → changed_of n new ≡ changed_of n old → value_at key (memory_in new n).records ≡ value_at key (memory_in old n).records
value-kept key n old new same = ap (λ o. value_at key (state_or_free o).records) same

-- what is held suffices for the plan, where the clocks may tick
pub can-insert : (sizes : Sizes) (key : MapKey) (path fresh : List ℕ) (p q t : PassState) → IsSeated sizes t → HasClaimedPath sizes key path p q → HoldsAllPages sizes key path fresh q t → MayTick t.work
    → CanInsert path fresh key t.work
can-insert sizes key path fresh p q t seated reached ready clocks =
    let a = agrees-now sizes seated.fits key path t ready.growing.at in
    let last : memory_in t.work (last_of path) ≡ memory_in q.work (last_of path) = ap state_or_free (ready.same (last_of path) reached.growing.leaf) in
    let next = ap (λ s. s.next) last in
    record {
      pages = sizes.pages;
      roots = 1;
      root = 1;
      memory = kept_pages sizes.pages t.view.memory.seen;
      bits = bits_of sizes.pages (memory_after (by_place opening sizes.pages) t.view.memory.seen);
      agrees = a;
      fits = (ready.fresh_are (kept_pages sizes.pages t.view.memory.seen) (bits_of sizes.pages (memory_after (by_place opening sizes.pages) t.view.memory.seen)) a).1;
      images = record {
        path_there = ready.growing.trees;
        fresh_there = ready.there;
        next_there = λ full ne.
            let there = reached.next (λ z. ne (next ∙ z)) in
            subst (IsThere t.work) (sym next) (subst IsSome (sym (ready.same (memory_in q.work (last_of path)).next there)) there);
        space_there = ready.space;
      };
      clocks = clocks;
    }

-- all that the insert reads and writes is held: the path with the leaves beside its last page, and the fresh pages behind page 0. The key is missing
pub record IsReadyToGrow (sizes : Sizes) (key : MapKey) (path fresh : List ℕ) (p q t : PassState) : Type 0 where
  pub reached : HasClaimedPath sizes key path p q
  pub holds : HoldsAllPages sizes key path fresh q t
  pub seated : IsSeated sizes t
  pub missing : value_at key (memory_in t.work (last_of path)).records ≡ None

-- .. by what the pages were taken from, in the sizes that each step says
pub ready-to-grow : (sizes old new : Sizes) (key : MapKey) (path fresh : List ℕ) (need : ℕ) (p q u t : PassState) → HasClaimedPath sizes key path p q → old ≡ sizes → new ≡ sizes → u ≡ q
    → ((k : MapKey) → (s : PassState) → HasClaimedPath old k path s u → NeedsPages old.pages k path need u.work → HoldsAllPages old k path fresh u t)
    → NeedsPages sizes.pages key path need q.work → IsSeated new t → value_at key (memory_in q.work (last_of path)).records ≡ None → IsReadyToGrow sizes key path fresh p q t
ready-to-grow sizes old new key path fresh need p q u t reached first last pass taken needs seated absent =
    let holds : HoldsAllPages sizes key path fresh q t =
    subst (λ (v : PassState). (k : MapKey) → (s : PassState) → HasClaimedPath sizes k path s v → NeedsPages sizes.pages k path need v.work → HoldsAllPages sizes k path fresh v t) pass
    (subst (λ (m : Sizes). (k : MapKey) → (s : PassState) → HasClaimedPath m k path s u → NeedsPages m.pages k path need u.work → HoldsAllPages m k path fresh u t) first taken)
    key p reached needs in
    record {
      reached = reached;
      holds = holds;
      seated = subst (λ (m : Sizes). IsSeated m t) last seated;
      missing = value-kept key (last_of path) q.work t.work (holds.same (last_of path) reached.growing.leaf) ∙ absent;
    }
