-- A lookup by a descent.
use Rattle.std.proofs.Common.{◌≡◌, ℕ, ◌+◌, ◌<◌, ◌≤◌, true, [], ◌∷◌, Option, length, length-append, refl, sym, ap, subst, ◌∙◌, arith}
use Rattle.ib_map.specs.Keys.{MapKey}
use Rattle.ib_map.specs.Map.{lookup_answer}
use Rattle.ib_map.specs.Space.{has_pages}
use Rattle.ib_map.specs.declared.call.Call.TheVariants.{Get}
use Rattle.ib_map.specs.declared.call.Reply.{Reply}
use Rattle.ib_map.proofs.KeyLaws.{rank-lt_end}
use Rattle.ib_layout.specs.Geometry.{Sizes}
use Rattle.ib_logrec.specs.Log.{by_place}
use Rattle.ib_walk.specs.Trees.{height_of}
use Rattle.ib_tree.specs.TreeLog.{opening}
use Rattle.ib_planned_log.specs.Kept.{IsKeptLog}
use Rattle.ib_planned_log.specs.LeafChange.{kept_pages, leaf_after}
use Rattle.ib_rule.specs.declared.looks.Grants.{Grants}
use Rattle.ib_rule.specs.declared.view.Role.TheVariants.{Session}
use Rattle.ib_rule.specs.Pass.{PassState}
use Rattle.ib_mtr.specs.Commits.{HasRead}
use Rattle.ib_mtr.specs.Mtr.{started}
use Rattle.ib_cursor.specs.Descent.{HasFound}
use Rattle.ib_cursor.specs.Going.{WentOn}
use Rattle.ib_cursor.specs.OnPath.{IsOnPath}
use Rattle.ib_cursor.proofs.LogLaws.{path_image}
use Rattle.ib_leaf.proofs.LeafStays.{kept-laws}
use Rattle.ib_hash.specs.Lookups.{HasLookedByDescent}
use Rattle.ib_hash.proofs.LookupLaws.{called-get, leaf-r}

module _ (sizes : Sizes) (fits : has_pages sizes.pages ≡ true) (key : MapKey) (value : Option ℕ) (p q : PassState) (found : HasFound sizes (IsKeptLog sizes.pages) (by_place opening sizes.pages) 1 key value (started p) q)
    (role : q.view.role ≡ Session q.number) (place : ℕ) (r : PassState) (read : HasRead sizes (IsKeptLog sizes.pages) q place r) where
  -- where the mini-transaction started is where the call began
  abbrev went : WentOn p q
  went = let w = found.reached.went in record { table = w.table; sizes = w.sizes; number = w.number; own = w.own; more = w.more; seen = w.seen; added = w.added; ends = w.ends; bounds = w.bounds }

  -- the leaf is a page of the space
  inside : found.reached.leaf < sizes.pages
  inside =
      let on : IsOnPath (kept_pages sizes.pages q.view.memory.seen) 1 key found.reached.leaf 0 = record { depth = height_of (kept_pages sizes.pages q.view.memory.seen) 1; height = omega arith; below = sym found.reached.is_leaf } in
      (path_image sizes.pages 1 (IsKeptLog sizes.pages) (by_place opening sizes.pages) (kept-laws sizes.pages fits) 1 (omega arith) (omega arith) key (rank-lt_end key) q.view.memory.seen found.reached.leaf 0 found.reached.known.legal on).there

  pub looked-down : (leaf : ℕ) → leaf ≡ leaf_after sizes.pages q.view.memory.seen key → (reply : Reply) → reply ≡ lookup_answer value
      → HasLookedByDescent sizes (IsKeptLog sizes.pages) (by_place opening sizes.pages) key leaf (record { call = Get key; reply = reply; place = place }) p r
  looked-down leaf is reply said =
      let same : leaf ≡ found.reached.leaf = is ∙ sym found.reached.is_leaf in
      let end = read.ended.grants in
      let f = found.reached.finds refl in let f0 = f.0 in let s : q.view.grants.s ≤ p.view.grants.s + 9 = found.reached.s in let t = ap (λ (g : Grants). g.s) end in
      let l = ap length found.reached.ends in let m = length-append found.reached.front (found.reached.leaf ∷ []) in let more : q.view.grants.s ≡ p.view.grants.s + 1 + length found.path = f0 in
      record {
        called = called-get sizes fits key found.reached.leaf p q went found.reached.looked role found.reached.watched found.reached.is_leaf place r read value reply said found.is_value;
        there = subst (λ (n : ℕ). n < sizes.pages) (sym same) inside;
        is_leaf = same ∙ leaf-r sizes fits key found.reached.leaf p q went found.reached.looked role found.reached.watched found.reached.is_leaf place r read;
        least = omega arith;
        s = omega arith;
        sx = ap (λ (g : Grants). g.sx) end ∙ found.reached.sx;
        x = ap (λ (g : Grants). g.x) end ∙ f.1;
      }
