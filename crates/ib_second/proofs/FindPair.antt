-- A delete has claimed the index, and read the path of its key, and what the leaf has of it.
use Rattle.std.proofs.Common.{◌≡◌, ◌∙◌, ℕ, ◌+◌, ◌≤◌, true, List, [], Option, Some, sym, ap, subst, arith}
use Rattle.ib_map.specs.Keys.{MapKey}
use Rattle.ib_map.specs.Space.{has_pages}
use Rattle.ib_levels.specs.declared.level.Mode.TheVariants.{S, Sx}
use Rattle.ib_layout.specs.Geometry.{Sizes}
use Rattle.ib_logrec.specs.declared.entry.Entry.{Entry}
use Rattle.ib_logrec.specs.Log.{by_place}
use Rattle.ib_plans.specs.Agreement.{path_of}
use Rattle.ib_tree.specs.Logs.{pages_after}
use Rattle.ib_rule.specs.declared.looks.Grants.{Grants}
use Rattle.ib_rule.specs.Pass.{PassState}
use Rattle.ib_rule.specs.Views.{total, with_grant}
use Rattle.ib_mtr.specs.Mtr.{started}
use Rattle.ib_cursor.specs.Claims.{claim_grant}
use Rattle.ib_cursor.specs.Going.{HasLatched}
use Rattle.ib_cursor.specs.Grants.{HasGrants}
use Rattle.ib_cursor.specs.OnPath.{IsOnPath}
use Rattle.ib_cursor.specs.Shapes.{HasIndex, HasReadPath, HasReadValue, is_claimed}
use Rattle.ib_cursor.proofs.GrantLaws.{grants_more}
use Rattle.ib_cursor.proofs.LatchingLaws.{looked_first, some_end, went_both}
use Rattle.ib_pair_law.specs.Opening.{pair_opening}
use Rattle.ib_pair_law.specs.PairKept.{IsPairLog}
use Rattle.ib_second.specs.PairFinds.{HasFoundPair}
use Rattle.ib_second.proofs.ClaimedPair.{path-few, seen-same}

-- the index is claimed, and nothing else is held
pub index-claimed : (sizes : Sizes) (lawful : List Entry → Type 0) (p q : PassState) → HasGrants [] p → p.work ≡ [] → HasLatched sizes lawful claim_grant p q → is_claimed q.view.memory.since ≡ true → HasIndex sizes lawful q
index-claimed sizes lawful p q idle none latched claimed = record {
  grants = grants_more [] claim_grant p q idle latched.memo latched.session;
  claimed = claimed;
  work = latched.work ∙ none;
  known = latched.seen.known;
}

-- a mini-transaction that has started stands where its pass stood
pub found-started : (sizes : Sizes) (key : MapKey) (path : List ℕ) (leaf : ℕ) (value : Option ℕ) (p q : PassState) → HasFoundPair sizes key path leaf value (started p) q → HasFoundPair sizes key path leaf value p q
found-started sizes key path leaf value p q h = record {
  index = h.index;
  on_path = h.on_path;
  leaf_on = h.leaf_on;
  found = h.found;
  went = record { table = h.went.table; sizes = h.went.sizes; number = h.went.number; own = h.went.own; more = h.went.more; seen = h.went.seen; added = h.went.added; ends = h.went.ends; bounds = h.went.bounds };
  looked = h.looked;
  claims = h.claims;
  grants = h.grants;
}

module _ (sizes : Sizes) (fits : has_pages sizes.pages ≡ true) (key : MapKey) (path : List ℕ) (leaf left : ℕ) (p q r : PassState) (latched : HasLatched sizes (IsPairLog sizes.pages) claim_grant p q)
    (read : HasReadPath sizes (IsPairLog sizes.pages) (by_place pair_opening sizes.pages) 1 key path leaf left q r) where
  abbrev start : ℕ → ℕ
  start = by_place pair_opening sizes.pages

  -- how many grants the path took
  pub path-grants : total r.view.grants ≤ total p.view.grants + 5
  path-grants =
      let g : q.view.grants ≡ with_grant (Some Sx) p.view.grants = latched.grants in
      let a = ap (λ (v : Grants). v.s) g in let b = ap (λ (v : Grants). v.sx) g in let c = ap (λ (v : Grants). v.x) g in
      let d = read.s in let e = read.sx in let f = read.x in
      let few = path-few sizes fits 1 (omega arith) (omega arith) key path r read.index.known.legal read.on_path in omega arith

  -- .. one of which claims the index
  path-claims : r.view.grants.sx ≡ p.view.grants.sx + 1
  path-claims = read.sx ∙ ap (λ (v : Grants). v.sx) latched.grants

  -- the value was read too
  pub found-pair : (value : Option ℕ) (t : PassState) → HasReadValue sizes (IsPairLog sizes.pages) start key leaf value r t → HasFoundPair sizes key path leaf value p t
  found-pair value t got =
      let same = seen-same sizes fits r t got.index.known got.keeps in
      let later = went_both q r t read.went got.went in
      record {
        index = got.index;
        on_path = subst (λ log. path ≡ path_of (pages_after start log) key 1) (sym same) read.on_path;
        leaf_on = subst (λ log. IsOnPath (pages_after start log) 1 key leaf 0) (sym same) read.lowest;
        found = got.value_is;
        went = went_both p q t latched.seen.went later;
        looked = looked_first p q t latched.seen.went later (some_end latched.seen.one);
        claims = ap (λ (v : Grants). v.sx) got.grants ∙ path-claims;
        grants =
            let g : t.view.grants ≡ with_grant (Some S) r.view.grants = got.grants in
            let a = ap (λ (v : Grants). v.s) g in let b = ap (λ (v : Grants). v.sx) g in let c = ap (λ (v : Grants). v.x) g in let few = path-grants in omega arith;
      }
