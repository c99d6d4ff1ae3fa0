-- A lookup that came to the key's leaf, by a guess or by a descent, and ended there.
use Rattle.std.specs.Prelude.{get_or}
use Rattle.std.proofs.Common.{◌≡◌, ℕ, ◌+◌, ◌<◌, true, false, List, [], ◌∷◌, ◌++◌, length, Option, Some, None, refl, sym, ap, subst, ◌∙◌, arith, append_assoc}
use Rattle.std.proofs.lemmas.List.{append_cancel_left}
use Rattle.ib_map.specs.Keys.{MapKey}
use Rattle.ib_map.specs.Map.{is_made, lookup_answer, lookup_of}
use Rattle.ib_map.specs.History.{map_after}
use Rattle.ib_map.specs.Pairs.{value_at}
use Rattle.ib_map.specs.Space.{has_pages}
use Rattle.ib_map.specs.declared.call.Call.{Call}
use Rattle.ib_map.specs.declared.call.Call.TheVariants.{Get}
use Rattle.ib_map.specs.declared.call.Record.{Record}
use Rattle.ib_map.specs.declared.call.Reply.{Reply}
use Rattle.ib_map.proofs.KeyLaws.{rank-lt_end}
use Rattle.ib_layout.specs.Geometry.{Sizes}
use Rattle.ib_logrec.specs.declared.entry.Entry.{Entry}
use Rattle.ib_logrec.specs.Log.{by_place, history_of, map_of}
use Rattle.ib_walk.specs.Pages.{PageState}
use Rattle.ib_walk.specs.Trees.{height_of}
use Rattle.ib_tree.specs.TreeLog.{opening}
use Rattle.ib_planned_log.specs.Kept.{IsKeptLog}
use Rattle.ib_planned_log.specs.LeafChange.{kept_pages, leaf_after}
use Rattle.ib_planned_log.proofs.LeafChangeLaws.{in-leaf}
use Rattle.ib_rule.specs.declared.view.Role.TheVariants.{Session}
use Rattle.ib_rule.specs.Pass.{PassState}
use Rattle.ib_rule.specs.Views.{is_watched}
use Rattle.ib_mtr.specs.Commits.{HasRead}
use Rattle.ib_cursor.specs.Going.{WentOn}
use Rattle.ib_cursor.specs.OnPath.{IsOnPath}
use Rattle.ib_cursor.proofs.LogLaws.{path_stays}
use Rattle.ib_cursor.proofs.OnPathLaws.{leaf_on-path}
use Rattle.ib_leaf.specs.Calls.{HasCalled, tree_calls}
use Rattle.ib_leaf.proofs.CallEnds.{called-read, map-r, within-r}
use Rattle.ib_leaf.proofs.LeafStays.{kept-laws}
use Rattle.ib_hash.proofs.EndLaws.{calm-r, end-r, legal-r, page-r, seen-r}

pub lookup-made : (v : Option ℕ) → is_made (lookup_answer v) ≡ false
lookup-made (Some value) = refl
lookup-made None = refl

-- the first end that a call found is that of its looks
pub first-found : (sizes : Sizes) (lawful : List Entry → Type 0) (opens : ℕ → ℕ) (call : Call) (answer : Record) (p r : PassState) (called : HasCalled sizes lawful opens call answer p r) (n : ℕ) (ns : List ℕ)
    → r.view.memory.ends ≡ p.view.memory.ends ++ n ∷ ns → called.first ≡ n
first-found sizes lawful opens call answer p r called n ns ends =
    ap (λ (xs : List ℕ). get_or xs 0 0) (append_cancel_left p.view.memory.ends (called.first ∷ called.rest) (n ∷ ns) (sym called.ends ∙ ends))

-- the ends that were found by then
pub ends-r : (sizes : Sizes) (fits : has_pages sizes.pages ≡ true) (p q : PassState) (went : WentOn p q) (place : ℕ) (r : PassState) → HasRead sizes (IsKeptLog sizes.pages) q place r
    → (n : ℕ) (ns : List ℕ) → went.added ≡ n ∷ ns → r.view.memory.ends ≡ p.view.memory.ends ++ n ∷ (ns ++ place ∷ [])
ends-r sizes fits p q went place r read n ns is =
    (end-r sizes fits q place r read).ends ∙ (ap (λ (xs : List ℕ). xs ++ place ∷ []) (went.ends ∙ ap (λ (xs : List ℕ). p.view.memory.ends ++ xs) is) ∙ append_assoc p.view.memory.ends (n ∷ ns) (place ∷ []))

module _ (sizes : Sizes) (fits : has_pages sizes.pages ≡ true) (key : MapKey) (leaf : ℕ) (p q : PassState) (went : WentOn p q) (looked : 0 < length went.added) (role : q.view.role ≡ Session q.number)
    (watched : is_watched (leaf + 2) q.view.memory.since ≡ true) (is_leaf : leaf ≡ leaf_after sizes.pages q.view.memory.seen key) (place : ℕ) (r : PassState) (read : HasRead sizes (IsKeptLog sizes.pages) q place r) where
  abbrev start : ℕ → ℕ
  start = by_place opening sizes.pages

  -- it is the key's leaf still
  pub leaf-r : leaf ≡ leaf_after sizes.pages r.view.memory.seen key
  leaf-r =
      let others = read.looked.others in
      let legal : IsKeptLog sizes.pages (q.view.memory.seen ++ others) = subst (IsKeptLog sizes.pages) (seen-r sizes fits q place r read) (legal-r sizes fits q place r read) in
      let on : IsOnPath (kept_pages sizes.pages q.view.memory.seen) 1 key leaf 0 = record { depth = height_of (kept_pages sizes.pages q.view.memory.seen) 1; height = omega arith; below = sym is_leaf } in
      let later = path_stays sizes.pages 1 (IsKeptLog sizes.pages) start (kept-laws sizes.pages fits) 1 (omega arith) (omega arith) key (rank-lt_end key) q.view.memory.seen others leaf 0 legal (calm-r sizes fits q place r read leaf watched) on in
      leaf_on-path (kept_pages sizes.pages (q.view.memory.seen ++ others)) 1 key leaf later ∙ ap (λ (log : List Entry). leaf_after sizes.pages log key) (sym (seen-r sizes fits q place r read))

  -- what the leaf had of the key is what the map has at the end
  value-r : value_at key (map_of r.view.memory.seen) ≡ value_at key (kept_pages sizes.pages q.view.memory.seen leaf).records
  value-r =
      in-leaf sizes.pages fits r.view.memory.seen (legal-r sizes fits q place r read) key
      ∙ (ap (λ (n : ℕ). value_at key (kept_pages sizes.pages r.view.memory.seen n).records) (sym leaf-r)
      ∙ ap (λ (s : PageState). value_at key s.records) (page-r sizes fits q place r read leaf watched))

  -- so the lookup was answered
  pub called-get : (value : Option ℕ) (reply : Reply) → reply ≡ lookup_answer value → value ≡ value_at key (kept_pages sizes.pages q.view.memory.seen leaf).records
      → HasCalled sizes (IsKeptLog sizes.pages) start (Get key) (record { call = Get key; reply = reply; place = place }) p r
  called-get value reply is found =
      let here : value ≡ value_at key (map_after (history_of r.view.memory.seen) place) = found ∙ (sym value-r ∙ ap (value_at key) (sym (map-r sizes (tree_calls sizes) p q went looked role place r read))) in
      let said : reply ≡ lookup_of (map_after (history_of r.view.memory.seen) place) key = is ∙ ap lookup_answer here in
      called-read sizes (tree_calls sizes) p q went looked role place r read (Get key) reply (ap is_made is ∙ lookup-made value) (record { map = (within-r sizes (tree_calls sizes) p q went looked role place r read, (said, refl)); tree = tt })
