-- A change of the key's leaf alone may come behind a kept log.
use Rattle.std.proofs.Common.{◌≡◌, ◌≢◌, ℕ, ◌<◌, ◌≤◌, ◌∙◌, ◌⊎◌, true, false, cond, List, [], ◌∷◌, ◌++◌, length, Option, None, Some, refl, sym, ap, subst, arith, inl, inr}
use Rattle.std.specs.Prelude.{is_some}
use Rattle.std.proofs.lemmas.Bool.{cases_lt, le-ltb}
use Rattle.std.proofs.lemmas.Bool.Decides.{nat_tests}
use Rattle.ib_map.specs.Keys.{MapKey}
use Rattle.ib_map.specs.Map.{answer_of, delete_answer, is_made}
use Rattle.ib_map.specs.Pairs.{put, value_at, without}
use Rattle.ib_map.specs.Space.{has_pages}
use Rattle.ib_map.specs.declared.call.Change.TheVariants.{Insert, Delete}
use Rattle.ib_map.specs.declared.call.Reply.TheVariants.{Duplicate, Inserted}
use Rattle.ib_map.proofs.KeyLaws.{rank-lt_end}
use Rattle.ib_heap.specs.declared.TheConstants.{MOST_RECORDS}
use Rattle.ib_page.specs.declared.space.TheConstants.{MAPPED_PAGES}
use Rattle.ib_page.specs.Space.{IsSpacePage}
use Rattle.ib_logrec.specs.declared.entry.Entry.{Entry}
use Rattle.ib_logrec.specs.Log.{memory_after, map_of, by_place}
use Rattle.ib_walk.specs.Full.{chosen, is_too_high, need_of}
use Rattle.ib_walk.specs.Pages.{PageMemory}
use Rattle.ib_walk.specs.Trees.{IsLawful, content_of}
use Rattle.ib_walk.specs.Words.{image_of, bits_of}
use Rattle.ib_walk.proofs.TreeLaws.{value_at-content_of}
use Rattle.ib_plans.specs.Delete.{Shrinkage, drop_at}
use Rattle.ib_plans.specs.Insert.{Growth, put_at}
use Rattle.ib_plans.specs.Marks.{mark, untouched}
use Rattle.ib_plans.specs.Moves.{Puts, Takes, unmoved, with_move}
use Rattle.ib_plans.specs.declared.TheConstants.{FEWEST_RECORDS}
use Rattle.ib_plans.proofs.ChosenLaws.{chosen-fresh}
use Rattle.ib_plans.proofs.MetLaws.{met-set}
use Rattle.ib_plans.proofs.PathLaws.{PathPage}
use Rattle.ib_tree.specs.TreeLog.{opening}
use Rattle.ib_planned_log.specs.Kept.{MayPlan, Planned, IsPlannedEntry, IsPlannedStep, IsKeptLog, plan_of}
use Rattle.ib_planned_log.specs.Steps.{planned}
use Rattle.ib_planned_log.specs.LeafChange.{ChangesPage, kept_pages, leaf_after, with_pair, without_pair}
use Rattle.ib_planned_log.proofs.LeafPlanLaws.{delete-leaf, insert-leaf, leaf-page, no-need, not-high}
use Rattle.ib_planned_log.proofs.PageChangeLaws.{IsInGrammar-page, IsPlannedStep-page, differ-page, space-page}
use Rattle.ib_planned_log.proofs.PushLaws.{IsKeptLog-push, content-before, lawful-before}
use Rattle.ib_planned_log.proofs.PlanIs.{plan_of-is}

-- a page whose bit is set is one of the space
bit-inside : (pages : ℕ) (words : ℕ → ℕ) (page : ℕ) → bits_of pages words page ≢ 0 → page < pages
unfolding bits_of
bit-inside pages words page bit = elim (cases_lt page pages) [
  | inl lt ↦ lt
  | inr over ↦ absurd (bit (let none = le-ltb page pages over in rw none refl))
]

made-insert : (key : MapKey) (value : ℕ) (o : Option ℕ) → o ≡ None → is_made (cond (is_some o) Duplicate Inserted) ≡ true
made-insert key value o none = rw none refl

module _ (pages : ℕ) (fits : has_pages pages ≡ true) (log : List Entry) (kept : IsKeptLog pages log) (key : MapKey) where
  abbrev start : ℕ → ℕ
  start = by_place opening pages

  abbrev m : PageMemory
  m = kept_pages pages log

  abbrev bits : ℕ → ℕ
  bits = bits_of pages (memory_after start log)

  abbrev leaf : ℕ
  leaf = leaf_after pages log key

  lawful : IsLawful m bits 1
  lawful = let memory = lawful-before pages fits log kept in memory.law

  space : IsSpacePage pages (image_of (memory_after start log) 0)
  space = let memory = lawful-before pages fits log kept in memory.space

  the-leaf : PathPage m 0 1 leaf
  the-leaf = leaf-page m bits 1 lawful key (rank-lt_end key) 1 (omega arith) (omega arith)

  inside : leaf < pages
  inside = bit-inside pages (memory_after start log) leaf (met-set (λ q. MOST_RECORDS) m bits 1 lawful 1 (omega arith) (omega arith) leaf the-leaf.met)

  in-content : value_at key (content_of m 1) ≡ value_at key (m leaf).records
  in-content = value_at-content_of m key 1 (rank-lt_end key) (lawful.trees 1 (omega arith) (omega arith)).0

  -- what the map has of the key is what the leaf has
  pub in-leaf : value_at key (map_of log) ≡ value_at key (m leaf).records
  in-leaf = ap (value_at key) (sym (content-before pages fits log kept)) ∙ in-content

  -- with room in the leaf an insert needs no page, and the tree grows no higher
  pub insert-room : length (m leaf).records < MOST_RECORDS → (is_too_high 1 m key 1 ≡ false) × (need_of m key 1 ≡ 0)
  insert-room room = (
    not-high m bits 1 lawful key (rank-lt_end key) 1 (omega arith) (omega arith) room,
    no-need m bits 1 lawful key (rank-lt_end key) 1 (omega arith) (omega arith) room,
  )

  module _ (e : Entry) (value : ℕ) where
    pub insert-planned : value_at key (m leaf).records ≡ None → length (m leaf).records < MOST_RECORDS
        → ChangesPage pages log leaf (with_pair key value (m leaf)) (Puts key) (Insert key value) e → IsPlannedEntry pages start log e
    insert-planned missing room c =
        let free = insert-room room in
        let may : MayPlan 1 1 m bits pages (Insert key value) = (free.0, let need = free.1 in omega arith) in
        let few : pages ≤ MAPPED_PAGES = grind (arith, nat_tests, fits) in
        let plan = insert-leaf m bits 1 lawful key (rank-lt_end key) 1 (omega arith) (omega arith) room value (chosen bits pages (need_of m key 1))
        (chosen-fresh bits pages (need_of m key 1) few) (in-content ∙ missing) in
        let as-planned : planned 1 m bits pages (Insert key value) ≡ record { memory = put_at m leaf key value; bits = bits; touched = mark leaf untouched; moves = with_move leaf (Puts key) unmoved } =
        ap (λ (g : Growth). let p : Planned = record { memory = g.memory; bits = g.bits; touched = g.touched; moves = g.moves } in p) plan in
        let as-said = plan_of-is m bits pages 1 1 lawful few (omega arith) (omega arith) (Insert key value) (made-insert key value (value_at key (content_of m 1)) (in-content ∙ missing)) may ∙ as-planned in
        let step = IsPlannedStep-page pages log e leaf (put key value (m leaf).records) (Puts key) (Insert key value) the-leaf.kind the-leaf.some c in
        record {
          may = subst (MayPlan 1 1 m bits pages) (sym c.change_is) may;
          step = subst (λ k. IsPlannedStep pages (memory_after start log) (memory_after start (log ++ e ∷ [])) m (kept_pages pages (log ++ e ∷ [])) (plan_of 1 m bits pages k)) (sym c.change_is)
              (subst (IsPlannedStep pages (memory_after start log) (memory_after start (log ++ e ∷ [])) m (kept_pages pages (log ++ e ∷ []))) (sym as-said) step);
          differ = differ-page pages log e leaf (put key value (m leaf).records) (Puts key) (Insert key value) the-leaf.kind the-leaf.some c;
        }

    pub insert-kept : value_at key (m leaf).records ≡ None → length (m leaf).records < MOST_RECORDS
        → ChangesPage pages log leaf (with_pair key value (m leaf)) (Puts key) (Insert key value) e → IsKeptLog pages (log ++ e ∷ [])
    insert-kept missing room c =
        let made : is_made (answer_of (map_of log) (Insert key value)) ≡ true = made-insert key value (value_at key (map_of log)) (in-leaf ∙ missing) in
        IsKeptLog-push pages fits log kept e
        (IsInGrammar-page pages log e leaf (put key value (m leaf).records) (Puts key) (Insert key value) the-leaf.kind the-leaf.some c inside)
        (subst (λ k. is_made (answer_of (map_of log) k) ≡ true) (sym c.change_is) made)
        (insert-planned missing room c) c.number
        (space-page pages log e leaf (put key value (m leaf).records) (Puts key) (Insert key value) the-leaf.kind the-leaf.some c space)

    pub delete-planned : value_at key (m leaf).records ≡ Some value → (leaf ≡ 1) ⊎ (FEWEST_RECORDS < length (m leaf).records)
        → ChangesPage pages log leaf (without_pair key (m leaf)) (Takes key) (Delete key) e → IsPlannedEntry pages start log e
    delete-planned there short c =
        let plan = delete-leaf m bits 1 lawful key (rank-lt_end key) 1 (omega arith) (omega arith) value there short in
        let as-planned : planned 1 m bits pages (Delete key) ≡ record { memory = drop_at m leaf key; bits = bits; touched = mark leaf untouched; moves = with_move leaf (Takes key) unmoved } =
        ap (λ (s : Shrinkage). let p : Planned = record { memory = s.memory; bits = s.bits; touched = s.touched; moves = s.moves } in p) plan.1 in
        let few : pages ≤ MAPPED_PAGES = grind (arith, nat_tests, fits) in
        let made : is_made (answer_of (content_of m 1) (Delete key)) ≡ true = ap (λ o. is_made (delete_answer o)) (in-content ∙ there) in
        let as-said = plan_of-is m bits pages 1 1 lawful few (omega arith) (omega arith) (Delete key) made tt ∙ as-planned in
        let step = IsPlannedStep-page pages log e leaf (without key (m leaf).records) (Takes key) (Delete key) the-leaf.kind the-leaf.some c in
        record {
          may = subst (MayPlan 1 1 m bits pages) (sym c.change_is) tt;
          step = subst (λ k. IsPlannedStep pages (memory_after start log) (memory_after start (log ++ e ∷ [])) m (kept_pages pages (log ++ e ∷ [])) (plan_of 1 m bits pages k)) (sym c.change_is)
              (subst (IsPlannedStep pages (memory_after start log) (memory_after start (log ++ e ∷ [])) m (kept_pages pages (log ++ e ∷ []))) (sym as-said) step);
          differ = differ-page pages log e leaf (without key (m leaf).records) (Takes key) (Delete key) the-leaf.kind the-leaf.some c;
        }

    pub delete-kept : value_at key (m leaf).records ≡ Some value → (leaf ≡ 1) ⊎ (FEWEST_RECORDS < length (m leaf).records)
        → ChangesPage pages log leaf (without_pair key (m leaf)) (Takes key) (Delete key) e → IsKeptLog pages (log ++ e ∷ [])
    delete-kept there short c =
        let made : is_made (answer_of (map_of log) (Delete key)) ≡ true = ap (λ o. is_made (delete_answer o)) (in-leaf ∙ there) in
        IsKeptLog-push pages fits log kept e
        (IsInGrammar-page pages log e leaf (without key (m leaf).records) (Takes key) (Delete key) the-leaf.kind the-leaf.some c inside)
        (subst (λ k. is_made (answer_of (map_of log) k) ≡ true) (sym c.change_is) made)
        (delete-planned there short c) c.number
        (space-page pages log e leaf (without key (m leaf).records) (Takes key) (Delete key) the-leaf.kind the-leaf.some c space)
