-- A change that is planned, and that the map takes, leads from lawful trees to lawful trees with the map that it gives.
use Rattle.std.proofs.Common.{◌≡◌, ℕ, ◌<◌, ◌≤◌, Bool, true, false, cond, eqb, Option, Some, None, refl, sym, ap, subst, arith, inl, inr}
use Rattle.std.specs.Prelude.{is_some, ◌&&◌}
use Rattle.std.proofs.lemmas.Bool.{cases_eq, eq-eqb}
use Rattle.ib_map.specs.Keys.{MapKey}
use Rattle.ib_map.specs.Pairs.{Pairs, put, without, value_at}
use Rattle.ib_map.specs.Map.{answer_of, effect_of, is_made}
use Rattle.ib_map.specs.declared.call.Change.{Change}
use Rattle.ib_map.specs.declared.call.Change.TheVariants.{Insert, Delete}
use Rattle.ib_map.specs.declared.call.Reply.TheVariants.{Duplicate, Inserted}
use Rattle.ib_map.proofs.KeyLaws.{rank-lt_end}
use Rattle.ib_page.specs.declared.space.TheConstants.{MAPPED_PAGES}
use Rattle.ib_walk.specs.Pages.{PageMemory}
use Rattle.ib_walk.specs.Trees.{IsLawful, content_of, height_of, most_height}
use Rattle.ib_walk.specs.Full.{need_of, is_root_full, chosen}
use Rattle.ib_plans.specs.Insert.{planned_insert}
use Rattle.ib_plans.specs.Delete.{planned_delete}
use Rattle.ib_plans.specs.Leads.{LeadsTo}
use Rattle.ib_plans.specs.Marks.{ticked}
use Rattle.ib_plans.proofs.ChosenLaws.{chosen-fresh, chosen-length}
use Rattle.ib_plans.proofs.NeedLaws.{IsPlannedInsert-need}
use Rattle.ib_plans.proofs.DeletePlanLaws.{IsPlannedDelete-plan}
use Rattle.ib_plans.proofs.LeadsLaws.{LeadsTo-ticked}
use Rattle.ib_planned_log.specs.Kept.{MayPlan}
use Rattle.ib_planned_log.specs.Steps.{planned}

-- an insert that is made is one of a missing key
pub made-missing : (m : Pairs) (key : MapKey) (value : ℕ) → is_made (answer_of m (Insert key value)) ≡ true → value_at key m ≡ None
made-missing m key value made = go (value_at key m) refl made
  where
    go : (o : Option ℕ) → value_at key m ≡ o → is_made (cond (is_some o) Duplicate Inserted) ≡ true → value_at key m ≡ None
    go None is made = is
    go (Some v) is made = absurd (cc)

pub effect-missing : (m : Pairs) (key : MapKey) (value : ℕ) → value_at key m ≡ None → effect_of m (Insert key value) ≡ put key value m
effect-missing m key value none = ap (λ (o : Option ℕ). cond (is_some o) m (put key value m)) none

-- a tree that isn't too high for an insert is lower than it may be, or its root isn't full
pub low-enough : (full : Bool) (height most : ℕ) → (full && (eqb height most)) ≡ false → height ≤ most → full ≡ true → height < most
low-enough full height most none le is = elim (cases_eq height most) [
  | inl e ↦ let yes = eq-eqb height most e in absurd (let a = ap (λ b. b && eqb height most) is in cc)
  | inr ne ↦ omega (arith, ne)
]

module _ (m : PageMemory) (bits : ℕ → ℕ) (pages roots root : ℕ) (law : IsLawful m bits roots) (few : pages ≤ MAPPED_PAGES) (some : 0 < root) (le : root ≤ roots) where
  insert-leads : (key : MapKey) (value : ℕ) → value_at key (content_of m root) ≡ None → MayPlan roots root m bits pages (Insert key value)
      → let g = planned_insert m bits (chosen bits pages (need_of m key root)) key value root in
      LeadsTo m (ticked m g.touched g.memory) g.bits roots root g.touched (put key value (content_of m root))
  insert-leads key value missing may =
      let count = chosen-length bits pages (need_of m key root) may.1 in
      let low : height_of m root ≤ most_height roots = (law.trees root some le).1 in
      let plan = IsPlannedInsert-need m bits roots law key value (rank-lt_end key) root some le (chosen bits pages (need_of m key root))
      (chosen-fresh bits pages (need_of m key root) few) missing (omega arith) (low-enough (is_root_full m key root) (height_of m root) (most_height roots) may.0 low) in
      let g = planned_insert m bits (chosen bits pages (need_of m key root)) key value root in
      LeadsTo-ticked m g.memory g.bits roots root g.touched (put key value (content_of m root)) some le plan.lawful plan.holds plan.others plan.ranges plan.rest

  delete-leads : (key : MapKey)
      → let s = planned_delete m bits key root in
      LeadsTo m (ticked m s.touched s.memory) s.bits roots root s.touched (without key (content_of m root))
  delete-leads key =
      let plan = IsPlannedDelete-plan m bits roots law key (rank-lt_end key) root some le in
      let s = planned_delete m bits key root in
      LeadsTo-ticked m s.memory s.bits roots root s.touched (without key (content_of m root)) some le plan.lawful plan.holds plan.others plan.ranges plan.rest

  -- the change, by cases
  pub planned-leads : (change : Change) → is_made (answer_of (content_of m root) change) ≡ true → MayPlan roots root m bits pages change
      → LeadsTo m (ticked m (planned root m bits pages change).touched (planned root m bits pages change).memory) (planned root m bits pages change).bits roots root
      (planned root m bits pages change).touched (effect_of (content_of m root) change)
  planned-leads (Insert key value) made may =
      let none = made-missing (content_of m root) key value made in
      let g = planned root m bits pages (Insert key value) in
      subst (LeadsTo m (ticked m g.touched g.memory) g.bits roots root g.touched) (sym (effect-missing (content_of m root) key value none)) (insert-leads key value none may)
  planned-leads (Delete key) made may = delete-leads key
