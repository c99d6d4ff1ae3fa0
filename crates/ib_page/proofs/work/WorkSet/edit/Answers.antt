-- The slot has a changed image of its own, and this is lent.
use Rattle.std.proofs.Common.{◌≡◌, ◌≢◌, ◌∙◌, ◌++◌, ℕ, List, Option, length, take, drop, set, ap, subst, sym, refl, arith, IsSomeAnd, slice_get}
use Rattle.std.specs.Prelude.{IfSome}
use Rattle.std.specs.List.{All}
use Rattle.std.proofs.lemmas.List.{length-set}
use Rattle.ib_page.specs.declared.work.Slot.{Slot}
use Rattle.ib_page.specs.Work.{IsWork}
use Rattle.ib_page.specs.Rooms.{changed_in}
use Rattle.ib_page.proofs.RoomLaws.{is_work, is_found, found_slot-lt, all_lent, edit_room-lt, edit_kept, edit_gives, edit_image}
use Rattle.ib_page.proofs.work.WorkSet.edit.Goals as goal

pub unwrap-index-requires : goal.unwrap-index-requires
unwrap-index-requires c = is_found _ _ _ _ c.args.page c.find.result c.self.view_is c.requires
    (λ none. subst (λ (ss : List Slot). All (λ s. s.page ≢ c.args.page) ss) c.deref.ensures.value (c.find.ensures.absent none))

pub index-slot-requires : goal.index-slot-requires
index-slot-requires c =
    let found = subst (λ (ss : List Slot). IsSomeAnd (slice_get ss c.unwrap-index.result) (λ s. s.page ≡ c.args.page)) c.deref.ensures.value
    (subst (λ (o : Option ℕ). IfSome o (λ i. IsSomeAnd (slice_get c.deref.result.now i) (λ s. s.page ≡ c.args.page))) c.unwrap-index.ensures c.find.ensures.there) in
    omega (arith, found_slot-lt c.self.inside.slots.items c.unwrap-index.result c.args.page found, c.self.inside.slots.ok)

pub copy_at_first-requires-clause-before : goal.copy_at_first-requires-clause-before
copy_at_first-requires-clause-before c =
    let found = subst (λ (ss : List Slot). IsSomeAnd (slice_get ss c.unwrap-index.result) (λ s. s.page ≡ c.args.page)) c.deref.ensures.value
    (subst (λ (o : Option ℕ). IfSome o (λ i. IsSomeAnd (slice_get c.deref.result.now i) (λ s. s.page ≡ c.args.page))) c.unwrap-index.ensures c.find.ensures.there) in
    omega (arith, edit_room-lt _ _ _ _ _ c.unwrap-index.result c.args.page c.index-slot.result.now c.self.invariant.kept c.self.view_is found c.index-slot.ensures, c.self.invariant.kept.before_size, ap length c.deref-2.ensures.value)

pub copy_at_first-requires-clause-changed : goal.copy_at_first-requires-clause-changed
copy_at_first-requires-clause-changed c =
    let found = subst (λ (ss : List Slot). IsSomeAnd (slice_get ss c.unwrap-index.result) (λ s. s.page ≡ c.args.page)) c.deref.ensures.value
    (subst (λ (o : Option ℕ). IfSome o (λ i. IsSomeAnd (slice_get c.deref.result.now i) (λ s. s.page ≡ c.args.page))) c.unwrap-index.ensures c.find.ensures.there) in
    omega (arith, edit_room-lt _ _ _ _ _ c.unwrap-index.result c.args.page c.index-slot.result.now c.self.invariant.kept c.self.view_is found c.index-slot.ensures, c.self.invariant.kept.changed_size, ap length c.deref_mut.ensures.value)

pub index_mut-requires : goal.index_mut-requires
index_mut-requires c =
    let found = subst (λ (ss : List Slot). IsSomeAnd (slice_get ss c.unwrap-index.result) (λ s. s.page ≡ c.args.page)) c.deref.ensures.value
    (subst (λ (o : Option ℕ). IfSome o (λ i. IsSomeAnd (slice_get c.deref.result.now i) (λ s. s.page ≡ c.args.page))) c.unwrap-index.ensures c.find.ensures.there) in
    omega (arith, found_slot-lt c.self.inside.slots.items c.unwrap-index.result c.args.page found, c.self.inside.slots.ok)

pub index_mut-requires-2 : goal.index_mut-requires-2
index_mut-requires-2 c =
    let found = subst (λ (ss : List Slot). IsSomeAnd (slice_get ss c.unwrap-index.result) (λ s. s.page ≡ c.args.page)) c.deref.ensures.value
    (subst (λ (o : Option ℕ). IfSome o (λ i. IsSomeAnd (slice_get c.deref.result.now i) (λ s. s.page ≡ c.args.page))) c.unwrap-index.ensures c.find.ensures.there) in
    omega (arith, edit_room-lt _ _ _ _ _ c.unwrap-index.result c.args.page c.index-slot.result.now c.self.invariant.kept c.self.view_is found c.index-slot.ensures, c.self.invariant.kept.changed_size, c.self.inside.changed.ok)

pub invariant_of-self-lent : goal.invariant_of-self-lent
invariant_of-self-lent c w =
    let found = subst (λ (ss : List Slot). IsSomeAnd (slice_get ss c.unwrap-index.result) (λ s. s.page ≡ c.args.page)) c.deref.ensures.value
    (subst (λ (o : Option ℕ). IfSome o (λ i. IsSomeAnd (slice_get c.deref.result.now i) (λ s. s.page ≡ c.args.page))) c.unwrap-index.ensures c.find.ensures.there) in
    let taken : c.copy_at_first.new.changed ≡ set c.self.inside.changed.items c.index-slot.result.now.room (changed_in c.self.inside.before.items c.self.inside.changed.items c.index-slot.result.now) =
    c.copy_at_first.ensures ∙ (ap (λ v. set v c.index-slot.result.now.room (changed_in c.deref-2.result.now v c.index-slot.result.now)) c.deref_mut.ensures.value
    ∙ ap (λ v. set c.self.inside.changed.items c.index-slot.result.now.room (changed_in v c.self.inside.changed.items c.index-slot.result.now)) c.deref-2.ensures.value) in
    let copies : take c.self.inside.changed.len (c.copy_at_first.new.changed ++ drop (length c.copy_at_first.new.changed) c.self.inside.changed.items) ≡ set c.self.inside.changed.items c.index-slot.result.now.room (changed_in c.self.inside.before.items c.self.inside.changed.items c.index-slot.result.now) =
    all_lent c.self.inside.changed.items c.copy_at_first.new.changed c.self.inside.changed.len (sym c.self.inside.changed.ok.0)
    (ap length taken ∙ (length-set c.self.inside.changed.items c.index-slot.result.now.room (changed_in c.self.inside.before.items c.self.inside.changed.items c.index-slot.result.now) ∙ sym c.self.inside.changed.ok.0)) ∙ taken in
    record {
      kept = edit_kept _ _ _ _ _ c.unwrap-index.result c.args.page c.index-slot.result.now c.self.invariant.kept c.self.view_is found c.index-slot.ensures _ w copies;
      slots_room = c.self.invariant.slots_room;
      spare_room = c.self.invariant.spare_room;
    }

pub returns : goal.returns
returns c =
    let found = subst (λ (ss : List Slot). IsSomeAnd (slice_get ss c.unwrap-index.result) (λ s. s.page ≡ c.args.page)) c.deref.ensures.value
    (subst (λ (o : Option ℕ). IfSome o (λ i. IsSomeAnd (slice_get c.deref.result.now i) (λ s. s.page ≡ c.args.page))) c.unwrap-index.ensures c.find.ensures.there) in
    let taken : c.copy_at_first.new.changed ≡ set c.self.inside.changed.items c.index-slot.result.now.room (changed_in c.self.inside.before.items c.self.inside.changed.items c.index-slot.result.now) =
    c.copy_at_first.ensures ∙ (ap (λ v. set v c.index-slot.result.now.room (changed_in c.deref-2.result.now v c.index-slot.result.now)) c.deref_mut.ensures.value
    ∙ ap (λ v. set c.self.inside.changed.items c.index-slot.result.now.room (changed_in v c.self.inside.changed.items c.index-slot.result.now)) c.deref-2.ensures.value) in
    let copies : take c.self.inside.changed.len (c.copy_at_first.new.changed ++ drop (length c.copy_at_first.new.changed) c.self.inside.changed.items) ≡ set c.self.inside.changed.items c.index-slot.result.now.room (changed_in c.self.inside.before.items c.self.inside.changed.items c.index-slot.result.now) =
    all_lent c.self.inside.changed.items c.copy_at_first.new.changed c.self.inside.changed.len (sym c.self.inside.changed.ok.0)
    (ap length taken ∙ (length-set c.self.inside.changed.items c.index-slot.result.now.room (changed_in c.self.inside.before.items c.self.inside.changed.items c.index-slot.result.now) ∙ sym c.self.inside.changed.ok.0)) ∙ taken in (
      (refl, λ w. edit_gives _ _ _ _ _ c.unwrap-index.result c.args.page c.index-slot.result.now c.self.invariant.kept c.self.view_is found c.index-slot.ensures _ w copies),
      record {
        lends = tt;
        image = edit_image _ _ _ _ _ c.unwrap-index.result c.args.page c.index-slot.result.now c.self.invariant.kept c.self.view_is found c.index-slot.ensures _ c.index_mut-2.result.now copies c.index_mut-2.ensures.value;
        work = subst IsWork c.self.view_is (is_work _ _ _ _ c.self.invariant.kept);
      },
    )
