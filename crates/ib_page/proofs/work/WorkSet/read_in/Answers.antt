-- The last spare room is given to the page, and its image as read is lent.
use Rattle.std.proofs.Common.{◌≡◌, ◌<◌, ◌∙◌, ◌++◌, [], ◌∷◌, length, ap, subst, refl, arith, true, false, is_ok}
use Rattle.std.specs.List.{insert}
use Rattle.std.specs.Option.{option_to_list}
use Rattle.std.proofs.lemmas.List.{length-map}
use Rattle.ib_page.specs.declared.work.TheConstants.{MOST_WORK_PAGES}
use Rattle.ib_page.specs.Work.{IsWork}
use Rattle.ib_page.specs.Rooms.{work_page_in}
use Rattle.ib_page.proofs.RoomLaws.{is_work, place_in, spare_room, read_kept, read_gives}
use Rattle.ib_page.proofs.work.WorkSet.read_in.Goals as goal

pub index_mut-requires : goal.index_mut-requires
index_mut-requires c =
    let popped : c.self.inside.spare.items ≡ c.pop.new.self.items ++ c.unwrap-room.result ∷ [] = c.pop.ensures.items ∙ ap (λ o. c.pop.new.self.items ++ option_to_list o) c.unwrap-room.ensures in
    let free = spare_room _ _ _ _ _ c.unwrap-room.result c.self.invariant.kept popped in
    omega (arith, free.0, c.self.invariant.kept.before_size, c.self.inside.before.ok)

pub invariant_of-self-lent : goal.invariant_of-self-lent
invariant_of-self-lent c w =
    let popped : c.self.inside.spare.items ≡ c.pop.new.self.items ++ c.unwrap-room.result ∷ [] = c.pop.ensures.items ∙ ap (λ o. c.pop.new.self.items ++ option_to_list o) c.unwrap-room.ensures in
    let at : c.index_for-index.result ≡ place_in c.args.page c.self.inside.slots.items = rw c.deref.ensures.value at c.index_for-index.ensures.index in
    let short : length c.self.inside.slots.items < MOST_WORK_PAGES = omega (arith, c.requires.index, ap length c.self.view_is, length-map c.self.inside.slots.items (work_page_in c.self.inside.before.items c.self.inside.changed.items)) in
    let done : is_ok c.insert.result ≡ true = c.insert.ensures.succeeds (omega (arith, c.index_for-index.ensures.in_range, c.deref.ensures.len, ap length c.deref.ensures.value, c.self.invariant.slots_room)) in
    let inserted : c.insert.new.self.items ≡ insert c.self.inside.slots.items c.index_for-index.result (record { page = c.args.page; room = c.unwrap-room.result; edited = false }) = rw done at c.insert.ensures.items in
    record {
      kept = read_kept _ _ _ _ _ _ c.args.page c.unwrap-room.result c.index_for-index.result c.insert.new.self.items c.self.invariant.kept c.self.view_is c.requires.absent popped at inserted w;
      slots_room = omega (arith, c.insert.ensures.capacity, c.self.invariant.slots_room);
      spare_room = omega (arith, c.pop.ensures.capacity, c.self.invariant.spare_room);
    }

pub returns : goal.returns
returns c =
    let popped : c.self.inside.spare.items ≡ c.pop.new.self.items ++ c.unwrap-room.result ∷ [] = c.pop.ensures.items ∙ ap (λ o. c.pop.new.self.items ++ option_to_list o) c.unwrap-room.ensures in
    let at : c.index_for-index.result ≡ place_in c.args.page c.self.inside.slots.items = rw c.deref.ensures.value at c.index_for-index.ensures.index in
    let short : length c.self.inside.slots.items < MOST_WORK_PAGES = omega (arith, c.requires.index, ap length c.self.view_is, length-map c.self.inside.slots.items (work_page_in c.self.inside.before.items c.self.inside.changed.items)) in
    let done : is_ok c.insert.result ≡ true = c.insert.ensures.succeeds (omega (arith, c.index_for-index.ensures.in_range, c.deref.ensures.len, ap length c.deref.ensures.value, c.self.invariant.slots_room)) in
    let inserted : c.insert.new.self.items ≡ insert c.self.inside.slots.items c.index_for-index.result (record { page = c.args.page; room = c.unwrap-room.result; edited = false }) = rw done at c.insert.ensures.items in (
      (refl, λ w. read_gives _ _ _ _ _ _ c.args.page c.unwrap-room.result c.index_for-index.result c.insert.new.self.items c.self.invariant.kept c.self.view_is c.requires.absent popped at inserted w),
      record {
        lends = tt;
        work = subst IsWork c.self.view_is (is_work _ _ _ _ c.self.invariant.kept);
      },
    )
