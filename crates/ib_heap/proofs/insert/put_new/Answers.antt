-- An insert's steps, one after another.
use Rattle.std.proofs.Common.{arith}
use Rattle.ib_map.proofs.KeyLaws.{rank-lt_end}
use Rattle.ib_heap.proofs.InsertLaws.{nodes-few, slot-read, can-link, owner-read, put-plain, fourth-read, can-split, put-split}
use Rattle.ib_heap.proofs.insert.put_new.Goals as goal

pub locate-cursor-requires : goal.locate-cursor-requires
locate-cursor-requires c = c.requires.tree

pub overflow_sub-cursor : goal.overflow_sub-cursor
overflow_sub-cursor c = let some = c.locate-cursor.ensures.some in omega arith

pub slot_word-first-requires : goal.slot_word-first-requires
slot_word-first-requires c = let r = slot-read _ _ _ _ _ c.requires.tree c.requires.few c.locate-cursor.ensures in omega arith

pub slot_word-owner-requires : goal.slot_word-owner-requires
slot_word-owner-requires c = slot-read _ _ _ _ _ c.requires.tree c.requires.few c.locate-cursor.ensures

pub take_offset-offset-requires-clause-tree : goal.take_offset-offset-requires-clause-tree
take_offset-offset-requires-clause-tree c = c.requires.tree

pub take_offset-offset-requires-clause-few : goal.take_offset-offset-requires-clause-few
take_offset-offset-requires-clause-few c = nodes-few _ _ _ _ _ c.requires.tree c.requires.few c.locate-cursor.ensures

pub link-requires : goal.link-requires
link-requires c = rw c.slot_word-owner.ensures (can-link _ _ _ _ _ c.requires.tree c.requires.few c.locate-cursor.ensures _ _ c.take_offset-offset.ensures)

pub owned_word-requires : goal.owned_word-requires
owned_word-requires c =
    let linked = rw c.slot_word-owner.ensures at c.link.ensures in
    rw c.slot_word-owner.ensures (owner-read _ _ _ _ _ c.requires.tree c.requires.few c.locate-cursor.ensures _ _ c.take_offset-offset.ensures _ _ linked c.requires.absent (rank-lt_end _))

pub fourth_behind-middle-requires : goal.fourth_behind-middle-requires
fourth_behind-middle-requires c =
    let linked = rw c.slot_word-owner.ensures at c.link.ensures in
    let owned = rw c.slot_word-owner.ensures at c.owned_word.ensures in
    let test = c.if-owned_word-gt-MOST_OWNED.true in
    rw c.slot_word-first.ensures (fourth-read _ _ _ _ _ c.requires.tree c.requires.few c.locate-cursor.ensures _ _ c.take_offset-offset.ensures _ _ linked c.requires.absent (rank-lt_end _) (omega arith))

pub split_slot-requires : goal.split_slot-requires
split_slot-requires c =
    let linked = rw c.slot_word-owner.ensures at c.link.ensures in
    let owned = rw c.slot_word-owner.ensures at c.owned_word.ensures in
    let test = c.if-owned_word-gt-MOST_OWNED.true in
    let middle = rw c.slot_word-first.ensures at c.fourth_behind-middle.ensures in
    rw c.slot_word-owner.ensures (can-split _ _ _ _ _ c.requires.tree c.requires.few c.locate-cursor.ensures _ _ c.take_offset-offset.ensures _ _ linked c.requires.absent (rank-lt_end _) (omega arith) _ middle)

pub returns-then-owned_word-gt-MOST_OWNED : goal.returns-then-owned_word-gt-MOST_OWNED
returns-then-owned_word-gt-MOST_OWNED c =
    let linked = rw c.slot_word-owner.ensures at c.link.ensures in
    let owned = rw c.slot_word-owner.ensures at c.owned_word.ensures in
    let test = c.if-owned_word-gt-MOST_OWNED.true in
    let middle = rw c.slot_word-first.ensures at c.fourth_behind-middle.ensures in
    let split = rw c.slot_word-owner.ensures at c.split_slot.ensures in
    let put = put-split _ _ _ _ _ c.requires.tree c.requires.few c.locate-cursor.ensures _ _ c.take_offset-offset.ensures _ _ linked c.requires.absent (rank-lt_end _) (omega arith) _ middle _ split in
    record { page = put.page; heap = put.heap; kept = put.kept }

pub returns-else-owned_word-gt-MOST_OWNED : goal.returns-else-owned_word-gt-MOST_OWNED
returns-else-owned_word-gt-MOST_OWNED c =
    let linked = rw c.slot_word-owner.ensures at c.link.ensures in
    let owned = rw c.slot_word-owner.ensures at c.owned_word.ensures in
    let test = c.if-owned_word-gt-MOST_OWNED.false in
    let put = put-plain _ _ _ _ _ c.requires.tree c.requires.few c.locate-cursor.ensures _ _ c.take_offset-offset.ensures _ _ linked c.requires.absent (rank-lt_end _) (omega arith) in
    record { page = put.page; heap = put.heap; kept = put.kept }
