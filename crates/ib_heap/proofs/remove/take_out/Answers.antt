-- The record is unlinked, or hands its slot over, and its offset is given back.
use Rattle.std.proofs.Common.{◌∙◌, sym}
use Rattle.ib_heap.proofs.RemovalLaws.{slot-read, can-hand-over, can-give-owner, owner-out, can-unlink, can-give-plain, plain-out}
use Rattle.ib_heap.proofs.remove.take_out.Goals as goal

pub slot_word-owner-requires : goal.slot_word-owner-requires
slot_word-owner-requires c = slot-read _ _ _ _ _ c.requires.tree c.requires.found c.requires.stands

pub hand_over-requires : goal.hand_over-requires
hand_over-requires c = can-hand-over _ _ _ _ _ c.requires.tree c.requires.found c.requires.stands (c.if-cursor-owner.true ∙ c.slot_word-owner.ensures)

pub give_back-requires : goal.give_back-requires
give_back-requires c = can-give-owner _ _ _ _ _ c.requires.tree c.requires.found c.requires.stands (c.if-cursor-owner.true ∙ c.slot_word-owner.ensures) _ c.hand_over.ensures

pub returns-then-cursor-owner : goal.returns-then-cursor-owner
returns-then-cursor-owner c =
    let o = owner-out _ _ _ _ _ c.requires.tree c.requires.found c.requires.stands (c.if-cursor-owner.true ∙ c.slot_word-owner.ensures) _ c.hand_over.ensures _ c.give_back.ensures in
    record { shaped = o.shaped; page = o.page; kept = o.kept }

pub unlink-requires : goal.unlink-requires
unlink-requires c = rw c.slot_word-owner.ensures (can-unlink _ _ _ _ _ c.requires.tree c.requires.found c.requires.stands (λ e. c.if-cursor-owner.false (e ∙ sym c.slot_word-owner.ensures)))

pub give_back-requires-2 : goal.give_back-requires-2
give_back-requires-2 c =
    can-give-plain _ _ _ _ _ c.requires.tree c.requires.found c.requires.stands (λ e. c.if-cursor-owner.false (e ∙ sym c.slot_word-owner.ensures)) _ (rw c.slot_word-owner.ensures at c.unlink.ensures)

pub returns : goal.returns
returns c =
    let o = plain-out _ _ _ _ _ c.requires.tree c.requires.found c.requires.stands (λ e. c.if-cursor-owner.false (e ∙ sym c.slot_word-owner.ensures)) _ (rw c.slot_word-owner.ensures at c.unlink.ensures) _ c.give_back-2.ensures in
    record { shaped = o.shaped; page = o.page; kept = o.kept }
