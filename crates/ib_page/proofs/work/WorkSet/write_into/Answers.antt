-- One more page's writes stand behind those of the pages before.
use Rattle.std.proofs.Common.{◌≡◌, ◌<◌, ◌∙◌, ◌+◌, ◌*◌, ◌++◌, length, get_or, ltb, take, drop, ap, subst, sym, arith, false, length-append}
use Rattle.std.specs.Prelude.{◌&&◌, ◌||◌}
use Rattle.ib_map.specs.declared.TheConstants.{PAGE_WORDS}
use Rattle.ib_map.specs.Writes.{write_words, spans_pages}
use Rattle.ib_page.specs.declared.work.Slot.{Slot}
use Rattle.ib_page.specs.Work.{IsWork, WorkPage}
use Rattle.ib_page.specs.Rooms.{pages_in, work_page_in}
use Rattle.ib_page.specs.Writes.{writes_of, page_writes}
use Rattle.ib_page.proofs.RoomLaws.{is_work, room-lt}
use Rattle.ib_page.proofs.BufferLaws.{writes_of-more, writes_of-le, writes_on, writes_before, spans_more, buffer_more}
use Rattle.ib_page.proofs.work.WorkSet.write_into.Goals as goal

pub write_page-end-requires-clause-before : goal.write_page-end-requires-clause-before
write_page-end-requires-clause-before c =
    let d : Slot = record { page = 0; room = 0; edited = false } in
    let lt : c.loop-slot.slot-index < length c.self.inside.slots.items = omega (arith, ap length c.deref-slot-items.ensures.value) in
    let same = ap (λ ss. (get_or ss c.loop-slot.slot-index d).room) c.deref-slot-items.ensures.value in
    omega (arith, same, room-lt _ _ _ _ c.loop-slot.slot-index d c.self.invariant.kept lt, c.self.invariant.kept.before_size, ap length c.deref.ensures.value)

pub write_page-end-requires-clause-changed : goal.write_page-end-requires-clause-changed
write_page-end-requires-clause-changed c =
    let d : Slot = record { page = 0; room = 0; edited = false } in
    let lt : c.loop-slot.slot-index < length c.self.inside.slots.items = omega (arith, ap length c.deref-slot-items.ensures.value) in
    let same = ap (λ ss. (get_or ss c.loop-slot.slot-index d).room) c.deref-slot-items.ensures.value in
    omega (arith, same, room-lt _ _ _ _ c.loop-slot.slot-index d c.self.invariant.kept lt, c.self.invariant.kept.changed_size, ap length c.deref-in-loop-slot.ensures.value)

pub write_page-end-requires-clause-room : goal.write_page-end-requires-clause-room
write_page-end-requires-clause-room c =
    let d : Slot = record { page = 0; room = 0; edited = false } in
    let lt : c.loop-slot.slot-index < length c.self.inside.slots.items = omega (arith, ap length c.deref-slot-items.ensures.value) in
    let page : WorkPage = work_page_in c.self.inside.before.items c.self.inside.changed.items (get_or c.self.inside.slots.items c.loop-slot.slot-index d) in
    let same : work_page_in c.deref.result.now c.deref-in-loop-slot.result.now (get_or c.deref-slot-items.result.now c.loop-slot.slot-index d) ≡ page =
    ap (λ v. work_page_in v c.deref-in-loop-slot.result.now (get_or c.deref-slot-items.result.now c.loop-slot.slot-index d)) c.deref.ensures.value
    ∙ (ap (λ v. work_page_in c.self.inside.before.items v (get_or c.deref-slot-items.result.now c.loop-slot.slot-index d)) c.deref-in-loop-slot.ensures.value
    ∙ ap (λ ss. work_page_in c.self.inside.before.items c.self.inside.changed.items (get_or ss c.loop-slot.slot-index d)) c.deref-slot-items.ensures.value) in
    let ws = writes_of (pages_in c.self.inside.before.items c.self.inside.changed.items (take c.loop-slot.slot-index c.self.inside.slots.items)) in
    let more = writes_of-more c.self.inside.before.items c.self.inside.changed.items c.self.inside.slots.items c.loop-slot.slot-index d lt in
    let most = writes_of-le c.self.inside.before.items c.self.inside.changed.items c.self.inside.slots.items (c.loop-slot.slot-index + 1) in
    omega (arith, c.requires, ap (λ ps. length (writes_of ps)) c.self.view_is, ap (λ p. length (page_writes p)) same, ap length more, length-append ws (page_writes page), c.loop-slot.invariant.count)

pub loop-slot-preserved : goal.loop-slot-preserved
loop-slot-preserved c =
    let d : Slot = record { page = 0; room = 0; edited = false } in
    let lt : c.loop-slot.slot-index < length c.self.inside.slots.items = omega (arith, ap length c.deref-slot-items.ensures.value) in
    let page : WorkPage = work_page_in c.self.inside.before.items c.self.inside.changed.items (get_or c.self.inside.slots.items c.loop-slot.slot-index d) in
    let same : work_page_in c.deref.result.now c.deref-in-loop-slot.result.now (get_or c.deref-slot-items.result.now c.loop-slot.slot-index d) ≡ page =
    ap (λ v. work_page_in v c.deref-in-loop-slot.result.now (get_or c.deref-slot-items.result.now c.loop-slot.slot-index d)) c.deref.ensures.value
    ∙ (ap (λ v. work_page_in c.self.inside.before.items v (get_or c.deref-slot-items.result.now c.loop-slot.slot-index d)) c.deref-in-loop-slot.ensures.value
    ∙ ap (λ ss. work_page_in c.self.inside.before.items c.self.inside.changed.items (get_or ss c.loop-slot.slot-index d)) c.deref-slot-items.ensures.value) in
    let ws = writes_of (pages_in c.self.inside.before.items c.self.inside.changed.items (take c.loop-slot.slot-index c.self.inside.slots.items)) in
    let more = writes_of-more c.self.inside.before.items c.self.inside.changed.items c.self.inside.slots.items c.loop-slot.slot-index d lt in
    let vs = page_writes page in
    let ended : c.write_page-end.result ≡ c.loop-slot.count + length vs = c.write_page-end.ensures.count ∙ ap (λ p. c.loop-slot.count + length (page_writes p)) same in
    let put = subst (λ (p : WorkPage). c.write_page-end.new.out ≡ take (2 * c.loop-slot.count) c.loop-slot.out ++ write_words (page_writes p) ++ drop (2 * (c.loop-slot.count + length (page_writes p))) c.loop-slot.out) same c.write_page-end.ensures.words in
    let words = buffer_more ws vs c.args.out.now c.loop-slot.out c.write_page-end.new.out c.loop-slot.count c.loop-slot.invariant.count c.loop-slot.invariant.words put in
    let spans = spans_more page.page ws vs c.loop-slot.count c.write_page-end.result
    (writes_before c.self.inside.before.items c.self.inside.changed.items 0 c.self.inside.slots.items c.loop-slot.slot-index d c.self.invariant.kept.ascends lt)
    (writes_on page.page page.before page.changed PAGE_WORDS (omega arith)) c.loop-slot.invariant.count ended in
    record {
      count = ended ∙ (ap (λ n. n + length vs) c.loop-slot.invariant.count ∙ (sym (length-append ws vs) ∙ sym (ap length more)));
      structural = c.spans_further-structural.ensures ∙ (ap (λ b. b || (ltb 0 c.loop-slot.count && ltb c.loop-slot.count c.write_page-end.result)) c.loop-slot.invariant.structural ∙ (sym spans ∙ sym (ap spans_pages more)));
      words = words ∙ (ap (λ us. write_words us ++ drop (2 * (c.loop-slot.count + length vs)) c.args.out.now) (sym more) ∙ ap (λ k. write_words (writes_of (pages_in c.self.inside.before.items c.self.inside.changed.items (take (c.loop-slot.slot-index + 1) c.self.inside.slots.items))) ++ drop (2 * k) c.args.out.now) (sym ended));
    }

pub returns-clause-work : goal.returns-clause-work
returns-clause-work c = subst IsWork c.self.view_is (is_work _ _ _ _ c.self.invariant.kept)
