-- The record is taken out, and its slot is balanced where it is short.
use Rattle.std.proofs.Common.{◌≡◌, ◌<◌, ◌≤◌, ◌/◌, ◌+◌, ◌∙◌, ap, sym, arith, inl, inr, get_or, ℕ, Some}
use Rattle.ib_map.specs.Keys.{MapKey}
use Rattle.ib_heap.proofs.RemovalLaws.{IsOut, record-read, value-there, short-slot-read, short-read, removed-well, after-slot-read, after-read, can-lend, removed-lent, can-join, removed-joined}
use Rattle.ib_heap.proofs.remove.take_there.Goals as goal

pub locate-cursor-requires : goal.locate-cursor-requires
locate-cursor-requires c = c.requires.tree

pub record_of-value-requires : goal.record_of-value-requires
record_of-value-requires c = record-read _ _ _ _ _ c.requires.tree c.requires.found c.locate-cursor.ensures

pub take_out-requires : goal.take_out-requires
take_out-requires c = record { tree = c.requires.tree; found = c.requires.found; stands = c.locate-cursor.ensures }

pub slot_word-short-requires : goal.slot_word-short-requires
slot_word-short-requires c =
    let out : IsOut c.args.words.now c.take_out.new.words c.args.key = record { shaped = c.take_out.ensures.shaped; page = c.take_out.ensures.page; kept = c.take_out.ensures.kept } in
    short-slot-read _ _ _ _ _ c.requires.tree c.requires.found c.locate-cursor.ensures _ out

pub returns-then-short-eq-SUPREMUM : goal.returns-then-short-eq-SUPREMUM
returns-then-short-eq-SUPREMUM c =
    let out : IsOut c.args.words.now c.take_out.new.words c.args.key = record { shaped = c.take_out.ensures.shaped; page = c.take_out.ensures.page; kept = c.take_out.ensures.kept } in
    let done = removed-well _ _ _ _ _ c.requires.tree c.requires.found c.locate-cursor.ensures _ out (inl (sym c.slot_word-short.ensures ∙ c.if-short-eq-SUPREMUM.true)) in
    record { value = value-there _ _ _ _ _ c.requires.tree c.requires.found c.locate-cursor.ensures ∙ ap (λ (v : ℕ). Some v) (sym (ap (λ (r : MapKey × ℕ). r.1) c.record_of-value.ensures)); page = done.page; heap = done.heap; kept = done.kept }

pub owned_word-requires : goal.owned_word-requires
owned_word-requires c =
    let out : IsOut c.args.words.now c.take_out.new.words c.args.key = record { shaped = c.take_out.ensures.shaped; page = c.take_out.ensures.page; kept = c.take_out.ensures.kept } in
    rw c.slot_word-short.ensures (short-read _ _ _ _ _ c.requires.tree c.requires.found c.locate-cursor.ensures _ out)

pub returns-then-owned_word-ne-ONE_TOO_FEW : goal.returns-then-owned_word-ne-ONE_TOO_FEW
returns-then-owned_word-ne-ONE_TOO_FEW c =
    let out : IsOut c.args.words.now c.take_out.new.words c.args.key = record { shaped = c.take_out.ensures.shaped; page = c.take_out.ensures.page; kept = c.take_out.ensures.kept } in
    let owned = rw c.slot_word-short.ensures at c.owned_word.ensures in
    let done = removed-well _ _ _ _ _ c.requires.tree c.requires.found c.locate-cursor.ensures _ out (inr (λ z. c.if-owned_word-ne-ONE_TOO_FEW.true (owned ∙ z))) in
    record { value = value-there _ _ _ _ _ c.requires.tree c.requires.found c.locate-cursor.ensures ∙ ap (λ (v : ℕ). Some v) (sym (ap (λ (r : MapKey × ℕ). r.1) c.record_of-value.ensures)); page = done.page; heap = done.heap; kept = done.kept }

pub overflow_add-cursor : goal.overflow_add-cursor
overflow_add-cursor c =
    let out : IsOut c.args.words.now c.take_out.new.words c.args.key = record { shaped = c.take_out.ensures.shaped; page = c.take_out.ensures.page; kept = c.take_out.ensures.kept } in
    let ne = rw c.slot_word-short.ensures at c.if-short-eq-SUPREMUM.false in
    let owned = rw c.slot_word-short.ensures at c.owned_word.ensures in
    let three = sym owned ∙ c.if-owned_word-ne-ONE_TOO_FEW.false in
    let read = after-slot-read _ _ _ _ _ c.requires.tree c.requires.found c.locate-cursor.ensures _ out ne three in let size = c.take_out.auto.words in let long = record-read _ _ _ _ _ c.requires.tree c.requires.found c.locate-cursor.ensures in omega arith

pub slot_word-after-requires : goal.slot_word-after-requires
slot_word-after-requires c =
    let out : IsOut c.args.words.now c.take_out.new.words c.args.key = record { shaped = c.take_out.ensures.shaped; page = c.take_out.ensures.page; kept = c.take_out.ensures.kept } in
    let ne = rw c.slot_word-short.ensures at c.if-short-eq-SUPREMUM.false in
    let owned = rw c.slot_word-short.ensures at c.owned_word.ensures in
    let three = sym owned ∙ c.if-owned_word-ne-ONE_TOO_FEW.false in
    after-slot-read _ _ _ _ _ c.requires.tree c.requires.found c.locate-cursor.ensures _ out ne three

pub owned_word-requires-2 : goal.owned_word-requires-2
owned_word-requires-2 c =
    let out : IsOut c.args.words.now c.take_out.new.words c.args.key = record { shaped = c.take_out.ensures.shaped; page = c.take_out.ensures.page; kept = c.take_out.ensures.kept } in
    let ne = rw c.slot_word-short.ensures at c.if-short-eq-SUPREMUM.false in
    let owned = rw c.slot_word-short.ensures at c.owned_word.ensures in
    let three = sym owned ∙ c.if-owned_word-ne-ONE_TOO_FEW.false in
    let after : c.slot_word-after.result ≡ get_or c.take_out.new.words (9 + c.locate-cursor.result.slot) 0 = c.slot_word-after.ensures ∙ ap (λ n. get_or c.take_out.new.words n 0) (let e : 8 + (c.locate-cursor.result.slot + 1) ≡ 9 + c.locate-cursor.result.slot = omega arith in e) in
    rw after (after-read _ _ _ _ _ c.requires.tree c.requires.found c.locate-cursor.ensures _ out ne three)

pub next_word-first-requires : goal.next_word-first-requires
next_word-first-requires c =
    let out : IsOut c.args.words.now c.take_out.new.words c.args.key = record { shaped = c.take_out.ensures.shaped; page = c.take_out.ensures.page; kept = c.take_out.ensures.kept } in
    rw c.slot_word-short.ensures (short-read _ _ _ _ _ c.requires.tree c.requires.found c.locate-cursor.ensures _ out)

pub lend-requires : goal.lend-requires
lend-requires c =
    let out : IsOut c.args.words.now c.take_out.new.words c.args.key = record { shaped = c.take_out.ensures.shaped; page = c.take_out.ensures.page; kept = c.take_out.ensures.kept } in
    let ne = rw c.slot_word-short.ensures at c.if-short-eq-SUPREMUM.false in
    let owned = rw c.slot_word-short.ensures at c.owned_word.ensures in
    let three = sym owned ∙ c.if-owned_word-ne-ONE_TOO_FEW.false in
    let after : c.slot_word-after.result ≡ get_or c.take_out.new.words (9 + c.locate-cursor.result.slot) 0 = c.slot_word-after.ensures ∙ ap (λ n. get_or c.take_out.new.words n 0) (let e : 8 + (c.locate-cursor.result.slot + 1) ≡ 9 + c.locate-cursor.result.slot = omega arith in e) in
    let more = rw after at c.owned_word-2.ensures in
    let test = c.if-owned_word-gt-FEWEST_OWNED.true in
    let five : 5 ≤ get_or c.take_out.new.words (get_or c.take_out.new.words (9 + c.locate-cursor.result.slot) 0) 0 / 256 = omega arith in
    let first = rw c.slot_word-short.ensures at c.next_word-first.ensures.next in
    rw (after, first, c.slot_word-short.ensures) (can-lend _ _ _ _ _ c.requires.tree c.requires.found c.locate-cursor.ensures _ out ne three five)

pub returns-then-owned_word-gt-FEWEST_OWNED : goal.returns-then-owned_word-gt-FEWEST_OWNED
returns-then-owned_word-gt-FEWEST_OWNED c =
    let out : IsOut c.args.words.now c.take_out.new.words c.args.key = record { shaped = c.take_out.ensures.shaped; page = c.take_out.ensures.page; kept = c.take_out.ensures.kept } in
    let ne = rw c.slot_word-short.ensures at c.if-short-eq-SUPREMUM.false in
    let owned = rw c.slot_word-short.ensures at c.owned_word.ensures in
    let three = sym owned ∙ c.if-owned_word-ne-ONE_TOO_FEW.false in
    let after : c.slot_word-after.result ≡ get_or c.take_out.new.words (9 + c.locate-cursor.result.slot) 0 = c.slot_word-after.ensures ∙ ap (λ n. get_or c.take_out.new.words n 0) (let e : 8 + (c.locate-cursor.result.slot + 1) ≡ 9 + c.locate-cursor.result.slot = omega arith in e) in
    let more = rw after at c.owned_word-2.ensures in
    let test = c.if-owned_word-gt-FEWEST_OWNED.true in
    let five : 5 ≤ get_or c.take_out.new.words (get_or c.take_out.new.words (9 + c.locate-cursor.result.slot) 0) 0 / 256 = omega arith in
    let first = rw c.slot_word-short.ensures at c.next_word-first.ensures.next in
    let lent = rw (after, first, c.slot_word-short.ensures) at c.lend.ensures in
    let done = removed-lent _ _ _ _ _ c.requires.tree c.requires.found c.locate-cursor.ensures _ out ne three five _ lent in
    record { value = value-there _ _ _ _ _ c.requires.tree c.requires.found c.locate-cursor.ensures ∙ ap (λ (v : ℕ). Some v) (sym (ap (λ (r : MapKey × ℕ). r.1) c.record_of-value.ensures)); page = done.page; heap = done.heap; kept = done.kept }

pub join_slots-requires : goal.join_slots-requires
join_slots-requires c =
    let out : IsOut c.args.words.now c.take_out.new.words c.args.key = record { shaped = c.take_out.ensures.shaped; page = c.take_out.ensures.page; kept = c.take_out.ensures.kept } in
    let ne = rw c.slot_word-short.ensures at c.if-short-eq-SUPREMUM.false in
    let owned = rw c.slot_word-short.ensures at c.owned_word.ensures in
    let three = sym owned ∙ c.if-owned_word-ne-ONE_TOO_FEW.false in
    let after : c.slot_word-after.result ≡ get_or c.take_out.new.words (9 + c.locate-cursor.result.slot) 0 = c.slot_word-after.ensures ∙ ap (λ n. get_or c.take_out.new.words n 0) (let e : 8 + (c.locate-cursor.result.slot + 1) ≡ 9 + c.locate-cursor.result.slot = omega arith in e) in
    let more = rw after at c.owned_word-2.ensures in
    let test = c.if-owned_word-gt-FEWEST_OWNED.false in
    let few : get_or c.take_out.new.words (get_or c.take_out.new.words (9 + c.locate-cursor.result.slot) 0) 0 / 256 < 5 = omega arith in
    rw (after, c.slot_word-short.ensures) (can-join _ _ _ _ _ c.requires.tree c.requires.found c.locate-cursor.ensures _ out ne three few)

pub returns : goal.returns
returns c =
    let out : IsOut c.args.words.now c.take_out.new.words c.args.key = record { shaped = c.take_out.ensures.shaped; page = c.take_out.ensures.page; kept = c.take_out.ensures.kept } in
    let ne = rw c.slot_word-short.ensures at c.if-short-eq-SUPREMUM.false in
    let owned = rw c.slot_word-short.ensures at c.owned_word.ensures in
    let three = sym owned ∙ c.if-owned_word-ne-ONE_TOO_FEW.false in
    let after : c.slot_word-after.result ≡ get_or c.take_out.new.words (9 + c.locate-cursor.result.slot) 0 = c.slot_word-after.ensures ∙ ap (λ n. get_or c.take_out.new.words n 0) (let e : 8 + (c.locate-cursor.result.slot + 1) ≡ 9 + c.locate-cursor.result.slot = omega arith in e) in
    let more = rw after at c.owned_word-2.ensures in
    let test = c.if-owned_word-gt-FEWEST_OWNED.false in
    let few : get_or c.take_out.new.words (get_or c.take_out.new.words (9 + c.locate-cursor.result.slot) 0) 0 / 256 < 5 = omega arith in
    let joined = rw (after, c.slot_word-short.ensures) at c.join_slots.ensures in
    let done = removed-joined _ _ _ _ _ c.requires.tree c.requires.found c.locate-cursor.ensures _ out ne three few _ joined in
    record { value = value-there _ _ _ _ _ c.requires.tree c.requires.found c.locate-cursor.ensures ∙ ap (λ (v : ℕ). Some v) (sym (ap (λ (r : MapKey × ℕ). r.1) c.record_of-value.ensures)); page = done.page; heap = done.heap; kept = done.kept }
