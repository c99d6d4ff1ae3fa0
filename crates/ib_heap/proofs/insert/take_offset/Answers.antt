-- The front of the free list, or the offset at the top.
use Rattle.std.proofs.Common.{arith, ◌∙◌}
use Rattle.ib_heap.proofs.SeekLaws.{known}
use Rattle.ib_heap.proofs.OffsetLaws.{known-free, known-top}
use Rattle.ib_heap.proofs.insert.take_offset.Goals as goal

pub bounds-words-6 : goal.bounds-words-6
bounds-words-6 c = let k = known _ c.requires.tree in let z = k.size in omega arith

pub bounds-words-7 : goal.bounds-words-7
bounds-words-7 c = let k = known _ c.requires.tree in let z = k.size in omega arith

pub bounds-words-first : goal.bounds-words-first
bounds-words-first c = let k = known _ c.requires.tree in let z = k.size in let f = known-free _ k (λ z. absurd (let t = c.if-first-ne0.true in omega arith)) in let h = f.high in omega arith

pub offset_bounds-words-first : goal.offset_bounds-words-first
offset_bounds-words-first c = let k = known _ c.requires.tree in let f = known-free _ k (λ z. absurd (let t = c.if-first-ne0.true in omega arith)) in let h = f.high in omega arith

pub returns-then-first-ne0 : goal.returns-then-first-ne0
returns-then-first-ne0 c =
    let f = known-free _ (known _ c.requires.tree) (λ z. absurd (let t = c.if-first-ne0.true in omega arith)) in
    let same = f.same in
    let kept = c.write.ensures.other 7 (λ z. absurd (omega arith)) in
    record { offset = f.offset; low = f.low; high = f.high; front = c.write.ensures.here ∙ f.next; top = omega arith; other = λ i six seven. c.write.ensures.other i six; size = c.write.ensures.size }

pub overflow_add-top : goal.overflow_add-top
overflow_add-top c = let k = known _ c.requires.tree in let t = k.is.shape.top in let f = k.few in let s = k.slots in omega arith

pub write-requires-2 : goal.write-requires-2
write-requires-2 c = let k = known _ c.requires.tree in let z = k.size in omega arith

pub returns : goal.returns
returns c =
    let k = known _ c.requires.tree in
    let t = k.is.shape.top in let f = k.few in let few = c.requires.few in
    let p = known-top _ k (let z = c.if-first-ne0.false in omega arith) in
    let n = p.none in let m = p.more in
    let here = c.write-2.ensures.here in
    record {
      offset = p.offset;
      low = omega arith;
      high = omega arith;
      front = c.write-2.ensures.other 6 (λ z. absurd (omega arith)) ∙ ((let z = c.if-first-ne0.false in omega arith) ∙ p.front);
      top = omega arith;
      other = λ i six seven. c.write-2.ensures.other i seven;
      size = c.write-2.ensures.size;
    }
