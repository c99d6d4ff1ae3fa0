-- The records so far stand in the page.
use Rattle.std.proofs.Common.{◌≡◌, ◌≤◌, ◌+◌, ◌*◌, ℕ, get_or, take}
use Rattle.ib_heap.specs.Form.{page_of}
use Rattle.ib_heap.specs.Image.{value_with_records}
use Rattle.ib_heap.specs.Heap.{read_heap}
use Rattle.ib_heap.specs.Filled.{filled}
use Rattle.ib_heap.proofs.rebuild.fill.Given as goal

abbrev pub invariant-loop-record : goal.invariant-loop-record
invariant-loop-record l = record {
  page : page_of l.words ≡ value_with_records (take l.record-index l.records) (page_of l.initial.words);
  heap : read_heap l.words ≡ filled l.record-index;
  rest : (i : ℕ) → 20 + 4 * l.record-index ≤ i → get_or l.words i 0 ≡ 0;
}
