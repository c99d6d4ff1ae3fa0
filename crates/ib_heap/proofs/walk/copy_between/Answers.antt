-- One more record is copied, or lies outside.
use Rattle.std.proofs.Common.{◌<◌, ◌∙◌, ◌+◌, ◌++◌, ◌∷◌, [], length, take, drop, set, ap, sym, arith, length-append, slice_get, Some, ◌≡◌, refl}
use Rattle.std.proofs.lemmas.List.{length-take-le}
use Rattle.ib_map.specs.Pairs.{Pairs, cut}
use Rattle.ib_heap.specs.Chain.{nodes_of}
use Rattle.ib_heap.specs.Image.{records_of}
use Rattle.ib_heap.proofs.CopyLaws.{length-cut, cut_inside, cut_outside, set_next}
use Rattle.ib_heap.proofs.FormLaws.{formed-tree}
use Rattle.ib_heap.proofs.SeekLaws.{chain-start, chain-on, chain-within, chain-record, nodes-length}
use Rattle.ib_heap.proofs.walk.copy_between.Goals as goal
use Rattle.ib_heap.proofs.walk.copy_between.Goals.{then-is_between, else-is_between}

pub count-len-requires : goal.count-len-requires
count-len-requires c = formed-tree c.args.words.now c.requires.tree

pub loop-index-init : goal.loop-index-init
loop-index-init c = record { at = c.next_word-at.ensures.next ∙ chain-start c.args.words.now c.requires.tree; count = refl; records = refl }

pub record_of-record-requires : goal.record_of-record-requires
record_of-record-requires c =
    let ws = c.args.words.now in
    let long = nodes-length ws c.requires.tree in let t = c.loop-index-test.true in let n = c.count-len.ensures.count in let size = c.count-len.ensures.size in
    let low = chain-within ws c.loop-index.index c.loop-index.at c.requires.tree (omega arith) c.loop-index.invariant.at in omega arith

pub bounds-out-copied : goal.bounds-out-copied
bounds-out-copied c =
    let records = records_of c.args.words.now in
    omega (arith, length-cut (take c.loop-index.index records) c.args.low c.args.high, length-take-le c.loop-index.index records (omega arith), c.requires.room)

pub next_word-at-requires-in-loop-index : goal.next_word-at-requires-in-loop-index
next_word-at-requires-in-loop-index c =
    let ws = c.args.words.now in
    let long = nodes-length ws c.requires.tree in let t = c.loop-index-test.true in let n = c.count-len.ensures.count in let size = c.count-len.ensures.size in
    let low = chain-within ws c.loop-index.index c.loop-index.at c.requires.tree (omega arith) c.loop-index.invariant.at in omega arith

pub loop-index-preserved : goal.loop-index-preserved
loop-index-preserved c =
    let ws = c.args.words.now in
    let records = records_of ws in
    let long = nodes-length ws c.requires.tree in let t = c.loop-index-test.true in let n = c.count-len.ensures.count in
    let lt : c.loop-index.index < length (nodes_of ws) = omega arith in
    let there : slice_get records c.loop-index.index ≡ Some c.record_of-record.result = chain-record ws c.loop-index.index c.loop-index.at c.requires.tree lt c.loop-index.invariant.at ∙ ap Some (sym c.record_of-record.ensures) in
    let next = c.next_word-at-in-loop-index.ensures.next ∙ chain-on ws c.loop-index.index c.loop-index.at c.requires.tree lt c.loop-index.invariant.at in
    let few = length-cut (take c.loop-index.index records) c.args.low c.args.high in
    let short = length-take-le c.loop-index.index records (omega arith) in
    let room : c.loop-index.copied < length c.args.out.now = omega (arith, c.requires.room) in
    elim c.if-is_between.branch [
      | then-is_between w ↦
          let more = cut_inside records c.args.low c.args.high c.loop-index.index c.record_of-record.result there (c.is_between.ensures.0 w.if-is_between.true) in
          let put = set_next (cut (take c.loop-index.index records) c.args.low c.args.high) c.args.out.now c.loop-index.copied c.record_of-record.result (sym c.loop-index.invariant.count) room in
          record {
            at = next;
            count = rw w.copied-is (ap (λ n. n + 1) c.loop-index.invariant.count ∙ (sym (length-append (cut (take c.loop-index.index records) c.args.low c.args.high) (c.record_of-record.result ∷ [])) ∙ sym (ap length more)));
            records = rw (w.out-is, w.copied-is) (ap (λ (xs : Pairs). set xs c.loop-index.copied c.record_of-record.result) c.loop-index.invariant.records ∙ (put ∙ ap (λ (xs : Pairs). xs ++ drop (c.loop-index.copied + 1) c.args.out.now) (sym more)));
          }
      | else-is_between w ↦
          let same = cut_outside records c.args.low c.args.high c.loop-index.index c.record_of-record.result there (λ within. let yes = c.is_between.ensures.1 within in let no = w.if-is_between.false in cc) in
          record { at = next; count = rw (w.copied-is, same) c.loop-index.invariant.count; records = rw (w.out-is, w.copied-is, same) c.loop-index.invariant.records }
    ]
