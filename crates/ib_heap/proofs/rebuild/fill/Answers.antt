-- The next record stands behind all so far, and its offset is the number of these.
use Rattle.std.proofs.Common.{◌≡◌, ◌<◌, ◌+◌, ◌∙◌, ◌*◌, ap, sym, subst, arith, inr, length, take, get_or, List, ℕ, None}
use Rattle.std.proofs.lemmas.List.{length-take-le, take_more}
use Rattle.ib_map.specs.Keys.{MapKey, end_rank}
use Rattle.ib_map.specs.Pairs.{Pairs, Rises, put, value_at, index_of}
use Rattle.ib_heap.specs.Page.{HoldsTree, page_in}
use Rattle.ib_heap.specs.Form.{page_of}
use Rattle.ib_heap.specs.Image.{value_with_records, records_of}
use Rattle.ib_heap.specs.Heap.{read_heap}
use Rattle.ib_heap.specs.Put.{put_in, offset_for}
use Rattle.ib_heap.specs.Filled.{filled}
use Rattle.ib_heap.proofs.FilledLaws.{filled-none, filled-more, filled-offset, behind-kept}
use Rattle.ib_heap.proofs.FillLaws.{is-absent, is-put-last, is-last-index, take-rises}
use Rattle.ib_heap.proofs.RecordsLaws.{holds-with, records-with, with-with, with-same}
use Rattle.ib_heap.proofs.rebuild.fill.Goals as goal

-- what a page holds after some records
module _ (ws vs : List ℕ) (rs : Pairs) (i : ℕ) (item : MapKey × ℕ) (holds : HoldsTree (page_of ws)) (is : page_of vs ≡ value_with_records (take i rs) (page_of ws)) where
  still-tree : HoldsTree (page_of vs)
  still-tree = subst HoldsTree (sym is) (holds-with (take i rs) (page_of ws) holds)

  so-far : records_of vs ≡ take i rs
  so-far = ap (λ v. (page_in v).records) is ∙ records-with (take i rs) (page_of ws) holds

  -- the next record, read with this one as what stands for none
  next-absent : Rises 0 rs end_rank → i < length rs → value_at (get_or rs i item).0 (records_of vs) ≡ None
  next-absent rises lt = ap (λ (xs : Pairs). value_at (get_or rs i item).0 xs) so-far ∙ is-absent (take i rs) (get_or rs i item) (take-rises 0 rs end_rank i item rises lt)

  next-put : Rises 0 rs end_rank → i < length rs → value_with_records (put (get_or rs i item).0 (get_or rs i item).1 (records_of vs)) (page_of vs) ≡ value_with_records (take (i + 1) rs) (page_of ws)
  next-put rises lt =
      let r = get_or rs i item in
      let all : put r.0 r.1 (records_of vs) ≡ take (i + 1) rs = ap (λ (xs : Pairs). put r.0 r.1 xs) so-far ∙ (is-put-last (take i rs) r (take-rises 0 rs end_rank i item rises lt) ∙ sym (take_more rs i item lt)) in
      ap (λ (xs : Pairs). value_with_records xs (page_of vs)) all ∙ (ap (λ v. value_with_records (take (i + 1) rs) v) is ∙ with-with (take (i + 1) rs) (take i rs) (page_of ws))

  next-index : Rises 0 rs end_rank → i < length rs → index_of (get_or rs i item).0 (records_of vs) ≡ i
  next-index rises lt =
      ap (λ (xs : Pairs). index_of (get_or rs i item).0 xs) so-far ∙ (is-last-index (take i rs) (get_or rs i item) (take-rises 0 rs end_rank i item rises lt) ∙ length-take-le i rs (omega arith))

pub loop-record-init : goal.loop-record-init
loop-record-init c = record {
  page = sym (ap (λ (rs : Pairs). value_with_records rs (page_of c.args.words.now)) (sym c.requires.none) ∙ with-same (page_of c.args.words.now));
  heap = c.requires.heap ∙ sym filled-none;
  rest = λ i le. c.requires.rest i (omega arith);
}

pub put_new-requires-clause-tree : goal.put_new-requires-clause-tree
put_new-requires-clause-tree c = still-tree c.args.words.now c.loop-record.words c.args.records.now c.loop-record.record-index c.record-item.result c.requires.tree c.loop-record.invariant.page

pub put_new-requires-clause-few : goal.put_new-requires-clause-few
put_new-requires-clause-few c =
    let rs = c.args.records.now in
    let same = ap length (so-far c.args.words.now c.loop-record.words rs c.loop-record.record-index c.record-item.result c.requires.tree c.loop-record.invariant.page) in
    let t = c.loop-record-test.true in let few = c.requires.few in
    omega (arith, same, length-take-le c.loop-record.record-index rs (omega arith))

pub put_new-requires-clause-absent : goal.put_new-requires-clause-absent
put_new-requires-clause-absent c =
    subst (λ (r : MapKey × ℕ). value_at r.0 (records_of c.loop-record.words) ≡ None) (sym c.record-item.is)
    (next-absent c.args.words.now c.loop-record.words c.args.records.now c.loop-record.record-index c.record-item.result c.requires.tree c.loop-record.invariant.page c.requires.ascends c.loop-record-test.true)

pub loop-record-preserved : goal.loop-record-preserved
loop-record-preserved c =
    let ws = c.args.words.now in let vs = c.loop-record.words in let rs = c.args.records.now in let i = c.loop-record.record-index in
    let is = c.loop-record.invariant.page in
    let now : read_heap c.put_new.new.words ≡ filled (i + 1) = c.put_new.ensures.heap ∙ (ap (λ (r : MapKey × ℕ). put_in (index_of r.0 (records_of vs)) (read_heap vs)) c.record-item.is
    ∙ ap (λ k. put_in k (read_heap vs)) (next-index ws vs rs i c.record-item.result c.requires.tree is c.requires.ascends c.loop-record-test.true)
    ∙ (ap (λ h. put_in i h) c.loop-record.invariant.heap ∙ filled-more i)) in
    let offset : offset_for (read_heap vs) ≡ 20 + 4 * i = ap offset_for c.loop-record.invariant.heap ∙ filled-offset i in
    record {
      page = c.put_new.ensures.page ∙ ap (λ (r : MapKey × ℕ). value_with_records (put r.0 r.1 (records_of vs)) (page_of vs)) c.record-item.is
          ∙ next-put ws vs rs i c.record-item.result c.requires.tree is c.requires.ascends c.loop-record-test.true;
      heap = now;
      rest = λ j le. c.put_new.ensures.kept j (behind-kept c.put_new.new.words (i + 1) j now le) (inr (omega arith)) ∙ c.loop-record.invariant.rest j (omega arith);
    }
