-- One entry more is applied.
use Rattle.std.specs.List.{All}
use Rattle.std.proofs.Common.{◌≡◌, ◌∙◌, ◌*◌, ◌<◌, ℕ, List, refl, length, get_or, take, sym, ap, subst, arith}
use Rattle.std.proofs.Math.Seq.{take-length}
use Rattle.ib_map.specs.declared.TheConstants.{PAGE_WORDS}
use Rattle.ib_map.specs.declared.write.Write.{Write}
use Rattle.ib_page.specs.Memory.{word_at}
use Rattle.ib_logrec.specs.declared.entry.Entry.{Entry}
use Rattle.ib_image.specs.Applied.{IsApplied, start_of, stored_from}
use Rattle.ib_image.proofs.ApplyLaws.{tail_none, tail_more, tail_inside}
use Rattle.ib_image.proofs.apply.put_tail.Goals as goal

pub loop-count-init : goal.loop-count-init
loop-count-init c = record { size = refl; words = λ place lt. sym (tail_none (start_of c.args.starts.now place) place (word_at c.args.images.now place)) }

pub put_entry-requires-clause-inside : goal.put_entry-requires-clause-inside
put_entry-requires-clause-inside c =
    let e : Entry = c.index-tail-count.result in
    let all = tail_inside (length c.args.images.now) c.args.tail.now c.loop-count.count e c.requires.grammar c.loop-count-test.true in
    let here = subst (λ (x : Entry). All (λ (w : Write). w.place < length c.args.images.now * PAGE_WORDS) x.writes) (sym c.index-tail-count.is) all in
    subst (λ (ws : List Write). All (λ (w : Write). w.place < length c.loop-count.images * PAGE_WORDS) ws) (sym c.as_slice.ensures)
    (subst (λ (n : ℕ). All (λ (w : Write). w.place < n * PAGE_WORDS) e.writes) (sym c.loop-count.invariant.size) here)

pub loop-count-preserved : goal.loop-count-preserved
loop-count-preserved c =
    let size = c.loop-count.invariant.size in
    let e : Entry = c.index-tail-count.result in
    let writes = c.as_slice.ensures ∙ ap (λ (x : Entry). x.writes) c.index-tail-count.is in
    record {
      size = c.put_entry.ensures.size ∙ size;
      words = λ place lt.
          let within : place < length c.loop-count.images * PAGE_WORDS = omega arith in
          c.put_entry.ensures.words place within
          ∙ (ap (λ (ws : List Write). stored_from (start_of c.args.starts.now place) c.loop-count.count ws place (word_at c.loop-count.images place)) writes
          ∙ (ap (stored_from (start_of c.args.starts.now place) c.loop-count.count (get_or c.args.tail.now c.loop-count.count e).writes place) (c.loop-count.invariant.words place lt)
          ∙ tail_more (start_of c.args.starts.now place) c.loop-count.count c.args.tail.now e place (word_at c.args.images.now place) c.loop-count-test.true));
    }

pub returns : goal.returns
returns c =
    let past = c.loop-count-test.false in let end = c.loop-count.auto.count-end in
    let at : c.loop-count.count ≡ length c.args.tail.now = omega arith in
    subst (λ (es : List Entry). IsApplied c.args.images.now c.args.starts.now es c.loop-count.images) (ap (λ (n : ℕ). take n c.args.tail.now) at ∙ take-length c.args.tail.now) c.loop-count.invariant
