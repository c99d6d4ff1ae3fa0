-- One more word is written, or is the same.
use Rattle.std.proofs.Common.{◌+◌, ◌*◌, ℕ, List, get_or, refl, subst, sym, ap, length, arith}
use Rattle.ib_map.specs.declared.TheConstants.{PAGE_WORDS}
use Rattle.ib_page.specs.Writes.{HasWritten, writes_below}
use Rattle.ib_page.proofs.WriteLaws.{count_differ, count-le, written_one, written_still, writes_more_same}
use Rattle.ib_page.proofs.image.Image.write_block.Goals as goal
use Rattle.ib_page.proofs.image.Image.write_block.Goals.{then-self-i, else-self-i}

pub put_write-requires : goal.put_write-requires
put_write-requires c =
    let xs = c.self.inside.words in
    let ys = c.other.inside.words in
    let more = count_differ c.args.page xs ys c.loop-i.i c.if-self-i.true in
    let le = count-le c.args.page xs ys (c.loop-i.i + 1) (c.args.first + 8) (omega arith) in
    let ended = c.loop-i.invariant.ended in
    omega (
      arith,
      ap (λ us. length (writes_below c.args.page us c.args.other.now (c.args.first + 8))) c.self.view_is,
      ap (λ us. length (writes_below c.args.page xs us (c.args.first + 8))) c.other.view_is,
      ap (λ us. length (writes_below c.args.page us c.args.other.now c.args.first)) c.self.view_is,
      ap (λ us. length (writes_below c.args.page xs us c.args.first)) c.other.view_is,
      c.requires.room,
    )

pub loop-i-preserved : goal.loop-i-preserved
loop-i-preserved c =
    let xs = c.self.inside.words in
    let ys = c.other.inside.words in
    let ended = c.loop-i.invariant.ended in
    elim c.if-self-i.branch [
      | then-self-i w ↦ record {
        ended = (let more = count_differ c.args.page xs ys c.loop-i.i w.if-self-i.true in let next = w.end-is in omega arith);
        written = λ had were room before.
            subst (λ (e : ℕ). HasWritten c.args.page xs ys (c.loop-i.i + 1) had were e c.if-self-i.out) (sym w.end-is)
            (subst (λ (ws : List ℕ). HasWritten c.args.page xs ys (c.loop-i.i + 1) had were (c.loop-i.end + 1) ws) (sym (rw w.out-is w.put_write.ensures))
            (written_one c.args.page xs ys c.loop-i.i had were c.loop-i.end c.loop-i.out (c.args.page * PAGE_WORDS + c.loop-i.i) (get_or ys c.loop-i.i 0) w.if-self-i.true room refl refl (c.loop-i.invariant.written had were room before)));
      }
      | else-self-i w ↦
          let same = writes_more_same c.args.page xs ys c.loop-i.i w.if-self-i.false in
          rw (w.out-is, w.end-is) (record {
            ended = rw same ended;
            written = λ had were room before. written_still c.args.page xs ys c.loop-i.i (c.loop-i.i + 1) had were c.loop-i.end c.loop-i.out same (c.loop-i.invariant.written had were room before);
          })
    ]
