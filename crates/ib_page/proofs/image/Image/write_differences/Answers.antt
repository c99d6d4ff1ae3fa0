-- One more block is written, or is the same.
use Rattle.std.proofs.Common.{◌≡◌, ◌≤◌, ◌+◌, ◌*◌, ◌∙◌, ℕ, subst, sym, ap, length, arith}
use Rattle.ib_map.specs.declared.TheConstants.{PAGE_WORDS}
use Rattle.ib_page.specs.Writes.{AreSame, HasWritten, writes_below}
use Rattle.ib_page.proofs.WriteLaws.{count-le, put_none, writes_none, writes_through, written_still}
use Rattle.ib_page.proofs.image.Image.write_differences.Goals as goal
use Rattle.ib_page.proofs.image.Image.write_differences.Goals.{then-not-is_same_block, else-not-is_same_block}

pub loop-block-init : goal.loop-block-init
loop-block-init c = record {
  ended = rw (writes_none c.args.page c.args.self.now c.args.other.now) (omega arith);
  words = rw (writes_none c.args.page c.args.self.now c.args.other.now) (put_none c.args.out.now (2 * c.args.count));
}

pub write_block-end-requires-clause-room : goal.write_block-end-requires-clause-room
write_block-end-requires-clause-room c =
    let ended = c.loop-block.invariant.ended in
    let le = count-le c.args.page c.args.self.now c.args.other.now (c.loop-block.block * 8 + 8) PAGE_WORDS (omega arith) in
    omega (arith, c.requires)

pub loop-block-preserved : goal.loop-block-preserved
loop-block-preserved c =
    let xs = c.args.self.now in
    let ys = c.args.other.now in
    let n = c.loop-block.block * 8 in
    let next : n + 8 ≡ (c.loop-block.block + 1) * 8 = omega arith in
    let most = count-le c.args.page xs ys 0 PAGE_WORDS (omega arith) in
    let room : 2 * c.args.count ≤ length c.args.out.now = omega (arith, c.requires) in
    elim c.if-not-is_same_block.branch [
      | then-not-is_same_block w ↦
          let written = w.write_block-end.ensures c.args.count c.args.out.now room c.loop-block.invariant in
          rw (w.out-is, w.end-is) (subst (λ (m : ℕ). HasWritten c.args.page xs ys m c.args.count c.args.out.now w.write_block-end.result w.write_block-end.new.out) next written)
      | else-not-is_same_block w ↦
          let same : AreSame n (n + 8) xs ys = c.is_same_block.ensures w.if-not-is_same_block.false in
          let still = ap (λ (m : ℕ). writes_below c.args.page xs ys m) (sym next) ∙ writes_through c.args.page xs ys n 8 same in
          rw (w.out-is, w.end-is) (written_still c.args.page xs ys n ((c.loop-block.block + 1) * 8) c.args.count c.args.out.now c.loop-block.end c.loop-block.out still c.loop-block.invariant)
    ]
