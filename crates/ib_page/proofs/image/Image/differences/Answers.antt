-- One more word differs, or is the same.
use Rattle.std.proofs.Common.{arith}
use Rattle.ib_page.proofs.WriteLaws.{writes_none, count_same, count_differ}
use Rattle.ib_page.proofs.image.Image.differences.Goals as goal
use Rattle.ib_page.proofs.image.Image.differences.Goals.{then-self-i, else-self-i}

pub loop-i-init : goal.loop-i-init
loop-i-init c = record { count = λ page. rw (writes_none page c.self.inside.words c.other.inside.words) (omega arith); few = omega arith }

pub loop-i-preserved : goal.loop-i-preserved
loop-i-preserved c =
    let xs = c.self.inside.words in
    let ys = c.other.inside.words in
    elim c.if-self-i.branch [
      | then-self-i w ↦ record {
        count = λ page. (let more = count_differ page xs ys c.loop-i.i w.if-self-i.true in let now = c.loop-i.invariant.count page in omega arith);
        few = omega arith;
      }
      | else-self-i w ↦ record {
        count = λ page. (let more = count_same page xs ys c.loop-i.i w.if-self-i.false in let now = c.loop-i.invariant.count page in omega arith);
        few = omega arith;
      }
    ]
