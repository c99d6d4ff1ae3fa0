use Rattle.std.proofs.Common.{length, arith}
use Rattle.std.proofs.lemmas.List.FromFn.{length-range_with_len, get_or-range_with_len}
use Rattle.ib_validate.proofs.CopyLaws.{same-list}
use Rattle.ib_tree.specs.PageLists.{pages_below}
use Rattle.ib_tree.proofs.whole.list_pages.Goals as goal

pub returns : goal.returns
returns c =
    let n = length c.args.pages.now in
    let kept = c.loop-page.auto.pages in
    let size = length-range_with_len 0 n in
    let done = c.loop-page-test.false in
    same-list 0 c.loop-page.pages (pages_below n) (omega arith) (λ page lt.
    let is = c.loop-page.invariant page (omega arith) in
    let at = get_or-range_with_len 0 n page 0 (omega arith) in omega arith)
