use Rattle.std.proofs.Common.{ℕ, ◌<◌, List, length, All, sym, subst, arith}
use Rattle.ib_tree.proofs.WholeTestLaws.{All-pages_below}
use Rattle.ib_tree.proofs.whole.all_pages_pass.Goals as goal

pub all_pass-requires-clause-in_range : goal.all_pass-requires-clause-in_range
all_pass-requires-clause-in_range c =
    let size = c.requires.size in
    let P : List ℕ → Type 0 = λ ps. All (λ p. p < length c.args.table.now) ps in
    subst P (sym c.requires.pages) (All-pages_below (length c.args.memory.now) (λ p. p < length c.args.table.now) (λ p lt. omega arith))
