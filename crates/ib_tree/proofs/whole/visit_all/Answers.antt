use Rattle.std.proofs.Common.{ℕ, ◌<◌, ◌∙◌, List, length, All, sym, ap, subst, arith}
use Rattle.ib_map.specs.Keys.{end_rank}
use Rattle.ib_heap.specs.declared.TheConstants.{MOST_LEVEL}
use Rattle.ib_walk.specs.Words.{memory_of}
use Rattle.ib_validate.specs.PatchTest.{set_roots, visit_levels}
use Rattle.ib_validate.specs.Positions.{is_good_at, positions_of}
use Rattle.ib_validate.proofs.StepLaws.{step-by}
use Rattle.ib_tree.specs.PageLists.{is_below, pages_below}
use Rattle.ib_tree.proofs.WholeTestLaws.{All-pages_below, visited-whole}
use Rattle.ib_tree.proofs.whole.visit_all.Goals as goal

pub visit_levels-requires-clause-in_range : goal.visit_levels-requires-clause-in_range
visit_levels-requires-clause-in_range c =
    let size = c.requires.may.old_size in
    let P : List ℕ → Type 0 = λ ps. All (λ p. p < length c.args.old.now) ps in
    subst P (sym c.requires.may.pages_are) (All-pages_below (length c.args.memory.now) (λ p. p < length c.args.old.now) (λ p lt. omega arith))

pub returns : goal.returns
returns c =
    let n = length c.args.memory.now in
    let m = memory_of c.args.memory.now in
    let start = visited-whole c.args.memory.now n c.args.roots (pages_below n)
    ∙ sym (c.meet_roots.ensures ∙ ap (set_roots (is_below n) m end_rank c.args.roots) c.requires.may.same) in
    let marks = sym c.requires.may.marks in
    let old = sym c.requires.may.opening in
    let pages = sym c.requires.may.pages_are in
    step-by _ _ c.visit_levels.result (positions_of c.visit_levels.new.table)
    (λ i. visit_levels (marks i) (old i) m (is_good_at m) MOST_LEVEL (pages i) (start i)) c.visit_levels.ensures
