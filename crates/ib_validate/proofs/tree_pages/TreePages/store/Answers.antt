use Rattle.std.proofs.Common.{◌≡◌, ◌≢◌, ◌∙◌, ◌++◌, ◌<◌, ℕ, List, sym, ap, subst, arith, length, take, drop, get_or, All}
use Rattle.ib_map.specs.Writes.{touches}
use Rattle.ib_page.specs.Memory.{image_at}
use Rattle.ib_validate.specs.Positions.{marks_of}
use Rattle.ib_validate.proofs.FormMarks.{second-false, still-right}
use Rattle.ib_validate.proofs.PositionLaws.{marks_of-within}
use Rattle.ib_validate.proofs.ListedLaws.{listed-mine, listed-else, written-back}
use Rattle.ib_validate.proofs.tree_pages.TreePages.store.Goals as goal

pub test_pages-requires-clause-in_range : goal.test_pages-requires-clause-in_range
test_pages-requires-clause-in_range c =
    let kept = c.self.invariant.kept in
    let listed = c.mark_pages.ensures.listed in
    let there = ap (length {A = List ℕ}) c.deref.ensures.value in
    let back : take c.self.inside.after.len (c.store_words.new.images ++ drop (length c.store_words.new.images) c.self.inside.after.items) ≡ c.store_words.new.images =
    written-back _ c.self.inside.after.items c.self.inside.after.len (omega (arith, c.store_words.auto.images, c.deref_mut-2.ensures.len, c.self.inside.after.ok)) in
    let size : length c.deref.result.now ≡ length c.mark_pages.new.written =
    omega (arith, there, ap (length {A = List ℕ}) back, c.store_words.auto.images, c.deref_mut-2.ensures.len, c.self.inside.after.ok, c.mark_pages.auto.written, c.deref_mut.ensures.len, c.self.inside.written.ok, kept.after, kept.written) in
    subst (λ (ps : List ℕ). All (λ p. p < length c.deref.result.now) ps) (sym c.deref-2.ensures.value) (λ k d lt.
    let marked = listed-mine (marks_of c.mark_pages.new.written) c.mark_pages.new.pages.items listed.mine k d lt in
    let within = marks_of-within c.mark_pages.new.written (get_or c.mark_pages.new.pages.items k d) marked in omega arith)

pub test_pages-requires-clause-others : goal.test_pages-requires-clause-others
test_pages-requires-clause-others c = λ page lt none.
    let kept = c.self.invariant.kept in
    let there = ap (length {A = List ℕ}) c.deref.ensures.value in
    let back : take c.self.inside.after.len (c.store_words.new.images ++ drop (length c.store_words.new.images) c.self.inside.after.items) ≡ c.store_words.new.images =
    written-back _ c.self.inside.after.items c.self.inside.after.len (omega (arith, c.store_words.auto.images, c.deref_mut-2.ensures.len, c.self.inside.after.ok)) in
    let long = ap (length {A = List ℕ}) back in
    let within : page < length c.self.inside.after.items = omega (arith, there, long, c.store_words.auto.images, c.deref_mut-2.ensures.len, c.self.inside.after.ok, lt) in
    let off = listed-else (marks_of c.mark_pages.new.written) c.mark_pages.new.pages.items (length c.deref_mut.result.now) page c.mark_pages.ensures.listed
    (omega (arith, within, c.deref_mut.ensures.len, c.self.inside.written.ok, kept.after, kept.written)) (subst (λ (ps : List ℕ). All (λ p. p ≢ page) ps) c.deref-2.ensures.value none) in
    let untouched = second-false (marks_of c.deref_mut.result.now page) (touches page c.args.writes.now) (sym (c.mark_pages.ensures.marks page) ∙ off) in
    let image = ap (λ (m : List (List ℕ)). image_at m page) (c.deref.ensures.value ∙ back) ∙ (c.store_words.ensures.others page untouched ∙ ap (λ (m : List (List ℕ)). image_at m page) c.deref_mut-2.ensures.value) in
    still-right c.self.inside.after.items c.deref.result.now c.self.inside.forms_after.items c.deref_mut-3.result.now page image c.deref_mut-3.ensures.value (c.self.invariant.forms_after.right page within)
