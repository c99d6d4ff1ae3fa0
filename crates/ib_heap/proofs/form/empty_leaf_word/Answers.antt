-- A word of the empty leaf.
use Rattle.std.proofs.Common.{arith, ap, sym, get_or, ◌∙◌}
use Rattle.ib_heap.specs.Form.{empty_leaf_words}
use Rattle.ib_heap.proofs.EmptyLaws.{leaf-named, leaf-other}
use Rattle.ib_heap.proofs.form.empty_leaf_word.Goals as goal

pub returns-in-0 : goal.returns-in-0
returns-in-0 c = sym (ap (λ i. get_or (empty_leaf_words c.args.clock) i 0) c.in-0.is ∙ (leaf-named c.args.clock).0)

pub returns-in-5 : goal.returns-in-5
returns-in-5 c = sym (ap (λ i. get_or (empty_leaf_words c.args.clock) i 0) c.in-5.is ∙ (leaf-named c.args.clock).1)

pub returns-in-7 : goal.returns-in-7
returns-in-7 c = sym (ap (λ i. get_or (empty_leaf_words c.args.clock) i 0) c.in-7.is ∙ (leaf-named c.args.clock).2)

pub returns-in-8 : goal.returns-in-8
returns-in-8 c = sym (ap (λ i. get_or (empty_leaf_words c.args.clock) i 0) c.in-8.is ∙ (leaf-named c.args.clock).3)

pub returns-in-9 : goal.returns-in-9
returns-in-9 c = sym (ap (λ i. get_or (empty_leaf_words c.args.clock) i 0) c.in-9.is ∙ (leaf-named c.args.clock).4)

pub returns-in-18 : goal.returns-in-18
returns-in-18 c = sym (ap (λ i. get_or (empty_leaf_words c.args.clock) i 0) c.in-18.is ∙ (leaf-named c.args.clock).5)

pub returns-in-19 : goal.returns-in-19
returns-in-19 c = sym (ap (λ i. get_or (empty_leaf_words c.args.clock) i 0) c.in-19.is ∙ (leaf-named c.args.clock).6)

pub returns-in_default : goal.returns-in_default
returns-in_default c = sym (leaf-other c.args.clock c.args.index (λ e. absurd (omega arith)) (λ e. absurd (omega arith)) (λ e. absurd (omega arith)) (λ e. absurd (omega arith)) (λ e. absurd (omega arith)) (λ e. absurd (omega arith)) (λ e. absurd (omega arith)))
