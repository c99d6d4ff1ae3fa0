-- A call begins on the leaf that is kept, or on that of the key.
use Rattle.std.proofs.Common.{◌≡◌, ◌∙◌, ℕ, Option, None, inl, inr, refl, ap, sym, subst, arith}
use Rattle.ib_map.proofs.KeyLaws.{rank-lt_end}
use Rattle.ib_layout.specs.Geometry.{Sizes}
use Rattle.ib_logrec.specs.Log.{by_place}
use Rattle.ib_rule.specs.declared.looks.Grants.{Grants}
use Rattle.ib_rule.specs.Pass.{PassState}
use Rattle.ib_cursor.specs.declared.position.Position.{Position}
use Rattle.ib_cursor.proofs.LatchingLaws.{went_both}
use Rattle.ib_scan.specs.Steps.{HasBegun}
use Rattle.ib_scan.specs.Stored.{IsBegunOn, IsUnwritten}
use Rattle.ib_scan.proofs.WholeLaws.{begun, begun_same, begun_moved, descent_least, moved_written}
use Rattle.ib_scan.proofs.stored.begin.Goals as goal

pub restore-requires-clause-position : goal.restore-requires-clause-position
restore-requires-clause-position g c = (c.requires.goes_on.keeps c.in-Some.at c.in-Some.is).position

pub last_page-requires : goal.last_page-requires
last_page-requires g c = let d = c.descend-path.ensures.descended in (d.reached.front, d.reached.leaf, d.reached.ends)

pub last_page-requires-in-Moved : goal.last_page-requires-in-Moved
last_page-requires-in-Moved g c =
    let h = c.in-Moved.ensures.restored (c.requires.goes_on.keeps c.in-Some.at c.in-Some.is).position in
    (h.descended.reached.front, h.descended.reached.leaf, h.descended.reached.ends)

pub returns-in-None-clause-begun : goal.returns-in-None-clause-begun
returns-in-None-clause-begun g c =
    let sizes : Sizes = c.args.mtr.now.latches.now.sizes in let p : PassState = c.args.mtr.now.pass.now in let q : PassState = c.descend-path.new.mtr.pass.now in
    let d = c.descend-path.ensures.descended in
    subst (λ (n : ℕ). HasBegun sizes (g.L.Law.lawful sizes.pages) (by_place g.L.Law.opening sizes.pages) g.L.Trees.ROOTS 1 c.args.stored.next n p q) (sym (c.last_page.ensures d.reached.front d.reached.leaf d.reached.ends))
    (begun sizes g.L.Trees.ROOTS (g.L.Law.lawful sizes.pages) (by_place g.L.Law.opening sizes.pages) c.facts_of_trees.ensures.laws 1 (omega arith) c.requires.root c.args.stored.next (rank-lt_end c.args.stored.next) c.descend-path.result p q d)

pub returns-in-Same-clause-begun : goal.returns-in-Same-clause-begun
returns-in-Same-clause-begun g c =
    let sizes : Sizes = c.args.mtr.now.latches.now.sizes in let p : PassState = c.args.mtr.now.pass.now in let q : PassState = c.restore.new.mtr.pass.now in
    let k = c.requires.goes_on.keeps c.in-Some.at c.in-Some.is in
    begun_same sizes g.L.Trees.ROOTS (g.L.Law.lawful sizes.pages) (by_place g.L.Law.opening sizes.pages) 1 c.args.stored.next c.in-Some.at p q k (c.in-Same.ensures.restored k.position)

pub returns-in-Moved-clause-begun : goal.returns-in-Moved-clause-begun
returns-in-Moved-clause-begun g c =
    let sizes : Sizes = c.args.mtr.now.latches.now.sizes in let p : PassState = c.args.mtr.now.pass.now in let q : PassState = c.restore.new.mtr.pass.now in
    let h = c.in-Moved.ensures.restored (c.requires.goes_on.keeps c.in-Some.at c.in-Some.is).position in
    subst (λ (n : ℕ). HasBegun sizes (g.L.Law.lawful sizes.pages) (by_place g.L.Law.opening sizes.pages) g.L.Trees.ROOTS 1 c.args.stored.next n p q) (sym (c.last_page-in-Moved.ensures h.descended.reached.front h.descended.reached.leaf h.descended.reached.ends))
    (begun_moved sizes g.L.Trees.ROOTS (g.L.Law.lawful sizes.pages) (by_place g.L.Law.opening sizes.pages) c.facts_of_trees.ensures.laws c.requires.root c.args.stored.next (rank-lt_end c.args.stored.next) c.in-Some.at c.in-Moved.path p q h)

pub returns-in-None-clause-on : goal.returns-in-None-clause-on
returns-in-None-clause-on g c =
    let sizes : Sizes = c.args.mtr.now.latches.now.sizes in let q : PassState = c.descend-path.new.mtr.pass.now in
    let d = c.descend-path.ensures.descended in
    let none : c.args.stored.position ≡ None = c.in-None.is in
    subst (λ (o : Option Position). IsBegunOn (by_place g.L.Law.opening sizes.pages) q.view.memory.seen c.args.stored.next o c.last_page.result) (sym none) (c.last_page.ensures d.reached.front d.reached.leaf d.reached.ends ∙ d.reached.is_leaf)

pub returns-in-Same-clause-on : goal.returns-in-Same-clause-on
returns-in-Same-clause-on g c =
    let sizes : Sizes = c.args.mtr.now.latches.now.sizes in let q : PassState = c.restore.new.mtr.pass.now in
    let k = c.requires.goes_on.keeps c.in-Some.at c.in-Some.is in
    let h = c.in-Same.ensures.restored k.position in
    subst (λ (o : Option Position). IsBegunOn (by_place g.L.Law.opening sizes.pages) q.view.memory.seen c.args.stored.next o c.in-Some.at.page) (sym c.in-Some.is) (inl (h.clock, refl))

pub returns-in-Moved-clause-on : goal.returns-in-Moved-clause-on
returns-in-Moved-clause-on g c =
    let sizes : Sizes = c.args.mtr.now.latches.now.sizes in let q : PassState = c.restore.new.mtr.pass.now in
    let k = c.requires.goes_on.keeps c.in-Some.at c.in-Some.is in
    let h = c.in-Moved.ensures.restored k.position in
    let leaf = c.last_page-in-Moved.ensures h.descended.reached.front h.descended.reached.leaf h.descended.reached.ends ∙ h.descended.reached.is_leaf in
    subst (λ (o : Option Position). IsBegunOn (by_place g.L.Law.opening sizes.pages) q.view.memory.seen c.args.stored.next o c.last_page-in-Moved.result) (sym c.in-Some.is) (inr ((λ same. let up = h.clock in absurd (omega arith)), leaf))

pub returns-in-None-clause-least : goal.returns-in-None-clause-least
returns-in-None-clause-least g c = λ none.
    let sizes : Sizes = c.args.mtr.now.latches.now.sizes in let p : PassState = c.args.mtr.now.pass.now in let q : PassState = c.descend-path.new.mtr.pass.now in
    descent_least sizes (g.L.Law.lawful sizes.pages) (by_place g.L.Law.opening sizes.pages) 1 c.args.stored.next c.descend-path.result p q c.descend-path.ensures.descended

pub returns-in-Same-clause-least : goal.returns-in-Same-clause-least
returns-in-Same-clause-least g c = λ none. let some = c.in-Some.is in absurd cc

pub returns-in-Moved-clause-least : goal.returns-in-Moved-clause-least
returns-in-Moved-clause-least g c = λ none. let some = c.in-Some.is in absurd cc

pub returns-in-None-clause-once : goal.returns-in-None-clause-once
returns-in-None-clause-once g c = λ at is calm. let none : c.args.stored.position ≡ None = c.in-None.is in absurd cc

pub returns-in-Same-clause-once : goal.returns-in-Same-clause-once
returns-in-Same-clause-once g c = λ at is calm.
    let h = c.in-Same.ensures.restored (c.requires.goes_on.keeps c.in-Some.at c.in-Some.is).position in
    let some = c.in-Some.is in
    let same : c.in-Some.at ≡ at = cc in
    (ap (λ (o : Position). o.page) same, ap (λ (n : Grants). n.s) h.grants)

pub returns-in-Moved-clause-once : goal.returns-in-Moved-clause-once
returns-in-Moved-clause-once g c = λ at is calm.
    let sizes : Sizes = c.args.mtr.now.latches.now.sizes in let p : PassState = c.args.mtr.now.pass.now in let q : PassState = c.restore.new.mtr.pass.now in
    let k = c.requires.goes_on.keeps c.in-Some.at c.in-Some.is in
    let h = c.in-Moved.ensures.restored k.position in
    let some = c.in-Some.is in
    let same : at ≡ c.in-Some.at = cc in
    let w = went_both p h.left q h.went h.descended.reached.went in
    absurd (moved_written (g.L.Law.lawful sizes.pages) (by_place g.L.Law.opening sizes.pages) g.L.Trees.ROOTS 1 c.args.stored.next c.in-Some.at p q w.more w.seen k h.clock (subst (λ (o : Position). IsUnwritten o q.view.memory.seen) same calm))
