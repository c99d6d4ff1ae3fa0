-- The pages beside the key's child under a node of the path are pages of the tree.
use Rattle.std.specs.Prelude.{IfSome, unwrap_or}
use Rattle.std.proofs.Common.{◌≡◌, ◌∙◌, ◌<◌, ℕ, List, ap, sym, subst, arith, length}
use Rattle.ib_map.specs.Keys.{MapKey}
use Rattle.ib_logrec.specs.declared.entry.Entry.{Entry}
use Rattle.ib_walk.specs.Pages.{Tree}
use Rattle.ib_plans.specs.Agreement.{IsThere}
use Rattle.ib_plans.specs.Merge.{Siblings, siblings_of}
use Rattle.ib_planned_log.specs.LeafChange.{kept_pages}
use Rattle.ib_planned_change.specs.Copies.{IsBehind}
use Rattle.ib_planned_change.specs.Steps.{IsBeforeTree, last_beside}
use Rattle.ib_planned_change.proofs.BehindLaws.{pages-few, records-is, tree-within}
use Rattle.ib_planned_change.proofs.BesideLaws.{if-more, last-before, left-kind, parent-in, right-kind}
use Rattle.ib_planned_change.proofs.DescentLaws.{node-first, node-tree}
use Rattle.ib_planned_change.proofs.delete.copy_beside.Goals as goal
use Rattle.ib_planned_change.proofs.delete.copy_beside.Goals.{After-records_beside-beside}

-- what the node's records say is what the tree says
same : (c : After-records_beside-beside) (log : List Entry) (b : IsBehind log c.args.images.now)
    → siblings_of c.args.key (kept_pages (length c.args.images.now) log c.args.parent).records
    ≡ record { left = c.records_beside-beside.result.left; here = c.records_beside-beside.result.here; right = c.records_beside-beside.result.right }
same c log b =
    let n = c.requires.node log b in
    ap (siblings_of c.args.key) (sym (records-is log c.args.images.now b c.args.parent c.image_at.result.now (parent-in log c.args.images.now b c.args.key c.args.parent n.0 n.1 n.2) c.image_at.ensures.image)) ∙ c.records_beside-beside.ensures

last-is : (c : After-records_beside-beside) (log : List Entry) (b : IsBehind log c.args.images.now)
    → last_beside (kept_pages (length c.args.images.now) log) c.args.key c.args.parent ≡ (unwrap_or c.records_beside-beside.result.right c.records_beside-beside.result.here).1
last-is c log b = ap (λ (t : Siblings). (unwrap_or t.right t.here).1) (same c log b)

pub image_at-requires : goal.image_at-requires
image_at-requires c = let s = c.requires.some in let n = c.requires.node s.0 s.1 in parent-in s.0 c.args.images.now s.1 c.args.key c.args.parent n.0 n.1 n.2

pub records_beside-beside-requires-clause-tree : goal.records_beside-beside-requires-clause-tree
records_beside-beside-requires-clause-tree c =
    let s = c.requires.some in let n = c.requires.node s.0 s.1 in node-tree s.0 c.args.images.now s.1 c.args.key n.0 n.1 c.args.parent n.2 c.image_at.result.now c.image_at.ensures.image

pub records_beside-beside-requires-clause-first : goal.records_beside-beside-requires-clause-first
records_beside-beside-requires-clause-first c =
    let s = c.requires.some in let n = c.requires.node s.0 s.1 in node-first s.0 c.args.images.now s.1 c.args.key n.0 n.1 c.args.parent n.2 c.image_at.result.now c.image_at.ensures.image

pub copy_child-requires-clause-few : goal.copy_child-requires-clause-few
copy_child-requires-clause-few c = let f = pages-few (length c.args.images.now) c.requires.some.1.space in omega arith

pub copy_child-requires-2-clause-few : goal.copy_child-requires-2-clause-few
copy_child-requires-2-clause-few c = let f = pages-few (length c.args.images.now) c.requires.some.1.space in omega arith

pub copy_child-requires-clause-within : goal.copy_child-requires-clause-within
copy_child-requires-clause-within c =
    let s = c.requires.some in let n = c.requires.node s.0 s.1 in
    let eq = same (goal.at.copy_child-requires-clause-within c).After-records_beside-beside s.0 s.1 in
    subst (λ (t : Siblings). IfSome t.left (λ r. r.1 < length c.args.images.now)) eq
    (if-more (λ r. (kept_pages (length c.args.images.now) s.0 r.1).kind ≡ Tree) (λ r. r.1 < length c.args.images.now) (siblings_of c.args.key (kept_pages (length c.args.images.now) s.0 c.args.parent).records).left
    (λ r kind. tree-within s.0 c.args.images.now s.1 r.1 kind) (left-kind s.0 c.args.images.now s.1 c.args.key c.args.parent n.0 n.1 n.2))

pub copy_child-requires-2-clause-within : goal.copy_child-requires-2-clause-within
copy_child-requires-2-clause-within c =
    let s = c.requires.some in let n = c.requires.node s.0 s.1 in
    let eq = same (goal.at.copy_child-requires-2-clause-within c).After-records_beside-beside s.0 s.1 in
    subst (λ (t : Siblings). IfSome t.right (λ r. r.1 < length c.args.images.now)) eq
    (if-more (λ r. (kept_pages (length c.args.images.now) s.0 r.1).kind ≡ Tree) (λ r. r.1 < length c.args.images.now) (siblings_of c.args.key (kept_pages (length c.args.images.now) s.0 c.args.parent).records).right
    (λ r kind. tree-within s.0 c.args.images.now s.1 r.1 kind) (right-kind s.0 c.args.images.now s.1 c.args.key c.args.parent n.0 n.1 n.2))

pub overflow_cast-result : goal.overflow_cast-result
overflow_cast-result c =
    let s = c.requires.some in let n = c.requires.node s.0 s.1 in
    let is = last-is (goal.at.overflow_cast-result c).After-records_beside-beside s.0 s.1 in
    let before = last-before s.0 c.args.images.now s.1 c.args.key c.args.parent n.0 n.1 n.2 in
    let lt = tree-within s.0 c.args.images.now s.1 (last_beside (kept_pages (length c.args.images.now) s.0) c.args.key c.args.parent) before.0 in
    let e = ap (λ (r : MapKey × ℕ). r.1) c.unwrap_or.ensures in
    let f = pages-few (length c.args.images.now) s.1.space in omega arith

pub returns-clause-beside : goal.returns-clause-beside
returns-clause-beside c = λ log b.
    let eq = same (goal.at.returns-clause-beside c).After-records_beside-beside log b in
    subst (λ (t : Siblings). IfSome t.left (λ left. IsThere c.copy_child-2.new.work left.1) × IfSome t.right (λ right. IsThere c.copy_child-2.new.work right.1)) (sym eq)
    (if-more (λ r. IsThere c.copy_child.new.work r.1) (λ r. IsThere c.copy_child-2.new.work r.1) c.records_beside-beside.result.left (λ r there. c.copy_child-2.ensures.copied.kept r.1 there) c.copy_child.ensures.there, c.copy_child-2.ensures.there)

pub returns-clause-last : goal.returns-clause-last
returns-clause-last c = λ log b.
    let n = c.requires.node log b in
    let e : c.unwrap_or.result.1 ≡ last_beside (kept_pages (length c.args.images.now) log) c.args.key c.args.parent =
    ap (λ (r : MapKey × ℕ). r.1) c.unwrap_or.ensures ∙ sym (last-is (goal.at.returns-clause-last c).After-records_beside-beside log b) in
    (subst (IsBeforeTree (kept_pages (length c.args.images.now) log)) (sym e) (last-before log c.args.images.now b c.args.key c.args.parent n.0 n.1 n.2), e)
