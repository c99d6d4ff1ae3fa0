-- The leaf is the root or keeps enough, or else the delete may change more.
use Rattle.std.specs.Prelude.{IsSome}
use Rattle.std.proofs.Common.{◌≡◌, ◌∙◌, ◌⊎◌, ◌<◌, ap, sym, subst, arith, length, inl, inr}
use Rattle.ib_map.specs.Pairs.{Pairs, value_at}
use Rattle.ib_plans.specs.declared.TheConstants.{FEWEST_RECORDS}
use Rattle.ib_planned_log.specs.LeafChange.{kept_pages}
use Rattle.ib_planned_change.proofs.DescentLaws.{way-last}
use Rattle.ib_planned_change.proofs.LeafLaws.{leaf-formed, leaf-records, leaf-within}
use Rattle.ib_planned_change.proofs.delete.delete_found.Goals as goal

pub image_at-requires : goal.image_at-requires
image_at-requires c = let s = c.requires.some in leaf-within s.0 c.args.images.now s.1 c.args.key c.args.leaf (c.requires.leaf s.0 s.1).0

pub leaves_enough-requires : goal.leaves_enough-requires
leaves_enough-requires c = let s = c.requires.some in leaf-formed s.0 c.args.images.now s.1 c.args.key c.args.leaf (c.requires.leaf s.0 s.1).0 c.image_at.result.now c.image_at.ensures.image

pub delete_in_leaf-requires-clause-leaf : goal.delete_in_leaf-requires-clause-leaf
delete_in_leaf-requires-clause-leaf c = λ log b.
    let l = c.requires.leaf log b in
    let count = ap (λ (rs : Pairs). length rs) (leaf-records log c.args.images.now b c.args.key c.args.leaf l.0 c.image_at.result.now c.image_at.ensures.image) in
    let enough : (c.args.leaf ≡ 1) ⊎ (FEWEST_RECORDS < length (kept_pages (length c.args.images.now) log c.args.leaf).records) =
    elim (c.leaves_enough.ensures.0 c.if-leaves_enough.true) [ inl root ↦ inl root | inr more ↦ inr (omega (arith, more, count)) ] in
    (l.0, (l.1, enough))

pub delete_in_tree-requires-clause-there : goal.delete_in_tree-requires-clause-there
delete_in_tree-requires-clause-there c = λ log b.
    let l = c.requires.leaf log b in
    let last = l.0 ∙ sym (way-last log c.args.images.now b c.args.key c.args.path.now (c.requires.path log b)) in
    subst (λ n. IsSome (value_at c.args.key (kept_pages (length c.args.images.now) log n).records)) last l.1
