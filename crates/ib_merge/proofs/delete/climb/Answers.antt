-- The climb, by what holds at each node of the path.
use Rattle.std.proofs.Common.{◌≡◌, ◌∙◌, ℕ, ◌+◌, ◌-◌, [], ◌∷◌, List, length, length-append, Bool, ap, sym, subst, arith, ltb, eqb, Option, Some}
use Rattle.std.specs.Prelude.{◌&&◌}
use Rattle.ib_map.specs.Pairs.{Pairs}
use Rattle.ib_page.specs.Form.{page_of}
use Rattle.ib_page.specs.Image.{IsTreePage, records_of, level_of}
use Rattle.ib_plans.specs.declared.TheConstants.{FEWEST_RECORDS}
use Rattle.ib_plans.specs.Agreement.{state_or_free}
use Rattle.ib_plans.proofs.EditLaws.{IsSome-and, state-records, state-level, there-is}
use Rattle.ib_merge.specs.Deletes.{IsDeleteClimbedForAll}
use Rattle.ib_merge.proofs.ClimbLaws.{IsAtForAll, path-some, path-tree, starts, below-tree, node-chooses, node-stops_long, node-stops_none, node-merges, node-steps, root-of_tree, root-can_lift, root-ends, root-ends_lifted}
use Rattle.ib_merge.proofs.delete.climb.Goals as goal

-- the records and the level of an image that is there
records-there : (image : List ℕ) (o : Option (List ℕ)) → o ≡ Some image → records_of image ≡ (state_or_free o).records
records-there image o is = sym (state-records (page_of image)) ∙ ap (λ q. (state_or_free q).records) (sym is)

level-there : (image : List ℕ) (o : Option (List ℕ)) → o ≡ Some image → level_of image ≡ (state_or_free o).level
level-there image o is = sym (state-level (page_of image)) ∙ ap (λ q. (state_or_free q).level) (sym is)

short-there : (image : List ℕ) (o : Option (List ℕ)) (b : Bool) → o ≡ Some image → b ≡ ltb (length (records_of image)) FEWEST_RECORDS → ltb (length (state_or_free o).records) FEWEST_RECORDS ≡ b
short-there image o b is answer = ap (λ (rs : Pairs). ltb (length rs) FEWEST_RECORDS) (sym (records-there image o is)) ∙ sym answer

single-there : (image : List ℕ) (o : Option (List ℕ)) (b : Bool) → o ≡ Some image → b ≡ (ltb 0 (level_of image) && eqb (length (records_of image)) 1) → (ltb 0 (state_or_free o).level && eqb (length (state_or_free o).records) 1) ≡ b
single-there image o b is answer =
    ap (λ l. ltb 0 l && eqb (length (state_or_free o).records) 1) (sym (level-there image o is))
    ∙ (ap (λ (rs : Pairs). ltb 0 (level_of image) && eqb (length rs) 1) (sym (records-there image o is)) ∙ sym answer)

pub overflow_sub-path : goal.overflow_sub-path
overflow_sub-path c = path-some c.args.path.now c.args.key c.args.work.now c.requires.can

pub bounds-path-path : goal.bounds-path-path
bounds-path-path c = let some = path-some c.args.path.now c.args.key c.args.work.now c.requires.can in omega arith

pub take_record-requires-clause-tree : goal.take_record-requires-clause-tree
take_record-requires-clause-tree c = let some = path-some c.args.path.now c.args.key c.args.work.now c.requires.can in path-tree c.args.path.now c.args.key c.args.work.now c.requires.can (length c.args.path.now - 1) (omega arith)

pub overflow_sub-height-end : goal.overflow_sub-height-end
overflow_sub-height-end c = path-some c.args.path.now c.args.key c.args.work.now c.requires.can

pub loop-height-init : goal.loop-height-init
loop-height-init c =
    let none = c.new-freed.ensures in
    (subst (λ (xs : List ℕ). IsAtForAll c.args.path.now c.args.key 0 xs c.args.work.now c.take_record.new.work) (sym none) (starts c.args.path.now c.args.key c.args.work.now c.requires.can c.take_record.new.work c.take_record.ensures.set c.take_record.ensures.taken), ap length none)

pub image_of-requires : goal.image_of-requires
image_of-requires c = IsSome-and IsTreePage _ (below-tree c.args.path.now c.args.key c.args.work.now c.requires.can c.loop-height.height c.loop-height-test.true c.loop-height.freed c.loop-height.work c.loop-height.invariant.0)

pub is_short-requires : goal.is_short-requires
is_short-requires c =
    there-is _ c.image_of.result.now c.image_of.ensures (below-tree c.args.path.now c.args.key c.args.work.now c.requires.can c.loop-height.height c.loop-height-test.true c.loop-height.freed c.loop-height.work c.loop-height.invariant.0)

pub returns-then-not-is_short : goal.returns-then-not-is_short
returns-then-not-is_short c =
    node-stops_long c.args.path.now c.args.key c.args.work.now c.requires.can c.loop-height.height c.loop-height-test.true c.loop-height.freed c.loop-height.work c.loop-height.invariant.0
    (short-there c.image_of.result.now _ c.is_short.result c.image_of.ensures c.is_short.ensures ∙ c.if-not-is_short.true)

pub choose_merger-requires : goal.choose_merger-requires
choose_merger-requires c = node-chooses c.args.path.now c.args.key c.args.work.now c.requires.can c.loop-height.height c.loop-height-test.true c.loop-height.freed c.loop-height.work c.loop-height.invariant.0

pub returns-in_default : goal.returns-in_default
returns-in_default c =
    node-stops_none c.args.path.now c.args.key c.args.work.now c.requires.can c.loop-height.height c.loop-height-test.true c.loop-height.freed c.loop-height.work c.loop-height.invariant.0
    (short-there c.image_of.result.now _ c.is_short.result c.image_of.ensures c.is_short.ensures ∙ c.if-not-is_short.false) (sym c.in_default.is ∙ c.choose_merger.ensures)

pub merge-requires : goal.merge-requires
merge-requires c =
    node-merges c.args.path.now c.args.key c.args.work.now c.requires.can c.loop-height.height c.loop-height-test.true c.loop-height.freed c.loop-height.work c.loop-height.invariant.0 c.in-Some.merger
    (short-there c.image_of.result.now _ c.is_short.result c.image_of.ensures c.is_short.ensures ∙ c.if-not-is_short.false) (sym c.in-Some.is ∙ c.choose_merger.ensures)

pub loop-height-preserved : goal.loop-height-preserved
loop-height-preserved c =
    let count : length c.push.new.self ≡ c.loop-height.height + 1 =
    ap length c.push.ensures ∙ (length-append c.loop-height.freed (c.in-Some.merger.gone.1 ∷ []) ∙ ap (λ n. n + 1) c.loop-height.invariant.1) in (
      subst (λ (xs : List ℕ). IsAtForAll c.args.path.now c.args.key (c.loop-height.height + 1) xs c.args.work.now c.merge.new.work) (sym c.push.ensures)
          (node-steps c.args.path.now c.args.key c.args.work.now c.requires.can c.loop-height.height c.loop-height-test.true c.loop-height.freed c.loop-height.work c.loop-height.invariant.0 c.in-Some.merger
          (short-there c.image_of.result.now _ c.is_short.result c.image_of.ensures c.is_short.ensures ∙ c.if-not-is_short.false) (sym c.in-Some.is ∙ c.choose_merger.ensures) c.merge.new.work c.merge.ensures),
      count,
    )

pub bounds-path-0 : goal.bounds-path-0
bounds-path-0 c = path-some c.args.path.now c.args.key c.args.work.now c.requires.can

pub image_of-requires-2 : goal.image_of-requires-2
image_of-requires-2 c =
    let h : c.loop-height.height ≡ length c.args.path.now - 1 = omega arith in
    IsSome-and IsTreePage _ (root-of_tree c.args.path.now c.args.key c.args.work.now c.requires.can c.loop-height.freed c.loop-height.work
    (subst (λ n. IsAtForAll c.args.path.now c.args.key n c.loop-height.freed c.args.work.now c.loop-height.work) h c.loop-height.invariant.0))

pub is_single-requires : goal.is_single-requires
is_single-requires c =
    let h : c.loop-height.height ≡ length c.args.path.now - 1 = omega arith in
    there-is _ c.image_of-2.result.now c.image_of-2.ensures (root-of_tree c.args.path.now c.args.key c.args.work.now c.requires.can c.loop-height.freed c.loop-height.work
    (subst (λ n. IsAtForAll c.args.path.now c.args.key n c.loop-height.freed c.args.work.now c.loop-height.work) h c.loop-height.invariant.0))

pub lift-requires : goal.lift-requires
lift-requires c =
    let h : c.loop-height.height ≡ length c.args.path.now - 1 = omega arith in
    root-can_lift c.args.path.now c.args.key c.args.work.now c.requires.can c.loop-height.freed c.loop-height.work
    (subst (λ n. IsAtForAll c.args.path.now c.args.key n c.loop-height.freed c.args.work.now c.loop-height.work) h c.loop-height.invariant.0)
    (single-there c.image_of-2.result.now _ c.is_single.result c.image_of-2.ensures c.is_single.ensures ∙ c.if-is_single.true)

pub bounds-path-0-then-is_single : goal.bounds-path-0-then-is_single
bounds-path-0-then-is_single c = path-some c.args.path.now c.args.key c.args.work.now c.requires.can

pub returns-then-is_single : goal.returns-then-is_single
returns-then-is_single c =
    let h : c.loop-height.height ≡ length c.args.path.now - 1 = omega arith in
    subst (λ (xs : List ℕ). IsDeleteClimbedForAll c.args.path.now c.args.key xs c.args.work.now c.lift.new.work) (sym c.push-then-is_single.ensures)
    (root-ends_lifted c.args.path.now c.args.key c.args.work.now c.requires.can c.loop-height.freed c.loop-height.work
    (subst (λ n. IsAtForAll c.args.path.now c.args.key n c.loop-height.freed c.args.work.now c.loop-height.work) h c.loop-height.invariant.0)
    (single-there c.image_of-2.result.now _ c.is_single.result c.image_of-2.ensures c.is_single.ensures ∙ c.if-is_single.true) c.lift.result c.lift.new.work c.lift.ensures.child c.lift.ensures.lifted)

pub returns-else-is_single : goal.returns-else-is_single
returns-else-is_single c =
    let h : c.loop-height.height ≡ length c.args.path.now - 1 = omega arith in
    root-ends c.args.path.now c.args.key c.args.work.now c.requires.can c.loop-height.freed c.loop-height.work
    (subst (λ n. IsAtForAll c.args.path.now c.args.key n c.loop-height.freed c.args.work.now c.loop-height.work) h c.loop-height.invariant.0)
    (single-there c.image_of-2.result.now _ c.is_single.result c.image_of-2.ensures c.is_single.ensures ∙ c.if-is_single.false)
