-- The pair leaves the leaf, which is the only page.
use Rattle.std.proofs.Common.{◌≡◌, ◌∙◌, ◌^◌, ◌<◌, ℕ, List, ap, sym, subst, length}
use Rattle.std.specs.Prelude.{IsSome}
use Rattle.ib_map.specs.Pairs.{value_at}
use Rattle.ib_map.specs.declared.call.Change.TheVariants.{Delete}
use Rattle.ib_heap.specs.Heap.{read_heap}
use Rattle.ib_page.specs.Form.{page_of}
use Rattle.ib_page.specs.Image.{IsTreePage, clock_of, records_of}
use Rattle.ib_walk.specs.Words.{state_of}
use Rattle.ib_plans.specs.Moves.{Takes, IsMovedHeap}
use Rattle.ib_planned_log.specs.LeafChange.{kept_pages, without_pair}
use Rattle.ib_planned_change.specs.Changes.{IsPlannedIn}
use Rattle.ib_planned_change.proofs.LeafLaws.{leaf-clock, leaf-records, leaf-state, leaf-tree, leaf-within, one-changed, one-image}
use Rattle.ib_planned_change.proofs.MadeLaws.{planned-delete_in_leaf}
use Rattle.ib_planned_change.proofs.delete.delete_in_leaf.Goals as goal
use Rattle.ib_planned_change.proofs.delete.delete_in_leaf.Goals.{After-edit}

-- the image that is edited is the leaf's
same : (c : After-edit) → c.edit.result.now ≡ c.image_at.result.now
same c = one-image c.args.leaf c.image_at.result.now c.clear.new.self c.add.new.self c.clear.ensures.none c.add.ensures.added c.edit.result.now c.edit.ensures.image

pub image_at-requires : goal.image_at-requires
image_at-requires c = let s = c.requires.some in leaf-within s.0 c.args.images.now s.1 c.args.key c.args.leaf (c.requires.leaf s.0 s.1).0

pub take_pair-requires-clause-tree : goal.take_pair-requires-clause-tree
take_pair-requires-clause-tree c =
    let s = c.requires.some in
    subst IsTreePage (sym (same (goal.at.take_pair-requires-clause-tree c).After-edit)) (leaf-tree s.0 c.args.images.now s.1 c.args.key c.args.leaf (c.requires.leaf s.0 s.1).0 c.image_at.result.now c.image_at.ensures.image)

pub take_pair-requires-clause-there : goal.take_pair-requires-clause-there
take_pair-requires-clause-there c =
    let s = c.requires.some in let l = c.requires.leaf s.0 s.1 in
    subst IsSome (sym (ap (λ (ws : List ℕ). value_at c.args.key (records_of ws)) (same (goal.at.take_pair-requires-clause-there c).After-edit)
    ∙ ap (value_at c.args.key) (leaf-records s.0 c.args.images.now s.1 c.args.key c.args.leaf l.0 c.image_at.result.now c.image_at.ensures.image))) l.1.0

pub take_pair-requires-clause-clock : goal.take_pair-requires-clause-clock
take_pair-requires-clause-clock c =
    let s = c.requires.some in
    subst (λ (ws : List ℕ). clock_of ws < 2 ^ 63) (sym (same (goal.at.take_pair-requires-clause-clock c).After-edit)) (leaf-clock s.0 c.args.images.now s.1 c.args.key c.args.leaf (c.requires.leaf s.0 s.1).0 c.image_at.result.now c.image_at.ensures.image)

pub returns : goal.returns
returns c = λ log b.
    let l = c.requires.leaf log b in
    let eq = same (goal.at.returns c).After-edit in
    let state : state_of (page_of c.take_pair.new.image) ≡ without_pair c.args.key (kept_pages (length c.args.images.now) log c.args.leaf) =
    c.take_pair.ensures.page ∙ (ap (λ (ws : List ℕ). without_pair c.args.key (state_of (page_of ws))) eq
    ∙ ap (without_pair c.args.key) (leaf-state log c.args.images.now b c.args.key c.args.leaf l.0 c.image_at.result.now c.image_at.ensures.image)) in
    let moved : IsMovedHeap (Takes c.args.key) (records_of c.image_at.result.now) (read_heap c.image_at.result.now) (read_heap c.take_pair.new.image) =
    subst (λ (ws : List ℕ). IsMovedHeap (Takes c.args.key) (records_of ws) (read_heap ws) (read_heap c.take_pair.new.image)) eq c.take_pair.ensures.heap in
    subst (IsPlannedIn log c.args.images.now (Delete c.args.key)) (sym (one-changed c.args.leaf c.image_at.result.now c.clear.new.self c.add.new.self c.clear.ensures.none c.add.ensures.added c.take_pair.new.image))
    (planned-delete_in_leaf log c.args.images.now b c.args.key c.args.leaf l.0 c.image_at.result.now c.take_pair.new.image c.image_at.ensures.image l.1.0 l.1.1 state moved)
