-- The pair leaves the leaf, and that may be committed behind whatever others append.
use Rattle.std.proofs.Common.{rules, refl, ◌≡◌, ℕ, ◌^◌, ◌<◌, ◌∙◌, List, sym, ap, subst}
use Rattle.std.specs.Prelude.{IsSome}
use Rattle.ib_map.specs.Pairs.{value_at}
use Rattle.ib_map.specs.declared.call.Change.TheVariants.{Delete}
use Rattle.ib_heap.specs.Heap.{read_heap}
use Rattle.ib_page.specs.Form.{page_of}
use Rattle.ib_page.specs.Image.{IsTreePage, clock_of, records_of}
use Rattle.ib_page.specs.Work.{WorkPage, with_changed}
use Rattle.ib_walk.specs.Words.{state_of}
use Rattle.ib_plans.specs.Moves.{Takes, IsMovedHeap}
use Rattle.ib_planned_log.specs.Kept.{IsKeptLog}
use Rattle.ib_planned_log.specs.LeafChange.{without_pair}
use Rattle.ib_mtr.specs.Commits.{MayCommit}
use Rattle.ib_mtr.specs.Mtr.{with_work}
use Rattle.ib_mtr.proofs.Looking.{edited_mtr}
use Rattle.ib_leaf.specs.Leaf.{leaf_page}
use Rattle.ib_leaf.proofs.OptionLaws.{some-value}
use Rattle.ib_leaf.proofs.LeafStays.{clock-low, image-got, leaf-tree, records-are}
use Rattle.ib_leaf.proofs.LeafCommits.{may-delete, work-is}
use Rattle.ib_leaf.proofs.leaf.take_out.Goals as goal

pub take_pair-requires-clause-tree : goal.take_pair-requires-clause-tree
take_pair-requires-clause-tree g c =
    let p = c.args.mtr.now.pass.now in let sizes = c.args.mtr.now.latches.now.sizes in let r = c.requires in
    let same = image-got sizes r.on.seated.fits c.args.key c.args.leaf p r.on.at c.edit.result.now c.edit.ensures.image in
    subst IsTreePage (sym same) (leaf-tree sizes r.on.seated.fits c.args.key c.args.leaf p r.on.at)

pub take_pair-requires-clause-there : goal.take_pair-requires-clause-there
take_pair-requires-clause-there g c =
    let p = c.args.mtr.now.pass.now in let sizes = c.args.mtr.now.latches.now.sizes in let r = c.requires in
    let same = image-got sizes r.on.seated.fits c.args.key c.args.leaf p r.on.at c.edit.result.now c.edit.ensures.image in
    subst IsSome (sym (ap (λ (ws : List ℕ). value_at c.args.key (records_of ws)) same ∙ ap (value_at c.args.key) (records-are sizes r.on.seated.fits c.args.key c.args.leaf p r.on.at))) r.there

pub take_pair-requires-clause-clock : goal.take_pair-requires-clause-clock
take_pair-requires-clause-clock g c =
    let p = c.args.mtr.now.pass.now in let sizes = c.args.mtr.now.latches.now.sizes in let r = c.requires in
    let same = image-got sizes r.on.seated.fits c.args.key c.args.leaf p r.on.at c.edit.result.now c.edit.ensures.image in
    subst (λ (ws : List ℕ). clock_of ws < 2 ^ 63) (sym same) (clock-low sizes r.on.seated.fits c.args.key c.args.leaf p r.on.at r.on.seated.few)

pub returns-clause-still : goal.returns-clause-still
returns-clause-still g c = record { mtr = edited_mtr c.args.mtr.now.latches.now c.args.mtr.now.pass.now c.args.leaf c.take_pair.new.image c.requires.on.mtr; latches = search rules; pass = search rules }

pub returns-clause-taken : goal.returns-clause-taken
returns-clause-taken g c =
    let p = c.args.mtr.now.pass.now in let sizes = c.args.mtr.now.latches.now.sizes in let r = c.requires in
    let same = image-got sizes r.on.seated.fits c.args.key c.args.leaf p r.on.at c.edit.result.now c.edit.ensures.image in
    let some = some-value (value_at c.args.key (leaf_page sizes c.args.key p).records) r.there in
    let taken : state_of (page_of c.take_pair.new.image) ≡ without_pair c.args.key (state_of (page_of r.on.at.image)) =
    c.take_pair.ensures.page ∙ ap (λ (ws : List ℕ). without_pair c.args.key (state_of (page_of ws))) same in
    let moved : IsMovedHeap (Takes c.args.key) (records_of r.on.at.image) (read_heap r.on.at.image) (read_heap c.take_pair.new.image) =
    subst (λ (ws : List ℕ). IsMovedHeap (Takes c.args.key) (records_of ws) (read_heap ws) (read_heap c.take_pair.new.image)) same c.take_pair.ensures.heap in
    let may = subst (λ (w : List WorkPage). MayCommit (IsKeptLog sizes.pages) (with_work w p) (Delete c.args.key))
    (sym (work-is sizes c.args.key c.args.leaf p r.on.at r.on.seated c.take_pair.new.image))
    (may-delete sizes c.args.key c.args.leaf p r.on.at r.on.seated r.grows some.0 c.take_pair.new.image some.1 r.enough taken moved) in
    (with_changed c.args.leaf c.take_pair.new.image p.work, refl, may)
