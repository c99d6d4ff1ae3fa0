-- The pair goes into the leaf, and may be committed behind whatever others append.
use Rattle.std.proofs.Common.{rules, refl, ◌≡◌, ℕ, ◌^◌, ◌<◌, ◌∙◌, List, length, sym, ap, subst, arith}
use Rattle.ib_map.specs.Pairs.{value_at}
use Rattle.ib_map.specs.declared.call.Change.TheVariants.{Insert}
use Rattle.ib_heap.specs.Heap.{read_heap}
use Rattle.ib_page.specs.Form.{page_of}
use Rattle.ib_page.specs.Image.{IsTreePage, clock_of, records_of}
use Rattle.ib_page.specs.Work.{WorkPage, with_changed}
use Rattle.ib_walk.specs.Words.{state_of}
use Rattle.ib_plans.specs.Moves.{Puts, IsMovedHeap}
use Rattle.ib_planned_log.specs.Kept.{IsKeptLog}
use Rattle.ib_planned_log.specs.LeafChange.{with_pair}
use Rattle.ib_mtr.specs.Commits.{MayCommit}
use Rattle.ib_mtr.specs.Mtr.{with_work}
use Rattle.ib_mtr.proofs.Looking.{edited_mtr}
use Rattle.ib_leaf.proofs.LeafStays.{clock-low, image-got, leaf-tree, records-are}
use Rattle.ib_leaf.proofs.LeafCommits.{may-insert, work-is}
use Rattle.ib_leaf.proofs.leaf.put_in.Goals as goal

pub put_pair-requires-clause-tree : goal.put_pair-requires-clause-tree
put_pair-requires-clause-tree g c =
    let p = c.args.mtr.now.pass.now in let sizes = c.args.mtr.now.latches.now.sizes in let r = c.requires in
    let same = image-got sizes r.on.seated.fits c.args.key c.args.leaf p r.on.at c.edit.result.now c.edit.ensures.image in
    subst IsTreePage (sym same) (leaf-tree sizes r.on.seated.fits c.args.key c.args.leaf p r.on.at)

pub put_pair-requires-clause-missing : goal.put_pair-requires-clause-missing
put_pair-requires-clause-missing g c =
    let p = c.args.mtr.now.pass.now in let sizes = c.args.mtr.now.latches.now.sizes in let r = c.requires in
    let same = image-got sizes r.on.seated.fits c.args.key c.args.leaf p r.on.at c.edit.result.now c.edit.ensures.image in
    ap (λ (ws : List ℕ). value_at c.args.key (records_of ws)) same ∙ (ap (value_at c.args.key) (records-are sizes r.on.seated.fits c.args.key c.args.leaf p r.on.at) ∙ r.missing)

pub put_pair-requires-clause-room : goal.put_pair-requires-clause-room
put_pair-requires-clause-room g c =
    let p = c.args.mtr.now.pass.now in let sizes = c.args.mtr.now.latches.now.sizes in let r = c.requires in
    let same = image-got sizes r.on.seated.fits c.args.key c.args.leaf p r.on.at c.edit.result.now c.edit.ensures.image in
    let count = ap (λ (ws : List ℕ). length (records_of ws)) same ∙ ap length (records-are sizes r.on.seated.fits c.args.key c.args.leaf p r.on.at) in
    let room = r.room in omega arith

pub put_pair-requires-clause-clock : goal.put_pair-requires-clause-clock
put_pair-requires-clause-clock g c =
    let p = c.args.mtr.now.pass.now in let sizes = c.args.mtr.now.latches.now.sizes in let r = c.requires in
    let same = image-got sizes r.on.seated.fits c.args.key c.args.leaf p r.on.at c.edit.result.now c.edit.ensures.image in
    subst (λ (ws : List ℕ). clock_of ws < 2 ^ 63) (sym same) (clock-low sizes r.on.seated.fits c.args.key c.args.leaf p r.on.at r.on.seated.few)

pub returns-clause-still : goal.returns-clause-still
returns-clause-still g c = record { mtr = edited_mtr c.args.mtr.now.latches.now c.args.mtr.now.pass.now c.args.leaf c.put_pair.new.image c.requires.on.mtr; latches = search rules; pass = search rules }

pub returns-clause-put : goal.returns-clause-put
returns-clause-put g c =
    let p = c.args.mtr.now.pass.now in let sizes = c.args.mtr.now.latches.now.sizes in let r = c.requires in
    let same = image-got sizes r.on.seated.fits c.args.key c.args.leaf p r.on.at c.edit.result.now c.edit.ensures.image in
    let put : state_of (page_of c.put_pair.new.image) ≡ with_pair c.args.key c.args.value (state_of (page_of r.on.at.image)) =
    c.put_pair.ensures.page ∙ ap (λ (ws : List ℕ). with_pair c.args.key c.args.value (state_of (page_of ws))) same in
    let moved : IsMovedHeap (Puts c.args.key) (records_of r.on.at.image) (read_heap r.on.at.image) (read_heap c.put_pair.new.image) =
    subst (λ (ws : List ℕ). IsMovedHeap (Puts c.args.key) (records_of ws) (read_heap ws) (read_heap c.put_pair.new.image)) same c.put_pair.ensures.heap in
    let may = subst (λ (w : List WorkPage). MayCommit (IsKeptLog sizes.pages) (with_work w p) (Insert c.args.key c.args.value))
    (sym (work-is sizes c.args.key c.args.leaf p r.on.at r.on.seated c.put_pair.new.image))
    (may-insert sizes c.args.key c.args.leaf p r.on.at r.on.seated r.grows c.args.value c.put_pair.new.image r.missing r.room put moved) in
    (with_changed c.args.leaf c.put_pair.new.image p.work, refl, may)
