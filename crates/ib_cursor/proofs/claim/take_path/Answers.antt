-- The nodes, and then the leaves.
use Rattle.std.proofs.Common.{◌∷◌, ◌++◌, ap, sym, subst, arith, length-append}
use Rattle.ib_layout.specs.Geometry.{Sizes}
use Rattle.ib_logrec.specs.Log.{by_place}
use Rattle.ib_rule.specs.Pass.{PassState}
use Rattle.ib_cursor.specs.Claims.{beside}
use Rattle.ib_cursor.specs.Takings.{HasTakenMore, MayTakeLeaves}
use Rattle.ib_cursor.proofs.PathTakeLaws.{leaves_may, path_taken}
use Rattle.ib_cursor.proofs.claim.take_path.Goals as goal

pub take_nodes-requires-clause-ready : goal.take_nodes-requires-clause-ready
take_nodes-requires-clause-ready g c =
    let r = c.requires.ready in (r.0, r.1.front, beside c.args.found.now.left ++ c.args.found.now.leaf ∷ beside r.1.right, c.args.found.now.leaf, r.1.ends, r.1.will)

pub take_leaves-requires-clause-room : goal.take_leaves-requires-clause-room
take_leaves-requires-clause-room g c =
    let r = c.requires.ready in
    let rest = beside c.args.found.now.left ++ c.args.found.now.leaf ∷ beside r.1.right in
    let nodes = c.take_nodes.ensures.taken r.0 r.1.front rest c.args.found.now.leaf r.1.ends r.1.will in
    let a = nodes.s in let b = nodes.sx in let d = nodes.x in let f = r.1.will.few in let e = length-append r.0 (r.1.front ++ rest) in let h = length-append r.1.front rest in
    let room = c.requires.room in omega arith

pub take_leaves-requires-clause-ready : goal.take_leaves-requires-clause-ready
take_leaves-requires-clause-ready g c =
    let sizes : Sizes = c.args.mtr.now.latches.now.sizes in
    let r = c.requires.ready in
    let leaf = c.args.found.now.leaf in let left = c.args.found.now.left in
    let p : PassState = c.args.mtr.now.pass.now in let s : PassState = c.take_nodes.new.mtr.pass.now in
    let nodes = c.take_nodes.ensures.taken r.0 r.1.front (beside left ++ leaf ∷ beside r.1.right) leaf r.1.ends r.1.will in
    subst (λ (k : Sizes). MayTakeLeaves k (g.L.Law.lawful k.pages) (by_place g.L.Law.opening k.pages) leaf left s) (sym (ap (λ m. m.now.sizes) c.take_nodes.ensures.still.latches))
    (leaves_may sizes (g.L.Law.lawful sizes.pages) (by_place g.L.Law.opening sizes.pages) r.0 c.args.found.now.path leaf left p s r.1 nodes)

pub returns-clause-taken : goal.returns-clause-taken
returns-clause-taken g c held r =
    let sizes : Sizes = c.args.mtr.now.latches.now.sizes in
    let leaf = c.args.found.now.leaf in let left = c.args.found.now.left in let path = c.args.found.now.path in
    let p : PassState = c.args.mtr.now.pass.now in let s : PassState = c.take_nodes.new.mtr.pass.now in let t : PassState = c.take_leaves.new.mtr.pass.now in
    let nodes = c.take_nodes.ensures.taken held r.front (beside left ++ leaf ∷ beside r.right) leaf r.ends r.will in
    let may = leaves_may sizes (g.L.Law.lawful sizes.pages) (by_place g.L.Law.opening sizes.pages) held path leaf left p s r nodes in
    let last = subst (λ (k : Sizes). (r : MayTakeLeaves k (g.L.Law.lawful k.pages) (by_place g.L.Law.opening k.pages) leaf left s)
    → HasTakenMore k (g.L.Law.lawful k.pages) (by_place g.L.Law.opening k.pages) r.held (beside left ++ leaf ∷ beside r.right) s t) (ap (λ m. m.now.sizes) c.take_nodes.ensures.still.latches) c.take_leaves.ensures.taken may in
    path_taken sizes (g.L.Law.lawful sizes.pages) (by_place g.L.Law.opening sizes.pages) held path leaf left p s r nodes t last
