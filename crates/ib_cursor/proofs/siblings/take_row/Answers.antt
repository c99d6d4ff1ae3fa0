-- The page on the left, the child, and the page on the right.
use Rattle.std.proofs.Common.{◌≡◌, ◌∙◌, ◌∷◌, ◌++◌, true, List, [], ℕ, ap, sym, subst, arith}
use Rattle.ib_map.specs.Space.{has_pages}
use Rattle.ib_layout.specs.Geometry.{Sizes}
use Rattle.ib_logrec.specs.Log.{by_place}
use Rattle.ib_rule.specs.Pass.{PassState}
use Rattle.ib_cursor.specs.Siblings.{child_if}
use Rattle.ib_cursor.specs.Takings.{HasTakenMore, WillTake}
use Rattle.ib_cursor.proofs.ChildLaws.{last_inside, last_is, node_image, room_here, room_right, row_taken, will_here, will_left, will_right}
use Rattle.ib_cursor.proofs.PageLaws.{few, has_told}
use Rattle.ib_cursor.proofs.siblings.take_row.Goals as goal

pub children_of-left-requires-clause-loaded : goal.children_of-left-requires-clause-loaded
children_of-left-requires-clause-loaded g c =
    let sizes : Sizes = c.args.mtr.now.latches.now.sizes in
    let r = c.requires.ready in
    let n = node_image sizes (g.L.Law.lawful sizes.pages) (by_place g.L.Law.opening sizes.pages) c.args.key r.0 c.args.node c.args.mtr.now.pass.now r.1 in
    (n.image, n.there, n.tree, n.first)

pub take_child-requires-clause-ready : goal.take_child-requires-clause-ready
take_child-requires-clause-ready g c =
    let sizes : Sizes = c.args.mtr.now.latches.now.sizes in
    let r = c.requires.ready in let b = c.children_of-left.result in
    (r.0, b.here.1 ∷ child_if b.right, will_left sizes (g.L.Law.lawful sizes.pages) (by_place g.L.Law.opening sizes.pages) c.args.key r.0 c.args.node c.args.mtr.now.pass.now r.1 b.left b.here b.right c.children_of-left.ensures)

pub take_child-requires-2-clause-room : goal.take_child-requires-2-clause-room
take_child-requires-2-clause-room g c =
    let sizes : Sizes = c.args.mtr.now.latches.now.sizes in
    let r = c.requires.ready in let b = c.children_of-left.result in
    let p : PassState = c.args.mtr.now.pass.now in let q : PassState = c.take_child.new.mtr.pass.now in
    let left = will_left sizes (g.L.Law.lawful sizes.pages) (by_place g.L.Law.opening sizes.pages) c.args.key r.0 c.args.node p r.1 b.left b.here b.right c.children_of-left.ensures in
    let one = c.take_child.ensures.taken r.0 (b.here.1 ∷ child_if b.right) left in
    let more = room_here sizes (g.L.Law.lawful sizes.pages) (by_place g.L.Law.opening sizes.pages) c.args.key r.0 c.args.node p r.1 b.left b.here b.right c.children_of-left.ensures q one in
    let room = c.requires.room in omega arith

pub take_child-requires-2-clause-ready : goal.take_child-requires-2-clause-ready
take_child-requires-2-clause-ready g c =
    let sizes : Sizes = c.args.mtr.now.latches.now.sizes in
    let r = c.requires.ready in let b = c.children_of-left.result in
    let p : PassState = c.args.mtr.now.pass.now in let q : PassState = c.take_child.new.mtr.pass.now in
    let left = will_left sizes (g.L.Law.lawful sizes.pages) (by_place g.L.Law.opening sizes.pages) c.args.key r.0 c.args.node p r.1 b.left b.here b.right c.children_of-left.ensures in
    let one = c.take_child.ensures.taken r.0 (b.here.1 ∷ child_if b.right) left in
    let here = will_here sizes (g.L.Law.lawful sizes.pages) (by_place g.L.Law.opening sizes.pages) c.args.key r.0 c.args.node p r.1 b.left b.here b.right c.children_of-left.ensures q one in
    subst (λ (s : Sizes). (held : List ℕ) × (more : List ℕ) × WillTake s (g.L.Law.lawful s.pages) (by_place g.L.Law.opening s.pages) held (b.here.1 ∷ more) q) (sym (ap (λ m. m.now.sizes) c.take_child.ensures.still.latches))
    (r.0 ++ child_if b.left, child_if b.right, here)

pub take_child-requires-3-clause-room : goal.take_child-requires-3-clause-room
take_child-requires-3-clause-room g c =
    let sizes : Sizes = c.args.mtr.now.latches.now.sizes in
    let r = c.requires.ready in let b = c.children_of-left.result in
    let p : PassState = c.args.mtr.now.pass.now in let q : PassState = c.take_child.new.mtr.pass.now in let t : PassState = c.take_child-2.new.mtr.pass.now in
    let left = will_left sizes (g.L.Law.lawful sizes.pages) (by_place g.L.Law.opening sizes.pages) c.args.key r.0 c.args.node p r.1 b.left b.here b.right c.children_of-left.ensures in
    let one = c.take_child.ensures.taken r.0 (b.here.1 ∷ child_if b.right) left in
    let here = will_here sizes (g.L.Law.lawful sizes.pages) (by_place g.L.Law.opening sizes.pages) c.args.key r.0 c.args.node p r.1 b.left b.here b.right c.children_of-left.ensures q one in
    let taken = subst (λ (s : Sizes). (held more : List ℕ) → WillTake s (g.L.Law.lawful s.pages) (by_place g.L.Law.opening s.pages) held (b.here.1 ∷ more) q → HasTakenMore s (g.L.Law.lawful s.pages) (by_place g.L.Law.opening s.pages) held (b.here.1 ∷ []) q t)
    (ap (λ m. m.now.sizes) c.take_child.ensures.still.latches) c.take_child-2.ensures.taken in
    let two = taken (r.0 ++ child_if b.left) (child_if b.right) here in
    let more = room_right sizes (g.L.Law.lawful sizes.pages) (by_place g.L.Law.opening sizes.pages) c.args.key r.0 c.args.node p r.1 b.left b.here b.right c.children_of-left.ensures q one t two in
    let room = c.requires.room in omega arith

pub take_child-requires-3-clause-ready : goal.take_child-requires-3-clause-ready
take_child-requires-3-clause-ready g c =
    let sizes : Sizes = c.args.mtr.now.latches.now.sizes in
    let r = c.requires.ready in let b = c.children_of-left.result in
    let p : PassState = c.args.mtr.now.pass.now in let q : PassState = c.take_child.new.mtr.pass.now in let t : PassState = c.take_child-2.new.mtr.pass.now in
    let left = will_left sizes (g.L.Law.lawful sizes.pages) (by_place g.L.Law.opening sizes.pages) c.args.key r.0 c.args.node p r.1 b.left b.here b.right c.children_of-left.ensures in
    let one = c.take_child.ensures.taken r.0 (b.here.1 ∷ child_if b.right) left in
    let here = will_here sizes (g.L.Law.lawful sizes.pages) (by_place g.L.Law.opening sizes.pages) c.args.key r.0 c.args.node p r.1 b.left b.here b.right c.children_of-left.ensures q one in
    let taken = subst (λ (s : Sizes). (held more : List ℕ) → WillTake s (g.L.Law.lawful s.pages) (by_place g.L.Law.opening s.pages) held (b.here.1 ∷ more) q → HasTakenMore s (g.L.Law.lawful s.pages) (by_place g.L.Law.opening s.pages) held (b.here.1 ∷ []) q t)
    (ap (λ m. m.now.sizes) c.take_child.ensures.still.latches) c.take_child-2.ensures.taken in
    let two = taken (r.0 ++ child_if b.left) (child_if b.right) here in
    let right = will_right sizes (g.L.Law.lawful sizes.pages) (by_place g.L.Law.opening sizes.pages) c.args.key r.0 c.args.node p r.1 b.left b.here b.right c.children_of-left.ensures q one t two in
    subst (λ (s : Sizes). (held : List ℕ) × (more : List ℕ) × WillTake s (g.L.Law.lawful s.pages) (by_place g.L.Law.opening s.pages) held (child_if b.right ++ more) t) (sym (ap (λ m. m.now.sizes) (c.take_child-2.ensures.still.latches ∙ c.take_child.ensures.still.latches)))
    ((r.0 ++ child_if b.left) ++ b.here.1 ∷ [], [], right)

pub last_page-requires : goal.last_page-requires
last_page-requires g c =
    let sizes : Sizes = c.args.mtr.now.latches.now.sizes in
    let r = c.requires.ready in let b = c.children_of-left.result in
    let has : has_pages sizes.pages ≡ true = has_told c.geometry.ensures c.pages.ensures.pages c.pages.ensures.in_range in
    record { small = few sizes.pages _ has (last_inside sizes (g.L.Law.lawful sizes.pages) (by_place g.L.Law.opening sizes.pages) c.args.key r.0 c.args.node c.args.mtr.now.pass.now r.1 b.left b.here b.right c.children_of-left.ensures) }

pub returns-clause-taken : goal.returns-clause-taken
returns-clause-taken g c = λ held can.
    let sizes : Sizes = c.args.mtr.now.latches.now.sizes in
    let b = c.children_of-left.result in
    let p : PassState = c.args.mtr.now.pass.now in let q : PassState = c.take_child.new.mtr.pass.now in let t : PassState = c.take_child-2.new.mtr.pass.now in let u : PassState = c.take_child-3.new.mtr.pass.now in
    let left = will_left sizes (g.L.Law.lawful sizes.pages) (by_place g.L.Law.opening sizes.pages) c.args.key held c.args.node p can b.left b.here b.right c.children_of-left.ensures in
    let one = c.take_child.ensures.taken held (b.here.1 ∷ child_if b.right) left in
    let here = will_here sizes (g.L.Law.lawful sizes.pages) (by_place g.L.Law.opening sizes.pages) c.args.key held c.args.node p can b.left b.here b.right c.children_of-left.ensures q one in
    let first = ap (λ m. m.now.sizes) c.take_child.ensures.still.latches in
    let second = ap (λ m. m.now.sizes) (c.take_child-2.ensures.still.latches ∙ c.take_child.ensures.still.latches) in
    let taken = subst (λ (s : Sizes). (held more : List ℕ) → WillTake s (g.L.Law.lawful s.pages) (by_place g.L.Law.opening s.pages) held (b.here.1 ∷ more) q → HasTakenMore s (g.L.Law.lawful s.pages) (by_place g.L.Law.opening s.pages) held (b.here.1 ∷ []) q t) first c.take_child-2.ensures.taken in
    let two = taken (held ++ child_if b.left) (child_if b.right) here in
    let right = will_right sizes (g.L.Law.lawful sizes.pages) (by_place g.L.Law.opening sizes.pages) c.args.key held c.args.node p can b.left b.here b.right c.children_of-left.ensures q one t two in
    let taken3 = subst (λ (s : Sizes). (held more : List ℕ) → WillTake s (g.L.Law.lawful s.pages) (by_place g.L.Law.opening s.pages) held (child_if b.right ++ more) t → HasTakenMore s (g.L.Law.lawful s.pages) (by_place g.L.Law.opening s.pages) held (child_if b.right) t u) second c.take_child-3.ensures.taken in
    let three = taken3 ((held ++ child_if b.left) ++ b.here.1 ∷ []) [] right in
    row_taken sizes (g.L.Law.lawful sizes.pages) (by_place g.L.Law.opening sizes.pages) c.args.key held c.args.node p can b.left b.here b.right c.children_of-left.ensures q one t two u three

pub returns-clause-last : goal.returns-clause-last
returns-clause-last g c =
    let sizes : Sizes = c.args.mtr.now.latches.now.sizes in
    let r = c.requires.ready in let b = c.children_of-left.result in
    c.last_page.ensures ∙ sym (last_is sizes (g.L.Law.lawful sizes.pages) (by_place g.L.Law.opening sizes.pages) c.args.key r.0 c.args.node c.args.mtr.now.pass.now r.1 b.left b.here b.right c.children_of-left.ensures)
