-- The page on the left, the child, and the page on the right.
use Rattle.std.proofs.Common.{◌≡◌, ◌∙◌, ◌∷◌, ◌++◌, true, List, [], ℕ, ap, sym, subst, arith, append_assoc, length-append}
use Rattle.ib_map.specs.Space.{has_pages}
use Rattle.ib_layout.specs.Geometry.{Sizes}
use Rattle.ib_logrec.specs.Log.{by_place}
use Rattle.ib_rule.specs.Pass.{PassState}
use Rattle.ib_cursor.specs.Siblings.{child_if}
use Rattle.ib_cursor.specs.Takings.{HasTakenMore, WillTake}
use Rattle.ib_cursor.proofs.ChildLaws.{last_inside, last_is, node_image, room_here, room_right, row-is, row_taken, will_here, will_left, will_right}
use Rattle.ib_cursor.proofs.PageLaws.{few, has_told}
use Rattle.ib_cursor.specs.Refusals.{IsRefusedBehind}
use Rattle.ib_cursor.proofs.LevelLaws.{among-left, among_right}
use Rattle.ib_cursor.proofs.RefusalLaws.{few_both}
use Rattle.ib_cursor.proofs.RowRefusalLaws.{behind_more, behind_wider}
use Rattle.ib_cursor.proofs.TakeLaws.{more_both}
use Rattle.ib_cursor.proofs.nowait_siblings.try_take_row.Goals as goal

pub children_of-left-requires-clause-loaded : goal.children_of-left-requires-clause-loaded
children_of-left-requires-clause-loaded g c =
    let sizes : Sizes = c.args.mtr.now.latches.now.sizes in
    let r = c.requires.ready in
    let n = node_image sizes (g.L.Law.lawful sizes.pages) (by_place g.L.Law.opening sizes.pages) c.args.key r.0 c.args.node c.args.mtr.now.pass.now r.1 in
    (n.image, n.there, n.tree, n.first)

pub try_take_child-requires-clause-ready : goal.try_take_child-requires-clause-ready
try_take_child-requires-clause-ready g c =
    let sizes : Sizes = c.args.mtr.now.latches.now.sizes in
    let r = c.requires.ready in let b = c.children_of-left.result in
    (r.0, b.here.1 ∷ child_if b.right, will_left sizes (g.L.Law.lawful sizes.pages) (by_place g.L.Law.opening sizes.pages) c.args.key r.0 c.args.node c.args.mtr.now.pass.now r.1 b.left b.here b.right c.children_of-left.ensures)

pub try_take_child-requires-2-clause-room : goal.try_take_child-requires-2-clause-room
try_take_child-requires-2-clause-room g c =
    let sizes : Sizes = c.args.mtr.now.latches.now.sizes in
    let r = c.requires.ready in let b = c.children_of-left.result in
    let p : PassState = c.args.mtr.now.pass.now in let q : PassState = c.try_take_child.new.mtr.pass.now in
    let left = will_left sizes (g.L.Law.lawful sizes.pages) (by_place g.L.Law.opening sizes.pages) c.args.key r.0 c.args.node p r.1 b.left b.here b.right c.children_of-left.ensures in
    let one = c.in-Ok.ensures.taken r.0 (b.here.1 ∷ child_if b.right) left in
    let more = room_here sizes (g.L.Law.lawful sizes.pages) (by_place g.L.Law.opening sizes.pages) c.args.key r.0 c.args.node p r.1 b.left b.here b.right c.children_of-left.ensures q one in
    let room = c.requires.room in omega arith

pub try_take_child-requires-2-clause-ready : goal.try_take_child-requires-2-clause-ready
try_take_child-requires-2-clause-ready g c =
    let sizes : Sizes = c.args.mtr.now.latches.now.sizes in
    let r = c.requires.ready in let b = c.children_of-left.result in
    let p : PassState = c.args.mtr.now.pass.now in let q : PassState = c.try_take_child.new.mtr.pass.now in
    let left = will_left sizes (g.L.Law.lawful sizes.pages) (by_place g.L.Law.opening sizes.pages) c.args.key r.0 c.args.node p r.1 b.left b.here b.right c.children_of-left.ensures in
    let one = c.in-Ok.ensures.taken r.0 (b.here.1 ∷ child_if b.right) left in
    let here = will_here sizes (g.L.Law.lawful sizes.pages) (by_place g.L.Law.opening sizes.pages) c.args.key r.0 c.args.node p r.1 b.left b.here b.right c.children_of-left.ensures q one in
    subst (λ (s : Sizes). (held : List ℕ) × (more : List ℕ) × WillTake s (g.L.Law.lawful s.pages) (by_place g.L.Law.opening s.pages) held (b.here.1 ∷ more) q) (sym (ap (λ m. m.now.sizes) c.try_take_child.ensures.still.latches))
    (r.0 ++ child_if b.left, child_if b.right, here)

pub try_take_child-requires-3-clause-room : goal.try_take_child-requires-3-clause-room
try_take_child-requires-3-clause-room g c =
    let sizes : Sizes = c.args.mtr.now.latches.now.sizes in
    let r = c.requires.ready in let b = c.children_of-left.result in
    let p : PassState = c.args.mtr.now.pass.now in let q : PassState = c.try_take_child.new.mtr.pass.now in let t : PassState = c.try_take_child-2.new.mtr.pass.now in
    let left = will_left sizes (g.L.Law.lawful sizes.pages) (by_place g.L.Law.opening sizes.pages) c.args.key r.0 c.args.node p r.1 b.left b.here b.right c.children_of-left.ensures in
    let one = c.in-Ok.ensures.taken r.0 (b.here.1 ∷ child_if b.right) left in
    let here = will_here sizes (g.L.Law.lawful sizes.pages) (by_place g.L.Law.opening sizes.pages) c.args.key r.0 c.args.node p r.1 b.left b.here b.right c.children_of-left.ensures q one in
    let taken = subst (λ (s : Sizes). (held more : List ℕ) → WillTake s (g.L.Law.lawful s.pages) (by_place g.L.Law.opening s.pages) held (b.here.1 ∷ more) q → HasTakenMore s (g.L.Law.lawful s.pages) (by_place g.L.Law.opening s.pages) held (b.here.1 ∷ []) q t)
    (ap (λ m. m.now.sizes) c.try_take_child.ensures.still.latches) c.in-Ok-try_take_child.ensures.taken in
    let two = taken (r.0 ++ child_if b.left) (child_if b.right) here in
    let more = room_right sizes (g.L.Law.lawful sizes.pages) (by_place g.L.Law.opening sizes.pages) c.args.key r.0 c.args.node p r.1 b.left b.here b.right c.children_of-left.ensures q one t two in
    let room = c.requires.room in omega arith

pub try_take_child-requires-3-clause-ready : goal.try_take_child-requires-3-clause-ready
try_take_child-requires-3-clause-ready g c =
    let sizes : Sizes = c.args.mtr.now.latches.now.sizes in
    let r = c.requires.ready in let b = c.children_of-left.result in
    let p : PassState = c.args.mtr.now.pass.now in let q : PassState = c.try_take_child.new.mtr.pass.now in let t : PassState = c.try_take_child-2.new.mtr.pass.now in
    let left = will_left sizes (g.L.Law.lawful sizes.pages) (by_place g.L.Law.opening sizes.pages) c.args.key r.0 c.args.node p r.1 b.left b.here b.right c.children_of-left.ensures in
    let one = c.in-Ok.ensures.taken r.0 (b.here.1 ∷ child_if b.right) left in
    let here = will_here sizes (g.L.Law.lawful sizes.pages) (by_place g.L.Law.opening sizes.pages) c.args.key r.0 c.args.node p r.1 b.left b.here b.right c.children_of-left.ensures q one in
    let taken = subst (λ (s : Sizes). (held more : List ℕ) → WillTake s (g.L.Law.lawful s.pages) (by_place g.L.Law.opening s.pages) held (b.here.1 ∷ more) q → HasTakenMore s (g.L.Law.lawful s.pages) (by_place g.L.Law.opening s.pages) held (b.here.1 ∷ []) q t)
    (ap (λ m. m.now.sizes) c.try_take_child.ensures.still.latches) c.in-Ok-try_take_child.ensures.taken in
    let two = taken (r.0 ++ child_if b.left) (child_if b.right) here in
    let right = will_right sizes (g.L.Law.lawful sizes.pages) (by_place g.L.Law.opening sizes.pages) c.args.key r.0 c.args.node p r.1 b.left b.here b.right c.children_of-left.ensures q one t two in
    subst (λ (s : Sizes). (held : List ℕ) × (more : List ℕ) × WillTake s (g.L.Law.lawful s.pages) (by_place g.L.Law.opening s.pages) held (child_if b.right ++ more) t) (sym (ap (λ m. m.now.sizes) (c.try_take_child-2.ensures.still.latches ∙ c.try_take_child.ensures.still.latches)))
    ((r.0 ++ child_if b.left) ++ b.here.1 ∷ [], [], right)

pub last_page-requires : goal.last_page-requires
last_page-requires g c =
    let sizes : Sizes = c.args.mtr.now.latches.now.sizes in
    let r = c.requires.ready in let b = c.children_of-left.result in
    let has : has_pages sizes.pages ≡ true = has_told c.geometry.ensures c.pages.ensures.pages c.pages.ensures.in_range in
    record { small = few sizes.pages _ has (last_inside sizes (g.L.Law.lawful sizes.pages) (by_place g.L.Law.opening sizes.pages) c.args.key r.0 c.args.node c.args.mtr.now.pass.now r.1 b.left b.here b.right c.children_of-left.ensures) }

pub returns-in-Ok-try_take_child-2-clause-taken : goal.returns-in-Ok-try_take_child-2-clause-taken
returns-in-Ok-try_take_child-2-clause-taken g c = λ held can.
    let sizes : Sizes = c.args.mtr.now.latches.now.sizes in
    let b = c.children_of-left.result in
    let p : PassState = c.args.mtr.now.pass.now in let q : PassState = c.try_take_child.new.mtr.pass.now in let t : PassState = c.try_take_child-2.new.mtr.pass.now in let u : PassState = c.try_take_child-3.new.mtr.pass.now in
    let left = will_left sizes (g.L.Law.lawful sizes.pages) (by_place g.L.Law.opening sizes.pages) c.args.key held c.args.node p can b.left b.here b.right c.children_of-left.ensures in
    let one = c.in-Ok.ensures.taken held (b.here.1 ∷ child_if b.right) left in
    let here = will_here sizes (g.L.Law.lawful sizes.pages) (by_place g.L.Law.opening sizes.pages) c.args.key held c.args.node p can b.left b.here b.right c.children_of-left.ensures q one in
    let first = ap (λ m. m.now.sizes) c.try_take_child.ensures.still.latches in
    let second = ap (λ m. m.now.sizes) (c.try_take_child-2.ensures.still.latches ∙ c.try_take_child.ensures.still.latches) in
    let taken = subst (λ (s : Sizes). (held more : List ℕ) → WillTake s (g.L.Law.lawful s.pages) (by_place g.L.Law.opening s.pages) held (b.here.1 ∷ more) q → HasTakenMore s (g.L.Law.lawful s.pages) (by_place g.L.Law.opening s.pages) held (b.here.1 ∷ []) q t) first c.in-Ok-try_take_child.ensures.taken in
    let two = taken (held ++ child_if b.left) (child_if b.right) here in
    let right = will_right sizes (g.L.Law.lawful sizes.pages) (by_place g.L.Law.opening sizes.pages) c.args.key held c.args.node p can b.left b.here b.right c.children_of-left.ensures q one t two in
    let taken3 = subst (λ (s : Sizes). (held more : List ℕ) → WillTake s (g.L.Law.lawful s.pages) (by_place g.L.Law.opening s.pages) held (child_if b.right ++ more) t → HasTakenMore s (g.L.Law.lawful s.pages) (by_place g.L.Law.opening s.pages) held (child_if b.right) t u) second c.in-Ok-try_take_child-2.ensures.taken in
    let three = taken3 ((held ++ child_if b.left) ++ b.here.1 ∷ []) [] right in
    row_taken sizes (g.L.Law.lawful sizes.pages) (by_place g.L.Law.opening sizes.pages) c.args.key held c.args.node p can b.left b.here b.right c.children_of-left.ensures q one t two u three

pub returns-in-Ok-try_take_child-2-clause-last : goal.returns-in-Ok-try_take_child-2-clause-last
returns-in-Ok-try_take_child-2-clause-last g c =
    let sizes : Sizes = c.args.mtr.now.latches.now.sizes in
    let r = c.requires.ready in let b = c.children_of-left.result in
    c.last_page.ensures ∙ sym (last_is sizes (g.L.Law.lawful sizes.pages) (by_place g.L.Law.opening sizes.pages) c.args.key r.0 c.args.node c.args.mtr.now.pass.now r.1 b.left b.here b.right c.children_of-left.ensures)

pub returns-in-Err-clause-refused : goal.returns-in-Err-clause-refused
returns-in-Err-clause-refused g c = λ held can.
    let sizes : Sizes = c.args.mtr.now.latches.now.sizes in
    let b = c.children_of-left.result in
    let p : PassState = c.args.mtr.now.pass.now in let q : PassState = c.try_take_child.new.mtr.pass.now in
    let is = row-is sizes (g.L.Law.lawful sizes.pages) (by_place g.L.Law.opening sizes.pages) c.args.key held c.args.node p can b.left b.here b.right c.children_of-left.ensures in
    let left = will_left sizes (g.L.Law.lawful sizes.pages) (by_place g.L.Law.opening sizes.pages) c.args.key held c.args.node p can b.left b.here b.right c.children_of-left.ensures in
    let row : List ℕ = child_if b.left ++ b.here.1 ∷ child_if b.right in let long = length-append (child_if b.left) (b.here.1 ∷ child_if b.right) in
    subst (λ ps. IsRefusedBehind sizes (g.L.Law.lawful sizes.pages) (by_place g.L.Law.opening sizes.pages) held ps c.in-Err.fault p q) (sym is)
    (behind_wider sizes (g.L.Law.lawful sizes.pages) (by_place g.L.Law.opening sizes.pages) held (child_if b.left) row c.in-Err.fault p q (λ n is. among-left (child_if b.left) (b.here.1 ∷ child_if b.right) n is) (omega arith) (c.in-Err.ensures.refused held (b.here.1 ∷ child_if b.right) left))

pub returns-in-Err-try_take_child-clause-refused : goal.returns-in-Err-try_take_child-clause-refused
returns-in-Err-try_take_child-clause-refused g c = λ held can.
    let sizes : Sizes = c.args.mtr.now.latches.now.sizes in
    let b = c.children_of-left.result in
    let p : PassState = c.args.mtr.now.pass.now in let q : PassState = c.try_take_child.new.mtr.pass.now in
    let is = row-is sizes (g.L.Law.lawful sizes.pages) (by_place g.L.Law.opening sizes.pages) c.args.key held c.args.node p can b.left b.here b.right c.children_of-left.ensures in
    let left = will_left sizes (g.L.Law.lawful sizes.pages) (by_place g.L.Law.opening sizes.pages) c.args.key held c.args.node p can b.left b.here b.right c.children_of-left.ensures in
    let row : List ℕ = child_if b.left ++ b.here.1 ∷ child_if b.right in let long = length-append (child_if b.left) (b.here.1 ∷ child_if b.right) in
    let one = c.in-Ok.ensures.taken held (b.here.1 ∷ child_if b.right) left in
    let here = will_here sizes (g.L.Law.lawful sizes.pages) (by_place g.L.Law.opening sizes.pages) c.args.key held c.args.node p can b.left b.here b.right c.children_of-left.ensures q one in
    let first = ap (λ m. m.now.sizes) c.try_take_child.ensures.still.latches in
    let t : PassState = c.try_take_child-2.new.mtr.pass.now in
    let f = c.in-Err-try_take_child.fault in
    let refused = subst (λ (s : Sizes). (held more : List ℕ) → WillTake s (g.L.Law.lawful s.pages) (by_place g.L.Law.opening s.pages) held (b.here.1 ∷ more) q → IsRefusedBehind s (g.L.Law.lawful s.pages) (by_place g.L.Law.opening s.pages) held (b.here.1 ∷ []) f q t) first c.in-Err-try_take_child.ensures.refused in
    subst (λ ps. IsRefusedBehind sizes (g.L.Law.lawful sizes.pages) (by_place g.L.Law.opening sizes.pages) held ps f p t) (sym is)
    (behind_more sizes (g.L.Law.lawful sizes.pages) (by_place g.L.Law.opening sizes.pages) held (child_if b.left) (b.here.1 ∷ []) row f p q t one c.in-Ok.ensures.few
    (λ n is. among_right (child_if b.left) (b.here.1 ∷ child_if b.right) n (among-left (b.here.1 ∷ []) (child_if b.right) n is)) (omega arith) (refused (held ++ child_if b.left) (child_if b.right) here))

pub returns-in-Err-try_take_child-2-clause-refused : goal.returns-in-Err-try_take_child-2-clause-refused
returns-in-Err-try_take_child-2-clause-refused g c = λ held can.
    let sizes : Sizes = c.args.mtr.now.latches.now.sizes in
    let b = c.children_of-left.result in
    let p : PassState = c.args.mtr.now.pass.now in let q : PassState = c.try_take_child.new.mtr.pass.now in
    let is = row-is sizes (g.L.Law.lawful sizes.pages) (by_place g.L.Law.opening sizes.pages) c.args.key held c.args.node p can b.left b.here b.right c.children_of-left.ensures in
    let left = will_left sizes (g.L.Law.lawful sizes.pages) (by_place g.L.Law.opening sizes.pages) c.args.key held c.args.node p can b.left b.here b.right c.children_of-left.ensures in
    let row : List ℕ = child_if b.left ++ b.here.1 ∷ child_if b.right in let long = length-append (child_if b.left) (b.here.1 ∷ child_if b.right) in
    let one = c.in-Ok.ensures.taken held (b.here.1 ∷ child_if b.right) left in
    let here = will_here sizes (g.L.Law.lawful sizes.pages) (by_place g.L.Law.opening sizes.pages) c.args.key held c.args.node p can b.left b.here b.right c.children_of-left.ensures q one in
    let first = ap (λ m. m.now.sizes) c.try_take_child.ensures.still.latches in
    let t : PassState = c.try_take_child-2.new.mtr.pass.now in
    let f = c.in-Err-try_take_child-2.fault in let u : PassState = c.try_take_child-3.new.mtr.pass.now in
    let second = ap (λ m. m.now.sizes) (c.try_take_child-2.ensures.still.latches ∙ c.try_take_child.ensures.still.latches) in
    let taken = subst (λ (s : Sizes). (held more : List ℕ) → WillTake s (g.L.Law.lawful s.pages) (by_place g.L.Law.opening s.pages) held (b.here.1 ∷ more) q → HasTakenMore s (g.L.Law.lawful s.pages) (by_place g.L.Law.opening s.pages) held (b.here.1 ∷ []) q t) first c.in-Ok-try_take_child.ensures.taken in
    let two = taken (held ++ child_if b.left) (child_if b.right) here in
    let right = will_right sizes (g.L.Law.lawful sizes.pages) (by_place g.L.Law.opening sizes.pages) c.args.key held c.args.node p can b.left b.here b.right c.children_of-left.ensures q one t two in
    let refused = subst (λ (s : Sizes). (held more : List ℕ) → WillTake s (g.L.Law.lawful s.pages) (by_place g.L.Law.opening s.pages) held (child_if b.right ++ more) t → IsRefusedBehind s (g.L.Law.lawful s.pages) (by_place g.L.Law.opening s.pages) held (child_if b.right) f t u) second c.in-Err-try_take_child-2.ensures.refused in
    let v = subst (λ ps. IsRefusedBehind sizes (g.L.Law.lawful sizes.pages) (by_place g.L.Law.opening sizes.pages) ps (child_if b.right) f t u) (append_assoc held (child_if b.left) (b.here.1 ∷ [])) (refused ((held ++ child_if b.left) ++ b.here.1 ∷ []) [] right) in
    let both = more_both sizes (g.L.Law.lawful sizes.pages) (by_place g.L.Law.opening sizes.pages) held (child_if b.left) (b.here.1 ∷ []) p q t one two in let short = length-append (child_if b.left) (b.here.1 ∷ []) in
    subst (λ ps. IsRefusedBehind sizes (g.L.Law.lawful sizes.pages) (by_place g.L.Law.opening sizes.pages) held ps f p u) (sym is)
    (behind_more sizes (g.L.Law.lawful sizes.pages) (by_place g.L.Law.opening sizes.pages) held (child_if b.left ++ b.here.1 ∷ []) (child_if b.right) row f p t u both (few_both 0 p.view q.view t.view c.in-Ok.ensures.few c.in-Ok-try_take_child.ensures.few)
    (λ n is. among_right (child_if b.left) (b.here.1 ∷ child_if b.right) n (among_right (b.here.1 ∷ []) (child_if b.right) n is)) (omega arith) v)

pub returns-in-Ok-try_take_child-2-clause-few : goal.returns-in-Ok-try_take_child-2-clause-few
returns-in-Ok-try_take_child-2-clause-few g c =
    let p : PassState = c.args.mtr.now.pass.now in let q : PassState = c.try_take_child.new.mtr.pass.now in let t : PassState = c.try_take_child-2.new.mtr.pass.now in
    few_both 0 p.view t.view c.try_take_child-3.new.mtr.pass.now.view (few_both 0 p.view q.view t.view c.in-Ok.ensures.few c.in-Ok-try_take_child.ensures.few) c.in-Ok-try_take_child-2.ensures.few
