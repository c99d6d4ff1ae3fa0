-- The leaf before, the leaf, and the leaf behind.
use Rattle.std.proofs.Common.{◌≡◌, ◌∙◌, ◌∷◌, ◌++◌, ◌<◌, List, [], ℕ, ap, sym, subst, arith, append-nil, length-append}
use Rattle.ib_layout.specs.Geometry.{Sizes}
use Rattle.ib_logrec.specs.Log.{by_place}
use Rattle.ib_rule.specs.Pass.{PassState}
use Rattle.ib_cursor.specs.Claims.{beside}
use Rattle.ib_cursor.specs.Refusals.{IsRefusedBehind}
use Rattle.ib_cursor.specs.Takings.{WillTake, CanTakePage, HasTakenMore, HasTakenPage, MayTakeFirst, TakesFirst}
use Rattle.ib_cursor.proofs.LevelLaws.{among-left, among_right}
use Rattle.ib_cursor.proofs.RefusalLaws.{few_both}
use Rattle.ib_cursor.proofs.TakeLaws.{more_both, beside_few}
use Rattle.ib_cursor.proofs.TakeRefusalLaws.{leaf_can, leaf_first, leaf_last, leaf_link, leaf_second, refused_behind, refused_wider}
use Rattle.ib_cursor.proofs.nowait_claim.try_take_leaves.Goals as goal

pub try_take_beside-requires-clause-ready : goal.try_take_beside-requires-clause-ready
try_take_beside-requires-clause-ready g c = let r = c.requires.ready in (r.held, c.args.leaf ∷ beside r.right, r.will)

pub returns-in-Err-clause-refused : goal.returns-in-Err-clause-refused
returns-in-Err-clause-refused g c = λ r.
    let sizes : Sizes = c.args.mtr.now.latches.now.sizes in
    let a = length-append (beside c.args.left) (c.args.leaf ∷ beside r.right) in
    refused_wider sizes (g.L.Law.lawful sizes.pages) (beside c.args.left) (beside c.args.left ++ c.args.leaf ∷ beside r.right) c.in-Err.fault c.args.mtr.now.pass.now c.try_take_beside.new.mtr.pass.now
    (λ n is. among-left (beside c.args.left) (c.args.leaf ∷ beside r.right) n is) (omega arith) (c.in-Err.ensures.refused r.held (c.args.leaf ∷ beside r.right) r.will).refused

pub try_take_page-requires-clause-page : goal.try_take_page-requires-clause-page
try_take_page-requires-clause-page g c =
    let sizes : Sizes = c.args.mtr.now.latches.now.sizes in
    let can = leaf_can sizes (g.L.Law.lawful sizes.pages) (by_place g.L.Law.opening sizes.pages) c.args.leaf c.args.left c.args.mtr.now.pass.now c.try_take_beside.new.mtr.pass.now c.requires.ready c.in-Ok.ensures.taken in
    subst (λ (s : Sizes). c.args.leaf < s.pages) (sym (ap (λ m. m.now.sizes) c.try_take_beside.ensures.still.latches)) can.1

pub try_take_page-requires-clause-room : goal.try_take_page-requires-clause-room
try_take_page-requires-clause-room g c =
    let sizes : Sizes = c.args.mtr.now.latches.now.sizes in
    let one = leaf_first sizes (g.L.Law.lawful sizes.pages) (by_place g.L.Law.opening sizes.pages) c.args.leaf c.args.left c.args.mtr.now.pass.now c.try_take_beside.new.mtr.pass.now c.requires.ready c.in-Ok.ensures.taken in
    let room = c.requires.room in let a = one.s in let b = one.sx in let d = one.x in let f = beside_few c.args.left in omega arith

pub try_take_page-requires-clause-holds : goal.try_take_page-requires-clause-holds
try_take_page-requires-clause-holds g c =
    let sizes : Sizes = c.args.mtr.now.latches.now.sizes in let q : PassState = c.try_take_beside.new.mtr.pass.now in
    let can = leaf_can sizes (g.L.Law.lawful sizes.pages) (by_place g.L.Law.opening sizes.pages) c.args.leaf c.args.left c.args.mtr.now.pass.now q c.requires.ready c.in-Ok.ensures.taken in
    subst (λ (s : Sizes). (held : List ℕ) × CanTakePage s (g.L.Law.lawful s.pages) (by_place g.L.Law.opening s.pages) held c.args.leaf q) (sym (ap (λ m. m.now.sizes) c.try_take_beside.ensures.still.latches)) (c.requires.ready.held ++ beside c.args.left, can.0)

pub returns-in-Err-try_take_page-clause-refused : goal.returns-in-Err-try_take_page-clause-refused
returns-in-Err-try_take_page-clause-refused g c = λ r.
    let sizes : Sizes = c.args.mtr.now.latches.now.sizes in
    let p : PassState = c.args.mtr.now.pass.now in let q : PassState = c.try_take_beside.new.mtr.pass.now in let t : PassState = c.try_take_page.new.mtr.pass.now in let f = c.in-Err-try_take_page.fault in
    let one = leaf_first sizes (g.L.Law.lawful sizes.pages) (by_place g.L.Law.opening sizes.pages) c.args.leaf c.args.left p q r c.in-Ok.ensures.taken in
    let can = leaf_can sizes (g.L.Law.lawful sizes.pages) (by_place g.L.Law.opening sizes.pages) c.args.leaf c.args.left p q r c.in-Ok.ensures.taken in
    let refused = subst (λ (s : Sizes). (held : List ℕ) → CanTakePage s (g.L.Law.lawful s.pages) (by_place g.L.Law.opening s.pages) held c.args.leaf q → IsRefusedBehind s (g.L.Law.lawful s.pages) (by_place g.L.Law.opening s.pages) held (c.args.leaf ∷ []) f q t) (ap (λ m. m.now.sizes) c.try_take_beside.ensures.still.latches) c.in-Err-try_take_page.ensures.refused in
    let v = (refused (r.held ++ beside c.args.left) can.0).refused in
    let a = length-append (beside c.args.left) (c.args.leaf ∷ beside r.right) in
    refused_behind sizes (g.L.Law.lawful sizes.pages) (by_place g.L.Law.opening sizes.pages) r.held (beside c.args.left) (c.args.leaf ∷ []) (beside c.args.left ++ c.args.leaf ∷ beside r.right) f p q t one c.in-Ok.ensures.few
    (λ n is. among_right (beside c.args.left) (c.args.leaf ∷ beside r.right) n (among-left (c.args.leaf ∷ []) (beside r.right) n is)) (omega arith) v

pub right_of-right-requires-clause-loaded : goal.right_of-right-requires-clause-loaded
right_of-right-requires-clause-loaded g c =
    let sizes : Sizes = c.args.mtr.now.latches.now.sizes in
    let p : PassState = c.args.mtr.now.pass.now in let q : PassState = c.try_take_beside.new.mtr.pass.now in let t : PassState = c.try_take_page.new.mtr.pass.now in
    let page = subst (λ (s : Sizes). (held : List ℕ) → CanTakePage s (g.L.Law.lawful s.pages) (by_place g.L.Law.opening s.pages) held c.args.leaf q → HasTakenPage s (g.L.Law.lawful s.pages) (by_place g.L.Law.opening s.pages) held c.args.leaf q t)
    (ap (λ m. m.now.sizes) c.try_take_beside.ensures.still.latches) c.in-Ok-try_take_page.ensures.taken in
    let link = leaf_link sizes (g.L.Law.lawful sizes.pages) (by_place g.L.Law.opening sizes.pages) c.args.leaf c.args.left p q c.requires.ready c.in-Ok.ensures.taken t page in (link.image, link.there, link.formed)

pub try_take_beside-requires-2-clause-room : goal.try_take_beside-requires-2-clause-room
try_take_beside-requires-2-clause-room g c =
    let sizes : Sizes = c.args.mtr.now.latches.now.sizes in
    let p : PassState = c.args.mtr.now.pass.now in let q : PassState = c.try_take_beside.new.mtr.pass.now in let t : PassState = c.try_take_page.new.mtr.pass.now in
    let page = subst (λ (s : Sizes). (held : List ℕ) → CanTakePage s (g.L.Law.lawful s.pages) (by_place g.L.Law.opening s.pages) held c.args.leaf q → HasTakenPage s (g.L.Law.lawful s.pages) (by_place g.L.Law.opening s.pages) held c.args.leaf q t)
    (ap (λ m. m.now.sizes) c.try_take_beside.ensures.still.latches) c.in-Ok-try_take_page.ensures.taken in
    let one = leaf_first sizes (g.L.Law.lawful sizes.pages) (by_place g.L.Law.opening sizes.pages) c.args.leaf c.args.left p q c.requires.ready c.in-Ok.ensures.taken in
    let two = leaf_second sizes (g.L.Law.lawful sizes.pages) (by_place g.L.Law.opening sizes.pages) c.args.leaf c.args.left p q c.requires.ready c.in-Ok.ensures.taken t page in
    let room = c.requires.room in let a = one.s in let b = one.sx in let d = one.x in let f = beside_few c.args.left in let a2 = two.s in let b2 = two.sx in let d2 = two.x in omega arith

pub try_take_beside-requires-2-clause-ready : goal.try_take_beside-requires-2-clause-ready
try_take_beside-requires-2-clause-ready g c =
    let r = c.requires.ready in
    let sizes : Sizes = c.args.mtr.now.latches.now.sizes in
    let p : PassState = c.args.mtr.now.pass.now in let q : PassState = c.try_take_beside.new.mtr.pass.now in let t : PassState = c.try_take_page.new.mtr.pass.now in
    let page = subst (λ (s : Sizes). (held : List ℕ) → CanTakePage s (g.L.Law.lawful s.pages) (by_place g.L.Law.opening s.pages) held c.args.leaf q → HasTakenPage s (g.L.Law.lawful s.pages) (by_place g.L.Law.opening s.pages) held c.args.leaf q t)
    (ap (λ m. m.now.sizes) c.try_take_beside.ensures.still.latches) c.in-Ok-try_take_page.ensures.taken in
    let link = leaf_link sizes (g.L.Law.lawful sizes.pages) (by_place g.L.Law.opening sizes.pages) c.args.leaf c.args.left p q r c.in-Ok.ensures.taken t page in
    let last = leaf_last sizes (g.L.Law.lawful sizes.pages) (by_place g.L.Law.opening sizes.pages) c.args.leaf c.args.left p q r c.in-Ok.ensures.taken t page in
    let held : List ℕ = (r.held ++ beside c.args.left) ++ c.args.leaf ∷ [] in
    let right : c.right_of-right.result ≡ r.right = c.right_of-right.ensures link.image link.there ∙ link.right_is in
    let will = subst (λ n. WillTake sizes (g.L.Law.lawful sizes.pages) (by_place g.L.Law.opening sizes.pages) held (beside n ++ []) t) (sym right) (subst (λ ps. WillTake sizes (g.L.Law.lawful sizes.pages) (by_place g.L.Law.opening sizes.pages) held ps t) (sym (append-nil (beside r.right))) last) in
    subst (λ (s : Sizes). MayTakeFirst s (g.L.Law.lawful s.pages) (by_place g.L.Law.opening s.pages) (beside c.right_of-right.result) t) (sym (ap (λ m. m.now.sizes) (c.try_take_page.ensures.still.latches ∙ c.try_take_beside.ensures.still.latches))) (held, [], will)

pub returns-in-Ok-try_take_beside-clause-taken : goal.returns-in-Ok-try_take_beside-clause-taken
returns-in-Ok-try_take_beside-clause-taken g c = λ r.
    let sizes : Sizes = c.args.mtr.now.latches.now.sizes in
    let p : PassState = c.args.mtr.now.pass.now in let q : PassState = c.try_take_beside.new.mtr.pass.now in let t : PassState = c.try_take_page.new.mtr.pass.now in
    let page = subst (λ (s : Sizes). (held : List ℕ) → CanTakePage s (g.L.Law.lawful s.pages) (by_place g.L.Law.opening s.pages) held c.args.leaf q → HasTakenPage s (g.L.Law.lawful s.pages) (by_place g.L.Law.opening s.pages) held c.args.leaf q t)
    (ap (λ m. m.now.sizes) c.try_take_beside.ensures.still.latches) c.in-Ok-try_take_page.ensures.taken in
    let u : PassState = c.try_take_beside-2.new.mtr.pass.now in
    let one = leaf_first sizes (g.L.Law.lawful sizes.pages) (by_place g.L.Law.opening sizes.pages) c.args.leaf c.args.left p q r c.in-Ok.ensures.taken in
    let two = leaf_second sizes (g.L.Law.lawful sizes.pages) (by_place g.L.Law.opening sizes.pages) c.args.leaf c.args.left p q r c.in-Ok.ensures.taken t page in
    let link = leaf_link sizes (g.L.Law.lawful sizes.pages) (by_place g.L.Law.opening sizes.pages) c.args.leaf c.args.left p q r c.in-Ok.ensures.taken t page in
    let last = leaf_last sizes (g.L.Law.lawful sizes.pages) (by_place g.L.Law.opening sizes.pages) c.args.leaf c.args.left p q r c.in-Ok.ensures.taken t page in
    let held : List ℕ = (r.held ++ beside c.args.left) ++ c.args.leaf ∷ [] in
    let right : c.right_of-right.result ≡ r.right = c.right_of-right.ensures link.image link.there ∙ link.right_is in
    let will = subst (λ n. WillTake sizes (g.L.Law.lawful sizes.pages) (by_place g.L.Law.opening sizes.pages) held (beside n ++ []) t) (sym right) (subst (λ ps. WillTake sizes (g.L.Law.lawful sizes.pages) (by_place g.L.Law.opening sizes.pages) held ps t) (sym (append-nil (beside r.right))) last) in
    let behind = subst (λ (s : Sizes). TakesFirst s (g.L.Law.lawful s.pages) (by_place g.L.Law.opening s.pages) (beside c.right_of-right.result) t u) (ap (λ m. m.now.sizes) (c.try_take_page.ensures.still.latches ∙ c.try_take_beside.ensures.still.latches)) c.in-Ok-try_take_beside.ensures.taken held [] will in
    let three = subst (λ n. HasTakenMore sizes (g.L.Law.lawful sizes.pages) (by_place g.L.Law.opening sizes.pages) held (beside n) t u) right behind in
    more_both sizes (g.L.Law.lawful sizes.pages) (by_place g.L.Law.opening sizes.pages) r.held (beside c.args.left) (c.args.leaf ∷ beside r.right) p q u one (more_both sizes (g.L.Law.lawful sizes.pages) (by_place g.L.Law.opening sizes.pages) (r.held ++ beside c.args.left) (c.args.leaf ∷ []) (beside r.right) q t u two three)

pub returns-in-Ok-try_take_beside-clause-few : goal.returns-in-Ok-try_take_beside-clause-few
returns-in-Ok-try_take_beside-clause-few g c =
    let p : PassState = c.args.mtr.now.pass.now in let q : PassState = c.try_take_beside.new.mtr.pass.now in let t : PassState = c.try_take_page.new.mtr.pass.now in
    few_both 0 p.view t.view c.try_take_beside-2.new.mtr.pass.now.view (few_both 0 p.view q.view t.view c.in-Ok.ensures.few c.in-Ok-try_take_page.ensures.few) c.in-Ok-try_take_beside.ensures.few

pub returns-in-Err-try_take_beside-clause-refused : goal.returns-in-Err-try_take_beside-clause-refused
returns-in-Err-try_take_beside-clause-refused g c = λ r.
    let sizes : Sizes = c.args.mtr.now.latches.now.sizes in
    let p : PassState = c.args.mtr.now.pass.now in let q : PassState = c.try_take_beside.new.mtr.pass.now in let t : PassState = c.try_take_page.new.mtr.pass.now in
    let page = subst (λ (s : Sizes). (held : List ℕ) → CanTakePage s (g.L.Law.lawful s.pages) (by_place g.L.Law.opening s.pages) held c.args.leaf q → HasTakenPage s (g.L.Law.lawful s.pages) (by_place g.L.Law.opening s.pages) held c.args.leaf q t)
    (ap (λ m. m.now.sizes) c.try_take_beside.ensures.still.latches) c.in-Ok-try_take_page.ensures.taken in
    let u : PassState = c.try_take_beside-2.new.mtr.pass.now in let f = c.in-Err-try_take_beside.fault in
    let one = leaf_first sizes (g.L.Law.lawful sizes.pages) (by_place g.L.Law.opening sizes.pages) c.args.leaf c.args.left p q r c.in-Ok.ensures.taken in
    let two = leaf_second sizes (g.L.Law.lawful sizes.pages) (by_place g.L.Law.opening sizes.pages) c.args.leaf c.args.left p q r c.in-Ok.ensures.taken t page in
    let link = leaf_link sizes (g.L.Law.lawful sizes.pages) (by_place g.L.Law.opening sizes.pages) c.args.leaf c.args.left p q r c.in-Ok.ensures.taken t page in
    let right : c.right_of-right.result ≡ r.right = c.right_of-right.ensures link.image link.there ∙ link.right_is in
    let last = leaf_last sizes (g.L.Law.lawful sizes.pages) (by_place g.L.Law.opening sizes.pages) c.args.leaf c.args.left p q r c.in-Ok.ensures.taken t page in
    let held : List ℕ = (r.held ++ beside c.args.left) ++ c.args.leaf ∷ [] in
    let refused = subst (λ (s : Sizes). (held more : List ℕ) → WillTake s (g.L.Law.lawful s.pages) (by_place g.L.Law.opening s.pages) held (beside c.right_of-right.result ++ more) t → IsRefusedBehind s (g.L.Law.lawful s.pages) (by_place g.L.Law.opening s.pages) held (beside c.right_of-right.result) f t u)
    (ap (λ m. m.now.sizes) (c.try_take_page.ensures.still.latches ∙ c.try_take_beside.ensures.still.latches)) c.in-Err-try_take_beside.ensures.refused in
    let v = subst (λ n. (held more : List ℕ) → WillTake sizes (g.L.Law.lawful sizes.pages) (by_place g.L.Law.opening sizes.pages) held (beside n ++ more) t → IsRefusedBehind sizes (g.L.Law.lawful sizes.pages) (by_place g.L.Law.opening sizes.pages) held (beside n) f t u) right refused in
    let w = (v held [] (subst (λ ps. WillTake sizes (g.L.Law.lawful sizes.pages) (by_place g.L.Law.opening sizes.pages) held ps t) (sym (append-nil (beside r.right))) last)).refused in
    let both = more_both sizes (g.L.Law.lawful sizes.pages) (by_place g.L.Law.opening sizes.pages) r.held (beside c.args.left) (c.args.leaf ∷ []) p q t one two in
    let a = length-append (beside c.args.left) (c.args.leaf ∷ []) in let b = length-append (beside c.args.left) (c.args.leaf ∷ beside r.right) in
    refused_behind sizes (g.L.Law.lawful sizes.pages) (by_place g.L.Law.opening sizes.pages) r.held (beside c.args.left ++ c.args.leaf ∷ []) (beside r.right) (beside c.args.left ++ c.args.leaf ∷ beside r.right) f p t u both
    (few_both 0 p.view q.view t.view c.in-Ok.ensures.few c.in-Ok-try_take_page.ensures.few)
    (λ n is. among_right (beside c.args.left) (c.args.leaf ∷ beside r.right) n (among_right (c.args.leaf ∷ []) (beside r.right) n is)) (omega arith) w
