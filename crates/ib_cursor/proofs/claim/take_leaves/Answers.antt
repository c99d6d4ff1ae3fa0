-- The leaf before, the leaf, and the leaf behind.
use Rattle.std.proofs.Common.{◌≡◌, ◌∙◌, ◌∷◌, ◌++◌, ◌<◌, List, [], ℕ, ap, sym, subst, arith, append-nil}
use Rattle.ib_layout.specs.Geometry.{Sizes}
use Rattle.ib_logrec.specs.Log.{by_place}
use Rattle.ib_rule.specs.Pass.{PassState}
use Rattle.ib_rule.specs.Under.{under}
use Rattle.ib_cursor.specs.Claims.{beside}
use Rattle.ib_cursor.specs.Takings.{WillTake, CanTakePage, HasTakenMore, HasTakenPage, MayTakeFirst, MayTakeLeaves, TakesFirst}
use Rattle.ib_cursor.proofs.ClaimLaws.{keeps_both}
use Rattle.ib_cursor.proofs.TakeLaws.{IsRightLink, more_one, more_both, can_first, will_rest, right_link, among_last, beside_few}
use Rattle.ib_cursor.proofs.claim.take_leaves.Given.{Over}
use Rattle.ib_cursor.proofs.claim.take_leaves.Goals.{After-take_beside, After-take_page}
use Rattle.ib_cursor.proofs.claim.take_leaves.Goals as goal

-- the leaf before is taken, and the leaf may be
first : (g : Over) (c : After-take_beside g) (r : under g.L.Law c.args.mtr.now.latches.now MayTakeLeaves c.args.leaf c.args.left c.args.mtr.now.pass.now) → under g.L.Law c.args.mtr.now.latches.now HasTakenMore r.held (beside c.args.left) c.args.mtr.now.pass.now c.take_beside.new.mtr.pass.now
    × under g.L.Law c.args.mtr.now.latches.now CanTakePage (r.held ++ beside c.args.left) c.args.leaf c.take_beside.new.mtr.pass.now × (c.args.leaf < c.args.mtr.now.latches.now.sizes.pages)
first g c r =
    let sizes : Sizes = c.args.mtr.now.latches.now.sizes in let p : PassState = c.args.mtr.now.pass.now in let q : PassState = c.take_beside.new.mtr.pass.now in
    let one = c.take_beside.ensures.taken r.held (c.args.leaf ∷ beside r.right) r.will in
    let will = will_rest sizes (g.L.Law.lawful sizes.pages) (by_place g.L.Law.opening sizes.pages) r.held (beside c.args.left) (c.args.leaf ∷ beside r.right) p q r.will one in
    let can = can_first sizes (g.L.Law.lawful sizes.pages) (by_place g.L.Law.opening sizes.pages) (r.held ++ beside c.args.left) c.args.leaf (beside r.right) q will in (one, can.0, can.1)

-- both are taken, and the leaf behind them may be, which the leaf names
second : (g : Over) (c : After-take_page g) (r : under g.L.Law c.args.mtr.now.latches.now MayTakeLeaves c.args.leaf c.args.left c.args.mtr.now.pass.now) → under g.L.Law c.args.mtr.now.latches.now HasTakenMore r.held (beside c.args.left) c.args.mtr.now.pass.now c.take_beside.new.mtr.pass.now
    × under g.L.Law c.args.mtr.now.latches.now HasTakenMore (r.held ++ beside c.args.left) (c.args.leaf ∷ []) c.take_beside.new.mtr.pass.now c.take_page.new.mtr.pass.now × under g.L.Law c.args.mtr.now.latches.now WillTake ((r.held ++ beside c.args.left) ++ c.args.leaf ∷ []) (beside r.right) c.take_page.new.mtr.pass.now
    × IsRightLink (by_place g.L.Law.opening c.args.mtr.now.latches.now.sizes.pages) c.take_page.new.mtr.pass.now c.args.leaf r.right
second g c r =
    let sizes : Sizes = c.args.mtr.now.latches.now.sizes in let p : PassState = c.args.mtr.now.pass.now in let q : PassState = c.take_beside.new.mtr.pass.now in let t : PassState = c.take_page.new.mtr.pass.now in
    let one = c.take_beside.ensures.taken r.held (c.args.leaf ∷ beside r.right) r.will in
    let will = will_rest sizes (g.L.Law.lawful sizes.pages) (by_place g.L.Law.opening sizes.pages) r.held (beside c.args.left) (c.args.leaf ∷ beside r.right) p q r.will one in
    let page = subst (λ (s : Sizes). (held : List ℕ) → CanTakePage s (g.L.Law.lawful s.pages) (by_place g.L.Law.opening s.pages) held c.args.leaf q → HasTakenPage s (g.L.Law.lawful s.pages) (by_place g.L.Law.opening s.pages) held c.args.leaf q t)
    (ap (λ m. m.now.sizes) c.take_beside.ensures.still.latches) c.take_page.ensures.taken (r.held ++ beside c.args.left) (can_first sizes (g.L.Law.lawful sizes.pages) (by_place g.L.Law.opening sizes.pages) (r.held ++ beside c.args.left) c.args.leaf (beside r.right) q will).0 in
    let two = more_one sizes (g.L.Law.lawful sizes.pages) (by_place g.L.Law.opening sizes.pages) (r.held ++ beside c.args.left) c.args.leaf q t page in
    let names = r.names t page.holds.known (keeps_both p q t one.keeps page.keeps) in (
      one,
      two,
      will_rest sizes (g.L.Law.lawful sizes.pages) (by_place g.L.Law.opening sizes.pages) (r.held ++ beside c.args.left) (c.args.leaf ∷ []) (beside r.right) q t will two,
      right_link sizes (g.L.Law.lawful sizes.pages) (by_place g.L.Law.opening sizes.pages) ((r.held ++ beside c.args.left) ++ c.args.leaf ∷ []) c.args.leaf r.right t page.holds (among_last (r.held ++ beside c.args.left) c.args.leaf) names.0 names.1,
    )

pub take_beside-requires-clause-ready : goal.take_beside-requires-clause-ready
take_beside-requires-clause-ready g c = let r = c.requires.ready in (r.held, c.args.leaf ∷ beside r.right, r.will)

pub take_page-requires-clause-page : goal.take_page-requires-clause-page
take_page-requires-clause-page g c =
    let so = first g (goal.at.take_page-requires-clause-page g c).After-take_beside c.requires.ready in
    subst (λ (s : Sizes). c.args.leaf < s.pages) (sym (ap (λ m. m.now.sizes) c.take_beside.ensures.still.latches)) so.2

pub take_page-requires-clause-room : goal.take_page-requires-clause-room
take_page-requires-clause-room g c =
    let so = first g (goal.at.take_page-requires-clause-room g c).After-take_beside c.requires.ready in
    let room = c.requires.room in let a = so.0.s in let b = so.0.sx in let d = so.0.x in let f = beside_few c.args.left in omega arith

pub take_page-requires-clause-holds : goal.take_page-requires-clause-holds
take_page-requires-clause-holds g c =
    let so = first g (goal.at.take_page-requires-clause-holds g c).After-take_beside c.requires.ready in let q : PassState = c.take_beside.new.mtr.pass.now in
    subst (λ (s : Sizes). (held : List ℕ) × CanTakePage s (g.L.Law.lawful s.pages) (by_place g.L.Law.opening s.pages) held c.args.leaf q) (sym (ap (λ m. m.now.sizes) c.take_beside.ensures.still.latches)) (c.requires.ready.held ++ beside c.args.left, so.1)

pub right_of-right-requires-clause-loaded : goal.right_of-right-requires-clause-loaded
right_of-right-requires-clause-loaded g c =
    let so = second g (goal.at.right_of-right-requires-clause-loaded g c).After-take_page c.requires.ready in (so.3.image, so.3.there, so.3.formed)

pub take_beside-requires-2-clause-room : goal.take_beside-requires-2-clause-room
take_beside-requires-2-clause-room g c =
    let so = second g (goal.at.take_beside-requires-2-clause-room g c).After-take_page c.requires.ready in let one = so.0 in let two = so.1 in
    let room = c.requires.room in let a = one.s in let b = one.sx in let d = one.x in let f = beside_few c.args.left in let a2 = two.s in let b2 = two.sx in let d2 = two.x in omega arith

pub take_beside-requires-2-clause-ready : goal.take_beside-requires-2-clause-ready
take_beside-requires-2-clause-ready g c =
    let r = c.requires.ready in let so = second g (goal.at.take_beside-requires-2-clause-ready g c).After-take_page r in
    let sizes : Sizes = c.args.mtr.now.latches.now.sizes in let t : PassState = c.take_page.new.mtr.pass.now in let held : List ℕ = (r.held ++ beside c.args.left) ++ c.args.leaf ∷ [] in
    let right : c.right_of-right.result ≡ r.right = c.right_of-right.ensures so.3.image so.3.there ∙ so.3.right_is in
    let will = subst (λ n. WillTake sizes (g.L.Law.lawful sizes.pages) (by_place g.L.Law.opening sizes.pages) held (beside n ++ []) t) (sym right) (subst (λ ps. WillTake sizes (g.L.Law.lawful sizes.pages) (by_place g.L.Law.opening sizes.pages) held ps t) (sym (append-nil (beside r.right))) so.2) in
    subst (λ (s : Sizes). MayTakeFirst s (g.L.Law.lawful s.pages) (by_place g.L.Law.opening s.pages) (beside c.right_of-right.result) t) (sym (ap (λ m. m.now.sizes) (c.take_page.ensures.still.latches ∙ c.take_beside.ensures.still.latches))) (held, [], will)

pub returns-clause-taken : goal.returns-clause-taken
returns-clause-taken g c = λ r.
    let so = second g (goal.at.returns-clause-taken g c).After-take_page r in
    let sizes : Sizes = c.args.mtr.now.latches.now.sizes in let p : PassState = c.args.mtr.now.pass.now in let q : PassState = c.take_beside.new.mtr.pass.now in let t : PassState = c.take_page.new.mtr.pass.now in let u : PassState = c.take_beside-2.new.mtr.pass.now in let held : List ℕ = (r.held ++ beside c.args.left) ++ c.args.leaf ∷ [] in
    let right : c.right_of-right.result ≡ r.right = c.right_of-right.ensures so.3.image so.3.there ∙ so.3.right_is in
    let will = subst (λ n. WillTake sizes (g.L.Law.lawful sizes.pages) (by_place g.L.Law.opening sizes.pages) held (beside n ++ []) t) (sym right) (subst (λ ps. WillTake sizes (g.L.Law.lawful sizes.pages) (by_place g.L.Law.opening sizes.pages) held ps t) (sym (append-nil (beside r.right))) so.2) in
    let last = subst (λ (s : Sizes). TakesFirst s (g.L.Law.lawful s.pages) (by_place g.L.Law.opening s.pages) (beside c.right_of-right.result) t u) (ap (λ m. m.now.sizes) (c.take_page.ensures.still.latches ∙ c.take_beside.ensures.still.latches)) c.take_beside-2.ensures.taken held [] will in
    let three = subst (λ n. HasTakenMore sizes (g.L.Law.lawful sizes.pages) (by_place g.L.Law.opening sizes.pages) held (beside n) t u) right last in
    more_both sizes (g.L.Law.lawful sizes.pages) (by_place g.L.Law.opening sizes.pages) r.held (beside c.args.left) (c.args.leaf ∷ beside r.right) p q u so.0 (more_both sizes (g.L.Law.lawful sizes.pages) (by_place g.L.Law.opening sizes.pages) (r.held ++ beside c.args.left) (c.args.leaf ∷ []) (beside r.right) q t u so.1 three)
