-- The next leaf is taken and loaded, and then the old one given up.
use Rattle.std.proofs.Common.{◌≡◌, ◌≢◌, ◌<◌, ◌+◌, ◌∷◌, [], ◌∙◌, ℕ, true, length, sym, ap, subst, arith, length-append}
use Rattle.ib_map.specs.Space.{has_pages}
use Rattle.ib_levels.specs.declared.latch.Latch.{Latch}
use Rattle.ib_levels.specs.declared.level.Level.TheVariants.{TreeNode}
use Rattle.ib_levels.specs.declared.level.Mode.TheVariants.{S}
use Rattle.ib_layout.specs.Geometry.{Sizes}
use Rattle.ib_page.specs.Image.{next_of}
use Rattle.ib_page.specs.Work.{changed_of}
use Rattle.ib_logrec.specs.Log.{by_place}
use Rattle.ib_rule.specs.Pass.{PassState}
use Rattle.ib_rule.specs.Takes.{MayTake}
use Rattle.ib_rule.specs.Under.{under}
use Rattle.ib_mtr.specs.Mtr.{IsReleasedAt}
use Rattle.ib_cursor.specs.Laws.{Laws}
use Rattle.ib_cursor.specs.Grants.{memo_of, page_grant, HasTaken}
use Rattle.ib_cursor.specs.Going.{HasSeen}
use Rattle.ib_cursor.specs.Descent.{HasPage}
use Rattle.ib_cursor.specs.Nexts.{HeldLeaf, HoldsNext}
use Rattle.ib_cursor.proofs.PageLaws.{few_pages, has_told}
use Rattle.ib_cursor.proofs.LogLaws.{laws_under}
use Rattle.ib_cursor.proofs.NextLaws.{held_formed, held_inside, next_inside, next_other, absent_in, there_in, last_there, place_is, memo_length, stepped}
use Rattle.ib_cursor.proofs.next.next_leaf.Given.{Over}
use Rattle.ib_cursor.proofs.next.next_leaf.Goals.{After-right_of-next}
use Rattle.ib_cursor.proofs.next.next_leaf.Goals as goal

-- the laws of trees, and which leaf the link names
known : (g : Over) (c : After-right_of-next g) (h : under g.L.Law c.args.mtr.now.latches.now HeldLeaf g.L.Trees.ROOTS c.args.leaf c.args.mtr.now.pass.now) → (has_pages c.args.mtr.now.latches.now.sizes.pages ≡ true)
    × Laws c.args.mtr.now.latches.now.sizes.pages g.L.Trees.ROOTS (g.L.Law.lawful c.args.mtr.now.latches.now.sizes.pages) (by_place g.L.Law.opening c.args.mtr.now.latches.now.sizes.pages)
    × (c.right_of-next.result ≡ next_of h.image)
known g c h =
    let sizes : Sizes = c.args.mtr.now.latches.now.sizes in
    let has : has_pages sizes.pages ≡ true = has_told c.geometry.ensures c.pages.ensures.pages c.pages.ensures.in_range in
    let laws = laws_under g.L.Law g.L.Trees.ROOTS sizes.pages has g.met.L.Law.begins c.trees_law.ensures.memory g.met.L.Law.stays c.trees_law.ensures.range in
    (has, laws, c.right_of-next.ensures h.image (ap (changed_of c.args.leaf) h.holds.work ∙ there_in c.args.leaf h.image))

pub right_of-next-requires-clause-loaded : goal.right_of-next-requires-clause-loaded
right_of-next-requires-clause-loaded g c =
    let sizes : Sizes = c.args.mtr.now.latches.now.sizes in
    let has : has_pages sizes.pages ≡ true = has_told c.geometry.ensures c.pages.ensures.pages c.pages.ensures.in_range in
    let laws = laws_under g.L.Law g.L.Trees.ROOTS sizes.pages has g.met.L.Law.begins c.trees_law.ensures.memory g.met.L.Law.stays c.trees_law.ensures.range in
    let p : PassState = c.args.mtr.now.pass.now in
    let h = c.requires.held in
    (h.image, ap (changed_of c.args.leaf) h.holds.work ∙ there_in c.args.leaf h.image, held_formed sizes g.L.Trees.ROOTS (g.L.Law.lawful sizes.pages) (by_place g.L.Law.opening sizes.pages) laws h.front c.args.leaf h.image h.range p h.holds)

pub page-requires : goal.page-requires
page-requires g c =
    let sizes : Sizes = c.args.mtr.now.latches.now.sizes in
    let p : PassState = c.args.mtr.now.pass.now in
    let h = c.requires.held in let so = known g (goal.at.page-requires g c).After-right_of-next h in let laws = so.1 in let has = so.0 in
    few_pages sizes.pages c.args.leaf has (held_inside sizes g.L.Trees.ROOTS (g.L.Law.lawful sizes.pages) (by_place g.L.Law.opening sizes.pages) laws h.front c.args.leaf h.image h.range p h.holds)

pub unwrap-at-requires : goal.unwrap-at-requires
unwrap-at-requires g c =
    let h = c.requires.held in
    last_there c.position.result c.page.result c.args.mtr.now.pass.now.memo h.front (page_grant c.args.leaf S) h.holds.grants.memo c.page.ensures c.position.ensures

pub page-requires-2 : goal.page-requires-2
page-requires-2 g c =
    let sizes : Sizes = c.args.mtr.now.latches.now.sizes in
    let p : PassState = c.args.mtr.now.pass.now in
    let h = c.requires.held in let so = known g (goal.at.page-requires-2 g c).After-right_of-next h in let laws = so.1 in let link = so.2 in let has = so.0 in
    let some : next_of h.image ≢ 0 = λ z. c.if-next-eq0.false (link ∙ z) in
    few_pages sizes.pages c.right_of-next.result has (subst (λ (n : ℕ). n < sizes.pages) (sym link) (next_inside sizes g.L.Trees.ROOTS (g.L.Law.lawful sizes.pages) (by_place g.L.Law.opening sizes.pages) laws h.front c.args.leaf h.image h.range p h.holds some))

pub take-requires-clause-may : goal.take-requires-clause-may
take-requires-clause-may g c =
    let sizes : Sizes = c.args.mtr.now.latches.now.sizes in
    let p : PassState = c.args.mtr.now.pass.now in
    let h = c.requires.held in let so = known g (goal.at.take-requires-clause-may g c).After-right_of-next h in let laws = so.1 in let link = so.2 in
    let some : next_of h.image ≢ 0 = λ z. c.if-next-eq0.false (link ∙ z) in
    let inside = next_inside sizes g.L.Trees.ROOTS (g.L.Law.lawful sizes.pages) (by_place g.L.Law.opening sizes.pages) laws h.front c.args.leaf h.image h.range p h.holds some in
    subst (λ (l : Latch). MayTake c.args.mtr.now.latches.now l.0 TreeNode p) (sym (c.page-2.ensures ∙ ap (λ (n : ℕ). let l : Latch = record { 0 = n + 2 } in l) link))
    (record { own = c.requires.mtr.own; latch = omega arith; grows = h.grows; may = h.may some })

pub read-requires-clause-page : goal.read-requires-clause-page
read-requires-clause-page g c =
    let sizes : Sizes = c.args.mtr.now.latches.now.sizes in
    let p : PassState = c.args.mtr.now.pass.now in
    let h = c.requires.held in let so = known g (goal.at.read-requires-clause-page g c).After-right_of-next h in let laws = so.1 in let link = so.2 in
    let some : next_of h.image ≢ 0 = λ z. c.if-next-eq0.false (link ∙ z) in
    subst (λ (s : Sizes). c.right_of-next.result < s.pages) (sym (ap (λ m. m.now.sizes) c.take.ensures.still.latches)) (subst (λ (n : ℕ). n < sizes.pages) (sym link) (next_inside sizes g.L.Trees.ROOTS (g.L.Law.lawful sizes.pages) (by_place g.L.Law.opening sizes.pages) laws h.front c.args.leaf h.image h.range p h.holds some))

pub read-requires-clause-absent : goal.read-requires-clause-absent
read-requires-clause-absent g c =
    let sizes : Sizes = c.args.mtr.now.latches.now.sizes in
    let p : PassState = c.args.mtr.now.pass.now in
    let h = c.requires.held in let so = known g (goal.at.read-requires-clause-absent g c).After-right_of-next h in let laws = so.1 in let link = so.2 in
    let some : next_of h.image ≢ 0 = λ z. c.if-next-eq0.false (link ∙ z) in
    let other = next_other sizes g.L.Trees.ROOTS (g.L.Law.lawful sizes.pages) (by_place g.L.Law.opening sizes.pages) laws h.front c.args.leaf h.image h.range p h.holds some (h.may some) in
    ap (λ (r : PassState). changed_of c.right_of-next.result r.work) c.take.ensures.taken.pass
    ∙ (ap (changed_of c.right_of-next.result) h.holds.work ∙ absent_in c.args.leaf c.right_of-next.result h.image (λ e. other (sym link ∙ e)))

pub release_at-requires-clause-at : goal.release_at-requires-clause-at
release_at-requires-clause-at g c =
    let h = c.requires.held in
    let at = place_is c.position.result c.unwrap-at.result c.page.result c.args.leaf c.args.mtr.now.pass.now.memo h.front h.holds.grants.memo c.page.ensures h.holds.once c.unwrap-at.ensures c.position.ensures in
    let one = ap (λ (r : PassState). length r.memo) c.take.ensures.taken.pass in
    let long = length-append c.args.mtr.now.pass.now.memo (memo_of (record { latch = c.page-2.result.0; mode = S; level = TreeNode }) ∷ []) in
    let all = ap length h.holds.grants.memo ∙ memo_length h.front (page_grant c.args.leaf S) in
    let same = ap length c.read.ensures.memo in omega arith

pub returns-clause-next : goal.returns-clause-next
returns-clause-next g c = λ h.
    let sizes : Sizes = c.args.mtr.now.latches.now.sizes in
    let p : PassState = c.args.mtr.now.pass.now in
    let so = known g (goal.at.returns-clause-next g c).After-right_of-next h in let laws = so.1 in let link = so.2 in
    let some : next_of h.image ≢ 0 = λ z. c.if-next-eq0.false (link ∙ z) in
    let q : PassState = c.take.new.mtr.pass.now in let s : PassState = c.read.new.mtr.pass.now in let t : PassState = c.release_at.new.self.pass.now in
    let at = place_is c.position.result c.unwrap-at.result c.page.result c.args.leaf c.args.mtr.now.pass.now.memo h.front h.holds.grants.memo c.page.ensures h.holds.once c.unwrap-at.ensures c.position.ensures in
    let same = ap (λ m. m.now.sizes) c.take.ensures.still.latches in
    let taken = subst (λ (l : Latch). HasTaken (record { latch = l.0; mode = S; level = TreeNode }) p q) (c.page-2.ensures ∙ ap (λ (n : ℕ). let l : Latch = record { 0 = n + 2 } in l) link) c.take.ensures.taken in
    let seen = subst (λ (k : Sizes). HasSeen k (g.L.Law.lawful k.pages) q s) same c.read.ensures.looked_on.seen in
    let page = subst (λ (n : ℕ). HasPage (by_place g.L.Law.opening sizes.pages) n q s) link (subst (λ (k : Sizes). HasPage (by_place g.L.Law.opening k.pages) c.right_of-next.result q s) same c.read.ensures.loaded) in
    subst (λ (n : ℕ). HoldsNext sizes (g.L.Law.lawful sizes.pages) (by_place g.L.Law.opening sizes.pages) g.L.Trees.ROOTS h.front c.args.leaf h.image h.range n p t) (sym link)
    (stepped sizes g.L.Trees.ROOTS (g.L.Law.lawful sizes.pages) (by_place g.L.Law.opening sizes.pages) laws h.front c.args.leaf h.image h.range p h.holds some (h.may some) q s t taken seen c.read.ensures.memo c.read.ensures.session c.read.ensures.grants page
    (subst (λ (n : ℕ). IsReleasedAt n s t) at c.release_at.ensures.released))
