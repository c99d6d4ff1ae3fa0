-- The page is taken, and then loaded.
use Rattle.std.proofs.Common.{◌≡◌, ◌<◌, ◌+◌, ◌∙◌, [], true, ap, arith, subst, sym}
use Rattle.ib_map.specs.Space.{has_pages}
use Rattle.ib_layout.specs.Geometry.{Sizes}
use Rattle.ib_levels.specs.declared.latch.Latch.{Latch}
use Rattle.ib_levels.specs.declared.level.Level.TheVariants.{TreeNode}
use Rattle.ib_levels.specs.declared.level.Mode.TheVariants.{S}
use Rattle.ib_logrec.specs.Log.{by_place}
use Rattle.ib_page.specs.Work.{changed_of}
use Rattle.ib_rule.specs.Pass.{PassState}
use Rattle.ib_rule.specs.Takes.{MayTake}
use Rattle.ib_cursor.specs.Descent.{HasPage}
use Rattle.ib_cursor.specs.Going.{HasSeen}
use Rattle.ib_cursor.specs.Grants.{HasTaken}
use Rattle.ib_cursor.proofs.GrantLaws.{can_wish, may_grow, none_granted}
use Rattle.ib_cursor.proofs.PageLaws.{few_pages, has_told}
use Rattle.ib_cursor.proofs.PositionLaws.{loaded_alone}
use Rattle.ib_cursor.proofs.position.load_alone.Goals as goal

pub page-requires : goal.page-requires
page-requires g c =
    let sizes : Sizes = c.args.mtr.now.latches.now.sizes in
    let has : has_pages sizes.pages ≡ true = has_told c.geometry.ensures c.pages.ensures.pages c.pages.ensures.in_range in
    few_pages sizes.pages c.args.page has c.requires.inside

pub take-requires-clause-may : goal.take-requires-clause-may
take-requires-clause-may g c =
    let space = c.args.mtr.now.latches.now in let p : PassState = c.args.mtr.now.pass.now in
    let idle = none_granted space p c.requires.mtr c.requires.memo in
    subst (λ (l : Latch). MayTake space l.0 TreeNode p) (sym c.page.ensures)
    (record { own = c.requires.mtr.own; latch = let low = c.requires.inside in omega arith; grows = may_grow [] p idle c.requires.room (omega arith); may = can_wish [] p idle (c.args.page + 2) TreeNode tt tt })

pub read-requires-clause-page : goal.read-requires-clause-page
read-requires-clause-page g c = subst (λ (s : Sizes). c.args.page < s.pages) (sym (ap (λ m. m.now.sizes) c.take.ensures.still.latches)) c.requires.inside

pub read-requires-clause-absent : goal.read-requires-clause-absent
read-requires-clause-absent g c = ap (λ (r : PassState). changed_of c.args.page r.work) c.take.ensures.taken.pass ∙ ap (changed_of c.args.page) c.requires.none

pub returns-clause-loaded : goal.returns-clause-loaded
returns-clause-loaded g c =
    let space = c.args.mtr.now.latches.now in let sizes : Sizes = space.sizes in
    let p : PassState = c.args.mtr.now.pass.now in let q : PassState = c.take.new.mtr.pass.now in let s : PassState = c.read.new.mtr.pass.now in
    let taken = subst (λ (l : Latch). HasTaken (record { latch = l.0; mode = S; level = TreeNode }) p q) c.page.ensures c.take.ensures.taken in
    let same = ap (λ m. m.now.sizes) c.take.ensures.still.latches in
    let r = c.read.ensures in
    loaded_alone sizes (g.L.Law.lawful sizes.pages) (by_place g.L.Law.opening sizes.pages) c.args.page p q s (none_granted space p c.requires.mtr c.requires.memo) c.requires.none taken
    (subst (λ (k : Sizes). HasSeen k (g.L.Law.lawful k.pages) q s) same r.looked_on.seen) r.memo r.session r.grants (subst (λ (k : Sizes). HasPage (by_place g.L.Law.opening k.pages) c.args.page q s) same r.loaded)
