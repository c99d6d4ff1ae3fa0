use Rattle.std.proofs.Common.{◌≡◌, ◌∙◌, sym, ap, arith, true, false, nat_eq, ℕ, Bool, ◌-◌, Some, Option}
use Rattle.std.proofs.lemmas.Bool.{eq-eqb}
use Rattle.ib_walk.specs.Pages.{PageState, PageMemory}
use Rattle.ib_walk.specs.Walk.{children_of}
use Rattle.ib_walk.specs.Words.{memory_of}
use Rattle.ib_validate.specs.PatchTest.{Position, Positions, attach, visit_of}
use Rattle.ib_validate.specs.Positions.{IsStep, end_of, is_good_at, is_good_page, marks_of, position_if, position_in, positions_of}
use Rattle.ib_validate.proofs.MemoryLaws.{memory_of-page}
use Rattle.ib_validate.proofs.StepLaws.{visit_at-bad, visit_at-leaf, visit_at-node, step-by}
use Rattle.ib_validate.proofs.visit.visit_page.Goals as goal

good-read : (m : PageMemory) (h page : ℕ) (p : PageState) (e : Position) (b c : Bool) → m page ≡ p → e.height ≡ h → b ≡ is_good_page p e.height e.low e.high → b ≡ c → is_good_at m h (visit_of page e) ≡ c
good-read m h page p e b c at height is same =
    ap (λ (q : PageState). is_good_page q h e.low e.high) at ∙ (ap (λ (k : ℕ). is_good_page p k e.low e.high) (sym height) ∙ (sym is ∙ same))

step-some : (o : Option Positions) (b : Bool) (t : Positions) → o ≡ Some t → b ≡ true → IsStep o b t
step-some o true t e h = e
step-some o false t e h = absurd (let x = h in cc)

pub returns-then-not-is_good : goal.returns-then-not-is_good
returns-then-not-is_good c =
    let lt = c.requires.in_range in
    let size = c.requires.images in
    let m = memory_of c.args.after.now in
    let page = memory_of-page c.args.after.now c.args.page c.page-image.result (omega arith) c.page-image.ensures c.is_good.ensures.size in
    visit_at-bad (marks_of c.args.written.now) (positions_of c.args.old.now) m (is_good_at m) c.args.height c.args.page (positions_of c.args.table.now) (positions_of c.args.table.now c.args.page) (position_in c.in-Some.position)
    (sym c.position_at.ensures ∙ ap position_if c.in-Some.is) c.if-position-height.false
    (good-read m c.args.height c.args.page _ (position_in c.in-Some.position) c.is_good.result false page c.if-position-height.false c.is_good.ensures.good c.if-not-is_good.true)

pub returns-then-height-eq0 : goal.returns-then-height-eq0
returns-then-height-eq0 c =
    let lt = c.requires.in_range in
    let size = c.requires.images in
    let m = memory_of c.args.after.now in
    let page = memory_of-page c.args.after.now c.args.page c.page-image.result (omega arith) c.page-image.ensures c.is_good.ensures.size in
    step-some _ (nat_eq c.args.height 0) (positions_of c.args.table.now)
    (visit_at-leaf (marks_of c.args.written.now) (positions_of c.args.old.now) m (is_good_at m) c.args.height c.args.page (positions_of c.args.table.now) (positions_of c.args.table.now c.args.page) (position_in c.in-Some.position)
    (sym c.position_at.ensures ∙ ap position_if c.in-Some.is) c.if-position-height.false
    (good-read m c.args.height c.args.page _ (position_in c.in-Some.position) c.is_good.result true page c.if-position-height.false c.is_good.ensures.good c.if-not-is_good.false)
    c.if-height-eq0.true)
    (eq-eqb c.args.height 0 c.if-height-eq0.true)

pub returns-else-height-eq0 : goal.returns-else-height-eq0
returns-else-height-eq0 c =
    let lt = c.requires.in_range in
    let size = c.requires.images in
    let node = c.if-height-eq0.false in
    let height = c.if-position-height.false in
    let m = memory_of c.args.after.now in
    let page = memory_of-page c.args.after.now c.args.page c.page-image.result (omega arith) c.page-image.ensures c.is_good.ensures.size in
    step-by _ _ c.attach_children.result (positions_of c.attach_children.new.table)
    (visit_at-node (marks_of c.args.written.now) (positions_of c.args.old.now) m (is_good_at m) c.args.height c.args.page (positions_of c.args.table.now) (positions_of c.args.table.now c.args.page) (position_in c.in-Some.position)
    (sym c.position_at.ensures ∙ ap position_if c.in-Some.is) height
    (good-read m c.args.height c.args.page _ (position_in c.in-Some.position) c.is_good.result true page height c.is_good.ensures.good c.if-not-is_good.false)
    (omega arith)
    ∙ (ap (λ (k : ℕ). attach (marks_of c.args.written.now) (positions_of c.args.old.now) c.in-Some.position.tree (k - 1) (children_of (m c.args.page).records (end_of c.in-Some.position.high)) (positions_of c.args.table.now)) (sym height)
    ∙ ap (λ (p : PageState). attach (marks_of c.args.written.now) (positions_of c.args.old.now) c.in-Some.position.tree (c.in-Some.position.height - 1) (children_of p.records (end_of c.in-Some.position.high)) (positions_of c.args.table.now)) page))
    c.attach_children.ensures.table
