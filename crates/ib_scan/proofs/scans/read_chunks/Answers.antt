-- A whole scan, from its start to its end.
use Rattle.std.proofs.Common.{rules, get_or, ◌-◌, ◌∙◌, ℕ, false, sym, ap, subst, arith}
use Rattle.ib_layout.specs.Geometry.{Sizes}
use Rattle.ib_logrec.specs.Log.{by_place}
use Rattle.ib_rule.specs.Pass.{PassState}
use Rattle.ib_mtr.specs.Mtr.{started}
use Rattle.ib_cursor.specs.Descent.{HasDescended}
use Rattle.ib_cursor.specs.Laws.{Laws}
use Rattle.ib_scan.specs.Steps.{IsScannedTo}
use Rattle.ib_scan.proofs.LeaveLaws.{last_step}
use Rattle.ib_scan.proofs.WholeLaws.{HasRunBy, begins, begun, descent_least, leaf_left, scanned_by, took_two, path_last}
use Rattle.ib_scan.proofs.scans.read_chunks.Given.{Over}
use Rattle.ib_scan.proofs.scans.read_chunks.Goals.{After-descend_at-path}
use Rattle.ib_scan.proofs.scans.read_chunks.Goals as goal

-- the descent, from the pass as the caller sees it
down : (g : Over) (c : After-descend_at-path g)
    → HasDescended c.args.latches.now.sizes (g.L.Law.lawful c.args.latches.now.sizes.pages) (by_place g.L.Law.opening c.args.latches.now.sizes.pages) c.args.sought.root c.args.sought.low false
    c.descend_at-path.result (started c.args.pass.now) c.descend_at-path.new.mtr.pass.now
down g c =
    let sizes : Sizes = c.args.latches.now.sizes in let q : PassState = c.descend_at-path.new.mtr.pass.now in
    let first = ap (λ l. l.now.sizes) c.start-mtr.ensures.latches in
    let on = subst (λ (k : Sizes). HasDescended k (g.L.Law.lawful k.pages) (by_place g.L.Law.opening k.pages) c.args.sought.root c.args.sought.low false c.descend_at-path.result c.start-mtr.result.pass.now q) first c.descend_at-path.ensures.descended in
    subst (λ (s : PassState). HasDescended sizes (g.L.Law.lawful sizes.pages) (by_place g.L.Law.opening sizes.pages) c.args.sought.root c.args.sought.low false c.descend_at-path.result s q) c.start-mtr.ensures.started on

pub scan_from-stop-requires-clause-begins : goal.scan_from-stop-requires-clause-begins
scan_from-stop-requires-clause-begins g c =
    let sizes : Sizes = c.args.latches.now.sizes in let p : PassState = c.args.pass.now in let q : PassState = c.descend_at-path.new.mtr.pass.now in
    let first = ap (λ l. l.now.sizes) c.start-mtr.ensures.latches in
    let same = ap (λ m. m.now.sizes) c.descend_at-path.ensures.still.latches ∙ first in
    let laws = subst (λ (k : Sizes). Laws k.pages g.L.Trees.ROOTS (g.L.Law.lawful k.pages) (by_place g.L.Law.opening k.pages)) first c.facts_of_trees.ensures.laws in
    let d = down g (goal.at.scan_from-stop-requires-clause-begins g c).After-descend_at-path in
    let b = begun sizes g.L.Trees.ROOTS (g.L.Law.lawful sizes.pages) (by_place g.L.Law.opening sizes.pages) laws c.args.sought.root c.requires.sought.some c.requires.sought.there c.args.sought.low c.requires.sought.is_key c.descend_at-path.result (started p) q d in
    let at = begins sizes g.L.Trees.ROOTS (g.L.Law.lawful sizes.pages) (by_place g.L.Law.opening sizes.pages) c.args.sought.root c.args.sought.low c.args.sought.high c.requires.ascends c.args.out.now d.reached.leaf (started p) q b (let room = c.requires.may.room in omega arith) in
    let last = ap (λ ps. get_or ps (c.len.result - 1) 0) c.pages.ensures.pages ∙ path_last c.descend_at-path.result d.reached.front d.reached.leaf c.len.result d.reached.ends c.len.ensures.count in
    let there = subst (λ (k : Sizes). IsScannedTo k (g.L.Law.lawful k.pages) (by_place g.L.Law.opening k.pages) g.L.Trees.ROOTS c.args.sought.root d.reached.leaf d.reached.leaf c.args.sought.low c.args.sought.low c.args.sought.high c.args.out.now c.args.out.now q q) (sym same) at in
    let now : Sizes = c.descend_at-path.new.mtr.latches.now.sizes in
    subst (λ (n : ℕ). IsScannedTo now (g.L.Law.lawful now.pages) (by_place g.L.Law.opening now.pages) g.L.Trees.ROOTS c.args.sought.root n n c.args.sought.low c.args.sought.low c.args.sought.high c.args.out.now c.args.out.now q q) (sym last) there

pub returns-clause-scanned : goal.returns-clause-scanned
returns-clause-scanned g c =
    let sizes : Sizes = c.args.latches.now.sizes in let p : PassState = c.args.pass.now in let q : PassState = c.descend_at-path.new.mtr.pass.now in
    let r : PassState = c.scan_from-stop.new.mtr.pass.now in let s : PassState = c.release_at.new.self.pass.now in
    let first = ap (λ l. l.now.sizes) c.start-mtr.ensures.latches in
    let same = ap (λ m. m.now.sizes) c.descend_at-path.ensures.still.latches ∙ first in
    let laws = subst (λ (k : Sizes). Laws k.pages g.L.Trees.ROOTS (g.L.Law.lawful k.pages) (by_place g.L.Law.opening k.pages)) first c.facts_of_trees.ensures.laws in
    let d = down g (goal.at.returns-clause-scanned g c).After-descend_at-path in
    let last = ap (λ ps. get_or ps (c.len.result - 1) 0) c.pages.ensures.pages ∙ path_last c.descend_at-path.result d.reached.front d.reached.leaf c.len.result d.reached.ends c.len.ensures.count in
    let b = begun sizes g.L.Trees.ROOTS (g.L.Law.lawful sizes.pages) (by_place g.L.Law.opening sizes.pages) laws c.args.sought.root c.requires.sought.some c.requires.sought.there c.args.sought.low c.requires.sought.is_key c.descend_at-path.result (started p) q d in
    let ran = subst (λ (k : Sizes). HasRunBy k (g.L.Law.lawful k.pages) (by_place g.L.Law.opening k.pages) g.L.Trees.ROOTS c.args.sought.root (get_or c.pages.result.now (c.len.result - 1) 0) c.args.sought.low c.args.sought.high c.args.out.now c.scan_from-stop.new.out q r c.scan_from-stop.result) same c.scan_from-stop.ensures.scanned in
    let here = subst (λ (n : ℕ). HasRunBy sizes (g.L.Law.lawful sizes.pages) (by_place g.L.Law.opening sizes.pages) g.L.Trees.ROOTS c.args.sought.root n c.args.sought.low c.args.sought.high c.args.out.now c.scan_from-stop.new.out q r c.scan_from-stop.result) last ran in
    let h = leaf_left sizes (g.L.Law.lawful sizes.pages) (by_place g.L.Law.opening sizes.pages) g.L.Trees.ROOTS c.args.sought.root d.reached.leaf c.args.sought.low c.args.sought.high c.args.out.now c.scan_from-stop.new.out q r c.scan_from-stop.result here in
    let left = last_step h.front.leaf h.front.image r s h.front.front c.release_at.ensures.released in
    scanned_by sizes (g.L.Law.lawful sizes.pages) (by_place g.L.Law.opening sizes.pages) g.L.Trees.ROOTS c.args.sought.root c.args.sought.low c.args.sought.high d.reached.leaf c.args.out.now c.scan_from-stop.new.out p q r s _ b left.aside
    (search rules ∙ c.finish.ensures.finished) c.scan_from-stop.result here

pub returns-clause-least : goal.returns-clause-least
returns-clause-least g c =
    let sizes : Sizes = c.args.latches.now.sizes in let p : PassState = c.args.pass.now in let q : PassState = c.descend_at-path.new.mtr.pass.now in
    let r : PassState = c.scan_from-stop.new.mtr.pass.now in let s : PassState = c.release_at.new.self.pass.now in
    let same = ap (λ m. m.now.sizes) c.descend_at-path.ensures.still.latches ∙ ap (λ l. l.now.sizes) c.start-mtr.ensures.latches in
    let d = down g (goal.at.returns-clause-least g c).After-descend_at-path in
    let ran = subst (λ (k : Sizes). HasRunBy k (g.L.Law.lawful k.pages) (by_place g.L.Law.opening k.pages) g.L.Trees.ROOTS c.args.sought.root (get_or c.pages.result.now (c.len.result - 1) 0) c.args.sought.low c.args.sought.high c.args.out.now c.scan_from-stop.new.out q r c.scan_from-stop.result) same c.scan_from-stop.ensures.scanned in
    let h = leaf_left sizes (g.L.Law.lawful sizes.pages) (by_place g.L.Law.opening sizes.pages) g.L.Trees.ROOTS c.args.sought.root (get_or c.pages.result.now (c.len.result - 1) 0) c.args.sought.low c.args.sought.high c.args.out.now c.scan_from-stop.new.out q r c.scan_from-stop.result ran in
    let left = last_step h.front.leaf h.front.image r s h.front.front c.release_at.ensures.released in
    let two = descent_least sizes (g.L.Law.lawful sizes.pages) (by_place g.L.Law.opening sizes.pages) c.args.sought.root c.args.sought.low c.descend_at-path.result (started p) q d in
    took_two p q r s _ two h.least left.aside (search rules ∙ c.finish.ensures.finished)
