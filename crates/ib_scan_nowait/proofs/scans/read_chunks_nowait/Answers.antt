-- A whole scan by tries, from its start to its end.
use Rattle.std.specs.Prelude.{IfErr, OnOk}
use Rattle.std.proofs.Common.{rules, get_or, ◌≡◌, ◌-◌, ◌+◌, ◌*◌, ◌≤◌, ◌∙◌, ℕ, false, refl, sym, ap, subst, arith}
use Rattle.ib_map.proofs.KeyLaws.{rank-lt_end}
use Rattle.ib_layout.specs.Geometry.{Sizes}
use Rattle.ib_logrec.specs.Log.{by_place}
use Rattle.ib_heap.specs.declared.TheConstants.{MOST_LEVEL}
use Rattle.ib_rule.specs.Pass.{PassState}
use Rattle.ib_mtr.specs.Mtr.{finished, started}
use Rattle.ib_cursor.specs.Contention.{IsContended}
use Rattle.ib_cursor.specs.Descent.{HasDescended}
use Rattle.ib_cursor.specs.Laws.{Laws}
use Rattle.ib_cursor.specs.Refusals.{AreFewLooks, looks_of}
use Rattle.ib_cursor.proofs.RefusalLaws.{without_work}
use Rattle.ib_scan.specs.Scans.{HasAll}
use Rattle.ib_scan.specs.Steps.{HasBegun, HasRunToEnd, IsScannedTo, TookTwo}
use Rattle.ib_scan.proofs.WholeLaws.{begins, begun, descent_least, path_last}
use Rattle.ib_scan_nowait.specs.declared.halt.Halt.{Halt}
use Rattle.ib_scan_nowait.specs.Halts.{HasHalted, IsRefusedScan}
use Rattle.ib_scan_nowait.specs.Steps.{HasRunTo}
use Rattle.ib_scan_nowait.proofs.EndLaws.{contended_scan, few_all, halted_so, scanned_all, two_all}
use Rattle.ib_scan_nowait.proofs.LookLaws.{given_all, if_err, on_ok}
use Rattle.ib_scan_nowait.proofs.scans.read_chunks_nowait.Given.{Over}
use Rattle.ib_scan_nowait.proofs.scans.read_chunks_nowait.Goals.{After-scan_from_nowait-ran, In-Ok}
use Rattle.ib_scan_nowait.proofs.scans.read_chunks_nowait.Goals as goal

-- the descent, from the pass as the caller sees it
down : (g : Over) (c : In-Ok g)
    → HasDescended c.args.latches.now.sizes (g.L.Law.lawful c.args.latches.now.sizes.pages) (by_place g.L.Law.opening c.args.latches.now.sizes.pages) 1 c.args.low false
    c.in-Ok.path (started c.args.pass.now) c.descend_nowait.new.mtr.pass.now
down g c =
    let sizes : Sizes = c.args.latches.now.sizes in let q : PassState = c.descend_nowait.new.mtr.pass.now in
    let first = ap (λ l. l.now.sizes) c.start-mtr.ensures.latches in
    let on = subst (λ (k : Sizes). HasDescended k (g.L.Law.lawful k.pages) (by_place g.L.Law.opening k.pages) 1 c.args.low false c.in-Ok.path c.start-mtr.result.pass.now q) first c.in-Ok.ensures.descended in
    subst (λ (s : PassState). HasDescended sizes (g.L.Law.lawful sizes.pages) (by_place g.L.Law.opening sizes.pages) 1 c.args.low false c.in-Ok.path s q) c.start-mtr.ensures.started on

-- the scan begins on its last page
begun-there : (g : Over) (c : In-Ok g)
    → HasBegun c.args.latches.now.sizes (g.L.Law.lawful c.args.latches.now.sizes.pages) (by_place g.L.Law.opening c.args.latches.now.sizes.pages) g.L.Trees.ROOTS 1 c.args.low (down g c).reached.leaf (started c.args.pass.now) c.descend_nowait.new.mtr.pass.now
begun-there g c =
    let sizes : Sizes = c.args.latches.now.sizes in
    let laws = subst (λ (k : Sizes). Laws k.pages g.L.Trees.ROOTS (g.L.Law.lawful k.pages) (by_place g.L.Law.opening k.pages)) (ap (λ l. l.now.sizes) c.start-mtr.ensures.latches) c.facts_of_trees.ensures.laws in
    begun sizes g.L.Trees.ROOTS (g.L.Law.lawful sizes.pages) (by_place g.L.Law.opening sizes.pages) laws 1 (omega arith) c.requires.root c.args.low (rank-lt_end c.args.low) c.in-Ok.path (started c.args.pass.now) c.descend_nowait.new.mtr.pass.now (down g c)

few-there : (g : Over) (c : In-Ok g) → AreFewLooks 0 c.args.pass.now.view c.descend_nowait.new.mtr.pass.now.view
few-there g c = subst (λ (s : PassState). AreFewLooks 0 s.view c.descend_nowait.new.mtr.pass.now.view) c.start-mtr.ensures.started c.in-Ok.ensures.twice

pub scan_from_nowait-ran-requires-clause-begins : goal.scan_from_nowait-ran-requires-clause-begins
scan_from_nowait-ran-requires-clause-begins g c =
    let sizes : Sizes = c.args.latches.now.sizes in let p : PassState = c.args.pass.now in let q : PassState = c.descend_nowait.new.mtr.pass.now in
    let same = ap (λ m. m.now.sizes) c.descend_nowait.ensures.still.latches ∙ ap (λ l. l.now.sizes) c.start-mtr.ensures.latches in
    let on = (goal.at.scan_from_nowait-ran-requires-clause-begins g c).In-Ok in
    let d = down g on in
    let at = begins sizes g.L.Trees.ROOTS (g.L.Law.lawful sizes.pages) (by_place g.L.Law.opening sizes.pages) 1 c.args.low c.args.high c.requires.ascends c.args.out.now d.reached.leaf (started p) q (begun-there g on) (let room = c.requires.may.room in omega arith) in
    let last = ap (λ ps. get_or ps (c.len.result - 1) 0) c.pages.ensures.pages ∙ path_last c.in-Ok.path d.reached.front d.reached.leaf c.len.result d.reached.ends c.len.ensures.count in
    let there = subst (λ (k : Sizes). IsScannedTo k (g.L.Law.lawful k.pages) (by_place g.L.Law.opening k.pages) g.L.Trees.ROOTS 1 d.reached.leaf d.reached.leaf c.args.low c.args.low c.args.high c.args.out.now c.args.out.now q q) (sym same) at in
    let now : Sizes = c.descend_nowait.new.mtr.latches.now.sizes in
    subst (λ (n : ℕ). IsScannedTo now (g.L.Law.lawful now.pages) (by_place g.L.Law.opening now.pages) g.L.Trees.ROOTS 1 n n c.args.low c.args.low c.args.high c.args.out.now c.args.out.now q q) (sym last) there

pub give_back-requires : goal.give_back-requires
give_back-requires g c = without_work c.scan_from_nowait-ran.new.mtr.latches.now c.scan_from_nowait-ran.new.mtr.pass.now c.scan_from_nowait-ran.ensures.still.mtr

-- the leaf of the key is the one on which the loop began
abbrev HasCome : (g : Over) (c : After-scan_from_nowait-ran g) → Type 0
HasCome g c = HasDescended c.args.latches.now.sizes (g.L.Law.lawful c.args.latches.now.sizes.pages) (by_place g.L.Law.opening c.args.latches.now.sizes.pages) 1 c.args.low false c.in-Ok.path (started c.args.pass.now) c.descend_nowait.new.mtr.pass.now

last-there : (g : Over) (c : After-scan_from_nowait-ran g) (d : HasCome g c) → get_or c.pages.result.now (c.len.result - 1) 0 ≡ d.reached.leaf
last-there g c d =
    ap (λ ps. get_or ps (c.len.result - 1) 0) c.pages.ensures.pages ∙ path_last c.in-Ok.path d.reached.front d.reached.leaf c.len.result d.reached.ends c.len.ensures.count

-- the loop, as the scan began
ran-all : (g : Over) (c : After-scan_from_nowait-ran g) (d : HasCome g c)
    → OnOk c.scan_from_nowait-ran.result (HasRunToEnd c.args.latches.now.sizes (g.L.Law.lawful c.args.latches.now.sizes.pages) (by_place g.L.Law.opening c.args.latches.now.sizes.pages) 1 d.reached.leaf c.args.low c.args.high c.args.out.now c.scan_from_nowait-ran.new.out
    c.descend_nowait.new.mtr.pass.now c.scan_from_nowait-ran.new.mtr.pass.now)
ran-all g c d =
    let sizes : Sizes = c.args.latches.now.sizes in let q : PassState = c.descend_nowait.new.mtr.pass.now in let r : PassState = c.scan_from_nowait-ran.new.mtr.pass.now in
    let same = ap (λ m. m.now.sizes) c.descend_nowait.ensures.still.latches ∙ ap (λ l. l.now.sizes) c.start-mtr.ensures.latches in
    let ran = subst (λ (k : Sizes). OnOk c.scan_from_nowait-ran.result (HasRunToEnd k (g.L.Law.lawful k.pages) (by_place g.L.Law.opening k.pages) 1 (get_or c.pages.result.now (c.len.result - 1) 0) c.args.low c.args.high c.args.out.now c.scan_from_nowait-ran.new.out q r)) same c.scan_from_nowait-ran.ensures.scanned in
    subst (λ (n : ℕ). OnOk c.scan_from_nowait-ran.result (HasRunToEnd sizes (g.L.Law.lawful sizes.pages) (by_place g.L.Law.opening sizes.pages) 1 n c.args.low c.args.high c.args.out.now c.scan_from_nowait-ran.new.out q r)) (last-there g c d) ran

ran-part : (g : Over) (c : After-scan_from_nowait-ran g) (d : HasCome g c)
    → IfErr c.scan_from_nowait-ran.result (λ (halt : Halt). HasRunTo c.args.latches.now.sizes (g.L.Law.lawful c.args.latches.now.sizes.pages) (by_place g.L.Law.opening c.args.latches.now.sizes.pages) g.L.Trees.ROOTS 1 d.reached.leaf c.args.low c.args.high halt c.args.out.now
    c.scan_from_nowait-ran.new.out c.descend_nowait.new.mtr.pass.now c.scan_from_nowait-ran.new.mtr.pass.now)
ran-part g c d =
    let sizes : Sizes = c.args.latches.now.sizes in let q : PassState = c.descend_nowait.new.mtr.pass.now in let r : PassState = c.scan_from_nowait-ran.new.mtr.pass.now in
    let same = ap (λ m. m.now.sizes) c.descend_nowait.ensures.still.latches ∙ ap (λ l. l.now.sizes) c.start-mtr.ensures.latches in
    let ran = subst (λ (k : Sizes). IfErr c.scan_from_nowait-ran.result (λ (halt : Halt). HasRunTo k (g.L.Law.lawful k.pages) (by_place g.L.Law.opening k.pages) g.L.Trees.ROOTS 1 (get_or c.pages.result.now (c.len.result - 1) 0) c.args.low c.args.high halt c.args.out.now c.scan_from_nowait-ran.new.out q r)) same c.scan_from_nowait-ran.ensures.halted in
    subst (λ (n : ℕ). IfErr c.scan_from_nowait-ran.result (λ (halt : Halt). HasRunTo sizes (g.L.Law.lawful sizes.pages) (by_place g.L.Law.opening sizes.pages) g.L.Trees.ROOTS 1 n c.args.low c.args.high halt c.args.out.now c.scan_from_nowait-ran.new.out q r)) (last-there g c d) ran

pub returns-in-Ok-clause-scanned : goal.returns-in-Ok-clause-scanned
returns-in-Ok-clause-scanned g c =
    let sizes : Sizes = c.args.latches.now.sizes in let p : PassState = c.args.pass.now in let q : PassState = c.descend_nowait.new.mtr.pass.now in
    let r : PassState = c.scan_from_nowait-ran.new.mtr.pass.now in let s : PassState = c.give_back.new.self.pass.now in
    let on = (goal.at.returns-in-Ok-clause-scanned g c).In-Ok in let at = (goal.at.returns-in-Ok-clause-scanned g c).After-scan_from_nowait-ran in let d = down g on in
    subst (λ (t : PassState). OnOk c.scan_from_nowait-ran.result (HasAll sizes (g.L.Law.lawful sizes.pages) (by_place g.L.Law.opening sizes.pages) 1 c.args.low c.args.high c.args.out.now c.scan_from_nowait-ran.new.out p t)) (search rules) (subst (λ (t : PassState). OnOk c.scan_from_nowait-ran.result (HasAll sizes (g.L.Law.lawful sizes.pages) (by_place g.L.Law.opening sizes.pages) 1 c.args.low c.args.high c.args.out.now c.scan_from_nowait-ran.new.out p t)) (sym c.finish.ensures.finished)
    (on_ok c.scan_from_nowait-ran.result (scanned_all sizes (g.L.Law.lawful sizes.pages) (by_place g.L.Law.opening sizes.pages) g.L.Trees.ROOTS 1 c.args.low c.args.high d.reached.leaf c.args.out.now c.scan_from_nowait-ran.new.out p q r s (begun-there g on) (given_all r s c.give_back.ensures.given)
    (descent_least sizes (g.L.Law.lawful sizes.pages) (by_place g.L.Law.opening sizes.pages) 1 c.args.low c.in-Ok.path (started p) q d) (few-there g on)) (ran-all g at d)))

pub returns-in-Ok-clause-least : goal.returns-in-Ok-clause-least
returns-in-Ok-clause-least g c =
    let sizes : Sizes = c.args.latches.now.sizes in let p : PassState = c.args.pass.now in let q : PassState = c.descend_nowait.new.mtr.pass.now in
    let r : PassState = c.scan_from_nowait-ran.new.mtr.pass.now in let s : PassState = c.give_back.new.self.pass.now in
    let on = (goal.at.returns-in-Ok-clause-least g c).In-Ok in let at = (goal.at.returns-in-Ok-clause-least g c).After-scan_from_nowait-ran in let d = down g on in
    subst (λ (t : PassState). OnOk c.scan_from_nowait-ran.result (TookTwo p t)) (search rules) (subst (λ (t : PassState). OnOk c.scan_from_nowait-ran.result (TookTwo p t)) (sym c.finish.ensures.finished)
    (on_ok c.scan_from_nowait-ran.result (two_all sizes (g.L.Law.lawful sizes.pages) (by_place g.L.Law.opening sizes.pages) g.L.Trees.ROOTS 1 c.args.low c.args.high d.reached.leaf c.args.out.now c.scan_from_nowait-ran.new.out p q r s (begun-there g on) (given_all r s c.give_back.ensures.given)
    (descent_least sizes (g.L.Law.lawful sizes.pages) (by_place g.L.Law.opening sizes.pages) 1 c.args.low c.in-Ok.path (started p) q d) (few-there g on)) (ran-all g at d)))

pub returns-in-Ok-clause-few : goal.returns-in-Ok-clause-few
returns-in-Ok-clause-few g c =
    let sizes : Sizes = c.args.latches.now.sizes in let p : PassState = c.args.pass.now in let q : PassState = c.descend_nowait.new.mtr.pass.now in
    let r : PassState = c.scan_from_nowait-ran.new.mtr.pass.now in let s : PassState = c.give_back.new.self.pass.now in
    let on = (goal.at.returns-in-Ok-clause-few g c).In-Ok in let at = (goal.at.returns-in-Ok-clause-few g c).After-scan_from_nowait-ran in let d = down g on in
    let had = subst (λ (t : PassState). OnOk c.scan_from_nowait-ran.result (AreFewLooks 0 p.view t.view)) (sym c.finish.ensures.finished)
    (on_ok c.scan_from_nowait-ran.result (few_all sizes (g.L.Law.lawful sizes.pages) (by_place g.L.Law.opening sizes.pages) g.L.Trees.ROOTS 1 c.args.low c.args.high d.reached.leaf c.args.out.now c.scan_from_nowait-ran.new.out p q r s (begun-there g on) (given_all r s c.give_back.ensures.given)
    (descent_least sizes (g.L.Law.lawful sizes.pages) (by_place g.L.Law.opening sizes.pages) 1 c.args.low c.in-Ok.path (started p) q d) (few-there g on)) c.scan_from_nowait-ran.ensures.few) in
    search (rules, had)

pub returns-in-Ok-clause-halted : goal.returns-in-Ok-clause-halted
returns-in-Ok-clause-halted g c =
    let sizes : Sizes = c.args.latches.now.sizes in let p : PassState = c.args.pass.now in let q : PassState = c.descend_nowait.new.mtr.pass.now in
    let r : PassState = c.scan_from_nowait-ran.new.mtr.pass.now in let s : PassState = c.give_back.new.self.pass.now in
    let on = (goal.at.returns-in-Ok-clause-halted g c).In-Ok in let at = (goal.at.returns-in-Ok-clause-halted g c).After-scan_from_nowait-ran in let d = down g on in
    subst (λ (t : PassState). IfErr c.scan_from_nowait-ran.result (λ (halt : Halt). HasHalted sizes (g.L.Law.lawful sizes.pages) (by_place g.L.Law.opening sizes.pages) 1 c.args.low c.args.high halt c.args.out.now c.scan_from_nowait-ran.new.out p t)) (search rules) (subst (λ (t : PassState). IfErr c.scan_from_nowait-ran.result (λ (halt : Halt). HasHalted sizes (g.L.Law.lawful sizes.pages) (by_place g.L.Law.opening sizes.pages) 1 c.args.low c.args.high halt c.args.out.now c.scan_from_nowait-ran.new.out p t)) (sym c.finish.ensures.finished)
    (if_err (λ (halt : Halt). HasRunTo sizes (g.L.Law.lawful sizes.pages) (by_place g.L.Law.opening sizes.pages) g.L.Trees.ROOTS 1 d.reached.leaf c.args.low c.args.high halt c.args.out.now c.scan_from_nowait-ran.new.out q r) (λ (halt : Halt). HasHalted sizes (g.L.Law.lawful sizes.pages) (by_place g.L.Law.opening sizes.pages) 1 c.args.low c.args.high halt c.args.out.now c.scan_from_nowait-ran.new.out p (finished s)) c.scan_from_nowait-ran.result
    (halted_so sizes (g.L.Law.lawful sizes.pages) (by_place g.L.Law.opening sizes.pages) g.L.Trees.ROOTS 1 c.args.low c.args.high d.reached.leaf c.args.out.now c.scan_from_nowait-ran.new.out p q r s (begun-there g on) (given_all r s c.give_back.ensures.given)
    (descent_least sizes (g.L.Law.lawful sizes.pages) (by_place g.L.Law.opening sizes.pages) 1 c.args.low c.in-Ok.path (started p) q d) (few-there g on)) (ran-part g at d)))

pub returns-in-Err-clause-halted : goal.returns-in-Err-clause-halted
returns-in-Err-clause-halted g c =
    let sizes : Sizes = c.args.latches.now.sizes in let p : PassState = c.args.pass.now in let q : PassState = c.descend_nowait.new.mtr.pass.now in let f = c.in-Err.fault in
    let first = ap (λ l. l.now.sizes) c.start-mtr.ensures.latches in
    let on = subst (λ (k : Sizes). IsContended k (g.L.Law.lawful k.pages) (by_place g.L.Law.opening k.pages) 1 c.args.low f c.start-mtr.result.pass.now q) first c.in-Err.ensures.contended in
    let contended = subst (λ (s : PassState). IsContended sizes (g.L.Law.lawful sizes.pages) (by_place g.L.Law.opening sizes.pages) 1 c.args.low f s q) c.start-mtr.ensures.started on in
    let vain = subst (λ (s : PassState). AreFewLooks (looks_of f) s.view q.view) c.start-mtr.ensures.started c.in-Err.ensures.vain in
    let looks = subst (λ (s : PassState). q.view.looks.count ≤ s.view.looks.count + 2 * (MOST_LEVEL + 2)) c.start-mtr.ensures.started c.descend_nowait.ensures.few in
    subst (λ (t : PassState). IsRefusedScan sizes (g.L.Law.lawful sizes.pages) (by_place g.L.Law.opening sizes.pages) 1 c.args.low c.args.high c.args.low f c.args.out.now c.args.out.now p t) (search rules) (subst (λ (t : PassState). IsRefusedScan sizes (g.L.Law.lawful sizes.pages) (by_place g.L.Law.opening sizes.pages) 1 c.args.low c.args.high c.args.low f c.args.out.now c.args.out.now p t) (sym c.finish-in-Err.ensures.finished)
    (contended_scan sizes (g.L.Law.lawful sizes.pages) (by_place g.L.Law.opening sizes.pages) 1 c.args.low c.args.high c.requires.ascends f c.args.out.now p q (finished q) contended vain looks refl))
