-- A whole call, from where it begins to its end.
use Rattle.std.proofs.Common.{rules, ◌≡◌, ◌≤◌, ◌+◌, ◌∙◌, Some, sym, ap, subst, arith}
use Rattle.ib_layout.specs.Geometry.{Sizes}
use Rattle.ib_logrec.specs.Log.{by_place}
use Rattle.ib_rule.specs.Pass.{PassState}
use Rattle.ib_rule.specs.Views.{total}
use Rattle.ib_mtr.specs.Mtr.{started}
use Rattle.ib_cursor.specs.declared.position.Position.{Position}
use Rattle.ib_scan.specs.Steps.{HasBegun, IsScannedTo}
use Rattle.ib_scan.specs.Stored.{IsBegunOn, IsUnwritten, MayGoOn}
use Rattle.ib_scan.proofs.LeaveLaws.{last_step}
use Rattle.ib_scan.proofs.WholeLaws.{HasRunBy, begins, leaf_left, scanned_on, took_two}
use Rattle.ib_scan.proofs.stored.read_on.Given.{Over}
use Rattle.ib_scan.proofs.stored.read_on.Goals.{After-begin-first}
use Rattle.ib_scan.proofs.stored.read_on.Goals as goal

-- how it begins, from the pass as the caller sees it
begun-on : (g : Over) (c : After-begin-first g)
    → HasBegun c.args.latches.now.sizes (g.L.Law.lawful c.args.latches.now.sizes.pages) (by_place g.L.Law.opening c.args.latches.now.sizes.pages) g.L.Trees.ROOTS 1 c.args.stored.next c.begin-first.result
    (started c.args.pass.now) c.begin-first.new.mtr.pass.now
begun-on g c =
    let sizes : Sizes = c.args.latches.now.sizes in let q : PassState = c.begin-first.new.mtr.pass.now in
    let first = ap (λ l. l.now.sizes) c.start-mtr.ensures.latches in
    let on = subst (λ (k : Sizes). HasBegun k (g.L.Law.lawful k.pages) (by_place g.L.Law.opening k.pages) g.L.Trees.ROOTS 1 c.args.stored.next c.begin-first.result c.start-mtr.result.pass.now q) first c.begin-first.ensures.begun in
    subst (λ (s : PassState). HasBegun sizes (g.L.Law.lawful sizes.pages) (by_place g.L.Law.opening sizes.pages) g.L.Trees.ROOTS 1 c.args.stored.next c.begin-first.result s q) c.start-mtr.ensures.started on

pub begin-first-requires-clause-goes_on : goal.begin-first-requires-clause-goes_on
begin-first-requires-clause-goes_on g c =
    let sizes : Sizes = c.args.latches.now.sizes in let p : PassState = c.args.pass.now in
    let first = ap (λ l. l.now.sizes) c.start-mtr.ensures.latches in
    let now : MayGoOn sizes (g.L.Law.lawful sizes.pages) (by_place g.L.Law.opening sizes.pages) g.L.Trees.ROOTS c.args.stored (started p) = record { unfinished = c.requires.goes_on.unfinished; keeps = c.requires.goes_on.keeps } in
    subst (λ (k : Sizes). MayGoOn k (g.L.Law.lawful k.pages) (by_place g.L.Law.opening k.pages) g.L.Trees.ROOTS c.args.stored c.start-mtr.result.pass.now) (sym first)
    (subst (λ (s : PassState). MayGoOn sizes (g.L.Law.lawful sizes.pages) (by_place g.L.Law.opening sizes.pages) g.L.Trees.ROOTS c.args.stored s) (sym c.start-mtr.ensures.started) now)

pub begin-first-requires-clause-room : goal.begin-first-requires-clause-room
begin-first-requires-clause-room g c =
    let room = c.requires.may.room in
    let same = ap (λ (s : PassState). total s.view.grants) c.start-mtr.ensures.started in omega arith

pub scan_from-stop-requires-clause-begins : goal.scan_from-stop-requires-clause-begins
scan_from-stop-requires-clause-begins g c =
    let sizes : Sizes = c.args.latches.now.sizes in let p : PassState = c.args.pass.now in let q : PassState = c.begin-first.new.mtr.pass.now in
    let same = ap (λ m. m.now.sizes) c.begin-first.ensures.still.latches ∙ ap (λ l. l.now.sizes) c.start-mtr.ensures.latches in
    let b = begun-on g (goal.at.scan_from-stop-requires-clause-begins g c).After-begin-first in
    let at = begins sizes g.L.Trees.ROOTS (g.L.Law.lawful sizes.pages) (by_place g.L.Law.opening sizes.pages) 1 c.args.stored.next c.args.stored.high c.requires.ascends c.args.out.now c.begin-first.result (started p) q b (let room = c.requires.may.room in omega arith) in
    subst (λ (k : Sizes). IsScannedTo k (g.L.Law.lawful k.pages) (by_place g.L.Law.opening k.pages) g.L.Trees.ROOTS 1 c.begin-first.result c.begin-first.result c.args.stored.next c.args.stored.next c.args.stored.high c.args.out.now c.args.out.now q q) (sym same) at

pub returns-clause-scanned : goal.returns-clause-scanned
returns-clause-scanned g c =
    let sizes : Sizes = c.args.latches.now.sizes in let p : PassState = c.args.pass.now in let q : PassState = c.begin-first.new.mtr.pass.now in
    let r : PassState = c.scan_from-stop.new.mtr.pass.now in let s : PassState = c.release_at.new.self.pass.now in
    let first = ap (λ l. l.now.sizes) c.start-mtr.ensures.latches in
    let same = ap (λ m. m.now.sizes) c.begin-first.ensures.still.latches ∙ first in
    let b = begun-on g (goal.at.returns-clause-scanned g c).After-begin-first in
    let on = subst (λ (k : Sizes). IsBegunOn (by_place g.L.Law.opening k.pages) q.view.memory.seen c.args.stored.next c.args.stored.position c.begin-first.result) first c.begin-first.ensures.on in
    let once = subst (λ (u : PassState). (at : Position) → c.args.stored.position ≡ Some at → IsUnwritten at q.view.memory.seen → (c.begin-first.result ≡ at.page) × (q.view.grants.s ≡ u.view.grants.s + 1)) c.start-mtr.ensures.started c.begin-first.ensures.once in
    let ran = subst (λ (k : Sizes). HasRunBy k (g.L.Law.lawful k.pages) (by_place g.L.Law.opening k.pages) g.L.Trees.ROOTS 1 c.begin-first.result c.args.stored.next c.args.stored.high c.args.out.now c.scan_from-stop.new.out q r c.scan_from-stop.result) same c.scan_from-stop.ensures.scanned in
    let h = leaf_left sizes (g.L.Law.lawful sizes.pages) (by_place g.L.Law.opening sizes.pages) g.L.Trees.ROOTS 1 c.begin-first.result c.args.stored.next c.args.stored.high c.args.out.now c.scan_from-stop.new.out q r c.scan_from-stop.result ran in
    let left = last_step h.front.leaf h.front.image r s h.front.front c.release_at.ensures.released in
    scanned_on sizes (g.L.Law.lawful sizes.pages) (by_place g.L.Law.opening sizes.pages) g.L.Trees.ROOTS c.args.stored c.begin-first.result c.args.out.now c.scan_from-stop.new.out p q r s _ b left.aside c.requires.goes_on on once
    (search rules ∙ c.finish.ensures.finished) c.scan_from-stop.result ran

pub returns-clause-least : goal.returns-clause-least
returns-clause-least g c = λ none.
    let sizes : Sizes = c.args.latches.now.sizes in let p : PassState = c.args.pass.now in let q : PassState = c.begin-first.new.mtr.pass.now in
    let r : PassState = c.scan_from-stop.new.mtr.pass.now in let s : PassState = c.release_at.new.self.pass.now in
    let same = ap (λ m. m.now.sizes) c.begin-first.ensures.still.latches ∙ ap (λ l. l.now.sizes) c.start-mtr.ensures.latches in
    let ran = subst (λ (k : Sizes). HasRunBy k (g.L.Law.lawful k.pages) (by_place g.L.Law.opening k.pages) g.L.Trees.ROOTS 1 c.begin-first.result c.args.stored.next c.args.stored.high c.args.out.now c.scan_from-stop.new.out q r c.scan_from-stop.result) same c.scan_from-stop.ensures.scanned in
    let h = leaf_left sizes (g.L.Law.lawful sizes.pages) (by_place g.L.Law.opening sizes.pages) g.L.Trees.ROOTS 1 c.begin-first.result c.args.stored.next c.args.stored.high c.args.out.now c.scan_from-stop.new.out q r c.scan_from-stop.result ran in
    let left = last_step h.front.leaf h.front.image r s h.front.front c.release_at.ensures.released in
    let begin = ap (λ (u : PassState). u.view.grants.s) c.start-mtr.ensures.started in
    let least = c.begin-first.ensures.least none in
    let two : p.view.grants.s + 2 ≤ q.view.grants.s = omega arith in
    took_two p q r s _ two h.least left.aside (search rules ∙ c.finish.ensures.finished)
