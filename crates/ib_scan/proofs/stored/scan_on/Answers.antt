-- The answer to a scan that goes on, and that it fits what is seen.
use Rattle.std.proofs.Common.{rules, ◌≡◌, true, refl}
use Rattle.ib_map.specs.Space.{has_pages}
use Rattle.ib_layout.specs.Geometry.{Sizes}
use Rattle.ib_logrec.specs.Log.{by_place}
use Rattle.ib_scan.proofs.WholeLaws.{keeps_longer, keeps_stop, scan_fits, scanned_on_with}
use Rattle.ib_scan.proofs.stored.scan_on.Goals as goal

pub returns-then-is_below-clause-keeps : goal.returns-then-is_below-clause-keeps
returns-then-is_below-clause-keeps g c = c.requires.goes_on.keeps

pub returns-in-None-clause-scanned : goal.returns-in-None-clause-scanned
returns-in-None-clause-scanned g c = λ le.
    let sizes : Sizes = c.args.latches.now.sizes in
    scanned_on_with sizes (g.L.Law.lawful sizes.pages) (by_place g.L.Law.opening sizes.pages) c.args.stored.now c.answer-in-None.result c.args.out.now c.read_on.new.out c.args.pass.now c.read_on.new.pass
    c.room-before.result.0 c.room-before.result.1 c.room-left.result.0 c.room-left.result.1 c.place-in-None.result c.in-None.ensures.scanned
    c.room-before.ensures.chunks c.room-before.ensures.pairs c.room-left.ensures.chunks c.room-left.ensures.pairs c.place-in-None.ensures c.answer-in-None.ensures

pub returns-in-None-clause-fits : goal.returns-in-None-clause-fits
returns-in-None-clause-fits g c = λ le h.
    let sizes : Sizes = c.args.latches.now.sizes in
    let has : has_pages sizes.pages ≡ true = search rules in
    scan_fits sizes (g.L.Law.lawful sizes.pages) (by_place g.L.Law.opening sizes.pages) (λ xs ys. g.met.L.Law.begins sizes.pages xs ys has) (λ log. c.trees_law.ensures.content sizes.pages log has) c.args.stored.now.next c.args.stored.now.high le
    c.answer-in-None.result c.args.out.now c.read_on.new.out c.args.pass.now c.read_on.new.pass h

pub returns-in-Some-clause-stopped : goal.returns-in-Some-clause-stopped
returns-in-Some-clause-stopped g c = λ le. record { kept = c.in-Some.stop.kept; left_is = refl; stopped = c.in-Some.ensures.scanned }

pub returns-in-Some-clause-keeps : goal.returns-in-Some-clause-keeps
returns-in-Some-clause-keeps g c =
    let sizes : Sizes = c.args.latches.now.sizes in
    keeps_stop sizes (g.L.Law.lawful sizes.pages) (by_place g.L.Law.opening sizes.pages) g.L.Trees.ROOTS c.args.stored.now c.in-Some.stop.next c.in-Some.stop.kept c.args.out.now c.read_on.new.out c.args.pass.now c.read_on.new.pass c.in-Some.ensures.scanned

pub returns-in-None-clause-keeps : goal.returns-in-None-clause-keeps
returns-in-None-clause-keeps g c =
    let sizes : Sizes = c.args.latches.now.sizes in
    keeps_longer sizes (g.L.Law.lawful sizes.pages) (by_place g.L.Law.opening sizes.pages) g.L.Trees.ROOTS (record c.args.stored.now { finished = true }) c.args.pass.now c.read_on.new.pass c.in-None.ensures.scanned.all.gone.went c.requires.goes_on.keeps

pub returns-in-Some-clause-least : goal.returns-in-Some-clause-least
returns-in-Some-clause-least g c = λ le none. (c.in-Some.ensures.least none).s

pub returns-in-None-clause-least : goal.returns-in-None-clause-least
returns-in-None-clause-least g c = λ le none. (c.in-None.ensures.least none).s
