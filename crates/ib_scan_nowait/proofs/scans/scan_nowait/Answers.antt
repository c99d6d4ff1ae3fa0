-- The record of a scan fits what is seen.
use Rattle.std.proofs.Common.{rules, ◌≡◌, true}
use Rattle.ib_map.specs.Space.{has_pages}
use Rattle.ib_layout.specs.Geometry.{Sizes}
use Rattle.ib_logrec.specs.Log.{by_place}
use Rattle.ib_scan.specs.Scanning.{HasScanned}
use Rattle.ib_scan.specs.Scans.{FitsSeen}
use Rattle.ib_scan.proofs.WholeLaws.{scan_fits, if_any}
use Rattle.ib_scan_nowait.proofs.scans.scan_nowait.Goals as goal

pub returns-clause-fits : goal.returns-clause-fits
returns-clause-fits g c = λ le.
    let sizes : Sizes = c.args.latches.now.sizes in
    let has : has_pages sizes.pages ≡ true = search rules in
    if_any (λ answer. (h : HasScanned sizes (g.L.Law.lawful sizes.pages) (by_place g.L.Law.opening sizes.pages) 1 c.args.low c.args.high answer c.args.out.now c.scan_chunks_nowait.new.out c.args.pass.now c.scan_chunks_nowait.new.pass)
    → FitsSeen sizes (by_place g.L.Law.opening sizes.pages) answer h.gone.spans c.args.pass.now c.scan_chunks_nowait.new.pass) c.scan_chunks_nowait.result
    (λ answer. scan_fits sizes (g.L.Law.lawful sizes.pages) (by_place g.L.Law.opening sizes.pages) (λ xs ys. g.met.L.Law.begins sizes.pages xs ys has) (λ log. c.trees_law.ensures.content sizes.pages log has) c.args.low c.args.high le
    answer c.args.out.now c.scan_chunks_nowait.new.out c.args.pass.now c.scan_chunks_nowait.new.pass)
