-- The answer to a scan.
use Rattle.ib_logrec.specs.Log.{by_place}
use Rattle.ib_layout.specs.Geometry.{Sizes}
use Rattle.ib_scan.proofs.WholeLaws.{scanned_with}
use Rattle.ib_scan.proofs.scans.scan_at.Goals as goal

pub returns-in-None-clause-scanned : goal.returns-in-None-clause-scanned
returns-in-None-clause-scanned g c = λ le.
    let sizes : Sizes = c.args.latches.now.sizes in
    scanned_with sizes (g.L.Law.lawful sizes.pages) (by_place g.L.Law.opening sizes.pages) c.args.root c.args.low c.args.high c.answer-in-None.result c.args.out.now c.read_chunks.new.out c.args.pass.now c.read_chunks.new.pass
    c.room-before.result.0 c.room-before.result.1 c.room-left.result.0 c.room-left.result.1 c.place-in-None.result c.in-None.ensures.scanned
    c.room-before.ensures.chunks c.room-before.ensures.pairs c.room-left.ensures.chunks c.room-left.ensures.pairs c.place-in-None.ensures c.answer-in-None.ensures
