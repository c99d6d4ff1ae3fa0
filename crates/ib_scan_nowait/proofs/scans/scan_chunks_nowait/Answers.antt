-- The answer to a scan.
use Rattle.ib_logrec.specs.Log.{by_place}
use Rattle.ib_layout.specs.Geometry.{Sizes}
use Rattle.ib_scan.proofs.WholeLaws.{scanned_with}
use Rattle.ib_scan_nowait.proofs.scans.scan_chunks_nowait.Goals as goal

pub returns-in-Ok-clause-scanned : goal.returns-in-Ok-clause-scanned
returns-in-Ok-clause-scanned g c =
    let sizes : Sizes = c.args.latches.now.sizes in
    scanned_with sizes (g.L.Law.lawful sizes.pages) (by_place g.L.Law.opening sizes.pages) 1 c.args.low c.args.high c.answer.result c.args.out.now c.read_chunks_nowait.new.out c.args.pass.now c.read_chunks_nowait.new.pass
    c.room-before.result.0 c.room-before.result.1 c.room-left.result.0 c.room-left.result.1 c.place.result c.in-Ok.ensures.scanned
    c.room-before.ensures.chunks c.room-before.ensures.pairs c.room-left.ensures.chunks c.room-left.ensures.pairs c.place.ensures c.answer.ensures
