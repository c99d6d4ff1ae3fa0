-- What is said of the latches is said of the table.
use Rattle.std.proofs.Common.{subst}
use Rattle.ib_rule.specs.Space.{SpaceState}
use Rattle.ib_c.specs.Scans.{IsScan}
use Rattle.ib_c.proofs.ScanLaws.{scan-fits}
use Rattle.ib_c.proofs.scans.scan.Goals as goal

pub returns-clause-pairs : goal.returns-clause-pairs
returns-clause-pairs c =
    let said = c.scan_nowait-answer.ensures in
    let of_latches : IsScan c.args.low c.args.high c.latches.result.now c.args.out.now c.args.pass.now c.scan_nowait-answer.result c.scan_nowait-answer.new.out c.scan_nowait-answer.new.pass = record {
      rest = said.rest;
      scanned = said.scanned;
      fits = said.fits;
      least = said.least;
      few = said.few;
      halted = said.halted;
      none = said.none;
      fits_none = said.fits_none;
      same = said.same;
      same_out = said.same_out;
    } in
    let is = subst (λ (space : SpaceState). IsScan c.args.low c.args.high space c.args.out.now c.args.pass.now c.scan_nowait-answer.result c.scan_nowait-answer.new.out c.scan_nowait-answer.new.pass) c.latches.ensures of_latches in
    (scan-fits c.args.low c.args.high c.args.table.now c.args.out.now c.args.pass.now c.scan_nowait-answer.result c.scan_nowait-answer.new.out c.scan_nowait-answer.new.pass is c.requires.none c.pairs.ensures.adjacent).1
