use Rattle.std.proofs.Common.{refl, ap, subst, sym}
use Rattle.std.specs.Prelude.{Ok, Err}
use Rattle.ib_map.specs.Chunks.{HeldChunks}
use Rattle.ib_map.specs.KeyBytes.{key_of_bytes}
use Rattle.ib_c.specs.declared.scanned.Scanned.{Scanned}
use Rattle.ib_c.specs.declared.status.Status.{Status}
use Rattle.ib_c.specs.ScanWords.{room_of}
use Rattle.ib_c.specs.Scans.{IsRefusedScan, filled}
use Rattle.ib_c.proofs.ScanLaws.{room-refused, same_scan}
use Rattle.ib_c.proofs.scans.scan_nowait.Goals as goal

pub returns-in-Err-clause-scanned : goal.returns-in-Err-clause-scanned
returns-in-Err-clause-scanned c =
    let room : HeldChunks = room_of c.args.chunks.now c.args.pairs.now in
    let is = c.in-Err.ensures.refused in
    let refused = subst (λ (s : Status). IsRefusedScan c.args.low.now c.args.high.now room c.args.table.now c.args.pass.now s) (sym is.0) is.1 in
    (Err c.in-Err.status, (refused, refl, ap (λ (told : Scanned). filled told c.args.chunks.now c.args.pairs.now) c.only.ensures))

pub returns-in-Err-room_in-clause-scanned : goal.returns-in-Err-room_in-clause-scanned
returns-in-Err-room_in-clause-scanned c =
    let room : HeldChunks = room_of c.args.chunks.now c.args.pairs.now in
    let refused = room-refused c.args.low.now c.args.high.now room c.args.table.now c.args.pass.now c.in-Err-room_in.status c.in-Ok.ensures.ok.0 c.in-Err-room_in.ensures.refused in
    (Err c.in-Err-room_in.status, (refused, refl, ap (λ (told : Scanned). filled told c.args.chunks.now c.args.pairs.now) c.only-in-Err-room_in.ensures))

pub returns-in-Ok-room_in-clause-scanned : goal.returns-in-Ok-room_in-clause-scanned
returns-in-Ok-room_in-clause-scanned c =
    let room : HeldChunks = room_of c.args.chunks.now c.args.pairs.now in
    let keys = c.in-Ok.ensures.ok in let held = c.in-Ok-room_in.ensures.ok in
    let is = same_scan c.in-Ok.from (key_of_bytes c.args.low.now) c.in-Ok.to (key_of_bytes c.args.high.now) c.args.table.now c.in-Ok-room_in.held room c.args.pass.now c.scan-answer.result c.scan-answer.new.out c.scan-answer.new.pass keys.1 keys.2 held.0 c.scan-answer.ensures.scan in
    (Ok (record { answer = c.scan-answer.result; left = c.scan-answer.new.out }), (keys.0, held.1, is, c.told_scan.ensures, c.put.ensures))
