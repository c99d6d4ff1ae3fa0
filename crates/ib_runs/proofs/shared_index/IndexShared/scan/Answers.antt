-- One call of a scan that keeps its position.
use Rattle.std.proofs.Common.{◌≡◌, false, Result, Ok, Err, IfOk, IfErr, OnErr, ap, sym, subst}
use Rattle.std.proofs.lemmas.Result.{IfOk-weaker}
use Rattle.ib_map.specs.Chunks.{HeldChunks}
use Rattle.ib_map.specs.Keys.{MapKey}
use Rattle.ib_map.specs.declared.call.Record.{Record}
use Rattle.ib_logrec.specs.Log.{by_place}
use Rattle.ib_tree.specs.TreeLog.{opening}
use Rattle.ib_planned_log.specs.Kept.{IsKeptLog}
use Rattle.ib_rule.specs.Pass.{IsAtRest, PassState}
use Rattle.ib_rule.specs.Space.{SpaceState}
use Rattle.ib_scan.specs.declared.more.More.{More}
use Rattle.ib_scan.specs.declared.stored.Stored.{Stored}
use Rattle.ib_scan.specs.Scanning.{HasScanned, HasStopped}
use Rattle.ib_scan.specs.Scans.{MayScan}
use Rattle.ib_scan.specs.Stored.{HasScannedOn, IsLeftAt, KeepsPosition, MayGoOn}
use Rattle.ib_runs.proofs.shared_index.IndexShared.scan.Goals as goal

-- what follows of an error, whichever it is
on-err : {A B : Type 0} (P : B → Type 0) (Q : Type 0) (r : Result A B) → ((e : B) → P e → Q) → IfErr r P → OnErr r Q
on-err P Q (Ok x) f h = tt
on-err P Q (Err e) f h = f e h

on-both : {A B : Type 0} (P Q : Type 0) (r : Result A B) → (P → Q) → OnErr r P → OnErr r Q
on-both P Q (Ok x) f h = tt
on-both P Q (Err e) f h = f h

-- where it stopped it is left at the next key
abbrev IsLeft : SpaceState → Stored → Stored → HeldChunks → HeldChunks → PassState → PassState → More → Type 0
IsLeft s stored left out new p q more = IsLeftAt s.sizes (IsKeptLog s.sizes.pages) (by_place opening s.sizes.pages) 1 stored left more.next out new p q

abbrev IsStopped : SpaceState → Stored → MapKey → HeldChunks → HeldChunks → PassState → PassState → Type 0
IsStopped s stored next out new p q = HasStopped s.sizes (IsKeptLog s.sizes.pages) (by_place opening s.sizes.pages) 1 stored.next stored.high next out new p q

pub scan_on-requires-clause-may : goal.scan_on-requires-clause-may
scan_on-requires-clause-may g c = subst (λ (s : SpaceState). MayScan s c.args.out.now c.args.pass.now) (sym c.latches.ensures) c.requires.may

pub scan_on-requires-clause-goes_on : goal.scan_on-requires-clause-goes_on
scan_on-requires-clause-goes_on g c =
    subst (λ (s : SpaceState). MayGoOn s.sizes (IsKeptLog s.sizes.pages) (by_place opening s.sizes.pages) 1 c.args.scan.now c.args.pass.now) (sym c.latches.ensures) c.requires.goes_on

pub returns-clause-rest : goal.returns-clause-rest
returns-clause-rest g c = subst (λ (s : SpaceState). IsAtRest s c.scan_on.new.pass) c.latches.ensures c.scan_on.ensures.rest

pub returns-clause-scanned : goal.returns-clause-scanned
returns-clause-scanned g c =
    let space : SpaceState = c.args.self.now in
    let all = subst (λ (s : SpaceState). IfOk c.scan_on.result (λ answer. HasScannedOn s.sizes (IsKeptLog s.sizes.pages) (by_place opening s.sizes.pages) c.args.scan.now answer c.args.out.now c.scan_on.new.out c.args.pass.now c.scan_on.new.pass))
    c.latches.ensures (c.scan_on.ensures.scanned c.requires.ascends) in
    IfOk-weaker c.scan_on.result (λ (answer : Record). HasScannedOn space.sizes (IsKeptLog space.sizes.pages) (by_place opening space.sizes.pages) c.args.scan.now answer c.args.out.now c.scan_on.new.out c.args.pass.now c.scan_on.new.pass)
    (λ (answer : Record). HasScanned space.sizes (IsKeptLog space.sizes.pages) (by_place opening space.sizes.pages) 1 c.args.scan.now.next c.args.scan.now.high answer c.args.out.now c.scan_on.new.out c.args.pass.now c.scan_on.new.pass)
    (λ answer h. h.scanned) all

pub returns-clause-stopped : goal.returns-clause-stopped
returns-clause-stopped g c =
    let space : SpaceState = c.args.self.now in
    let left = subst (λ (s : SpaceState). IfErr c.scan_on.result (IsLeft s c.args.scan.now c.scan_on.new.stored c.args.out.now c.scan_on.new.out c.args.pass.now c.scan_on.new.pass)) c.latches.ensures (c.scan_on.ensures.stopped c.requires.ascends) in
    on-err (IsLeft space c.args.scan.now c.scan_on.new.stored c.args.out.now c.scan_on.new.out c.args.pass.now c.scan_on.new.pass)
    (IsStopped space c.args.scan.now c.scan_on.new.stored.next c.args.out.now c.scan_on.new.out c.args.pass.now c.scan_on.new.pass)
    c.scan_on.result
    (λ more h. subst (λ (k : MapKey). IsStopped space c.args.scan.now k c.args.out.now c.scan_on.new.out c.args.pass.now c.scan_on.new.pass) (sym (ap (λ (x : Stored). x.next) h.left_is)) h.stopped.stopped)
    left

pub returns-clause-up_to : goal.returns-clause-up_to
returns-clause-up_to g c =
    on-err (IsLeft c.latches.result.now c.args.scan.now c.scan_on.new.stored c.args.out.now c.scan_on.new.out c.args.pass.now c.scan_on.new.pass)
    (c.scan_on.new.stored.high ≡ c.args.scan.now.high) c.scan_on.result (λ more h. ap (λ (x : Stored). x.high) h.left_is) (c.scan_on.ensures.stopped c.requires.ascends)

pub returns-clause-goes_on : goal.returns-clause-goes_on
returns-clause-goes_on g c =
    let space : SpaceState = c.args.self.now in
    let keeps = subst (λ (s : SpaceState). KeepsPosition s.sizes (IsKeptLog s.sizes.pages) (by_place opening s.sizes.pages) 1 c.scan_on.new.stored c.scan_on.new.pass) c.latches.ensures c.scan_on.ensures.keeps in
    on-both (c.scan_on.new.stored.finished ≡ false) (MayGoOn space.sizes (IsKeptLog space.sizes.pages) (by_place opening space.sizes.pages) 1 c.scan_on.new.stored c.scan_on.new.pass) c.scan_on.result
    (λ is. record { unfinished = is; keeps = keeps }) c.scan_on.ensures.unfinished

pub returns-clause-least : goal.returns-clause-least
returns-clause-least g c = λ begun. c.scan_on.ensures.least c.requires.ascends begun
