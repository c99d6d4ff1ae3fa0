-- What a scan on a session's handle comes to: the one of ib_scan_nowait, into room as large as the slices.
use Rattle.std.specs.Prelude.{◌≡◌, ◌⊎◌, ℕ, ◌+◌, ◌<◌, ◌≤◌, List, [], length, Result, Ok, Err, IfErr, IfOk, OnOk}
use Rattle.ib_map.specs.Chunks.{HeldChunks}
use Rattle.ib_map.specs.KeyBytes.{key_of_bytes}
use Rattle.ib_map.specs.Keys.{MapKey, rank}
use Rattle.ib_map.specs.declared.call.Record.{Record}
use Rattle.ib_logrec.specs.Log.{by_place}
use Rattle.ib_tree.specs.TreeLog.{opening}
use Rattle.ib_rule.specs.Pass.{PassState, IsAtRest}
use Rattle.ib_rule.specs.Space.{SpaceState}
use Rattle.ib_cursor.specs.Refusals.{AreFewLooks}
use Rattle.ib_scan.specs.Scanning.{HasScanned as HasScannedAll}
use Rattle.ib_scan.specs.Scans.{FitsSeen, MayScan, scan_answer}
use Rattle.ib_scan_nowait.specs.Halts.{HasHalted}
use Rattle.ib_scan_nowait.specs.declared.halt.Halt.{Halt}
use Rattle.ib_leaf.specs.Under.{under_plans}
use Rattle.ib_c.specs.declared.scanned.Scanned.{Scanned}
use Rattle.ib_c.specs.declared.status.Status.{Status}
use Rattle.ib_c.specs.declared.status.Status.TheVariants.{BadKey, NotAllowed, OutOfMemory}
use Rattle.ib_c.specs.Scanned.{scanned_only, told_scan}
use Rattle.ib_c.specs.ScanWords.{HasPut, room_of}
use Rattle.ib_c.specs.Sessions.{Does}

-- the keys that are scanned from and to have 15 bytes at most
abbrev pub AreShort : List ℕ → List ℕ → Type 0
AreShort low high = (length low ≤ 15) × (length high ≤ 15)

-- .. or one has more
abbrev pub IsLong : List ℕ → List ℕ → Type 0
IsLong low high = (15 < length low) ⊎ (15 < length high)

-- no scan with this room was made: the session may make none, or memory for the room lacks
abbrev pub IsRefusedRoom : HeldChunks → SpaceState → PassState → Status → Type 0
IsRefusedRoom room space p NotAllowed = ¬ MayScan space room p
IsRefusedRoom room space p OutOfMemory = MayScan space room p
IsRefusedRoom room space p other = ⊥

-- .. nor where a key has more than 15 bytes
abbrev pub IsRefusedScan : List ℕ → List ℕ → HeldChunks → SpaceState → PassState → Status → Type 0
IsRefusedScan low high room space p BadKey = IsLong low high
IsRefusedScan low high room space p other = AreShort low high × IsRefusedRoom room space p other

-- all was scanned, or the scan ended before at a chunk with no room, or at a latch that was refused: what ib_scan_nowait says of its scan, part by part
pub record IsScan (low high : MapKey) (space : SpaceState) (out : HeldChunks) (p : PassState) (r : Result Record Halt) (new : HeldChunks) (q : PassState) : Type 0 where
  pub rest : IsAtRest space q
  pub scanned : rank low ≤ rank high → IfOk r (λ answer. under_plans space HasScannedAll 1 low high answer out new p q)
  pub fits : rank low ≤ rank high → IfOk r (λ answer. (h : under_plans space HasScannedAll 1 low high answer out new p q) → FitsSeen space.sizes (by_place opening space.sizes.pages) answer h.gone.spans p q)
  pub least : rank low ≤ rank high → OnOk r (p.view.grants.s + 2 ≤ q.view.grants.s)
  pub few : OnOk r (AreFewLooks 0 p.view q.view)
  pub halted : IfErr r (λ halt. under_plans space HasHalted 1 low high halt out new p q)
  -- of keys that do not ascend
  pub none : rank high < rank low → r ≡ Ok (scan_answer low high 0 0 (length p.view.memory.seen))
  pub fits_none : rank high < rank low → IfOk r (λ answer. FitsSeen space.sizes (by_place opening space.sizes.pages) answer [] p q)
  pub same : rank high < rank low → q ≡ p
  pub same_out : rank high < rank low → new ≡ out

-- what a scan came to: its answer, and the chunks that it left
pub record ScanEnd : Type 0 where
  pub answer : Result Record Halt
  pub left : HeldChunks

-- what C is told, and the words of both slices afterwards
pub record Filled : Type 0 where
  pub told : Scanned
  pub chunks : List ℕ
  pub pairs : List ℕ

abbrev pub filled : Scanned → List ℕ → List ℕ → Filled
filled told chunks pairs = record { told = told; chunks = chunks; pairs = pairs }

-- .. of a call that did nothing
abbrev pub unfilled : Status → List ℕ → List ℕ → Filled
unfilled s chunks pairs = filled (scanned_only s) chunks pairs

-- a scan that is refused changes nothing; else it was made from the one key to the other, is told, and the chunks that it left stand in front of the slices
abbrev pub IsScanned : List ℕ → List ℕ → List ℕ → List ℕ → SpaceState → PassState → Result ScanEnd Status → Filled → PassState → Type 0
IsScanned low high chunks pairs space p (Err s) r q = IsRefusedScan low high (room_of chunks pairs) space p s × (q ≡ p) × (r ≡ unfilled s chunks pairs)
IsScanned low high chunks pairs space p (Ok end) r q =
    AreShort low high × MayScan space (room_of chunks pairs) p
    × IsScan (key_of_bytes low) (key_of_bytes high) space (room_of chunks pairs) p end.answer end.left q
    × (r.told ≡ told_scan end.answer end.left) × HasPut end.left chunks pairs r.chunks r.pairs

abbrev pub HasScanned : List ℕ → List ℕ → List ℕ → List ℕ → Does Filled
HasScanned low high chunks pairs space p r q = (answer : Result ScanEnd Status) × IsScanned low high chunks pairs space p answer r q
