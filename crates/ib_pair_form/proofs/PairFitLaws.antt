-- A record that fits the log of a pair fits each longer log, and beside a log of any length where it does not tell of a full one.
use Rattle.std.proofs.Common.{◌≡◌, inl, inr, ℕ, ◌≤◌, Bool, List, ◌++◌, take, length, refl, sym, subst, arith, length-append}
use Rattle.std.proofs.lemmas.List.{take-append-le}
use Rattle.ib_map.specs.Keys.{MapKey}
use Rattle.ib_map.specs.Replies.{Fits, FitsCall, FullRecord, Span}
use Rattle.ib_map.specs.declared.call.Call.{Call}
use Rattle.ib_map.specs.declared.call.Call.TheVariants.{Insert, Delete, Get, Scan}
use Rattle.ib_map.specs.declared.call.Reply.{Reply}
use Rattle.ib_map.specs.declared.call.Reply.TheVariants.{Inserted, Duplicate, Deleted, Missing, Found, NotFound, LogFull, SpaceFull, TooHigh, Scanned}
use Rattle.ib_map.proofs.FitsLaws.{Fits-append}
use Rattle.ib_layout.specs.Geometry.{Sizes}
use Rattle.ib_logrec.specs.declared.entry.Entry.{Entry}
use Rattle.ib_logrec.specs.Log.{history_of}
use Rattle.ib_logrec.proofs.LogLaws.{history_of-append, length-history_of}
use Rattle.ib_walk.specs.Chunk.{IsChunk}
use Rattle.ib_tree.specs.Fits.{FitsDelete, FitsInsert, IsLogFull, TreeSpace, tree_at}
use Rattle.ib_tree.specs.Logs.{pages_after}
use Rattle.ib_tree.specs.Scans.{AreWhole}
use Rattle.ib_scan.proofs.FrontLaws.{front_longer}
use Rattle.ib_pair_law.specs.PairFits.{FitsPairCall, FitsPairLog, FitsSecondScan, is_pair_too_high, pair_need_of}
use Rattle.ib_runs.specs.Alone.{IsNotFull}
use Rattle.ib_runs.specs.Shared.{FitLaws, IsFreeOfLength, IsNoScan, calls_under}
use Rattle.ib_second.specs.PairShared.{pair_law}

-- by the map alone
by-map : (space : TreeSpace) (log : List Entry) (session reach : ℕ) (call : Call) (reply : Reply) (place : ℕ) (spans : List Span) → IsNoScan call → FitsPairCall space log session reach call reply place spans
    → FitsCall (history_of log) session reach call reply place spans
by-map space log session reach (Insert key value) reply place spans plain fits = (fits.0, fits.2)
by-map space log session reach (Delete key) reply place spans plain fits = (fits.0, fits.2)
by-map space log session reach (Get key) reply place spans plain fits = fits
by-map space log session reach (Scan low high) reply place spans plain fits = absurd plain

map-fits : (space : TreeSpace) (log : List Entry) (session reach : ℕ) (r : FullRecord) → IsNoScan r.call → FitsPairLog space log session reach r → Fits (history_of log) session reach r
map-fits space log session reach r plain fits =
    (let l = length-history_of log in let le = fits.0 in omega arith, by-map space log session reach r.call r.reply r.place r.spans plain fits.1)

module _ (space : TreeSpace) (log more : List Entry) where
  front_same : (place : ℕ) → place ≤ length log → take place (log ++ more) ≡ take place log
  front_same place le = take-append-le place log more le

  full-longer : (place words cap : ℕ) → place ≤ length log → IsLogFull space log place words cap → IsLogFull space (log ++ more) place words cap
  full-longer place words cap le full = record { words_are = rw (front_same place le) full.words_are; cap_is = full.cap_is; short = full.short }

  insert-longer : (key : MapKey) (value : ℕ) (reply : Reply) (place : ℕ) → place ≤ length log
      → FitsInsert (is_pair_too_high (tree_at space log place) key value) (pair_need_of (tree_at space log place) key value) space log reply place
      → FitsInsert (is_pair_too_high (tree_at space (log ++ more) place) key value) (pair_need_of (tree_at space (log ++ more) place) key value) space (log ++ more) reply place
  insert-longer key value TooHigh place le fits = rw (front_same place le) fits
  insert-longer key value (SpaceFull free need) place le fits = rw (front_same place le) fits
  insert-longer key value (LogFull words cap) place le fits =
      (rw (front_same place le) fits.0, rw (front_same place le) fits.1, full-longer place words cap le fits.2)
  insert-longer key value Inserted place le fits = tt
  insert-longer key value Duplicate place le fits = tt
  insert-longer key value (Deleted old) place le fits = tt
  insert-longer key value Missing place le fits = tt
  insert-longer key value (Found old) place le fits = tt
  insert-longer key value NotFound place le fits = tt
  insert-longer key value (Scanned chunks pairs) place le fits = tt

  delete-longer : (reply : Reply) (place : ℕ) → place ≤ length log → FitsDelete space log reply place → FitsDelete space (log ++ more) reply place
  delete-longer (LogFull words cap) place le fits = full-longer place words cap le fits
  delete-longer TooHigh place le fits = tt
  delete-longer (SpaceFull free need) place le fits = tt
  delete-longer Inserted place le fits = tt
  delete-longer Duplicate place le fits = tt
  delete-longer (Deleted value) place le fits = tt
  delete-longer Missing place le fits = tt
  delete-longer (Found value) place le fits = tt
  delete-longer NotFound place le fits = tt
  delete-longer (Scanned chunks pairs) place le fits = tt

  whole-longer : (low high : MapKey) (floor : ℕ) (spans : List Span) (end : ℕ) → AreWhole space.opening log 2 low high floor spans end → AreWhole space.opening (log ++ more) 2 low high floor spans end
  whole-longer low high floor spans end w = record {
    front = w.front;
    last = w.last;
    are = w.are;
    next = w.next;
    before_place = w.before_place;
    before = front_longer space.opening 2 high log more low floor w.front w.next w.before_place w.before;
    read = record {
      begins = w.read.begins;
      placed = w.read.placed;
      within = let a = w.read.within in let l = length-append log more in omega arith;
      chunk = subst (λ es. IsChunk (pages_after space.opening es) 2 w.next high w.last.high w.last.pairs) (sym (front_same w.last.place w.read.within)) w.read.chunk;
    };
    to = w.to;
    placed = w.placed;
  }

  scan-longer : (reach : ℕ) (low high : MapKey) (place : ℕ) (spans : List Span) → FitsSecondScan space log reach low high place spans → FitsSecondScan space (log ++ more) reach low high place spans
  scan-longer reach low high place spans (inl none) = inl none
  scan-longer reach low high place spans (inr whole) = inr (whole.0, whole-longer low high reach spans place whole.1)

  -- the map's part of a record that is no scan's, in the longer log
  map-longer : (session reach : ℕ) (r : FullRecord) → IsNoScan r.call → FitsPairLog space log session reach r → FitsCall (history_of (log ++ more)) session reach r.call r.reply r.place r.spans
  map-longer session reach r plain fits =
      (subst (λ h. Fits h session reach r) (sym (history_of-append log more)) (Fits-append (history_of log) (history_of more) session reach r (map-fits space log session reach r plain fits))).1

  call-longer : (session reach : ℕ) (call : Call) (reply : Reply) (place : ℕ) (spans : List Span) → FitsPairLog space log session reach (record { call = call; reply = reply; place = place; spans = spans })
      → FitsPairCall space (log ++ more) session reach call reply place spans
  call-longer session reach (Insert key value) reply place spans fits =
      let m = map-longer session reach (record { call = Insert key value; reply = reply; place = place; spans = spans }) tt fits in (m.0, insert-longer key value reply place fits.0 fits.1.1, m.1)
  call-longer session reach (Delete key) reply place spans fits =
      let m = map-longer session reach (record { call = Delete key; reply = reply; place = place; spans = spans }) tt fits in (m.0, delete-longer reply place fits.0 fits.1.1, m.1)
  call-longer session reach (Get key) reply place spans fits = map-longer session reach (record { call = Get key; reply = reply; place = place; spans = spans }) tt fits
  call-longer session reach (Scan low high) reply place spans fits = (fits.1.0, scan-longer reach low high place spans fits.1.1)

  pair-longer : (session reach : ℕ) (r : FullRecord) → FitsPairLog space log session reach r → FitsPairLog space (log ++ more) session reach r
  pair-longer session reach r fits = (let le = fits.0 in let l = length-append log more in omega arith, call-longer session reach r.call r.reply r.place r.spans fits)

pub pair_records : (sizes : Sizes) → FitLaws (calls_under pair_law sizes)
pair_records sizes = record {
  longer = λ log more session reach r fits. pair-longer _ log more session reach r fits;
  by_map = λ log session reach r plain fits. map-fits _ log session reach r plain fits;
  empty = λ log session low high lt. (omega arith, (refl, inl (refl, lt, refl)));
}

-- beside a log that gets full nothing of a reply depends on how long the log is
module _ (space : TreeSpace) (words : ℕ) (log : List Entry) where
  abbrev other : TreeSpace
  other = record space { log_words = words }

  insert-wider : (high : Bool) (need : ℕ) (reply : Reply) (place : ℕ) → IsNotFull reply → FitsInsert high need space log reply place → FitsInsert high need other log reply place
  insert-wider high need (LogFull used cap) place room fits = absurd room
  insert-wider high need reply place room fits = fits

  delete-wider : (reply : Reply) (place : ℕ) → IsNotFull reply → FitsDelete space log reply place → FitsDelete other log reply place
  delete-wider (LogFull used cap) place room fits = absurd room
  delete-wider reply place room fits = fits

  call-wider : (session reach : ℕ) (call : Call) (reply : Reply) (place : ℕ) (spans : List Span) → IsNotFull reply → FitsPairCall space log session reach call reply place spans → FitsPairCall other log session reach call reply place spans
  call-wider session reach (Insert key value) reply place spans room fits = (fits.0, insert-wider (is_pair_too_high (tree_at space log place) key value) (pair_need_of (tree_at space log place) key value) reply place room fits.1, fits.2)
  call-wider session reach (Delete key) reply place spans room fits = (fits.0, delete-wider reply place room fits.1, fits.2)
  call-wider session reach (Get key) reply place spans room fits = fits
  call-wider session reach (Scan low high) reply place spans room fits = fits

pub pair_free : IsFreeOfLength pair_law
pair_free = record { wider = λ space words log session reach r room fits. (fits.0, call-wider space words log session reach r.call r.reply r.place r.spans room fits.1) }
