-- A record that fits a log fits each longer one; and chunks of the first tree, each read at its place, are what the map has.
use Rattle.std.proofs.Common.{◌≡◌, ℕ, ◌<◌, ◌≤◌, List, [], ◌∷◌, ◌++◌, Some, take, length, ap, sym, subst, ◌∙◌, arith, inl, inr, refl}
use Rattle.std.specs.List.{AllByRecursion}
use Rattle.std.proofs.lemmas.List.{take-append-le}
use Rattle.ib_map.specs.Keys.{MapKey, rank, key_after}
use Rattle.ib_map.specs.Pairs.{Pairs, cut}
use Rattle.ib_map.specs.History.{History, map_after}
use Rattle.ib_map.specs.Replies.{Span, FullRecord, Fits, BeginsAt, AreChunks, FitsScan, pair_count}
use Rattle.ib_map.specs.Runs.{reach_after, AreAnswers}
use Rattle.ib_map.specs.declared.call.Call.{Call}
use Rattle.ib_map.specs.declared.call.Call.TheVariants.{Insert, Delete, Get, Scan}
use Rattle.ib_map.specs.declared.call.Reply.{Reply}
use Rattle.ib_map.specs.declared.call.Reply.TheVariants.{Inserted, Duplicate, Deleted, Missing, Found, NotFound, LogFull, SpaceFull, TooHigh, Scanned}
use Rattle.ib_map.proofs.FitsLaws.{Fits-append, reach_after-le}
use Rattle.ib_map.proofs.KeyLaws.{after-least_above}
use Rattle.ib_map.proofs.RunLaws.{AreAnswers-weaker}
use Rattle.ib_logrec.specs.declared.entry.Entry.{Entry}
use Rattle.ib_logrec.specs.Log.{history_of}
use Rattle.ib_logrec.proofs.LogLaws.{history_of-append, length-history_of}
use Rattle.ib_walk.specs.Pages.{PageMemory}
use Rattle.ib_walk.specs.Walk.{Visit}
use Rattle.ib_walk.specs.Trees.{content_of}
use Rattle.ib_walk.specs.Chunk.{IsChunk, IsChunkLeaf, EndsAt, IsLastKey}
use Rattle.ib_walk.proofs.WalkLaws.{AllByRecursion-append}
use Rattle.ib_tree.specs.Logs.{pages_after}
use Rattle.ib_tree.specs.Scans.{IsReadAt, AreFront, AreWhole}
use Rattle.ib_tree.specs.Fits.{TreeSpace, tree_at, IsLogFull, FitsTreeInsert, FitsDelete, FitsLeaves, FitsTree, FitsLog}

-- a memory at a place is that of a longer log
module _ (space : TreeSpace) (log more : List Entry) where
  front_same : (place : ℕ) → place ≤ length log → take place (log ++ more) ≡ take place log
  front_same place le = take-append-le place log more le

  IsLogFull-longer : (place words cap : ℕ) → place ≤ length log → IsLogFull space log place words cap → IsLogFull space (log ++ more) place words cap
  IsLogFull-longer place words cap le full = record { words_are = rw (front_same place le) full.words_are; cap_is = full.cap_is; short = full.short }

  FitsInsert-longer : (key : MapKey) (reply : Reply) (place : ℕ) → place ≤ length log → FitsTreeInsert space log key reply place → FitsTreeInsert space (log ++ more) key reply place
  FitsInsert-longer key TooHigh place le fits = rw (front_same place le) fits
  FitsInsert-longer key (SpaceFull free need) place le fits = rw (front_same place le) fits
  FitsInsert-longer key (LogFull words cap) place le fits =
      (rw (front_same place le) fits.0, rw (front_same place le) fits.1, IsLogFull-longer place words cap le fits.2)
  FitsInsert-longer key Inserted place le fits = tt
  FitsInsert-longer key Duplicate place le fits = tt
  FitsInsert-longer key (Deleted value) place le fits = tt
  FitsInsert-longer key Missing place le fits = tt
  FitsInsert-longer key (Found value) place le fits = tt
  FitsInsert-longer key NotFound place le fits = tt
  FitsInsert-longer key (Scanned chunks pairs) place le fits = tt

  FitsDelete-longer : (reply : Reply) (place : ℕ) → place ≤ length log → FitsDelete space log reply place → FitsDelete space (log ++ more) reply place
  FitsDelete-longer (LogFull words cap) place le fits = IsLogFull-longer place words cap le fits
  FitsDelete-longer TooHigh place le fits = tt
  FitsDelete-longer (SpaceFull free need) place le fits = tt
  FitsDelete-longer Inserted place le fits = tt
  FitsDelete-longer Duplicate place le fits = tt
  FitsDelete-longer (Deleted value) place le fits = tt
  FitsDelete-longer Missing place le fits = tt
  FitsDelete-longer (Found value) place le fits = tt
  FitsDelete-longer NotFound place le fits = tt
  FitsDelete-longer (Scanned chunks pairs) place le fits = tt

  FitsLeaves-longer : (high : MapKey) (span : Span) → span.place ≤ length log → FitsLeaves space log high span → FitsLeaves space (log ++ more) high span
  FitsLeaves-longer high span le fits = subst (λ es. IsChunk (pages_after space.opening es) 1 span.low high span.high span.pairs) (sym (front_same span.place le)) fits

  -- the places of chunks lie within the history
  AllLeaves-longer : (low high end_key : MapKey) (floor : ℕ) (spans : List Span) (end : ℕ) → AreChunks (history_of log) low high floor spans end
      → AllByRecursion (FitsLeaves space log end_key) spans → AllByRecursion (FitsLeaves space (log ++ more) end_key) spans
  AllLeaves-longer low high end_key floor [] end are fits = tt
  AllLeaves-longer low high end_key floor (span ∷ []) end are fits = (FitsLeaves-longer end_key span (within span are.0.holds.0) fits.0, tt)
    where
      within : (span : Span) → span.place ≤ length (history_of log) → span.place ≤ length log
      within span le = omega (arith, length-history_of log)
  AllLeaves-longer low high end_key floor (span ∷ next ∷ spans) end are fits =
      let le : span.place ≤ length (history_of log) = are.0.holds.0 in
      (FitsLeaves-longer end_key span (omega (arith, length-history_of log)) fits.0, AllLeaves-longer next.low high end_key span.place (next ∷ spans) end are.3 fits.1)

  ScanLeaves-longer : (reach : ℕ) (low high end_key : MapKey) (spans : List Span) (place : ℕ) → FitsScan (history_of log) reach low high spans place
      → AllByRecursion (FitsLeaves space log end_key) spans → AllByRecursion (FitsLeaves space (log ++ more) end_key) spans
  ScanLeaves-longer reach low high end_key [] place are fits = tt
  ScanLeaves-longer reach low high end_key (span ∷ spans) place are fits = AllLeaves-longer low high end_key 0 (span ∷ spans) place are.1 fits

  FitsTree-longer : (session reach : ℕ) (call : Call) (reply : Reply) (place : ℕ) (spans : List Span) → Fits (history_of log) session reach (record { call = call; reply = reply; place = place; spans = spans })
      → FitsTree space log call reply place spans → FitsTree space (log ++ more) call reply place spans
  FitsTree-longer session reach (Insert key value) reply place spans map fits = let le = map.0 in FitsInsert-longer key reply place (omega (arith, length-history_of log)) fits
  FitsTree-longer session reach (Delete key) reply place spans map fits = let le = map.0 in FitsDelete-longer reply place (omega (arith, length-history_of log)) fits
  FitsTree-longer session reach (Get key) reply place spans map fits = tt
  FitsTree-longer session reach (Scan low high) reply place spans map fits = ScanLeaves-longer reach low high high spans place map.1.1 fits

  -- a record that fits a log fits each longer one
  pub FitsLog-longer : (session reach : ℕ) (r : FullRecord) → FitsLog space log session reach r → FitsLog space (log ++ more) session reach r
  FitsLog-longer session reach r fits = record {
    map = subst (λ h. Fits h session reach r) (sym (history_of-append log more)) (Fits-append (history_of log) (history_of more) session reach r fits.map);
    tree = FitsTree-longer session reach r.call r.reply r.place r.spans fits.map fits.tree;
  }

  pub answers_longer : (session reach : ℕ) (rs : List FullRecord) → AreAnswers (FitsLog space log session) reach rs → AreAnswers (FitsLog space (log ++ more) session) reach rs
  answers_longer session reach rs are = AreAnswers-weaker (FitsLog space log session) (FitsLog space (log ++ more) session) (FitsLog-longer session) reach rs are

-- a session has seen no more than all of the log
pub FitsLog-within : (space : TreeSpace) (log : List Entry) (session reach : ℕ) (r : FullRecord) → FitsLog space log session reach r → reach_after r ≤ length log
FitsLog-within space log session reach r fits = let le = reach_after-le (history_of log) session reach r fits.map in omega (arith, length-history_of log)

-- records have one last key
last-alone : (x : MapKey × ℕ) (b : MapKey) → IsLastKey (x ∷ []) b → x.0 ≡ b
last-alone x b ([], value, is) = cc
last-alone x b (y ∷ [], value, is) = cc
last-alone x b (y ∷ z ∷ ys, value, is) = cc

last-cons : (x y : MapKey × ℕ) (xs : Pairs) (a : MapKey) → IsLastKey (x ∷ y ∷ xs) a → IsLastKey (y ∷ xs) a
last-cons x y xs a ([], value, is) = cc
last-cons x y xs a (z ∷ front, value, is) = (front, value, cc)

pub last-same : (xs : Pairs) (a b : MapKey) → IsLastKey xs a → IsLastKey xs b → a ≡ b
last-same [] a b ([], value, is) two = cc
last-same [] a b (y ∷ ys, value, is) two = cc
last-same (x ∷ []) a b one two = sym (last-alone x a one) ∙ last-alone x b two
last-same (x ∷ y ∷ xs) a b one two = last-same (y ∷ xs) a b (last-cons x y xs a one) (last-cons x y xs b two)

-- a chunk does not end below its start, nor above the scan
last-above : (memory : PageMemory) (start high end : MapKey) (leaf : Visit) (back : List Visit) (front : List Visit) (root : ℕ) → rank start ≤ rank high
    → IsChunkLeaf memory root start front leaf back → EndsAt (memory leaf.page).records back high end → (rank start ≤ rank end) × (rank end ≤ rank high)
last-above memory start high end leaf [] front root le at ends = let e : rank end ≡ rank high = ap rank ends in (omega arith, omega arith)
last-above memory start high end leaf (next ∷ back) front root le at ends = elim ends.2 [
  | inl to ↦ let e : rank end ≡ rank high = ap rank to.1 in (omega arith, omega arith)
  | inr below ↦
      let e : rank end ≡ rank ends.0 = ap rank below.1 in let lt = below.0 in
      elim at.stops [
        | inl none ↦ cc
        | inr some ↦ let same = last-same (memory leaf.page).records some.0 ends.0 some.1 ends.1 in let f : rank some.0 ≡ rank ends.0 = ap rank same in let up = some.2 in (omega arith, omega arith)
      ]
]

pub IsChunk-bounds : (memory : PageMemory) (root : ℕ) (start high end : MapKey) (pairs : Pairs) → rank start ≤ rank high → IsChunk memory root start high end pairs → (rank start ≤ rank end) × (rank end ≤ rank high)
IsChunk-bounds memory root start high end pairs le chunk = last-above memory start high end chunk.leaf chunk.back chunk.front root le chunk.at chunk.ends

-- chunks at no place before a floor are at none before 0
begins_low : (h : History) (low : MapKey) (floor : ℕ) (span : Span) → BeginsAt h low floor span → BeginsAt h low 0 span
begins_low h low floor span at = record { begins = at.begins; ends = at.ends; placed = omega arith; holds = at.holds }

lower_floor : (h : History) (low high : MapKey) (floor : ℕ) (spans : List Span) (end : ℕ) → AreChunks h low high floor spans end → AreChunks h low high 0 spans end
lower_floor h low high floor [] end are = are
lower_floor h low high floor (span ∷ []) end are = (begins_low h low floor span are.0, are.1, are.2)
lower_floor h low high floor (span ∷ next ∷ spans) end are = (begins_low h low floor span are.0, are.1, are.2, are.3)

-- over a log whose first tree has at each place what the map has there
module _ (space : TreeSpace) (log : List Entry) (content : (n : ℕ) → n ≤ length log → content_of (tree_at space log n) 1 ≡ map_after (history_of log) n) (high : MapKey) where
  begins_at : (low : MapKey) (floor : ℕ) (span : Span) → rank low ≤ rank high → IsReadAt space.opening log 1 low high floor span → BeginsAt (history_of log) low floor span
  begins_at low floor span le read =
      let bounds = IsChunk-bounds (tree_at space log span.place) 1 low high span.high span.pairs le read.chunk in
      let within : span.place ≤ length log = read.within in
      record {
        begins = read.begins;
        ends = bounds.0;
        placed = read.placed;
        holds = (omega (arith, length-history_of log), read.chunk.holds ∙ ap (λ m. cut m low span.high) (content span.place within) ∙ ap (λ key. cut (map_after (history_of log) span.place) key span.high) (sym read.begins));
      }

  leaves_at : (low : MapKey) (floor : ℕ) (span : Span) → IsReadAt space.opening log 1 low high floor span → FitsLeaves space log high span
  leaves_at low floor span read = subst (λ key. IsChunk (tree_at space log span.place) 1 key high span.high span.pairs) (sym read.begins) read.chunk

  -- one chunk in front of others
  chunk_before : (low after : MapKey) (floor : ℕ) (span : Span) (spans : List Span) (end : ℕ) → BeginsAt (history_of log) low floor span → rank span.high < rank high → key_after span.high ≡ Some after
      → AreChunks (history_of log) after high span.place spans end → AreChunks (history_of log) low high floor (span ∷ spans) end
  chunk_before low after floor span [] end at lt is are = absurd are
  chunk_before low after floor span (next ∷ spans) end at lt is are =
      let begins = first_begins spans are in
      (at, lt, is ∙ ap (λ (key : MapKey). Some key) (sym begins), subst (λ key. AreChunks (history_of log) key high span.place (next ∷ spans) end) (sym begins) are)
    where
      first_begins : (spans : List Span) → AreChunks (history_of log) after high span.place (next ∷ spans) end → next.low ≡ after
      first_begins [] are = are.0.begins
      first_begins (x ∷ xs) are = are.0.begins

  chunks_with : (low next : MapKey) (floor between : ℕ) (front : List Span) (last : Span) (end : ℕ) → rank low ≤ rank high → AreFront space.opening log 1 low high floor front next between
      → IsReadAt space.opening log 1 next high between last → last.high ≡ high → end ≡ last.place → AreChunks (history_of log) low high floor (front ++ last ∷ []) end
  chunks_with low next floor between [] last end le are read to placed =
      (begins_at low floor last le (subst (λ n. IsReadAt space.opening log 1 low high n last) are.1 (subst (λ key. IsReadAt space.opening log 1 key high between last) are.0 read)), to, placed)
  chunks_with low next floor between (span ∷ front) last end le are read to placed =
      let up = (after-least_above span.high are.2.0 high are.2.1).0 are.1 in
      chunk_before low are.2.0 floor span (front ++ last ∷ []) end (begins_at low floor span le are.0) are.1 are.2.1
      (chunks_with are.2.0 next span.place between front last end up are.2.2 read to placed)

  front_leaves : (low next : MapKey) (floor between : ℕ) (front : List Span) → AreFront space.opening log 1 low high floor front next between → AllByRecursion (FitsLeaves space log high) front
  front_leaves low next floor between [] are = tt
  front_leaves low next floor between (span ∷ front) are = (leaves_at low floor span are.0, front_leaves are.2.0 next span.place between front are.2.2)

  -- a whole scan's chunks are what the map has
  pub chunks_whole : (low : MapKey) (floor : ℕ) (spans : List Span) (end : ℕ) → rank low ≤ rank high → AreWhole space.opening log 1 low high floor spans end → AreChunks (history_of log) low high floor spans end
  chunks_whole low floor spans end le whole =
      subst (λ xs. AreChunks (history_of log) low high floor xs end) (sym whole.are)
      (chunks_with low whole.next floor whole.before_place whole.front whole.last end le whole.before whole.read whole.to whole.placed)

  -- .. so the record of a whole scan fits
  pub FitsLog-whole : (session reach : ℕ) (low : MapKey) (floor : ℕ) (spans : List Span) (end : ℕ) → rank low ≤ rank high → AreWhole space.opening log 1 low high floor spans end
      → FitsLog space log session reach (record { call = Scan low high; reply = Scanned (length spans) (pair_count spans); place = end; spans = spans })
  FitsLog-whole session reach low floor spans end le whole = record {
    map = (
      let within = whole.read.within in let at = whole.placed in omega (arith, length-history_of log),
      (refl, fits_scan spans (chunks_whole low floor spans end le whole)),
    );
    tree = subst (AllByRecursion (FitsLeaves space log high)) (sym whole.are)
        (AllByRecursion-append (FitsLeaves space log high) whole.front (whole.last ∷ []) (front_leaves low whole.next floor whole.before_place whole.front whole.before)
        (leaves_at whole.next whole.before_place whole.last whole.read, tt));
  }
    where
      fits_scan : (xs : List Span) → AreChunks (history_of log) low high floor xs end → FitsScan (history_of log) reach low high xs end
      fits_scan [] are = absurd are
      fits_scan (x ∷ xs) are = (le, lower_floor (history_of log) low high floor (x ∷ xs) end are)
