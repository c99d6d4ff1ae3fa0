-- A session's calls, one after another: what each adds to what the session was answered.
use Rattle.std.specs.List.{AllByRecursion, concat, filter_map}
use Rattle.std.proofs.Common.{◌≡◌, inl, inr, ℕ, ◌+◌, ◌-◌, ◌<◌, ◌≤◌, Bool, true, false, List, [], ◌∷◌, ◌++◌, Option, Some, None, cond, map, length, refl, sym, ap, subst, ◌∙◌, arith, append_assoc, append-nil, length-append, length-drop, drop, slice_get}
use Rattle.std.proofs.lemmas.Bool.{le-leb, lt-leb}
use Rattle.std.proofs.lemmas.List.{map-append, length-map, length-take-le}
use Rattle.std.proofs.lemmas.List.Elements.{filter_map-append}
use Rattle.std.proofs.lemmas.List.Folds.{concat-append}
use Rattle.std.proofs.lemmas.List.Sums.{sum_by-append, sum_by-cons}
use Rattle.ib_map.specs.Keys.{MapKey, rank}
use Rattle.ib_map.specs.Pairs.{Pairs, value_at}
use Rattle.ib_map.specs.Map.{is_made, lookup_answer}
use Rattle.ib_map.specs.Chunks.{HeldChunks, spans_of, span_of, pairs_of, AreAdjacent}
use Rattle.ib_map.specs.FullRecords.{chunk_count, full_records, total_chunks}
use Rattle.ib_map.specs.History.{History, map_after}
use Rattle.ib_map.specs.Replies.{Span, FullRecord, full_record, change_of, IsEntryOf, FitsChange, FitsCall, pair_count}
use Rattle.ib_map.specs.Runs.{first_span_place, reach_after, reach_of, AreAnswers, change_made}
use Rattle.ib_map.specs.declared.call.Call.{Call}
use Rattle.ib_map.specs.declared.call.Call.TheVariants.{Insert, Delete, Get, Scan}
use Rattle.ib_map.specs.declared.call.Change.{Change}
use Rattle.ib_map.specs.declared.call.Change.TheVariants.{Insert as InsertChange, Delete as DeleteChange}
use Rattle.ib_map.specs.declared.call.LoggedChange.{LoggedChange}
use Rattle.ib_map.specs.declared.call.Record.{Record}
use Rattle.ib_map.specs.declared.call.Reply.{Reply}
use Rattle.ib_map.specs.declared.call.Reply.TheVariants.{Inserted, Duplicate, Deleted, Missing, Found, NotFound, LogFull, SpaceFull, TooHigh, Scanned}
use Rattle.ib_map.specs.declared.chunks.Chunk.{Chunk}
use Rattle.ib_map.proofs.ChunkLaws.{AreAdjacent-le}
use Rattle.ib_map.proofs.FullRecordLaws.{full_records-push, total_chunks-push}
use Rattle.ib_map.proofs.HistoryLaws.{slice_get-last}
use Rattle.ib_map.proofs.RunLaws.{reach_of-push, AreAnswers-push, AreAnswers-weaker}
use Rattle.ib_layout.specs.Geometry.{Sizes}
use Rattle.ib_logrec.specs.declared.entry.Entry.{Entry}
use Rattle.ib_logrec.specs.Log.{history_of, logged, used}
use Rattle.ib_logrec.proofs.LogLaws.{history_of-push, length-history_of}
use Rattle.ib_walk.proofs.ChoiceLaws.{Some-same}
use Rattle.ib_tree.specs.Scans.{AreFront, AreWhole}
use Rattle.ib_rule.specs.Memory.{entries_of}
use Rattle.ib_rule.specs.Pass.{PassState}
use Rattle.ib_rule.specs.Views.{total}
use Rattle.ib_cursor.specs.Going.{IsKnown}
use Rattle.ib_cursor.proofs.LatchingLaws.{bounds-append}
use Rattle.ib_scan.proofs.FrontLaws.{whole_lower}
use Rattle.ib_leaf.specs.Calls.{CallLaw, HasCalledBy, MakesOwn}
use Rattle.ib_index.proofs.LookupLaws.{lookup-made}
use Rattle.ib_runs.specs.Answers.{KeptAnswers, answers_of}
use Rattle.ib_runs.specs.Sessions.{AreBehind, EachIsBehind, HasAnswered, IsBehind, TakesGrants, changes_in, least_grants, most_grants}
use Rattle.ib_runs.specs.Shared.{FitLaws, IsNoScan, LogLaws, scan_record}
use Rattle.ib_runs.specs.Steps.{HasOneMore, HasReadAll, HasReadKeys, IsAnswered, KnownLaws}
use Rattle.ib_runs.proofs.GrantLaws.{takes_one}

-- the change that a record made stands in the history at its place
made-entry : (h : History) (session : ℕ) (change : Change) (reply : Reply) (place : ℕ) → is_made reply ≡ true → FitsChange h session change reply place → IsEntryOf h place session change
made-entry h session change Inserted place made fits = fits.1
made-entry h session change (Deleted value) place made fits = fits.1
made-entry h session change Duplicate place made fits = cc
made-entry h session change Missing place made fits = cc
made-entry h session change (LogFull used cap) place made fits = cc
made-entry h session change (SpaceFull free need) place made fits = cc
made-entry h session change TooHigh place made fits = cc
made-entry h session change (Found value) place made fits = cc
made-entry h session change NotFound place made fits = cc
made-entry h session change (Scanned chunks pairs) place made fits = cc

record HasMade (h : History) (session : ℕ) (call : Call) (place : ℕ) : Type 0 where
  pub change : Change
  pub is : change_of call ≡ Some change
  pub entry : IsEntryOf h place session change

call-made : (h : History) (session reach : ℕ) (call : Call) (reply : Reply) (place : ℕ) (spans : List Span) → is_made reply ≡ true → FitsCall h session reach call reply place spans → HasMade h session call place
call-made h session reach (Insert key value) reply place spans made fits = record { change = InsertChange key value; is = refl; entry = made-entry h session (InsertChange key value) reply place made fits.0 }
call-made h session reach (Delete key) reply place spans made fits = record { change = DeleteChange key; is = refl; entry = made-entry h session (DeleteChange key) reply place made fits.0 }
call-made h session reach (Get key) reply place spans made fits = let none = ap is_made fits.0 ∙ lookup-made (value_at key (map_after h place)) in let bad = sym made ∙ none in cc
call-made h session reach (Scan low high) reply place spans made fits = let bad = sym made ∙ ap is_made fits.0 in cc

-- what a record made, as a list
made-none : (r : FullRecord) → is_made r.reply ≡ false → filter_map change_made (r ∷ []) ≡ []
made-none r none = rw none refl

made-one : (r : FullRecord) (change : Change) → is_made r.reply ≡ true → change_of r.call ≡ Some change → filter_map change_made (r ∷ []) ≡ change ∷ []
made-one r change made is = rw (made, is) refl

-- the last entry of a log has the change that stands at its place
last-change : (front : List Entry) (e : Entry) (session place : ℕ) (change : Change) → place ≡ length front → IsEntryOf (history_of (front ++ e ∷ [])) place session change → change ≡ e.change
last-change front e session place change at entry =
    let l : slice_get (history_of (front ++ e ∷ [])) place ≡ Some (logged e) =
    ap (λ h. slice_get h place) (history_of-push front e) ∙ (ap (slice_get (history_of front ++ logged e ∷ [])) (at ∙ sym (length-history_of front)) ∙ slice_get-last (history_of front) (logged e)) in
    let same : entry.0 ≡ logged e = Some-same entry.0 (logged e) (sym entry.1 ∙ l) in
    sym entry.3 ∙ ap (λ (x : LoggedChange). x.change) same

module _ (law : CallLaw) (records : FitLaws law) (sizes : Sizes) (call : Call) (plain : IsNoScan call) (answer : Record) (p q : PassState) (h : HasCalledBy law.fits sizes law.lawful call answer p q) where
  abbrev the_record : FullRecord
  the_record = full_record answer []

  -- it fits the map
  by-map : FitsCall (history_of q.view.memory.seen) q.number (length p.view.memory.seen) answer.call answer.reply answer.place []
  by-map = (records.by_map q.view.memory.seen q.number (length p.view.memory.seen) the_record (subst IsNoScan (sym h.call_is) plain) h.fits).1

  own-more : (b : Bool) → is_made answer.reply ≡ b → MakesOwn b q.view.memory.seen p.view.memory.own q.view.memory.own
      → changes_in q.view.memory.own ≡ changes_in p.view.memory.own ++ filter_map change_made (the_record ∷ [])
  own-more false made own = ap changes_in own ∙ sym (ap (λ cs. changes_in p.view.memory.own ++ cs) (made-none the_record made) ∙ append-nil (changes_in p.view.memory.own))
  own-more true made own =
      let front = own.0 in let e = own.1 in
      let m = call-made (history_of q.view.memory.seen) q.number (length p.view.memory.seen) answer.call answer.reply answer.place [] made by-map in
      let reach : length q.view.memory.seen ≡ answer.place + 1 = h.reach ∙ ap (λ b. cond {A = ℕ} b (answer.place + 1) answer.place) made in
      let seen : q.view.memory.seen ≡ front ++ e ∷ [] = own.2 in
      let len = ap length seen ∙ length-append front (e ∷ []) in
      let entry = subst (λ log. IsEntryOf (history_of log) answer.place q.number m.change) seen m.entry in
      let is : m.change ≡ e.change = last-change front e q.number answer.place m.change (omega arith) entry in
      ap changes_in own.3 ∙ (map-append (λ (x : Entry). x.change) p.view.memory.own (e ∷ [])
      ∙ sym (ap (λ cs. changes_in p.view.memory.own ++ cs) (made-one the_record e.change made (m.is ∙ ap Some is))))

  -- a call answered one command
  pub call_answered : IsAnswered law sizes call the_record p q
  unfolding own-more
  call_answered = record {
    number = h.number;
    more = h.more;
    seen = h.seen;
    known = h.known;
    call_is = h.call_is;
    fits = h.fits;
    from = h.from;
    first = h.from;
    reach = h.reach;
    made = own-more (is_made answer.reply) refl h.own;
    looks = inr (record { first = h.first; rest = h.rest; ends = h.ends; bounds = h.bounds; at = (h.looked, tt) });
  }

-- a change counts no chunk
change-counts : (h : History) (session : ℕ) (change : Change) (reply : Reply) (place : ℕ) → FitsChange h session change reply place → chunk_count reply ≡ 0
change-counts h session change Inserted place fits = refl
change-counts h session change Duplicate place fits = refl
change-counts h session change (Deleted value) place fits = refl
change-counts h session change Missing place fits = refl
change-counts h session change (Found value) place fits = refl
change-counts h session change NotFound place fits = refl
change-counts h session change (LogFull used cap) place fits = refl
change-counts h session change (SpaceFull free need) place fits = refl
change-counts h session change TooHigh place fits = refl
change-counts h session change (Scanned chunks pairs) place fits = absurd fits

lookup-counts : (o : Option ℕ) → chunk_count (lookup_answer o) ≡ 0
lookup-counts None = refl
lookup-counts (Some value) = refl

call-counts : (h : History) (session reach : ℕ) (call : Call) (reply : Reply) (place : ℕ) → IsNoScan call → FitsCall h session reach call reply place [] → chunk_count reply ≡ 0
call-counts h session reach (Insert key value) reply place plain fits = change-counts h session (InsertChange key value) reply place fits.0
call-counts h session reach (Delete key) reply place plain fits = change-counts h session (DeleteChange key) reply place fits.0
call-counts h session reach (Get key) reply place plain fits = ap chunk_count fits.0 ∙ lookup-counts (value_at key (map_after h place))
call-counts h session reach (Scan low high) reply place plain fits = absurd plain

length-spans : (c : HeldChunks) → length (spans_of c.list c.pairs) ≡ length c.list
length-spans c = length-map c.list (span_of c.pairs)

-- what was answered fits each longer log
pub answers_longer : (law : CallLaw) (records : FitLaws law) (log more : List Entry) (session reach : ℕ) (rs : List FullRecord) → AreAnswers (law.fits log session) reach rs → AreAnswers (law.fits (log ++ more) session) reach rs
answers_longer law records log more session reach rs are = AreAnswers-weaker (law.fits log session) (law.fits (log ++ more) session) (records.longer log more session) reach rs are

-- one record more, of a call that is no scan
pub call_more : (law : CallLaw) (fits : FitLaws law) (guesses : Bool) (sizes : Sizes) (call : Call) (answer : Record) (old new : KeptAnswers) (p q : PassState) → IsNoScan call → total_chunks old.records ≡ length old.chunks.list
    → new.records ≡ old.records ++ answer ∷ [] → new.chunks ≡ old.chunks → HasCalledBy law.fits sizes law.lawful call answer p q
    → TakesGrants guesses (call ∷ []) p q → HasOneMore law guesses sizes call old new p q
call_more law fits guesses sizes call answer old new p q plain whole records chunks h takes =
    let none : chunk_count answer.reply ≡ 0 = call-counts (history_of q.view.memory.seen) q.number (length p.view.memory.seen) answer.call answer.reply answer.place (subst IsNoScan (sym h.call_is) plain) (by-map law fits sizes call plain answer p q h) in
    let spans = spans_of old.chunks.list old.chunks.pairs in
    let long = length-spans old.chunks in
    record {
      r = full_record answer [];
      answered = call_answered law fits sizes call plain answer p q h;
      answers = ap (λ (c : HeldChunks). full_records new.records (spans_of c.list c.pairs)) chunks ∙ (ap (λ rs. full_records rs spans) records
          ∙ (ap (full_records (old.records ++ answer ∷ [])) (sym (append-nil spans)) ∙ full_records-push old.records spans [] answer (omega arith) none));
      whole = ap total_chunks records ∙ (total_chunks-push old.records answer ∙ (let e : length new.chunks.list ≡ length old.chunks.list = ap (λ (c : HeldChunks). length c.list) chunks in omega arith));
      takes = takes;
    }

-- the pairs of adjacent chunks are all those between their ends
adjacent-count : (start : ℕ) (list : List Chunk) (end : ℕ) (pairs : Pairs) → AreAdjacent start list end → end ≤ length pairs → start + pair_count (spans_of list pairs) ≡ end
adjacent-count start [] end pairs are le = omega (arith, are)
adjacent-count start (chunk ∷ list) end pairs are le =
    let rest = adjacent-count (start + chunk.len) list end pairs are.1 le in
    let within = AreAdjacent-le (start + chunk.len) list end are.1 in
    let at = are.0 in
    let long = length-drop chunk.start pairs in
    let one : length (pairs_of chunk pairs) ≡ chunk.len = length-take-le chunk.len (drop chunk.start pairs) (omega arith) in
    let all = sum_by-cons (λ (s : Span). length s.pairs) (span_of pairs chunk) (spans_of list pairs) in
    omega arith

pub chunks_counted : (c : HeldChunks) → AreAdjacent 0 c.list (length c.pairs) → pair_count (spans_of c.list c.pairs) ≡ length c.pairs
chunks_counted c are = let e = adjacent-count 0 c.list (length c.pairs) c.pairs are (omega arith) in omega arith

-- no chunk of a scan stands before the first end that it found
front-places : (start : ℕ → ℕ) (root : ℕ) (log : List Entry) (low high : MapKey) (floor least : ℕ) (spans : List Span) (next : MapKey) (last : ℕ) → least ≤ floor → AreFront start log root low high floor spans next last
    → AllByRecursion (λ n. least ≤ n) (map (λ (s : Span). s.place) spans) × (least ≤ last)
front-places start root log low high floor least [] next last le are = (tt, (let e = are.1 in omega arith))
front-places start root log low high floor least (span ∷ spans) next last le are =
    let here : least ≤ span.place = (let a = are.0.placed in omega arith) in
    let rest = front-places start root log are.2.0 high span.place least spans next last here are.2.2 in
    ((here, rest.0), rest.1)

whole-places : (start : ℕ → ℕ) (root : ℕ) (log : List Entry) (low high : MapKey) (floor : ℕ) (spans : List Span) (end : ℕ) → AreWhole start log root low high floor spans end → AllByRecursion (λ n. floor ≤ n) (map (λ (s : Span). s.place) spans)
whole-places start root log low high floor spans end w =
    let f = front-places start root log low high floor floor w.front w.next w.before_place (omega arith) w.before in
    let last : floor ≤ w.last.place = (let a = f.1 in let b = w.read.placed in omega arith) in
    subst (λ xs. AllByRecursion (λ n. floor ≤ n) (map (λ (s : Span). s.place) xs)) (sym w.are)
    (subst (AllByRecursion (λ n. floor ≤ n)) (sym (map-append (λ (s : Span). s.place) w.front (w.last ∷ []))) (bounds-append (λ n. floor ≤ n) (map (λ (s : Span). s.place) w.front) (w.last.place ∷ []) f.0 (last, tt)))

first-least : (least floor : ℕ) (spans : List Span) (place : ℕ) → least ≤ floor → least ≤ place → AllByRecursion (λ n. floor ≤ n) (map (λ (s : Span). s.place) spans) → least ≤ first_span_place spans place
first-least least floor [] place le at all = at
first-least least floor (span ∷ spans) place le at all = let a = all.0 in omega arith

module _ (guesses : Bool) (low high : MapKey) where
  -- the fewest grants of a scan
  scan-none : rank high < rank low → least_grants guesses (Scan low high) ≡ 0
  scan-none lt = rw (lt-leb (rank low) (rank high) lt) refl

  scan-some : rank low ≤ rank high → least_grants guesses (Scan low high) ≡ 2
  scan-some le = rw (le-leb (rank low) (rank high) le) refl

module _ (law : CallLaw) (root : ℕ) (guesses : Bool) (sizes : Sizes) (laws : KnownLaws law root sizes) (low high : MapKey) (old new : KeptAnswers) (p q : PassState) (whole : total_chunks old.records ≡ length old.chunks.list) where
  abbrev fit_laws : FitLaws law
  fit_laws = laws.records

  abbrev log_laws : LogLaws law root sizes.pages
  log_laws = laws.logs

  -- the record of a scan stands behind the others, with its chunks
  scan-more : (spans : List Span) (answer : Record) → IsAnswered law sizes (Scan low high) (scan_record low high spans answer.place) p q → new.records ≡ old.records ++ answer ∷ []
      → spans_of new.chunks.list new.chunks.pairs ≡ spans_of old.chunks.list old.chunks.pairs ++ spans
      → answer ≡ record { call = Scan low high; reply = Scanned (length spans) (pair_count spans); place = answer.place }
      → total p.view.grants + least_grants guesses (Scan low high) ≤ total q.view.grants → total q.view.grants ≤ total p.view.grants + most_grants guesses (Scan low high) → HasOneMore law guesses sizes (Scan low high) old new p q
  scan-more spans answer h records more is least grants =
      let count : chunk_count answer.reply ≡ length spans = ap (λ (a : Record). chunk_count a.reply) is in
      let long = length-spans old.chunks in
      let longer = length-spans new.chunks in
      let all = ap length more ∙ length-append (spans_of old.chunks.list old.chunks.pairs) spans in
      record {
        r = scan_record low high spans answer.place;
        answered = h;
        answers = ap (λ rs. full_records rs (spans_of new.chunks.list new.chunks.pairs)) records ∙ (ap (full_records (old.records ++ answer ∷ [])) more
            ∙ (full_records-push old.records (spans_of old.chunks.list old.chunks.pairs) spans answer (omega arith) count
            ∙ ap (λ (a : Record). answers_of old ++ full_record a spans ∷ []) is));
        whole = ap total_chunks records ∙ (total_chunks-push old.records answer ∙ (omega arith));
        takes = takes_one guesses (Scan low high) p q grants (λ read. least);
      }

  -- a scan with low above high looked at nothing
  none-scanned : (answer : Record) → rank high < rank low → IsKnown sizes law.lawful p → q ≡ p → new.records ≡ old.records ++ answer ∷ [] → new.chunks ≡ old.chunks
      → answer ≡ record { call = Scan low high; reply = Scanned 0 0; place = length p.view.memory.seen } → HasOneMore law guesses sizes (Scan low high) old new p q
  none-scanned answer lt known same records chunks is =
      let place : answer.place ≡ length p.view.memory.seen = ap (λ (a : Record). a.place) is in
      let none : IsAnswered law sizes (Scan low high) (scan_record low high [] (length p.view.memory.seen)) p p = record {
        number = refl;
        more = [];
        seen = sym (append-nil p.view.memory.seen);
        known = known;
        call_is = refl;
        fits = fit_laws.empty p.view.memory.seen p.number low high lt;
        from = omega arith;
        first = omega arith;
        reach = refl;
        made = sym (append-nil (changes_in p.view.memory.own));
        looks = inl (refl, lt);
      } in
      scan-more [] answer
      (subst (λ n. IsAnswered law sizes (Scan low high) (scan_record low high [] n) p q) (sym place) (subst (λ (s : PassState). IsAnswered law sizes (Scan low high) (scan_record low high [] (length p.view.memory.seen)) p s) (sym same) none))
      records
      (ap (λ (c : HeldChunks). spans_of c.list c.pairs) chunks ∙ sym (append-nil (spans_of old.chunks.list old.chunks.pairs)))
      (is ∙ ap (λ n. record { call = Scan low high; reply = Scanned 0 0; place = n }) (sym place))
      (let e = ap (λ (s : PassState). total s.view.grants) same in let none = scan-none guesses low high lt in omega arith)
      (let e = ap (λ (s : PassState). total s.view.grants) same in omega arith)

  -- a scan read all its chunks
  all-scanned : (answer : Record) (now : HeldChunks) → (h : HasReadAll law root sizes low high old.chunks now p q) → new.records ≡ old.records ++ answer ∷ [] → new.chunks ≡ now
      → AreAdjacent 0 old.chunks.list (length old.chunks.pairs) → AreAdjacent 0 now.list (length now.pairs)
      → answer ≡ record { call = Scan low high; reply = Scanned (length now.list - length old.chunks.list) (length now.pairs - length old.chunks.pairs); place = length q.view.memory.seen }
      → HasOneMore law guesses sizes (Scan low high) old new p q
  all-scanned answer now h records chunks before after is =
      let spans = h.read.spans in
      let first = h.read.first in
      let log = q.view.memory.seen in
      let place : answer.place ≡ length log = ap (λ (a : Record). a.place) is in
      let long = length-spans old.chunks in
      let longer = length-spans now in
      let all = ap length h.read.more ∙ length-append (spans_of old.chunks.list old.chunks.pairs) spans in
      let count : length now.list - length old.chunks.list ≡ length spans = omega arith in
      let a = chunks_counted old.chunks before in
      let b = chunks_counted now after in
      let sums = ap pair_count h.read.more ∙ sum_by-append (λ (s : Span). length s.pairs) (spans_of old.chunks.list old.chunks.pairs) spans in
      let pairs : length now.pairs - length old.chunks.pairs ≡ pair_count spans = omega arith in
      let look : AllByRecursion (λ n. (length p.view.memory.seen ≤ n) × (n ≤ length log)) (first ∷ h.read.rest) = subst (AllByRecursion (λ n. (length p.view.memory.seen ≤ n) × (n ≤ length log))) h.read.looks h.read.went.bounds in
      let places = whole-places law.start root log low high first spans (length log) h.chunks in
      let fits = log_laws.whole log q.number (length p.view.memory.seen) low high spans h.read.known.legal h.ascends (whole_lower law.start root high log low first (length p.view.memory.seen) spans (length log) look.0.0 h.chunks) in
      let answered : IsAnswered law sizes (Scan low high) (scan_record low high spans (length log)) p q = record {
        number = h.read.went.number;
        more = h.read.went.more;
        seen = h.read.went.seen;
        known = h.read.known;
        call_is = refl;
        fits = fits;
        from = (let x = look.0.0 in let y = look.0.1 in omega arith);
        first = (let x = look.0.0 in let y = look.0.1 in first-least (length p.view.memory.seen) first spans (length log) (omega arith) (omega arith) places);
        reach = refl;
        made = ap changes_in h.read.went.own ∙ sym (append-nil (changes_in p.view.memory.own));
        looks = inr (record { first = first; rest = h.read.rest; ends = h.read.went.ends ∙ ap (λ ns. p.view.memory.ends ++ ns) h.read.looks; bounds = look; at = (look.0.1, places) });
      } in
      scan-more spans answer (subst (λ n. IsAnswered law sizes (Scan low high) (scan_record low high spans n) p q) (sym place) answered) records
      (ap (λ (c : HeldChunks). spans_of c.list c.pairs) chunks ∙ h.read.more)
      (is ∙ (ap (λ n. record { call = Scan low high; reply = Scanned n (length now.pairs - length old.chunks.pairs); place = length log }) count
      ∙ (ap (λ n. record { call = Scan low high; reply = Scanned (length spans) n; place = length log }) pairs
      ∙ ap (λ n. record { call = Scan low high; reply = Scanned (length spans) (pair_count spans); place = n }) (sym place))))
      (let two = scan-some guesses low high h.ascends in let a = h.least in omega arith)
      h.grants

  -- a scan read its keys
  pub scan_more : (answer : Record) (now : HeldChunks) → IsKnown sizes law.lawful p → HasReadKeys law root sizes low high old.chunks now p q → new.records ≡ old.records ++ answer ∷ [] → new.chunks ≡ now
      → AreAdjacent 0 old.chunks.list (length old.chunks.pairs) → AreAdjacent 0 now.list (length now.pairs)
      → answer ≡ record { call = Scan low high; reply = Scanned (length now.list - length old.chunks.list) (length now.pairs - length old.chunks.pairs); place = length q.view.memory.seen }
      → HasOneMore law guesses sizes (Scan low high) old new p q
  unfolding none-scanned all-scanned
  scan_more answer now known (inl h) records chunks before after is =
      let a : length now.list - length old.chunks.list ≡ 0 = (let e = ap (λ (c : HeldChunks). length c.list) h.chunks in omega arith) in
      let b : length now.pairs - length old.chunks.pairs ≡ 0 = (let e = ap (λ (c : HeldChunks). length c.pairs) h.chunks in omega arith) in
      none-scanned answer h.below known h.same records (chunks ∙ h.chunks)
      (is ∙ (ap (λ n. record { call = Scan low high; reply = Scanned n (length now.pairs - length old.chunks.pairs); place = length q.view.memory.seen }) a
      ∙ (ap (λ n. record { call = Scan low high; reply = Scanned 0 n; place = length q.view.memory.seen }) b
      ∙ ap (λ (s : PassState). record { call = Scan low high; reply = Scanned 0 0; place = length s.view.memory.seen }) h.same)))
  scan_more answer now known (inr h) records chunks before after is = all-scanned answer now h records chunks before after is

-- a scan leaves no fewer pairs
pub pairs_more : (law : CallLaw) (root : ℕ) (sizes : Sizes) (low high : MapKey) (old now : HeldChunks) (p q : PassState) → HasReadKeys law root sizes low high old now p q → AreAdjacent 0 old.list (length old.pairs) → AreAdjacent 0 now.list (length now.pairs) → length old.pairs ≤ length now.pairs
pairs_more law root sizes low high old now p q (inl h) before after = let e = ap (λ (c : HeldChunks). length c.pairs) h.chunks in omega arith
pairs_more law root sizes low high old now p q (inr h) before after =
    let a = chunks_counted old before in
    let b = chunks_counted now after in
    let sums = ap pair_count h.read.more ∙ sum_by-append (λ (s : Span). length s.pairs) (spans_of old.list old.pairs) h.read.spans in omega arith

-- .. and no fewer chunks
pub chunks_more : (law : CallLaw) (root : ℕ) (sizes : Sizes) (low high : MapKey) (old now : HeldChunks) (p q : PassState) → HasReadKeys law root sizes low high old now p q → length old.list ≤ length now.list
chunks_more law root sizes low high old now p q (inl h) = let e = ap (λ (c : HeldChunks). length c.list) h.chunks in omega arith
chunks_more law root sizes low high old now p q (inr h) =
    let a = length-spans old in
    let b = length-spans now in
    let sums = ap length h.read.more ∙ length-append (spans_of old.list old.pairs) h.read.spans in omega arith

-- the same, of a call and an answer that are these
pub call_more_as : (law : CallLaw) (fits : FitLaws law) (guesses : Bool) (sizes : Sizes) (call asked : Call) (answer given : Record) (old new : KeptAnswers) (p q r : PassState) → call ≡ asked → answer ≡ given → q ≡ r → IsNoScan asked → total_chunks old.records ≡ length old.chunks.list
    → new.records ≡ old.records ++ answer ∷ [] → new.chunks ≡ old.chunks → HasCalledBy law.fits sizes law.lawful asked given p r
    → TakesGrants guesses (asked ∷ []) p r → HasOneMore law guesses sizes call old new p q
call_more_as law fits guesses sizes call asked answer given old new p q r call_is answer_is pass_is plain whole records chunks h takes =
    subst (λ k. HasOneMore law guesses sizes k old new p q) (sym call_is) (subst (HasOneMore law guesses sizes asked old new p) (sym pass_is)
    (call_more law fits guesses sizes asked given old new p r plain whole (records ∙ ap (λ (a : Record). old.records ++ a ∷ []) answer_is) chunks h takes))

-- a session that has seen nothing knows that
pub known_none : (law : CallLaw) (sizes : Sizes) (p : PassState) → law.lawful [] → p.view.memory.seen ≡ [] → p.view.memory.own ≡ [] → IsKnown sizes law.lawful p
known_none law sizes p none seen own = record {
  legal = subst law.lawful (sym seen) none;
  room = (let e = ap used seen in omega arith);
  mine = ap (entries_of p.number) seen ∙ sym own;
}

-- each of the ends found is no further than what is seen
abbrev up_to : ℕ → List ℕ → Type 0
up_to most ns = AllByRecursion (λ n. n ≤ most) ns

up_to-wider : (a b : ℕ) (ns : List ℕ) → a ≤ b → up_to a ns → up_to b ns
up_to-wider a b [] le all = tt
up_to-wider a b (n ∷ ns) le all = ((let x = all.0 in omega arith), up_to-wider a b ns le all.1)

bounds-up : (a b : ℕ) (ns : List ℕ) → AllByRecursion (λ n. (a ≤ n) × (n ≤ b)) ns → up_to b ns
bounds-up a b [] all = tt
bounds-up a b (n ∷ ns) all = (all.0.1, bounds-up a b ns all.1)

each-push : (reach : ℕ) (found : List (List ℕ)) (ends : List ℕ) (rs : List FullRecord) (r : FullRecord) → EachIsBehind reach found rs → IsBehind (reach_of reach rs) ends r → EachIsBehind reach (found ++ ends ∷ []) (rs ++ r ∷ [])
each-push reach [] ends [] r are one = (one, tt)
each-push reach [] ends (x ∷ rs) r are one = absurd are
each-push reach (ns ∷ found) ends [] r are one = absurd are
each-push reach (ns ∷ found) ends (x ∷ rs) r are one = (are.0, each-push (reach_after x) found ends rs r are.1 one)

module _ (law : CallLaw) (records : FitLaws law) (sizes : Sizes) (call : Call) (r : FullRecord) (p q u : PassState) (a : IsAnswered law sizes call r q u) where
  longer : length q.view.memory.seen ≤ length u.view.memory.seen
  longer = let e = ap length a.seen in let l = length-append q.view.memory.seen a.more in omega arith

  found-more : (rs : List FullRecord) (ns : List ℕ) → AreBehind rs p q → u.view.memory.ends ≡ q.view.memory.ends ++ ns → up_to (length u.view.memory.seen) ns → IsBehind (reach_of 0 rs) ns r → AreBehind (rs ++ r ∷ []) p u
  found-more rs ns b more up one =
      let all : concat (b.found ++ ns ∷ []) ≡ concat b.found ++ ns = concat-append b.found (ns ∷ []) ∙ ap (λ ms. concat b.found ++ ms) (append-nil ns) in
      record {
        found = b.found ++ ns ∷ [];
        ends = more ∙ (ap (λ ms. ms ++ ns) b.ends ∙ (append_assoc p.view.memory.ends (concat b.found) ns ∙ ap (λ ms. p.view.memory.ends ++ ms) (sym all)));
        within = subst (up_to (length u.view.memory.seen)) (sym all)
            (bounds-append (λ n. n ≤ length u.view.memory.seen) (concat b.found) ns (up_to-wider (length q.view.memory.seen) (length u.view.memory.seen) (concat b.found) longer b.within) up);
        behind = each-push 0 b.found ns rs r b.behind one;
      }

  behind-push : (rs : List FullRecord) → reach_of 0 rs ≡ length q.view.memory.seen → AreBehind rs p q → AreBehind (rs ++ r ∷ []) p u
  behind-push rs reach b = elim a.looks [
    | inl none ↦ found-more rs [] b (none.0 ∙ sym (append-nil q.view.memory.ends)) tt none.1
    | inr f ↦ found-more rs (f.first ∷ f.rest) b f.ends (bounds-up (length q.view.memory.seen) (length u.view.memory.seen) (f.first ∷ f.rest) f.bounds)
        (subst (λ n. IsBehind n (f.first ∷ f.rest) r) (sym reach) (subst (λ n. AllByRecursion (λ k. (length q.view.memory.seen ≤ k) × (k ≤ n)) (f.first ∷ f.rest)) a.reach f.bounds, f.at))
  ]

  -- one record more
  pub answered_more : (calls : List Call) (rs : List FullRecord) → HasAnswered law sizes calls rs p q → HasAnswered law sizes (calls ++ call ∷ []) (rs ++ r ∷ []) p u
  answered_more calls rs h =
      let fits = subst (λ n. law.fits u.view.memory.seen u.number n r) (sym h.reach) a.fits in
      let old = subst (λ log. AreAnswers (law.fits log u.number) 0 rs) (sym a.seen)
      (answers_longer law records q.view.memory.seen a.more u.number 0 rs (subst (λ n. AreAnswers (law.fits q.view.memory.seen n) 0 rs) (sym a.number) h.answers)) in
      record {
        known = a.known;
        same_calls = map-append (λ (x : FullRecord). x.call) rs (r ∷ []) ∙ (ap (λ cs. cs ++ r.call ∷ []) h.same_calls ∙ ap (λ c. calls ++ c ∷ []) a.call_is);
        answers = AreAnswers-push (law.fits u.view.memory.seen u.number) 0 rs r old fits (let x = h.reach in let y = a.from in omega arith) (let x = h.reach in let y = a.first in omega arith);
        reach = reach_of-push 0 rs r ∙ sym a.reach;
        made = a.made ∙ (ap (λ cs. cs ++ filter_map change_made (r ∷ [])) h.made ∙ sym (filter_map-append change_made rs (r ∷ [])));
        behind = behind-push rs h.reach h.behind;
      }

-- nothing was answered yet
pub answered_none : (law : CallLaw) (sizes : Sizes) (p : PassState) → IsKnown sizes law.lawful p → p.view.memory.seen ≡ [] → p.view.memory.own ≡ [] → HasAnswered law sizes [] [] p p
answered_none law sizes p known seen own = record {
  known = known;
  same_calls = refl;
  answers = tt;
  reach = sym (ap length seen);
  made = ap changes_in own;
  behind = record { found = []; ends = sym (append-nil p.view.memory.ends); within = tt; behind = tt };
}
