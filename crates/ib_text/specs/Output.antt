-- What the program prints of a run: replies, log and map.
use Rattle.std.specs.Prelude.{ℕ, ◌+◌, List, [], ◌∷◌, ◌++◌, ◌==◌, codes, decimal, length, if◌then◌else◌}
use Rattle.std.specs.List.{flat_map}
use Rattle.ib_map.specs.Keys.{MapKey}
use Rattle.ib_map.specs.Pairs.{Pairs}
use Rattle.ib_map.specs.History.{History}
use Rattle.ib_map.specs.Replies.{Span, FullRecord}
use Rattle.ib_map.specs.Runs.{Runs}
use Rattle.ib_map.specs.declared.call.Call.{Call}
use Rattle.ib_map.specs.declared.call.Call.TheVariants.{Insert, Delete, Get, Scan}
use Rattle.ib_map.specs.declared.call.Change.{Change}
use Rattle.ib_map.specs.declared.call.Change.TheVariants.{Insert as InsertChange, Delete as DeleteChange}
use Rattle.ib_map.specs.declared.call.LoggedChange.{LoggedChange}
use Rattle.ib_map.specs.declared.call.Reply.{Reply}
use Rattle.ib_map.specs.declared.call.Reply.TheVariants.{Inserted, Duplicate, Deleted, Missing, Found, NotFound, LogFull, SpaceFull, TooHigh, Scanned}
use Rattle.ib_text.specs.Keys.{key_text, pair_text}

-- a call as its line has it
abbrev pub call_text : Call → List ℕ
call_text (Insert key value) = codes "insert " ++ pair_text (key, value)
call_text (Delete key) = codes "delete " ++ key_text key
call_text (Get key) = codes "get " ++ key_text key
call_text (Scan low high) = codes "scan " ++ key_text low ++ codes " " ++ key_text high

abbrev pub reply_text : Reply → List ℕ
reply_text Inserted = codes "inserted"
reply_text Duplicate = codes "duplicate"
reply_text (Deleted value) = codes "deleted " ++ decimal value
reply_text Missing = codes "missing"
reply_text (Found value) = decimal value
reply_text NotFound = codes "none"
reply_text (LogFull used cap) = codes "log full used " ++ decimal used ++ codes " cap " ++ decimal cap
reply_text (SpaceFull free need) = codes "space full free " ++ decimal free ++ codes " need " ++ decimal need
reply_text TooHigh = codes "too high"
reply_text (Scanned chunks pairs) = decimal pairs ++ codes " pairs"

-- where a call was answered; a scan says it chunk by chunk
abbrev pub place_text : Reply → ℕ → List ℕ
place_text (Scanned chunks pairs) place = []
place_text _ place = codes " at " ++ decimal place

-- a call, its reply and its place on a line
abbrev pub record_line : Call → Reply → ℕ → List ℕ
record_line call reply place = call_text call ++ codes " -> " ++ reply_text reply ++ place_text reply place ++ codes "\n"

-- a pair of a chunk
abbrev pub pair_line : MapKey × ℕ → List ℕ
pair_line pair = codes "pair " ++ pair_text pair ++ codes "\n"

-- a chunk, and its pairs a line each
abbrev pub span_text : Span → List ℕ
span_text span = codes "from " ++ key_text span.low ++ codes " to " ++ key_text span.high ++ codes " at " ++ decimal span.place ++ codes "\n"
    ++ flat_map pair_line span.pairs

-- a chunk before others: neighbours of one place are one
abbrev pub span_and : Span → List Span → List Span
span_and a [] = a ∷ []
span_and a (b ∷ spans) = if a.place == b.place then record a { high = b.high; pairs = a.pairs ++ b.pairs } ∷ spans else a ∷ b ∷ spans

abbrev pub joined_spans : List Span → List Span
joined_spans [] = []
joined_spans (span ∷ spans) = span_and span (joined_spans spans)

-- how the calls of a session are told: a call, its reply and its place as a line, and a chunk of a scan
pub record Telling : Type 0 where
  pub line : Call → Reply → ℕ → List ℕ
  pub span : Span → List ℕ

abbrev pub record_text_by : Telling → FullRecord → List ℕ
record_text_by t r = t.line r.call r.reply r.place ++ flat_map t.span (joined_spans r.spans)

-- a session's part: nothing where it has no command
abbrev pub session_text_by : Telling → ℕ → List FullRecord → List ℕ
session_text_by t session [] = []
session_text_by t session (r ∷ rs) = codes "session " ++ decimal session ++ codes "\n" ++ flat_map (record_text_by t) (r ∷ rs)

-- the parts of sessions, from this number on
abbrev pub sessions_from_by : Telling → ℕ → Runs → List ℕ
sessions_from_by t session [] = []
sessions_from_by t session (rs ∷ runs) = session_text_by t session rs ++ sessions_from_by t (session + 1) runs

-- by the pairs of its chunks: how a scan of a map is told
abbrev pub chunk_telling : Telling
chunk_telling = record { line = record_line; span = span_text }

abbrev pub sessions_from : ℕ → Runs → List ℕ
sessions_from = sessions_from_by chunk_telling

abbrev pub change_text : Change → List ℕ
change_text (InsertChange key value) = codes "insert " ++ pair_text (key, value)
change_text (DeleteChange key) = codes "delete " ++ key_text key

-- a change of the log: whose, which of that session's, and what
abbrev pub log_line : LoggedChange → List ℕ
log_line entry = decimal entry.session ++ codes " " ++ decimal entry.number ++ codes " " ++ change_text entry.change ++ codes "\n"

abbrev pub log_text : History → List ℕ
log_text h = codes "log " ++ decimal (length h) ++ codes "\n" ++ flat_map log_line h

-- a pair of the map
abbrev pub map_line : MapKey × ℕ → List ℕ
map_line pair = pair_text pair ++ codes "\n"

abbrev pub map_text : Pairs → List ℕ
map_text m = codes "map " ++ decimal (length m) ++ codes "\n" ++ flat_map map_line m

-- all that is printed of a run, its history and the map in the end
abbrev pub output_of : Runs → History → Pairs → List ℕ
output_of runs h m = sessions_from 1 runs ++ log_text h ++ map_text m
