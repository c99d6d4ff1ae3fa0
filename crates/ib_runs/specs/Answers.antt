-- What is kept of a session's answers.
use Rattle.std.specs.Prelude.{◌≡◌, List, [], length, map}
use Rattle.ib_map.specs.Chunks.{HeldChunks, spans_of}
use Rattle.ib_map.specs.FullRecords.{full_records, total_chunks}
use Rattle.ib_map.specs.Replies.{FullRecord}
use Rattle.ib_map.specs.declared.call.Call.{Call}
use Rattle.ib_map.specs.declared.call.Record.{Record}

-- the records in order, and the chunks of the scans among them, one scan's behind another's. A scan that runs has chunks and no record yet
pub record KeptAnswers : Type 0 where
  pub records : List Record
  pub chunks : HeldChunks

-- nothing, with no room
abbrev pub no_answers : KeptAnswers
no_answers = record { records = []; chunks = record { list = []; pairs = []; chunk_room = 0; pair_room = 0 } }

-- the records, each with the chunks of its scan
abbrev pub answers_of : KeptAnswers → List FullRecord
answers_of kept = full_records kept.records (spans_of kept.chunks.list kept.chunks.pairs)

-- the records count as many chunks as there are
abbrev pub IsWhole : KeptAnswers → Type 0
IsWhole kept = total_chunks kept.records ≡ length kept.chunks.list

-- the calls that were answered
abbrev pub calls_in : List FullRecord → List Call
calls_in rs = map (λ r. r.call) rs
