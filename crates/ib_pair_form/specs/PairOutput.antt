-- What the program prints of a run on two trees: replies, the log, the map, and the keys of the second tree.
use Rattle.std.specs.Prelude.{ℕ, List, [], ◌∷◌, ◌++◌, codes, decimal, length}
use Rattle.std.specs.List.{flat_map}
use Rattle.ib_map.specs.Keys.{MapKey}
use Rattle.ib_map.specs.Pairs.{Pairs}
use Rattle.ib_map.specs.History.{History}
use Rattle.ib_map.specs.Replies.{Span}
use Rattle.ib_map.specs.Runs.{Runs}
use Rattle.ib_map.specs.declared.call.Call.{Call}
use Rattle.ib_map.specs.declared.call.Call.TheVariants.{Scan}
use Rattle.ib_map.specs.declared.call.Reply.{Reply}
use Rattle.ib_map.specs.declared.call.Reply.TheVariants.{Scanned}
use Rattle.ib_second_key.specs.SecondKeys.{primary_of, value_of}
use Rattle.ib_text.specs.Keys.{key_text}
use Rattle.ib_text.specs.Output.{Telling, log_text, map_text, record_line, sessions_from_by}

-- the keys that a value has, counted: the value is that of the least key of the scan
abbrev pub value_line : MapKey → ℕ → List ℕ
value_line low count = codes "value " ++ decimal (value_of low) ++ codes " -> " ++ decimal count ++ codes " keys\n"

-- a key of the second tree, as the key that it finds
abbrev pub key_line : MapKey → List ℕ
key_line second = codes "key " ++ key_text (primary_of second) ++ codes "\n"

-- a chunk, and its keys a line each; nothing where it has none
abbrev pub keys_text : Span → List ℕ
keys_text span = placed_keys span.place span.pairs
  where
    placed_keys : ℕ → Pairs → List ℕ
    placed_keys place [] = []
    placed_keys place (pair ∷ pairs) = codes "at " ++ decimal place ++ codes "\n" ++ flat_map (λ p. key_line p.0) (pair ∷ pairs)

-- a call, its reply and its place
abbrev pub answer_line : Call → Reply → ℕ → List ℕ
answer_line (Scan low high) (Scanned chunks pairs) place = value_line low pairs
answer_line call reply place = record_line call reply place

-- by the keys that a value has: how a scan of the second tree is told
abbrev pub key_telling : Telling
key_telling = record { line = answer_line; span = keys_text }

-- a key of the second tree
abbrev pub second_line : MapKey × ℕ → List ℕ
second_line pair = key_text pair.0 ++ codes "\n"

abbrev pub second_text : Pairs → List ℕ
second_text m = codes "second " ++ decimal (length m) ++ codes "\n" ++ flat_map second_line m

-- all that is printed of a run, its history, the map in the end, and the second tree
abbrev pub pair_output_of : Runs → History → Pairs → Pairs → List ℕ
pair_output_of runs h m seconds = sessions_from_by key_telling 1 runs ++ log_text h ++ map_text m ++ second_text seconds
