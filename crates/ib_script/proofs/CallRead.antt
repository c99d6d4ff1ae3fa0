-- A command that is printed is read again.
use Rattle.std.proofs.Common.{◌≡◌, ◌∙◌, ℕ, List, [], ◌∷◌, ◌++◌, ap, subst}
use Rattle.std.specs.Prelude.{Result, Ok, Some, codes, decimal}
use Rattle.ib_io.proofs.Decimals.{fields-alone, number_in-printed}
use Rattle.ib_io.specs.Fields.{◌>>=◌, number_in, one_field, two_fields}
use Rattle.ib_io.specs.Lines.{fields_of}
use Rattle.ib_io.specs.declared.line_kind.LineKind.{LineKind}
use Rattle.ib_map.specs.Keys.{MapKey}
use Rattle.ib_map.specs.Replies.{change_of}
use Rattle.ib_map.specs.declared.call.Call.{Call}
use Rattle.ib_map.specs.declared.call.Call.TheVariants.{Insert, Delete, Get, Scan}
use Rattle.ib_map.specs.declared.call.Change.{Change}
use Rattle.ib_map.specs.declared.call.Change.TheVariants.{Insert as InsertChange, Delete as DeleteChange}
use Rattle.ib_script.specs.Script.{IsCallInRange, reading_of}
use Rattle.ib_script.specs.declared.script_line.ScriptLine.TheVariants.{Command}
use Rattle.ib_text.proofs.KeyRead.{key-alone, key-before}
use Rattle.ib_text.proofs.SpellingLaws.{key-read}
use Rattle.ib_text.specs.Keys.{key_in, key_text, pair_text}
use Rattle.ib_text.specs.Output.{call_text, change_text}

-- a line with one key
one-key : (make : MapKey → Call) (key : MapKey)
    → (one_field key_in (fields_of (key_text key)) >>= (λ k. Ok (Command (make k)))) ≡ Ok (Command (make key))
one-key make key =
    ap (λ (fields : List (List ℕ)). one_field key_in fields >>= (λ k. Ok (Command (make k)))) (key-alone key)
    ∙ ap (λ (r : Result MapKey LineKind). r >>= (λ k. Ok (Command (make k)))) (key-read key)

-- a line with two fields, the first of which is a key
two-fields : {A : Type 0} (second : List ℕ → Result A LineKind) (make : MapKey × A → Call) (line field : List ℕ) (key : MapKey) (value : A)
    → fields_of line ≡ key_text key ∷ field ∷ [] → second field ≡ Ok value
    → (two_fields key_in second (fields_of line) >>= (λ pair. Ok (Command (make pair)))) ≡ Ok (Command (make (key, value)))
two-fields {A} second make line field key value parted said =
    ap (λ (fields : List (List ℕ)). two_fields key_in second fields >>= (λ pair. Ok (Command (make pair)))) parted
    ∙ ap (λ (r : Result MapKey LineKind). ◌>>=◌ {A = MapKey × A} (r >>= (λ a. second field >>= (λ b. Ok (a, b)))) (λ pair. Ok (Command (make pair)))) (key-read key)
    ∙ ap (λ (r : Result A LineKind). ◌>>=◌ {A = MapKey × A} (r >>= (λ b. Ok (key, b))) (λ pair. Ok (Command (make pair)))) said

pub call-read : (call : Call) → IsCallInRange call → reading_of (call_text call) ≡ Ok (Command call)
call-read (Insert key value) range =
    two-fields number_in (λ pair. Insert pair.0 pair.1) (pair_text (key, value)) (decimal value) key value
    (key-before key (decimal value) ∙ ap (λ (fields : List (List ℕ)). key_text key ∷ fields) (fields-alone value range)) (number_in-printed value range)
call-read (Delete key) range = one-key Delete key
call-read (Get key) range = one-key Get key
call-read (Scan low high) range =
    two-fields key_in (λ pair. Scan pair.0 pair.1) (key_text low ++ codes " " ++ key_text high) (key_text high) low high
    (key-before low (key_text high) ∙ ap (λ (fields : List (List ℕ)). key_text low ∷ fields) (key-alone high)) (key-read high)

-- .. and so is a change that is printed in the log
pub change-read : (call : Call) (change : Change) → IsCallInRange call → change_of call ≡ Some change → reading_of (change_text change) ≡ Ok (Command call)
change-read (Insert key value) change range asks =
    let same : InsertChange key value ≡ change = cc in
    subst (λ it. reading_of (change_text it) ≡ Ok (Command (Insert key value))) same (call-read (Insert key value) range)
change-read (Delete key) change range asks =
    let same : DeleteChange key ≡ change = cc in
    subst (λ it. reading_of (change_text it) ≡ Ok (Command (Delete key))) same (call-read (Delete key) range)
change-read (Get key) change range asks = absurd cc
change-read (Scan low high) change range asks = absurd cc
