-- Each call of a script of two trees is one that a pair takes.
use Rattle.std.proofs.Common.{◌≡◌, ◌∙◌, ℕ, ◌+◌, Bool, true, false, Result, Ok, Err, List, [], ◌∷◌, All, cond, filter, map, length, refl, sym, subst, arith}
use Rattle.std.specs.List.{AllByRecursion}
use Rattle.std.specs.Prelude.{bytes_eq, codes, nat_le, ◌==◌, ◌&&◌}
use Rattle.std.proofs.lemmas.List.{get_or_default}
use Rattle.std.proofs.lemmas.List.Elements.{All-from_recursion}
use Rattle.std.proofs.lemmas.Bool.Decides.{nat_tests}
use Rattle.ib_map.specs.KeyBytes.{bytes_of}
use Rattle.ib_map.specs.Keys.{MapKey}
use Rattle.ib_map.specs.Space.{has_pages}
use Rattle.ib_map.specs.declared.call.Call.{Call}
use Rattle.ib_map.specs.declared.call.Call.TheVariants.{Insert, Delete, Get, Scan}
use Rattle.ib_second_key.specs.SecondKeys.{IsPrimary, greatest_of_value, least_of_value}
use Rattle.ib_second_key.specs.declared.keys.TheConstants.{MOST_PRIMARY_BYTES}
use Rattle.ib_layout.specs.Geometry.{has_log}
use Rattle.ib_io.specs.Fields.{◌>>=◌, number_in, one_field, session_in, two_fields}
use Rattle.ib_io.specs.Lines.{fields_of, is_skipped, lines_of, readings_by}
use Rattle.ib_io.specs.declared.line_kind.LineKind.{LineKind}
use Rattle.ib_io.specs.declared.line_kind.LineKind.TheVariants.{Long, Space as SpaceKind}
use Rattle.ib_text.specs.Keys.{key_in}
use Rattle.ib_script.specs.PairScript.{pair_reading_of, pair_reading_of_fields, primary_key_in}
use Rattle.ib_runs.specs.Sessions.{AreTaken}
use Rattle.ib_script.specs.Script.{IsScript, Reading, ScriptValue, commands_from, commands_of, space_line}
use Rattle.ib_script.specs.declared.script_line.ScriptLine.TheVariants.{Skipped, Space, Session, Command}
use Rattle.ib_pair_form.specs.PairCalls.{IsPairCall}

-- a line that is a command is one of such a call
abbrev IsTakenLine : Reading → Type 0
IsTakenLine (Ok (Command call)) = IsPairCall call
IsTakenLine _ = Unit {0}

-- what is read first is known where the whole is read
record HasFirst {A B : Type 0} (r : Result A LineKind) (f : A → Result B LineKind) (b : B) : Type 0 where
  pub value : A
  pub is : r ≡ Ok value
  pub rest : f value ≡ Ok b

first-of : {A B : Type 0} (r : Result A LineKind) (f : A → Result B LineKind) (b : B) → (r >>= f) ≡ Ok b → HasFirst r f b
first-of (Ok a) f b is = record { value = a; is = refl; rest = is }
first-of (Err kind) f b is = absurd (cc)

then-taken : {A : Type 0} (r : Result A LineKind) (f : A → Reading) → ((a : A) → r ≡ Ok a → IsTakenLine (f a)) → IsTakenLine (r >>= f)
then-taken (Ok a) f each = each a refl
then-taken (Err kind) f each = tt

either-taken : (b : Bool) (x y : Reading) → IsTakenLine x → IsTakenLine y → IsTakenLine (cond b x y)
either-taken true x y one two = one
either-taken false x y one two = two

-- a field that is read as a key has few bytes
primary-field : (field : List ℕ) (key : MapKey) → primary_key_in field ≡ Ok key → IsPrimary key
primary-field field key is =
    let f = first-of (key_in field) (λ k. cond (nat_le (length (bytes_of k)) MOST_PRIMARY_BYTES) (Ok k) (Err Long)) key is in
    few f.value (nat_le (length (bytes_of f.value)) MOST_PRIMARY_BYTES) refl f.rest
  where
    few : (k : MapKey) (b : Bool) → nat_le (length (bytes_of k)) MOST_PRIMARY_BYTES ≡ b → cond {A = Result MapKey LineKind} b (Ok k) (Err Long) ≡ Ok key → IsPrimary key
    few k true le same = let one : k ≡ key = cc in subst IsPrimary one (grind (arith, nat_tests))
    few k false le same = absurd (cc)

primary-one : (fields : List (List ℕ)) (key : MapKey) → one_field primary_key_in fields ≡ Ok key → IsPrimary key
primary-one [] key is = absurd (cc)
primary-one (field ∷ []) key is = primary-field field key is
primary-one (field ∷ next ∷ fields) key is = absurd (cc)

primary-two : (fields : List (List ℕ)) (pair : MapKey × ℕ) → two_fields primary_key_in number_in fields ≡ Ok pair → IsPrimary pair.0
primary-two [] pair is = absurd (cc)
primary-two (f ∷ []) pair is = absurd (cc)
primary-two (f ∷ s ∷ []) pair is =
    let a = first-of (primary_key_in f) (λ k. number_in s >>= (λ n. Ok (k, n))) pair is in
    let b = first-of (number_in s) (λ n. Ok (a.value, n)) pair a.rest in
    let same : a.value ≡ pair.0 = cc in
    subst IsPrimary same (primary-field f a.value a.is)
primary-two (f ∷ s ∷ t ∷ fields) pair is = absurd (cc)

fields-taken : (fields : List (List ℕ)) → IsTakenLine (pair_reading_of_fields fields)
fields-taken [] = tt
fields-taken (word ∷ fields) =
    either-taken (bytes_eq word (codes "insert")) _ _ (then-taken (two_fields primary_key_in number_in fields) (λ pair. Ok (Command (Insert pair.0 pair.1))) (λ pair is. primary-two fields pair is))
    (either-taken (bytes_eq word (codes "delete")) _ _ (then-taken (one_field primary_key_in fields) (λ key. Ok (Command (Delete key))) (λ key is. primary-one fields key is))
    (either-taken (bytes_eq word (codes "get")) _ _ (then-taken (one_field primary_key_in fields) (λ key. Ok (Command (Get key))) (λ key is. primary-one fields key is))
    (either-taken (bytes_eq word (codes "value")) _ _ (then-taken (one_field number_in fields) (λ value. Ok (Command (Scan (least_of_value value) (greatest_of_value value)))) (λ value is. tt))
    (either-taken (bytes_eq word (codes "session")) _ _ (then-taken (one_field session_in fields) (λ n. Ok (Session n)) (λ n is. tt))
    (either-taken (bytes_eq word (codes "space")) _ _ (then-taken (two_fields number_in number_in fields) space_line (λ sizes is. space-taken sizes (has_pages sizes.0 && has_log sizes.1)))
    tt)))))
  where
    space-taken : (sizes : ℕ × ℕ) (b : Bool) → IsTakenLine (cond b (Ok (Space (record { pages = sizes.0; log_words = sizes.1 }))) (Err SpaceKind))
    space-taken sizes true = tt
    space-taken sizes false = tt

lines-taken : (lines : List (List ℕ)) → AllByRecursion IsTakenLine (map pair_reading_of lines)
lines-taken [] = tt
lines-taken (line ∷ lines) = (either-taken (is_skipped line) (Ok Skipped) (pair_reading_of_fields (fields_of line)) tt (fields-taken (fields_of line)), lines-taken lines)

-- .. so is each command, whichever its session
commands-taken : (session : ℕ) (readings : List Reading) → AllByRecursion IsTakenLine readings → AllByRecursion (λ c. IsPairCall c.1) (commands_from session readings)
commands-taken session [] are = tt
commands-taken session (Ok (Session number) ∷ readings) are = commands-taken number readings are.1
commands-taken session (Ok (Command call) ∷ readings) are = (are.0, commands-taken session readings are.1)
commands-taken session (Ok Skipped ∷ readings) are = commands-taken session readings are.1
commands-taken session (Ok (Space sizes) ∷ readings) are = commands-taken session readings are.1
commands-taken session (Err kind ∷ readings) are = commands-taken session readings are.1

of-session : (n : ℕ) (commands : List (ℕ × Call)) → AllByRecursion (λ c. IsPairCall c.1) commands → AllByRecursion IsPairCall (map (λ (c : ℕ × Call). c.1) (filter (λ c. c.0 == n) commands))
of-session n [] are = tt
of-session n (c ∷ commands) are = pick (c.0 == n) (filter (λ x. x.0 == n) commands) are.0 (of-session n commands are.1)
  where
    pick : (b : Bool) (rest : List (ℕ × Call)) → IsPairCall c.1 → AllByRecursion IsPairCall (map (λ (x : ℕ × Call). x.1) rest) → AllByRecursion IsPairCall (map (λ (x : ℕ × Call). x.1) (cond b (c ∷ rest) rest))
    pick true rest one more = (one, more)
    pick false rest one more = more

-- the calls of a script of two trees
pub script_taken : (input : List ℕ) (script : ScriptValue) → IsScript (readings_by pair_reading_of input) script → AreTaken IsPairCall script.commands
script_taken input script is = λ k d lt.
    subst (All IsPairCall) (sym (get_or_default script.commands k d [] lt ∙ is.commands k))
    (All-from_recursion IsPairCall (commands_of (k + 1) (readings_by pair_reading_of input))
    (of-session (k + 1) (commands_from 1 (readings_by pair_reading_of input)) (commands-taken 1 (readings_by pair_reading_of input) (lines-taken (lines_of input)))))
