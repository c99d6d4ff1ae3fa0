-- Lines are read one after another.
use Rattle.std.proofs.Common.{inl, inr, ◌≡◌, ◌∙◌, ℕ, ◌+◌, ◌-◌, ◌<◌, ◌≤◌, List, [], ◌∷◌, ◌++◌, Bool, true, false, cond, ap, sym, refl, arith, length, get_or, set, map, max, append-nil, length-append, length-set, replicate, ◌&&◌, not, eq-eqb}
use Rattle.std.specs.Prelude.{Ok, Err, ◌==◌, filter, fold, count_by}
use Rattle.std.specs.List.{list_all}
use Rattle.std.specs.Int.{from_bool}
use Rattle.std.proofs.lemmas.Bool.{cases_eq, ne_eqb}
use Rattle.std.proofs.lemmas.List.{map-append, length-replicate, get_or-set_same, get_or-set_other}
use Rattle.std.proofs.lemmas.List.Elements.{filter-append}
use Rattle.std.proofs.lemmas.List.Folds.{list_all-append}
use Rattle.std.proofs.lemmas.List.Sums.{fold_push, sum_by_push, sum_by-set}
use Rattle.ib_map.specs.declared.call.Call.{Call}
use Rattle.ib_script.specs.Script.{Reading, commands_from, session_count, sizes_of, says_nothing, asks_scan, is_command, is_scan, scan_count}
use Rattle.ib_script.specs.Building.{session_then, session_after, HoldCommands}
use Rattle.ib_script.specs.Lists.{with_command, with_sessions}
use Rattle.ib_script.specs.declared.script_line.ScriptLine.TheVariants.{Skipped, Space, Session, Command}
use Rattle.ib_script.proofs.ListsGrow.{get_or-padded, sum-padded}

pub commands-push : (session : ℕ) (before : List Reading) (reading : Reading)
    → commands_from session (before ++ reading ∷ []) ≡ commands_from session before ++ commands_from (fold session_then session before) (reading ∷ [])
commands-push session [] reading = refl
commands-push session (Ok Skipped ∷ before) reading = commands-push session before reading
commands-push session (Ok (Space sizes) ∷ before) reading = commands-push session before reading
commands-push session (Ok (Session number) ∷ before) reading = commands-push number before reading
commands-push session (Ok (Command call) ∷ before) reading = ap (λ commands. (session, call) ∷ commands) (commands-push session before reading)
commands-push session (Err kind ∷ before) reading = commands-push session before reading

-- a line that is no command adds none
pub no-command : (before : List Reading) (reading : Reading) → commands_from (session_after before) (reading ∷ []) ≡ []
    → commands_from 1 (before ++ reading ∷ []) ≡ commands_from 1 before
no-command before reading none = commands-push 1 before reading ∙ ap (λ commands. commands_from 1 before ++ commands) none ∙ append-nil _

pub count-other : (p : Reading → Bool) (before : List Reading) (reading : Reading) → p reading ≡ false → count_by p before ≡ count_by p (before ++ reading ∷ [])
count-other p before reading other =
    let e : count_by p (before ++ reading ∷ []) ≡ count_by p before + cond {A = ℕ} (p reading) 1 0 = sum_by_push (λ r. cond (p r) 1 0) before reading in
    let none : cond {A = ℕ} (p reading) 1 0 ≡ 0 = ap (λ b. cond {A = ℕ} b 1 0) other in
    omega arith

no-scan : (reading : Reading) → is_command reading ≡ false → is_scan reading ≡ false
no-scan (Ok Skipped) h = refl
no-scan (Ok (Space sizes)) h = refl
no-scan (Ok (Session number)) h = refl
no-scan (Ok (Command call)) h = absurd (let z : true ≡ false = h in cc)
no-scan (Err kind) h = refl

-- the commands of lists stay where a line is no command
pub same-lists : {before : List Reading} {lists : List (List Call)} (reading : Reading) → HoldCommands before lists
    → commands_from (session_after before) (reading ∷ []) ≡ [] → is_command reading ≡ false → HoldCommands (before ++ reading ∷ []) lists
same-lists {before} {lists} reading hold none other =
    let same = no-command before reading none in
    record {
      sessions = hold.sessions ∙ ap (λ commands. fold (λ most (command : ℕ × Call). max most command.0) 0 commands) (sym same);
      commands = λ n. hold.commands n ∙ ap (λ commands. map (λ (command : ℕ × Call). command.1) (filter (λ (command : ℕ × Call). command.0 == n + 1) commands)) (sym same);
      count = hold.count ∙ count-other is_command before reading other;
      scans = hold.scans ∙ count-other is_scan before reading (no-scan reading other);
    }

pub count-one : (p : Reading → Bool) (before : List Reading) (reading : Reading) → p reading ≡ true → count_by p before + 1 ≡ count_by p (before ++ reading ∷ [])
count-one p before reading one =
    let e : count_by p (before ++ reading ∷ []) ≡ count_by p before + cond {A = ℕ} (p reading) 1 0 = sum_by_push (λ r. cond (p r) 1 0) before reading in
    let some : cond {A = ℕ} (p reading) 1 0 ≡ 1 = ap (λ b. cond {A = ℕ} b 1 0) one in
    omega arith

and-true : (b : Bool) → (b && true) ≡ b
and-true true = refl
and-true false = refl

and-false : (b : Bool) → (b && false) ≡ false
and-false true = refl
and-false false = refl

pub nothing-more : (before : List Reading) (reading : Reading) → says_nothing reading ≡ true → list_all says_nothing before ≡ list_all says_nothing (before ++ reading ∷ [])
nothing-more before reading nothing =
    sym (list_all-append says_nothing before (reading ∷ []) ∙ ap (λ b. list_all says_nothing before && (b && true)) nothing ∙ and-true _)

pub something : (before : List Reading) (reading : Reading) → says_nothing reading ≡ false → true ≡ not (list_all says_nothing (before ++ reading ∷ []))
something before reading some =
    sym (ap not (list_all-append says_nothing before (reading ∷ []) ∙ ap (λ b. list_all says_nothing before && (b && true)) some ∙ and-false _))

-- a line that gives no sizes leaves them
pub sizes-kept : (before : List Reading) (reading : Reading) → sizes_of (reading ∷ []) ≡ sizes_of [] → sizes_of before ≡ sizes_of (before ++ reading ∷ [])
sizes-kept [] reading h = sym h
sizes-kept (Ok Skipped ∷ before) reading h = sizes-kept before reading h
sizes-kept (Ok (Space sizes) ∷ before) reading h = refl
sizes-kept (Ok (Session number) ∷ before) reading h = refl
sizes-kept (Ok (Command call) ∷ before) reading h = refl
sizes-kept (Err kind ∷ before) reading h = refl

-- the first line that says something gives them
pub sizes-first : (before : List Reading) (reading : Reading) → list_all says_nothing before ≡ true → sizes_of (reading ∷ []) ≡ sizes_of (before ++ reading ∷ [])
sizes-first [] reading h = refl
sizes-first (Ok Skipped ∷ before) reading h = sizes-first before reading h
sizes-first (Ok (Space sizes) ∷ before) reading h = absurd (cc)
sizes-first (Ok (Session number) ∷ before) reading h = absurd (cc)
sizes-first (Ok (Command call) ∷ before) reading h = absurd (cc)
sizes-first (Err kind ∷ before) reading h = absurd (cc)

-- a command stands at the end of its session's list
filter-here : (session n : ℕ) (commands : List (ℕ × Call)) (call : Call) → n ≡ session
    → map (λ (c : ℕ × Call). c.1) (filter (λ (c : ℕ × Call). c.0 == n) (commands ++ (session, call) ∷ [])) ≡ map (λ (c : ℕ × Call). c.1) (filter (λ (c : ℕ × Call). c.0 == n) commands) ++ call ∷ []
filter-here session n commands call e =
    let same : (session == n) ≡ true = eq-eqb session n (sym e) in
    ap (map (λ (c : ℕ × Call). c.1)) (filter-append (λ (c : ℕ × Call). c.0 == n) commands ((session, call) ∷ []) ∙ ap (λ b. filter (λ (c : ℕ × Call). c.0 == n) commands ++ cond b ((session, call) ∷ []) []) same)
    ∙ map-append (λ (c : ℕ × Call). c.1) (filter (λ (c : ℕ × Call). c.0 == n) commands) ((session, call) ∷ [])

filter-other : (session n : ℕ) (commands : List (ℕ × Call)) (call : Call) → (session == n) ≡ false
    → map (λ (c : ℕ × Call). c.1) (filter (λ (c : ℕ × Call). c.0 == n) (commands ++ (session, call) ∷ [])) ≡ map (λ (c : ℕ × Call). c.1) (filter (λ (c : ℕ × Call). c.0 == n) commands)
filter-other session n commands call other =
    ap (map (λ (c : ℕ × Call). c.1)) (filter-append (λ (c : ℕ × Call). c.0 == n) commands ((session, call) ∷ []) ∙ ap (λ b. filter (λ (c : ℕ × Call). c.0 == n) commands ++ cond b ((session, call) ∷ []) []) other ∙ append-nil _)

session-count-push : (before : List Reading) (call : Call) → session_count (before ++ Ok (Command call) ∷ []) ≡ max (session_count before) (session_after before)
session-count-push before call =
    ap (λ commands. fold (λ most (c : ℕ × Call). max most c.0) 0 commands) (commands-push 1 before (Ok (Command call)))
    ∙ fold_push (λ most (c : ℕ × Call). max most c.0) 0 (commands_from 1 before) (session_after before, call)

wide : (session : ℕ) (lists : List (List Call)) → length (with_sessions session lists) ≡ max (length lists) session
wide session lists = let e = length-append lists (replicate (session - length lists) []) in let r = length-replicate {A = List Call} (session - length lists) [] in omega arith

pub lists-push : {before : List Reading} {lists : List (List Call)} (session : ℕ) (call : Call) → 1 ≤ session → session ≡ session_after before → HoldCommands before lists
    → HoldCommands (before ++ Ok (Command call) ∷ []) (with_command session call (with_sessions session lists))
lists-push {before} {lists} session call least e hold =
    let all = with_sessions session lists in
    let width : length all ≡ max (length lists) session = wide session lists in
    let lt : session - 1 < length all = omega arith in
    let new = get_or all (session - 1) [] ++ call ∷ [] in
    let pushed : commands_from 1 (before ++ Ok (Command call) ∷ []) ≡ commands_from 1 before ++ (session, call) ∷ [] =
    commands-push 1 before (Ok (Command call)) ∙ ap (λ s. commands_from 1 before ++ (s, call) ∷ []) (sym e) in
    let calls = λ (n : ℕ) (commands : List (ℕ × Call)). map (λ (c : ℕ × Call). c.1) (filter (λ (c : ℕ × Call). c.0 == n) commands) in
    record {
      sessions = length-set all (session - 1) new ∙ width ∙ ap (λ n. max n session) hold.sessions ∙ ap (max (session_count before)) e ∙ sym (session-count-push before call);
      commands = λ n. elim (cases_eq n (session - 1)) [
        | inl same ↦
            let here : n + 1 ≡ session = omega arith in
            ap (λ k. get_or (set all (session - 1) new) k []) same ∙ get_or-set_same all (session - 1) new [] lt
            ∙ ap (λ items. items ++ call ∷ []) (get_or-padded lists (session - length lists) (session - 1) ∙ ap (λ k. get_or lists k []) (sym same) ∙ hold.commands n)
            ∙ sym (filter-here session (n + 1) (commands_from 1 before) call here) ∙ ap (calls (n + 1)) (sym pushed)
        | inr other ↦
            let apart : (session == n + 1) ≡ false = ne_eqb session (n + 1) (omega arith) in
            get_or-set_other all (session - 1) n new [] other ∙ get_or-padded lists (session - length lists) n ∙ hold.commands n
            ∙ sym (filter-other session (n + 1) (commands_from 1 before) call apart) ∙ ap (calls (n + 1)) (sym pushed)
      ];
      count =
          let at = sum_by-set length all (session - 1) new [] lt in
          let padded = sum-padded length refl lists (session - length lists) in
          let more = length-append (get_or all (session - 1) []) (call ∷ []) in
          let one = count-one is_command before (Ok (Command call)) refl in
          let was = hold.count in
          omega arith;
      scans =
          let at = sum_by-set scan_count all (session - 1) new [] lt in
          let padded = sum-padded scan_count refl lists (session - length lists) in
          let more : scan_count new ≡ scan_count (get_or all (session - 1) []) + cond {A = ℕ} (asks_scan call) 1 0 = sum_by_push (λ c. cond (asks_scan c) 1 0) (get_or all (session - 1) []) call in
          let one : count_by is_scan (before ++ Ok (Command call) ∷ []) ≡ count_by is_scan before + cond {A = ℕ} (asks_scan call) 1 0 = sum_by_push (λ r. cond (is_scan r) 1 0) before (Ok (Command call)) in
          let was = hold.scans in
          omega arith;
    }

pub not-false : (b : Bool) → not b ≡ false → b ≡ true
not-false true h = refl
not-false false h = sym h

one-or-none : (b : Bool) → from_bool b ≡ cond {A = ℕ} b 1 0
one-or-none true = refl
one-or-none false = refl

pub count-more : (p : Reading → Bool) (before : List Reading) (reading : Reading) (b : Bool) (n m : ℕ) → b ≡ p reading → n ≡ count_by p before → m ≡ from_bool b
    → n + m ≡ count_by p (before ++ reading ∷ [])
count-more p before reading b n m e was more =
    let pushed : count_by p (before ++ reading ∷ []) ≡ count_by p before + cond {A = ℕ} (p reading) 1 0 = sum_by_push (λ r. cond (p r) 1 0) before reading in
    let one : from_bool b ≡ cond {A = ℕ} (p reading) 1 0 = one-or-none b ∙ ap (λ x. cond {A = ℕ} x 1 0) e in
    omega arith
