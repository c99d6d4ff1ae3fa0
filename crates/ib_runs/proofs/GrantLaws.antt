-- How many grants calls take, one after another.
use Rattle.std.proofs.Common.{◌≡◌, ℕ, ◌+◌, ◌*◌, ◌^◌, ◌≤◌, Bool, true, false, List, [], ◌∷◌, ◌++◌, cond, length, sym, ap, ◌∙◌, arith, drop, take, take-append-drop}
use Rattle.std.specs.Prelude.{sum_by}
use Rattle.std.proofs.lemmas.List.Sums.{sum_by-append, sum_by-cons}
use Rattle.ib_map.specs.declared.call.Call.{Call}
use Rattle.ib_map.specs.declared.call.Call.TheVariants.{Insert, Delete, Get, Scan}
use Rattle.ib_walk.proofs.WalkLaws.{AllByRecursion-left, AllByRecursion-right}
use Rattle.ib_script.specs.Script.{asks_scan, scan_count}
use Rattle.ib_rule.specs.Pass.{PassState}
use Rattle.ib_rule.specs.Views.{total}
use Rattle.ib_runs.specs.Sessions.{AreFew, IsRead, TakesGrants, least_grants, most_grants, most_scan_grants}

-- the grants of one call
pub takes_one : (guesses : Bool) (call : Call) (p q : PassState) → total q.view.grants ≤ total p.view.grants + most_grants guesses call → (IsRead call → total p.view.grants + least_grants guesses call ≤ total q.view.grants)
    → TakesGrants guesses (call ∷ []) p q
takes_one guesses call p q most least = record {
  most = let all = sum_by-cons (most_grants guesses) call [] in omega arith;
  least = λ read. let all = sum_by-cons (least_grants guesses) call [] in let a = least read.0 in omega arith;
}

-- .. are within their most
pub within_one : (guesses : Bool) (call : Call) (p q : PassState) → TakesGrants guesses (call ∷ []) p q → total q.view.grants ≤ total p.view.grants + most_grants guesses call
within_one guesses call p q one = let all = sum_by-cons (most_grants guesses) call [] in let most = one.most in omega arith

-- what the calls of a session may take
most-grants : (guesses : Bool) (calls : List Call) → sum_by (most_grants guesses) calls ≤ 129 * length calls + most_scan_grants * scan_count calls
most-grants guesses [] = omega arith
most-grants guesses (call ∷ calls) =
    let rest = most-grants guesses calls in
    let all = sum_by-cons (most_grants guesses) call calls in
    let scans : scan_count (call ∷ calls) ≡ cond {A = ℕ} (asks_scan call) 1 0 + scan_count calls = sum_by-cons (λ k. cond (asks_scan k) 1 0) call calls in
    let one = one-call guesses call in omega arith
  where
    one-call : (b : Bool) (k : Call) → most_grants b k ≤ 129 + most_scan_grants * cond {A = ℕ} (asks_scan k) 1 0
    one-call true (Insert key value) = omega arith
    one-call true (Delete key) = omega arith
    one-call true (Get key) = omega arith
    one-call true (Scan low high) = omega arith
    one-call false (Insert key value) = omega arith
    one-call false (Delete key) = omega arith
    one-call false (Get key) = omega arith
    one-call false (Scan low high) = omega arith

-- .. so after some of them there is room for any call's
pub grants_fit : (guesses : Bool) (calls : List Call) (i taken : ℕ) → AreFew calls → taken ≤ sum_by (most_grants guesses) (take i calls) → taken + most_scan_grants ≤ 2 ^ 52
grants_fit guesses calls i taken few le =
    let all = ap (sum_by (most_grants guesses)) (sym (take-append-drop i calls)) ∙ sum_by-append (most_grants guesses) (take i calls) (drop i calls) in
    let most = most-grants guesses calls in
    let a = few.commands in
    let b = few.scans in omega arith

-- one call's grants behind those of others
pub takes_more : (guesses : Bool) (call : Call) (calls : List Call) (p q u : PassState) → TakesGrants guesses calls p q → TakesGrants guesses (call ∷ []) q u → TakesGrants guesses (calls ++ call ∷ []) p u
takes_more guesses call calls p q u before one = record {
  most = (let all = sum_by-append (most_grants guesses) calls (call ∷ []) in let a = before.most in let b = one.most in omega arith);
  least = λ read.
      let all = sum_by-append (least_grants guesses) calls (call ∷ []) in
      let a = before.least (AllByRecursion-left IsRead calls (call ∷ []) read) in let b = one.least (AllByRecursion-right IsRead calls (call ∷ []) read) in omega arith;
}

pub takes_none : (guesses : Bool) (p : PassState) → TakesGrants guesses [] p p
takes_none guesses p = record { most = omega arith; least = λ read. omega arith }
