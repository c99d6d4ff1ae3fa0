-- Commands are generated one after another, and sessions one after another.
use Rattle.std.proofs.Common.{◌≡◌, ◌∙◌, inl, inr, ℕ, ◌+◌, ◌/◌, ◌%◌, ◌-◌, ◌<◌, ◌≤◌, Bool, true, false, cond, List, [], ◌∷◌, ◌++◌, ap, sym, refl, subst, arith, length, get_or, suc}
use Rattle.std.specs.Prelude.{Some, Vec, nat_le, nat_lt, ◌==◌, slice_get, if◌then◌else◌}
use Rattle.std.specs.declared.alloc.Global.{Global}
use Rattle.std.proofs.lemmas.Bool.{cases_eq}
use Rattle.std.proofs.lemmas.List.{get_or_append_left, map_push}
use Rattle.std.proofs.lemmas.List.Sums.{sum_by-cons}
use Rattle.ib_map.specs.declared.call.Call.{Call}
use Rattle.ib_map.proofs.HistoryLaws.{slice_get-append, slice_get-last}
use Rattle.ib_map.specs.Keys.{MapKey, least}
use Rattle.ib_map.specs.declared.call.Call.TheVariants.{Insert, Delete, Get}
use Rattle.ib_script.specs.Generated.{call_at, call_back, key_of, share_of}
use Rattle.ib_script.specs.Lists.{lists_of}
use Rattle.ib_script.specs.Script.{asks_scan, scan_count}
use Rattle.ib_script.specs.declared.load.Load.{Load}
use Rattle.std.proofs.lemmas.Option.{same_Some, slice_get-get_or}

-- a list of which each element is known by its place, and one more
pub known-push : {X : Type 0} (f : ℕ → X) (xs : List X) (x : X) (n : ℕ) → length xs ≡ n → x ≡ f n → ((i : ℕ) → i < n → slice_get xs i ≡ Some (f i))
    → (i : ℕ) → i < n + 1 → slice_get (xs ++ x ∷ []) i ≡ Some (f i)
known-push f xs x n size is known i lt = elim (cases_eq i n) [
  | inl same ↦ ap (slice_get (xs ++ x ∷ [])) (same ∙ sym size) ∙ slice_get-last xs x ∙ ap Some (is ∙ ap f (sym same))
  | inr other ↦ slice_get-append xs (x ∷ []) i (omega arith) ∙ known i (omega arith)
]

-- what holds of each list by its place holds with one more
pub each-push : {X : Type 0} (P : ℕ → List X → Type 0) (xs : List (List X)) (x : List X) (n : ℕ) → length xs ≡ n → P n x → ((i : ℕ) → i < n → P i (get_or xs i []))
    → (i : ℕ) → i < n + 1 → P i (get_or (xs ++ x ∷ []) i [])
each-push {X = X} P xs x n size here each i lt = elim (cases_eq i n) [
  | inl same ↦ subst (P i) (sym (ap (λ k. get_or (xs ++ x ∷ []) k []) (same ∙ sym size) ∙ at-end xs x)) (subst (λ k. P k x) (sym same) here)
  | inr other ↦ subst (P i) (sym (get_or_append_left xs (x ∷ []) [] i (omega arith))) (each i (omega arith))
]
  where
    at-end : (ys : List (List X)) (y : List X) → get_or (ys ++ y ∷ []) (length ys) [] ≡ y
    at-end [] y = refl
    at-end (z ∷ ys) y = at-end ys y

pub lists-pushed : (vecs : List (Vec Call Global)) (v : Vec Call Global) → lists_of (vecs ++ v ∷ []) ≡ lists_of vecs ++ v.items ∷ []
lists-pushed vecs v = map_push (λ (w : Vec Call Global). w.items) vecs v

-- a session's share is the common one, or one more
pub share-few : (load : Load) (session : ℕ) → share_of load session ≤ load.commands / load.sessions + 1
share-few load session = by-cases (nat_le session (load.commands % load.sessions))
  where
    by-cases : (b : Bool) → load.commands / load.sessions + (if b then 1 else 0) ≤ load.commands / load.sessions + 1
    by-cases true = omega arith
    by-cases false = omega arith

no-scan-at : (load : Load) (session at : ℕ) → asks_scan (call_at load session at) ≡ false
no-scan-at load session at = by-half (nat_lt at (share_of load session / 2))
  where
    back : (b : Bool) (key : MapKey) → asks_scan (if b then Get key else Delete key) ≡ false
    back true key = refl
    back false key = refl

    by-half : (b : Bool) → asks_scan (if b then Insert (key_of load session at) at else call_back (at - share_of load session / 2) (key_of load session (at - share_of load session / 2))) ≡ false
    by-half true = refl
    by-half false = back ((at - share_of load session / 2) % 4 == 3) (key_of load session (at - share_of load session / 2))

-- none of a session's commands is a scan
pub no-scans : (load : Load) (session : ℕ) (calls : List Call) → length calls ≡ share_of load session
    → ((at : ℕ) → at < share_of load session → slice_get calls at ≡ Some (call_at load session at)) → scan_count calls ≡ 0
no-scans load session calls size known = go calls (λ at lt. ap asks_scan (same_Some (get_or calls at (Get least)) (call_at load session at) (sym (slice_get-get_or calls at (Get least) lt) ∙ known at (subst (λ k. at < k) size lt))) ∙ no-scan-at load session at)
  where
    go : (xs : List Call) → ((at : ℕ) → at < length xs → asks_scan (get_or xs at (Get least)) ≡ false) → scan_count xs ≡ 0
    go [] none = refl
    go (x ∷ xs) none =
        let rest = go xs (λ at lt. none (suc at) (omega arith)) in
        let sum : scan_count (x ∷ xs) ≡ cond {A = ℕ} (asks_scan x) 1 0 + scan_count xs = sum_by-cons (λ k. cond (asks_scan k) 1 0) x xs in
        let here : cond {A = ℕ} (asks_scan x) 1 0 ≡ 0 = ap (λ b. cond {A = ℕ} b 1 0) (none 0 (omega arith)) in
        omega arith
