-- Lists of commands grow.
use Rattle.std.proofs.Common.{◌≡◌, ◌∙◌, ℕ, ◌+◌, ◌<◌, List, [], ◌∷◌, ◌++◌, ap, sym, refl, arith, length, get_or, set, append_assoc, replicate, zero, suc}
use Rattle.std.specs.Prelude.{Vec, sum_by}
use Rattle.std.specs.declared.alloc.Global.{Global}
use Rattle.std.proofs.lemmas.List.{map-set, get_or-map, map_push, replicate_more, length-map}
use Rattle.std.proofs.lemmas.List.Sums.{sum_by-append, sum_by-cons}
use Rattle.ib_map.specs.declared.call.Call.{Call}
use Rattle.ib_script.specs.Lists.{lists_of}

pub length-lists : (vecs : List (Vec Call Global)) → length (lists_of vecs) ≡ length vecs
length-lists vecs = length-map vecs _

-- a command is pushed to the list at i
pub lists-set : (vecs : List (Vec Call Global)) (i : ℕ) (call : Call) (old new : Vec Call Global) → i < length vecs → old ≡ get_or vecs i old → new.items ≡ old.items ++ call ∷ []
    → lists_of (set vecs i new) ≡ set (lists_of vecs) i (get_or (lists_of vecs) i [] ++ call ∷ [])
lists-set vecs i call old new lt read pushed =
    let place : get_or (lists_of vecs) i [] ≡ old.items = get_or-map (λ (v : Vec Call Global). v.items) vecs i old [] lt ∙ ap (λ (v : Vec Call Global). v.items) (sym read) in
    map-set (λ (v : Vec Call Global). v.items) vecs i new ∙ ap (set (lists_of vecs) i) (pushed ∙ ap (λ items. items ++ call ∷ []) (sym place))

-- an empty list is pushed behind the others
pub lists-more : (vecs : List (Vec Call Global)) (start : List (List Call)) (n m : ℕ) (new : Vec Call Global) → lists_of vecs ≡ start ++ replicate n [] → new.items ≡ [] → m ≡ n + 1
    → lists_of (vecs ++ new ∷ []) ≡ start ++ replicate m []
lists-more vecs start n m new h empty e =
    map_push (λ (v : Vec Call Global). v.items) vecs new ∙ ap (λ items. lists_of vecs ++ items ∷ []) empty ∙ ap (λ lists. lists ++ [] ∷ []) h
    ∙ append_assoc start (replicate n []) ([] ∷ []) ∙ ap (λ lists. start ++ lists) (replicate_more n [] ∙ ap (λ k. replicate k []) (sym e))

get_or-empty : (m k : ℕ) → get_or (replicate {A = List Call} m []) k [] ≡ []
get_or-empty zero k = refl
get_or-empty (suc m) zero = refl
get_or-empty (suc m) (suc k) = get_or-empty m k

-- empty lists are as none
pub get_or-padded : (lists : List (List Call)) (m k : ℕ) → get_or (lists ++ replicate m []) k [] ≡ get_or lists k []
get_or-padded [] m k = get_or-empty m k
get_or-padded (x ∷ lists) m zero = refl
get_or-padded (x ∷ lists) m (suc k) = get_or-padded lists m k

sum-empty : (weight : List Call → ℕ) → weight [] ≡ 0 → (m : ℕ) → sum_by weight (replicate {A = List Call} m []) ≡ 0
sum-empty weight light zero = refl
sum-empty weight light (suc m) =
    let e : sum_by weight (replicate {A = List Call} (suc m) []) ≡ weight [] + sum_by weight (replicate {A = List Call} m []) = sum_by-cons weight [] (replicate {A = List Call} m []) in
    let none = sum-empty weight light m in
    omega arith

-- empty lists add nothing to what lists weigh
pub sum-padded : (weight : List Call → ℕ) → weight [] ≡ 0 → (lists : List (List Call)) (m : ℕ) → sum_by weight (lists ++ replicate m []) ≡ sum_by weight lists
sum-padded weight light lists m =
    let e = sum_by-append weight lists (replicate m []) in
    omega (arith, sum-empty weight light m)
