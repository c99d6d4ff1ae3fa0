-- The leaves that a scan goes over, in a log that becomes longer, and with one chunk more.
use Rattle.std.proofs.Common.{ℕ, ◌+◌, List, [], ◌∷◌, ◌++◌, refl, sym, subst, arith, length-append}
use Rattle.std.proofs.lemmas.List.{take-append-le}
use Rattle.ib_map.specs.Keys.{MapKey}
use Rattle.ib_map.specs.Replies.{Span}
use Rattle.ib_logrec.specs.declared.entry.Entry.{Entry}
use Rattle.ib_tree.specs.Logs.{pages_after}
use Rattle.ib_scan.specs.Scanning.{IsGivenBy}
use Rattle.ib_scan.specs.Leaves.{IsBehind, GoesTo, GoesOver}

module _ (opening : ℕ → ℕ) (root : ℕ) (high : MapKey) where
  to-longer : (log more : List Entry) (from : ℕ) (span : Span) (leaf count : ℕ) → GoesTo opening log root high from span leaf count → GoesTo opening (log ++ more) root high from span leaf count
  to-longer log more from span leaf count t =
      let own = take-append-le span.place log more t.within in
      record {
        within = let a = t.within in let l = length-append log more in omega arith;
        given = subst (λ es. IsGivenBy opening es root leaf high span) (sym own) t.given;
        behind = subst (λ es. IsBehind (pages_after opening es) root from leaf count) (sym own) t.behind;
      }

  pub over_longer : (log more : List Entry) (from : ℕ) (spans : List Span) (last count : ℕ) → GoesOver opening log root high from spans last count → GoesOver opening (log ++ more) root high from spans last count
  over_longer log more from [] last count o = o
  over_longer log more from (span ∷ spans) last count o =
      (o.0, o.1, to-longer log more from span o.0 o.1 o.2, (o.3.0, over_longer log more o.0 spans last o.3.0 o.3.1, o.3.2))

  -- one chunk more
  pub over_push : (log : List Entry) (from : ℕ) (spans : List Span) (last count : ℕ) (span : Span) (leaf here : ℕ) → GoesOver opening log root high from spans last count → GoesTo opening log root high last span leaf here
      → GoesOver opening log root high from (spans ++ span ∷ []) leaf (count + here)
  over_push log from [] last count span leaf here o t =
      (leaf, here, subst (λ n. GoesTo opening log root high n span leaf here) o.0 t, (0, (refl, refl), (let z = o.1 in omega arith)))
  over_push log from (x ∷ xs) last count span leaf here o t =
      (o.0, o.1, o.2, (o.3.0 + here, over_push log o.0 xs last o.3.0 span leaf here o.3.1 t, (let sum = o.3.2 in omega arith)))
