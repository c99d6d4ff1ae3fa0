-- Passes at rest, one more and one fewer, and beside a space that has changed; passes that nobody used, and those that have ended.
use Rattle.std.proofs.Common.{◌≡◌, ℕ, ◌+◌, List, [], ◌∷◌, ◌++◌, length, map, ap, arith, refl, subst, sym, zero-add, ◌∙◌}
use Rattle.ib_rule.specs.Pass.{PassState, IsAtRest}
use Rattle.ib_rule.specs.Space.{SpaceState}
use Rattle.ib_rule.specs.Views.{ended_as}
use Rattle.ib_rule.specs.declared.view.Ended.{Ended}
use Rattle.ib_c.specs.SpaceStates.{AreAtRest, AreUnused, IsUnused, ended_with}

pub one_more : (s : SpaceState) (xs : List PassState) (p : PassState) → AreAtRest s xs → IsAtRest s p → AreAtRest s (xs ++ p ∷ [])
one_more s [] p rest own = (own, tt)
one_more s (x ∷ xs) p rest own = (rest.0, one_more s xs p rest.1 own)

pub one_fewer : (s : SpaceState) (xs : List PassState) (p : PassState) → AreAtRest s (xs ++ p ∷ []) → AreAtRest s xs × IsAtRest s p
one_fewer s [] p rest = (tt, rest.0)
one_fewer s (x ∷ xs) p rest = let more = one_fewer s xs p rest.1 in ((rest.0, more.0), more.1)

pub still_at_rest : (s t : SpaceState) (p : PassState) → t.table ≡ s.table → t.sizes ≡ s.sizes → IsAtRest s p → IsAtRest t p
still_at_rest s t p tables sizes rest = record {
  own = record { table = rest.own.table ∙ sym tables; sizes = rest.own.sizes ∙ sym sizes; closed = rest.own.closed };
  idle = rest.idle;
  scratch = rest.scratch;
}

pub are_still : (s t : SpaceState) (xs : List PassState) → t.table ≡ s.table → t.sizes ≡ s.sizes → AreAtRest s xs → AreAtRest t xs
are_still s t [] tables sizes rest = tt
are_still s t (x ∷ xs) tables sizes rest = (still_at_rest s t x tables sizes rest.0, are_still s t xs tables sizes rest.1)

pub one_unused_more : (n : ℕ) (xs : List PassState) (p : PassState) → AreUnused n xs → IsUnused (length xs + n) p → AreUnused n (xs ++ p ∷ [])
one_unused_more n [] p unused next = (subst (λ m. IsUnused m p) (zero-add n) next, tt)
one_unused_more n (x ∷ xs) p unused next =
    let same : length xs + (n + 1) ≡ length (x ∷ xs) + n = omega arith in
    (unused.0, one_unused_more (n + 1) xs p unused.1 (rw same next))

ended-next : (xs : List PassState) (p : PassState) (es : List Ended) → map (λ q. ended_as q.view) (xs ++ p ∷ []) ++ es ≡ map (λ q. ended_as q.view) xs ++ ended_as p.view ∷ es
ended-next [] p es = refl
ended-next (x ∷ xs) p es = ap (λ (ys : List Ended). ended_as x.view ∷ ys) (ended-next xs p es)

pub one_ended_more : (s : SpaceState) (xs : List PassState) (p : PassState) → ended_with xs (record s { ended = ended_as p.view ∷ s.ended }) ≡ ended_with (xs ++ p ∷ []) s
one_ended_more s xs p = ap (λ (es : List Ended). record s { ended = es }) (sym (ended-next xs p s.ended))
