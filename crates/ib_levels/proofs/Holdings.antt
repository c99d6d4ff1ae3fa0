-- The levels along a list of holdings, and that it stays orderly.
use Rattle.std.proofs.Common.{◌≡◌, ℕ, ◌<◌, Bool, true, false, cond, not, List, [], ◌∷◌, ◌++◌, length, refl, sym, ap, subst}
use Rattle.std.specs.Prelude.{◌==◌}
use Rattle.std.specs.List.{All, filter, remove}
use Rattle.std.proofs.lemmas.List.{map-append, take-map, drop-map, length-map}
use Rattle.std.proofs.lemmas.List.Elements.{All-cons, All-head, All-tail}
use Rattle.std.proofs.lemmas.List.Kept.{AllPairs-cons}
use Rattle.ib_levels.specs.declared.level.Level.{Level}
use Rattle.ib_levels.specs.declared.holding.Holding.{Holding}
use Rattle.ib_levels.specs.Level.{MayFollow, IsOrderly, MayFollowAll}
use Rattle.ib_levels.specs.Holding.{levels_of, without_latch, changed_on}
use Rattle.ib_levels.proofs.Orderly.{orderly_push, orderly_head, orderly_tail, orderly_remove}

pub levels_of-push : (held : List Holding) (h : Holding) → levels_of (held ++ h ∷ []) ≡ levels_of held ++ h.level ∷ []
levels_of-push [] h = refl
levels_of-push (g ∷ held) h = ap (λ levels. g.level ∷ levels) (levels_of-push held h)

-- a latch that may be taken keeps the list orderly
pub orderly_hold : (held : List Holding) (h : Holding) → IsOrderly (levels_of held) → MayFollowAll h.level (levels_of held) → IsOrderly (levels_of (held ++ h ∷ []))
orderly_hold held h orderly may = subst IsOrderly (sym (levels_of-push held h)) (orderly_push (levels_of held) h.level orderly may)

-- a change of counts keeps the levels, and so the list orderly
pub levels_of-changed : (l : ℕ) (f : Holding → Holding) (held : List Holding) → ((h : Holding) → (f h).level ≡ h.level) → levels_of (changed_on l f held) ≡ levels_of held
levels_of-changed l f [] keeps = refl
levels_of-changed l f (h ∷ held) keeps = λ i. level_kept (h.latch.0 == l) i ∷ levels_of-changed l f held keeps i
  where
    level_kept : (b : Bool) → (cond b (f h) h).level ≡ h.level
    level_kept true = keeps h
    level_kept false = refl

-- a list of fewer holdings: what was said of each level is said of those that stay
all_filter : (P : Level → Type 0) (p : Holding → Bool) (held : List Holding) → All P (levels_of held) → All P (levels_of (filter p held))
all_filter P p [] all = all
all_filter P p (h ∷ held) all = by_test (p h) (all_filter P p held (All-tail P h.level (levels_of held) all))
  where
    by_test : (b : Bool) → All P (levels_of (filter p held)) → All P (levels_of (cond b (h ∷ filter p held) (filter p held)))
    by_test true rest = All-cons P h.level (levels_of (filter p held)) (All-head P h.level (levels_of held) all) rest
    by_test false rest = rest

pub orderly_filter : (p : Holding → Bool) (held : List Holding) → IsOrderly (levels_of held) → IsOrderly (levels_of (filter p held))
orderly_filter p [] orderly = orderly
orderly_filter p (h ∷ held) orderly = by_test (p h) (orderly_filter p held (orderly_tail h.level (levels_of held) orderly))
  where
    by_test : (b : Bool) → IsOrderly (levels_of (filter p held)) → IsOrderly (levels_of (cond b (h ∷ filter p held) (filter p held)))
    by_test true rest = AllPairs-cons MayFollow h.level (levels_of (filter p held)) (all_filter (MayFollow h.level) p held (orderly_head h.level (levels_of held) orderly)) rest
    by_test false rest = rest

-- a latch that is given up leaves the list orderly, and forbids nothing that was allowed
pub orderly_without : (l : ℕ) (held : List Holding) → IsOrderly (levels_of held) → IsOrderly (levels_of (without_latch l held))
orderly_without l held orderly = orderly_filter (λ h. not (h.latch.0 == l)) held orderly

pub may_take_without : (wanted : Level) (l : ℕ) (held : List Holding) → MayFollowAll wanted (levels_of held) → MayFollowAll wanted (levels_of (without_latch l held))
may_take_without wanted l held may = all_filter (λ level. MayFollow level wanted) (λ h. not (h.latch.0 == l)) held may

-- the levels after the holding at a place is removed
pub levels_of-remove : (held : List Holding) (i : ℕ) → levels_of (remove held i) ≡ remove (levels_of held) i
levels_of-remove held i = simp (map-append, take-map, drop-map)

pub orderly_removed : (held : List Holding) (i : ℕ) → i < length held → IsOrderly (levels_of held) → IsOrderly (levels_of (remove held i))
orderly_removed held i within orderly = subst IsOrderly (sym (levels_of-remove held i)) (orderly_remove (levels_of held) i (simp length-map within) orderly)
