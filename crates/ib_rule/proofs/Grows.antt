-- When a step may take a grant.
use Rattle.std.proofs.Common.{◌≡◌, inr, ℕ, ◌+◌, ◌≤◌, Bool, true, false, cond, List, [], ◌∷◌, None, refl, arith}
use Rattle.std.specs.Prelude.{sum_by}
use Rattle.std.proofs.lemmas.List.Sums.{sum_by-cons}
use Rattle.ib_levels.specs.declared.holding.Holding.{Holding}
use Rattle.ib_levels.specs.Holding.{on}
use Rattle.ib_levels.proofs.Counts.{by_equal, part, on-cons}
use Rattle.ib_core.specs.declared.phase.Phase.{Phase}
use Rattle.ib_core.specs.declared.phase.Phase.TheVariants.{Free, Flagged}
use Rattle.ib_core.specs.declared.event.Event.{Event}
use Rattle.ib_core.specs.declared.event.Event.TheVariants.{S, Sx, X, Again}
use Rattle.ib_core.specs.Responses.{latch_of}
use Rattle.ib_core.specs.Debts.{wish_of}
use Rattle.ib_rule.specs.declared.view.View.{View}
use Rattle.ib_rule.specs.Conditions.{CanTake, MayGrow}
use Rattle.ib_rule.proofs.Turning.{takes_none}

-- what is on one latch is part of all
on_all : (l : ℕ) (f : Holding → ℕ) (held : List Holding) → on l f held ≤ sum_by f held
on_all l f [] = omega arith
on_all l f (h ∷ held) =
    let a = on-cons l f h held in let b = sum_by-cons f h held in let c = on_all l f held in
    let d : part l f h ≤ f h = by_equal (λ t. cond t (f h) 0 ≤ f h) h.latch.0 l (λ _. omega arith) (λ _. omega arith) in omega arith

pub may_grow : (e : Event) (v : View) (n : ℕ) → MayGrow v → CanTake e v n
may_grow e v n grow = inr (grow.0, let o = on_all (latch_of e) (λ h. h.s + h.sx + h.x) v.session.held in let g = grow.1 in omega arith)

-- the events that may take a grant
abbrev pub is_taking : Event → Bool
is_taking (S l v) = true
is_taking (Sx l v) = true
is_taking (X l v) = true
is_taking (Again l) = true
is_taking e = false

wish_none : (p : Phase) (e : Event) → is_taking e ≡ false → wish_of p e ≡ None
wish_none (Flagged l mode v g) (Again k) is = absurd (cc)
wish_none (Flagged l mode v g) e is = refl
wish_none Free (S l v) is = absurd (cc)
wish_none Free (Sx l v) is = absurd (cc)
wish_none Free (X l v) is = absurd (cc)
wish_none Free e is = refl
wish_none p e is = refl

-- the others need no room
pub none_grows : (e : Event) (v : View) (n : ℕ) → is_taking e ≡ false → CanTake e v n
none_grows e v n is = takes_none e v n (wish_none v.session.phase e is)
