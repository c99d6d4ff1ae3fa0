-- A session holds no more grants than a number of 64 bits counts.
use Rattle.std.proofs.Common.{◌≡◌, ℕ, ◌+◌, ◌*◌, ◌^◌, ◌<◌, ◌≤◌, List, [], ◌∷◌, length, refl, ap, arith}
use Rattle.std.specs.Prelude.{sum_by}
use Rattle.std.proofs.lemmas.List.Sums.{sum_by-cons}
use Rattle.ib_levels.specs.declared.holding.Holding.{Holding}
use Rattle.ib_levels.specs.Holding.{on}
use Rattle.ib_levels.proofs.Counts.{on-cons, part-here}
use Rattle.ib_core.specs.declared.session.Session.{Session}
use Rattle.ib_core.specs.Sessions.{grants}
use Rattle.ib_rule.specs.declared.pass.TheConstants.{MOST_HELD}

-- each holding has few grants, so all have few
sum_few : (held : List Holding) → ((l : ℕ) → on l (λ h. h.s + h.sx + h.x) held ≤ 8192) → sum_by (λ (h : Holding). h.s + h.sx + h.x) held ≤ 8192 * length held
sum_few [] few = omega arith
sum_few (h ∷ held) few =
    let a = sum_by-cons (λ (h : Holding). h.s + h.sx + h.x) h held in
    let b = sum_few held (λ l. let c = on-cons l (λ h. h.s + h.sx + h.x) h held in let f = few l in omega arith) in
    let c = on-cons h.latch.0 (λ h. h.s + h.sx + h.x) h held in let p = part-here h.latch.0 (λ h. h.s + h.sx + h.x) h refl in let f = few h.latch.0 in omega arith

pub held_few : (held : List Holding) (a : Session) → held ≡ a.held → length held < 2 ^ 32 → ((l : ℕ) → grants l a ≤ MOST_HELD) → sum_by (λ (h : Holding). h.s + h.sx + h.x) held < 2 ^ 64
held_few held a is short few =
    let s = sum_few held (λ l. let e = ap (on l (λ h. h.s + h.sx + h.x)) is in let f = few l in omega arith) in omega arith
