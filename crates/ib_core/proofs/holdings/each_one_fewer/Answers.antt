-- One holding more is changed, which has a grant of the mode where it is on the latch.
use Rattle.std.proofs.Common.{◌≡◌, ℕ, zero, suc, ◌==◌, ◌<◌, ◌≤◌, cond, List, [], ◌∷◌, ◌++◌, take, drop, get_or, length, refl, sym, ap, ◌∙◌, subst, arith}
use Rattle.std.proofs.lemmas.List.{get_or_default}
use Rattle.std.proofs.lemmas.List.Edits.{map_over_more}
use mathlib.Core.Logic.{dite}
use native.Mathlib.Decide.{ℕ_discrete}
use Rattle.ib_levels.specs.declared.holding.Holding.{Holding}
use Rattle.ib_levels.specs.declared.level.Level.TheVariants.{Log}
use Rattle.ib_levels.specs.Holding.{hold, on, changed_on}
use Rattle.ib_levels.proofs.Counts.{on-cons, on-none, part-here, part-away}
use Rattle.ib_core.specs.Takings.{count_of, one_fewer}
use Rattle.ib_core.proofs.holdings.each_one_fewer.Goals as goal

-- a holding on the latch is one that is held there
held_at : (l : ℕ) (held : List Holding) (i : ℕ) (d : Holding) → i < length held → (get_or held i d).latch.0 ≡ l → 0 < on l (λ h. 1) held
held_at l [] i d within here = absurd (omega arith)
held_at l (h ∷ held) zero d within here = let a = on-cons l (λ h. 1) h held in let p = part-here l (λ h. 1) h here in omega arith
held_at l (h ∷ held) (suc i) d within here = let a = on-cons l (λ h. 1) h held in let p = held_at l held i d (omega arith) here in omega arith

-- the one holding on the latch has what is held there
has_all : (l : ℕ) (f : Holding → ℕ) (held : List Holding) (i : ℕ) (d : Holding) → i < length held → on l (λ h. 1) held ≤ 1 → 0 < on l f held → (get_or held i d).latch.0 ≡ l → 0 < f (get_or held i d)
has_all l f [] i d within single has here = absurd (omega arith)
has_all l f (h ∷ held) zero d within single has here =
    let a = on-cons l (λ h. 1) h held in let p = part-here l (λ h. 1) h here in let none = on-none l f held (omega arith) in
    let b = on-cons l f h held in let q = part-here l f h here in omega arith
has_all l f (h ∷ held) (suc i) d within single has here =
    let a = on-cons l (λ h. 1) h held in let b = on-cons l f h held in let more = held_at l held i d (omega arith) here in
    dite (ℕ_discrete h.latch.0 l)
    (λ e. let p = part-here l (λ h. 1) h e in absurd (omega arith))
    (λ n. let p = part-away l f h n in has_all l f held i d (omega arith) (omega arith) (omega arith) here)

-- what the loop has not come to is as it was
not_yet : (l : ℕ) (f : Holding → Holding) (held : List Holding) (i : ℕ) (d : Holding) → get_or (changed_on l f (take i held) ++ drop i held) i d ≡ get_or held i d
not_yet l f [] zero d = refl
not_yet l f [] (suc i) d = refl
not_yet l f (h ∷ held) zero d = refl
not_yet l f (h ∷ held) (suc i) d = not_yet l f held i d

pub with_one_fewer-requires : goal.with_one_fewer-requires
with_one_fewer-requires c here =
    let held : List Holding = c.args.held.now in let none : Holding = hold 0 Log 0 0 0 in
    let is = ap (λ (hs : List Holding). get_or hs c.loop-h.h-index none) c.loop-h.invariant ∙ not_yet c.args.latch.0 (one_fewer c.args.mode) held c.loop-h.h-index none in
    subst (λ (h : Holding). 0 < count_of c.args.mode h) (sym is)
    (has_all c.args.latch.0 (count_of c.args.mode) held c.loop-h.h-index none (omega arith) c.requires.single c.requires.has (ap (λ (h : Holding). h.latch.0) (sym is) ∙ here))

pub loop-h-preserved : goal.loop-h-preserved
loop-h-preserved c =
    let within : c.loop-h.h-index < length c.loop-h.held = omega arith in
    rw c.with_one_fewer.ensures
    (map_over_more (λ (h : Holding). cond (h.latch.0 == c.args.latch.0) (one_fewer c.args.mode h) h) c.args.held.now c.loop-h.held c.loop-h.h-index _ (omega arith) c.loop-h.invariant
    (get_or_default c.loop-h.held c.loop-h.h-index _ _ within))
