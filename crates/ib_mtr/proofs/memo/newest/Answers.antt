-- Each grant that was passed is on another latch.
use Rattle.std.proofs.Common.{◌≡◌, ◌≢◌, ◌+◌, ◌-◌, ℕ, drop, subst, sym, arith, length, ◌∙◌}
use Rattle.std.specs.List.{All}
use Rattle.std.proofs.lemmas.List.{drop_all}
use Rattle.std.proofs.lemmas.List.Elements.{All-nil}
use Rattle.ib_mtr.proofs.Places.{newest_at, none_from}
use Rattle.ib_mtr.proofs.memo.newest.Goals as goal

pub loop-at-init : goal.loop-at-init
loop-at-init c = subst (All (λ g. g.0 ≢ c.args.latch)) (sym (drop_all (length c.args.memo.now) c.args.memo.now (omega arith))) (All-nil (λ g. g.0 ≢ c.args.latch))

pub returns-then-eq : goal.returns-then-eq
returns-then-eq c =
    let next : c.loop-at.at ≡ c.loop-at.at - 1 + 1 = omega arith in
    newest_at c.args.memo.now c.args.latch (c.loop-at.at - 1) _ (omega arith) (subst (λ (n : ℕ). All (λ g. g.0 ≢ c.args.latch) (drop n c.args.memo.now)) next c.loop-at.invariant) (sym c.eq.ensures ∙ c.if-eq.true)

pub loop-at-preserved : goal.loop-at-preserved
loop-at-preserved c =
    let next : c.loop-at.at ≡ c.loop-at.at - 1 + 1 = omega arith in
    none_from c.args.memo.now c.args.latch (c.loop-at.at - 1) _ (omega arith) (subst (λ (n : ℕ). All (λ g. g.0 ≢ c.args.latch) (drop n c.args.memo.now)) next c.loop-at.invariant) (sym c.eq.ensures ∙ c.if-eq.false)

pub returns : goal.returns
returns c = let none : c.loop-at.at ≡ 0 = omega arith in subst (λ (n : ℕ). All (λ g. g.0 ≢ c.args.latch) (drop n c.args.memo.now)) none c.loop-at.invariant
