-- A page that is changed is the first of them, or the second.
use Rattle.std.proofs.Common.{◌≡◌, ◌+◌, ◌∙◌, length, sym, subst, arith}
use Rattle.ib_mtr.proofs.Asking.{AreWritten, first_found, no_second, not_further, said_at, second_found}
use Rattle.ib_mtr.proofs.readers.changes_several.Goals as goal
use Rattle.ib_mtr.proofs.readers.changes_several.Goals.{then-is_changed_at+else-found, else-is_changed_at}

pub returns-then-found : goal.returns-then-found
returns-then-found c =
    let ps = c.args.work.now in let n = c.loop-place.place in
    let this = sym (said_at ps n c.is_changed_at.result (omega arith) c.is_changed_at.ensures.changed) ∙ c.if-is_changed_at.true in
    sym (second_found ps n c.len-place-end.ensures.work.ascends (omega arith) this (subst (λ b. AreWritten b ps n) c.if-found.true c.loop-place.invariant))

pub loop-place-preserved : goal.loop-place-preserved
loop-place-preserved c =
    let ps = c.args.work.now in let n = c.loop-place.place in
    let said = sym (said_at ps n c.is_changed_at.result (omega arith) c.is_changed_at.ensures.changed) in
    elim c.if-is_changed_at.branch [
      | then-is_changed_at+else-found w ↦
          subst (λ b. AreWritten b ps (n + 1)) (sym w.found-is) (first_found ps n (said ∙ w.if-is_changed_at.true) (subst (λ b. AreWritten b ps n) w.if-found.false c.loop-place.invariant))
      | else-is_changed_at w ↦
          subst (λ b. AreWritten b ps (n + 1)) (sym w.found-is) (not_further ps c.loop-place.found n (said ∙ w.if-is_changed_at.false) c.loop-place.invariant)
    ]

pub returns : goal.returns
returns c =
    let ps = c.args.work.now in
    let all : c.loop-place.place ≡ length ps = omega arith in
    sym (no_second ps c.loop-place.found (subst (λ n. AreWritten c.loop-place.found ps n) all c.loop-place.invariant))
