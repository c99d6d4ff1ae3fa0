-- The key of the number behind a key's.
use Rattle.std.proofs.Common.{arith, refl, ◌∙◌, sym}
use Rattle.ib_map.proofs.KeyLaws.{answers-after, last-words}
use Rattle.ib_map.proofs.key.order.after.Goals as goal

pub returns-in_err-first-clause-next : goal.returns-in_err-first-clause-next
returns-in_err-first-clause-next c = c.from_residual.ensures ∙ sym (last-words c.args.key (c.in_err-first.ensures.none.0 refl)).0

pub returns-in_err-first-clause-last : goal.returns-in_err-first-clause-last
returns-in_err-first-clause-last c = (λ _. (last-words c.args.key (c.in_err-first.ensures.none.0 refl)).1, λ _. rw c.from_residual.ensures refl)

pub returns-clause-next : goal.returns-clause-next
returns-clause-next c = (answers-after c.args.key c.in_ok-first.first c.in_ok-first.second c.from_words.result (omega arith) c.in_ok-first.ensures.room c.in_ok-first.ensures.number c.from_words.ensures).next

pub returns-clause-last : goal.returns-clause-last
returns-clause-last c = (answers-after c.args.key c.in_ok-first.first c.in_ok-first.second c.from_words.result (omega arith) c.in_ok-first.ensures.room c.in_ok-first.ensures.number c.from_words.ensures).last

pub returns-clause-above : goal.returns-clause-above
returns-clause-above c = (answers-after c.args.key c.in_ok-first.first c.in_ok-first.second c.from_words.result (omega arith) c.in_ok-first.ensures.room c.in_ok-first.ensures.number c.from_words.ensures).above

pub returns-clause-adjacent : goal.returns-clause-adjacent
returns-clause-adjacent c = (answers-after c.args.key c.in_ok-first.first c.in_ok-first.second c.from_words.result (omega arith) c.in_ok-first.ensures.room c.in_ok-first.ensures.number c.from_words.ensures).adjacent
