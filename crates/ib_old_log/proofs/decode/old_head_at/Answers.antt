-- The head that is read is that of what stands at the place.
use Rattle.std.proofs.Common.{◌≡◌, ℕ, ◌+◌, ◌-◌, ◌*◌, ◌≤◌, List, length, take, drop, None, arith}
use Rattle.ib_old_log.specs.declared.TheConstants.{OLD_HEAD_WORDS}
use Rattle.ib_old_log.specs.declared.head.OldHead.{OldHead}
use Rattle.ib_old_log.specs.OldHeads.{old_head_in}
use Rattle.ib_old_log.specs.OldGrammar.{old_fault_at}
use Rattle.ib_old_log.proofs.OldReadLaws.{OldHeadStandsAt-part}
use Rattle.ib_old_log.proofs.decode.old_head_at.Goals as goal

within : (pages place : ℕ) (words : List ℕ) (h : OldHead) → old_fault_at pages place (take (length words - place) (drop place words)) ≡ None → h ≡ old_head_in (take (length words - place) (drop place words))
    → place + (OLD_HEAD_WORDS + 2 * h.writes) ≤ length words
within pages place words h none read = (OldHeadStandsAt-part pages place words h none read).stands.within

pub overflow_mul-length : goal.overflow_mul-length
overflow_mul-length c = omega (arith, within c.args.pages c.args.place c.args.words.now c.in_ok-head.head c.in_ok-head.ensures.no_fault c.in_ok-head.ensures.head, c.requires.few_words)

pub overflow_add-length : goal.overflow_add-length
overflow_add-length c = omega (arith, within c.args.pages c.args.place c.args.words.now c.in_ok-head.head c.in_ok-head.ensures.no_fault c.in_ok-head.ensures.head, c.requires.few_words)

pub overflow_cast-result : goal.overflow_cast-result
overflow_cast-result c = omega (arith, within c.args.pages c.args.place c.args.words.now c.in_ok-head.head c.in_ok-head.ensures.no_fault c.in_ok-head.ensures.head, c.requires.few_words)

pub overflow_add-result : goal.overflow_add-result
overflow_add-result c = omega (arith, within c.args.pages c.args.place c.args.words.now c.in_ok-head.head c.in_ok-head.ensures.no_fault c.in_ok-head.ensures.head, c.requires.few_words)

pub returns-clause-found : goal.returns-clause-found
returns-clause-found c = OldHeadStandsAt-part c.args.pages c.args.place c.args.words.now c.in_ok-head.head c.in_ok-head.ensures.no_fault c.in_ok-head.ensures.head
