-- The head that is read is that of what stands at the place, and what stands there is what is read.
use Rattle.std.proofs.Common.{◌≡◌, ℕ, ◌+◌, ◌-◌, ◌*◌, ◌≤◌, List, length, take, drop, None, ap, ◌∙◌, arith}
use Rattle.std.specs.Prelude.{Ok}
use Rattle.std.proofs.lemmas.List.{take_rest}
use Rattle.ib_logrec.specs.declared.entry.TheConstants.{HEAD_WORDS}
use Rattle.ib_logrec.specs.declared.head.Head.{Head}
use Rattle.ib_logrec.specs.Heads.{head_of, head_in}
use Rattle.ib_logrec.specs.Words.{words_of_entry}
use Rattle.ib_logrec.specs.Grammar.{fault_at}
use Rattle.ib_logrec.proofs.EntryLaws.{length-words_of_entry, fault_at-words}
use Rattle.ib_logrec.proofs.ReadLaws.{HeadStandsAt-part, head_in-spelled}
use Rattle.ib_logrec.proofs.decode.head_at.Goals as goal

within : (pages place : ℕ) (words : List ℕ) (h : Head) → fault_at pages place (take (length words - place) (drop place words)) ≡ None → h ≡ head_in (take (length words - place) (drop place words)) → place + (HEAD_WORDS + 2 * h.writes) ≤ length words
within pages place words h none read = (HeadStandsAt-part pages place words h none read).stands.within

pub overflow_mul-length : goal.overflow_mul-length
overflow_mul-length c = omega (arith, within c.args.pages c.args.place c.args.words.now c.in_ok-head.head c.in_ok-head.ensures.no_fault c.in_ok-head.ensures.head, c.requires.few_words)

pub overflow_add-length : goal.overflow_add-length
overflow_add-length c = omega (arith, within c.args.pages c.args.place c.args.words.now c.in_ok-head.head c.in_ok-head.ensures.no_fault c.in_ok-head.ensures.head, c.requires.few_words)

pub overflow_cast-result : goal.overflow_cast-result
overflow_cast-result c = omega (arith, within c.args.pages c.args.place c.args.words.now c.in_ok-head.head c.in_ok-head.ensures.no_fault c.in_ok-head.ensures.head, c.requires.few_words)

pub overflow_add-result : goal.overflow_add-result
overflow_add-result c = omega (arith, within c.args.pages c.args.place c.args.words.now c.in_ok-head.head c.in_ok-head.ensures.no_fault c.in_ok-head.ensures.head, c.requires.few_words)

pub returns-clause-found : goal.returns-clause-found
returns-clause-found c = HeadStandsAt-part c.args.pages c.args.place c.args.words.now c.in_ok-head.head c.in_ok-head.ensures.no_fault c.in_ok-head.ensures.head

pub returns-clause-only : goal.returns-clause-only
returns-clause-only c e rest is spelled =
    let head : c.in_ok-head.head ≡ head_of e = c.in_ok-head.ensures.head ∙ ap head_in (take_rest c.args.words.now c.args.place) ∙ head_in-spelled c.args.pages (drop c.args.place c.args.words.now) e rest is spelled in
    let count : c.in_ok-head.head.writes ≡ length e.writes = ap (λ (h : Head). h.writes) head in
    let next : c.args.place + (HEAD_WORDS + 2 * c.in_ok-head.head.writes) ≡ c.args.place + length (words_of_entry e) = omega (arith, length-words_of_entry e) in
    λ i. Ok (record { 0 = head i; 1 = next i })

pub returns-in_err-head-clause-only : goal.returns-in_err-head-clause-only
returns-in_err-head-clause-only c e rest is spelled =
    let none : fault_at c.args.pages c.args.place (drop c.args.place c.args.words.now) ≡ None = ap (fault_at c.args.pages c.args.place) spelled ∙ fault_at-words c.args.pages c.args.place e rest is in
    let fault = rw (take_rest, none) at c.in_err-head.ensures.fault in
    absurd (cc)
