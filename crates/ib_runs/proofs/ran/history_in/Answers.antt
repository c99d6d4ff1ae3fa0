-- The head of each entry is read, and no more, up to the end of the log.
use Rattle.std.proofs.Common.{◌≡◌, ◌+◌, ◌*◌, ◌<◌, ◌≤◌, ◌∙◌, ◌++◌, ◌∷◌, [], ℕ, List, length, drop, refl, ap, arith}
use Rattle.ib_logrec.specs.declared.entry.Entry.{Entry}
use Rattle.ib_logrec.specs.declared.entry.TheConstants.{HEAD_WORDS}
use Rattle.ib_logrec.specs.declared.head.Head.{Head}
use Rattle.ib_logrec.specs.Grammar.{IsInGrammar}
use Rattle.ib_logrec.specs.Heads.{head_of}
use Rattle.ib_logrec.specs.Law.{AreInGrammar}
use Rattle.ib_logrec.specs.Log.{log_words}
use Rattle.ib_logrec.specs.Words.{words_of_entry}
use Rattle.ib_map.specs.declared.call.LoggedChange.{LoggedChange}
use Rattle.ib_rule.specs.Closed.{log_in}
use Rattle.ib_runs.proofs.ReadOffLaws.{IsReadTo, next_within, read_all, read_more, stands_next}
use Rattle.ib_runs.proofs.ran.history_in.Goals as goal

pub head_at-head-requires-clause-entry : goal.head_at-head-requires-clause-entry
head_at-head-requires-clause-entry c =
    let words : List ℕ = log_in c.args.closed.now.sizes c.args.closed.now.words in
    let lt : c.loop-place.place < length words = let u = c.used-used.ensures in let t = c.loop-place-test.true in omega arith in
    let s = stands_next c.args.closed.now.sizes.pages words c.loop-place.place c.loop-place.history.items c.requires.spelled.0 c.requires.spelled.1 c.requires.spelled.2
    (c.loop-place.invariant c.requires.spelled.0 c.requires.spelled.1 c.requires.spelled.2) lt in
    (s.e, log_words s.back, s.grammar_is, s.words_are)

-- the entry whose head was read lies within the log
within : (pages : ℕ) (words : List ℕ) (place : ℕ) (history : List LoggedChange) (log : List Entry) (grammar : AreInGrammar pages log) (spelled : words ≡ log_words log) → IsReadTo log place history → place < length words
    → (head : Head) → ((e : Entry) (rest : List ℕ) → IsInGrammar pages e → drop place words ≡ words_of_entry e ++ rest → head ≡ head_of e) → place + (HEAD_WORDS + 2 * head.writes) ≤ length words
within pages words place history log grammar spelled read lt head only =
    let s = stands_next pages words place history log grammar spelled read lt in
    next_within pages words place history log grammar spelled s head (only s.e (log_words s.back) s.grammar_is s.words_are)

pub overflow_mul-place : goal.overflow_mul-place
overflow_mul-place c =
    let words : List ℕ = log_in c.args.closed.now.sizes c.args.closed.now.words in
    let lt : c.loop-place.place < length words = let u = c.used-used.ensures in let t = c.loop-place-test.true in omega arith in
    omega (
      arith,
      c.requires.few_words,
      within c.args.closed.now.sizes.pages words c.loop-place.place c.loop-place.history.items c.requires.spelled.0 c.requires.spelled.1 c.requires.spelled.2
          (c.loop-place.invariant c.requires.spelled.0 c.requires.spelled.1 c.requires.spelled.2) lt c.head_at-head.result c.head_at-head.ensures,
    )

pub overflow_add-place : goal.overflow_add-place
overflow_add-place c =
    let words : List ℕ = log_in c.args.closed.now.sizes c.args.closed.now.words in
    let lt : c.loop-place.place < length words = let u = c.used-used.ensures in let t = c.loop-place-test.true in omega arith in
    omega (
      arith,
      c.requires.few_words,
      within c.args.closed.now.sizes.pages words c.loop-place.place c.loop-place.history.items c.requires.spelled.0 c.requires.spelled.1 c.requires.spelled.2
          (c.loop-place.invariant c.requires.spelled.0 c.requires.spelled.1 c.requires.spelled.2) lt c.head_at-head.result c.head_at-head.ensures,
    )

pub overflow_cast-place : goal.overflow_cast-place
overflow_cast-place c =
    let words : List ℕ = log_in c.args.closed.now.sizes c.args.closed.now.words in
    let lt : c.loop-place.place < length words = let u = c.used-used.ensures in let t = c.loop-place-test.true in omega arith in
    omega (
      arith,
      c.requires.few_words,
      within c.args.closed.now.sizes.pages words c.loop-place.place c.loop-place.history.items c.requires.spelled.0 c.requires.spelled.1 c.requires.spelled.2
          (c.loop-place.invariant c.requires.spelled.0 c.requires.spelled.1 c.requires.spelled.2) lt c.head_at-head.result c.head_at-head.ensures,
    )

pub overflow_add-place-in-loop-place : goal.overflow_add-place-in-loop-place
overflow_add-place-in-loop-place c =
    let words : List ℕ = log_in c.args.closed.now.sizes c.args.closed.now.words in
    let lt : c.loop-place.place < length words = let u = c.used-used.ensures in let t = c.loop-place-test.true in omega arith in
    omega (
      arith,
      c.requires.few_words,
      within c.args.closed.now.sizes.pages words c.loop-place.place c.loop-place.history.items c.requires.spelled.0 c.requires.spelled.1 c.requires.spelled.2
          (c.loop-place.invariant c.requires.spelled.0 c.requires.spelled.1 c.requires.spelled.2) lt c.head_at-head.result c.head_at-head.ensures,
    )

pub loop-place-preserved : goal.loop-place-preserved
loop-place-preserved c = λ log grammar spelled.
    let pages : ℕ = c.args.closed.now.sizes.pages in
    let words : List ℕ = log_in c.args.closed.now.sizes c.args.closed.now.words in
    let lt : c.loop-place.place < length words = let u = c.used-used.ensures in let t = c.loop-place-test.true in omega arith in
    let s = stands_next pages words c.loop-place.place c.loop-place.history.items log grammar spelled (c.loop-place.invariant log grammar spelled) lt in
    read_more pages words c.loop-place.place c.loop-place.history.items log grammar spelled s c.head_at-head.result (c.head_at-head.ensures s.e (log_words s.back) s.grammar_is s.words_are)
    (c.loop-place.place + (HEAD_WORDS + 2 * c.head_at-head.result.writes)) refl c.push.new.self.items
    (c.in_ok-push.ensures.items ∙ ap (λ (x : LoggedChange). c.loop-place.history.items ++ x ∷ []) c.logged.ensures)

pub returns : goal.returns
returns c = λ log grammar spelled.
    let words : List ℕ = log_in c.args.closed.now.sizes c.args.closed.now.words in
    let end : length words ≤ c.loop-place.place = let u = c.used-used.ensures in let t = c.loop-place-test.false in omega arith in
    read_all c.args.closed.now.sizes.pages words c.loop-place.place c.loop-place.history.items log grammar spelled (c.loop-place.invariant log grammar spelled) end
