-- The words of the head of the entry that stands at the place.
use Rattle.std.proofs.Common.{◌≡◌, ◌+◌, ◌<◌, ◌∙◌, ◌++◌, ◌∷◌, [], ℕ, List, suc, length, take, drop, slice_index, refl, sym, ap, arith}
use Rattle.std.proofs.Math.Seq.{take-suc}
use Rattle.std.proofs.lemmas.List.{get_or-drop, length-drop, length-set, take_all}
use Rattle.std.proofs.lemmas.Grind.{take-set_at}
use Rattle.ib_logrec.specs.declared.entry.TheConstants.{HEAD_WORDS}
use Rattle.ib_logrec.proofs.EntryLaws.{length-words_of_entry}
use Rattle.ib_rule.specs.Closed.{log_in}
use Rattle.ib_runs.proofs.ReadOffLaws.{entry_within, head_there}
use Rattle.ib_runs.proofs.ran.head_at.Goals as goal

pub overflow_add-place : goal.overflow_add-place
overflow_add-place c =
    let log = log_in c.args.closed.now.sizes c.args.closed.now.words in let e = c.requires.entry.0 in
    omega (arith, entry_within log c.args.place e c.requires.entry.1 c.requires.entry.3, length-words_of_entry e, c.requires.few_words, c.loop-i-test.true)

pub log_word-requires : goal.log_word-requires
log_word-requires c =
    let log = log_in c.args.closed.now.sizes c.args.closed.now.words in let e = c.requires.entry.0 in
    omega (arith, entry_within log c.args.place e c.requires.entry.1 c.requires.entry.3, length-words_of_entry e, c.loop-i-test.true)

pub loop-i-preserved : goal.loop-i-preserved
loop-i-preserved c =
    let log = log_in c.args.closed.now.sizes c.args.closed.now.words in let e = c.requires.entry.0 in
    let within = entry_within log c.args.place e c.requires.entry.1 c.requires.entry.3 in let long = length-words_of_entry e in
    let behind : List ℕ = drop c.args.place log in
    let there : c.loop-i.i < length behind = let d = length-drop c.args.place log in let t = c.loop-i-test.true in omega arith in
    let word : slice_index behind c.loop-i.i ≡ c.log_word.result = get_or-drop c.args.place log c.loop-i.i 0 ∙ sym c.log_word.ensures in
    let room : c.loop-i.i < length c.loop-i.words = let w = c.loop-i.invariant.whole in let t = c.loop-i-test.true in omega arith in
    record {
      made = take-set_at c.loop-i.words c.loop-i.i (c.loop-i.i + 1) c.log_word.result refl room
          ∙ (ap (λ (ws : List ℕ). ws ++ c.log_word.result ∷ []) c.loop-i.invariant.made ∙ (ap (λ (w : ℕ). take c.loop-i.i behind ++ w ∷ []) (sym word) ∙ (sym (take-suc behind c.loop-i.i 0 there) ∙ ap (λ (n : ℕ). take n behind) (let z : suc c.loop-i.i ≡ c.loop-i.i + 1 = omega arith in z))));
      whole = length-set c.loop-i.words c.loop-i.i c.log_word.result ∙ c.loop-i.invariant.whole;
    }

pub unreachable-requires : goal.unreachable-requires
unreachable-requires c =
    let log = log_in c.args.closed.now.sizes c.args.closed.now.words in let e = c.requires.entry.0 in
    let all = sym (take_all c.loop-i.i c.loop-i.words (let w = c.loop-i.invariant.whole in let t = c.loop-i-test.false in omega arith)) in
    let five : c.loop-i.i ≡ HEAD_WORDS = let end = c.loop-i.auto.i-end in let t = c.loop-i-test.false in omega arith in
    c.in_default.not-Some _ (c.read.ensures.only c.args.closed.now.sizes.pages e [] c.requires.entry.2
    (head_there c.loop-i.words log c.args.place e c.requires.entry.1 (all ∙ c.loop-i.invariant.made ∙ ap (λ (n : ℕ). take n (drop c.args.place log)) five) c.requires.entry.3))

pub returns : goal.returns
returns c = λ e rest grammar spelled.
    let log = log_in c.args.closed.now.sizes c.args.closed.now.words in
    let all = sym (take_all c.loop-i.i c.loop-i.words (let w = c.loop-i.invariant.whole in let t = c.loop-i-test.false in omega arith)) in
    let five : c.loop-i.i ≡ HEAD_WORDS = let end = c.loop-i.auto.i-end in let t = c.loop-i-test.false in omega arith in
    let read = c.read.ensures.only c.args.closed.now.sizes.pages e [] grammar
    (head_there c.loop-i.words log c.args.place e rest (all ∙ c.loop-i.invariant.made ∙ ap (λ (n : ℕ). take n (drop c.args.place log)) five) spelled) in
    let same = sym c.in-Some.is ∙ read in cc
