-- Behind a head that is spelled the words of its writes are all there, or too few.
use Rattle.std.proofs.Common.{arith}
use Rattle.std.proofs.lemmas.List.{length-drop}
use Rattle.ib_logrec.specs.declared.entry.TheConstants.{HEAD_WORDS}
use Rattle.ib_logrec.proofs.HeadLaws.{no_fault-HeadIsRight, right-spelled, short-spelled}
use Rattle.ib_logrec.proofs.decode.head_of.Goals as goal

pub returns-then-words-head-clause-fault : goal.returns-then-words-head-clause-fault
returns-then-words-head-clause-fault c =
    let words = c.args.words.now in let long = length-drop HEAD_WORDS words in let few = c.if-words-lt-HEAD_WORDS.false in
    let count = c.in_ok-head.ensures.count in let less = c.if-words-head.true in
    short-spelled words (omega arith) c.in_ok-head.ensures.spelled c.args.place (omega arith)

pub returns-clause-no_fault : goal.returns-clause-no_fault
returns-clause-no_fault c =
    let words = c.args.words.now in let long = length-drop HEAD_WORDS words in let few = c.if-words-lt-HEAD_WORDS.false in
    let count = c.in_ok-head.ensures.count in let enough = c.if-words-head.false in
    no_fault-HeadIsRight c.args.place words (right-spelled words (omega arith) c.in_ok-head.ensures.spelled (omega arith))
