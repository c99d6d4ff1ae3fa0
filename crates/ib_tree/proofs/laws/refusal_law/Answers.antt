-- The law of changes that are refused, clause by clause.
use Rattle.std.proofs.Common.{arith}
use Rattle.ib_tree.proofs.RefusalLaws.{refusal-full, refusal-grows, refusal-made, refusal-one}
use Rattle.ib_tree.proofs.laws.refusal_law.Goals as goal

pub returns-clause-one : goal.returns-clause-one
returns-clause-one c = refusal-one

pub returns-clause-made : goal.returns-clause-made
returns-clause-made c = refusal-made

pub returns-clause-full : goal.returns-clause-full
returns-clause-full c space log session reach words cap r fits is =
    let full = refusal-full space log session reach words cap r fits is in
    (full.words_are, full.cap_is, omega arith)

pub returns-clause-room : goal.returns-clause-room
returns-clause-room c space log session reach words cap r fits room is =
    let full = refusal-full space log session reach words cap r fits is in
    omega arith

pub returns-clause-grows : goal.returns-clause-grows
returns-clause-grows c space log session reach words cap key value r fits call reply = refusal-grows space log session reach words cap key value r fits call reply
