-- The law of second keys, clause by clause.
use Rattle.ib_second_key.proofs.SecondKeyLaws.{bytes-second, least-words, primary-second, second-between, second-injective, second-words}
use Rattle.ib_second_key.proofs.laws.second_key_law.Goals as goal

pub returns-clause-bytes : goal.returns-clause-bytes
returns-clause-bytes c key value is = bytes-second key value is.0

pub returns-clause-injective : goal.returns-clause-injective
returns-clause-injective c a v b w one two same = second-injective a v b w one two same

pub returns-clause-primary : goal.returns-clause-primary
returns-clause-primary c key value is = (primary-second key value is, (second-words key value is).0)

pub returns-clause-least : goal.returns-clause-least
returns-clause-least c value lt = (least-words value lt).0

pub returns-clause-between : goal.returns-clause-between
returns-clause-between c key value other is lt = second-between key value other is lt
