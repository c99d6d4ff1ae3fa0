-- The order of keys, clause by clause.
use Rattle.ib_map.proofs.KeyLaws.{rank_injective, rank-least, rank-lt_end, rank-greatest, key_in-words}
use Rattle.ib_map.proofs.CompareLaws.{rank-pairs}
use Rattle.ib_map.proofs.ByteLaws.{bytes-injective, bytes-key_of_bytes, key-bytes, key-few, rank-bytes}
use Rattle.ib_map.proofs.key.law.key_law.Goals as goal

pub returns-clause-below_end : goal.returns-clause-below_end
returns-clause-below_end c key = rank-lt_end key

pub returns-clause-injective : goal.returns-clause-injective
returns-clause-injective c a b same = rank_injective a b same

pub returns-clause-least : goal.returns-clause-least
returns-clause-least c = rank-least

pub returns-clause-greatest : goal.returns-clause-greatest
returns-clause-greatest c = rank-greatest

pub returns-clause-words : goal.returns-clause-words
returns-clause-words c key = key_in-words key

pub returns-clause-bytes : goal.returns-clause-bytes
returns-clause-bytes c a b = rank-bytes a b

pub returns-clause-of_bytes : goal.returns-clause-of_bytes
returns-clause-of_bytes c bs few are = bytes-key_of_bytes bs few are

pub returns-clause-are_bytes : goal.returns-clause-are_bytes
returns-clause-are_bytes c key = key-bytes key

pub returns-clause-few_bytes : goal.returns-clause-few_bytes
returns-clause-few_bytes c key = key-few key

pub returns-clause-one_key : goal.returns-clause-one_key
returns-clause-one_key c a b same = bytes-injective a b same

pub returns-clause-pairs : goal.returns-clause-pairs
returns-clause-pairs c a b = rank-pairs a b
