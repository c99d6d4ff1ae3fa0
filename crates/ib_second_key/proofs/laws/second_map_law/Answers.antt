-- The law of the second tree's map, clause by clause.
use Rattle.ib_second_key.proofs.SecondMapLaws.{ArePrimary-effect, IsMap-second, second-effect, second-made}
use Rattle.ib_second_key.proofs.ValueLaws.{keys-of_value}
use Rattle.ib_second_key.proofs.laws.second_map_law.Goals as goal

pub returns-clause-map : goal.returns-clause-map
returns-clause-map c m is are = IsMap-second 0 m is are

pub returns-clause-effect : goal.returns-clause-effect
returns-clause-effect c m change is are primary made = second-effect m change is are primary made

pub returns-clause-made : goal.returns-clause-made
returns-clause-made c m change is are primary made = second-made m change is are primary made

pub returns-clause-primary : goal.returns-clause-primary
returns-clause-primary c m change primary are = ArePrimary-effect m change primary are

pub returns-clause-found : goal.returns-clause-found
returns-clause-found c m value is are lt = keys-of_value value lt m is are
