-- Each word is restored; places and words stay where they are.
use Rattle.ib_image.specs.Copies.{first_place}
use Rattle.ib_image.proofs.CopyLaws.{copy-longer, copy_restores, tail-words}
use Rattle.ib_image.proofs.laws.copy_law.Goals as goal

pub returns-clause-restores : goal.returns-clause-restores
returns-clause-restores c = λ opening pages log copy is place lt. copy_restores opening pages log copy is place lt

pub returns-clause-longer : goal.returns-clause-longer
returns-clause-longer c = copy-longer

pub returns-clause-tail : goal.returns-clause-tail
returns-clause-tail c = λ copy log. tail-words (first_place copy) log
