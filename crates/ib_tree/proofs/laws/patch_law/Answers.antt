-- The law of the test of a patch, clause by clause.
use Rattle.ib_tree.proofs.GivenLaws.{passes-once, IsLawful-passes, passes-IsLawful}
use Rattle.ib_tree.proofs.WholeLaws.{IsLawfulMemory-passes, passes-IsLawfulMemory}
use Rattle.ib_tree.proofs.laws.patch_law.Goals as goal

pub returns-clause-sound : goal.returns-clause-sound
returns-clause-sound c written m new good bits after roots pages ps old table given passes =
    IsLawful-passes written m new good bits after roots pages ps old given table passes

pub returns-clause-complete : goal.returns-clause-complete
returns-clause-complete c written m new good bits after roots pages ps old given law ranges =
    passes-IsLawful written m new good bits after roots pages ps old given law ranges

pub returns-clause-once : goal.returns-clause-once
returns-clause-once c written m new good bits after roots end ps old table other a b = passes-once written m new good bits after roots end ps old table other a b

pub returns-clause-whole_sound : goal.returns-clause-whole_sound
returns-clause-whole_sound c pages roots words good table fits few beyond tells passes = IsLawfulMemory-passes pages fits roots few words beyond good tells table passes

pub returns-clause-whole_complete : goal.returns-clause-whole_complete
returns-clause-whole_complete c pages roots words good fits few beyond tells lawful = passes-IsLawfulMemory pages fits roots few words beyond good tells lawful
