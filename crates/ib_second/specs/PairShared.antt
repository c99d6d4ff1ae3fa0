-- The law of the logs of a pair of trees, as what sessions share.
use Rattle.ib_pair_law.specs.Opening.{pair_opening}
use Rattle.ib_pair_law.specs.PairFits.{FitsPairLog}
use Rattle.ib_pair_law.specs.PairKept.{IsPairLog}
use Rattle.ib_shared.specs.SharedLaw.{SharedLaw}

-- its kept logs, and when a record fits one
abbrev pub pair_law : SharedLaw
pair_law = record { lawful = IsPairLog; opening = pair_opening; fits = FitsPairLog }
