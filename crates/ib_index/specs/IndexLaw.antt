-- The law of the logs of an index, as what sessions share.
use Rattle.ib_tree.specs.Fits.{FitsLog}
use Rattle.ib_tree.specs.TreeLog.{opening}
use Rattle.ib_planned_log.specs.Kept.{IsKeptLog}
use Rattle.ib_shared.specs.SharedLaw.{SharedLaw}

-- its logs are kept ones, and when a record fits one
abbrev pub index_law : SharedLaw
index_law = record { lawful = IsKeptLog; opening = opening; fits = FitsLog }
