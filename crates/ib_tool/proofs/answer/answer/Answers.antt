use Rattle.ib_tool.proofs.Telling.{told_anywhere}
use Rattle.ib_tool.proofs.answer.answer.Goals as goal

pub returns-in-Replay : goal.returns-in-Replay
returns-in-Replay g c = rw c.in-Replay.is c.answer_log.ensures

pub returns-in-Upgrade : goal.returns-in-Upgrade
returns-in-Upgrade g c = rw c.in-Upgrade.is c.answer_upgrade.ensures

pub returns-in-Restore : goal.returns-in-Restore
returns-in-Restore g c = rw c.in-Restore.is c.answer_image.ensures

pub returns-in-Gen : goal.returns-in-Gen
returns-in-Gen g c = record { told = rw c.in-Gen.is (told_anywhere _ _ _ _ c.answer_load.ensures.told); write = c.answer_load.ensures.write }
