-- The first writes are stored, and nothing else changed.
use Rattle.ib_rule.specs.Writing.{entry_of}
use Rattle.ib_frames.specs.Storing.{HasStored, PagesStored}
use Rattle.ib_frames.proofs.appends.store_pages.Given as goal

abbrev pub invariant-loop-i : goal.invariant-loop-i
invariant-loop-i g l = record { during : HasStored (entry_of l.fn.pass) l.fn.pass l.pass; done : PagesStored (entry_of l.fn.pass) l.i l.pass }
