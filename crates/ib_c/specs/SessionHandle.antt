-- What the handle of a session owns.
use Rattle.std.specs.Prelude.{Option}
use Rattle.std.specs.Global.{Global}
use Rattle.std.specs.Coded.{Coded, coded_option}
use Rattle.ib_c.specs.Handles.{box_or_none}
use Rattle.ib_c.specs.contracts.session.Session.{the_row}
use base.Fml.{Fml}
use denote.RawPtr.{Ptr}

abbrev pub held_at : Global → Ptr → Option the_row.Denot → Fml
held_at = box_or_none the_row

abbrev pub held_coded : Coded (Option the_row.Denot)
held_coded = coded_option the_row.coded
