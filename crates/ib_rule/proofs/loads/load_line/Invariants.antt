-- The words loaded so far, and nothing else changed.
use Rattle.std.specs.Prelude.{◌≡◌, ◌+◌}
use Rattle.ib_logrec.specs.Log.{by_place}
use Rattle.ib_rule.specs.declared.view.View.{View}
use Rattle.ib_rule.specs.Loads.{HasLoaded}
use Rattle.ib_rule.specs.Stores.{no_entry}
use Rattle.ib_rule.specs.Views.{KnowsHeld, with_memory}
use Rattle.ib_rule.proofs.loads.load_line.Given as goal

abbrev pub invariant-loop-offset : goal.invariant-loop-offset
invariant-loop-offset g l = record {
  table : l.seat.table_id ≡ l.fn.seat.table_id;
  id : l.seat.id ≡ l.fn.seat.id;
  same : l.seat.me.0 ≡ with_memory (record l.fn.seat.me.0.memory { loaded = l.seat.me.0.memory.loaded }) l.fn.seat.me.0;
  slots : l.seat.me.1 ≡ l.fn.seat.me.1;
  known : KnowsHeld l.seat.me.0;
  loaded : (start : View) → HasLoaded (by_place g.L.Law.opening l.fn.shared.key.pages) l.fn.page start l.fn.out l.fn.from l.fn.seat.me.0 → HasLoaded (by_place g.L.Law.opening l.fn.shared.key.pages) l.fn.page start l.out (l.fn.from + l.offset) l.seat.me.0;
}

abbrev pub ghosts-act : goal.ghosts-act
ghosts-act g a = record { kind = a.kind; op = a.op; key = a.shared.now.key; entry = no_entry }
