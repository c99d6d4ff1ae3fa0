-- The lines loaded so far, and nothing else changed.
use Rattle.std.specs.Prelude.{◌≡◌, ◌*◌}
use Rattle.ib_logrec.specs.Log.{by_place}
use Rattle.ib_rule.specs.declared.loads.TheConstants.{LINE_WORDS}
use Rattle.ib_rule.specs.Loads.{HasLoaded}
use Rattle.ib_rule.specs.Views.{KnowsHeld}
use Rattle.ib_rule.proofs.loads.load_words.Given as goal

abbrev pub invariant-loop-line : goal.invariant-loop-line
invariant-loop-line g l = record {
  table : l.seat.table_id ≡ l.fn.seat.table_id;
  id : l.seat.id ≡ l.fn.seat.id;
  slots : l.seat.me.1 ≡ l.fn.seat.me.1;
  known : KnowsHeld l.seat.me.0;
  loaded : HasLoaded (by_place g.L.Law.opening l.fn.shared.key.pages) l.fn.page l.fn.seat.me.0 l.out (l.line * LINE_WORDS) l.seat.me.0;
}
