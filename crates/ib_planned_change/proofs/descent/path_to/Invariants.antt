use Rattle.std.proofs.Common.{◌≡◌, length, List}
use Rattle.ib_logrec.specs.declared.entry.Entry.{Entry}
use Rattle.ib_walk.specs.Search.{page_below}
use Rattle.ib_plans.specs.Agreement.{path_down}
use Rattle.ib_planned_log.specs.LeafChange.{kept_pages}
use Rattle.ib_planned_change.specs.Copies.{IsBehind}
use Rattle.ib_planned_change.proofs.descent.path_to.Given as goal

abbrev pub invariant-loop : goal.invariant-loop
invariant-loop l = record {
  page_is : (log : List Entry) → IsBehind log l.images → l.page ≡ page_below (kept_pages (length l.images) log) l.key l.counter 1;
  path_is : (log : List Entry) → IsBehind log l.images → l.path ≡ path_down (kept_pages (length l.images) log) l.key l.counter 1;
}
