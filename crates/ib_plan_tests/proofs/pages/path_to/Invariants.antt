use Rattle.std.proofs.Common.{◌≡◌, ◌-◌, ◌++◌, length}
use Rattle.ib_walk.specs.Trees.{height_of}
use Rattle.ib_walk.specs.Words.{memory_of}
use Rattle.ib_plans.specs.Agreement.{path_down, path_of}
use Rattle.ib_plan_tests.proofs.pages.path_to.Given as goal

abbrev pub invariant-loop-level : goal.invariant-loop-level
invariant-loop-level g l = record {
  way : path_of (memory_of l.memory) l.key l.root ≡ l.path ++ path_down (memory_of l.memory) l.key (height_of (memory_of l.memory) l.root - l._level) l.page;
  count : length l.path ≡ l._level;
}
