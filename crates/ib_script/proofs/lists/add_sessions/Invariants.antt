use Rattle.std.proofs.Common.{◌≡◌, ◌≤◌, max, vec_len, ◌-◌, ◌++◌, [], replicate}
use Rattle.ib_script.specs.Lists.{lists_of}
use Rattle.ib_script.proofs.lists.add_sessions.Given as goal

abbrev pub invariant-loop-alloc : goal.invariant-loop-alloc
invariant-loop-alloc l = record {
  lists : lists_of l.lists.items ≡ lists_of l.initial.lists.items ++ replicate (vec_len l.lists - vec_len l.initial.lists) [];
  at_least : vec_len l.initial.lists ≤ vec_len l.lists;
  at_most : vec_len l.lists ≤ max l.session (vec_len l.initial.lists);
}

abbrev pub decreases-loop-alloc : goal.decreases-loop-alloc
decreases-loop-alloc l = l.session - vec_len l.lists
