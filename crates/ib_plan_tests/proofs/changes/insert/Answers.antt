-- All that the plan reads was read from a lawful memory.
use Rattle.std.proofs.Common.{◌-◌, length, subst, arith}
use Rattle.ib_page.specs.Memory.{word_at}
use Rattle.ib_walk.specs.Words.{memory_of, bits_of}
use Rattle.ib_merge.specs.Deletes.{HasNext}
use Rattle.ib_plans.proofs.PathListLaws.{last_of-at}
use Rattle.ib_plan_tests.specs.Reads.{IsRead}
use Rattle.ib_plan_tests.proofs.Agreeing.{agrees-read, may_tick-read}
use Rattle.ib_plan_tests.proofs.changes.insert.Goals as goal

pub plan_insert-requires : goal.plan_insert-requires
plan_insert-requires g c =
    let memory = c.args.memory.now in
    let path = c.read_path-path.result in
    let work = c.load_next.new.work in
    let before = c.read_path-path.ensures.read in
    let read : IsRead memory c.args.key path work = record { lawful = before.lawful; way = before.way; read = c.load_next.ensures } in
    let some = c.read_path-path.ensures.some in
    let last = last_of-at path (length path - 1) (omega arith) in
    let next = subst (HasNext work) last c.check_insert.ensures.next in
    record {
      pages = length memory;
      roots = 1;
      root = 1;
      memory = memory_of memory;
      bits = bits_of (length memory) (word_at memory);
      agrees = agrees-read memory c.args.key path work read c.requires.most;
      fits = c.in_ok-fresh.ensures;
      images = record { path_there = c.check_insert.ensures.path; fresh_there = c.check_insert.ensures.fresh; next_there = λ full. next; space_there = λ more. c.check_insert.ensures.space };
      clocks = may_tick-read memory c.args.key path work read;
    }
