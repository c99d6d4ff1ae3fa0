-- All that the plan reads was read from a lawful memory.
use Rattle.std.proofs.Common.{length}
use Rattle.ib_page.specs.Memory.{word_at}
use Rattle.ib_walk.specs.Words.{memory_of, bits_of}
use Rattle.ib_plan_tests.specs.Reads.{IsRead}
use Rattle.ib_plan_tests.proofs.Agreeing.{agrees-read, may_tick-read}
use Rattle.ib_plan_tests.proofs.changes.delete.Goals as goal

pub plan_delete-requires : goal.plan_delete-requires
plan_delete-requires g c =
    let memory = c.args.memory.now in
    let path = c.read_path-path.result in
    let work = c.load_siblings.new.work in
    let before = c.read_path-path.ensures.read in
    let read : IsRead memory c.args.key path work = record { lawful = before.lawful; way = before.way; read = c.load_siblings.ensures } in
    let some = c.check_delete.ensures in
    record {
      pages = length memory;
      roots = 1;
      root = 1;
      memory = memory_of memory;
      bits = bits_of (length memory) (word_at memory);
      agrees = agrees-read memory c.args.key path work read c.requires.most;
      images = record { path_there = some.path; siblings_there = some.siblings; behind_there = some.behind; space_there = λ more. some.space };
      clocks = may_tick-read memory c.args.key path work read;
    }
