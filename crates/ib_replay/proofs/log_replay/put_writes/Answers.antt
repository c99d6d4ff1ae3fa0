-- The test of the pages is the test of the entry.
use Rattle.std.proofs.Common.{◌∙◌, sym, ap}
use Rattle.ib_validate.specs.Positions.{positions_of}
use Rattle.ib_validate.specs.TreeMemory.{TreeMemory}
use Rattle.ib_replay.proofs.TreeSteps.{entry-patch, patch-entry}
use Rattle.ib_replay.proofs.log_replay.put_writes.Goals as goal

pub returns-then-not-is_tree-clause-complete : goal.returns-then-not-is_tree-clause-complete
returns-then-not-is_tree-clause-complete c pages log next entry =
    let found = patch-entry pages log c.args.entry.now c.args.tree.now c.store.new.self c.args.map.now next c.store.ensures.kept
    (rw c.as_slice.ensures at c.store.ensures.words) (rw c.as_slice.ensures at c.store.ensures.marks) c.store.ensures.memory entry in
    let yes = c.is_tree.ensures.complete found.0 (rw c.changed_key.ensures found.1) in
    sym c.if-not-is_tree.true ∙ yes

pub returns-clause-sound : goal.returns-clause-sound
returns-clause-sound c pages log next t =
    let patch = rw c.changed_key.ensures at c.is_tree.ensures.sound in
    entry-patch pages log c.args.entry.now c.args.tree.now c.store.new.self c.args.map.now next c.store.ensures.kept
    (rw c.as_slice.ensures at c.store.ensures.words) (rw c.as_slice.ensures at c.store.ensures.marks) c.store.ensures.memory
    (positions_of c.is_tree.new.self.met_after) c.settle.new.self (patch c.if-not-is_tree.false) c.settle.ensures.settled
    (c.settle.ensures.images ∙ ap (λ (x : TreeMemory). x.after) c.is_tree.ensures.kept) (ap positions_of c.settle.ensures.positions)
