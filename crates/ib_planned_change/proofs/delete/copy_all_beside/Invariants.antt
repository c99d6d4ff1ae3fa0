use Rattle.std.proofs.Common.{◌≡◌, ℕ, ◌+◌, ◌*◌, ◌<◌, List, length, get_or}
use Rattle.ib_logrec.specs.declared.entry.Entry.{Entry}
use Rattle.ib_planned_log.specs.LeafChange.{kept_pages}
use Rattle.ib_planned_change.specs.Copies.{HasCopied, IsBehind}
use Rattle.ib_planned_change.specs.Steps.{HasBeside, IsBeforeTree, last_beside}
use Rattle.ib_planned_change.proofs.delete.copy_all_beside.Given as goal

abbrev pub invariant-loop-depth : goal.invariant-loop-depth
invariant-loop-depth l = record {
  copied : HasCopied l.images (2 * l.depth) l.initial.work l.work;
  beside : (log : List Entry) → IsBehind log l.images → (i : ℕ) → i < l.depth → HasBeside (kept_pages (length l.images) log) l.key l.work (get_or l.pages i 0);
  before : (log : List Entry) → IsBehind log l.images → IsBeforeTree (kept_pages (length l.images) log) l.last;
  last_is : (log : List Entry) → IsBehind log l.images → (i : ℕ) → i + 1 ≡ l.depth → l.last ≡ last_beside (kept_pages (length l.images) log) l.key (get_or l.pages i 0);
}
