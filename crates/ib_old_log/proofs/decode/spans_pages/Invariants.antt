use Rattle.std.proofs.Common.{◌≡◌, ◌-◌, ◌*◌, drop, get_or}
use Rattle.std.specs.List.{list_any}
use Rattle.ib_old_log.specs.OldEntries.{old_page_at, spans_old_pages}
use Rattle.ib_logrec.specs.Words.{writes_in}
use Rattle.ib_old_log.proofs.OldSpelled.{leaves_old}
use Rattle.ib_old_log.proofs.decode.spans_pages.Given as goal

abbrev pub invariant-loop-i : goal.invariant-loop-i
invariant-loop-i l = list_any (leaves_old (old_page_at (get_or l.words 0 0))) (writes_in (l.count - l.i) (drop (2 * l.i) l.words)) ≡ spans_old_pages (writes_in l.count l.words)
