-- Its number first, and then why its change is refused.
use Rattle.std.proofs.Common.{◌≡◌, ◌∙◌, ◌+◌, Some, ap, sym, subst, arith, get_or, length}
use Rattle.ib_map.specs.declared.call.LoggedChange.{LoggedChange}
use Rattle.ib_logrec.specs.declared.fault.LogFault.{LogFault}
use Rattle.ib_old_log.specs.OldHeads.{brought_head}
use Rattle.ib_planned_change.specs.Changes.{IsRefused}
use Rattle.ib_upgrade.proofs.FaultLaws.{fault-refused}
use Rattle.ib_upgrade.proofs.upgrade.put_change.Goals as goal

pub returns-in-Err-clause-fault : goal.returns-in-Err-clause-fault
returns-in-Err-clause-fault c = λ log b.
    let same = c.brought_over-logged.ensures in
    let numbered : c.args.head.now.number ≡ get_or c.args.counts.now c.args.head.now.session 0 + 1 = (
    let n = ap (λ (l : LoggedChange). l.number) same in let s = ap (λ (l : LoggedChange). get_or c.args.counts.now l.session 0) same in
    let e = c.if-logged-counts.false in let some = c.requires.number in omega arith) in
    let is = c.in-Err.ensures.refused log b in
    fault-refused (length c.args.images.now) log c.args.place (get_or c.args.counts.now c.args.head.now.session 0) (brought_head c.args.head.now) numbered c.in-Err.refused
    (subst (λ (l : LoggedChange). IsRefused (length c.args.images.now) log l.change c.in-Err.refused) same is) ∙ ap (λ (f : LogFault). Some f) (sym c.fault_of.ensures)
