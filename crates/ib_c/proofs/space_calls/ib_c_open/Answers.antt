use Rattle.std.proofs.Common.{sym, ◌∙◌}
use Rattle.ib_c.specs.declared.status.Status.TheVariants.{OutOfMemory}
use Rattle.ib_c.proofs.SpaceLaws.{open_not}
use Rattle.ib_c.proofs.space_calls.ib_c_open.Goals as goal

pub returns-in-Err-new : goal.returns-in-Err-new
returns-in-Err-new c =
    open_not c.args.pages c.args.log_words c.args.sessions c.args.slot.now.handle.held c.number-in-Err-new.result OutOfMemory (sym c.is_live.ensures ∙ c.if-is_live.false) c.number-in-Err-new.ensures tt
