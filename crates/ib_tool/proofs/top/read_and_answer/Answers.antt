use Rattle.std.proofs.Common.{inl, refl}
use Rattle.ib_io.specs.Told.{ends}
use Rattle.ib_io.specs.declared.status.Status.TheVariants.{TooLarge}
use Rattle.ib_tool.specs.Words.{too_large_line}
use Rattle.ib_tool.proofs.Telling.{told_input}
use Rattle.ib_tool.proofs.top.read_and_answer.Goals as goal

pub returns-in-Ok-clause-told : goal.returns-in-Ok-clause-told
returns-in-Ok-clause-told g c = told_input c.args.form (g.S.Source.left c.args.source.now) (g.S.Source.left c.read_all.new.source) c.in-Ok.input.items c.in-Ok.ensures.reads
    (g.K.Sink.written c.args.sink.now) (g.K.Sink.written c.answer.new.sink) c.answer.result (rw c.deref.ensures.value at c.answer.ensures.told)

pub returns-in-Err-TooLarge-clause-told : goal.returns-in-Err-TooLarge-clause-told
returns-in-Err-TooLarge-clause-told g c = inl (ends TooLarge too_large_line, inl (rw c.in-Err-TooLarge.field-0-is at c.in-Err-TooLarge.ensures.reads, c.read_all.ensures.within, refl), c.tell.ensures.told)
