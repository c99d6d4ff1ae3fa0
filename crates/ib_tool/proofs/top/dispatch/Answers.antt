use Rattle.std.proofs.Common.{◌∙◌, inl, map, refl, string_bytes, sym}
use Rattle.std.proofs.KnownBytes.{Keeps-refl}
use Rattle.ib_io.specs.Told.{ends}
use Rattle.ib_io.specs.declared.status.Status.TheVariants.{Usage}
use Rattle.ib_tool.specs.Words.{usage_line}
use Rattle.ib_tool.proofs.Telling.{told_form}
use Rattle.ib_tool.proofs.top.dispatch.Goals as goal

pub returns-in-None-clause-told : goal.returns-in-None-clause-told
returns-in-None-clause-told g c = inl (ends Usage usage_line, inl (sym c.form_of.ensures.form ∙ c.in-None.is, Keeps-refl (g.S.Source.left c.args.source.now), refl), c.tell.ensures.told)

pub returns-in-Some-clause-told : goal.returns-in-Some-clause-told
returns-in-Some-clause-told g c = told_form (map (λ w. string_bytes w) c.args.words.now) c.in-Some.form (g.S.Source.left c.args.source.now) (g.S.Source.left c.act.new.source) (sym c.form_of.ensures.form ∙ c.in-Some.is)
    (g.K.Sink.written c.args.sink.now) (g.K.Sink.written c.act.new.sink) c.act.result c.act.ensures.told
