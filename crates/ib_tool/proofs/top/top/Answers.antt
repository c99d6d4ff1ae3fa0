use Rattle.std.proofs.Common.{map, string_bytes}
use Rattle.ib_io.specs.Faults.{Rose}
use Rattle.ib_tool.proofs.Telling.{completes}
use Rattle.ib_tool.proofs.top.top.Goals as goal

pub returns-clause-complete : goal.returns-clause-complete
returns-clause-complete g c = completes (map (λ w. string_bytes w) c.args.words.now)
    (g.S.Source.left c.args.source.now) (g.S.Source.left c.dispatch.new.source) (g.K.Sink.written c.args.sink.now) (g.K.Sink.written c.dispatch.new.sink) c.dispatch.result
    (Rose (g.S.Source.faults c.args.source.now) (g.S.Source.faults c.dispatch.new.source)) (Rose (g.K.Sink.faults c.args.sink.now) (g.K.Sink.faults c.dispatch.new.sink))
    c.dispatch.ensures.told c.dispatch.ensures.faults.read.rose c.dispatch.ensures.faults.write.rose
