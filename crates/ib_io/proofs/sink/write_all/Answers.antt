use Rattle.std.proofs.Common.{arith, ◌∙◌}
use Rattle.ib_io.proofs.Sending.{Appends-more, AppendsFront-kept, within_whole}
use Rattle.ib_io.proofs.sink.write_all.Goals as goal

pub loop-sent-preserved : goal.loop-sent-preserved
loop-sent-preserved g c = record {
  within = within_whole c.args.bytes.now c.loop-sent.sent c.in-Ok.count c.in-Ok.ensures.bound (omega arith);
  taken = Appends-more _ _ _ c.args.bytes.now c.loop-sent.sent c.in-Ok.count c.loop-sent.invariant.taken c.in-Ok.ensures.bytes;
  calm = c.in-Ok.ensures.cause.calm ∙ c.loop-sent.invariant.calm;
}

pub returns-in-Err-clause-bytes : goal.returns-in-Err-clause-bytes
returns-in-Err-clause-bytes g c = AppendsFront-kept _ _ _ c.args.bytes.now c.loop-sent.sent c.loop-sent.invariant.taken c.in-Err.ensures.bytes
