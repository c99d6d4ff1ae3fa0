use Rattle.std.proofs.Common.{[], ◌∷◌, refl}
use Rattle.ib_io.proofs.Writing.{puts_on, grows_kept}
use Rattle.ib_io.proofs.writer.Writer.byte.Goals as goal

pub returns : goal.returns
returns g c = record { puts = puts_on c.make_room.ensures.puts (record { same_reference = refl; grows = grows_kept _ _ _ _ _ (c.args.byte ∷ []) c.push.ensures }) }
