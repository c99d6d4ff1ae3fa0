-- The eight bytes of the number are in front.
use Rattle.ib_map.proofs.KeyLaws.{number_words}
use Rattle.ib_map.proofs.key.Key.of_number.Goals as goal

pub invariant_of-result : goal.invariant_of-result
invariant_of-result c = record { is_key = number_words c.args.n c.ranges.n.fits }
