-- No more than 15 of the sixteen bytes.
use Rattle.std.proofs.Common.{sym, arith, length-take-le, ◌%◌}
use Rattle.ib_map.specs.KeyBytes.{word_bytes}
use Rattle.ib_map.proofs.KeyLaws.{key_few}
use Rattle.ib_map.proofs.key.Key.len.Goals as goal

pub returns-clause-count : goal.returns-clause-count
returns-clause-count c = sym (length-take-le (c.args.self.now.second % 256) (word_bytes c.args.self.now) (let few = key_few c.args.self.now in omega arith))

pub returns-clause-few : goal.returns-clause-few
returns-clause-few c = key_few c.args.self.now
