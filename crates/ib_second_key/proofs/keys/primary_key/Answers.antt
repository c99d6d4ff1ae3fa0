-- The bytes behind the first eight.
use Rattle.std.proofs.Common.{◌∙◌, ap}
use Rattle.ib_map.specs.KeyBytes.{bytes_of}
use Rattle.ib_second_key.proofs.PlacedLaws.{bytes-primary, placed-primary}
use Rattle.ib_second_key.proofs.keys.primary_key.Goals as goal

pub returns-clause-key : goal.returns-clause-key
returns-clause-key c = c.key_of.ensures
    ∙ placed-primary c.args.second c.requires c.byte_or_zero.result c.byte_or_zero-2.result c.byte_or_zero-3.result c.byte_or_zero-4.result
    c.byte_or_zero-5.result c.byte_or_zero-6.result c.byte_or_zero-7.result c.len.result c.len.ensures.count c.byte_or_zero.ensures c.byte_or_zero-2.ensures
    c.byte_or_zero-3.ensures c.byte_or_zero-4.ensures c.byte_or_zero-5.ensures c.byte_or_zero-6.ensures c.byte_or_zero-7.ensures

pub returns-clause-bytes : goal.returns-clause-bytes
returns-clause-bytes c = ap bytes_of (returns-clause-key c) ∙ bytes-primary c.args.second
