-- A delete of a key that isn't there leaves the map as it is.
use Rattle.std.proofs.Common.{sym, ap, Err}
use Rattle.ib_map.proofs.MapLaws.{none_from_IsNone, effect_of-missing}
use Rattle.ib_replay.proofs.log_replay.make.Goals as goal

pub returns-in-Err-delete-clause-effect : goal.returns-in-Err-delete-clause-effect
returns-in-Err-delete-clause-effect c =
    let call = c.in-Err-delete.ensures in
    let absent = none_from_IsNone c.args.map.now c.in-Delete.key (call.missing.0 (ap Err call.only_missing)) in
    rw (call.unchanged, c.in-Delete.is) (sym (effect_of-missing c.args.map.now c.in-Delete.key absent))
