-- One key has these bytes.
use Rattle.std.proofs.Common.{◌≤◌, length, List, ℕ, sym, subst, ◌∙◌}
use Rattle.std.specs.Int.{w64, to_be_bytes}
use Rattle.ib_map.specs.KeyBytes.{AreBytes}
use Rattle.ib_old_log.specs.OldHeads.{key_of_number}
use Rattle.ib_old_log.proofs.change.key_of.Goals as goal

pub returns : goal.returns
returns c =
    let laws = c.key_law.ensures in
    let few : length (to_be_bytes w64 c.args.number) ≤ 15 = subst (λ (bs : List ℕ). length bs ≤ 15) c.of_number.ensures (laws.few_bytes c.of_number.result) in
    let are = subst AreBytes c.of_number.ensures (laws.are_bytes c.of_number.result) in
    laws.one_key c.of_number.result (key_of_number c.args.number) (c.of_number.ensures ∙ sym (laws.of_bytes (to_be_bytes w64 c.args.number) few are))
