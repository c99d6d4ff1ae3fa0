-- A key is that of its bytes.
use Rattle.std.proofs.Common.{◌∙◌, ap, sym}
use Rattle.std.specs.Int.{w64, to_be_bytes}
use Rattle.ib_map.proofs.ByteLaws.{key_of_bytes-bytes}
use Rattle.ib_map.specs.KeyBytes.{key_of_bytes}
use Rattle.ib_script.specs.Generated.{key_of}
use Rattle.ib_script.proofs.generated.key_of.Goals as goal

pub returns : goal.returns
unfolding key_of
returns c = sym (key_of_bytes-bytes c.of_number.result) ∙ ap key_of_bytes (c.of_number.ensures ∙ ap (to_be_bytes w64) c.number_of.ensures)
