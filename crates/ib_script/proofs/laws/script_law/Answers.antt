use Rattle.std.proofs.Common.{refl}
use Rattle.ib_script.proofs.CallRead.{call-read, change-read}
use Rattle.ib_script.proofs.laws.script_law.Goals as goal

pub returns : goal.returns
returns c = record { call = call-read; change = change-read; insert = λ key value. refl; delete = λ key. refl; get = λ key. refl; scan = λ low high. refl }
