-- What is built of all lines is what they ask for.
use Rattle.std.proofs.Common.{◌≡◌, List}
use Rattle.ib_script.specs.Building.{IsBuilt}
use Rattle.ib_script.specs.Lists.{lists_of}
use Rattle.ib_script.specs.Script.{Reading, ScriptValue, IsScript}
use Rattle.ib_script.specs.declared.builder.Builder.{Builder}

pub script-built : {readings : List Reading} {builder : Builder} (script : ScriptValue) → IsBuilt readings builder
    → script ≡ record { sizes = builder.geometry; commands = lists_of builder.sessions.items } → IsScript readings script
script-built script built e = rw e (record { sizes = built.sizes; sessions = built.lists.sessions; commands = built.lists.commands })
