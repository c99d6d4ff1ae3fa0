-- What is wrong with an entry behind a log.
use Rattle.std.proofs.Common.{◌≡◌, ℕ, ◌+◌, List, None, Some, refl}
use Rattle.std.proofs.lemmas.Bool.{eq-eqb, ne_eqb}
use Rattle.ib_map.specs.Map.{answer_of, is_made}
use Rattle.ib_map.specs.declared.call.LoggedChange.{LoggedChange}
use Rattle.ib_logrec.specs.declared.entry.Entry.{Entry}
use Rattle.ib_logrec.specs.declared.fault.LogFault.TheVariants.{Unlawful}
use Rattle.ib_logrec.specs.declared.fault.UnlawfulKind.TheVariants.{Number}
use Rattle.ib_logrec.specs.Log.{map_of}
use Rattle.ib_planned_change.specs.declared.refused.Refused.{Refused}
use Rattle.ib_planned_change.specs.declared.refused.Refused.TheVariants.{Unmade, Full}
use Rattle.ib_planned_change.specs.Changes.{IsRefused}
use Rattle.ib_planned_change.specs.Full.{full_behind}
use Rattle.ib_upgrade.specs.Upgrades.{entry_fault, refused_fault}
use Rattle.std.proofs.Common.{true}

module _ (pages : ℕ) (log : List Entry) (place count : ℕ) (logged : LoggedChange) where
  -- its number
  pub fault-number : (logged.number ≡ count + 1 → ⊥) → entry_fault pages log place count logged ≡ Some (Unlawful place Number)
  fault-number ne = let no = ne_eqb logged.number (count + 1) ne in rw no refl

  module _ (numbered : logged.number ≡ count + 1) where
    -- .. or why its change is refused
    pub fault-refused : (refused : Refused) → IsRefused pages log logged.change refused → entry_fault pages log place count logged ≡ Some (refused_fault place refused)
    fault-refused Unmade is = let yes = eq-eqb logged.number (count + 1) numbered in rw (yes, is) refl
    fault-refused (Full why) is = let yes = eq-eqb logged.number (count + 1) numbered in rw (yes, is.0, is.1) refl

    -- .. or nothing
    pub fault-none : is_made (answer_of (map_of log) logged.change) ≡ true → full_behind pages log logged.change ≡ None → entry_fault pages log place count logged ≡ None
    fault-none made may = let yes = eq-eqb logged.number (count + 1) numbered in rw (yes, made, may) refl
