-- A page that is read word by word.
use Rattle.std.proofs.Common.{◌≡◌, ℕ, zero, suc, ◌<◌, List, ◌++◌, refl, sym, subst, arith}
use Rattle.std.specs.Prelude.{slice_index}
use Rattle.std.specs.List.{AllByRecursion}
use mathlib.Core.Logic.{dite}
use native.Mathlib.Decide.{ℕ_discrete}
use Rattle.ib_map.specs.Writes.{word_place}
use Rattle.ib_core.specs.declared.session.Session.{Session}
use Rattle.ib_layout.specs.Geometry.{Sizes}
use Rattle.ib_logrec.specs.declared.entry.Entry.{Entry}
use Rattle.ib_logrec.specs.Log.{memory_after}
use Rattle.ib_rule.specs.declared.memory.Loaded.{Loaded}
use Rattle.ib_rule.specs.declared.view.View.{View}
use Rattle.ib_rule.specs.Loads.{loads_below, with_loaded}
use Rattle.ib_rule.specs.Memory.{LoadedFact}
use Rattle.ib_rule.specs.Stores.{IsLook}

-- the words loaded are right where each loaded word is
pub loaded_right : (opening : ℕ → ℕ) (a : Session) (log : List Entry) (page : ℕ) (image : List ℕ) (rest : List Loaded) (n k : ℕ) → k < n → AllByRecursion (LoadedFact opening a log) (loads_below page image n ++ rest)
    → slice_index image k ≡ memory_after opening log (word_place page k)
unfolding loads_below
loaded_right opening a log page image rest zero k h all = absurd (omega arith)
loaded_right opening a log page image rest (suc n) k h all = dite (ℕ_discrete k n)
    (λ here. subst (λ k. slice_index image k ≡ memory_after opening log (word_place page k)) (sym here) (all.0.1 refl))
    (λ before. loaded_right opening a log page image rest n k (omega arith) all.1)

-- what a look tells does not depend on the words loaded
pub looked_before : (sizes : Sizes) (lawful : List Entry → Type 0) (page : ℕ) (image : List ℕ) (n : ℕ) (v : View) (log : List Entry) → IsLook sizes lawful (with_loaded page image n v) log → IsLook sizes lawful v log
looked_before sizes lawful page image n v log is = record { others = is.others; longer = is.longer; harmless = is.harmless; legal = is.legal; room = is.room; mine = is.mine }
