-- What a session knows of a page that it has read.
use Rattle.std.specs.Prelude.{ℕ, ◌<◌, true, List, slice_index}
use Rattle.std.specs.List.{AllByRecursion, Contains}
use Rattle.ib_map.specs.declared.TheConstants.{PAGE_WORDS}
use Rattle.ib_map.specs.Writes.{word_place}
use Rattle.ib_rule.specs.declared.memory.Loaded.{Loaded}
use Rattle.ib_rule.specs.declared.view.View.{View}
use Rattle.ib_rule.specs.Memory.{LoadedFact}
pub use Rattle.ib_rule.specs.Loads.{with_loaded, with_page_loaded}
unfoldable pub use Rattle.ib_rule.specs.Loads.{loads_below}

-- the image is what was loaded of the page, under the grant that is held, and is right still: no word was stored since
abbrev pub IsLoadedImage : List Loaded → ℕ → List ℕ → Type 0
IsLoadedImage loaded page image = (index : ℕ) → index < PAGE_WORDS → Contains loaded (record { place = word_place page index; value = slice_index image index; is_fresh = true })

-- each word that was loaded, and no longer stands as it was after a store of the session's own, is that of the memory after all entries seen
abbrev pub AreRight : (ℕ → ℕ) → View → Type 0
AreRight opening v = AllByRecursion (LoadedFact opening v.session v.memory.seen) v.memory.loaded
