-- The space of a table, as the law of records sees it, and what a session has seen of it.
use Rattle.std.specs.Prelude.{ℕ, List}
use Rattle.ib_layout.specs.Geometry.{Sizes}
use Rattle.ib_logrec.specs.declared.law.Law.{Ghosts}
use Rattle.ib_logrec.specs.Log.{by_place, memory_after}
use Rattle.ib_walk.specs.Pages.{PageMemory}
use Rattle.ib_walk.specs.Words.{image_of}
use Rattle.ib_tree.specs.Fits.{TreeSpace}
use Rattle.ib_tree.specs.Logs.{pages_after}
use Rattle.ib_rule.specs.Pass.{PassState}
use Rattle.ib_rule.specs.Space.{SpaceState}

-- the space with the words of its pages at the start
abbrev pub space_of : Sizes → (ℕ → ℕ) → TreeSpace
space_of sizes opening = record { pages = sizes.pages; log_words = sizes.log_words; opening = opening }

-- the pages of the tree after all that was seen, where the law has these words at the start, and the words of one of them
abbrev pub pages_under : {T : Type 0} → Ghosts T → SpaceState → PassState → PageMemory
pages_under law space p = pages_after (by_place law.opening space.sizes.pages) p.view.memory.seen

abbrev pub words_under : {T : Type 0} → Ghosts T → SpaceState → PassState → ℕ → List ℕ
words_under law space p page = image_of (memory_after (by_place law.opening space.sizes.pages) p.view.memory.seen) page
