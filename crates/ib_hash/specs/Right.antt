-- When a guess is right.
use Rattle.std.specs.Prelude.{◌≡◌, ℕ, Any, Bool, true, false, List, Option, Some, None}
use Rattle.ib_map.specs.Keys.{MapKey}
use Rattle.ib_heap.specs.declared.search.KeyStanding.{KeyStanding}
use Rattle.ib_heap.specs.declared.search.KeyStanding.TheVariants.{Outside, Between, Found}
use Rattle.ib_heap.specs.Standing.{IsWithin}
use Rattle.ib_layout.specs.Geometry.{Sizes}
use Rattle.ib_logrec.specs.declared.entry.Entry.{Entry}
use Rattle.ib_walk.specs.Pages.{PageMemory}
use Rattle.ib_walk.specs.Trees.{leaves_of}
use Rattle.ib_planned_log.specs.LeafChange.{kept_pages}

-- a guess for a key is right where its page is a leaf that the walk of the first tree meets, which has records, and the key is not below the first of them nor above the last
pub record IsRightGuess (memory : PageMemory) (guess : ℕ) (key : MapKey) : Type 0 where
  pub met : Any (λ v. v.page ≡ guess) (leaves_of memory 1)
  pub within : IsWithin key (memory guess).records

-- .. in the memory after these entries
abbrev pub IsRightAfter : Sizes → List Entry → ℕ → MapKey → Type 0
IsRightAfter sizes log guess key = IsRightGuess (kept_pages sizes.pages log) guess key

-- whether a guess is right, by where the key stands on its page if that is a leaf
abbrev pub is_right : Option KeyStanding → Bool
is_right None = false
is_right (Some Outside) = false
is_right (Some Between) = true
is_right (Some (Found value)) = true
