-- A page that is loaded word by word.
use Rattle.std.specs.Prelude.{◌≡◌, ℕ, ◌+◌, ◌<◌, zero, suc, true, List, [], ◌∷◌, ◌++◌, None, slice_index}
use Rattle.ib_map.specs.declared.TheConstants.{PAGE_WORDS}
use Rattle.ib_map.specs.Writes.{word_place}
use Rattle.ib_core.specs.Sessions.{holdings}
use Rattle.ib_logrec.specs.Log.{memory_after}
use Rattle.ib_rule.specs.declared.memory.Loaded.{Loaded}
use Rattle.ib_rule.specs.declared.view.Role.TheVariants.{Session}
use Rattle.ib_rule.specs.declared.view.View.{View}
use Rattle.ib_rule.specs.Roles.{session_number_of}
use Rattle.ib_rule.specs.Views.{KnowsHeld, is_watched, with_memory}

-- who may load the page: a session that holds it in some mode and has no append open
pub record MayLoad (page : ℕ) (v : View) : Type 0 where
  pub role : v.role ≡ Session (session_number_of v.role)
  pub closed : v.memory.append ≡ None
  pub held : 0 < holdings (page + 2) v.session
  pub known : KnowsHeld v

-- the first n words of a page's image as loaded words, all fresh, the last one first
unfoldable pub loads_below : ℕ → List ℕ → ℕ → List Loaded
loads_below page image zero = []
loads_below page image (suc n) = record { place = word_place page n; value = slice_index image n; is_fresh = true } ∷ loads_below page image n

-- the view with the first n words of the page loaded
abbrev pub with_loaded : ℕ → List ℕ → ℕ → View → View
with_loaded page image n v = with_memory (record v.memory { loaded = loads_below page image n ++ v.memory.loaded }) v

-- .. and with all of them
abbrev pub with_page_loaded : ℕ → List ℕ → View → View
with_page_loaded page image v = with_loaded page image PAGE_WORDS v

-- where the page's latch is watched, the first n words of the image are those of the page after all entries seen
abbrev pub AreSettled : (ℕ → ℕ) → ℕ → List ℕ → ℕ → View → Type 0
AreSettled opening page image n v = is_watched (page + 2) v.memory.since ≡ true → (index : ℕ) → index < n → slice_index image index ≡ memory_after opening v.memory.seen (word_place page index)

-- since the start the first n words of the page were loaded into the image, and nothing else changed
pub record HasLoaded (opening : ℕ → ℕ) (page : ℕ) (start : View) (image : List ℕ) (n : ℕ) (now : View) : Type 0 where
  pub view : now ≡ with_loaded page image n start
  pub settled : AreSettled opening page image n start
