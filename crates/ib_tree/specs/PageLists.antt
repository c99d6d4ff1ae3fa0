-- Lists of pages: those that writes touch, and those of a space.
use Rattle.std.specs.Prelude.{◌≡◌, ℕ, ◌<◌, Bool, false, nat_lt, List, [], ◌∷◌, ◌==◌, if◌then◌else◌}
use Rattle.std.specs.List.{list_any, range_with_len}
use Rattle.ib_map.specs.Writes.{page_at, touches}
use Rattle.ib_map.specs.declared.write.Write.{Write}

-- whether a page is one of these
abbrev pub is_listed : List ℕ → ℕ → Bool
is_listed ps page = list_any (λ p. p == page) ps

-- pages of a space of so many, each once
abbrev pub AreOnce : List ℕ → ℕ → Type 0
AreOnce [] pages = Unit {0}
AreOnce (p ∷ ps) pages = (p < pages) × (is_listed ps p ≡ false) × AreOnce ps pages

-- the pages that writes touch, each once
abbrev pub touched_pages : List Write → List ℕ
touched_pages [] = []
touched_pages (w ∷ ws) = if touches (page_at w.place) ws then touched_pages ws else page_at w.place ∷ touched_pages ws

-- the pages of a space
abbrev pub pages_below : ℕ → List ℕ
pages_below pages = range_with_len 0 pages

abbrev pub is_below : ℕ → ℕ → Bool
is_below pages page = nat_lt page pages
