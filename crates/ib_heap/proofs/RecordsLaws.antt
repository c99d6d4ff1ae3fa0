-- A page with other records.
use Rattle.std.proofs.Common.{◌≡◌, refl}
use Rattle.ib_map.specs.Pairs.{Pairs}
use Rattle.ib_heap.specs.Page.{PageValue, HoldsTree, page_in}
use Rattle.ib_heap.specs.Page.PageValue.{Malformed, Free, Tree}
use Rattle.ib_heap.specs.Image.{value_with_records}

pub holds-with : (rs : Pairs) (v : PageValue) → HoldsTree v → HoldsTree (value_with_records rs v)
holds-with rs (Tree p) h = tt
holds-with rs (Free clock) h = h
holds-with rs Malformed h = h

pub records-with : (rs : Pairs) (v : PageValue) → HoldsTree v → (page_in (value_with_records rs v)).records ≡ rs
records-with rs (Tree p) h = refl
records-with rs (Free clock) h = absurd h
records-with rs Malformed h = absurd h

pub with-with : (rs qs : Pairs) (v : PageValue) → value_with_records rs (value_with_records qs v) ≡ value_with_records rs v
with-with rs qs (Tree p) = refl
with-with rs qs (Free clock) = refl
with-with rs qs Malformed = refl

pub with-same : (v : PageValue) → value_with_records (page_in v).records v ≡ v
with-same (Tree p) = refl
with-same (Free clock) = refl
with-same Malformed = refl
