use Rattle.std.proofs.Common.{◌≡◌}
use Rattle.std.specs.Prelude.{map}
use Rattle.std.specs.List.{range_with_len}
use Rattle.ib_page.specs.Opening.{opening_words}
use Rattle.ib_validate.proofs.tree_pages.opening_images.Given as goal

abbrev pub invariant-loop-page : goal.invariant-loop-page
invariant-loop-page l = l.images.items ≡ map (opening_words 1) (range_with_len 0 l.page)
