-- Page 0 has a bit for each page of the space.
use Rattle.std.proofs.Common.{◌≡◌, ◌≤◌, ℕ, true, arith}
use Rattle.std.proofs.lemmas.Bool.Decides.{nat_tests}
use Rattle.ib_map.specs.Space.{has_pages}
use Rattle.ib_page.specs.declared.space.TheConstants.{MAPPED_PAGES}
use Rattle.ib_index.proofs.pessimistic_insert.choose.Goals as goal

few-pages : (n : ℕ) → has_pages n ≡ true → n ≤ MAPPED_PAGES
few-pages n has = grind (arith, nat_tests, has)

pub choose_pages-requires-clause-pages : goal.choose_pages-requires-clause-pages
choose_pages-requires-clause-pages g c = few-pages c.pages-pages.result c.pages-pages.ensures.in_range
