-- The opening words of the law of a tree are those of a new space.
use Rattle.std.proofs.Common.{◌≡◌, ℕ, ◌<◌, ◌≤◌, true, List, [], ◌∷◌, refl, sym, subst, arith}
use Rattle.std.proofs.lemmas.Bool.Decides.{nat_tests}
use Rattle.std.specs.List.{AllByRecursion}
use Rattle.ib_map.specs.Space.{has_pages}
use Rattle.ib_map.specs.Writes.{spans_pages}
use Rattle.ib_logrec.specs.declared.entry.Entry.{Entry}
use Rattle.ib_logrec.specs.Law.{AreInGrammar}
use Rattle.ib_logrec.specs.Log.{by_place}
use Rattle.ib_walk.specs.Opening.{opening_word}
use Rattle.ib_walk.specs.Trees.{content_of}
use Rattle.ib_walk.specs.Words.{pages_of, IsLawfulMemory}
use Rattle.ib_validate.specs.PatchTest.{IsKeptBeside}
use Rattle.ib_tree.specs.TreeLog.{opening, opening_of}
use Rattle.ib_tree.specs.Tests.{root_positions}
use Rattle.ib_walk.proofs.SpaceLaws.{IsLawfulMemory-opening, content_of-opening, pages_of-root}
use Rattle.ib_tree.proofs.RootPositionLaws.{IsKeptBeside-opening}

module _ (roots pages : ℕ) where
  pub by_place-opening_of : by_place (opening_of roots) pages ≡ opening_word roots
  unfolding opening_word
  by_place-opening_of = refl

  module _ (some : 0 < roots) (few : roots ≤ 2) where
    pub opens-of : has_pages pages ≡ true → IsLawfulMemory pages roots (by_place (opening_of roots) pages)
    opens-of fits = subst (IsLawfulMemory pages roots) (sym by_place-opening_of) (IsLawfulMemory-opening roots some few pages fits)

    pub opens_empty-of : (r : ℕ) → 0 < r → r ≤ roots → content_of (pages_of (by_place (opening_of roots) pages)) r ≡ []
    opens_empty-of r below le = subst (λ (w : ℕ → ℕ). content_of (pages_of w) r ≡ []) (sym by_place-opening_of) (content_of-opening roots some few r below le)

-- of one tree
pub by_place-opening : (pages : ℕ) → by_place opening pages ≡ opening_word 1
by_place-opening pages = by_place-opening_of 1 pages

pub opens : (pages : ℕ) → has_pages pages ≡ true → IsLawfulMemory pages 1 (by_place opening pages)
opens pages fits = opens-of 1 pages (omega arith) (omega arith) fits

pub opens-empty : (pages : ℕ) → content_of (pages_of (by_place opening pages)) 1 ≡ []
opens-empty pages = opens_empty-of 1 pages (omega arith) (omega arith) 1 (omega arith) (omega arith)

pub opens-kept : (pages : ℕ) → has_pages pages ≡ true → IsKeptBeside (pages_of (by_place opening pages)) 1 pages (root_positions 1)
opens-kept pages fits =
    let least : 1 < pages = grind (arith, nat_tests, fits) in
    subst (λ (w : ℕ → ℕ). IsKeptBeside (pages_of w) 1 pages (root_positions 1)) (sym (by_place-opening pages))
    (IsKeptBeside-opening (pages_of (opening_word 1)) pages 1 (λ r some le. let e = pages_of-root 1 r (λ z. omega arith) le in rw e refl) least)

pub structural-grammar : (pages : ℕ) (log : List Entry) → AreInGrammar pages log → AllByRecursion (λ e. e.structural ≡ spans_pages e.writes) log
structural-grammar pages [] are = tt
structural-grammar pages (e ∷ es) are = (let a = are.0 in a.structural, structural-grammar pages es are.1)
