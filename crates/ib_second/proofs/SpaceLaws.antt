-- The pages of the trees, as they are held.
use Rattle.std.specs.List.{AllByRecursion}
use Rattle.std.specs.Prelude.{IfErr, IfOk, IfSome, IsSome, Result, Ok, Err, ◌==◌, ◌||◌}
use Rattle.std.proofs.Common.{◌≡◌, ◌<◌, ◌≤◌, ℕ, true, List, [], ◌∷◌, length, map, Option, Some, None, refl, sym, ap, subst, arith}
use Rattle.std.proofs.lemmas.Bool.Decides.{nat_tests}
use Rattle.ib_map.specs.Keys.{MapKey}
use Rattle.ib_map.specs.Space.{has_pages}
use Rattle.ib_page.specs.declared.space.TheConstants.{MAPPED_PAGES}
use Rattle.ib_page.specs.Work.{WorkPage, changed_of}
use Rattle.ib_layout.specs.Geometry.{Sizes}
use Rattle.ib_levels.specs.declared.level.Level.{Level}
use Rattle.ib_plans.specs.Agreement.{HasBits, IsThere, bits_in}
use Rattle.ib_rule.specs.Pass.{PassState}
use Rattle.ib_levels.specs.declared.level.Level.TheVariants.{Space}
use Rattle.ib_levels.specs.Level.{may_follow}
use Rattle.ib_tree.specs.PageLists.{is_listed}
use Rattle.ib_cursor.specs.Grants.{Grant}
use Rattle.ib_second.specs.PairReady.{bits_seen}
use Rattle.ib_second.proofs.StandLaws.{agrees-first}
use Rattle.ib_index.specs.Grows.{held_grant, pages_held, tree_pages}
use Rattle.ib_second.specs.Stands.{StandsOnPair}

pub among-tree : (held : List ℕ) (n : ℕ) → is_listed (pages_held (tree_pages held)) n ≡ is_listed held n
among-tree [] n = refl
among-tree (x ∷ xs) n = ap (λ b. (x == n) || b) (among-tree xs n)

pub length-tree : (held : List ℕ) → length (tree_pages held) ≡ length held
length-tree [] = refl
length-tree (x ∷ xs) = let r = length-tree xs in omega arith

pub follow-space : (held : List ℕ) → AllByRecursion (λ (g : Grant). may_follow g.level Space ≡ true) (map held_grant (tree_pages held))
follow-space [] = tt
follow-space (x ∷ xs) = (refl, follow-space xs)

pub some-pages : (n : ℕ) → has_pages n ≡ true → 0 < n
some-pages n has = grind (arith, nat_tests, has)

pub few-pages : (n : ℕ) → has_pages n ≡ true → n ≤ MAPPED_PAGES
few-pages n has = grind (arith, nat_tests, has)

pub image-there : (work : List WorkPage) (n : ℕ) → IsThere work n → (image : List ℕ) × (changed_of n work ≡ Some image)
image-there work n there = go (changed_of n work) refl
  where
    go : (o : Option (List ℕ)) → changed_of n work ≡ o → (image : List ℕ) × (changed_of n work ≡ Some image)
    go None none = let bad = subst IsSome none there in cc
    go (Some image) is = (image, is)

-- the bits of page 0 are those after all seen
pub bits-here : (sizes : Sizes) (fits : has_pages sizes.pages ≡ true) (key : MapKey) (path : List ℕ) (key2 : MapKey) (path2 : List ℕ) (held : List (ℕ × Level)) (p : PassState)
    → StandsOnPair sizes key path key2 path2 held p → (image : List ℕ) → changed_of 0 p.work ≡ Some image → bits_in sizes.pages image ≡ bits_seen sizes p
bits-here sizes fits key path key2 path2 held p at image there =
    let a = agrees-first sizes fits key path key2 path2 held p at in
    let has : HasBits sizes.pages (bits_seen sizes p) image = subst (λ (o : Option (List ℕ)). IfSome o (HasBits sizes.pages (bits_seen sizes p))) there a.space in
    λ j n. sym (has.1 n) j

pub ok-later : (A B : Type 0) (o : Result A B) (P Q : A → Type 0) → IfOk o P → ((x : A) → P x → Q x) → IfOk o Q
ok-later A B (Ok x) P Q holds f = f x holds
ok-later A B (Err e) P Q holds f = holds

pub err-later : (A B : Type 0) (o : Result A B) (P Q : B → Type 0) → IfErr o P → ((x : B) → P x → Q x) → IfErr o Q
err-later A B (Ok x) P Q holds f = holds
err-later A B (Err e) P Q holds f = f e holds

pub moved-bits : (P : ℕ → (ℕ → ℕ) → Type 0) (n m : ℕ) (b d : ℕ → ℕ) → n ≡ m → b ≡ d → P n b → P m d
moved-bits P n m b d size same h = subst (P m) same (subst (λ k. P k b) size h)
