-- Pages are taken one after the other, behind those that are held.
use Rattle.std.specs.List.{All, AllByRecursion}
use Rattle.std.specs.Prelude.{IsSome, take, drop, get_or}
use Rattle.std.proofs.Common.{◌≡◌, ℕ, zero, suc, ◌+◌, ◌<◌, ◌≤◌, true, false, List, [], ◌∷◌, ◌++◌, length, map, refl, sym, ap, subst, ◌∙◌, arith, append_assoc, append-nil, length-append}
use Rattle.std.proofs.lemmas.List.{map-append, take-append-drop, take_at}
use Rattle.std.proofs.lemmas.List.Elements.{All-nil, All-cons, All-head, All-tail}
use Rattle.std.proofs.lemmas.Grind.{take_at_read}
use Rattle.ib_map.specs.Keys.{MapKey}
use Rattle.ib_levels.specs.declared.level.Level.{Level}
use Rattle.ib_levels.specs.Level.{may_follow}
use Rattle.ib_layout.specs.Geometry.{Sizes}
use Rattle.ib_plans.specs.Agreement.{IsThere}
use Rattle.ib_tree.specs.PageLists.{AreOnce, is_listed}
use Rattle.ib_rule.specs.declared.looks.Grants.{Grants}
use Rattle.ib_rule.specs.Pass.{PassState}
use Rattle.ib_cursor.specs.Claims.{claim_grant}
use Rattle.ib_cursor.specs.Grants.{Grant}
use Rattle.ib_cursor.proofs.OnceLaws.{once_here}
use Rattle.ib_cursor.proofs.LatchingLaws.{went_both, went_none}
use Rattle.ib_index.specs.Grows.{held_grant, pages_held}
use Rattle.ib_second.specs.Stands.{HasTakenAt, HasTakenEach, StandsOnPair, at_level}

pages-at : (level : Level) (xs : List ℕ) → pages_held (at_level level xs) ≡ xs
pages-at level [] = refl
pages-at level (x ∷ xs) = ap (λ ns. x ∷ ns) (pages-at level xs)

pub held-at : (held : List (ℕ × Level)) (level : Level) (xs : List ℕ) → pages_held (held ++ at_level level xs) ≡ pages_held held ++ xs
held-at held level xs = map-append (λ (h : ℕ × Level). h.0) held (at_level level xs) ∙ ap (λ ns. pages_held held ++ ns) (pages-at level xs)

length-at : (level : Level) (xs : List ℕ) → length (at_level level xs) ≡ length xs
length-at level [] = refl
length-at level (x ∷ xs) = let r = length-at level xs in omega arith

pub length-held : (held : List (ℕ × Level)) (level : Level) (xs : List ℕ) → length (held ++ at_level level xs) ≡ length held + length xs
length-held held level xs = let a = length-append held (at_level level xs) in let b = length-at level xs in omega arith

-- what may follow those that are held, and itself
follow-at : (level wanted : Level) (xs : List ℕ) → may_follow level wanted ≡ true → AllByRecursion (λ (g : Grant). may_follow g.level wanted ≡ true) (map held_grant (at_level level xs))
follow-at level wanted [] is = tt
follow-at level wanted (x ∷ xs) is = (is, follow-at level wanted xs is)

follow-both : (level wanted : Level) (held : List (ℕ × Level)) (xs : List ℕ) → AllByRecursion (λ (g : Grant). may_follow g.level wanted ≡ true) (map held_grant held) → may_follow level wanted ≡ true
    → AllByRecursion (λ (g : Grant). may_follow g.level wanted ≡ true) (map held_grant (held ++ at_level level xs))
follow-both level wanted [] xs all is = follow-at level wanted xs is
follow-both level wanted (h ∷ hs) xs all is = (all.0, follow-both level wanted hs xs all.1 is)

pub follow-more : (level wanted : Level) (held : List (ℕ × Level)) (xs : List ℕ) → AllByRecursion (λ (g : Grant). may_follow g.level wanted ≡ true) (claim_grant ∷ map held_grant held) → may_follow level wanted ≡ true
    → AllByRecursion (λ (g : Grant). may_follow g.level wanted ≡ true) (claim_grant ∷ map held_grant (held ++ at_level level xs))
follow-more level wanted held xs all is = (all.0, follow-both level wanted held xs all.1 is)

pub take-short : (n : ℕ) (xs : List ℕ) → length (take n xs) ≤ length xs
take-short zero xs = omega arith
take-short (suc n) [] = omega arith
take-short (suc n) (x ∷ xs) = let r = take-short n xs in omega arith

all-later : (P Q : ℕ → Type 0) (ns : List ℕ) → All P ns → ((n : ℕ) → P n → Q n) → All Q ns
all-later P Q ns all f = λ k d lt. f _ (all k d lt)

all-more : (P : ℕ → Type 0) (ns : List ℕ) (n : ℕ) → All P ns → P n → All P (ns ++ n ∷ [])
all-more P [] n all one = All-cons P n [] one (All-nil P)
all-more P (x ∷ xs) n all one = All-cons P x (xs ++ n ∷ []) (All-head P x xs all) (all-more P xs n (All-tail P x xs all) one)

pub each-none : (sizes : Sizes) (key : MapKey) (path : List ℕ) (key2 : MapKey) (path2 : List ℕ) (held : List (ℕ × Level)) (pages : List ℕ) (level : Level) (p : PassState) → StandsOnPair sizes key path key2 path2 held p
    → HasTakenEach sizes key path key2 path2 held (take 0 pages) level p p
each-none sizes key path key2 path2 held pages level p at =
    subst (λ ns. HasTakenEach sizes key path key2 path2 held ns level p p) (sym (take_at [] pages 0 refl)) (record {
      stands = subst (λ hs. StandsOnPair sizes key path key2 path2 hs p) (sym (append-nil held)) at;
      went = went_none p;
      seen = refl;
      claims = refl;
      grants = omega arith;
      there = All-nil (IsThere p.work);
      same = λ n there. refl;
    })

-- the first of them were taken, and one more may be
module _ (sizes : Sizes) (key : MapKey) (path : List ℕ) (key2 : MapKey) (path2 : List ℕ) (held : List (ℕ × Level)) (pages items : List ℕ) (level : Level) (at : ℕ) (p q : PassState)
    (same : items ≡ pages) (within : at < length items) (once : AreOnce (pages_held held ++ pages) sizes.pages) (taken : HasTakenEach sizes key path key2 path2 held (take at pages) level p q) where
  inner : at < length pages
  inner = let e = ap length same in omega arith

  page-is : get_or items at 0 ≡ get_or pages at 0
  page-is = ap (λ ps. get_or ps at 0) same

  one-more : take (at + 1) pages ≡ take at pages ++ get_or items at 0 ∷ []
  one-more = (take_at_read pages at 0 inner).1 ∙ ap (λ n. take at pages ++ n ∷ []) (sym page-is)

  whole : pages_held held ++ pages ≡ (pages_held held ++ take at pages) ++ get_or items at 0 ∷ drop (at + 1) pages
  whole =
      ap (λ ns. pages_held held ++ ns) (sym (take-append-drop (at + 1) pages) ∙ (ap (λ ns. ns ++ drop (at + 1) pages) one-more ∙ append_assoc (take at pages) (get_or items at 0 ∷ []) (drop (at + 1) pages)))
      ∙ sym (append_assoc (pages_held held) (take at pages) (get_or items at 0 ∷ drop (at + 1) pages))

  here : (is_listed (pages_held held ++ take at pages) (get_or items at 0) ≡ false) × (get_or items at 0 < sizes.pages)
  here = once_here (pages_held held ++ take at pages) (get_or items at 0) (drop (at + 1) pages) sizes.pages (subst (λ ns. AreOnce ns sizes.pages) whole once)

  pub each-other : is_listed (pages_held (held ++ at_level level (take at pages))) (get_or items at 0) ≡ false
  each-other = ap (λ ns. is_listed ns (get_or items at 0)) (held-at held level (take at pages)) ∙ here.0

  pub each-inside : get_or items at 0 < sizes.pages
  each-inside = here.1

  pub each-step : (r : PassState) → HasTakenAt sizes key path key2 path2 (held ++ at_level level (take at pages)) (get_or items at 0) level q r → HasTakenEach sizes key path key2 path2 held (take (at + 1) pages) level p r
  each-step r g =
      let later : (n : ℕ) → IsThere q.work n → IsThere r.work n = λ n there. subst IsSome (sym (g.same n there)) there in
      subst (λ ns. HasTakenEach sizes key path key2 path2 held ns level p r) (sym one-more) (record {
        stands = subst (λ hs. StandsOnPair sizes key path key2 path2 hs r) (append_assoc held (at_level level (take at pages)) ((get_or items at 0, level) ∷ [])
            ∙ ap (λ hs. held ++ hs) (sym (map-append (λ page. (page, level)) (take at pages) (get_or items at 0 ∷ [])))) g.stands;
        went = went_both p q r taken.went g.went;
        seen = g.seen ∙ taken.seen;
        claims = ap (λ (v : Grants). v.sx) g.grants ∙ taken.claims;
        grants = let a = taken.grants in let s = ap (λ (v : Grants). v.s) g.grants in let x = ap (λ (v : Grants). v.x) g.grants in let y = ap (λ (v : Grants). v.sx) g.grants in let l = length-append (take at pages) (get_or items at 0 ∷ []) in omega arith;
        there = all-more (IsThere r.work) (take at pages) (get_or items at 0) (all-later (IsThere q.work) (IsThere r.work) (take at pages) taken.there later) g.there;
        same = λ n there. g.same n (subst IsSome (sym (taken.same n there)) there) ∙ taken.same n there;
      })
