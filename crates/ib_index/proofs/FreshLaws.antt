-- Fresh pages are taken one after the other, behind page 0.
use Rattle.std.specs.List.{All, AllByRecursion}
use Rattle.std.specs.Prelude.{IsSome, IfSome, ◌||◌, take, drop, get_or}
use Rattle.std.proofs.Common.{◌≡◌, ◌≢◌, inl, inr, ℕ, zero, suc, ◌+◌, ◌<◌, ◌≤◌, true, false, List, [], ◌∷◌, ◌++◌, Option, Some, None, length, map, refl, sym, ap, subst, ◌∙◌, arith, ne_eqb, append_assoc, append-nil, length-append}
use Rattle.std.proofs.lemmas.Bool.{cases_eq}
use Rattle.std.proofs.lemmas.List.{map-append, take-append-drop, take_at}
use Rattle.std.proofs.lemmas.List.Elements.{All-nil, All-cons, All-head, All-tail}
use Rattle.std.proofs.lemmas.Grind.{take_at_read}
use Rattle.ib_map.specs.Keys.{MapKey}
use Rattle.ib_levels.specs.declared.level.Level.{Level}
use Rattle.ib_levels.specs.declared.level.Level.TheVariants.{Log, PageNew}
use Rattle.ib_levels.specs.Level.{may_follow}
use Rattle.ib_layout.specs.Geometry.{Sizes}
use Rattle.ib_page.specs.Work.{WorkPage, changed_of}
use Rattle.ib_walk.specs.Full.{chosen, free_pages_from}
use Rattle.ib_walk.specs.Pages.{Free, PageMemory, Tree}
use Rattle.ib_walk.proofs.ChoiceLaws.{cond-eq, cond-ne}
use Rattle.ib_plans.specs.Agreement.{Agrees, HasBits, IsThere, bits_in, memory_in, state_or_free}
use Rattle.ib_plans.proofs.MetLaws.{clear-some}
use Rattle.ib_tree.specs.PageLists.{AreOnce, is_listed}
use Rattle.ib_rule.specs.declared.looks.Grants.{Grants}
use Rattle.ib_rule.specs.Pass.{PassState}
use Rattle.ib_cursor.specs.Grants.{Grant}
use Rattle.ib_cursor.proofs.OnceLaws.{among_append, once_here}
use Rattle.ib_cursor.proofs.LatchingLaws.{went_both, went_none}
use Rattle.ib_index.proofs.HeldLaws.{each-of}
use Rattle.ib_index.specs.Grows.{HasGrown, HasTakenNew, IsGrowing, held_grant, new_pages, pages_held, space_pages, tree_pages}

-- all pages that are held
new-are : (xs : List ℕ) → pages_held (new_pages xs) ≡ xs
new-are [] = refl
new-are (x ∷ xs) = ap (λ ns. x ∷ ns) (new-are xs)

pub all-are : (held xs : List ℕ) → pages_held (space_pages held ++ new_pages xs) ≡ held ++ 0 ∷ xs
all-are [] xs = ap (λ ns. 0 ∷ ns) (new-are xs)
all-are (h ∷ hs) xs = ap (λ ns. h ∷ ns) (all-are hs xs)

length-new : (xs : List ℕ) → length (new_pages xs) ≡ length xs
length-new [] = refl
length-new (x ∷ xs) = let r = length-new xs in omega arith

pub length-all : (held xs : List ℕ) → length (space_pages held ++ new_pages xs) ≡ length held + 1 + length xs
length-all [] xs = let l = length-new xs in omega arith
length-all (h ∷ hs) xs = let r = length-all hs xs in omega arith

follows : (wanted : Level) (xs : List ℕ) → may_follow PageNew wanted ≡ true → AllByRecursion (λ (g : Grant). may_follow g.level wanted ≡ true) (map held_grant (new_pages xs))
follows wanted [] is = tt
follows wanted (x ∷ xs) is = (is, follows wanted xs is)

pub follow-new : (held xs : List ℕ) → AllByRecursion (λ (g : Grant). may_follow g.level PageNew ≡ true) (map held_grant (space_pages held ++ new_pages xs))
follow-new [] xs = (refl, follows PageNew xs refl)
follow-new (h ∷ hs) xs = (refl, follow-new hs xs)

pub follow-log : (held xs : List ℕ) → AllByRecursion (λ (g : Grant). may_follow g.level Log ≡ true) (map held_grant (space_pages held ++ new_pages xs))
follow-log [] xs = (refl, follows Log xs refl)
follow-log (h ∷ hs) xs = (refl, follow-log hs xs)

pub follow-tree : (held : List ℕ) → AllByRecursion (λ (g : Grant). may_follow g.level Log ≡ true) (map held_grant (tree_pages held))
follow-tree [] = tt
follow-tree (h ∷ hs) = (refl, follow-tree hs)

-- the pages that are chosen are free, and each is another one
above-none : (n : ℕ) (bits : ℕ → ℕ) (xs : List ℕ) → AllByRecursion (λ q. (n + 1 ≤ q) × (bits q ≡ 0)) xs → is_listed xs n ≡ false
above-none n bits [] all = refl
above-none n bits (x ∷ xs) all =
    let a = all.0.0 in
    ap (λ b. b || is_listed xs n) (ne_eqb x n (λ e. omega arith)) ∙ above-none n bits xs all.1

lower : (n : ℕ) (bits : ℕ → ℕ) (xs : List ℕ) → AllByRecursion (λ q. (n + 1 ≤ q) × (bits q ≡ 0)) xs → AllByRecursion (λ q. (n ≤ q) × (bits q ≡ 0)) xs
lower n bits [] all = tt
lower n bits (x ∷ xs) all = ((let a = all.0.0 in omega arith, all.0.1), lower n bits xs all.1)

pub free-once : (bits : ℕ → ℕ) (page n k : ℕ) → AreOnce (take k (free_pages_from bits page n)) (page + n) × AllByRecursion (λ q. (page ≤ q) × (bits q ≡ 0)) (take k (free_pages_from bits page n))
free-once bits page n zero = (tt, tt)
free-once bits page zero (suc k) = (tt, tt)
free-once bits page (suc n) (suc k) =
    let end : page + 1 + n ≡ page + suc n = omega arith in
    elim (cases_eq (bits page) 0) [
      | inl z ↦
          let e = cond-eq (bits page) 0 (page ∷ free_pages_from bits (page + 1) n) (free_pages_from bits (page + 1) n) z in
          let r = free-once bits (page + 1) n k in
          subst (λ xs. AreOnce (take (suc k) xs) (page + suc n) × AllByRecursion (λ q. (page ≤ q) × (bits q ≡ 0)) (take (suc k) xs)) (sym e) (
            (omega arith, above-none page bits (take k (free_pages_from bits (page + 1) n)) r.1, subst (AreOnce (take k (free_pages_from bits (page + 1) n))) end r.0),
            ((omega arith, z), lower page bits (take k (free_pages_from bits (page + 1) n)) r.1),
          )
      | inr ne ↦
          let e = cond-ne (bits page) 0 (page ∷ free_pages_from bits (page + 1) n) (free_pages_from bits (page + 1) n) ne in
          let r = free-once bits (page + 1) n (suc k) in
          subst (λ xs. AreOnce (take (suc k) xs) (page + suc n) × AllByRecursion (λ q. (page ≤ q) × (bits q ≡ 0)) (take (suc k) xs)) (sym e)
          (subst (AreOnce (take (suc k) (free_pages_from bits (page + 1) n))) end r.0, lower page bits (take (suc k) (free_pages_from bits (page + 1) n)) r.1)
    ]

pub free-none : (bits : ℕ → ℕ) (n : ℕ) (xs : List ℕ) → bits n ≢ 0 → AllByRecursion (λ q. (0 ≤ q) × (bits q ≡ 0)) xs → is_listed xs n ≡ false
free-none bits n [] set all = refl
free-none bits n (x ∷ xs) set all = ap (λ b. b || is_listed xs n) (ne_eqb x n (λ e. set (ap bits (sym e) ∙ all.0.1))) ∙ free-none bits n xs set all.1

once-join : (xs ys : List ℕ) (pages : ℕ) → AreOnce xs pages → AreOnce ys pages → AllByRecursion (λ x. is_listed ys x ≡ false) xs → AreOnce (xs ++ ys) pages
once-join [] ys pages a b c = b
once-join (x ∷ xs) ys pages a b c = (a.0, among_append xs ys x a.1 c.0, once-join xs ys pages a.2 b c.1)

-- the pages of the tree, page 0 and those that are chosen are each another one
module _ (pages : ℕ) (key : MapKey) (path held : List ℕ) (work : List WorkPage) (memory : PageMemory) (bits : ℕ → ℕ) (agrees : Agrees pages 1 1 key path work memory bits) where
  set-zero : bits 0 ≢ 0
  set-zero z = clear-some _ memory bits 1 agrees.lawful 0 z refl

  set-tree : (n : ℕ) → IsThere work n → (memory_in work n).kind ≡ Tree → n ≢ 0 → bits n ≢ 0
  set-tree n there kind ne z =
      let free = agrees.lawful.unmet n z in
      let bad : Tree ≡ Free = sym kind ∙ (ap (λ s. s.kind) (agrees.same n ne there) ∙ free) in cc

  pub fresh-once : (need : ℕ) → 0 < pages → AreOnce held pages → is_listed held 0 ≡ false → ((n : ℕ) → is_listed held n ≡ true → IsThere work n × ((memory_in work n).kind ≡ Tree) × (n ≢ 0))
      → AreOnce (held ++ 0 ∷ chosen bits pages need) pages
  fresh-once need some once none kinds =
      let f = free-once bits 0 pages need in
      let end : 0 + pages ≡ pages = omega arith in
      once-join held (0 ∷ chosen bits pages need) pages once
      (some, free-none bits 0 (chosen bits pages need) set-zero f.1, subst (AreOnce (chosen bits pages need)) end f.0)
      (each-of (λ x. is_listed (0 ∷ chosen bits pages need) x ≡ false) held (λ x among.
      let k = kinds x among in
      ap (λ b. b || is_listed (chosen bits pages need) x) (ne_eqb 0 x (λ e. k.2 (sym e))) ∙ free-none bits x (chosen bits pages need) (set-tree x k.0 k.1 k.2) f.1))

-- the first of them were taken, and one more may be
module _ (sizes : Sizes) (key : MapKey) (path held fresh items : List ℕ) (at : ℕ) (p q : PassState) (same : items ≡ fresh) (within : at < length items) (once : AreOnce (held ++ 0 ∷ fresh) sizes.pages)
    (taken : HasTakenNew sizes key path (space_pages held) (take at fresh) p q) where
  inner : at < length fresh
  inner = let e = ap length same in omega arith

  page-is : get_or items at 0 ≡ get_or fresh at 0
  page-is = ap (λ ps. get_or ps at 0) same

  one-more : take (at + 1) fresh ≡ take at fresh ++ get_or items at 0 ∷ []
  one-more = (take_at_read fresh at 0 inner).1 ∙ ap (λ n. take at fresh ++ n ∷ []) (sym page-is)

  whole : held ++ 0 ∷ fresh ≡ (held ++ 0 ∷ take at fresh) ++ get_or items at 0 ∷ drop (at + 1) fresh
  whole =
      ap (λ ns. held ++ 0 ∷ ns) (sym (take-append-drop (at + 1) fresh) ∙ (ap (λ ns. ns ++ drop (at + 1) fresh) one-more ∙ append_assoc (take at fresh) (get_or items at 0 ∷ []) (drop (at + 1) fresh)))
      ∙ sym (append_assoc held (0 ∷ take at fresh) (get_or items at 0 ∷ drop (at + 1) fresh))

  here : (is_listed (held ++ 0 ∷ take at fresh) (get_or items at 0) ≡ false) × (get_or items at 0 < sizes.pages)
  here = once_here (held ++ 0 ∷ take at fresh) (get_or items at 0) (drop (at + 1) fresh) sizes.pages (subst (λ ns. AreOnce ns sizes.pages) whole once)

  pub new-other : is_listed (pages_held (space_pages held ++ new_pages (take at fresh))) (get_or items at 0) ≡ false
  new-other = ap (λ ns. is_listed ns (get_or items at 0)) (all-are held (take at fresh)) ∙ here.0

  pub new-inside : get_or items at 0 < sizes.pages
  new-inside = here.1

  pub new-step : (r : PassState) → HasGrown sizes key path (space_pages held ++ new_pages (take at fresh)) (get_or items at 0) PageNew q r → HasTakenNew sizes key path (space_pages held) (take (at + 1) fresh) p r
  new-step r g =
      let later : (n : ℕ) → IsThere q.work n → IsThere r.work n = λ n there. subst IsSome (sym (g.same n there)) there in
      subst (λ ns. HasTakenNew sizes key path (space_pages held) ns p r) (sym one-more) (record {
        growing = subst (λ hs. IsGrowing sizes key path hs r) (append_assoc (space_pages held) (new_pages (take at fresh)) ((get_or items at 0, PageNew) ∷ []) ∙ ap (λ hs. space_pages held ++ hs) (sym (map-append (λ page. (page, PageNew)) (take at fresh) (get_or items at 0 ∷ [])))) g.growing;
        went = went_both p q r taken.went g.went;
        claims = ap (λ (v : Grants). v.sx) g.grants ∙ taken.claims;
        grants = let a = taken.grants in let s = ap (λ (v : Grants). v.s) g.grants in let x = ap (λ (v : Grants). v.x) g.grants in let y = ap (λ (v : Grants). v.sx) g.grants in let l = length-append (take at fresh) (get_or items at 0 ∷ []) in omega arith;
        there = all-more (IsThere r.work) (take at fresh) (get_or items at 0) (all-later (take at fresh) taken.there later) g.there;
        same = λ n there. g.same n (subst IsSome (sym (taken.same n there)) there) ∙ taken.same n there;
      })
    where
      all-later : (ns : List ℕ) → All (IsThere q.work) ns → ((n : ℕ) → IsThere q.work n → IsThere r.work n) → All (IsThere r.work) ns
      all-later ns all f = λ k d lt. f _ (all k d lt)

      all-more : (P : ℕ → Type 0) (ns : List ℕ) (n : ℕ) → All P ns → P n → All P (ns ++ n ∷ [])
      all-more P ns n all one = add ns all
        where
          add : (ns : List ℕ) → All P ns → All P (ns ++ n ∷ [])
          add [] all = All-cons P n [] one (All-nil P)
          add (x ∷ xs) all = All-cons P x (xs ++ n ∷ []) (All-head P x xs all) (add xs (All-tail P x xs all))

pub new-none : (sizes : Sizes) (key : MapKey) (path : List ℕ) (held fresh : List ℕ) (p : PassState) → IsGrowing sizes key path (space_pages held) p → HasTakenNew sizes key path (space_pages held) (take 0 fresh) p p
new-none sizes key path held fresh p g =
    subst (λ ns. HasTakenNew sizes key path (space_pages held) ns p p) (sym (take_at [] fresh 0 refl)) (record {
      growing = subst (λ hs. IsGrowing sizes key path hs p) (sym (append-nil (space_pages held))) g;
      went = went_none p;
      claims = refl;
      grants = omega arith;
      there = All-nil (IsThere p.work);
      same = λ n there. refl;
    })

-- a memory that agrees with more pages agrees with fewer
pub agrees-less : (pages : ℕ) (key : MapKey) (path : List ℕ) (old new : List WorkPage) (memory : PageMemory) (bits : ℕ → ℕ) → ((n : ℕ) → IsThere old n → changed_of n new ≡ changed_of n old)
    → Agrees pages 1 1 key path new memory bits → Agrees pages 1 1 key path old memory bits
agrees-less pages key path old new memory bits kept a = record {
  lawful = a.lawful;
  few = a.few;
  some = a.some;
  within = a.within;
  way = a.way;
  same = λ n ne there. ap state_or_free (sym (kept n there)) ∙ a.same n ne (subst IsSome (sym (kept n there)) there);
  space = go (changed_of 0 old) refl;
}
  where
    go : (o : Option (List ℕ)) → changed_of 0 old ≡ o → IfSome o (HasBits pages bits)
    go None none = tt
    go (Some image) there = subst (λ (o : Option (List ℕ)). IfSome o (HasBits pages bits)) (kept 0 (subst IsSome (sym there) refl) ∙ there) a.space

-- the bits of page 0 are those of the memory
pub bits-same : (pages : ℕ) (key : MapKey) (path : List ℕ) (work : List WorkPage) (memory : PageMemory) (bits : ℕ → ℕ) (image : List ℕ) → Agrees pages 1 1 key path work memory bits → changed_of 0 work ≡ Some image
    → bits_in pages image ≡ bits
bits-same pages key path work memory bits image a there =
    let has : HasBits pages bits image = subst (λ (o : Option (List ℕ)). IfSome o (HasBits pages bits)) there a.space in
    λ j n. sym (has.1 n) j

pub take-le : (n : ℕ) (xs : List ℕ) → length (take n xs) ≤ length xs
take-le zero xs = omega arith
take-le (suc n) [] = omega arith
take-le (suc n) (x ∷ xs) = let r = take-le n xs in omega arith
