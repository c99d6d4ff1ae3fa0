-- What a plan of the first tree leaves for one of the second, on the same work set.
use Rattle.std.specs.List.{All}
use Rattle.std.specs.Prelude.{IsSome, IfSome, IsSomeAnd}
use Rattle.std.proofs.Common.{◌≡◌, ◌≢◌, ℕ, zero, suc, ◌+◌, ◌<◌, ◌≤◌, ◌^◌, ◌∙◌, Bool, true, false, cond, List, [], ◌∷◌, length, Option, None, Some, inl, inr, refl, sym, ap, subst, arith}
use Rattle.std.proofs.lemmas.Bool.{cases_eq}
use Rattle.std.proofs.lemmas.List.Elements.{All-nil, All-cons, All-head, All-tail}
use Rattle.ib_map.specs.Keys.{MapKey, end_rank, rank}
use Rattle.ib_map.specs.Pairs.{value_at}
use Rattle.ib_map.proofs.KeyLaws.{rank-lt_end}
use Rattle.ib_heap.specs.declared.TheConstants.{MOST_RECORDS}
use Rattle.ib_page.specs.Form.{page_of}
use Rattle.ib_page.specs.Image.{IsTreePage}
use Rattle.ib_page.specs.Space.{space_clock_of}
use Rattle.ib_page.specs.Work.{WorkPage, changed_of}
use Rattle.ib_walk.specs.Pages.{PageMemory, PageState}
use Rattle.ib_walk.specs.Search.{child_for, leaf_for, page_below}
use Rattle.ib_walk.specs.Trees.{IsLawful, content_of, height_of, weight_of}
use Rattle.ib_walk.specs.Walk.{counts_page}
use Rattle.ib_walk.specs.Words.{state_of}
use Rattle.ib_walk.proofs.SearchLaws.{above}
use Rattle.ib_walk.proofs.TreeLaws.{value_at-content_of}
use Rattle.ib_plans.specs.Agreement.{Agrees, HasBits, HasTreePages, IsPlanned, IsThere, MayTick, last_of, memory_in, space_ticks, state_or_free, path_down}
use Rattle.ib_plans.specs.Leads.{LeadsTo}
use Rattle.ib_plans.specs.Marks.{ticked}
use Rattle.ib_plans.specs.Moves.{Move}
use Rattle.ib_map.specs.Pairs.{Pairs}
use Rattle.ib_plans.proofs.LevelLaws.{above-suc}
use Rattle.ib_plans.proofs.MetLaws.{met-set, root-met}
use Rattle.ib_plans.proofs.PathLaws.{PathPage-below, page_below-child}
use Rattle.ib_split.proofs.Planning.{if-some}
use Rattle.ib_merge.proofs.OnPathLaws.{there-reads}
use Rattle.ib_pair_plans.specs.Apart.{IsApart}
use Rattle.ib_pair_plans.proofs.TreeStays.{path-stays}
use Rattle.ib_pair_change.specs.PairPlans.{MayTickTwice}
use Rattle.ib_plans.proofs.PageZeroLaws.{zero-no_clock}

-- what holds of an image holds of it where it is there
pub some-if : (P : List ℕ → Type 0) (o : Option (List ℕ)) (image : List ℕ) → o ≡ Some image → P image → IfSome o P
some-if P o image is holds = let Q : Option (List ℕ) → Type 0 = λ q. IfSome q P in subst Q (sym is) holds

-- each page of a key's way is met
pub way-met : (m : PageMemory) (bits : ℕ → ℕ) (roots : ℕ) → IsLawful m bits roots → (key : MapKey) → rank key < end_rank → (root : ℕ) → 0 < root → root ≤ roots
    → (height depth page : ℕ) → height_of m root ≡ above depth height → page_below m key depth root ≡ page → All (λ p. 0 < weight_of (counts_page p) m root) (path_down m key height page)
way-met m bits roots law key in-range root some le zero depth page tall at =
    All-cons (λ p. 0 < weight_of (counts_page p) m root) page [] (here m bits roots law key in-range root some le zero depth page tall at) (All-nil (λ p. 0 < weight_of (counts_page p) m root))
  where
    here : (m : PageMemory) (bits : ℕ → ℕ) (roots : ℕ) → IsLawful m bits roots → (key : MapKey) → rank key < end_rank → (root : ℕ) → 0 < root → root ≤ roots
        → (height depth page : ℕ) → height_of m root ≡ above depth height → page_below m key depth root ≡ page → 0 < weight_of (counts_page page) m root
    here m bits roots law key in-range root some le height depth page tall at =
        subst (λ n. 0 < weight_of (counts_page n) m root) at (let p = (PathPage-below (λ n. MOST_RECORDS) m bits roots law key in-range root some le depth height tall).met in omega arith)
way-met m bits roots law key in-range root some le (suc height) depth page tall at =
    All-cons (λ p. 0 < weight_of (counts_page p) m root) page (path_down m key height (child_for key 0 (m page).records))
    (subst (λ n. 0 < weight_of (counts_page n) m root) at (let p = (PathPage-below (λ n. MOST_RECORDS) m bits roots law key in-range root some le depth (suc height) tall).met in omega arith))
    (way-met m bits roots law key in-range root some le height (suc depth) (child_for key 0 (m page).records) (tall ∙ above-suc depth height)
    (page_below-child m key depth root ∙ ap (λ n. child_for key 0 (m n).records) at))

pub last-all : (P : ℕ → Type 0) (path : List ℕ) → All P path → 0 < length path → P (last_of path)
last-all P [] all some = absurd (omega arith)
last-all P (x ∷ []) all some = All-head P x [] all
last-all P (x ∷ y ∷ ys) all some = last-all P (y ∷ ys) (All-tail P x (y ∷ ys) all) (omega arith)

pub last-way : (m : PageMemory) (key : MapKey) (height page : ℕ) → last_of (path_down m key height page) ≡ page_below m key height page
last-way m key zero page = refl
last-way m key (suc height) page = go height (child_for key 0 (m page).records) (last-way m key height (child_for key 0 (m page).records))
  where
    go : (h p : ℕ) → last_of (path_down m key h p) ≡ page_below m key h p → last_of (page ∷ path_down m key h p) ≡ page_below m key h p
    go zero p e = e
    go (suc h) p e = e

pub both-all : (P Q R : ℕ → Type 0) (xs : List ℕ) → ((x : ℕ) → P x → Q x → R x) → All P xs → All Q xs → All R xs
both-all P Q R [] so p q = All-nil R
both-all P Q R (x ∷ xs) so p q = All-cons R x xs (so x (All-head P x xs p) (All-head Q x xs q)) (both-all P Q R xs so (All-tail P x xs p) (All-tail Q x xs q))

pub map-all : (P R : ℕ → Type 0) (xs : List ℕ) → ((x : ℕ) → P x → R x) → All P xs → All R xs
map-all P R [] so p = All-nil R
map-all P R (x ∷ xs) so p = All-cons R x xs (so x (All-head P x xs p)) (map-all P R xs so (All-tail P x xs p))

-- what the leaf that the path ends at has is what the tree has
pub leaf-content : (pages roots root : ℕ) (key : MapKey) (path : List ℕ) (work : List WorkPage) (m : PageMemory) (bits : ℕ → ℕ) → Agrees pages roots root key path work m bits → HasTreePages path work
    → value_at key (content_of m root) ≡ value_at key (memory_in work (last_of path)).records
leaf-content pages roots root key path work m bits a there =
    let in-range = rank-lt_end key in
    let last : last_of path ≡ leaf_for m key root = ap last_of a.way ∙ last-way m key (height_of m root) root in
    let met = PathPage-below (λ n. MOST_RECORDS) m bits roots a.lawful key in-range root a.some a.within (height_of m root) 0 (sym (above-end (height_of m root))) in
    let is-there : IsThere work (last_of path) = some-and (changed_of (last_of path) work) (last-all (λ page. IsSomeAnd (changed_of page work) IsTreePage) path there (path-some m key path (height_of m root) root a.way)) in
    let same = a.same (last_of path) (λ z. met.some (sym last ∙ z)) is-there in
    value_at-content_of m key root in-range (a.lawful.trees root a.some a.within).0 ∙ (ap (λ n. value_at key (m n).records) (sym last) ∙ ap (λ (p : PageState). value_at key p.records) (sym same))
  where
    above-end : (n : ℕ) → above n 0 ≡ n
    above-end zero = refl
    above-end (suc n) = ap suc (above-end n)

    some-and : (o : Option (List ℕ)) → IsSomeAnd o IsTreePage → IsSome o
    some-and None h = absurd h
    some-and (Some x) h = refl

    path-some : (m : PageMemory) (key : MapKey) (path : List ℕ) (height page : ℕ) → path ≡ path_down m key height page → 0 < length path
    path-some m key path zero page e = let l = ap length e in omega arith
    path-some m key path (suc height) page e = let l = ap length e in omega arith

module _ (pages : ℕ) (m planned : PageMemory) (bits after : ℕ → ℕ) (touched : ℕ → Bool) (moves : ℕ → Move) (content : Pairs) (old mid : List WorkPage)
    (lawful : IsLawful m bits 2) (first-same : (page : ℕ) → page ≢ 0 → IsThere old page → memory_in old page ≡ m page)
    (leads : LeadsTo m (ticked m touched planned) after 2 1 touched content) (apart : IsApart m 2 1 touched) (plan : IsPlanned pages m planned after touched moves old mid) where
  abbrev then : PageMemory
  then = ticked m touched planned

  -- the second tree is as it was
  pub same : (n : ℕ) → 0 < weight_of (counts_page n) m 2 → then n ≡ m n
  same n met = leads.same n (apart 2 n (omega arith) (omega arith) (λ q. omega arith) met)

  pub kept : (n : ℕ) → 0 < weight_of (counts_page n) m 2 → changed_of n mid ≡ changed_of n old
  kept n met = plan.kept n (apart 2 n (omega arith) (omega arith) (λ q. omega arith) met)

  pub there : (n : ℕ) → IsThere old n → IsThere mid n
  there n is = there-reads old mid n plan.reads is

  -- the work set agrees with the memory after the first plan
  module _ (key2 : MapKey) (path2 : List ℕ) (other : Agrees pages 2 2 key2 path2 old m bits) where
    in-range2 : rank key2 < end_rank
    in-range2 = rank-lt_end key2

    pub agrees-mid : Agrees pages 2 2 key2 path2 mid then after
    agrees-mid = record {
      lawful = leads.lawful;
      few = other.few;
      some = omega arith;
      within = omega arith;
      way = other.way ∙ sym (path-stays (λ n. MOST_RECORDS) m then bits 2 lawful 2 (omega arith) (omega arith) same key2 in-range2);
      same = plan.same;
      space = plan.space;
    }

    pub path-met : All (λ p. 0 < weight_of (counts_page p) m 2) path2
    path-met = subst (All (λ p. 0 < weight_of (counts_page p) m 2)) (sym other.way)
        (way-met m bits 2 lawful key2 in-range2 2 (omega arith) (omega arith) (height_of m 2) 0 2 refl refl)

    path-some : 0 < length path2
    path-some = some-page (height_of m 2) 2 other.way
      where
        some-page : (height page : ℕ) → path2 ≡ path_down m key2 height page → 0 < length path2
        some-page zero page e = let l = ap length e in omega arith
        some-page (suc height) page e = let l = ap length e in omega arith

    pub last-kept : changed_of (last_of path2) mid ≡ changed_of (last_of path2) old
    last-kept = kept (last_of path2) (last-all (λ p. 0 < weight_of (counts_page p) m 2) path2 path-met path-some)

    pub trees-mid : HasTreePages path2 old → HasTreePages path2 mid
    trees-mid trees = both-all (λ p. 0 < weight_of (counts_page p) m 2) (λ p. IsSomeAnd (changed_of p old) IsTreePage) (λ p. IsSomeAnd (changed_of p mid) IsTreePage) path2
        (λ p met tree. subst (λ (o : Option (List ℕ)). IsSomeAnd o IsTreePage) (sym (kept p met)) tree) path-met trees

  -- clocks have risen by one at most
  ticked-le : (n : ℕ) → (then n).clock ≤ (m n).clock + 1
  ticked-le n = go (touched n) refl
    where
      go : (b : Bool) → touched n ≡ b → (then n).clock ≤ (m n).clock + 1
      go true on = let e : (then n).clock ≡ (m n).clock + 1 = rw on refl in omega arith
      go false off = let e = ap (λ (p : PageState). p.clock) (leads.same n off) in omega arith

  module _ (clocks : MayTickTwice old) where
    page-ticks : (n : ℕ) → n ≢ 0 → (memory_in mid n).clock < 2 ^ 63
    page-ticks n ne = go (changed_of n mid) refl
      where
        go : (o : Option (List ℕ)) → changed_of n mid ≡ o → (memory_in mid n).clock < 2 ^ 63
        go None none = let z : (memory_in mid n).clock ≡ 0 = ap (λ o. (state_or_free o).clock) none in omega arith
        go (Some image) at =
            let here : IsThere mid n = subst IsSome (sym at) refl in
            let before : IsThere old n = there-reads mid old n (sym plan.reads) here in
            let a = ap (λ (p : PageState). p.clock) (plan.same n ne here) in
            let b = ap (λ (p : PageState). p.clock) (first-same n ne before) in
            let l = ticked-le n in
            let c = clocks.0 n in omega arith

    zero-ticks : (memory_in mid 0).clock < 2 ^ 63
    zero-ticks = go (changed_of 0 mid) refl
      where
        go : (o : Option (List ℕ)) → changed_of 0 mid ≡ o → (memory_in mid 0).clock < 2 ^ 63
        go None none = let z : (memory_in mid 0).clock ≡ 0 = ap (λ o. (state_or_free o).clock) none in omega arith
        go (Some image) at =
            let has = if-some (HasBits pages after) (changed_of 0 mid) image plan.space at in
            let set = met-set (λ n. MOST_RECORDS) then after 2 leads.lawful 1 (omega arith) (omega arith) 1 (root-met then 1) in
            let none = zero-no_clock pages image (λ z. set (has.1 1 ∙ z)) in
            let e : (memory_in mid 0).clock ≡ (state_of (page_of image)).clock = ap (λ o. (state_or_free o).clock) at in omega arith

    space-ticks-le : space_ticks touched ≤ 1
    space-ticks-le = elim (touched 0) as (λ b. cond {A = ℕ} b 1 0 ≤ 1) [ true ↦ omega arith | false ↦ omega arith ]

    space-clock : IfSome (changed_of 0 mid) (λ image. space_clock_of image < 2 ^ 63)
    space-clock = go (changed_of 0 old) (changed_of 0 mid) refl refl
      where
        go : (a b : Option (List ℕ)) → changed_of 0 old ≡ a → changed_of 0 mid ≡ b → IfSome (changed_of 0 mid) (λ image. space_clock_of image < 2 ^ 63)
        go a None was at = subst (λ (o : Option (List ℕ)). IfSome o (λ image. space_clock_of image < 2 ^ 63)) (sym at) tt
        go None (Some image) was at = absurd (let h = there-reads mid old 0 (sym plan.reads) (subst IsSome (sym at) refl) in let bad = subst IsSome was h in cc)
        go (Some before) (Some image) was at =
            let clock = if-some (λ i. space_clock_of i ≡ space_clock_of before + space_ticks touched) (changed_of 0 mid) image
            (if-some (λ w. IfSome (changed_of 0 mid) (λ i. space_clock_of i ≡ space_clock_of w + space_ticks touched)) (changed_of 0 old) before plan.clock was) at in
            let low = if-some (λ i. space_clock_of i + 1 < 2 ^ 63) (changed_of 0 old) before clocks.1 was in
            some-if (λ i. space_clock_of i < 2 ^ 63) (changed_of 0 mid) image at (omega (arith, low, clock, space-ticks-le))

    pub clocks-mid : MayTick mid
    clocks-mid = (
      (λ n. elim (cases_eq n 0) [
        | inl z ↦ subst (λ n. (memory_in mid n).clock < 2 ^ 63) (sym z) zero-ticks
        | inr ne ↦ page-ticks n ne
      ]),
      space-clock,
    )

-- clocks that may rise twice may rise once
pub tick-once : (work : List WorkPage) → MayTickTwice work → MayTick work
tick-once work clocks = (λ n. let c = clocks.0 n in omega arith, lower (changed_of 0 work) clocks.1)
  where
    lower : (o : Option (List ℕ)) → IfSome o (λ image. space_clock_of image + 1 < 2 ^ 63) → IfSome o (λ image. space_clock_of image < 2 ^ 63)
    lower None h = tt
    lower (Some image) h = omega (arith, h)
