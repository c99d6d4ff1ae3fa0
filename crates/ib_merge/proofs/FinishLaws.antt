-- Page 0 at the end of a delete: where pages were freed, it gives their bits back.
use Rattle.std.proofs.Common.{◌≡◌, ◌≢◌, ◌∙◌, ℕ, zero, suc, ◌+◌, ◌<◌, ◌≤◌, ◌^◌, List, [], ◌∷◌, ◌⊎◌, length, refl, sym, ap, subst, inl, inr, true, false, cond, arith, eqb, ltb, Option, Some, None}
use Rattle.std.specs.Prelude.{IsSome, IfSome, ◌&&◌, slice_index}
use Rattle.std.proofs.lemmas.Bool.{cases_eq, cases_lt, cases_Bool, lt-ltb, le-ltb}
use Rattle.ib_map.specs.Keys.{MapKey}
use Rattle.ib_map.specs.Pairs.{without}
use Rattle.ib_page.specs.declared.space.TheConstants.{MAPPED_PAGES}
use Rattle.ib_page.specs.Space.{is_taken, space_clock_of}
use Rattle.ib_page.specs.Work.{WorkPage, changed_of}
use Rattle.ib_walk.specs.Pages.{PageState, PageMemory}
use Rattle.ib_walk.specs.Trees.{height_of}
use Rattle.ib_walk.proofs.ChoiceLaws.{cond-eq}
use Rattle.ib_plans.specs.Delete.{Shrinkage, delete_below, drop_at, lift_single, lifted, planned_delete}
use Rattle.ib_plans.specs.Marks.{untouched}
use Rattle.ib_plans.specs.Moves.{HasMoved}
use Rattle.ib_plans.specs.Merge.{first_child}
use Rattle.ib_plans.specs.Split.{with_records}
use Rattle.ib_plans.specs.Agreement.{IsClimbed, SetsBits, IsThere, state_or_free, memory_in, reads_of, Agrees, IsPlanned, HasBits, bits_in, taken_bits, with_bits, space_ticks}
use Rattle.ib_plans.proofs.EditLaws.{changed_of-same, changed_of-other, reads_of-changed}
use Rattle.ib_merge.specs.Deletes.{CanDelete, IsDeleteClimbed, IsDeleteClimbedForAll, MayGivePages, AreTaken}
use Rattle.ib_merge.proofs.AtLaws.{mark-skip}
use Rattle.ib_merge.proofs.ClimbLaws.{length-path}
use Rattle.ib_merge.proofs.GiveLaws.{AreTaken-more, with_bits-clear}
use Rattle.ib_merge.proofs.OnPathLaws.{there-reads}

-- an image that is there
pub if-some : (o : Option (List ℕ)) (P : List ℕ → Type 0) (image : List ℕ) → o ≡ Some image → IfSome o P → P image
if-some o P image is holds = let Q : Option (List ℕ) → Type 0 = λ q. IfSome q P in subst Q is holds

pub some-if : (o : Option (List ℕ)) (P : List ℕ → Type 0) → ((image : List ℕ) → o ≡ Some image → P image) → IfSome o P
some-if None P h = tt
some-if (Some image) P h = h image refl

is-some : (o : Option (List ℕ)) (image : List ℕ) → o ≡ Some image → IsSome o
is-some o image e = subst IsSome (sym e) refl

-- one bit of pages given back is a matter of that bit alone
with_bits-at : (xs : List ℕ) (a b : ℕ → ℕ) (page : ℕ) → a page ≡ b page → with_bits xs 0 a page ≡ with_bits xs 0 b page
with_bits-at [] a b page same = same
with_bits-at (x ∷ xs) a b page same = with_bits-at xs _ _ page (ap (λ n. cond (eqb page x) 0 n) same)

bits_in-below : (pages : ℕ) (image : List ℕ) (page : ℕ) → page < pages → bits_in pages image page ≡ taken_bits image page
bits_in-below pages image page lt = let below = lt-ltb page pages lt in rw below refl

bits_in-beyond : (pages : ℕ) (image : List ℕ) (page : ℕ) → pages ≤ page → bits_in pages image page ≡ 0
bits_in-beyond pages image page le = let beyond = le-ltb page pages le in rw beyond refl

taken-clear : (image : List ℕ) (page : ℕ) → taken_bits image page ≡ 0 → is_taken image page ≡ false
taken-clear image page z = elim (cases_Bool (is_taken image page)) [
  | inl set ↦ let one : taken_bits image page ≡ 1 = rw set refl in absurd (omega arith)
  | inr clear ↦ clear
]

clear-taken : (image : List ℕ) (page : ℕ) → is_taken image page ≡ false → taken_bits image page ≡ 0
clear-taken image page clear = rw clear refl

-- bits that are set in the space are set in page 0
in-taken : (pages : ℕ) (image : List ℕ) (page : ℕ) → bits_in pages image page ≢ 0 → taken_bits image page ≢ 0
in-taken pages image page some z = elim (cases_lt page pages) [
  | inl lt ↦ some (bits_in-below pages image page lt ∙ z)
  | inr le ↦ some (bits_in-beyond pages image page le)
]

-- the space page after some pages were given back
HasBits-given : (pages : ℕ) (bits after : ℕ → ℕ) (freed : List ℕ) (was image : List ℕ) → pages ≤ MAPPED_PAGES → HasBits pages bits was → ((page : ℕ) → after page ≡ with_bits freed 0 bits page)
    → length image ≡ length was → ((page : ℕ) → page < MAPPED_PAGES → taken_bits image page ≡ with_bits freed 0 (taken_bits was) page) → ((i : ℕ) → 64 < i → slice_index image i ≡ slice_index was i)
    → HasBits pages after image
HasBits-given pages bits after freed was image few h is size given behind = (
  record {
    size = size ∙ h.0.size;
    beyond = λ page le lt. taken-clear image page (given page lt ∙ with_bits-clear freed (taken_bits was) page (clear-taken was page (h.0.beyond page le lt)));
    behind = λ i lt. behind i lt ∙ h.0.behind i lt;
  },
  λ page. elim (cases_lt page pages) [
    | inl lt ↦ is page ∙ (with_bits-at freed bits (taken_bits was) page (h.1 page ∙ bits_in-below pages was page lt) ∙ (sym (given page (omega arith)) ∙ sym (bits_in-below pages image page lt)))
    | inr le ↦ is page ∙ (with_bits-clear freed bits page (h.1 page ∙ bits_in-beyond pages was page le) ∙ sym (bits_in-beyond pages image page le))
  ],
)

-- a tree that is one leaf gives no page back
leaf-frees_none : (m : PageMemory) (bits : ℕ → ℕ) (key : MapKey) (root height : ℕ) → root ≢ 0 → (m root).level ≡ height → height ≡ 0 → (lift_single root (delete_below m bits key height root)).touched 0 ≡ false
leaf-frees_none m bits key root (suc height) some level z = absurd (omega arith)
leaf-frees_none m bits key root zero some level z =
    let dropped = cond-eq root root (with_records (without key (m root).records) (m root)) (m root) refl in
    let low : (drop_at m root key root).level ≡ 0 = ap (λ (p : PageState). p.level) dropped ∙ level in
    let off : (true && (ltb 0 (drop_at m root key root).level && eqb (length (drop_at m root key root).records) 1)) ≡ false =
    ap (λ l. true && (ltb 0 l && eqb (length (drop_at m root key root).records) 1)) low in
    ap (λ b. (cond b (lifted (delete_below m bits key 0 root) root (first_child (drop_at m root key root).records)) (delete_below m bits key 0 root)).touched 0) off
    ∙ mark-skip root untouched 0 (λ e. some (sym e))

module _ (path : List ℕ) (key : MapKey) (old : List WorkPage) (can : CanDelete path key old) (freed : List ℕ) (mid : List WorkPage) (climbed : IsDeleteClimbedForAll path key freed old mid) where
  -- for the one memory
  all : IsDeleteClimbed freed can.memory (planned_delete can.memory can.bits key can.root).memory (planned_delete can.memory can.bits key can.root).bits can.bits (planned_delete can.memory can.bits key can.root).touched (planned_delete can.memory can.bits key can.root).moves old mid
  all = climbed can.pages can.roots can.root can.memory can.bits can.agrees

  c : IsClimbed 0 freed can.memory (planned_delete can.memory can.bits key can.root).memory (planned_delete can.memory can.bits key can.root).bits can.bits (planned_delete can.memory can.bits key can.root).touched (planned_delete can.memory can.bits key can.root).moves old mid
  c = all.climbed

  deep : freed ≢ [] → 1 < length path
  deep some = elim (cases_lt 1 (length path)) [
    | inl lt ↦ lt
    | inr le ↦
        let l = length-path can.pages can.roots can.root key path old can.memory can.bits can.agrees in
        let none = leaf-frees_none can.memory can.bits key can.root (height_of can.memory can.root) (λ z. let p = can.agrees.some in omega arith) refl (omega arith) in
        absurd (some (no-length freed (sym c.zero ∙ none)))
  ]
    where
      no-length : (xs : List ℕ) → ltb 0 (length xs) ≡ false → xs ≡ []
      no-length [] e = refl
      no-length (x ∷ xs) e = absurd (let on = lt-ltb 0 (suc (length xs)) (omega arith) in cc)

  pub may-give : freed ≢ [] → MayGivePages freed mid
  may-give some = record {
    there = there-reads old mid 0 c.reads (can.images.space_there (deep some));
    taken = subst (λ (o : Option (List ℕ)). IfSome o (λ image. AreTaken (taken_bits image) freed)) (sym c.space)
        (some-if (changed_of 0 old) (λ image. AreTaken (taken_bits image) freed) (λ image is.
        let h = if-some (changed_of 0 old) (HasBits can.pages can.bits) image is can.agrees.space in
        AreTaken-more freed can.bits (taken_bits image) (λ page lt set. in-taken can.pages image page (λ z. set (h.1 page ∙ z))) all.taken));
    clock = subst (λ (o : Option (List ℕ)). IfSome o (λ image. space_clock_of image < 2 ^ 63)) (sym c.space) can.clocks.1;
  }

  module _ (new : List WorkPage) (none : freed ≡ [] → new ≡ mid) (given : freed ≢ [] → SetsBits 0 freed mid new) where
    empty-or : (freed ≡ []) ⊎ (freed ≢ [])
    empty-or = by freed
      where
        by : (xs : List ℕ) → (xs ≡ []) ⊎ (xs ≢ [])
        by [] = inl refl
        by (x ∷ xs) = inr (λ e. cc)

    pub given-reads : reads_of new ≡ reads_of old
    given-reads = elim empty-or [
      | inl e ↦ ap reads_of (none e) ∙ c.reads
      | inr some ↦ let g = given some in ap reads_of g.work ∙ (reads_of-changed 0 g.image mid ∙ c.reads)
    ]

    module _ (pages roots root : ℕ) (m : PageMemory) (bits : ℕ → ℕ) (a : Agrees pages roots root key path old m bits) where
      abbrev u : Shrinkage
      u = planned_delete m bits key root

      k : IsClimbed 0 freed m u.memory u.bits bits u.touched u.moves old mid
      k = (climbed pages roots root m bits a).climbed

      planned-none : freed ≡ [] → IsPlanned pages m u.memory u.bits u.touched u.moves old new
      planned-none e =
          let off : u.touched 0 ≡ false = k.zero ∙ ap (λ (xs : List ℕ). ltb 0 (length xs)) e in
          let same : changed_of 0 new ≡ changed_of 0 old = ap (changed_of 0) (none e) ∙ k.space in
          let ticks : space_ticks u.touched ≡ 0 = ap (λ b. cond {A = ℕ} b 1 0) off in
          record {
            reads = ap reads_of (none e) ∙ k.reads;
            there = λ n on. subst (λ ws. IsThere ws n) (sym (none e)) (k.there n (λ z. let x = ap u.touched z in cc) on);
            same = λ n nz h. ap (λ ws. memory_in ws n) (none e) ∙ k.same n nz (subst (λ ws. IsThere ws n) (none e) h);
            moved = λ n nz. subst (λ ws. HasMoved (u.moves n) (changed_of n old) (changed_of n ws)) (sym (none e)) (k.moved n nz);
            kept = λ n free. elim (cases_eq n 0) [
              | inl z ↦ subst (λ q. changed_of q new ≡ changed_of q old) (sym z) same
              | inr nz ↦ ap (changed_of n) (none e) ∙ k.kept n nz free
            ];
            space = subst (λ (o : Option (List ℕ)). IfSome o (HasBits pages u.bits)) (sym same)
                (some-if (changed_of 0 old) (HasBits pages u.bits) (λ image is.
                let h = if-some (changed_of 0 old) (HasBits pages bits) image is a.space in
                (h.0, λ n. k.bits_are n ∙ (ap (λ (xs : List ℕ). with_bits xs 0 bits n) e ∙ h.1 n))));
            clock = some-if (changed_of 0 old) _ (λ was is. subst (λ (o : Option (List ℕ)). IfSome o (λ image. space_clock_of image ≡ space_clock_of was + space_ticks u.touched)) (sym (same ∙ is))
                (let r : space_clock_of was ≡ space_clock_of was + space_ticks u.touched = omega arith in r));
          }

      planned-some : freed ≢ [] → IsPlanned pages m u.memory u.bits u.touched u.moves old new
      planned-some some =
          let g = given some in
          let here : changed_of 0 new ≡ Some g.image = ap (changed_of 0) g.work ∙ changed_of-same 0 g.image mid (is-some (changed_of 0 mid) g.was g.before) in
          let other : (n : ℕ) → n ≢ 0 → changed_of n new ≡ changed_of n mid = (λ n nz. ap (changed_of n) g.work ∙ changed_of-other 0 n g.image mid (λ z. nz (sym z))) in
          let before : changed_of 0 old ≡ Some g.was = sym k.space ∙ g.before in
          let on : u.touched 0 ≡ true = k.zero ∙ long freed some in
          let ticks : space_ticks u.touched ≡ 1 = ap (λ b. cond {A = ℕ} b 1 0) on in
          record {
            reads = ap reads_of g.work ∙ (reads_of-changed 0 g.image mid ∙ k.reads);
            there = λ n t. elim (cases_eq n 0) [
              | inl z ↦ subst (IsThere new) (sym z) (is-some (changed_of 0 new) g.image here)
              | inr nz ↦ subst IsSome (sym (other n nz)) (k.there n nz t)
            ];
            same = λ n nz h. ap state_or_free (other n nz) ∙ k.same n nz (subst IsSome (other n nz) h);
            moved = λ n nz. subst (λ (o : Option (List ℕ)). HasMoved (u.moves n) (changed_of n old) o) (sym (other n nz)) (k.moved n nz);
            kept = λ n free. elim (cases_eq n 0) [
              | inl z ↦ absurd (let set = ap u.touched z ∙ on in cc)
              | inr nz ↦ other n nz ∙ k.kept n nz free
            ];
            space = subst (λ (o : Option (List ℕ)). IfSome o (HasBits pages u.bits)) (sym here)
                (HasBits-given pages bits u.bits freed g.was g.image a.few (if-some (changed_of 0 old) (HasBits pages bits) g.was before a.space) k.bits_are g.size g.bits g.behind);
            clock = subst (λ (o : Option (List ℕ)). IfSome o (λ was. IfSome (changed_of 0 new) (λ image. space_clock_of image ≡ space_clock_of was + space_ticks u.touched))) (sym before)
                (subst (λ (o : Option (List ℕ)). IfSome o (λ image. space_clock_of image ≡ space_clock_of g.was + space_ticks u.touched)) (sym here)
                (let x = g.clock in let r : space_clock_of g.image ≡ space_clock_of g.was + space_ticks u.touched = omega arith in r));
          }
        where
          long : (xs : List ℕ) → xs ≢ [] → ltb 0 (length xs) ≡ true
          long [] some = absurd (some refl)
          long (x ∷ xs) some = lt-ltb 0 (suc (length xs)) (omega arith)

      pub planned-all : IsPlanned pages m u.memory u.bits u.touched u.moves old new
      planned-all = elim empty-or [ inl e ↦ planned-none e | inr some ↦ planned-some some ]
