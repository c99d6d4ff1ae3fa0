-- A climbed path and page 0 together are the plan.
use Rattle.std.proofs.Common.{◌≡◌, ◌≢◌, ◌∙◌, ℕ, zero, suc, ◌+◌, ◌<◌, ◌≤◌, ◌^◌, Bool, true, false, cond, List, [], ◌∷◌, length, take, refl, sym, ap, subst, arith, eqb, inl, inr, Option, Some, None}
use Rattle.std.specs.Prelude.{nat_lt, IsSome, IfSome}
use Rattle.std.specs.List.{AllByRecursion}
use Rattle.std.proofs.lemmas.Bool.{cases_eq, cases_lt, cases_Bool, lt-ltb, le-ltb}
use Rattle.ib_page.specs.declared.space.TheConstants.{MAPPED_PAGES}
use Rattle.ib_page.specs.Space.{is_taken, space_clock_of}
use Rattle.ib_page.specs.Work.{WorkPage, changed_of}
use Rattle.ib_walk.specs.Pages.{PageMemory}
use Rattle.ib_walk.specs.Full.{free_pages_from, chosen}
use Rattle.ib_walk.proofs.ChoiceLaws.{cond-ne}
use Rattle.ib_plans.specs.Marks.{with_bit}
use Rattle.ib_plans.specs.Moves.{Move, HasMoved}
use Rattle.ib_plans.specs.Insert.{AreFresh}
use Rattle.ib_plans.specs.Agreement.{IsClimbed, SetsBits, IsThere, state_or_free, reads_of, HasBits, IsPlanned, space_ticks, taken_bits, with_bits}
use Rattle.ib_plans.proofs.EditLaws.{changed_of-same, changed_of-other, reads_of-changed}
use Rattle.ib_split.specs.Inserts.{MayTakePages}
use Rattle.ib_split.proofs.BitLaws.{SameBits, with_bits-same, AreFresh-same}

-- the bits that a memory has are those of the space page
pub HasBits-same : (pages : ℕ) (bits : ℕ → ℕ) (image : List ℕ) → HasBits pages bits image → SameBits bits (taken_bits image)
HasBits-same pages bits image has page lt = elim (cases_lt page pages) [
  | inl below ↦ has.1 page ∙ ap (λ b. cond b (taken_bits image page) 0) (lt-ltb page pages below)
  | inr beyond ↦ has.1 page ∙ (ap (λ b. cond b (taken_bits image page) 0) (le-ltb page pages beyond) ∙ sym (ap (λ b. cond b 1 0) (has.0.beyond page beyond lt)))
]

-- a front of fresh pages is fresh
pub AreFresh-take : (n : ℕ) (xs : List ℕ) (bits : ℕ → ℕ) → AreFresh bits xs → AreFresh bits (take n xs)
AreFresh-take zero xs bits free = tt
AreFresh-take (suc n) [] bits free = tt
AreFresh-take (suc n) (x ∷ xs) bits free = (free.0, free.1, AreFresh-take n xs (with_bit x 1 bits) free.2)

-- the pages that are chosen are pages of the space
free_pages_from-below : (bits : ℕ → ℕ) (start n k : ℕ) → AllByRecursion (λ q. q < start + n) (take k (free_pages_from bits start n))
free_pages_from-below bits start n zero = tt
free_pages_from-below bits start zero (suc k) = tt
free_pages_from-below bits start (suc n) (suc k) = elim (cases_Bool (eqb (bits start) 0)) [
  | inl free ↦
      let e : start + 1 + n ≡ start + suc n = omega arith in
      let more = subst (λ h. AllByRecursion (λ q. q < h) (take k (free_pages_from bits (start + 1) n))) e (free_pages_from-below bits (start + 1) n k) in
      subst (λ b. AllByRecursion (λ q. q < start + suc n) (take (suc k) (cond b (start ∷ free_pages_from bits (start + 1) n) (free_pages_from bits (start + 1) n)))) (sym free) (omega arith, more)
  | inr taken ↦
      let e : start + 1 + n ≡ start + suc n = omega arith in
      let more = subst (λ h. AllByRecursion (λ q. q < h) (take (suc k) (free_pages_from bits (start + 1) n))) e (free_pages_from-below bits (start + 1) n (suc k)) in
      subst (λ b. AllByRecursion (λ q. q < start + suc n) (take (suc k) (cond b (start ∷ free_pages_from bits (start + 1) n) (free_pages_from bits (start + 1) n)))) (sym taken) more
]

below-take : (pages n : ℕ) (xs : List ℕ) → AllByRecursion (λ q. q < pages) xs → AllByRecursion (λ q. q < pages) (take n xs)
below-take pages zero xs h = tt
below-take pages (suc n) [] h = tt
below-take pages (suc n) (x ∷ xs) h = (h.0, below-take pages n xs h.1)

pub chosen-below : (bits : ℕ → ℕ) (pages need used : ℕ) → AllByRecursion (λ q. q < pages) (take used (chosen bits pages need))
chosen-below bits pages need used = let e : 0 + pages ≡ pages = omega arith in
    below-take pages used (chosen bits pages need) (subst (λ h. AllByRecursion (λ q. q < h) (chosen bits pages need)) e (free_pages_from-below bits 0 pages need))

-- pages that are taken leave the bit of a page beyond the space
with_bits-beyond : (pages : ℕ) (xs : List ℕ) (bits : ℕ → ℕ) (n : ℕ) → AllByRecursion (λ q. q < pages) xs → pages ≤ n → with_bits xs 1 bits n ≡ bits n
with_bits-beyond pages [] bits n below le = refl
with_bits-beyond pages (x ∷ xs) bits n below le =
    let b = below.0 in with_bits-beyond pages xs (with_bit x 1 bits) n below.1 le ∙ cond-ne {X = ℕ} n x 1 (bits n) (λ e. omega arith)

pub if-some : (P : List ℕ → Type 0) (o : Option (List ℕ)) (image : List ℕ) → IfSome o P → o ≡ Some image → P image
if-some P o image holds is = let Q : Option (List ℕ) → Type 0 = λ q. IfSome q P in subst Q is holds

some-if : (P : List ℕ → Type 0) (o : Option (List ℕ)) (image : List ℕ) → o ≡ Some image → P image → IfSome o P
some-if P o image is holds = let Q : Option (List ℕ) → Type 0 = λ q. IfSome q P in subst Q (sym is) holds

module _ (pages : ℕ) (few : pages ≤ MAPPED_PAGES) (used : List ℕ) (m planned : PageMemory) (bits after : ℕ → ℕ) (touched : ℕ → Bool) (moves : ℕ → Move) (old mid : List WorkPage)
    (climbed : IsClimbed 1 used m planned after bits touched moves old mid) (space : IfSome (changed_of 0 old) (HasBits pages bits)) (below : AllByRecursion (λ q. q < pages) used) where
  -- no page was taken: page 0 is as it was
  module _ (none : length used ≡ 0) where
    off : touched 0 ≡ false
    off = climbed.zero ∙ (ap (nat_lt 0) none ∙ refl)

    nothing : (xs : List ℕ) → length xs ≡ 0 → xs ≡ []
    nothing [] e = refl
    nothing (x ∷ xs) e = absurd (omega arith)

    same-bits : (n : ℕ) → after n ≡ bits n
    same-bits n = climbed.bits_are n ∙ ap (λ xs. with_bits xs 1 bits n) (nothing used none)

    pub planned-alone : IsPlanned pages m planned after touched moves old mid
    planned-alone = record {
      reads = climbed.reads;
      there = λ n on. elim (cases_eq n 0) [
        | inl e ↦ absurd (let z : touched 0 ≡ true = ap touched (sym e) ∙ on in let o = off in cc)
        | inr ne ↦ climbed.there n ne on
      ];
      same = climbed.same;
      moved = climbed.moved;
      kept = λ n free. elim (cases_eq n 0) [
        | inl e ↦ subst (λ q. changed_of q mid ≡ changed_of q old) (sym e) climbed.space
        | inr ne ↦ climbed.kept n ne free
      ];
      space = still (changed_of 0 mid) (changed_of 0 old) climbed.space space;
      clock = kept (changed_of 0 mid) (changed_of 0 old) climbed.space;
    }
      where
        still : (a b : Option (List ℕ)) → a ≡ b → IfSome b (HasBits pages bits) → IfSome a (HasBits pages after)
        still None b e h = tt
        still (Some image) b e h = let h' = if-some (HasBits pages bits) b image h (sym e) in (h'.0, λ n. same-bits n ∙ h'.1 n)

        kept : (a b : Option (List ℕ)) → a ≡ b → IfSome b (λ was. IfSome a (λ image. space_clock_of image ≡ space_clock_of was + space_ticks touched))
        kept a None e = tt
        kept a (Some was) e = some-if (λ image. space_clock_of image ≡ space_clock_of was + space_ticks touched) a was e
            (let t : space_ticks touched ≡ 0 = ap (λ b. cond {A = ℕ} b 1 0) off in omega arith)

  -- pages were taken: they may be, and page 0 has them then
  module _ (some : 0 < length used) where
    on-zero : touched 0 ≡ true
    on-zero = climbed.zero ∙ lt-ltb 0 (length used) some

    pub may-take : IsThere old 0 → AreFresh bits used → IfSome (changed_of 0 old) (λ image. space_clock_of image < 2 ^ 63) → MayTakePages used mid
    may-take there free clock = record {
      there = subst IsSome (sym climbed.space) there;
      free = fresh (changed_of 0 mid) (changed_of 0 old) climbed.space space;
      clock = subst (λ (o : Option (List ℕ)). IfSome o (λ image. space_clock_of image < 2 ^ 63)) (sym climbed.space) clock;
    }
      where
        fresh : (a b : Option (List ℕ)) → a ≡ b → IfSome b (HasBits pages bits) → IfSome a (λ image. AreFresh (taken_bits image) used)
        fresh None b e h = tt
        fresh (Some image) b e h = AreFresh-same used bits (taken_bits image) (HasBits-same pages bits image (if-some (HasBits pages bits) b image h (sym e))) free

    module _ (new : List WorkPage) (takes : SetsBits 1 used mid new) where
      mid-there : IsThere mid 0
      mid-there = subst IsSome (sym takes.before) refl

      had : HasBits pages bits takes.was
      had = if-some (HasBits pages bits) (changed_of 0 old) takes.was space (sym climbed.space ∙ takes.before)

      image-now : changed_of 0 new ≡ Some takes.image
      image-now = ap (changed_of 0) takes.work ∙ changed_of-same 0 takes.image mid mid-there

      other-now : (n : ℕ) → n ≢ 0 → changed_of n new ≡ changed_of n mid
      other-now n ne = ap (changed_of n) takes.work ∙ changed_of-other 0 n takes.image mid (λ e. ne (sym e))

      bit-is : (n : ℕ) → n < MAPPED_PAGES → taken_bits takes.image n ≡ with_bits used 1 bits n
      bit-is n lt = takes.bits n lt ∙ sym (with_bits-same used bits (taken_bits takes.was) (HasBits-same pages bits takes.was had) n lt)

      beyond : (n : ℕ) → pages ≤ n → with_bits used 1 bits n ≡ 0
      beyond n le = with_bits-beyond pages used bits n below le ∙ (had.1 n ∙ ap (λ b. cond b (taken_bits takes.was n) 0) (le-ltb n pages le))

      has-now : HasBits pages after takes.image
      has-now = (
        record {
          size = takes.size ∙ had.0.size;
          beyond = λ n le lt. bit-off (is_taken takes.image n) (bit-is n lt ∙ beyond n le);
          behind = λ i lt. takes.behind i lt ∙ had.0.behind i lt;
        },
        λ n. climbed.bits_are n ∙ elim (cases_lt n pages) [
          | inl lt ↦ sym (ap (λ b. cond b (taken_bits takes.image n) 0) (lt-ltb n pages lt) ∙ bit-is n (omega arith))
          | inr ge ↦ beyond n ge ∙ sym (ap (λ b. cond b (taken_bits takes.image n) 0) (le-ltb n pages ge))
        ],
      )
        where
          bit-off : (b : Bool) → cond {A = ℕ} b 1 0 ≡ 0 → b ≡ false
          bit-off true e = absurd (omega arith)
          bit-off false e = refl

      pub planned-taken : IsPlanned pages m planned after touched moves old new
      planned-taken = record {
        reads = ap reads_of takes.work ∙ (reads_of-changed 0 takes.image mid ∙ climbed.reads);
        there = λ n on. elim (cases_eq n 0) [
          | inl e ↦ subst (IsThere new) (sym e) (subst IsSome (sym image-now) refl)
          | inr ne ↦ subst IsSome (sym (other-now n ne)) (climbed.there n ne on)
        ];
        same = λ n ne there. ap state_or_free (other-now n ne) ∙ climbed.same n ne (subst IsSome (other-now n ne) there);
        moved = λ n ne. subst (λ (o : Option (List ℕ)). HasMoved (moves n) (changed_of n old) o) (sym (other-now n ne)) (climbed.moved n ne);
        kept = λ n free. elim (cases_eq n 0) [
          | inl e ↦ absurd (let on = ap touched e ∙ on-zero in cc)
          | inr ne ↦ other-now n ne ∙ climbed.kept n ne free
        ];
        space = some-if (HasBits pages after) (changed_of 0 new) takes.image image-now has-now;
        clock = some-if (λ was. IfSome (changed_of 0 new) (λ image. space_clock_of image ≡ space_clock_of was + space_ticks touched)) (changed_of 0 old) takes.was (sym climbed.space ∙ takes.before)
            (some-if (λ image. space_clock_of image ≡ space_clock_of takes.was + space_ticks touched) (changed_of 0 new) takes.image image-now
            (let t : space_ticks touched ≡ 1 = ap (λ b. cond {A = ℕ} b 1 0) on-zero in let c = takes.clock in omega arith));
      }
