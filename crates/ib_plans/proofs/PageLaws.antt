-- Pages that a change touches, bits that it turns, and limits of records that it keeps.
use Rattle.std.proofs.Common.{◌≡◌, ◌≢◌, ℕ, ◌≤◌, ◌⊎◌, inl, inr, Bool, true, false, cond, length, refl, sym, ◌∙◌, arith, eqb}
use Rattle.std.proofs.lemmas.Bool.{cases_eq}
use Rattle.ib_heap.specs.declared.TheConstants.{MOST_RECORDS}
use Rattle.ib_walk.specs.Pages.{PageState, PageMemory, IsSound}
use Rattle.ib_walk.specs.Walk.{Visit}
use Rattle.ib_walk.specs.Trees.{IsLawfulUpTo}
use Rattle.ib_walk.proofs.ChoiceLaws.{cond-eq, cond-ne}
use Rattle.ib_plans.specs.Marks.{mark, with_bit}
use Rattle.ib_plans.specs.Merge.{freed_page}

-- a page that is not touched after one more was marked is not that one, and was not touched
pub mark-off : (page : ℕ) (touched : ℕ → Bool) (n : ℕ) → mark page touched n ≡ false → (n ≢ page) × (touched n ≡ false)
mark-off page touched n e =
    elim (cases_eq n page) [
      | inl s ↦ absurd (let x = cond-eq n page true (touched n) s in let y = sym x ∙ e in cc)
      | inr ne ↦ (ne, sym (cond-ne n page true (touched n) ne) ∙ e)
    ]

-- the marked page is touched, and so is each that was
pub mark-own : (page : ℕ) (touched : ℕ → Bool) (n : ℕ) → n ≡ page → mark page touched n ≡ true
mark-own page touched n e = cond-eq n page true (touched n) e

pub mark-on : (page : ℕ) (touched : ℕ → Bool) (n : ℕ) → touched n ≡ true → mark page touched n ≡ true
mark-on page touched n e = elim (eqb n page) as (λ b. cond b true (touched n) ≡ true) [ true ↦ refl | false ↦ e ]

-- weighs nothing on touched pages
abbrev pub IsAway : (ℕ → Bool) → (ℕ → Visit → ℕ) → Type 0
IsAway touched f = (h : ℕ) (v : Visit) → touched v.page ≡ true → f h v ≡ 0

-- what weighs nothing on the touched pages and one more weighs nothing on that one, and nothing on those
pub IsAway-own : (page : ℕ) (touched : ℕ → Bool) (f : ℕ → Visit → ℕ) → IsAway (mark page touched) f → (h : ℕ) (v : Visit) → v.page ≡ page → f h v ≡ 0
IsAway-own page touched f away h v e = away h v (mark-own page touched v.page e)

pub IsAway-on : (page : ℕ) (touched : ℕ → Bool) (f : ℕ → Visit → ℕ) → IsAway (mark page touched) f → IsAway touched f
IsAway-on page touched f away h v e = away h v (mark-on page touched v.page e)

-- the bit of a page that was turned, and of each other page
pub with_bit-own : (page bit : ℕ) (bits : ℕ → ℕ) → with_bit page bit bits page ≡ bit
with_bit-own page bit bits = cond-eq page page bit (bits page) refl

pub with_bit-other : (page bit : ℕ) (bits : ℕ → ℕ) (n : ℕ) → n ≢ page → with_bit page bit bits n ≡ bits n
with_bit-other page bit bits n ne = cond-ne n page bit (bits n) ne

-- lawful trees are lawful under each limit that no page exceeds
pub IsLawfulUpTo-narrow : (most now : ℕ → ℕ) (m : PageMemory) (bits : ℕ → ℕ) (roots : ℕ) → IsLawfulUpTo most m bits roots → ((n : ℕ) → most n ≤ now n ⊎ length (m n).records ≤ now n)
    → IsLawfulUpTo now m bits roots
IsLawfulUpTo-narrow most now m bits roots law so = record {
  sound = λ n ne. let s = law.sound n ne in record {
    formed = s.formed;
    ascends = s.ascends;
    low = s.low;
    prev = s.prev;
    next = s.next;
    node = s.node;
    short = elim (so n) [ inl a ↦ let x = s.short in omega arith | inr b ↦ b ];
  };
  trees = law.trees;
  met = law.met;
  bit = law.bit;
  few = law.few;
  unmet = law.unmet;
}

-- a freed page is sound
pub IsSound-freed : (page : PageState) → IsSound MOST_RECORDS (freed_page page)
IsSound-freed page = record {
  formed = λ e. cc;
  ascends = omega arith;
  short = omega arith;
  low = omega arith;
  prev = omega arith;
  next = omega arith;
  node = λ up. absurd (omega arith);
}
