-- A work set with images of a lawful memory agrees with it.
use Rattle.std.proofs.Common.{◌≡◌, ◌∙◌, ℕ, suc, ◌+◌, ◌-◌, ◌<◌, ◌≤◌, ◌^◌, List, [], ◌∷◌, ◌++◌, length, append_assoc, refl, sym, ap, subst, Option, Some, None, arith}
use Rattle.std.specs.Prelude.{IfSome, IsSome}
use Rattle.ib_map.specs.Keys.{MapKey}
use Rattle.ib_map.specs.declared.TheConstants.{MOST_PAGES}
use Rattle.ib_page.specs.Form.{page_of}
use Rattle.ib_page.specs.Memory.{word_at}
use Rattle.ib_page.specs.Space.{space_clock_of}
use Rattle.ib_page.specs.Work.{WorkPage, changed_of}
use Rattle.ib_walk.specs.Pages.{PageMemory}
use Rattle.ib_walk.specs.Trees.{height_of}
use Rattle.ib_walk.specs.Search.{child_for}
use Rattle.ib_walk.specs.Full.{free_of, chosen}
use Rattle.ib_walk.specs.Words.{state_of, image_of, pages_of, memory_of, bits_of, IsLawfulMemory}
use Rattle.ib_plans.specs.Agreement.{state_or_free, IsThere, Agrees, HasBits, MayTick, bits_in, path_down, path_of}
use Rattle.ib_plan_tests.specs.Reads.{IsImageAt, IsRead}

-- one page more of the way
pub path-step : (m : PageMemory) (key : MapKey) (root i page : ℕ) (path : List ℕ) → i < height_of m root → path_of m key root ≡ path ++ path_down m key (height_of m root - i) page
    → path_of m key root ≡ (path ++ page ∷ []) ++ path_down m key (height_of m root - (i + 1)) (child_for key 0 (m page).records)
path-step m key root i page path lt is =
    let e : height_of m root - i ≡ suc (height_of m root - (i + 1)) = omega arith in
    is ∙ (ap (λ h. path ++ path_down m key h page) e ∙ sym (append_assoc path (page ∷ []) (path_down m key (height_of m root - (i + 1)) (child_for key 0 (m page).records))))

pub path-end : (m : PageMemory) (key : MapKey) (root i page : ℕ) (path : List ℕ) → i ≡ height_of m root → path_of m key root ≡ path ++ path_down m key (height_of m root - i) page → path ++ page ∷ [] ≡ path_of m key root
path-end m key root i page path e is = let zero_left : height_of m root - i ≡ 0 = omega arith in sym (is ∙ ap (λ h. path ++ path_down m key h page) zero_left)

-- the height of a tree, read from its root's image
pub height-read : (memory : List (List ℕ)) (root : ℕ) (image : List ℕ) → image_of (word_at memory) root ≡ image → (state_of (page_of image)).level ≡ height_of (memory_of memory) root
unfolding pages_of
height-read memory root image is = ap (λ ws. (state_of (page_of ws)).level) (sym is)

same-at : (memory : List (List ℕ)) (page : ℕ) (o : Option (List ℕ)) → IsSome o → IfSome o (IsImageAt memory page) → state_or_free o ≡ memory_of memory page
unfolding pages_of
same-at memory page None there at = absurd (cc)
same-at memory page (Some image) there at = ap (λ ws. state_of (page_of ws)) (sym at.is)

bits-at : (memory : List (List ℕ)) (o : Option (List ℕ)) → IsLawfulMemory (length memory) 1 (word_at memory) → IfSome o (IsImageAt memory 0) → IfSome o (HasBits (length memory) (bits_of (length memory) (word_at memory)))
unfolding bits_of
bits-at memory None lawful at = tt
bits-at memory (Some image) lawful at = subst (λ ws. HasBits (length memory) (bits_of (length memory) (word_at memory)) ws) at.is (lawful.space, λ page. refl)

clock-at : (memory : List (List ℕ)) (page : ℕ) (o : Option (List ℕ)) → IfSome o (IsImageAt memory page) → (state_or_free o).clock < 2 ^ 63
clock-at memory page None at = omega arith
clock-at memory page (Some image) at = at.clock

space_clock-at : (memory : List (List ℕ)) (o : Option (List ℕ)) → IfSome o (IsImageAt memory 0) → IfSome o (λ image. space_clock_of image < 2 ^ 63)
space_clock-at memory None at = tt
space_clock-at memory (Some image) at = at.space_clock

image-at : (memory : List (List ℕ)) (o : Option (List ℕ)) → IsSome o → IfSome o (IsImageAt memory 0) → o ≡ Some (image_of (word_at memory) 0)
image-at memory None there at = absurd (cc)
image-at memory (Some image) there at = ap Some (sym at.is)

module _ (memory : List (List ℕ)) (key : MapKey) (path : List ℕ) (work : List WorkPage) (read : IsRead memory key path work) where
  pub agrees-read : length memory ≤ MOST_PAGES → Agrees (length memory) 1 1 key path work (memory_of memory) (bits_of (length memory) (word_at memory))
  agrees-read few = record {
    lawful = read.lawful.law;
    few = omega arith;
    some = omega arith;
    within = omega arith;
    way = read.way;
    same = λ page ne there. same-at memory page (changed_of page work) there (read.read page);
    space = bits-at memory (changed_of 0 work) read.lawful (read.read 0);
  }

  pub may_tick-read : MayTick work
  may_tick-read = (λ page. clock-at memory page (changed_of page work) (read.read page), space_clock-at memory (changed_of 0 work) (read.read 0))

  pub space-read : IsThere work 0 → changed_of 0 work ≡ Some (image_of (word_at memory) 0)
  space-read there = image-at memory (changed_of 0 work) there (read.read 0)

-- the bits of a memory are those of its page 0
pub bits-read : (pages : ℕ) (words : ℕ → ℕ) (need : ℕ) (fresh : List ℕ) → (fresh ≡ chosen (bits_in pages (image_of words 0)) pages need) × (need ≤ free_of (bits_in pages (image_of words 0)) pages)
    → (fresh ≡ chosen (bits_of pages words) pages need) × (need ≤ free_of (bits_of pages words) pages)
unfolding bits_of
bits-read pages words need fresh h = h
