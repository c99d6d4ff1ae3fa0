-- The lowest free pages, as many as are needed.
use Rattle.std.proofs.Common.{◌≡◌, ℕ, ◌<◌, ◌≤◌, List, length, true, false, refl, subst, inl, inr, arith, Ok, Err, Option, Some}
use Rattle.std.specs.Prelude.{IfOk, Result}
use Rattle.std.proofs.lemmas.Bool.{cases_eq, eq-eqb}
use Rattle.ib_map.specs.Keys.{MapKey}
use Rattle.ib_heap.specs.declared.TheConstants.{MOST_LEVEL}
use Rattle.ib_page.specs.Memory.{word_at}
use Rattle.ib_page.specs.Work.{changed_of}
use Rattle.ib_walk.specs.Pages.{PageMemory}
use Rattle.ib_walk.specs.Trees.{height_of, most_height}
use Rattle.ib_walk.specs.Full.{need_of, is_root_full, is_too_high, free_of, chosen}
use Rattle.ib_walk.specs.Words.{bits_of, memory_of, image_of}
use Rattle.ib_plans.specs.declared.fault.TreeFault.{TreeFault}
use Rattle.ib_plans.specs.Agreement.{bits_in}
use Rattle.ib_split.specs.Inserts.{HasFresh}
use Rattle.ib_plan_tests.proofs.Agreeing.{agrees-read, space-read, bits-read}
use Rattle.ib_plan_tests.proofs.changes.choose_fresh.Goals as goal

-- a root that is full, where the insert is not too high, is below the highest level
low : (m : PageMemory) (key : MapKey) → is_too_high 1 m key 1 ≡ false → height_of m 1 ≤ MOST_LEVEL → is_root_full m key 1 ≡ true → height_of m 1 < most_height 1
low m key fits most full = elim (cases_eq (height_of m 1) MOST_LEVEL) [
  | inl e ↦ let top = eq-eqb (height_of m 1) MOST_LEVEL e in absurd (let is : is_too_high 1 m key 1 ≡ true = rw (full, top) refl in cc)
  | inr ne ↦ omega arith
]

fresh-of : (pages : ℕ) (key : MapKey) (m : PageMemory) (words : ℕ → ℕ) (o : Option (List ℕ)) (need : ℕ) (result : Result (List ℕ) TreeFault) → height_of m 1 ≤ MOST_LEVEL
    → o ≡ Some (image_of words 0) → (is_too_high 1 m key 1 ≡ false) × (need ≡ need_of m key 1)
    → IfOk result (λ fresh. (image : List ℕ) → o ≡ Some image → (fresh ≡ chosen (bits_in pages image) pages need) × (need ≤ free_of (bits_in pages image) pages))
    → IfOk result (λ fresh. HasFresh pages 1 1 key fresh m (bits_of pages words))
fresh-of pages key m words o need (Ok fresh) most space given chosen_is =
    let h = subst (λ n. (fresh ≡ chosen (bits_of pages words) pages n) × (n ≤ free_of (bits_of pages words) pages)) given.1 (bits-read pages words need fresh (chosen_is (image_of words 0) space)) in
    record { chosen_are = h.0; enough = h.1; low = low m key given.0 most }
fresh-of pages key m words o need (Err fault) most space given chosen_is = tt

pub returns : goal.returns
returns g c =
    let memory = c.args.memory.now in
    let m = memory_of memory in
    let words = word_at memory in
    let read = c.requires.read in
    let agrees = agrees-read memory c.args.key c.args.path.now c.args.work.now read c.requires.most in
    let most = (read.lawful.law.trees 1 (omega arith) (omega arith)).1 in
    fresh-of (length memory) c.args.key m words (changed_of 0 c.args.work.now) c.in_ok-need.need c.choose_pages.result (omega arith)
    (space-read memory c.args.key c.args.path.now c.args.work.now read c.check_path.ensures.space)
    (c.in_ok-need.ensures.needed (length memory) 1 c.args.key m (bits_of (length memory) words) agrees) c.choose_pages.ensures.chosen
