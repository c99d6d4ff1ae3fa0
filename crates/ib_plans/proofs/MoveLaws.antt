-- How the records of a page stand after one move, and after another.
use Rattle.std.proofs.Common.{◌≡◌, ◌≢◌, ◌∙◌, ℕ, List, refl, sym, ap, subst, Option, Some, None}
use Rattle.std.specs.Prelude.{IsSome}
use Rattle.ib_heap.specs.Heap.{Heap, used_offsets, read_heap}
use Rattle.ib_heap.specs.Filled.{filled}
use Rattle.ib_heap.proofs.FilledLaws.{filled-used}
use Rattle.ib_page.specs.Image.{records_of}
use Rattle.ib_walk.proofs.ChoiceLaws.{cond-eq, cond-ne}
use Rattle.ib_plans.specs.Moves.{Move, Stays, Fills, Frees, with_move, IsMovedHeap, HasMoved}

-- the page that moves, and every other one
pub with_move-own : (page : ℕ) (move : Move) (moves : ℕ → Move) (n : ℕ) → n ≡ page → with_move page move moves n ≡ move
with_move-own page move moves n e = cond-eq n page move (moves n) e

pub with_move-other : (page : ℕ) (move : Move) (moves : ℕ → Move) (n : ℕ) → n ≢ page → with_move page move moves n ≡ moves n
with_move-other page move moves n ne = cond-ne n page move (moves n) ne

-- a heap into which so many records were put in order is filled
pub filled-is : (heap : Heap) (n : ℕ) → heap ≡ filled n → heap ≡ filled (used_offsets heap)
filled-is heap n is = is ∙ ap filled (sym (ap used_offsets is ∙ filled-used n))

-- an image that is as it was
pub still : (image : Option (List ℕ)) → HasMoved Stays image image
still None = tt
still (Some image) = refl

-- the same move of equal images
pub moved-alike : (a b : Move) (old was is now : Option (List ℕ)) → a ≡ b → was ≡ old → is ≡ now → HasMoved a old is → HasMoved b was now
moved-alike a b old was is now move before after h =
    subst (λ (mv : Move). HasMoved mv was now) move (subst (λ (o : Option (List ℕ)). HasMoved a o now) (sym before) (subst (λ (o : Option (List ℕ)). HasMoved a old o) after h))

-- an image that is as it was
pub moved-still : (was is : Option (List ℕ)) → is ≡ was → HasMoved Stays was is
moved-still was is same = subst (λ (o : Option (List ℕ)). HasMoved Stays was o) (sym same) (still was)

-- a move of images that are there
pub moved-some : (move : Move) (a b : Option (List ℕ)) (was is : List ℕ) → a ≡ Some was → b ≡ Some is → IsMovedHeap move (records_of was) (read_heap was) (read_heap is) → HasMoved move a b
moved-some move a b was is before after h =
    let P : Option (List ℕ) → Type 0 = λ a. HasMoved move a b in
    let Q : Option (List ℕ) → Type 0 = λ b. HasMoved move (Some was) b in
    subst P (sym before) (subst Q (sym after) h)

-- what a move left stands still
pub then-still : (move : Move) (a b c : Option (List ℕ)) → IsSome b → HasMoved move a b → HasMoved Stays b c → HasMoved move a c
then-still move None b c there first second = tt
then-still move (Some a) None c there first second = absurd (cc)
then-still move (Some a) (Some b) None there first second = tt
then-still move (Some a) (Some b) (Some c) there first second =
    subst (λ h. IsMovedHeap move (records_of a) (read_heap a) h) (sym second) first

-- .. also where a page that is there afterwards was there
pub then-still-was : (move : Move) (a b c : Option (List ℕ)) → (IsSome c → IsSome b) → HasMoved move a b → HasMoved Stays b c → HasMoved move a c
then-still-was move None b c was first second = tt
then-still-was move (Some a) b None was first second = tt
then-still-was move (Some a) b (Some c) was first second = then-still move (Some a) b (Some c) (was refl) first second

-- a page that is filled anew, or freed, is so whatever it was
pub filled-any : (a b c : Option (List ℕ)) → IsSome b → HasMoved Fills b c → HasMoved Fills a c
filled-any None b c there h = tt
filled-any (Some a) None c there h = absurd (cc)
filled-any (Some a) (Some b) None there h = tt
filled-any (Some a) (Some b) (Some c) there h = h

-- an image with so many records one behind the other is filled, whatever the page was
pub filled-now : (a b : Option (List ℕ)) (image : List ℕ) (n : ℕ) → b ≡ Some image → read_heap image ≡ filled n → HasMoved Fills a b
filled-now None b image n is heap = tt
filled-now (Some a) b image n is heap =
    let P : Option (List ℕ) → Type 0 = λ b. HasMoved Fills (Some a) b in
    subst P (sym is) (filled-is (read_heap image) n heap)

pub freed-any : (a b : Option (List ℕ)) → HasMoved Frees a b
freed-any None b = tt
freed-any (Some a) None = tt
freed-any (Some a) (Some b) = tt
