-- A work set after the changed image of one of its pages was set.
use Rattle.std.proofs.Common.{◌≡◌, ◌≢◌, ◌∙◌, ℕ, cond, List, [], ◌∷◌, refl, sym, ap, subst, inl, inr, Option, Some, None, eqb}
use Rattle.std.specs.Prelude.{IsSome, IsSomeAnd}
use Rattle.std.proofs.lemmas.Bool.{cases_eq, eq-eqb, ne_eqb}
use Rattle.ib_page.specs.Form.{page_of}
use Rattle.ib_page.specs.Page.{PageValue, HoldsTree, page_in}
use Rattle.ib_page.specs.Page.PageValue.{Malformed, Free, Tree}
use Rattle.ib_page.specs.Image.{IsFormed, IsTreePage, clock_of, next_of}
use Rattle.ib_page.specs.Work.{WorkPage, changed_of, with_changed}
use Rattle.ib_walk.specs.Pages.{PageState, Tree as TreeState}
use Rattle.ib_walk.specs.Words.{state_of}
use Rattle.ib_plans.specs.Agreement.{IsThere, state_or_free, memory_in, reads_of, Sets}

-- the page has that image, where it is there
pub changed_of-same : (page : ℕ) (image : List ℕ) (work : List WorkPage) → IsThere work page → changed_of page (with_changed page image work) ≡ Some image
changed_of-same page image [] there = absurd (cc)
changed_of-same page image (w ∷ ws) there = elim (cases_eq w.page page) [
  | inl e ↦ let same = eq-eqb w.page page e in rw same (rw same refl)
  | inr ne ↦ let other = ne_eqb w.page page ne in rw other (rw other (changed_of-same page image ws (rw other at there)))
]

-- every other page has the image that it had
pub changed_of-other : (page other : ℕ) (image : List ℕ) (work : List WorkPage) → page ≢ other → changed_of other (with_changed page image work) ≡ changed_of other work
changed_of-other page other image [] ne = refl
changed_of-other page other image (w ∷ ws) ne = elim (cases_eq w.page page) [
  | inl e ↦ let same = eq-eqb w.page page e in let no = ne_eqb w.page other (λ z. ne (sym e ∙ z)) in rw same (rw no refl)
  | inr differ ↦ let no = ne_eqb w.page page differ in rw no (ap (λ o. cond (eqb w.page other) (Some w.changed) o) (changed_of-other page other image ws ne))
]

-- no page comes or goes, and none was read another
pub reads_of-changed : (page : ℕ) (image : List ℕ) (work : List WorkPage) → reads_of (with_changed page image work) ≡ reads_of work
reads_of-changed page image [] = refl
reads_of-changed page image (w ∷ ws) = elim (cases_eq w.page page) [
  | inl e ↦ let same = eq-eqb w.page page e in rw same refl
  | inr ne ↦ let no = ne_eqb w.page page ne in rw no (ap (λ rs. (w.page, w.before) ∷ rs) (reads_of-changed page image ws))
]

-- what is left where one page was set
module _ (page : ℕ) (to : PageState) (old new : List WorkPage) (sets : Sets page to old new) where
  pub set-reads : reads_of new ≡ reads_of old
  set-reads = ap reads_of sets.work ∙ reads_of-changed page sets.image old

  pub set-changed : IsThere old page → changed_of page new ≡ Some sets.image
  set-changed there = ap (changed_of page) sets.work ∙ changed_of-same page sets.image old there

  pub set-same : IsThere old page → memory_in new page ≡ to
  set-same there = ap state_or_free (set-changed there) ∙ sets.state

  pub set-formed : IsThere old page → IsSomeAnd (changed_of page new) IsFormed
  set-formed there = subst (λ (o : Option (List ℕ)). IsSomeAnd o IsFormed) (sym (set-changed there)) sets.formed

  pub set-others : (other : ℕ) → page ≢ other → changed_of other new ≡ changed_of other old
  set-others other ne = ap (changed_of other) sets.work ∙ changed_of-other page other sets.image old ne

  pub set-other : (other : ℕ) → page ≢ other → memory_in new other ≡ memory_in old other
  set-other other ne = ap state_or_free (set-others other ne)

  pub set-there : (other : ℕ) → IsThere old page → IsThere old other → IsThere new other
  set-there other here there = elim (cases_eq page other) [
    | inl e ↦ subst (IsThere new) e (subst IsSome (sym (set-changed here)) refl)
    | inr ne ↦ subst IsSome (sym (set-others other ne)) there
  ]

  pub set-was : (other : ℕ) → IsThere old page → IsThere new other → IsThere old other
  set-was other here there = elim (cases_eq page other) [
    | inl e ↦ subst (IsThere old) e here
    | inr ne ↦ subst IsSome (set-others other ne) there
  ]

-- the fields of a state are those of its page
pub state-level : (v : PageValue) → (state_of v).level ≡ (page_in v).level
state-level (Tree p) = refl
state-level (Free clock) = refl
state-level Malformed = refl

pub state-prev : (v : PageValue) → (state_of v).prev ≡ (page_in v).prev
state-prev (Tree p) = refl
state-prev (Free clock) = refl
state-prev Malformed = refl

pub state-next : (v : PageValue) → (state_of v).next ≡ (page_in v).next
state-next (Tree p) = refl
state-next (Free clock) = refl
state-next Malformed = refl

pub state-clock : (v : PageValue) → (state_of v).clock ≡ (page_in v).clock
state-clock (Tree p) = refl
state-clock (Free clock) = refl
state-clock Malformed = refl

pub state-records : (v : PageValue) → (state_of v).records ≡ (page_in v).records
state-records (Tree p) = refl
state-records (Free clock) = refl
state-records Malformed = refl

-- a page whose state is one of a tree is one of a tree
pub state-tree : (v : PageValue) → (state_of v).kind ≡ TreeState → HoldsTree v
state-tree (Tree p) is = tt
state-tree (Free clock) is = cc
state-tree Malformed is = cc

-- an image that is a tree page is there
pub IsSome-and : (P : List ℕ → Type 0) (o : Option (List ℕ)) → IsSomeAnd o P → IsSome o
IsSome-and P None h = absurd h
IsSome-and P (Some image) h = refl

pub there-is : (o : Option (List ℕ)) (image : List ℕ) → o ≡ Some image → IsSomeAnd o IsTreePage → IsTreePage image
there-is o image is tree = subst (λ (q : Option (List ℕ)). IsSomeAnd q IsTreePage) is tree

-- the clock of an image that is there, and the leaf behind it
pub clock-there : (image : List ℕ) (o : Option (List ℕ)) → o ≡ Some image → clock_of image ≡ (state_or_free o).clock
clock-there image o is = sym (state-clock (page_of image)) ∙ ap (λ q. (state_or_free q).clock) (sym is)

pub next-there : (image : List ℕ) (o : Option (List ℕ)) → o ≡ Some image → next_of image ≡ (state_or_free o).next
next-there image o is = sym (state-next (page_of image)) ∙ ap (λ q. (state_or_free q).next) (sym is)
