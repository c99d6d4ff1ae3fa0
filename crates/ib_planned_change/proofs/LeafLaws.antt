-- The image of the key's leaf, and a work set with it alone.
use Rattle.std.specs.Prelude.{is_some}
use Rattle.std.proofs.Common.{◌≡◌, ◌≢◌, ℕ, ◌^◌, ◌<◌, true, false, Option, None, List, [], ◌∷◌, length, Some, refl, sym, ap, subst, ◌∙◌, eq-eqb}
use Rattle.ib_map.specs.Keys.{MapKey}
use Rattle.ib_logrec.specs.declared.entry.Entry.{Entry}
use Rattle.ib_page.specs.Form.{page_of}
use Rattle.ib_page.specs.Image.{IsTreePage, IsFormed, clock_of, records_of}
use Rattle.ib_page.specs.Memory.{image_at}
use Rattle.ib_page.specs.Work.{WorkPage, changed_of, with_changed, with_read}
use Rattle.ib_walk.specs.Pages.{PageMemory, Tree}
use Rattle.ib_walk.specs.Words.{state_of}
use Rattle.ib_planned_log.specs.LeafChange.{kept_pages, leaf_after}
use Rattle.ib_planned_change.specs.Copies.{IsBehind}
use Rattle.ib_planned_change.proofs.BehindLaws.{clock-is, records-is, state-is, tree-formed, tree-image, tree-within}
use Rattle.ib_planned_change.proofs.DescentLaws.{leaf-page}

module _ (log : List Entry) (images : List (List ℕ)) (b : IsBehind log images) (key : MapKey) (leaf : ℕ) (at : leaf ≡ leaf_after (length images) log key) where
  abbrev m : PageMemory
  m = kept_pages (length images) log

  leaf-kind : (kept_pages (length images) log leaf).kind ≡ Tree
  leaf-kind = subst (λ n. (m n).kind ≡ Tree) (sym at) (leaf-page log images b key).kind

  leaf-some : leaf ≢ 0
  leaf-some z = (leaf-page log images b key).some (sym at ∙ z)

  pub leaf-within : leaf < length images
  leaf-within = tree-within log images b leaf leaf-kind

  module _ (image : List ℕ) (is : image_at images leaf ≡ image) where
    pub leaf-tree : IsTreePage image
    leaf-tree = tree-image log images b leaf image leaf-within is leaf-kind

    pub leaf-formed : IsFormed image
    leaf-formed = tree-formed (page_of image) leaf-tree

    pub leaf-records : records_of image ≡ (kept_pages (length images) log leaf).records
    leaf-records = records-is log images b leaf image leaf-within is

    pub leaf-state : state_of (page_of image) ≡ kept_pages (length images) log leaf
    leaf-state = state-is log images b leaf image leaf-within is

    pub leaf-clock : clock_of image < 2 ^ 63
    leaf-clock = clock-is log images b leaf image leaf-some leaf-within is

-- one page in a work set that had none
module _ (leaf : ℕ) (image : List ℕ) (clear add : List WorkPage) (none : clear ≡ []) (added : add ≡ with_read leaf image clear) where
  one-page : add ≡ record { page = leaf; before = image; changed = image } ∷ []
  one-page = added ∙ ap (with_read leaf image) none

  pub one-image : (edited : List ℕ) → changed_of leaf add ≡ Some edited → edited ≡ image
  one-image edited is =
      let yes = eq-eqb leaf leaf refl in
      let here : changed_of leaf add ≡ Some image = ap (changed_of leaf) one-page ∙ rw yes refl in
      let same : Some edited ≡ Some image = sym is ∙ here in cc

  pub one-changed : (changed : List ℕ) → with_changed leaf changed add ≡ record { page = leaf; before = image; changed = changed } ∷ []
  one-changed changed = let yes = eq-eqb leaf leaf refl in ap (with_changed leaf changed) one-page ∙ rw yes refl

pub no-value : (o : Option ℕ) → is_some o ≡ false → o ≡ None
no-value None is = refl
no-value (Some v) is = absurd (let z : true ≡ false = is in cc)
