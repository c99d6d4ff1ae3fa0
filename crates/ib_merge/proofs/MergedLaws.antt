-- The pages of a work set after a merge and after a lift.
use Rattle.std.proofs.Common.{◌≡◌, ◌≢◌, ◌∙◌, ℕ, List, sym, ap, subst, inl, inr}
use Rattle.std.specs.Prelude.{IsSome}
use Rattle.std.proofs.lemmas.Bool.{cases_eq}
use Rattle.ib_map.specs.Keys.{MapKey}
use Rattle.ib_page.specs.Image.{IsTreePage}
use Rattle.ib_page.specs.Work.{WorkPage, changed_of}
use Rattle.ib_plans.specs.Merge.{freed_page, joined, lowered}
use Rattle.ib_plans.specs.Split.{with_prev}
use Rattle.ib_plans.specs.Agreement.{IsThere, state_or_free, memory_in, reads_of, tick}
use Rattle.ib_plans.proofs.EditLaws.{set-reads, set-same, set-other, set-others, IsSome-and}
use Rattle.ib_merge.specs.Deletes.{without_record, CanMerge, IsMerged, IsLifted}
use Rattle.ib_merge.proofs.OnPathLaws.{there-reads}
use Rattle.ib_merge.proofs.MergeEdits.{join-left, join-gone, join-reads, two-others}

module _ (parent left : ℕ) (gone : MapKey × ℕ) (beside : ℕ) (old new : List WorkPage) (can : CanMerge parent left gone.1 beside old) (m : IsMerged parent left gone beside old new) where
  abbrev next : ℕ
  next = (memory_in old gone.1).next

  left-there : IsThere old left
  left-there = IsSome-and IsTreePage _ can.left_there

  gone-there : IsThere old gone.1
  gone-there = IsSome-and IsTreePage _ can.gone_there

  parent-there : IsThere old parent
  parent-there = IsSome-and IsTreePage _ can.parent_there

  reads-two : reads_of m.two ≡ reads_of old
  reads-two = join-reads left gone.1 old m.two left-there gone-there can.apart m.both

  reads-three : reads_of m.three ≡ reads_of old
  reads-three = set-reads parent _ m.two m.three m.parent_is ∙ reads-two

  reads-four : reads_of m.four ≡ reads_of old
  reads-four = elim (cases_eq next 0) [
    | inl z ↦ ap reads_of (m.alone z) ∙ reads-three
    | inr some ↦ set-reads next _ m.three m.four (m.next some) ∙ reads-three
  ]

  -- the same pages are there
  pub merged-reads : reads_of new ≡ reads_of old
  merged-reads = set-reads beside _ m.four new m.beside_is ∙ reads-four

  beside-some : IsThere old beside
  beside-some = elim (can.beside_is) [ inl e ↦ subst (IsThere old) (sym e) left-there | inr e ↦ subst (IsThere old) (sym e) gone-there ]

  beside-there : IsThere m.four beside
  beside-there = there-reads old m.four beside reads-four beside-some

  beside-not_next : next ≢ 0 → beside ≢ next
  beside-not_next some e = elim (can.beside_is) [ inl l ↦ can.next_left some (sym e ∙ l) | inr g ↦ can.next_gone some (sym e ∙ g) ]

  beside-not_parent : beside ≢ parent
  beside-not_parent e = elim (can.beside_is) [ inl l ↦ can.parent_left (sym e ∙ l) | inr g ↦ can.parent_gone (sym e ∙ g) ]

  four-others : (n : ℕ) → (next ≢ 0 → n ≢ next) → changed_of n m.four ≡ changed_of n m.three
  four-others n apart = elim (cases_eq next 0) [
    | inl z ↦ ap (changed_of n) (m.alone z)
    | inr some ↦ set-others next _ m.three m.four (m.next some) n (λ e. apart some (sym e))
  ]

  -- a page of the two is as it was when they were made one
  four-two : (n : ℕ) → n ≢ parent → (next ≢ 0 → n ≢ next) → changed_of n m.four ≡ changed_of n m.two
  four-two n np nn = four-others n nn ∙ set-others parent _ m.two m.three m.parent_is n (λ e. np (sym e))

  left-four : memory_in m.four left ≡ joined (memory_in old left) (memory_in old gone.1)
  left-four = ap state_or_free (four-two left (λ e. can.parent_left (sym e)) (λ some e. can.next_left some (sym e))) ∙ join-left left gone.1 old m.two left-there gone-there can.apart m.both

  gone-four : memory_in m.four gone.1 ≡ freed_page (memory_in old gone.1)
  gone-four = ap state_or_free (four-two gone.1 (λ e. can.parent_gone (sym e)) (λ some e. can.next_gone some (sym e))) ∙ join-gone left gone.1 old m.two left-there gone-there can.apart m.both

  others-new : (n : ℕ) → n ≢ beside → changed_of n new ≡ changed_of n m.four
  others-new n nb = set-others beside _ m.four new m.beside_is n (λ e. nb (sym e))

  pub merged-parent : memory_in new parent ≡ tick (without_record gone.0 (memory_in old parent))
  merged-parent =
      ap state_or_free (others-new parent (λ e. beside-not_parent (sym e)) ∙ four-others parent (λ some e. can.next_parent some (sym e)))
      ∙ set-same parent _ m.two m.three m.parent_is (there-reads old m.two parent reads-two parent-there)

  pub merged-next : next ≢ 0 → memory_in new next ≡ tick (with_prev left (memory_in old next))
  merged-next some =
      ap state_or_free (others-new next (λ e. beside-not_next some (sym e)))
      ∙ set-same next _ m.three m.four (m.next some) (there-reads old m.three next reads-three (IsSome-and IsTreePage _ (can.next_there some)))

  pub merged-others : (n : ℕ) → n ≢ left → n ≢ gone.1 → n ≢ parent → (next ≢ 0 → n ≢ next) → changed_of n new ≡ changed_of n old
  merged-others n nl ng np nn =
      others-new n (λ e. elim (can.beside_is) [ inl l ↦ nl (e ∙ l) | inr g ↦ ng (e ∙ g) ])
      ∙ (four-two n np nn ∙ two-others parent left gone beside old m.two can m.both n nl ng)

  -- the left page is the sibling
  pub beside-left : beside ≡ left → (memory_in new left ≡ tick (joined (memory_in old left) (memory_in old gone.1))) × (memory_in new gone.1 ≡ freed_page (memory_in old gone.1))
  beside-left e = (
    subst (λ b. memory_in new b ≡ tick (memory_in m.four b)) e (set-same beside _ m.four new m.beside_is beside-there) ∙ ap tick left-four,
    ap state_or_free (others-new gone.1 (λ z. can.apart (sym e ∙ sym z))) ∙ gone-four,
  )

  -- .. or the other one is
  pub beside-gone : beside ≡ gone.1 → (memory_in new left ≡ joined (memory_in old left) (memory_in old gone.1)) × (memory_in new gone.1 ≡ tick (freed_page (memory_in old gone.1)))
  beside-gone e = (
    ap state_or_free (others-new left (λ z. can.apart (z ∙ e))) ∙ left-four,
    subst (λ b. memory_in new b ≡ tick (memory_in m.four b)) e (set-same beside _ m.four new m.beside_is beside-there) ∙ ap tick gone-four,
  )

-- a root was lifted
module _ (root child : ℕ) (old new : List WorkPage) (root_there : IsThere old root) (child_there : IsThere old child) (apart : root ≢ child) (m : IsLifted root child old new) where
  child-one : IsThere m.one child
  child-one = subst IsSome (sym (set-others root _ old m.one m.root_is child apart)) child_there

  pub lifted-reads : reads_of new ≡ reads_of old
  lifted-reads = set-reads child _ m.one new m.child_is ∙ set-reads root _ old m.one m.root_is

  pub lifted-root : memory_in new root ≡ lowered (memory_in old root) (memory_in old child)
  lifted-root = set-other child _ m.one new m.child_is root (λ e. apart (sym e)) ∙ set-same root _ old m.one m.root_is root_there

  pub lifted-child : memory_in new child ≡ freed_page (memory_in old child)
  lifted-child = set-same child _ m.one new m.child_is child-one

  pub lifted-others : (n : ℕ) → n ≢ root → n ≢ child → changed_of n new ≡ changed_of n old
  lifted-others n nr nc = set-others child _ m.one new m.child_is n (λ e. nc (sym e)) ∙ set-others root _ old m.one m.root_is n (λ e. nr (sym e))
