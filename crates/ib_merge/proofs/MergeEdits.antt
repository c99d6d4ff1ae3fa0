-- The pages that a merge and a lift set, one after the other.
use Rattle.std.proofs.Common.{◌≡◌, ◌≢◌, ◌∙◌, ℕ, ◌<◌, ◌⊎◌, ◌^◌, List, sym, ap, subst, inl, inr, Option}
use Rattle.std.specs.Prelude.{IsSome, IsSomeAnd}
use Rattle.std.proofs.lemmas.Bool.{cases_eq}
use Rattle.ib_map.specs.Keys.{MapKey}
use Rattle.ib_page.specs.Image.{IsTreePage, IsFormed}
use Rattle.ib_page.specs.Work.{WorkPage, changed_of}
use Rattle.ib_walk.specs.Pages.{PageState}
use Rattle.ib_plans.specs.Merge.{freed_page, joined}
use Rattle.ib_plans.specs.Split.{with_prev}
use Rattle.ib_plans.specs.Moves.{Move, Stays, Takes, Fills, Frees, unmoved, with_move, HasMoved}
use Rattle.ib_plans.specs.Agreement.{IsThere, state_or_free, memory_in, reads_of, Sets, tick}
use Rattle.ib_plans.proofs.EditLaws.{set-reads, set-same, set-other, set-others, set-formed, set-was, IsSome-and}
use Rattle.ib_plans.proofs.MoveLaws.{with_move-own, with_move-other, moved-still, then-still-was, freed-any}
use Rattle.ib_merge.specs.Deletes.{without_record, CanMerge, IsJoined, IsMerged}
use Rattle.ib_merge.proofs.MovedLaws.{moves-gone, moves-left, moves-parent, moves-other}

-- two pages were made one
module _ (left gone : ℕ) (old new : List WorkPage) (left_there : IsThere old left) (gone_there : IsThere old gone) (apart : left ≢ gone) (both : IsJoined left gone old new) where
  one-gone : IsThere both.one gone
  one-gone = subst IsSome (sym (set-others left _ old both.one both.left_is gone apart)) gone_there

  pub join-left : memory_in new left ≡ joined (memory_in old left) (memory_in old gone)
  join-left = set-other gone _ both.one new both.gone_is left (λ e. apart (sym e)) ∙ set-same left _ old both.one both.left_is left_there

  pub join-gone : memory_in new gone ≡ freed_page (memory_in old gone)
  join-gone = set-same gone _ both.one new both.gone_is one-gone

  pub join-others : (n : ℕ) → n ≢ left → n ≢ gone → changed_of n new ≡ changed_of n old
  join-others n nl ng = set-others gone _ both.one new both.gone_is n (λ e. ng (sym e)) ∙ set-others left _ old both.one both.left_is n (λ e. nl (sym e))

  pub join-reads : reads_of new ≡ reads_of old
  join-reads = set-reads gone _ both.one new both.gone_is ∙ set-reads left _ old both.one both.left_is

  join-left_formed : IsSomeAnd (changed_of left new) IsFormed
  join-left_formed = subst (λ (o : Option (List ℕ)). IsSomeAnd o IsFormed) (sym (set-others gone _ both.one new both.gone_is left (λ e. apart (sym e)))) (set-formed left _ old both.one both.left_is left_there)

  join-gone_formed : IsSomeAnd (changed_of gone new) IsFormed
  join-gone_formed = set-formed gone _ both.one new both.gone_is one-gone

  -- both are formed, with their clocks
  pub join-formed : (beside : ℕ) → (beside ≡ left) ⊎ (beside ≡ gone) → IsSomeAnd (changed_of beside new) IsFormed
  join-formed beside (inl e) = subst (λ n. IsSomeAnd (changed_of n new) IsFormed) (sym e) join-left_formed
  join-formed beside (inr e) = subst (λ n. IsSomeAnd (changed_of n new) IsFormed) (sym e) join-gone_formed

  pub join-clock : (beside : ℕ) → (beside ≡ left) ⊎ (beside ≡ gone) → (memory_in new beside).clock ≡ (memory_in old beside).clock
  join-clock beside (inl e) = subst (λ n. (memory_in new n).clock ≡ (memory_in old n).clock) (sym e) (ap (λ (p : PageState). p.clock) join-left)
  join-clock beside (inr e) = subst (λ n. (memory_in new n).clock ≡ (memory_in old n).clock) (sym e) (ap (λ (p : PageState). p.clock) join-gone)

-- a merge, as far as it has come
module _ (parent left : ℕ) (gone : MapKey × ℕ) (beside : ℕ) (old two : List WorkPage) (can : CanMerge parent left gone.1 beside old) (both : IsJoined left gone.1 old two) where
  abbrev next : ℕ
  next = (memory_in old gone.1).next

  left-there : IsThere old left
  left-there = IsSome-and IsTreePage _ can.left_there

  gone-there : IsThere old gone.1
  gone-there = IsSome-and IsTreePage _ can.gone_there

  pub two-others : (n : ℕ) → n ≢ left → n ≢ gone.1 → changed_of n two ≡ changed_of n old
  two-others = join-others left gone.1 old two left-there gone-there can.apart both

  pub two-parent : changed_of parent two ≡ changed_of parent old
  two-parent = two-others parent can.parent_left can.parent_gone

  pub parent-tree : IsSomeAnd (changed_of parent two) IsTreePage
  parent-tree = subst (λ (o : Option (List ℕ)). IsSomeAnd o IsTreePage) (sym two-parent) can.parent_there

  pub parent-clock : (memory_in two parent).clock < 2 ^ 63
  parent-clock = subst (λ (o : Option (List ℕ)). (state_or_free o).clock < 2 ^ 63) (sym two-parent) can.parent_clock

  -- the parent has lost a record
  module _ (three : List WorkPage) (parent-sets : Sets parent (tick (without_record gone.0 (memory_in two parent))) two three) where
    pub three-others : (n : ℕ) → n ≢ left → n ≢ gone.1 → n ≢ parent → changed_of n three ≡ changed_of n old
    three-others n nl ng np = set-others parent _ two three parent-sets n (λ e. np (sym e)) ∙ two-others n nl ng

    three-next : next ≢ 0 → changed_of next three ≡ changed_of next old
    three-next some = three-others next (can.next_left some) (can.next_gone some) (can.next_parent some)

    module _ (behind : ℕ) (is : behind ≡ next) where
      at : behind ≢ 0 → changed_of behind three ≡ changed_of next old
      at some = ap (λ n. changed_of n three) is ∙ three-next (λ z. some (is ∙ z))

      pub next-tree : behind ≢ 0 → IsSomeAnd (changed_of behind three) IsTreePage
      next-tree some = subst (λ (o : Option (List ℕ)). IsSomeAnd o IsTreePage) (sym (at some)) (can.next_there (λ z. some (is ∙ z)))

      pub next-level : behind ≢ 0 → (memory_in three behind).level ≡ 0
      next-level some = ap (λ o. (state_or_free o).level) (at some) ∙ can.next_level (λ z. some (is ∙ z))

      pub next-clock : behind ≢ 0 → (memory_in three behind).clock < 2 ^ 63
      next-clock some = subst (λ (o : Option (List ℕ)). (state_or_free o).clock < 2 ^ 63) (sym (at some)) (can.next_clock (λ z. some (is ∙ z)))

      -- the leaf behind is linked back
      module _ (four : List WorkPage) (alone : behind ≡ 0 → four ≡ three) (linked : behind ≢ 0 → Sets behind (tick (with_prev left (memory_in three behind))) three four) where
        pub four-others : (n : ℕ) → (behind ≢ 0 → n ≢ behind) → changed_of n four ≡ changed_of n three
        four-others n apart = elim (cases_eq behind 0) [
          | inl z ↦ ap (changed_of n) (alone z)
          | inr some ↦ set-others behind _ three four (linked some) n (λ e. apart some (sym e))
        ]

        beside-not_next : behind ≢ 0 → beside ≢ behind
        beside-not_next some e = elim (can.beside_is) [
          | inl l ↦ can.next_left (λ z. some (is ∙ z)) (sym is ∙ (sym e ∙ l))
          | inr g ↦ can.next_gone (λ z. some (is ∙ z)) (sym is ∙ (sym e ∙ g))
        ]

        beside-not_parent : beside ≢ parent
        beside-not_parent e = elim (can.beside_is) [ inl l ↦ can.parent_left (sym e ∙ l) | inr g ↦ can.parent_gone (sym e ∙ g) ]

        -- the sibling is as it was when the two pages were made one
        pub four-beside : changed_of beside four ≡ changed_of beside two
        four-beside = four-others beside beside-not_next ∙ set-others parent _ two three parent-sets beside (λ e. beside-not_parent (sym e))

        pub beside-formed : IsSomeAnd (changed_of beside four) IsFormed
        beside-formed = subst (λ (o : Option (List ℕ)). IsSomeAnd o IsFormed) (sym four-beside) (join-formed left gone.1 old two left-there gone-there can.apart both beside can.beside_is)

        pub beside-clock : (memory_in four beside).clock < 2 ^ 63
        beside-clock = subst (λ k. k < 2 ^ 63) (sym (ap (λ o. (state_or_free o).clock) four-beside ∙ join-clock left gone.1 old two left-there gone-there can.apart both beside can.beside_is)) can.beside_clock

        -- where the records of each page stand then
        module _ (new : List WorkPage) (sets : Sets beside (tick (memory_in four beside)) four new) (taken : HasMoved (Takes gone.0) (changed_of parent two) (changed_of parent three))
            (stays : behind ≢ 0 → HasMoved Stays (changed_of behind three) (changed_of behind four)) (beside-stays : HasMoved Stays (changed_of beside four) (changed_of beside new)) where
          was-two : (n : ℕ) → IsThere three n → IsThere two n
          was-two n = set-was parent _ two three parent-sets n (IsSome-and IsTreePage _ parent-tree)

          was-three : (n : ℕ) → IsThere four n → IsThere three n
          was-three n there = elim (cases_eq behind 0) [
            | inl z ↦ subst (λ ws. IsThere ws n) (alone z) there
            | inr some ↦ set-was behind _ three four (linked some) n (IsSome-and IsTreePage _ (next-tree some)) there
          ]

          was-four : (n : ℕ) → IsThere new n → IsThere four n
          was-four n = set-was beside _ four new sets n (IsSome-and IsFormed _ beside-formed)

          four-stays : (n : ℕ) → HasMoved Stays (changed_of n three) (changed_of n four)
          four-stays n = elim (cases_eq behind 0) [
            | inl z ↦ moved-still (changed_of n three) (changed_of n four) (ap (changed_of n) (alone z))
            | inr some ↦ elim (cases_eq n behind) [
              | inl e ↦ subst (λ q. HasMoved Stays (changed_of q three) (changed_of q four)) (sym e) (stays some)
              | inr ne ↦ moved-still (changed_of n three) (changed_of n four) (set-others behind _ three four (linked some) n (λ e. ne (sym e)))
            ]
          ]

          new-stays : (n : ℕ) → HasMoved Stays (changed_of n four) (changed_of n new)
          new-stays n = elim (cases_eq n beside) [
            | inl e ↦ subst (λ q. HasMoved Stays (changed_of q four) (changed_of q new)) (sym e) beside-stays
            | inr ne ↦ moved-still (changed_of n four) (changed_of n new) (set-others beside _ four new sets n (λ e. ne (sym e)))
          ]

          -- what a page came to with the parent's record it keeps
          then-new : (move : Move) (n : ℕ) → HasMoved move (changed_of n old) (changed_of n three) → HasMoved move (changed_of n old) (changed_of n new)
          then-new move n h =
              then-still-was move (changed_of n old) (changed_of n four) (changed_of n new) (was-four n)
              (then-still-was move (changed_of n old) (changed_of n three) (changed_of n four) (was-three n) h (four-stays n)) (new-stays n)

          left-filled : HasMoved Fills (changed_of left old) (changed_of left three)
          left-filled = subst (λ (o : Option (List ℕ)). HasMoved Fills (changed_of left old) o)
              (sym (set-others parent _ two three parent-sets left can.parent_left ∙ set-others gone.1 _ both.one two both.gone_is left (λ e. can.apart (sym e)))) both.filled

          parent-taken : HasMoved (Takes gone.0) (changed_of parent old) (changed_of parent three)
          parent-taken = subst (λ (o : Option (List ℕ)). HasMoved (Takes gone.0) o (changed_of parent three)) two-parent taken

          all-moved : (n : ℕ) → HasMoved (with_move gone.1 Frees (with_move left Fills (with_move parent (Takes gone.0) unmoved)) n) (changed_of n old) (changed_of n new)
          all-moved n = elim (cases_eq n gone.1) [
            | inl e ↦ subst (λ (mv : Move). HasMoved mv (changed_of n old) (changed_of n new)) (sym (ap (with_move gone.1 Frees (with_move left Fills (with_move parent (Takes gone.0) unmoved))) e ∙ moves-gone parent left gone unmoved))
                (freed-any (changed_of n old) (changed_of n new))
            | inr ng ↦ elim (cases_eq n left) [
              | inl e ↦ subst (λ q. HasMoved (with_move gone.1 Frees (with_move left Fills (with_move parent (Takes gone.0) unmoved)) q) (changed_of q old) (changed_of q new)) (sym e)
                  (subst (λ (mv : Move). HasMoved mv (changed_of left old) (changed_of left new)) (sym (moves-left parent left gone unmoved can.apart)) (then-new Fills left left-filled))
              | inr nl ↦ elim (cases_eq n parent) [
                | inl e ↦ subst (λ q. HasMoved (with_move gone.1 Frees (with_move left Fills (with_move parent (Takes gone.0) unmoved)) q) (changed_of q old) (changed_of q new)) (sym e)
                    (subst (λ (mv : Move). HasMoved mv (changed_of parent old) (changed_of parent new)) (sym (moves-parent parent left gone unmoved can.parent_gone can.parent_left)) (then-new (Takes gone.0) parent parent-taken))
                | inr np ↦ subst (λ (mv : Move). HasMoved mv (changed_of n old) (changed_of n new)) (sym (moves-other parent left gone unmoved n ng nl np))
                    (then-new Stays n (moved-still (changed_of n old) (changed_of n three) (three-others n nl ng np)))
              ]
            ]
          ]

          pub merged-is : IsMerged parent left gone beside old new
          merged-is = record {
            two = two;
            three = three;
            four = four;
            both = both;
            parent_is = subst (λ (p : PageState). Sets parent (tick (without_record gone.0 p)) two three) (ap state_or_free two-parent) parent-sets;
            alone = λ z. alone (is ∙ z);
            next = λ some. subst (λ n. Sets n (tick (with_prev left (memory_in old n))) three four) is
                (subst (λ (p : PageState). Sets behind (tick (with_prev left p)) three four) (ap state_or_free (at (λ z. some (sym is ∙ z)) ∙ ap (λ n. changed_of n old) (sym is))) (linked (λ z. some (sym is ∙ z))));
            beside_is = sets;
            moved = all-moved;
          }

-- where the records of each page stand after a lift
pub lift-moved : (root child : ℕ) (top low : PageState) (old one new : List WorkPage) → Sets root top old one → Sets child low one new → root ≢ child → HasMoved Fills (changed_of root old) (changed_of root one)
    → (n : ℕ) → HasMoved (with_move child Frees (with_move root Fills unmoved) n) (changed_of n old) (changed_of n new)
lift-moved root child top low old one new root_is child_is apart filled n = elim (cases_eq n child) [
  | inl e ↦ subst (λ (mv : Move). HasMoved mv (changed_of n old) (changed_of n new)) (sym (with_move-own child Frees (with_move root Fills unmoved) n e)) (freed-any (changed_of n old) (changed_of n new))
  | inr nc ↦ elim (cases_eq n root) [
    | inl e ↦ subst (λ (mv : Move). HasMoved mv (changed_of n old) (changed_of n new)) (sym (with_move-other child Frees (with_move root Fills unmoved) n nc ∙ with_move-own root Fills unmoved n e))
        (subst (λ q. HasMoved Fills (changed_of q old) (changed_of q new)) (sym e) (subst (λ (o : Option (List ℕ)). HasMoved Fills (changed_of root old) o) (sym (set-others child low one new child_is root (λ z. apart (sym z)))) filled))
    | inr nr ↦ subst (λ (mv : Move). HasMoved mv (changed_of n old) (changed_of n new)) (sym (with_move-other child Frees (with_move root Fills unmoved) n nc ∙ with_move-other root Fills unmoved n nr))
        (moved-still (changed_of n old) (changed_of n new) (set-others child low one new child_is n (λ z. nc (sym z)) ∙ set-others root top old one root_is n (λ z. nr (sym z))))
  ]
]
