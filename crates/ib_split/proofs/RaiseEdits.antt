-- The pages that a raise sets, one after the other.
use Rattle.std.proofs.Common.{◌≡◌, ◌≢◌, ◌∙◌, ℕ, List, sym, ap, subst, inl, inr, Some}
use Rattle.std.proofs.lemmas.Bool.{cases_eq}
use Rattle.std.specs.Prelude.{IsSome}
use Rattle.ib_heap.specs.Filled.{filled}
use Rattle.ib_heap.specs.Heap.{read_heap}
use Rattle.ib_page.specs.Work.{WorkPage, changed_of, with_changed}
use Rattle.ib_plans.specs.Agreement.{IsThere}
use Rattle.ib_plans.specs.Moves.{Move, Fills, unmoved, with_move, HasMoved}
use Rattle.ib_plans.proofs.EditLaws.{changed_of-same, changed_of-other}
use Rattle.ib_plans.proofs.MoveLaws.{with_move-own, with_move-other, moved-still, filled-now}

module _ (root left right : ℕ) (old : List WorkPage) (top low high : List ℕ) (i j k : ℕ) (apart-left : root ≢ left) (apart-right : root ≢ right) (apart : left ≢ right)
    (root-there : IsThere old root) (left-there : IsThere old left) (right-there : IsThere old right)
    (top_heap : read_heap top ≡ filled i) (low_heap : read_heap low ≡ filled j) (high_heap : read_heap high ≡ filled k) where
  abbrev new : List WorkPage
  new = with_changed right high (with_changed left low (with_changed root top old))

  raised-root : changed_of root new ≡ Some top
  raised-root =
      changed_of-other right root high (with_changed left low (with_changed root top old)) (λ e. apart-right (sym e))
      ∙ (changed_of-other left root low (with_changed root top old) (λ e. apart-left (sym e)) ∙ changed_of-same root top old root-there)

  raised-left : changed_of left new ≡ Some low
  raised-left =
      changed_of-other right left high (with_changed left low (with_changed root top old)) (λ e. apart (sym e))
      ∙ changed_of-same left low (with_changed root top old) (subst IsSome (sym (changed_of-other root left top old apart-left)) left-there)

  raised-right : changed_of right new ≡ Some high
  raised-right = changed_of-same right high (with_changed left low (with_changed root top old))
      (subst IsSome (sym (changed_of-other left right low (with_changed root top old) apart ∙ changed_of-other root right top old apart-right)) right-there)

  raised-other : (n : ℕ) → n ≢ root → n ≢ left → n ≢ right → changed_of n new ≡ changed_of n old
  raised-other n nt nl nr =
      changed_of-other right n high (with_changed left low (with_changed root top old)) (λ e. nr (sym e))
      ∙ (changed_of-other left n low (with_changed root top old) (λ e. nl (sym e)) ∙ changed_of-other root n top old (λ e. nt (sym e)))

  -- all three are filled anew, and all other pages are as they were
  pub raised-moved : (n : ℕ) → HasMoved (with_move left Fills (with_move right Fills (with_move root Fills unmoved)) n) (changed_of n old) (changed_of n (with_changed right high (with_changed left low (with_changed root top old))))
  raised-moved n = elim (cases_eq n left) [
    | inl e ↦ subst (λ (mv : Move). HasMoved mv (changed_of n old) (changed_of n new)) (sym (with_move-own left Fills (with_move right Fills (with_move root Fills unmoved)) n e))
        (filled-now (changed_of n old) (changed_of n new) low j (ap (λ q. changed_of q new) e ∙ raised-left) low_heap)
    | inr nl ↦ elim (cases_eq n right) [
      | inl e ↦ subst (λ (mv : Move). HasMoved mv (changed_of n old) (changed_of n new))
          (sym (with_move-other left Fills (with_move right Fills (with_move root Fills unmoved)) n nl ∙ with_move-own right Fills (with_move root Fills unmoved) n e))
          (filled-now (changed_of n old) (changed_of n new) high k (ap (λ q. changed_of q new) e ∙ raised-right) high_heap)
      | inr nr ↦ elim (cases_eq n root) [
        | inl e ↦ subst (λ (mv : Move). HasMoved mv (changed_of n old) (changed_of n new))
            (sym (with_move-other left Fills (with_move right Fills (with_move root Fills unmoved)) n nl ∙ (with_move-other right Fills (with_move root Fills unmoved) n nr ∙ with_move-own root Fills unmoved n e)))
            (filled-now (changed_of n old) (changed_of n new) top i (ap (λ q. changed_of q new) e ∙ raised-root) top_heap)
        | inr nt ↦ subst (λ (mv : Move). HasMoved mv (changed_of n old) (changed_of n new))
            (sym (with_move-other left Fills (with_move right Fills (with_move root Fills unmoved)) n nl ∙ (with_move-other right Fills (with_move root Fills unmoved) n nr ∙ with_move-other root Fills unmoved n nt)))
            (moved-still (changed_of n old) (changed_of n new) (raised-other n nt nl nr))
      ]
    ]
  ]
