use Rattle.std.proofs.Common.{◌≡◌, ◌∙◌, ◌||◌, ℕ, List, Bool, true, false, eqb, refl, sym, ap, subst, arith, length, set, inl, inr}
use Rattle.std.proofs.lemmas.Bool.{cases_eq, eq-eqb, ne_eqb}
use Rattle.ib_validate.specs.PatchTest.{IsListed}
use Rattle.ib_validate.specs.Positions.{marks_of}
use Rattle.ib_validate.proofs.PositionLaws.{marks_of-at, marks_of-set_same, marks_of-set_other}
use Rattle.ib_validate.proofs.ListedLaws.{listed-push, listed-room}
use Rattle.ib_validate.proofs.marks.mark_page.Goals as goal

or-true : (b : Bool) → (b || true) ≡ true
or-true true = refl
or-true false = refl

or-false : (b : Bool) → (b || false) ≡ b
or-false true = refl
or-false false = refl

pub returns-then-not-written-page-clause-marks : goal.returns-then-not-written-page-clause-marks
returns-then-not-written-page-clause-marks c other = elim (cases_eq other c.args.page) [
  | inl e ↦ ap (marks_of (set c.args.written.now c.args.page true)) e ∙ (marks_of-set_same c.args.written.now c.args.page true c.requires.in_range
      ∙ sym (ap (λ b. marks_of c.args.written.now other || b) (eq-eqb c.args.page other (sym e)) ∙ or-true (marks_of c.args.written.now other)))
  | inr ne ↦ marks_of-set_other c.args.written.now c.args.page true other ne
      ∙ sym (ap (λ b. marks_of c.args.written.now other || b) (ne_eqb c.args.page other (λ e. ne (sym e))) ∙ or-false (marks_of c.args.written.now other))
]

pub push_reserved-requires : goal.push_reserved-requires
push_reserved-requires c =
    let fresh = marks_of-at c.args.written.now c.args.page false c.requires.in_range ∙ c.if-not-written-page.true in
    let few = listed-room (marks_of c.args.written.now) c.args.pages.now.items (length c.args.written.now) c.args.page c.requires.listed fresh c.requires.in_range in
    omega (arith, c.args.pages.now.ok, c.requires.room)

pub returns-then-not-written-page-clause-listed : goal.returns-then-not-written-page-clause-listed
returns-then-not-written-page-clause-listed c =
    let fresh = marks_of-at c.args.written.now c.args.page false c.requires.in_range ∙ c.if-not-written-page.true in
    subst (λ (ps : List ℕ). IsListed (marks_of (set c.args.written.now c.args.page true)) ps (length c.args.written.now)) (sym c.push_reserved.ensures.items)
    (listed-push (marks_of c.args.written.now) (marks_of (set c.args.written.now c.args.page true)) c.args.page (λ q ne. marks_of-set_other c.args.written.now c.args.page true q ne)
    (marks_of-set_same c.args.written.now c.args.page true c.requires.in_range) fresh c.args.pages.now.items (length c.args.written.now) c.requires.in_range c.requires.listed)

pub returns-else-not-written-page-clause-marks : goal.returns-else-not-written-page-clause-marks
returns-else-not-written-page-clause-marks c other = elim (cases_eq other c.args.page) [
  | inl e ↦
      let marked : marks_of c.args.written.now other ≡ true = ap (marks_of c.args.written.now) e ∙ (marks_of-at c.args.written.now c.args.page false c.requires.in_range ∙ c.if-not-written-page.false) in
      marked ∙ sym (ap (λ b. b || eqb c.args.page other) marked)
  | inr ne ↦ sym (ap (λ b. marks_of c.args.written.now other || b) (ne_eqb c.args.page other (λ e. ne (sym e))) ∙ or-false (marks_of c.args.written.now other))
]
