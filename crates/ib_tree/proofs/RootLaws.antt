-- The written roots have the heights of their new levels: what that leaves of the sums over the positions.
use Rattle.std.proofs.Common.{◌≡◌, ℕ, zero, suc, ◌+◌, ◌<◌, ◌≤◌, ◌⊎◌, inl, inr, Bool, true, false, cond, Some, refl, sym, ap, subst, ◌∙◌, arith, ◌≢◌}
use Rattle.std.proofs.lemmas.Bool.{cases_eq}
use Rattle.ib_walk.specs.Pages.{PageMemory, PageState}
use Rattle.ib_walk.specs.Walk.{Visit}
use Rattle.ib_validate.specs.PatchTest.{Position, Positions, visit_of, at_page, positions_over, set_at, root_at, set_roots}
use Rattle.ib_walk.proofs.ChoiceLaws.{cond-eq, cond-ne}
use Rattle.ib_tree.proofs.PositionLaws.{positions_over-set_at}

-- the roots have their new heights
module _ (written : ℕ → Bool) (new : PageMemory) (end n : ℕ) where
  pub set_roots-unwritten : (k : ℕ) (now : Positions) (p : ℕ) → written p ≡ false → set_roots written new end k now p ≡ now p
  set_roots-unwritten zero now p w = refl
  set_roots-unwritten (suc k) now p w =
      let r = set_roots-unwritten k (cond (written (suc k)) (set_at now (suc k) (Some (root_at new (suc k) end))) now) p w in
      r ∙ at-one (written (suc k)) refl
    where
      at-one : (b : Bool) → written (suc k) ≡ b → cond b (set_at now (suc k) (Some (root_at new (suc k) end))) now p ≡ now p
      at-one true e = cond-ne p (suc k) (Some (root_at new (suc k) end)) (now p) (λ s. let x = sym (ap written s ∙ e) ∙ w in cc)
      at-one false e = refl

  -- the position that a root had
  abbrev pub old-root : PageMemory → ℕ → Position
  old-root m root = record { tree = root; height = (m root).level; low = 0; high = end }

  root-not : (f : ℕ → Visit → ℕ) (root p : ℕ) (e : Position) → e.tree ≢ root → at_page f root p (Some e) ≡ 0
  root-not f root p e ne = cond-ne {X = ℕ} e.tree root (f e.height (visit_of p e)) 0 ne

  root-is : (f : ℕ → Visit → ℕ) (root : ℕ) (e : Position) → e.tree ≡ root → at_page f root root (Some e) ≡ f e.height (visit_of root e)
  root-is f root e s = cond-eq {X = ℕ} e.tree root (f e.height (visit_of root e)) 0 s

  module _ (m : PageMemory) (same : (p : ℕ) → written p ≡ false → new p ≡ m p) (few : (p : ℕ) → written p ≡ true → p < n) where
    -- where the first k roots stand with their old heights
    abbrev pub AreRoots : ℕ → Positions → Type 0
    AreRoots k now = (r : ℕ) → 0 < r → r ≤ k → now r ≡ Some (old-root m r)

    abbrev Moves : ℕ → Positions → (ℕ → Visit → ℕ) → ℕ → Type 0
    Moves k now f root = (root ≤ k → positions_over f root (set_roots written new end k now) n + f (m root).level (record { page = root; low = 0; high = end }) ≡ positions_over f root now n + f (new root).level (record { page = root; low = 0; high = end }))
        × (k < root → positions_over f root (set_roots written new end k now) n ≡ positions_over f root now n)

    pub positions_over-set_roots : (k : ℕ) (now : Positions) → AreRoots k now → (f : ℕ → Visit → ℕ) (root : ℕ) → 0 < root
        → (root ≤ k → positions_over f root (set_roots written new end k now) n + f (m root).level (record { page = root; low = 0; high = end }) ≡ positions_over f root now n + f (new root).level (record { page = root; low = 0; high = end }))
        × (k < root → positions_over f root (set_roots written new end k now) n ≡ positions_over f root now n)
    positions_over-set_roots zero now are f root some = ((λ l. absurd (omega arith)), (λ l. refl))
    positions_over-set_roots (suc k) now are f root some = by (written (suc k)) refl (λ next a. positions_over-set_roots k next a f root some)
      where
        Goal : Positions → Type 0
        Goal next = (root ≤ suc k → positions_over f root (set_roots written new end k next) n + f (m root).level (record { page = root; low = 0; high = end }) ≡ positions_over f root now n + f (new root).level (record { page = root; low = 0; high = end }))
            × (suc k < root → positions_over f root (set_roots written new end k next) n ≡ positions_over f root now n)

        by : (b : Bool) → written (suc k) ≡ b → ((next : Positions) → AreRoots k next → Moves k next f root) → Goal (cond b (set_at now (suc k) (Some (root_at new (suc k) end))) now)
        by false e more =
            let r = more now (λ r s l. are r s (omega arith)) in (
              (λ l. elim (cases_eq root (suc k)) [
                | inl s ↦ let x = r.1 (omega arith) in let y : (new root).level ≡ (m root).level = ap (λ (p : PageState). p.level) (same root (ap written s ∙ e)) in
                    let z = ap (λ h. f h (record { page = root; low = 0; high = end })) y in omega arith
                | inr ne ↦ r.0 (omega (arith, ne))
              ]),
              (λ l. r.1 (omega arith)),
            )
        by true e more =
            let r = more (set_at now (suc k) (Some (root_at new (suc k) end))) (λ r s l. cond-ne r (suc k) (Some (root_at new (suc k) end)) (now r) (λ z. omega arith) ∙ are r s (omega arith)) in
            let t = positions_over-set_at f root now n (suc k) (Some (root_at new (suc k) end)) (few (suc k) e) in
            let u = ap (at_page f root (suc k)) (are (suc k) (omega arith) (omega arith)) in
            elim (cases_eq root (suc k)) [
              | inl s ↦ (
                (λ l. let x = r.1 (omega arith) in own s t u x),
                (λ l. absurd (omega arith)),
              )
              | inr ne ↦
                  let a = root-not f root (suc k) (root_at new (suc k) end) (λ z. ne (sym z)) in
                  let b = root-not f root (suc k) (old-root m (suc k)) (λ z. ne (sym z)) in (
                    (λ l. let x = r.0 (omega (arith, ne)) in omega arith),
                    (λ l. let x = r.1 (omega arith) in omega arith),
                  )
            ]
          where
            own : root ≡ suc k → positions_over f root (set_at now (suc k) (Some (root_at new (suc k) end))) n + at_page f root (suc k) (now (suc k)) ≡ positions_over f root now n + at_page f root (suc k) (Some (root_at new (suc k) end))
                → at_page f root (suc k) (now (suc k)) ≡ at_page f root (suc k) (Some (old-root m (suc k)))
                → positions_over f root (set_roots written new end k (set_at now (suc k) (Some (root_at new (suc k) end)))) n ≡ positions_over f root (set_at now (suc k) (Some (root_at new (suc k) end))) n
                → positions_over f root (set_roots written new end k (set_at now (suc k) (Some (root_at new (suc k) end)))) n + f (m root).level (record { page = root; low = 0; high = end }) ≡ positions_over f root now n + f (new root).level (record { page = root; low = 0; high = end })
            own s t u x =
                let a : at_page f root (suc k) (Some (root_at new (suc k) end)) ≡ f (new root).level (record { page = root; low = 0; high = end }) =
                subst (λ q. at_page f root q (Some (root_at new q end)) ≡ f (new root).level (record { page = root; low = 0; high = end })) s (root-is f root (root_at new root end) refl) in
                let b : at_page f root (suc k) (Some (old-root m (suc k))) ≡ f (m root).level (record { page = root; low = 0; high = end }) =
                subst (λ q. at_page f root q (Some (old-root m q)) ≡ f (m root).level (record { page = root; low = 0; high = end })) s (root-is f root (old-root m root) refl) in
                omega arith

pub set_roots-cases : (written : ℕ → Bool) (new : PageMemory) (end k : ℕ) (now : Positions) (p : ℕ)
    → (set_roots written new end k now p ≡ now p) ⊎ ((0 < p) × (p ≤ k) × (set_roots written new end k now p ≡ Some (root_at new p end)))
set_roots-cases written new end zero now p = inl refl
set_roots-cases written new end (suc k) now p =
    elim (set_roots-cases written new end k (cond (written (suc k)) (set_at now (suc k) (Some (root_at new (suc k) end))) now) p) [
      | inr q ↦ inr (q.0, let z = q.1 in omega arith, q.2)
      | inl s ↦ elim (one (written (suc k))) [ inl e ↦ inl (s ∙ e) | inr q ↦ inr (q.0, q.1, s ∙ q.2) ]
    ]
  where
    one : (b : Bool) → (cond b (set_at now (suc k) (Some (root_at new (suc k) end))) now p ≡ now p)
        ⊎ ((0 < p) × (p ≤ suc k) × (cond b (set_at now (suc k) (Some (root_at new (suc k) end))) now p ≡ Some (root_at new p end)))
    one false = inl refl
    one true = elim (cases_eq p (suc k)) [
      | inl e ↦ inr (omega arith, omega arith, cond-eq p (suc k) (Some (root_at new (suc k) end)) (now p) e ∙ ap (λ q. Some (root_at new q end)) (sym e))
      | inr ne ↦ inl (cond-ne p (suc k) (Some (root_at new (suc k) end)) (now p) ne)
    ]
