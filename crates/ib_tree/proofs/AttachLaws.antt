-- The new children of a written page are met: what that leaves of the sums over the positions.
use Rattle.std.proofs.Common.{◌≡◌, ℕ, ◌+◌, ◌<◌, ◌≤◌, ◌⊎◌, inl, inr, Bool, true, false, cond, List, [], ◌∷◌, Option, Some, None, refl, sym, ap, ◌∙◌, arith, eqb}
use Rattle.std.specs.Prelude.{◌&&◌, ◌||◌}
use Rattle.std.proofs.lemmas.Bool.{cases_lt, cases_eq, and_parts}
use Rattle.ib_walk.specs.Walk.{Visit, sum_of}
use Rattle.ib_validate.specs.PatchTest.{Position, Positions, at_page, positions_over, set_at, position_of, same_position, is_none, attach}
use Rattle.ib_walk.proofs.ChoiceLaws.{Some-same, cond-eq, cond-ne}
use Rattle.ib_tree.proofs.DetachLaws.{in_tree, in_tree-plus}
use Rattle.ib_validate.proofs.RestLaws.{same_position-is}
use Rattle.ib_tree.proofs.PositionLaws.{is_none-None, positions_over-set_at}

-- the children that are met
module _ (written : ℕ → Bool) (old : Positions) (n : ℕ) (few : (p : ℕ) → written p ≡ true → p < n) (old_few : (p : ℕ) → n ≤ p → old p ≡ None) where
  pub attached-within : (tree h : ℕ) (k : Visit) → (written k.page || same_position (old k.page) (position_of tree h k)) ≡ true → k.page < n
  attached-within tree h k e =
      elim (cases_lt k.page n) [
        | inl lt ↦ lt
        | inr ge ↦ absurd (out (written k.page) (old k.page) (λ w. let x = few k.page w in omega (arith, ge)) (old_few k.page ge) e)
      ]
    where
      out : (w : Bool) (o : Option Position) → (w ≡ true → ⊥) → o ≡ None → (w || same_position o (position_of tree h k)) ≡ true → ⊥
      out true o f e t = f refl
      out false None f e t = cc
      out false (Some d) f e t = cc

  pub record Attached (tree h : ℕ) (ks : List Visit) (now after : Positions) : Type 0 where
    pub weighs : (f : ℕ → Visit → ℕ) (root : ℕ) → positions_over f root after n ≡ positions_over f root now n + in_tree tree root (sum_of (f h) ks)
    -- a page that was met stays as it was, and a page that is met now has this height
    pub each : (p : ℕ) → (after p ≡ now p) ⊎ ((now p ≡ None) × ((e : Position) × (after p ≡ Some e) × (e.height ≡ h) × (e.tree ≡ tree)))
    pub kept : (p : ℕ) → written p ≡ false → (after p ≡ now p) ⊎ (after p ≡ old p)

  pub Attached-attach : (tree h : ℕ) (ks : List Visit) (now after : Positions) → attach written old tree h ks now ≡ Some after → Attached tree h ks now after
  Attached-attach tree h [] now after e =
      let same : now ≡ after = Some-same now after e in record {
        weighs = λ f root. let x = ap (λ t. positions_over f root t n) same in let z = none (eqb tree root) in omega arith;
        each = λ p. inl (ap (λ (t : Positions). t p) (sym same));
        kept = λ p w. inl (ap (λ (t : Positions). t p) (sym same));
      }
    where
      none : (b : Bool) → cond {A = ℕ} b 0 0 ≡ 0
      none true = refl
      none false = refl
  Attached-attach tree h (k ∷ ks) now after e =
      elim (is_none (now k.page) && (written k.page || same_position (old k.page) (position_of tree h k))) as (λ b.
      (is_none (now k.page) && (written k.page || same_position (old k.page) (position_of tree h k))) ≡ b
      → cond b (attach written old tree h ks (set_at now k.page (Some (position_of tree h k)))) None ≡ Some after → Attached tree h (k ∷ ks) now after) [
        | true ↦ λ t q. one t (Attached-attach tree h ks (set_at now k.page (Some (position_of tree h k))) after q)
        | false ↦ λ t q. absurd (let x = q in cc)
      ] refl e
    where
      right : (a b : Bool) → a ≡ false → (a || b) ≡ true → b ≡ true
      right true b e t = absurd (let x = e in cc)
      right false b e t = t

      one : (is_none (now k.page) && (written k.page || same_position (old k.page) (position_of tree h k))) ≡ true → Attached tree h ks (set_at now k.page (Some (position_of tree h k))) after
          → Attached tree h (k ∷ ks) now after
      one t r =
          let a = and_parts (is_none (now k.page)) (written k.page || same_position (old k.page) (position_of tree h k)) t in
          let was = is_none-None (now k.page) a.0 in
          let within = attached-within tree h k a.1 in
          record {
            weighs = λ f root. let x = r.weighs f root in let y = positions_over-set_at f root now n k.page (Some (position_of tree h k)) within in let z = ap (at_page f root k.page) was in
                let w = in_tree-plus tree root (f h k) (sum_of (f h) ks) in omega arith;
            each = λ p. elim (cases_eq p k.page) [
              | inl s ↦ let q = cond-eq p k.page (Some (position_of tree h k)) (now p) s in
                  elim (r.each p) [
                    | inl same ↦ inr (ap now s ∙ was, (position_of tree h k, same ∙ q, refl, refl))
                    | inr new ↦ absurd (let x = sym q ∙ new.0 in cc)
                  ]
              | inr ne ↦ let q = cond-ne p k.page (Some (position_of tree h k)) (now p) ne in
                  elim (r.each p) [
                    | inl same ↦ inl (same ∙ q)
                    | inr new ↦ inr (sym q ∙ new.0, new.1)
                  ]
            ];
            kept = λ p w. elim (r.kept p w) [
              | inr o ↦ inr o
              | inl same ↦ elim (cases_eq p k.page) [
                | inr ne ↦ inl (same ∙ cond-ne p k.page (Some (position_of tree h k)) (now p) ne)
                | inl s ↦ inr (same ∙ (cond-eq p k.page (Some (position_of tree h k)) (now p) s ∙ sym (ap old s ∙ same_position-is (old k.page) (position_of tree h k) (right (written k.page) (same_position (old k.page) (position_of tree h k)) (ap written (sym s) ∙ w) a.1))))
              ]
            ];
          }
