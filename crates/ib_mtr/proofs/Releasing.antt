-- Grants that are given back from the newest to the oldest.
use Rattle.std.proofs.Common.{◌≡◌, ℕ, zero, suc, ◌+◌, ◌<◌, List, [], ◌∷◌, length, get_or, take, drop, Option, Some, None, slice_get, refl, sym, ap, ◌∙◌, arith, add-one}
use Rattle.std.specs.Prelude.{IsSomeAnd}
use Rattle.std.specs.List.{remove}
use Rattle.std.proofs.Math.Seq.{drop-cons}
use Rattle.std.proofs.lemmas.List.{get_or-take}
use Rattle.std.proofs.lemmas.Option.{get_or_from_slice_get}
use Rattle.ib_levels.specs.declared.latch.Latch.{Latch}
use Rattle.ib_levels.specs.declared.level.Mode.{Mode}
use Rattle.ib_rule.specs.Pass.{PassState, raising_as}
use Rattle.ib_mtr.specs.Mtr.{IsReleasedAt, IsReleasedTo, pages_left, released_at, without_all, without_grant}

-- the last of some elements is taken out
front : {A : Type 0} (xs : List A) (n : ℕ) → n < length xs → remove (take (suc n) xs) n ≡ take n xs
front [] n within = absurd (omega arith)
front (x ∷ xs) zero within = refl
front (x ∷ xs) (suc n) within = ap (λ ys. x ∷ ys) (front xs n (omega arith))

-- the newest of those that are left
module _ (p q r : PassState) (at : ℕ) (within : at < length p.memo) (none : p.work ≡ []) (is : IsReleasedTo (at + 1) p q) where
  one_more : (g : Latch × Mode) → slice_get q.memo at ≡ Some g → r ≡ raising_as r (released_at at g q) → IsReleasedTo at p r
  one_more g there released =
      let next = add-one at in
      let same : g ≡ get_or p.memo at g =
      sym (get_or_from_slice_get q.memo at g g there) ∙ (ap (λ (q : PassState). get_or q.memo at g) is ∙ get_or-take (at + 1) p.memo at g (omega arith)) in
      let grants : g ∷ drop (at + 1) p.memo ≡ drop at p.memo = ap (λ (n : ℕ). g ∷ drop n p.memo) next ∙ (ap (λ h. h ∷ drop (suc at) p.memo) same ∙ sym (drop-cons p.memo at g within)) in
      let memo : remove (take (at + 1) p.memo) at ≡ take at p.memo = ap (λ (n : ℕ). remove (take n p.memo) at) next ∙ front p.memo at within in
      let view = without_grant g (without_all (drop (at + 1) p.memo) p.view) in
      let pages : pages_left g.0.0 view.session p.work ≡ p.work = ap (pages_left g.0.0 view.session) none ∙ sym none in
      released ∙ (ap (λ (s : PassState). raising_as r (released_at at g s)) is ∙ (λ j. raising_as r (record p { view = without_all (grants j) p.view; memo = memo j; work = pages j })))

  pub released_one : IsReleasedAt at q r → IsReleasedTo at p r
  released_one released = by_place (slice_get q.memo at) refl released
    where
      by_place : (o : Option (Latch × Mode)) → slice_get q.memo at ≡ o → IsSomeAnd o (λ g. r ≡ raising_as r (released_at at g q)) → IsReleasedTo at p r
      by_place None there released = absurd released
      by_place (Some g) there released = one_more g there released
