-- A descent to a leaf that is to be changed, which was refused a latch on the way.
use Rattle.std.specs.Prelude.{◌⊎◌}
use Rattle.std.proofs.Common.{◌≡◌, inl, inr, ℕ, ◌+◌, ◌<◌, ◌==◌, true, List, refl, ap, arith, ne_eqb}
use Rattle.ib_map.specs.Keys.{MapKey}
use Rattle.ib_levels.specs.declared.level.Mode.{Mode}
use Rattle.ib_levels.specs.declared.level.Mode.TheVariants.{S, Sx, X}
use Rattle.ib_levels.proofs.Counts.{by_equal}
use Rattle.ib_layout.specs.Geometry.{Sizes}
use Rattle.ib_logrec.specs.declared.entry.Entry.{Entry}
use Rattle.ib_rule.specs.Pass.{PassState}
use Rattle.ib_cursor.specs.declared.fault.NowaitFault.{NowaitFault}
use Rattle.ib_cursor.specs.Descent.{IsDown, one_if}
use Rattle.ib_cursor.specs.Going.{WentOn}
use Rattle.ib_cursor.specs.Grants.{Grant}
use Rattle.ib_cursor.specs.Modes.{mode_by}
use Rattle.ib_cursor.specs.Refusals.{AreFewGrants, AreFewLooks, IsLeafRefusal, IsVainOnPath, IsVainTry, TakesForLeaf}
use Rattle.ib_cursor.proofs.RefusalLaws.{refusal_after, refusal_by}

-- in S each page of the path is taken, in X the leaf and the root
abbrev pub IsAllowed : Mode → ℕ → ℕ → ℕ → Type 0
IsAllowed S page level root = Unit {0}
IsAllowed Sx page level root = ⊥
IsAllowed X page level root = (level ≡ 0) ⊎ (page ≡ root)

pub allowed_at : (page level root : ℕ) → IsAllowed (mode_by (level == 0)) page level root
allowed_at page level root = by_equal (λ b. IsAllowed (mode_by b) page level root) level 0 (λ e. inl e) (λ n. tt)

module _ (sizes : Sizes) (lawful : List Entry → Type 0) (opening : ℕ → ℕ) (root : ℕ) (key : MapKey) (f : NowaitFault) where
  -- the index was refused
  pub leaf_index : (p q : PassState) → IsVainTry sizes lawful S 1 f p q → IsLeafRefusal sizes lawful opening root key f p q
  leaf_index p q v = refusal_by sizes lawful (TakesForLeaf opening root key) (record { s = 9; sx = 0; x = 1 }) f S 1 p q v (inl refl)

  page_taken : (mode : Mode) (page level : ℕ) (q r : PassState) → IsAllowed mode page level root → IsVainOnPath sizes lawful opening root key mode page level f q r → TakesForLeaf opening root key r.view.memory.seen mode (page + 2)
  page_taken S page level q r may v = inr (page, level, refl, v.on_path)
  page_taken Sx page level q r may v = absurd may
  page_taken X page level q r may v = (page, level, refl, v.on_path, may)

  -- .. or a page behind it
  pub leaf_page : (mode : Mode) (page level : ℕ) (p q r : PassState) → IsAllowed mode page level root → WentOn p q → AreFewLooks 0 p.view q.view → AreFewGrants (record { s = 9; sx = 0; x = 1 }) p.view q.view
      → IsVainOnPath sizes lawful opening root key mode page level f q r → IsLeafRefusal sizes lawful opening root key f p r
  leaf_page mode page level p q r may went few grants v =
      let none = refusal_by sizes lawful (TakesForLeaf opening root key) (record { s = 0; sx = 0; x = 0 }) f mode (page + 2) q r v.vain (page_taken mode page level q r may v) in
      let a = none.grants.s in let b = none.grants.sx in let d = none.grants.x in let e = grants.s in let h = grants.sx in let i = grants.x in
      refusal_after sizes lawful (TakesForLeaf opening root key) (record { s = 9; sx = 0; x = 1 }) f (record { s = 0; sx = 0; x = 0 }) p q r went few none
      (record { s = omega arith; sx = omega arith; x = omega arith })

-- what a descent took that has not come to the leaf yet
pub down_grants : (sizes : Sizes) (lawful : List Entry → Type 0) (opening : ℕ → ℕ) (root : ℕ) (key : MapKey) (front : List Grant) (above page level : ℕ) (p q : PassState)
    → 0 < level → IsDown sizes lawful opening root key front true above page level p q → AreFewGrants (record { s = 9; sx = 0; x = 1 }) p.view q.view
down_grants sizes lawful opening root key front above page level p q node down =
    let none : one_if (level == 0) ≡ 0 = ap one_if (ne_eqb level 0 (λ z. omega arith)) in
    let a = down.s in let b = down.short in let d = down.sx in
    elim (down.x refl) [
      | inl y ↦ record { s = omega arith; sx = omega arith; x = omega arith }
      | inr y ↦ let y0 = y.0 in record { s = omega arith; sx = omega arith; x = omega arith }
    ]
