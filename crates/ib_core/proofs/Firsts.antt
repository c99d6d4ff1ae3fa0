-- A first grant on a latch, and the place of the next writer, keep a good state good.
use Rattle.std.proofs.Common.{◌≡◌, ◌≢◌, ℕ, ◌+◌, ◌<◌, Bool, true, false, cond, List, set, refl, sym, ap, ◌∙◌, subst, eq-eqb, arith}
use Rattle.ib_word.specs.declared.word.TheConstants.{X_LOCK_DECR, X_LOCK_HALF_DECR}
use Rattle.ib_levels.specs.declared.holding.Holding.{Holding}
use Rattle.ib_levels.specs.declared.level.Level.{Level}
use Rattle.ib_levels.specs.declared.level.Mode.{Mode}
use Rattle.ib_levels.specs.declared.level.Mode.TheVariants.{S, Sx, X}
use Rattle.ib_levels.specs.Level.{MayFollowAll, IsOrderly}
use Rattle.ib_levels.specs.Holding.{on, levels_of}
use Rattle.ib_levels.proofs.Counts.{on-push_here, on-push_away, on-none}
use Rattle.ib_levels.proofs.Holdings.{orderly_hold}
use Rattle.ib_core.specs.declared.phase.Phase.{Phase}
use Rattle.ib_core.specs.declared.phase.Phase.TheVariants.{Free, Next}
use Rattle.ib_core.specs.declared.session.Session.{Session}
use Rattle.ib_core.specs.declared.session.Marks.{Marks}
use Rattle.ib_core.specs.Sessions.{Stands, is_next, holdings, claims, x_grants, taken, all_taken, owned}
use Rattle.ib_core.specs.Takings.{first_holding, holding_too}
use Rattle.ib_core.specs.Responses.{is_elsewhere}
use Rattle.ib_core.specs.Good.{IsGood}
use Rattle.ib_core.proofs.Elements.{one_of}
use Rattle.ib_core.proofs.Quiet.{at_itself}
use Rattle.ib_core.proofs.Kept.{IsLocal, ProperOn}
use Rattle.ib_core.proofs.Phased.{with_phase}
use Rattle.ib_core.proofs.Waiting.{OwesNothing}
use Rattle.ib_core.proofs.Totals.{nobody_x, nobody_claims, reads_taken}
use Rattle.ib_core.proofs.Grown.{grown, beside_claimer, beside_reader, Grows}

first_latch : (mode : Mode) (l : ℕ) (v : Level) → (first_holding mode l v).latch.0 ≡ l
first_latch S l v = refl
first_latch Sx l v = refl
first_latch X l v = refl

first_level : (mode : Mode) (l : ℕ) (v : Level) → (first_holding mode l v).level ≡ v
first_level S l v = refl
first_level Sx l v = refl
first_level X l v = refl

module _ (m : ℕ → Marks) (ss : List Session) (i : ℕ) (held : List Holding) (l : ℕ) (v : Level) (p : Phase)
    (good : IsGood ss m) (at : Stands ss i (with_phase p held)) (before : is_elsewhere l p ≡ false) (quiet : OwesNothing p)
    (none : holdings l (with_phase p held) ≡ 0) (may : MayFollowAll v (levels_of held)) where
  -- what is on the latch is the first holding alone
  now : (mode : Mode) (f : Holding → ℕ) → on l f (holding_too mode l v held) ≡ f (first_holding mode l v)
  now mode f = let a = on-push_here l f held (first_holding mode l v) (first_latch mode l v) in let b = on-none l f held none in omega arith

  was : (f : Holding → ℕ) → on l f held ≡ 0
  was f = on-none l f held none

  local : (mode : Mode) (p' : Phase) → is_elsewhere l p' ≡ false → IsLocal l (with_phase p held) (with_phase p' (holding_too mode l v held))
  local mode p' after = record {
    before = before;
    after = after;
    away = λ k n f. on-push_away k f held (first_holding mode l v) (λ q. n (sym (first_latch mode l v) ∙ q));
  }

  orderly : (mode : Mode) → IsOrderly (levels_of (holding_too mode l v held))
  orderly mode = orderly_hold held (first_holding mode l v) (good.proper i (with_phase p held) at).orderly (subst (λ v. MayFollowAll v (levels_of held)) (sym (first_level mode l v)) may)

  grows : (mode : Mode) (p' : Phase) → Grows l (with_phase p held) (with_phase p' (holding_too mode l v held))
  grows mode p' = let r = was (λ h. h.s) in let x = was (λ h. h.x) in let c = was (λ h. h.sx + h.x) in record { more_reads = omega arith; more_x = omega arith; more_claims = omega arith }

  proper_s : ProperOn l (with_phase Free (holding_too S l v held))
  proper_s =
      let o = now S (λ h. 1) in let g = now S (λ h. h.s + h.sx + h.x) in let r = now S (λ h. h.s) in let c = now S (λ h. h.sx + h.x) in
      record { single = omega arith; solid = omega arith; once = omega arith; apart = λ _. omega arith }

  proper_sx : ProperOn l (with_phase Free (holding_too Sx l v held))
  proper_sx =
      let o = now Sx (λ h. 1) in let g = now Sx (λ h. h.s + h.sx + h.x) in let r = now Sx (λ h. h.s) in
      record { single = omega arith; solid = omega arith; once = omega arith; apart = λ z. absurd (omega arith) }

  proper_x : (p' : Phase) → ProperOn l (with_phase p' (holding_too X l v held))
  proper_x p' =
      let o = now X (λ h. 1) in let g = now X (λ h. h.s + h.sx + h.x) in let r = now X (λ h. h.s) in
      record { single = omega arith; solid = omega arith; once = omega arith; apart = λ z. absurd (omega arith) }

  one : (i j : ℕ) (a b : Session) → Stands ss i a → Stands ss j b → i ≢ j → 0 < claims l a → claims l b ≡ 0
  one i j a b e d n = (good.beside i j a b e d n l).one_claim

  pub takes_s : all_taken l ss < X_LOCK_DECR → IsGood (set ss i (with_phase Free (holding_too S l v held))) m
  takes_s low =
      let c = now S (λ h. h.sx + h.x) in
      grown m ss i l (with_phase p held) (with_phase Free (holding_too S l v held)) good at (local S Free refl) quiet proper_s (orderly S) tt (grows S Free)
      (λ j b e n. beside_reader l (with_phase Free (holding_too S l v held)) b (omega arith) (let x = nobody_x l ss good.proper one low j b e in owned_zero (is_next l b.phase) (x_grants l b) x)) tt
    where
      owned_zero : (c : Bool) (n : ℕ) → n ≡ 0 → cond c 0 n ≡ 0
      owned_zero true n z = refl
      owned_zero false n z = z

  pub takes_sx : all_taken l ss < X_LOCK_HALF_DECR → IsGood (set ss i (with_phase Free (holding_too Sx l v held))) m
  takes_sx low =
      let x = now Sx (λ h. h.x) in
      grown m ss i l (with_phase p held) (with_phase Free (holding_too Sx l v held)) good at (local Sx Free refl) quiet proper_sx (orderly Sx) tt (grows Sx Free)
      (λ j b e n. beside_claimer l (with_phase Free (holding_too Sx l v held)) b (nobody_claims l ss good.proper one low j b e) (λ has. absurd (omega arith))) tt

  -- nobody has anything on the latch: X is owned at once
  pub takes_x_alone : all_taken l ss ≡ 0 → IsGood (set ss i (with_phase Free (holding_too X l v held))) m
  takes_x_alone nothing =
      grown m ss i l (with_phase p held) (with_phase Free (holding_too X l v held)) good at (local X Free refl) quiet (proper_x Free) (orderly X) tt (grows X Free)
      (λ j b e n. beside_claimer l (with_phase Free (holding_too X l v held)) b (nobody_claims l ss good.proper one (omega arith) j b e)
      (λ _. let t = one_of (taken l) ss j b e in let r = reads_taken l b (good.proper j b e) in omega arith)) tt

  -- readers remain
  pub takes_x_next : all_taken l ss < X_LOCK_HALF_DECR → IsGood (set ss i (with_phase (Next l v) (holding_too X l v held))) m
  takes_x_next low =
      let x = now X (λ h. h.x) in let a' : Session = with_phase (Next l v) (holding_too X l v held) in
      let waits : owned l a' ≡ 0 = ap (λ b. cond b 0 (x_grants l a')) (eq-eqb l l refl) in
      grown m ss i l (with_phase p held) a' good at (local X (Next l v) (at_itself l)) quiet (proper_x (Next l v)) (orderly X) x (grows X (Next l v))
      (λ j b e n. beside_claimer l a' b (nobody_claims l ss good.proper one low j b e) (λ has. absurd (omega arith))) tt
