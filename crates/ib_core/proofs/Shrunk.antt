-- An event that gives a grant back keeps a good state good.
use Rattle.std.proofs.Common.{◌≡◌, ◌≢◌, ℕ, ◌+◌, ◌<◌, ◌≤◌, ◌⊎◌, inl, inr, ⊎_elim, Bool, true, false, cond, List, set, refl, sym, ap, ◌∙◌, subst, eq-eqb, arith}
use Rattle.std.specs.List.{sum_by}
use mathlib.Core.Logic.{dite}
use native.Mathlib.Decide.{ℕ_discrete}
use Rattle.ib_word.specs.declared.word.TheConstants.{X_LOCK_DECR, X_LOCK_HALF_DECR}
use Rattle.ib_word.specs.Weight.{sx_weight, x_weight}
use Rattle.ib_word.proofs.Equation.{sx_weight_cases}
use Rattle.ib_levels.specs.declared.holding.Holding.{Holding}
use Rattle.ib_levels.specs.declared.level.Mode.{Mode}
use Rattle.ib_levels.specs.declared.level.Mode.TheVariants.{S, Sx, X}
use Rattle.ib_levels.specs.Level.{IsOrderly}
use Rattle.ib_levels.specs.Holding.{on, levels_of, changed_on, without_latch}
use Rattle.ib_levels.proofs.Counts.{on-without, on-without_away, on-changed_away}
use Rattle.ib_levels.proofs.Holdings.{levels_of-changed, orderly_without}
use Rattle.ib_core.specs.declared.phase.Phase.{Phase}
use Rattle.ib_core.specs.declared.phase.Phase.TheVariants.{Free, OwesLook}
use Rattle.ib_core.specs.declared.session.Session.{Session}
use Rattle.ib_core.specs.declared.session.Marks.{Marks}
use Rattle.ib_core.specs.Sessions.{Stands, is_next, reads, claims, x_grants, sx_grants, all_taken, owned, readers_of}
use Rattle.ib_core.specs.Takings.{one_fewer}
use Rattle.ib_core.specs.Responses.{is_elsewhere}
use Rattle.ib_core.specs.Good.{Suits, IsProper, GoBeside, IsOwed, Heard, IsGood, against, owes_raise, owes_raise_ex, owes_signal}
use Rattle.ib_core.proofs.Elements.{sum_at, one_of, set_else, at_set}
use Rattle.ib_core.proofs.Quiet.{at_itself}
use Rattle.ib_core.proofs.OnLatch.{counted, counts_changed, one_fewer-latch, held_by_grant}
use Rattle.ib_core.proofs.Weighs.{reads_none}
use Rattle.ib_core.proofs.Heard.{Drains, owed_set, owed_now}
use Rattle.ib_core.proofs.Kept.{IsLocal, ProperOn, proper_local, good_local}
use Rattle.ib_core.proofs.Phased.{with_phase}
use Rattle.ib_core.proofs.Totals.{claimer_whole}

-- the session has as much on the latch as before, or less
pub record Shrinks (l : ℕ) (a a' : Session) : Type 0 where
  pub fewer_reads : reads l a' ≤ reads l a
  pub fewer_claims : claims l a' ≤ claims l a
  pub fewer_owned : owned l a' ≤ owned l a

module _ (m : ℕ → Marks) (ss : List Session) (i : ℕ) (l : ℕ) (a a' : Session) (good : IsGood ss m) (at : Stands ss i a) (free : a.phase ≡ Free) where
  free_owes : (test : Phase → Bool) → test Free ≡ false → IsOwed test ss → IsOwed test (set ss i a')
  free_owes test no_such = owed_set test ss i a a' at (λ so. let z : true ≡ false = sym so ∙ (ap test free ∙ no_such) in absurd (cc))

  -- from what a sleeper rests on: as much is against its wish, or still something, or a signal is owed
  pub shrunk : IsLocal l a a' → ProperOn l a' → IsOrderly (levels_of a'.held) → Suits a'.phase a' → Shrinks l a a'
      → ((mode : Mode) → (against mode l a ≤ against mode l a') ⊎ ((0 < against mode l a') ⊎ (owes_signal l a'.phase ≡ true)))
      → Heard m (set ss i a') a'.phase
      → ((j : ℕ) (c : Session) → Stands ss j c → i ≢ j → x_grants l c ≡ 1 → Drains l (m l) (m l) ss (set ss i a'))
      → IsGood (set ss i a') m
  shrunk local proper orderly suits shrinks keeps own drains =
      good_local m m ss i a a' l good at local (λ k n. refl) (proper_local l a a' (good.proper i a at) local proper orderly suits)
      (λ j b e n.
      let ab = good.beside i j a b at e n l in let ba = good.beside j i b a e at (λ q. n (sym q)) l in
      let r = shrinks.fewer_reads in let c = shrinks.fewer_claims in let o = shrinks.fewer_owned in (
        record { one_claim = λ p. ab.one_claim (omega arith); none_reads = λ p. ab.none_reads (omega arith) },
        record { one_claim = λ p. let z = ba.one_claim p in omega arith; none_reads = λ p. let z = ba.none_reads p in omega arith },
      ))
      own
      record {
        rises = omega arith;
        ex_rises = omega arith;
        wakes = λ _ w. ⊎_elim (λ f. inl f) (λ o. inr (free_owes (owes_raise l) refl o)) w;
        waits = λ _ _ mode w. ⊎_elim
            (λ (p : 0 < sum_by (against mode l) ss).
            let s = sum_at (against mode l) ss i a a' at in
            ⊎_elim (λ (le : against mode l a ≤ against mode l a'). inl (omega arith))
            (⊎_elim (λ (some : 0 < against mode l a'). inl (let t = one_of (against mode l) (set ss i a') i a' (Rattle.ib_core.proofs.Elements.set_here ss i a a' at) in omega arith))
            (λ (owes : owes_signal l a'.phase ≡ true). inr (owed_now (owes_signal l) ss i a a' at owes)))
            (keeps mode))
            (λ o. inr (free_owes (owes_signal l) refl o)) w;
      }
      drains

  -- readers stay where the session read nothing
  pub drains_unread : reads l a ≡ 0 → Drains l (m l) (m l) ss (set ss i a')
  drains_unread none _ d = ⊎_elim
      (λ (p : 0 < readers_of l ss). inl (let s = sum_at (reads l) ss i a a' at in omega arith))
      (λ o. inr (free_owes (owes_raise_ex l) refl o)) d

module _ (m : ℕ → Marks) (ss : List Session) (i : ℕ) (held : List Holding) (l : ℕ) (good : IsGood ss m) (at : Stands ss i (with_phase Free held)) where
  pub local_without : (p' : Phase) → is_elsewhere l p' ≡ false → IsLocal l (with_phase Free held) (with_phase p' (without_latch l held))
  local_without p' after = record { before = refl; after = after; away = λ k n f. on-without_away l k f held n }

  pub proper_without : (p' : Phase) → ProperOn l (with_phase p' (without_latch l held))
  proper_without p' =
      let o = on-without l (λ h. 1) held in let r = on-without l (λ h. h.s) held in
      record { single = omega arith; solid = omega arith; once = omega arith; apart = λ z. absurd (omega arith) }

  shrinks_without : (p' : Phase) → Shrinks l (with_phase Free held) (with_phase p' (without_latch l held))
  shrinks_without p' =
      let r = on-without l (λ h. h.s) held in let c = on-without l (λ h. h.sx + h.x) held in let x = on-without l (λ h. h.x) held in
      record { fewer_reads = omega arith; fewer_claims = omega arith; fewer_owned = let z : owned l (with_phase p' (without_latch l held)) ≤ x_grants l (with_phase p' (without_latch l held)) = cond_le (is_next l p') (x_grants l (with_phase p' (without_latch l held))) in omega arith }
    where
      cond_le : (c : Bool) (n : ℕ) → cond c 0 n ≤ n
      cond_le true n = omega arith
      cond_le false n = omega arith

  -- S goes. Where a next writer's last reader is gone with it, the raise of the ex generation is owed
  pub gives_s : (p' : Phase) → 0 < reads l (with_phase Free held) → is_elsewhere l p' ≡ false → Suits p' (with_phase p' (without_latch l held)) → ((s : List Session) → Heard m s p')
      → ((all_taken l (set ss i (with_phase p' (without_latch l held))) ≡ X_LOCK_DECR) ⊎ (all_taken l (set ss i (with_phase p' (without_latch l held))) ≡ X_LOCK_DECR + X_LOCK_HALF_DECR) → owes_raise_ex l p' ≡ true)
      → IsGood (set ss i (with_phase p' (without_latch l held))) m
  gives_s p' has after suits own owes =
      let a : Session = with_phase Free held in let a' : Session = with_phase p' (without_latch l held) in
      let none = (good.proper i a at).apart l has in
      shrunk m ss i l a a' good at refl (local_without p' after) (proper_without p') (orderly_without l held (good.proper i a at).orderly) suits (shrinks_without p')
      (λ mode. inl (nothing mode none)) (own (set ss i a'))
      (λ j c e n one _ _. signal j c e n one)
    where
      nothing : (mode : Mode) → claims l (with_phase Free held) ≡ 0 → against mode l (with_phase Free held) ≤ against mode l (with_phase p' (without_latch l held))
      nothing S none = let c = counted l (with_phase Free held) ((good.proper i (with_phase Free held) at).single l) in omega arith
      nothing Sx none = omega arith
      nothing X none = omega arith

      signal : (j : ℕ) (c : Session) → Stands ss j c → i ≢ j → x_grants l c ≡ 1 → Rattle.ib_core.specs.Good.MustDrain l (set ss i (with_phase p' (without_latch l held)))
      signal j c e n one =
          let a : Session = with_phase Free held in let a' : Session = with_phase p' (without_latch l held) in let ss' : List Session = set ss i a' in
          let proper = good.proper j c e in let k = counted l c (proper.single l) in
          let e' : Stands ss' j c = set_else ss i j a' n ∙ e in
          dite (ℕ_discrete (readers_of l ss') 0)
          (λ drained.
          let unread = reads_none l c proper (omega arith) in
          let whole = claimer_whole l ss' (at_set (λ _ b. IsProper b) ss i a'
          (proper_local l a a' (good.proper i a at) (local_without p' after) (proper_without p') (orderly_without l held (good.proper i a at).orderly) suits) (λ j b e n. good.proper j b e)) (pairs a') j c e' (omega arith) drained in
          let x : x_weight (x_grants l c) ≡ X_LOCK_DECR = ap x_weight one in
          let both : (all_taken l ss' ≡ X_LOCK_DECR) ⊎ (all_taken l ss' ≡ X_LOCK_DECR + X_LOCK_HALF_DECR) = ⊎_elim
          (λ (z : (sx_grants l c ≡ 0) × (sx_weight (sx_grants l c) ≡ 0)). let y = z.1 in inl (omega arith))
          (λ (z : (0 < sx_grants l c) × (sx_weight (sx_grants l c) ≡ X_LOCK_HALF_DECR)). let y = z.1 in inr (omega arith))
          (sx_weight_cases (sx_grants l c)) in
          inr (owed_now (owes_raise_ex l) ss i a a' at (owes both)))
          (λ some. inl (omega arith))
        where
          pairs : (a' : Session) → (j k : ℕ) (b c : Session) → Stands (set ss i (with_phase p' (without_latch l held))) j b → Stands (set ss i (with_phase p' (without_latch l held))) k c → j ≢ k → 0 < claims l b → claims l c ≡ 0
          pairs a' j k b c d e n has' =
              at_set (λ j b. j ≢ k → 0 < claims l b → claims l c ≡ 0) ss i (with_phase p' (without_latch l held))
              (λ _ z. let y = on-without l (λ h. h.sx + h.x) held in absurd (omega arith))
              (λ j b d' _ n' z. at_set (λ k c. j ≢ k → claims l c ≡ 0) ss i (with_phase p' (without_latch l held)) (λ _. on-without l (λ h. h.sx + h.x) held)
              (λ k c e' _ n''. (good.beside j k b c d' e' n'' l).one_claim z) k c e n')
              j b d n has'

  -- the last grant of SX or X goes
  pub gives_last : 0 < claims l (with_phase Free held) → IsGood (set ss i (with_phase (OwesLook l) (without_latch l held))) m
  gives_last has =
      let a : Session = with_phase Free held in let a' : Session = with_phase (OwesLook l) (without_latch l held) in
      let unread = reads_none l a (good.proper i a at) has in
      shrunk m ss i l a a' good at refl (local_without (OwesLook l) (at_itself l)) (proper_without (OwesLook l)) (orderly_without l held (good.proper i a at).orderly) tt (shrinks_without (OwesLook l))
      (λ mode. inr (inr (eq-eqb l l refl))) tt (λ j c e n one. drains_unread m ss i l a a' good at refl unread)

  -- one of several grants goes
  pub one_fewer-level : (mode : Mode) (h : Holding) → (one_fewer mode h).level ≡ h.level
  one_fewer-level S h = refl
  one_fewer-level Sx h = refl
  one_fewer-level X h = refl

  fewer : (mode : Mode) (p' : Phase) → 1 < claims l (with_phase Free held) → is_elsewhere l p' ≡ false → Suits p' (with_phase p' (changed_on l (one_fewer mode) held)) → ((s : List Session) → Heard m s p')
      → on l (λ h. 1) (changed_on l (one_fewer mode) held) ≡ on l (λ h. 1) held → on l (λ h. h.s) (changed_on l (one_fewer mode) held) ≡ on l (λ h. h.s) held
      → on l (λ h. h.sx + h.x) (changed_on l (one_fewer mode) held) + 1 ≡ on l (λ h. h.sx + h.x) held
      → on l (λ h. h.s + h.sx + h.x) (changed_on l (one_fewer mode) held) + 1 ≡ on l (λ h. h.s + h.sx + h.x) held
      → owned l (with_phase p' (changed_on l (one_fewer mode) held)) ≤ x_grants l (with_phase Free held)
      → ((x_grants l (with_phase Free held) ≤ x_grants l (with_phase p' (changed_on l (one_fewer mode) held))) ⊎ ((0 < x_grants l (with_phase p' (changed_on l (one_fewer mode) held))) ⊎ (owes_signal l p' ≡ true)))
      → IsGood (set ss i (with_phase p' (changed_on l (one_fewer mode) held))) m
  fewer mode p' several after suits own places read claimed granted owns x =
      let a : Session = with_phase Free held in let a' : Session = with_phase p' (changed_on l (one_fewer mode) held) in
      let proper = good.proper i a at in let unread = reads_none l a proper (omega arith) in let single = proper.single l in
      let c = counted l a single in
      shrunk m ss i l a a' good at refl record { before = refl; after = after; away = λ k n f. on-changed_away l k (one_fewer mode) f held (one_fewer-latch mode) n }
      record { single = omega arith; solid = omega arith; once = omega arith; apart = λ z. absurd (omega arith) }
      (subst IsOrderly (sym (levels_of-changed l (one_fewer mode) held (one_fewer-level mode))) proper.orderly)
      suits record { fewer_reads = omega arith; fewer_claims = omega arith; fewer_owned = owns }
      (keeps claimed several) (own (set ss i a')) (λ j c e n one. drains_unread m ss i l a a' good at refl unread)
    where
      keeps : on l (λ h. h.sx + h.x) (changed_on l (one_fewer mode) held) + 1 ≡ on l (λ h. h.sx + h.x) held → 1 < claims l (with_phase Free held)
          → (mode' : Mode) → (against mode' l (with_phase Free held) ≤ against mode' l (with_phase p' (changed_on l (one_fewer mode) held))) ⊎ ((0 < against mode' l (with_phase p' (changed_on l (one_fewer mode) held))) ⊎ (owes_signal l p' ≡ true))
      keeps claimed several S = x
      keeps claimed several Sx = inr (inl (omega arith))
      keeps claimed several X = inr (inl (omega arith))

  pub gives_one_sx : 0 < sx_grants l (with_phase Free held) → 1 < claims l (with_phase Free held) → IsGood (set ss i (with_phase Free (changed_on l (one_fewer Sx) held))) m
  gives_one_sx has several =
      let single = (good.proper i (with_phase Free held) at).single l in let p = held_by_grant l (λ h. h.sx + h.x) held (omega arith) in
      let k = counts_changed l (one_fewer Sx) held (one_fewer-latch Sx) (omega arith) in
      let o = k.1 (λ h. 1) in let r = k.1 (λ h. h.s) in let c = k.1 (λ h. h.sx + h.x) in let x = k.1 (λ h. h.x) in let g = k.1 (λ h. h.s + h.sx + h.x) in let sx = k.1 (λ h. h.sx) in
      let o' = k.2 (λ h. 1) in let r' = k.2 (λ h. h.s) in let c' = k.2 (λ h. h.sx + h.x) in let x' = k.2 (λ h. h.x) in let g' = k.2 (λ h. h.s + h.sx + h.x) in
      fewer Sx Free several refl tt (λ s. tt) (omega arith) (omega arith) (omega arith) (omega arith) (omega arith) (inl (omega arith))

  -- an X goes that is not the last grant: with the last X a look is owed
  pub gives_one_x : 0 < x_grants l (with_phase Free held) → 1 < claims l (with_phase Free held)
      → (p' : Phase) → ((x_grants l (with_phase Free held) ≡ 1) × (p' ≡ OwesLook l)) ⊎ ((1 < x_grants l (with_phase Free held)) × (p' ≡ Free))
      → IsGood (set ss i (with_phase p' (changed_on l (one_fewer X) held))) m
  gives_one_x has several p' cases =
      let single = (good.proper i (with_phase Free held) at).single l in let p = held_by_grant l (λ h. h.sx + h.x) held (omega arith) in
      let k = counts_changed l (one_fewer X) held (one_fewer-latch X) (omega arith) in
      let o = k.1 (λ h. 1) in let r = k.1 (λ h. h.s) in let c = k.1 (λ h. h.sx + h.x) in let x = k.1 (λ h. h.x) in let g = k.1 (λ h. h.s + h.sx + h.x) in
      let o' = k.2 (λ h. 1) in let r' = k.2 (λ h. h.s) in let c' = k.2 (λ h. h.sx + h.x) in let x' = k.2 (λ h. h.x) in let g' = k.2 (λ h. h.s + h.sx + h.x) in
      ⊎_elim
      (λ (z : (x_grants l (with_phase Free held) ≡ 1) × (p' ≡ OwesLook l)).
      subst (λ p'. IsGood (set ss i (with_phase p' (changed_on l (one_fewer X) held))) m) (sym z.1)
      (fewer X (OwesLook l) several (at_itself l) tt (λ s. tt) (omega arith) (omega arith) (omega arith) (omega arith) (omega arith) (inr (inr (eq-eqb l l refl)))))
      (λ (z : (1 < x_grants l (with_phase Free held)) × (p' ≡ Free)).
      let more = z.0 in
      subst (λ p'. IsGood (set ss i (with_phase p' (changed_on l (one_fewer X) held))) m) (sym z.1)
      (fewer X Free several refl tt (λ s. tt) (omega arith) (omega arith) (omega arith) (omega arith) (omega arith) (inr (inl (omega arith)))))
      cases
