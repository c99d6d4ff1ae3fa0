-- A good state stays good where one session changes on one latch, from what is so on that latch.
use Rattle.std.proofs.Common.{◌≡◌, ◌≢◌, ℕ, ◌+◌, ◌<◌, ◌≤◌, inl, inr, ⊎_elim, Bool, true, false, cond, List, set, refl, sym, ap, ◌∙◌, subst, arith}
use Rattle.std.specs.Prelude.{◌==◌}
use Rattle.std.specs.List.{sum_by}
use mathlib.Core.Logic.{dite}
use native.Mathlib.Decide.{ℕ_discrete}
use Rattle.ib_levels.specs.declared.holding.Holding.{Holding}
use Rattle.ib_levels.specs.declared.level.Mode.{Mode}
use Rattle.ib_levels.specs.declared.level.Mode.TheVariants.{S, Sx, X}
use Rattle.ib_levels.specs.Level.{IsOrderly}
use Rattle.ib_levels.specs.Holding.{on, levels_of}
use Rattle.ib_levels.proofs.Counts.{by_equal}
use Rattle.ib_core.specs.declared.phase.Phase.{Phase}
use Rattle.ib_core.specs.declared.phase.Phase.TheVariants.{Free, Armed, Flagged, Checked, Asleep, Next, NextArmed, NextChecked, NextAsleep, OwesLook, OwesClear, OwesRaise, OwesRaiseEx}
use Rattle.ib_core.specs.declared.session.Session.{Session}
use Rattle.ib_core.specs.declared.session.Marks.{Marks}
use Rattle.ib_core.specs.Sessions.{Stands, is_next, holdings, reads, claims, grants, x_grants, owned, readers_of}
use Rattle.ib_core.specs.Responses.{is_elsewhere}
use Rattle.ib_core.specs.Good.{Suits, IsProper, GoBeside, IsOwed, Heard, IsGood, against, owes_raise, owes_raise_ex, owes_signal}
use Rattle.ib_core.proofs.Elements.{at_set, sum_at}
use Rattle.ib_core.proofs.Quiet.{quiet}
use Rattle.ib_core.proofs.Heard.{Heeds, Drains, heard_move, owed_set}

-- the session changes on this latch alone
pub record IsLocal (l : ℕ) (a a' : Session) : Type 0 where
  pub before : is_elsewhere l a.phase ≡ false
  pub after : is_elsewhere l a'.phase ≡ false
  pub away : (k : ℕ) → l ≢ k → (f : Holding → ℕ) → on k f a'.held ≡ on k f a.held

-- what is said of one session alone, from what is so on the latch
pub record ProperOn (l : ℕ) (a : Session) : Type 0 where
  pub single : holdings l a ≤ 1
  pub solid : holdings l a ≤ grants l a
  pub once : reads l a ≤ 1
  pub apart : 0 < reads l a → claims l a ≡ 0

pub proper_local : (l : ℕ) (a a' : Session) → IsProper a → IsLocal l a a' → ProperOn l a' → IsOrderly (levels_of a'.held) → Suits a'.phase a' → IsProper a'
proper_local l a a' proper local new orderly suits = record {
  single = λ k. dite (ℕ_discrete l k) (λ e. subst (λ k. holdings k a' ≤ 1) e new.single) (λ n. let q = local.away k n (λ h. 1) in let p = proper.single k in omega arith);
  solid = λ k. dite (ℕ_discrete l k) (λ e. subst (λ k. holdings k a' ≤ grants k a') e new.solid)
      (λ n. let q = local.away k n (λ h. 1) in let r = local.away k n (λ h. h.s + h.sx + h.x) in let p = proper.solid k in omega arith);
  once = λ k. dite (ℕ_discrete l k) (λ e. subst (λ k. reads k a' ≤ 1) e new.once) (λ n. let q = local.away k n (λ h. h.s) in let p = proper.once k in omega arith);
  apart = λ k. dite (ℕ_discrete l k) (λ e. subst (λ k. 0 < reads k a' → claims k a' ≡ 0) e new.apart)
      (λ n r. let q = local.away k n (λ h. h.s) in let c = local.away k n (λ h. h.sx + h.x) in let p = proper.apart k (omega arith) in omega arith);
  orderly = orderly;
  suits = suits;
}

-- a next writer has one X
pub next_has_x : (k : ℕ) (p : Phase) (c : Session) → is_next k p ≡ true → Suits p c → x_grants k c ≡ 1
next_has_x k p c e suits = by_phase p e suits
  where
    on_latch : (j : ℕ) → (j == k) ≡ true → x_grants j c ≡ 1 → x_grants k c ≡ 1
    on_latch j e one = by_equal (λ b. b ≡ true → x_grants k c ≡ 1) j k (λ q _. subst (λ k. x_grants k c ≡ 1) q one) (λ _ z. absurd (cc)) e

    by_phase : (p : Phase) → is_next k p ≡ true → Suits p c → x_grants k c ≡ 1
    by_phase (Next j v) e s = on_latch j e s
    by_phase (NextArmed j v g) e s = on_latch j e s
    by_phase (NextChecked j v g) e s = on_latch j e s
    by_phase (NextAsleep j v g) e s = on_latch j e s
    by_phase Free e s = absurd (cc)
    by_phase (Armed j mode v g) e s = absurd (cc)
    by_phase (Flagged j mode v g) e s = absurd (cc)
    by_phase (Checked j mode v g) e s = absurd (cc)
    by_phase (Asleep j mode v g) e s = absurd (cc)
    by_phase (OwesLook j) e s = absurd (cc)
    by_phase (OwesClear j) e s = absurd (cc)
    by_phase (OwesRaise j) e s = absurd (cc)
    by_phase (OwesRaiseEx j) e s = absurd (cc)

module _ (m m' : ℕ → Marks) (ss : List Session) (i : ℕ) (a a' : Session) (l : ℕ) where
  owned_away : IsLocal l a a' → (k : ℕ) → l ≢ k → owned k a' ≡ owned k a
  owned_away local k n =
      let p = (quiet l k a'.phase local.after n).next in let q = (quiet l k a.phase local.before n).next in
      ap (λ b. cond b 0 (x_grants k a')) p ∙ (local.away k n (λ h. h.x) ∙ sym (ap (λ b. cond b 0 (x_grants k a)) q))

  against_away : IsLocal l a a' → (k : ℕ) → l ≢ k → (mode : Mode) → against mode k a' ≡ against mode k a
  against_away local k n S = local.away k n (λ h. h.x)
  against_away local k n Sx = local.away k n (λ h. h.sx + h.x)
  against_away local k n X = local.away k n (λ h. h.sx + h.x)

  -- nothing that others rest on changes on another latch
  beside_away : IsLocal l a a' → (k : ℕ) → l ≢ k → (b : Session) → GoBeside k a b → GoBeside k b a → GoBeside k a' b × GoBeside k b a'
  beside_away local k n b ab ba =
      let c = local.away k n (λ h. h.sx + h.x) in let s = local.away k n (λ h. h.s) in let o = owned_away local k n in (
        record { one_claim = λ p. ab.one_claim (omega arith); none_reads = λ p. ab.none_reads (omega arith) },
        record { one_claim = λ p. let z = ba.one_claim p in omega arith; none_reads = λ p. let z = ba.none_reads p in omega arith },
      )

  quiet_owed : (test : Phase → Bool) → Stands ss i a → test a.phase ≡ false → IsOwed test ss → IsOwed test (set ss i a')
  quiet_owed test at not_so = owed_set test ss i a a' at (λ yes'. let z : true ≡ false = sym yes' ∙ not_so in absurd (cc))

  heeds_away : Stands ss i a → IsLocal l a a' → ((k : ℕ) → l ≢ k → m' k ≡ m k) → (k : ℕ) → l ≢ k → Heeds k (m k) (m' k) ss (set ss i a')
  heeds_away at local same k n =
      let e = same k n in let q = quiet l k a.phase local.before n in record {
        rises = let g = ap (λ (z : Marks). z.generation) e in omega arith;
        ex_rises = let g = ap (λ (z : Marks). z.ex_generation) e in omega arith;
        wakes = λ _ w. ⊎_elim (λ f. inl (ap (λ (z : Marks). z.waiters) e ∙ f)) (λ o. inr (quiet_owed (owes_raise k) at q.raise o)) w;
        waits = λ _ _ mode w. ⊎_elim
            (λ (p : 0 < sum_by (against mode k) ss). inl (let s = sum_at (against mode k) ss i a a' at in let r = against_away local k n mode in omega arith))
            (λ o. inr (quiet_owed (owes_signal k) at q.signal o)) w;
      }

  drains_away : Stands ss i a → IsLocal l a a' → (k : ℕ) → l ≢ k → Drains k (m k) (m' k) ss (set ss i a')
  drains_away at local k n _ d =
      ⊎_elim (λ (p : 0 < readers_of k ss). inl (let s = sum_at (reads k) ss i a a' at in let r = local.away k n (λ h. h.s) in omega arith))
      (λ o. inr (quiet_owed (owes_raise_ex k) at (quiet l k a.phase local.before n).raise_ex o)) d

  pub heeds_all : Stands ss i a → IsLocal l a a' → ((k : ℕ) → l ≢ k → m' k ≡ m k) → Heeds l (m l) (m' l) ss (set ss i a') → (k : ℕ) → Heeds k (m k) (m' k) ss (set ss i a')
  heeds_all at local same heeds k = dite (ℕ_discrete l k) (λ e. subst (λ k. Heeds k (m k) (m' k) ss (set ss i a')) e heeds) (λ n. heeds_away at local same k n)

  pub good_local : IsGood ss m → Stands ss i a → IsLocal l a a' → ((k : ℕ) → l ≢ k → m' k ≡ m k) → IsProper a'
      → ((j : ℕ) (b : Session) → Stands ss j b → i ≢ j → GoBeside l a' b × GoBeside l b a')
      → Heard m' (set ss i a') a'.phase
      → Heeds l (m l) (m' l) ss (set ss i a')
      → ((j : ℕ) (c : Session) → Stands ss j c → i ≢ j → x_grants l c ≡ 1 → Drains l (m l) (m' l) ss (set ss i a'))
      → IsGood (set ss i a') m'
  good_local good at local same mine beside own heeds drains = record {
    proper = at_set (λ _ a. IsProper a) ss i a' mine (λ j b e n. good.proper j b e);
    beside = λ j k a b e d n l.
        at_set (λ j a. Stands (set ss i a') k b → j ≢ k → GoBeside l a b) ss i a'
        (λ d' n'. at_set (λ k b. i ≢ k → GoBeside l a' b) ss i a' (λ n''. absurd (n'' refl)) (λ k b e' n'' _. (others l k b e' n'').0) k b d' n')
        (λ j a e' n' d' n''. at_set (λ k b. j ≢ k → GoBeside l a b) ss i a' (λ _. (others l j a e' n').1) (λ k b e'' _ n3. good.beside j k a b e' e'' n3 l) k b d' n'')
        j a e d n;
    heard = at_set (λ _ a. Heard m' (set ss i a') a.phase) ss i a' own
        (λ j c e n. heard_move m m' ss (set ss i a') (heeds_all at local same heeds) c.phase
        (λ k next. dite (ℕ_discrete l k)
        (λ q. subst (λ k. Drains k (m k) (m' k) ss (set ss i a')) q (drains j c e n (next_has_x l c.phase c (subst (λ k. is_next k c.phase ≡ true) (sym q) next) (good.proper j c e).suits)))
        (λ q. drains_away at local k q))
        (good.heard j c e));
  }
    where
      others : (k j : ℕ) (b : Session) → Stands ss j b → i ≢ j → GoBeside k a' b × GoBeside k b a'
      others k j b e n = dite (ℕ_discrete l k) (λ q. subst (λ k. GoBeside k a' b × GoBeside k b a') q (beside j b e n))
          (λ q. beside_away local k q b (good.beside i j a b at e n k) (good.beside j i b a e at (λ z. n (sym z)) k))
