-- An event that changes the phase of its session, and what it holds not at all, keeps a good state good.
use Rattle.std.proofs.Common.{◌≡◌, ◌≢◌, ℕ, ◌<◌, inl, inr, ⊎_elim, true, false, cond, List, set, refl, sym, ap, arith}
use Rattle.std.specs.List.{sum_by}
use Rattle.ib_levels.specs.declared.holding.Holding.{Holding}
use Rattle.ib_levels.specs.declared.level.Mode.{Mode}
use Rattle.ib_levels.specs.declared.level.Mode.TheVariants.{S, Sx, X}
use Rattle.ib_core.specs.declared.phase.Phase.{Phase}
use Rattle.ib_core.specs.declared.session.Session.{Session}
use Rattle.ib_core.specs.declared.session.Marks.{Marks}
use Rattle.ib_core.specs.Sessions.{Stands, is_next, reads, x_grants, owned, readers_of}
use Rattle.ib_core.specs.Responses.{is_elsewhere}
use Rattle.ib_core.specs.Good.{Suits, IsProper, Heard, IsGood, against, owes_raise, owes_raise_ex, owes_signal}
use Rattle.ib_core.proofs.Elements.{sum_at}
use Rattle.ib_core.proofs.Heard.{Heeds, Drains, owed_set}
use Rattle.ib_core.proofs.Kept.{IsLocal, good_local}

abbrev pub with_phase : Phase → List Holding → Session
with_phase p held = record { held = held; phase = p }

-- all that is said of one session alone but what the phase says
pub proper_phase : (held : List Holding) (p p' : Phase) → IsProper (with_phase p held) → Suits p' (with_phase p' held) → IsProper (with_phase p' held)
proper_phase held p p' proper suits = record { single = proper.single; solid = proper.solid; once = proper.once; apart = proper.apart; orderly = proper.orderly; suits = suits }

module _ (ss : List Session) (i : ℕ) (held : List Holding) (l : ℕ) (p p' : Phase) where
  pub same_against : (mode : Mode) (k : ℕ) → against mode k (with_phase p' held) ≡ against mode k (with_phase p held)
  same_against S k = refl
  same_against Sx k = refl
  same_against X k = refl

  pub heeds_phase : (k : ℕ) (m : Marks) → Stands ss i (with_phase p held)
      → (owes_raise k p ≡ true → owes_raise k p' ≡ true) → (owes_signal k p ≡ true → owes_signal k p' ≡ true)
      → Heeds k m m ss (set ss i (with_phase p' held))
  heeds_phase k m at raise signal = record {
    rises = omega arith;
    ex_rises = omega arith;
    wakes = λ _ w. ⊎_elim (λ f. inl f) (λ o. inr (owed_set (owes_raise k) ss i (with_phase p held) (with_phase p' held) at raise o)) w;
    waits = λ _ _ mode w. ⊎_elim
        (λ (q : 0 < sum_by (against mode k) ss). inl (let s = sum_at (against mode k) ss i (with_phase p held) (with_phase p' held) at in let r = same_against mode k in omega arith))
        (λ o. inr (owed_set (owes_signal k) ss i (with_phase p held) (with_phase p' held) at signal o)) w;
  }

  pub drains_phase : (k : ℕ) (m m' : Marks) → Stands ss i (with_phase p held) → (owes_raise_ex k p ≡ true → owes_raise_ex k p' ≡ true) → Drains k m m' ss (set ss i (with_phase p' held))
  drains_phase k m m' at raise_ex _ d = ⊎_elim
      (λ (q : 0 < readers_of k ss). inl (let s = sum_at (reads k) ss i (with_phase p held) (with_phase p' held) at in omega arith))
      (λ o. inr (owed_set (owes_raise_ex k) ss i (with_phase p held) (with_phase p' held) at raise_ex o)) d

  pub phase_local : is_elsewhere l p ≡ false → is_elsewhere l p' ≡ false → IsLocal l (with_phase p held) (with_phase p' held)
  phase_local before after = record { before = before; after = after; away = λ k n f. refl }

  -- from what the session that becomes owner of X needs of the others
  pub phase_kept : (m m' : ℕ → Marks) → IsGood ss m → Stands ss i (with_phase p held) → is_elsewhere l p ≡ false → is_elsewhere l p' ≡ false → ((k : ℕ) → l ≢ k → m' k ≡ m k)
      → Suits p' (with_phase p' held)
      → ((j : ℕ) (b : Session) → Stands ss j b → i ≢ j → 0 < owned l (with_phase p' held) → reads l b ≡ 0)
      → Heard m' (set ss i (with_phase p' held)) p'
      → Heeds l (m l) (m' l) ss (set ss i (with_phase p' held)) → Drains l (m l) (m' l) ss (set ss i (with_phase p' held))
      → IsGood (set ss i (with_phase p' held)) m'
  phase_kept m m' good at before after same suits alone own heeds drains =
      good_local m m' ss i (with_phase p held) (with_phase p' held) l good at (phase_local before after) same
      (proper_phase held p p' (good.proper i (with_phase p held) at) suits)
      (λ j b e n.
      let ab = good.beside i j (with_phase p held) b at e n l in let ba = good.beside j i b (with_phase p held) e at (λ q. n (sym q)) l in
      (record { one_claim = ab.one_claim; none_reads = alone j b e n }, record { one_claim = ba.one_claim; none_reads = ba.none_reads }))
      own heeds (λ j c e n one. drains)

  -- the same session owns X as before
  pub owned_as_before : (m : ℕ → Marks) → IsGood ss m → Stands ss i (with_phase p held) → is_next l p' ≡ is_next l p
      → (j : ℕ) (b : Session) → Stands ss j b → i ≢ j → 0 < owned l (with_phase p' held) → reads l b ≡ 0
  owned_as_before m good at same j b e n has =
      let o : owned l (with_phase p' held) ≡ owned l (with_phase p held) = ap (λ b. cond b 0 (x_grants l (with_phase p held))) same in
      (good.beside i j (with_phase p held) b at e n l).none_reads (omega arith)
