-- An event that takes a grant keeps a good state good, from what is so on its latch.
use Rattle.std.proofs.Common.{◌≡◌, ◌≢◌, ℕ, ◌+◌, ◌<◌, ◌≤◌, inl, inr, ⊎_elim, Bool, true, false, cond, List, set, refl, sym, ◌∙◌, arith}
use Rattle.std.specs.List.{sum_by}
use Rattle.ib_levels.specs.declared.level.Mode.{Mode}
use Rattle.ib_levels.specs.declared.level.Mode.TheVariants.{S, Sx, X}
use Rattle.ib_levels.specs.Level.{IsOrderly}
use Rattle.ib_levels.specs.Holding.{levels_of}
use Rattle.ib_levels.proofs.Counts.{on_le}
use Rattle.ib_core.specs.declared.phase.Phase.{Phase}
use Rattle.ib_core.specs.declared.session.Session.{Session}
use Rattle.ib_core.specs.declared.session.Marks.{Marks}
use Rattle.ib_core.specs.Sessions.{Stands, is_next, reads, claims, x_grants, owned, readers_of}
use Rattle.ib_core.specs.Good.{Suits, GoBeside, IsOwed, Heard, IsGood, against, owes_raise, owes_raise_ex, owes_signal}
use Rattle.ib_core.proofs.Elements.{sum_at}
use Rattle.ib_core.proofs.Heard.{owed_set}
use Rattle.ib_core.proofs.Kept.{IsLocal, ProperOn, proper_local, good_local}
use Rattle.ib_core.proofs.Waiting.{OwesNothing}

-- what is owned is claimed
pub owned_le : (l : ℕ) (b : Session) → owned l b ≤ claims l b
owned_le l b = less (is_next l b.phase) (on_le l (λ h. h.x) (λ h. h.sx + h.x) b.held (λ h. omega arith))
  where
    less : (c : Bool) → x_grants l b ≤ claims l b → cond c 0 (x_grants l b) ≤ claims l b
    less true p = omega arith
    less false p = p

-- beside a session that claims nobody else claims, and nobody reads where it owns X
pub beside_claimer : (l : ℕ) (a b : Session) → claims l b ≡ 0 → (0 < owned l a → reads l b ≡ 0) → GoBeside l a b × GoBeside l b a
beside_claimer l a b none alone =
    let o = owned_le l b in (record { one_claim = λ _. none; none_reads = alone }, record { one_claim = λ p. absurd (omega arith); none_reads = λ p. absurd (omega arith) })

-- beside a reader nobody owns X
pub beside_reader : (l : ℕ) (a b : Session) → claims l a ≡ 0 → owned l b ≡ 0 → GoBeside l a b × GoBeside l b a
beside_reader l a b none nobody =
    let o = owned_le l a in (record { one_claim = λ p. absurd (omega arith); none_reads = λ p. absurd (omega arith) }, record { one_claim = λ _. none; none_reads = λ p. absurd (omega arith) })

-- the session has as much on the latch as before, or more
pub record Grows (l : ℕ) (a a' : Session) : Type 0 where
  pub more_reads : reads l a ≤ reads l a'
  pub more_x : x_grants l a ≤ x_grants l a'
  pub more_claims : claims l a ≤ claims l a'

pub grown : (m : ℕ → Marks) (ss : List Session) (i : ℕ) (l : ℕ) (a a' : Session) → IsGood ss m → Stands ss i a → IsLocal l a a' → OwesNothing a.phase
    → ProperOn l a' → IsOrderly (levels_of a'.held) → Suits a'.phase a' → Grows l a a'
    → ((j : ℕ) (b : Session) → Stands ss j b → i ≢ j → GoBeside l a' b × GoBeside l b a')
    → Heard m (set ss i a') a'.phase → IsGood (set ss i a') m
grown m ss i l a a' good at local quiet proper orderly suits grows beside own =
    good_local m m ss i a a' l good at local (λ k n. refl) (proper_local l a a' (good.proper i a at) local proper orderly suits) beside own
    record {
      rises = omega arith;
      ex_rises = omega arith;
      wakes = λ _ w. ⊎_elim (λ f. inl f) (λ o. inr (stays (owes_raise l) (quiet.raise l) o)) w;
      waits = λ _ _ mode w. ⊎_elim (λ (p : 0 < sum_by (against mode l) ss). inl (let s = sum_at (against mode l) ss i a a' at in let r = more mode in omega arith)) (λ o. inr (stays (owes_signal l) (quiet.signal l) o)) w;
    }
    (λ j c e n one _ d. ⊎_elim (λ (p : 0 < readers_of l ss). inl (let s = sum_at (reads l) ss i a a' at in let r = grows.more_reads in omega arith)) (λ o. inr (stays (owes_raise_ex l) (quiet.raise_ex l) o)) d)
  where
    stays : (test : Phase → Bool) → test a.phase ≡ false → IsOwed test ss → IsOwed test (set ss i a')
    stays test not_so = owed_set test ss i a a' at (λ so. let z : true ≡ false = sym so ∙ not_so in absurd (cc))

    more : (mode : Mode) → against mode l a ≤ against mode l a'
    more S = grows.more_x
    more Sx = grows.more_claims
    more X = grows.more_claims
