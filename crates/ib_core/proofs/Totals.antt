-- What all sessions take off the lock word of a latch.
use Rattle.std.proofs.Common.{◌≡◌, ◌≢◌, ℕ, suc, ◌+◌, ◌<◌, ◌≤◌, List, [], ◌∷◌, length, refl, sym, ap, arith}
use Rattle.std.specs.List.{sum_by}
use Rattle.std.proofs.lemmas.List.Sums.{sum_by-cons}
use mathlib.Core.Logic.{dite}
use native.Mathlib.Decide.{ℕ_discrete}
use Rattle.ib_word.specs.declared.word.TheConstants.{X_LOCK_DECR, X_LOCK_HALF_DECR}
use Rattle.ib_word.specs.Weight.{sx_weight, x_weight}
use Rattle.ib_word.proofs.Equation.{sx_weight_cases, x_weight_cases, x_weight_least, claim_least}
use Rattle.ib_core.specs.declared.session.Session.{Session}
use Rattle.ib_core.specs.Sessions.{Stands, reads, sx_grants, x_grants, claims, taken, all_taken, readers_of}
use Rattle.ib_core.specs.Good.{IsProper, against}
use Rattle.ib_levels.specs.declared.level.Mode.{Mode}
use Rattle.ib_levels.specs.declared.level.Mode.TheVariants.{S, Sx, X}
use Rattle.ib_core.proofs.Elements.{one_of, two_of, only_one, sum_more}
use Rattle.ib_core.proofs.OnLatch.{counted}

-- who takes off less than X_LOCK_DECR has no X, and who takes off less than HALF has no SX either
pub no_x : (l : ℕ) (b : Session) → IsProper b → taken l b < X_LOCK_DECR → x_grants l b ≡ 0
no_x l b proper low = let c = counted l b (proper.single l) in dite (ℕ_discrete (x_grants l b) 0) (λ z. z) (λ n. let p = x_weight_least (x_grants l b) (omega arith) in absurd (omega arith))

pub no_claim : (l : ℕ) (b : Session) → IsProper b → taken l b < X_LOCK_HALF_DECR → claims l b ≡ 0
no_claim l b proper low = let c = counted l b (proper.single l) in dite (ℕ_discrete (claims l b) 0) (λ z. z) (λ n. let p = claim_least (sx_grants l b) (x_grants l b) (omega arith) in absurd (omega arith))

-- who claims nothing takes off what it reads, and who has one claim takes that off alone
pub reader_taken : (l : ℕ) (b : Session) → IsProper b → claims l b ≡ 0 → taken l b ≡ reads l b
reader_taken l b proper none =
    let c = counted l b (proper.single l) in let p = sx_weight_cases (sx_grants l b) in let q = x_weight_cases (x_grants l b) in grind arith

pub reads_taken : (l : ℕ) (b : Session) → IsProper b → reads l b ≤ taken l b
reads_taken l b proper = let c = counted l b (proper.single l) in omega arith

-- a sum of numbers that are 1 at most
sum_short : (f : Session → ℕ) (ss : List Session) → ((i : ℕ) (b : Session) → Stands ss i b → f b ≤ 1) → sum_by f ss ≤ length ss
sum_short f [] few = omega arith
sum_short f (b ∷ ss) few = let a = sum_by-cons f b ss in let h = sum_short f ss (λ i c e. few (suc i) c e) in let p : f b ≤ 1 = few 0 b refl in omega arith

-- the readers' takings are their number, and the one claimer's what its claim is
pub taken_bound : (l c : ℕ) (ss : List Session) → ((i : ℕ) (a : Session) → Stands ss i a → IsProper a)
    → ((i j : ℕ) (a b : Session) → Stands ss i a → Stands ss j b → i ≢ j → 0 < claims l a → claims l b ≡ 0)
    → ((i : ℕ) (a : Session) → Stands ss i a → sx_weight (sx_grants l a) + x_weight (x_grants l a) ≤ c)
    → all_taken l ss ≤ readers_of l ss + c
taken_bound l c [] proper one each = omega arith
taken_bound l c (a ∷ ss) proper one each =
    let s = sum_by-cons (taken l) a ss in let r = sum_by-cons (reads l) a ss in let k = counted l a ((proper 0 a refl).single l) in
    dite (ℕ_discrete (claims l a) 0)
    (λ none.
    let t = reader_taken l a (proper 0 a refl) none in
    let h = taken_bound l c ss (λ i b e. proper (suc i) b e) (λ i j b d e f n. one (suc i) (suc j) b d e f (λ q. n (omega arith))) (λ i b e. each (suc i) b e) in omega arith)
    (λ some.
    let w = each 0 a refl in
    let h = sum_more (taken l) (reads l) ss (λ i b e. let z = one 0 (suc i) a b refl e (λ q. omega arith) (omega arith) in let t = reader_taken l b (proper (suc i) b e) z in omega arith) in omega arith)

-- there are no more readers than sessions
pub readers_few : (l : ℕ) (ss : List Session) → ((i : ℕ) (a : Session) → Stands ss i a → IsProper a) → readers_of l ss ≤ length ss
readers_few l ss proper = sum_short (reads l) ss (λ i b e. (proper i b e).once l)

module _ (l : ℕ) (ss : List Session) (proper : (i : ℕ) (a : Session) → Stands ss i a → IsProper a)
    (one : (i j : ℕ) (a b : Session) → Stands ss i a → Stands ss j b → i ≢ j → 0 < claims l a → claims l b ≡ 0) where
  -- where the word is above 0 nobody has X, and where it is above HALF nobody claims
  pub nobody_x : all_taken l ss < X_LOCK_DECR → (j : ℕ) (b : Session) → Stands ss j b → x_grants l b ≡ 0
  nobody_x low j b e = let t = one_of (taken l) ss j b e in no_x l b (proper j b e) (omega arith)

  pub nobody_claims : all_taken l ss < X_LOCK_HALF_DECR → (j : ℕ) (b : Session) → Stands ss j b → claims l b ≡ 0
  nobody_claims low j b e = let t = one_of (taken l) ss j b e in no_claim l b (proper j b e) (omega arith)

  -- where one takes off all that is taken, nobody else reads
  pub nobody_reads : (i : ℕ) (a : Session) → Stands ss i a → all_taken l ss ≡ taken l a → (j : ℕ) (b : Session) → Stands ss j b → i ≢ j → reads l b ≡ 0
  nobody_reads i a at whole j b e n = let t = two_of (taken l) ss i j a b at e n in let r = reads_taken l b (proper j b e) in omega arith

  -- a claimer takes off all where nobody reads
  pub claimer_whole : (i : ℕ) (a : Session) → Stands ss i a → 0 < claims l a → readers_of l ss ≡ 0 → all_taken l ss ≡ taken l a
  claimer_whole i a at has none = only_one (taken l) ss i a at (λ j b e n.
      let z = one i j a b at e (λ q. n (sym q)) has in let t = reader_taken l b (proper j b e) z in let r = one_of (reads l) ss j b e in omega arith)

  -- where nobody has X the word is that of readers and the one claimer, and where nobody claims it is that of readers
  pub few_taken : sum_by (x_grants l) ss ≡ 0 → all_taken l ss ≤ readers_of l ss + X_LOCK_HALF_DECR
  few_taken none = taken_bound l X_LOCK_HALF_DECR ss proper one
      (λ i a e. let z = one_of (x_grants l) ss i a e in let x : x_weight (x_grants l a) ≡ 0 = ap x_weight (let q : x_grants l a ≡ 0 = omega arith in q) in let p = sx_weight_cases (sx_grants l a) in grind arith)

  read_alone : sum_by (claims l) ss ≡ 0 → all_taken l ss ≤ readers_of l ss
  read_alone none = sum_more (taken l) (reads l) ss (λ i b e. let z = one_of (claims l) ss i b e in let t = reader_taken l b (proper i b e) (omega arith) in omega arith)

  -- among few readers a word that refuses a wish has somebody against it
  pub refused_wish : readers_of l ss ≤ 1024 → (mode : Mode) → (mode ≡ S → X_LOCK_DECR ≤ all_taken l ss) → X_LOCK_HALF_DECR ≤ all_taken l ss → 0 < sum_by (against mode l) ss
  refused_wish few S full half = dite (ℕ_discrete (sum_by (x_grants l) ss) 0)
      (λ none. let bound = few_taken none in let h = full refl in absurd (omega arith))
      (λ n. omega arith)
  refused_wish few Sx full half = dite (ℕ_discrete (sum_by (claims l) ss) 0) (λ none. let b = read_alone none in absurd (omega arith)) (λ n. omega arith)
  refused_wish few X full half = dite (ℕ_discrete (sum_by (claims l) ss) 0) (λ none. let b = read_alone none in absurd (omega arith)) (λ n. omega arith)
