-- The state at the start is good, and is what the machine counts.
use Rattle.std.proofs.Common.{◌≡◌, ℕ, zero, suc, ◌+◌, ◌≤◌, pos, List, [], ◌∷◌, ◌++◌, replicate, get_or, length, refl, sym, ap, ◌∙◌, subst, arith}
use Rattle.std.specs.List.{sum_by}
use Rattle.std.proofs.lemmas.Int.{ints}
use Rattle.std.proofs.lemmas.List.{length-replicate}
use mathlib.Core.Option.{some, some-ne-none, some-injective}
use lib.ListN.{get_elem?}
use Rattle.ib_word.specs.declared.word.LockWord.{LockWord}
use Rattle.ib_word.specs.declared.word.TheConstants.{X_LOCK_DECR}
use Rattle.ib_levels.proofs.Orderly.{orderly_nil}
use Rattle.ib_core.specs.declared.session.Session.{Session}
use Rattle.ib_core.specs.declared.session.Marks.{Marks}
use Rattle.ib_core.specs.Sessions.{Stands, idle, holdings, grants, taken, all_taken, word_on, reads, readers_of}
use Rattle.ib_core.specs.Good.{IsProper, IsGood, Heard, GoBeside, IsOwed, against, owes_raise, owes_raise_ex, owes_signal}
use Rattle.ib_core.specs.Machine.{marks_at, fresh, free_word}
use Rattle.ib_core.specs.Member.{SessionAmong, sessions_of, idle_among}
use Rattle.ib_core.specs.Keeping.{IsKept}
use Rattle.ib_core.proofs.Elements.{all_zero, at_snoc, at_longer}
use Rattle.ib_core.proofs.Heard.{Heeds, heard_move}
use Rattle.std.proofs.lemmas.List.Sums.{sum_by_push}
use Rattle.std.proofs.Common.{inl, inr, ⊎_elim, Bool, ◌<◌, ◌≢◌}
use Rattle.ib_core.specs.declared.phase.Phase.{Phase}
use Rattle.ib_core.proofs.Steps.{length_sessions}

pub at_replicate : {A : Type 0} (n i : ℕ) (x y : A) → get_elem? (replicate n x) i ≡ some y → y ≡ x
at_replicate zero i x y e = absurd (some-ne-none y (sym e))
at_replicate (suc n) zero x y e = sym (some-injective x y e)
at_replicate (suc n) (suc i) x y e = at_replicate n i x y e

get_replicate : {A : Type 0} (n i : ℕ) (x : A) → get_or (replicate n x) i x ≡ x
get_replicate zero i x = refl
get_replicate (suc n) zero x = refl
get_replicate (suc n) (suc i) x = get_replicate n i x

pub replicate_more : {A : Type 0} (n : ℕ) (x : A) → replicate n x ++ x ∷ [] ≡ replicate (n + 1) x
replicate_more {A} n x = subst (λ k. replicate n x ++ x ∷ [] ≡ replicate {A = A} k x) (let e : suc n ≡ n + 1 = omega arith in e) (more n)
  where
    more : (n : ℕ) → replicate n x ++ x ∷ [] ≡ replicate (suc n) x
    more zero = refl
    more (suc n) = ap (λ xs. x ∷ xs) (more n)

pub proper_idle : IsProper idle
proper_idle = record { single = λ l. omega arith; solid = λ l. omega arith; once = λ l. omega arith; apart = λ l p. absurd (omega arith); orderly = orderly_nil; suits = tt }

-- sessions that all hold nothing are a good state
pub good_idle : (n : ℕ) (m : ℕ → Marks) → IsGood (replicate n idle) m
good_idle n m = record {
  proper = λ i a e. subst IsProper (sym (at_replicate n i idle a e)) proper_idle;
  beside = λ i j a b e d _ l. record {
    one_claim = λ p. absurd (let z : Rattle.ib_core.specs.Sessions.claims l a ≡ 0 = ap (Rattle.ib_core.specs.Sessions.claims l) (at_replicate n i idle a e) in omega arith);
    none_reads = λ _. ap (Rattle.ib_core.specs.Sessions.reads l) (at_replicate n j idle b d);
  };
  heard = λ i a e. subst (λ (a : Session). Heard m (replicate n idle) a.phase) (sym (at_replicate n i idle a e)) tt;
}

-- one more session that holds nothing leaves a good state good, and each word as it is
pub good_push : (ss : List Session) (m : ℕ → Marks) → IsGood ss m → IsGood (ss ++ idle ∷ []) m
good_push ss m good = record {
  proper = at_snoc (λ _ a. IsProper a) ss idle proper_idle good.proper;
  beside = λ i j a b e d n l.
      at_snoc (λ i a. i ≢ j → GoBeside l a b) ss idle
      (λ _. record { one_claim = λ p. absurd (omega arith); none_reads = λ p. absurd (omega arith) })
      (λ i a e n'. at_snoc (λ j b. i ≢ j → GoBeside l a b) ss idle (λ _. record { one_claim = λ _. refl; none_reads = λ _. refl })
      (λ j b d n''. good.beside i j a b e d n'' l) j b d n')
      i a e n;
  heard = at_snoc (λ _ a. Heard m (ss ++ idle ∷ []) a.phase) ss idle tt
      (λ j b e. heard_move m m ss (ss ++ idle ∷ []) heeds b.phase
      (λ k _ _ d. ⊎_elim (λ (p : 0 < readers_of k ss). inl (let s = sum_by_push (reads k) ss idle in omega arith)) (λ o. inr (longer (owes_raise_ex k) o)) d)
      (good.heard j b e));
}
  where
    longer : (test : Phase → Bool) → IsOwed test ss → IsOwed test (ss ++ idle ∷ [])
    longer test o = record { by = o.by; session = o.session; stands = at_longer ss (idle ∷ []) o.by o.session o.stands; owes = o.owes }

    heeds : (k : ℕ) → Heeds k (m k) (m k) ss (ss ++ idle ∷ [])
    heeds k = record {
      rises = omega arith;
      ex_rises = omega arith;
      wakes = λ _ w. ⊎_elim (λ f. inl f) (λ o. inr (longer (owes_raise k) o)) w;
      waits = λ _ _ mode w. ⊎_elim (λ (p : 0 < sum_by (against mode k) ss). inl (let s = sum_by_push (against mode k) ss idle in omega arith)) (λ o. inr (longer (owes_signal k) o)) w;
    }

pub taken_push : (ss : List Session) (l : ℕ) → all_taken l (ss ++ idle ∷ []) ≡ all_taken l ss
taken_push ss l = let s = sum_by_push (taken l) ss idle in omega arith

-- the sessions of members that hold nothing
pub sessions_idle : (n latches : ℕ) → sessions_of (replicate n (idle_among latches)) ≡ replicate n idle
sessions_idle zero latches = refl
sessions_idle (suc n) latches = ap (λ ss. idle ∷ ss) (sessions_idle n latches)

pub opened : (sessions latches : ℕ) (members : List SessionAmong) (words : List LockWord) (marks : List Marks) → members ≡ replicate sessions (idle_among latches) → words ≡ replicate latches free_word → marks ≡ replicate latches fresh
    → sessions ≤ 1024 → IsKept members words marks 0
opened sessions latches members words marks members_are words_are marks_are few =
    let idles : sessions_of members ≡ replicate sessions idle = ap sessions_of members_are ∙ sessions_idle sessions latches in record {
      good = subst (λ ss. IsGood ss (marks_at marks)) (sym idles) (good_idle sessions (marks_at marks));
      few = let a = length_sessions members in let b = ap length idles in let c = length-replicate sessions idle in omega arith;
      bounded = omega arith;
      sized = ap length words_are ∙ (length-replicate latches free_word ∙ (sym (length-replicate latches fresh) ∙ sym (ap length marks_are)));
      counted = λ l within.
          ap (λ (ws : List LockWord). (get_or ws l free_word).0) words_are ∙ (ap (λ (w : LockWord). w.0) (get_replicate latches l free_word)
          ∙ (nothing l ∙ sym (ap (word_on l) idles)));
      granted = λ i a e l.
          let is = at_replicate sessions i idle a (subst (λ ss. Stands ss i a) idles e) in let g = ap (grants l) is in omega arith;
      raised = λ l. let g = ap (λ (ms : List Marks). (get_or ms l fresh).generation) marks_are in let h = ap (λ (z : Marks). z.generation) (get_replicate latches l fresh) in omega arith;
      ex_raised = λ l. let g = ap (λ (ms : List Marks). (get_or ms l fresh).ex_generation) marks_are in let h = ap (λ (z : Marks). z.ex_generation) (get_replicate latches l fresh) in omega arith;
      rooms = λ i m e.
          let n = ap length marks_are in let k = length-replicate latches fresh in
          let r = ap (λ (m : SessionAmong). m.latches) (at_replicate sessions i (idle_among latches) m (subst (λ (ms : List SessionAmong). get_elem? ms i ≡ some m) members_are e)) in omega arith;
    }
  where
    nothing : (l : ℕ) → pos X_LOCK_DECR ≡ word_on l (replicate sessions idle)
    nothing l = let z = all_zero (taken l) (replicate sessions idle) (λ i v e. ap (taken l) (at_replicate sessions i idle v e)) in omega (arith, ints)
