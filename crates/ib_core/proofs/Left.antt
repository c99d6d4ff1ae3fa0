-- The word that an event leaves is the machine's after it, and each raise is owed.
use Rattle.std.proofs.Common.{◌≡◌, ◌≢◌, ℕ, ◌+◌, ◌<◌, ◌≤◌, ◌⊎◌, inl, inr, ⊎_elim, Bool, true, false, ℤ, refl, sym, ap, ◌∙◌, arith}
use Rattle.std.specs.Prelude.{◌==◌, not, nat_lt}
use Rattle.std.proofs.lemmas.Int.{ints}
use Rattle.std.proofs.lemmas.Bool.Decides.{nat_tests}
use Rattle.ib_levels.specs.declared.level.Level.{Level}
use Rattle.ib_levels.specs.declared.level.Mode.{Mode}
use Rattle.ib_core.specs.declared.latch_word.LatchWord.{LatchWord}
use Rattle.ib_core.specs.declared.latch_word.LatchWord.TheVariants.{Lock, Waiters, Writer, Generation, ExGeneration}
use Rattle.ib_core.specs.declared.phase.Phase.{Phase}
use Rattle.ib_core.specs.declared.phase.Phase.TheVariants.{Armed, OwesClear, OwesRaise, OwesRaiseEx}
use Rattle.ib_core.specs.declared.event.Event.{Event}
use Rattle.ib_core.specs.declared.event.Event.TheVariants.{Flag, Clear, Raise}
use Rattle.ib_core.specs.declared.session.Session.{Session}
use Rattle.ib_core.specs.declared.session.Marks.{Marks}
use Rattle.ib_core.specs.Sessions.{taken}
use Rattle.ib_core.specs.Member.{SameSum}
use Rattle.ib_core.specs.Good.{IsProper}
use Rattle.ib_core.specs.Responses.{Response, latch_of, is_elsewhere}
use Rattle.ib_core.specs.Table.{marks_after, marks_by, flag_marks, clear_marks, raised_by, turn_of}
use Rattle.ib_core.specs.Turns.{Leaves, Tells, flag_word, mark_in, marks_found, turn_at, with_mark, word_for, writes_mark}
use Rattle.ib_core.proofs.NumberTests.{if_false}
use Rattle.ib_core.proofs.OneWord.{response_same, marks_with}
use Rattle.ib_core.proofs.Quiet.{at_itself, here}
use Rattle.ib_core.proofs.Turned.{choose}

-- what is left is the word after the event
module _ (e : Event) (a : Session) (n n' : ℕ) (w w' : ℤ) (m after : Marks) (session : Session) where
  left_by : (c : LatchWord) → Tells c n w m → Leaves c e a n n' → Path Session (turn_at e n a).session session → with_mark c (mark_in c (turn_at e n a).marks) m ≡ after
      → SameSum (latch_of e) w a w' session → Tells c n' w' after
  left_by Lock tells leaves same marked moves = let t = ap (λ (a : Session). taken (latch_of e) a) same in omega (arith, ints)
  left_by Waiters tells leaves same marked moves = ap (λ (k : ℕ). nat_lt 0 k) leaves ∙ ap (λ (m : Marks). m.waiters) marked
  left_by Writer tells leaves same marked moves = tt
  left_by Generation tells leaves same marked moves = leaves ∙ ap (λ (m : Marks). m.generation) marked
  left_by ExGeneration tells leaves same marked moves = leaves ∙ ap (λ (m : Marks). m.ex_generation) marked

pub left_tells : (e : Event) (n n' : ℕ) (w w' : ℤ) (m : Marks) (a : Session) → IsProper a → Tells (word_for e a) n w m → Leaves (word_for e a) e a n n'
    → SameSum (latch_of e) w a w' (turn_of w m e a).session → Tells (word_for e a) n' w' (turn_of w m e a).marks
left_tells e n n' w w' m a proper tells leaves moves =
    left_by e a n n' w w' m (turn_of w m e a).marks (turn_of w m e a).session (word_for e a) tells leaves
    (ap (λ (r : Response). r.session) (response_same n w m a.held proper.single a.phase e tells)) (marks_with n w m a.held a.phase e tells) moves

-- an event that writes no mark leaves them
module _ (m : Marks) where
  flag_stays : (e : Event) → writes_mark e ≡ false → flag_marks e m ≡ m
  flag_stays (Flag l) is = absurd (cc)
  flag_stays e is = refl

  clear_stays : (e : Event) → writes_mark e ≡ false → clear_marks e m ≡ m
  clear_stays (Clear l) is = absurd (cc)
  clear_stays e is = refl

  raise_stays : (e : Event) (g : ℕ) → writes_mark e ≡ false → raised_by e g ≡ g
  raise_stays (Raise l) g is = absurd (cc)
  raise_stays e g is = refl

  by_stays : (p : Phase) (e : Event) → writes_mark e ≡ false → marks_by p e m ≡ m
  by_stays (Armed k mode v g) e is = flag_stays e is
  by_stays (OwesClear k) e is = clear_stays e is
  by_stays (OwesRaise k) e is = ap (λ (g : ℕ). record m { generation = g }) (raise_stays e m.generation is)
  by_stays (OwesRaiseEx k) e is = ap (λ (g : ℕ). record m { ex_generation = g }) (raise_stays e m.ex_generation is)
  by_stays p e is = refl

  marks_stay : (p : Phase) (e : Event) → writes_mark e ≡ false → marks_after p e m ≡ m
  marks_stay p e is = choose (λ (m' : Marks). m' ≡ m) (is_elsewhere (latch_of e) p) _ _ (λ _. refl) (λ _. by_stays p e is)

flag_keeps : (n : ℕ) → n ≤ 1 → n ≡ flag_word (nat_lt 0 n)
flag_keeps n small = by_test (nat_lt 0 n) refl
  where
    by_test : (b : Bool) → nat_lt 0 n ≡ b → n ≡ flag_word b
    by_test true e = let s : 0 < n = grind (arith, nat_tests) in omega arith
    by_test false e = grind (arith, nat_tests)

pub reads_leave : (c : LatchWord) (e : Event) (a : Session) (n : ℕ) → c ≢ Lock → writes_mark e ≡ false → (c ≡ Waiters → n ≤ 1) → Leaves c e a n n
reads_leave Lock e a n off is small = absurd (off refl)
reads_leave Writer e a n off is small = refl
reads_leave Waiters e a n off is small = flag_keeps n (small refl) ∙ sym (ap (λ (m : Marks). flag_word m.waiters) (marks_stay (marks_found n) a.phase e is))
reads_leave Generation e a n off is small = sym (ap (λ (m : Marks). m.generation) (marks_stay (marks_found n) a.phase e is))
reads_leave ExGeneration e a n off is small = sym (ap (λ (m : Marks). m.ex_generation) (marks_stay (marks_found n) a.phase e is))

-- what a flag, a clear and a raise leave
pub flag_leaves : (l n g : ℕ) (mode : Mode) (v : Level) (a : Session) → a.phase ≡ Armed l mode v g → Leaves Waiters (Flag l) a n 1
flag_leaves l n g mode v a is = sym (ap (λ (m : Marks). flag_word m.waiters) (ap (λ p. marks_after p (Flag l) (marks_found n)) is ∙ if_false (not (l == l)) _ _ (at_itself l)))

pub clear_leaves : (l n : ℕ) (a : Session) → a.phase ≡ OwesClear l → Leaves Waiters (Clear l) a n 0
clear_leaves l n a is = sym (ap (λ (m : Marks). flag_word m.waiters) (ap (λ p. marks_after p (Clear l) (marks_found n)) is ∙ if_false (not (l == l)) _ _ (at_itself l)))

pub raise_leaves : (l n : ℕ) (a : Session) → a.phase ≡ OwesRaise l → Leaves Generation (Raise l) a n (n + 1)
raise_leaves l n a is = sym (ap (λ (m : Marks). m.generation) (ap (λ p. marks_after p (Raise l) (marks_found n)) is ∙ if_false (not (l == l)) _ _ (at_itself l)))

pub ex_raise_leaves : (l n : ℕ) (a : Session) → a.phase ≡ OwesRaiseEx l → Leaves ExGeneration (Raise l) a n (n + 1)
ex_raise_leaves l n a is = sym (ap (λ (m : Marks). m.ex_generation) (ap (λ p. marks_after p (Raise l) (marks_found n)) is ∙ if_false (not (l == l)) _ _ (at_itself l)))

-- each raise is owed
module _ (m : Marks) where
  flag_raises : (e : Event) → ((flag_marks e m).generation ≡ m.generation) × ((flag_marks e m).ex_generation ≡ m.ex_generation)
  flag_raises (Flag l) = (refl, refl)
  flag_raises e = (refl, refl)

  clear_raises : (e : Event) → ((clear_marks e m).generation ≡ m.generation) × ((clear_marks e m).ex_generation ≡ m.ex_generation)
  clear_raises (Clear l) = (refl, refl)
  clear_raises e = (refl, refl)

  raise_by_one : (e : Event) (g : ℕ) → (raised_by e g ≡ g) ⊎ (raised_by e g ≡ g + 1)
  raise_by_one (Raise l) g = inr refl
  raise_by_one e g = inl refl

  abbrev Raised : Event → Phase → Marks → Type 0
  Raised e p after = (after.generation ≡ m.generation) ⊎ ((p ≡ OwesRaise (latch_of e)) × (after.generation ≡ m.generation + 1))

  abbrev ExRaised : Event → Phase → Marks → Type 0
  ExRaised e p after = (after.ex_generation ≡ m.ex_generation) ⊎ ((p ≡ OwesRaiseEx (latch_of e)) × (after.ex_generation ≡ m.ex_generation + 1))

  raised_in : (p : Phase) (e : Event) → is_elsewhere (latch_of e) p ≡ false → Raised e p (marks_by p e m)
  raised_in (Armed k mode v g) e at = inl (flag_raises e).0
  raised_in (OwesClear k) e at = inl (clear_raises e).0
  raised_in (OwesRaise k) e at = ⊎_elim (λ (same : raised_by e m.generation ≡ m.generation). inl same)
      (λ (more : raised_by e m.generation ≡ m.generation + 1). inr (ap (λ k. OwesRaise k) (here k (latch_of e) at), more)) (raise_by_one e m.generation)
  raised_in p e at = inl refl

  ex_raised_in : (p : Phase) (e : Event) → is_elsewhere (latch_of e) p ≡ false → ExRaised e p (marks_by p e m)
  ex_raised_in (Armed k mode v g) e at = inl (flag_raises e).1
  ex_raised_in (OwesClear k) e at = inl (clear_raises e).1
  ex_raised_in (OwesRaiseEx k) e at = ⊎_elim (λ (same : raised_by e m.ex_generation ≡ m.ex_generation). inl same)
      (λ (more : raised_by e m.ex_generation ≡ m.ex_generation + 1). inr (ap (λ k. OwesRaiseEx k) (here k (latch_of e) at), more)) (raise_by_one e m.ex_generation)
  ex_raised_in p e at = inl refl

  pub raise_owed : (p : Phase) (e : Event) → ((marks_after p e m).generation ≡ m.generation) ⊎ ((p ≡ OwesRaise (latch_of e)) × ((marks_after p e m).generation ≡ m.generation + 1))
  raise_owed p e = choose (λ (after : Marks). Raised e p after) (is_elsewhere (latch_of e) p) _ _ (λ _. inl refl) (λ at. raised_in p e at)

  pub ex_raise_owed : (p : Phase) (e : Event) → ((marks_after p e m).ex_generation ≡ m.ex_generation) ⊎ ((p ≡ OwesRaiseEx (latch_of e)) × ((marks_after p e m).ex_generation ≡ m.ex_generation + 1))
  ex_raise_owed p e = choose (λ (after : Marks). ExRaised e p after) (is_elsewhere (latch_of e) p) _ _ (λ _. inl refl) (λ at. ex_raised_in p e at)
