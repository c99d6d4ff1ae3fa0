-- The session makes its own turn on the word found.
use Rattle.std.proofs.Common.{◌≡◌, ◌≢◌, ℕ, ◌+◌, ◌^◌, ◌≤◌, ℤ, refl, sym, subst, arith}
use Rattle.std.proofs.lemmas.Int.{ints}
use Rattle.ib_word.specs.Word.{word_in}
use Rattle.ib_word.proofs.Equation.{sx_weight_cases, x_weight_cases}
use Rattle.ib_core.specs.declared.event.Event.{Event}
use Rattle.ib_core.specs.declared.session.Session.{Session}
use Rattle.ib_core.specs.declared.session.Marks.{Marks}
use Rattle.ib_core.specs.Sessions.{grants, holdings, sx_grants, x_grants}
use Rattle.ib_core.specs.Good.{IsProper}
use Rattle.ib_core.specs.Member.{CanStep}
use Rattle.ib_core.specs.Table.{response_of}
use Rattle.ib_core.proofs.OnLatch.{counted}
use Rattle.ib_core.specs.declared.latch_word.LatchWord.{LatchWord}
use Rattle.ib_core.specs.declared.latch_word.LatchWord.TheVariants.{Lock, Waiters, Writer, Generation, ExGeneration}
use Rattle.ib_core.specs.Turns.{word_for, marks_found, Tells}
use Rattle.ib_rule.specs.Told.{CanBe}
use Rattle.ib_core.proofs.OneWord.{response_same}

module _ (l : ℕ) (a : Session) (proper : IsProper a) (few : (l : ℕ) → grants l a ≤ 8192) where
  pub can_lock : (n : ℕ) → CanBe Lock l a n → (w : ℤ) → w ≡ word_in n → CanStep l w a
  can_lock n found w is = let f = few l in let low = found.1 in let high = found.0 in
      record { proper = proper; few = omega arith; low = omega (arith, ints); high = omega (arith, ints) }

  pub can_mark : CanStep l (lib.IntN.negsuc 1073741823) a
  can_mark =
      let f = few l in let c = counted l a (proper.single l) in let p = sx_weight_cases (sx_grants l a) in let q = x_weight_cases (x_grants l a) in let r = proper.once l in
      let small : Rattle.ib_core.specs.Sessions.taken l a ≤ 2 ^ 30 + 2 ^ 29 = grind arith in
      record { proper = proper; few = omega arith; low = omega (arith, ints); high = omega (arith, ints) }

pub own_lock : (a : Session) (e : Event) (n : ℕ) (w : ℤ) (m : Marks) → ((l : ℕ) → holdings l a ≤ 1) → word_for e a ≡ Lock → w ≡ word_in n → response_of w m e a ≡ response_of (word_in n) (marks_found n) e a
own_lock a e n w m single is at = sym (response_same n w m a.held single a.phase e (subst (λ c. Tells c n w m) (sym is) (sym at)))

tells_itself : (c : LatchWord) (n : ℕ) (w : ℤ) → c ≢ Lock → Tells c n w (marks_found n)
tells_itself Lock n w off = absurd (off refl)
tells_itself Waiters n w off = refl
tells_itself Writer n w off = tt
tells_itself Generation n w off = refl
tells_itself ExGeneration n w off = refl

pub own_mark : (a : Session) (e : Event) (n : ℕ) (w : ℤ) → ((l : ℕ) → holdings l a ≤ 1) → word_for e a ≢ Lock → response_of w (marks_found n) e a ≡ response_of (word_in n) (marks_found n) e a
own_mark a e n w single off = sym (response_same n w (marks_found n) a.held single a.phase e (tells_itself (word_for e a) n w off))

pub own_writer : (a : Session) (e : Event) (n n' : ℕ) → ((l : ℕ) → holdings l a ≤ 1) → word_for e a ≡ Writer → response_of (word_in n) (marks_found n) e a ≡ response_of (word_in n') (marks_found n') e a
own_writer a e n n' single is = response_same n (word_in n') (marks_found n') a.held single a.phase e (subst (λ c. Tells c n (word_in n') (marks_found n')) (sym is) tt)
