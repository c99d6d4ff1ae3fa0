-- Each turn is a step on one word of its latch: it reads no other word, marks no other, and leaves what is taken off the lock word where it is no step on that.
use Rattle.std.proofs.Common.{◌≡◌, ◌≢◌, ℕ, ◌+◌, ◌≤◌, Bool, true, false, ℤ, List, refl, ap, ◌∙◌, subst, arith}
use Rattle.std.specs.Prelude.{◌==◌, nat_lt, if◌then◌else◌, Result, Ok, Err}
use Rattle.ib_word.specs.Word.{word_in}
use Rattle.ib_levels.specs.declared.level.Level.{Level}
use Rattle.ib_levels.specs.declared.level.Mode.{Mode}
use Rattle.ib_levels.specs.declared.level.Mode.TheVariants.{Sx as ModeSx}
use Rattle.ib_levels.specs.declared.holding.Holding.{Holding}
use Rattle.ib_levels.specs.declared.listed.Against.{Against as LevelsAgainst}
use Rattle.ib_levels.specs.Listed.{answer_to}
use Rattle.ib_levels.specs.Holding.{is_held, levels_of, changed_on}
use Rattle.ib_core.specs.declared.phase.Phase.{Phase}
use Rattle.ib_core.specs.declared.phase.Phase.TheVariants.{Free, Armed, Flagged, Checked, Asleep, Next, NextArmed, NextChecked, NextAsleep, OwesLook, OwesClear, OwesRaise, OwesRaiseEx}
use Rattle.ib_core.specs.declared.event.Event.{Event}
use Rattle.ib_core.specs.declared.event.Event.TheVariants.{S, Sx, X, Us, Usx, Ux, Arm, Flag, Again, Quit, Sleep, Ready, Exarm, Look, Clear, Raise}
use Rattle.ib_core.specs.declared.event.Answer.TheVariants.{Granted}
use Rattle.ib_core.specs.declared.event.Refusal.TheVariants.{OutOfTurn, HeldAlready}
use Rattle.ib_core.specs.declared.session.Marks.{Marks}
use Rattle.ib_core.specs.Sessions.{reads, claims, sx_grants, holdings, taken}
use Rattle.ib_core.specs.Takings.{first, where_allowed, if_allowed, taking_s, taking_sx, taking_x, giving_s, giving_sx, one_more}
use Rattle.ib_core.specs.Responses.{Response, response, refused, latch_of, is_elsewhere}
use Rattle.ib_core.specs.Table.{owns_x_at, arming, readying, free_row, armed_row, flagged_row, checked_row, asleep_row, next_row, next_armed_row, next_waits_row, owes_look_row, owes_clear_row, owes_raise_row, row_of, response_of, marks_by, marks_after, flag_marks, clear_marks, raised_by}
use Rattle.ib_core.specs.Good.{IsProper}
use Rattle.ib_core.proofs.NumberTests.{lt_none, none_by, some_by, several_by}
use Rattle.ib_core.proofs.OnLatch.{counted}
use Rattle.ib_core.proofs.Phased.{with_phase}
use Rattle.ib_core.proofs.Turned.{choose}
use Rattle.ib_core.proofs.Weighs.{further_sx_taken, back_more_sx_taken}
use Rattle.ib_core.specs.declared.latch_word.LatchWord.{LatchWord}
use Rattle.ib_core.specs.declared.latch_word.LatchWord.TheVariants.{Lock, Waiters, Writer, Generation, ExGeneration}
use Rattle.ib_core.specs.Turns.{Tells, flag_word, mark_in, marks_found, with_mark, word_for}

module _ (n : ℕ) (w : ℤ) (m : Marks) (held : List Holding) (single : (l : ℕ) → holdings l (with_phase Free held) ≤ 1) where
  -- a further SX reads no word
  sx_same : (l : ℕ) (v : Level) → Tells (word_for (Sx l v) (with_phase Free held)) n w m → taking_sx l v (word_in n) (with_phase Free held) ≡ taking_sx l v w (with_phase Free held)
  sx_same l v t = by_claim (nat_lt 0 (claims l (with_phase Free held))) refl
    where
      by_claim : (b : Bool) → nat_lt 0 (claims l (with_phase Free held)) ≡ b → taking_sx l v (word_in n) (with_phase Free held) ≡ taking_sx l v w (with_phase Free held)
      by_claim true e = by_true (nat_lt 0 (claims l (with_phase Free held))) e
        where
          by_true : (b : Bool) → b ≡ true
              → (if nat_lt 0 (reads l (with_phase Free held)) then refused HeldAlready (with_phase Free held) else where_allowed l v (with_phase Free held) (if b then response Granted (changed_on l (one_more ModeSx) held) Free else first ModeSx l v Free (word_in n) held))
              ≡ (if nat_lt 0 (reads l (with_phase Free held)) then refused HeldAlready (with_phase Free held) else where_allowed l v (with_phase Free held) (if b then response Granted (changed_on l (one_more ModeSx) held) Free else first ModeSx l v Free w held))
          by_true true q = refl
          by_true false q = absurd (cc)
      by_claim false e =
          let c = counted l (with_phase Free held) (single l) in
          let no_claim : claims l (with_phase Free held) ≡ 0 = none_by (claims l (with_phase Free held)) e in
          let no_sx : nat_lt 0 (sx_grants l (with_phase Free held)) ≡ false = lt_none (sx_grants l (with_phase Free held)) (omega arith) in
          let on_lock : word_in n ≡ w = subst (λ b. Tells (if b then Writer else Lock) n w m) no_sx t in
          ap (λ (w : ℤ). taking_sx l v w (with_phase Free held)) on_lock

  free_same : (e : Event) → Tells (word_for e (with_phase Free held)) n w m → free_row (word_in n) n e (with_phase Free held) ≡ free_row w m.generation e (with_phase Free held)
  free_same (S l v) t = ap (λ (w : ℤ). taking_s l v w (with_phase Free held)) t
  free_same (Sx l v) t = sx_same l v t
  free_same (X l v) t = ap (λ (w : ℤ). taking_x l v w (with_phase Free held)) t
  free_same (Us l) t = ap (λ (w : ℤ). giving_s l w (with_phase Free held)) t
  free_same (Usx l) t = refl
  free_same (Ux l) t = refl
  free_same (Arm l mode v) t = ap (λ (g : ℕ). arming l mode v g (with_phase Free held)) t
  free_same e t = refl

  flagged_same : (k : ℕ) (mode : Mode) (v : Level) (g : ℕ) (e : Event) → Tells (word_for e (with_phase (Flagged k mode v g) held)) n w m
      → flagged_row mode v g (word_in n) e (with_phase (Flagged k mode v g) held) ≡ flagged_row mode v g w e (with_phase (Flagged k mode v g) held)
  flagged_same k mode v g (Again l) t = ap (λ (w : ℤ). flagged_row mode v g w (Again l) (with_phase (Flagged k mode v g) held)) t
  flagged_same k mode v g e t = refl

  checked_same : (k : ℕ) (mode : Mode) (v : Level) (g : ℕ) (e : Event) → Tells (word_for e (with_phase (Checked k mode v g) held)) n w m
      → checked_row mode v g n e (with_phase (Checked k mode v g) held) ≡ checked_row mode v g m.generation e (with_phase (Checked k mode v g) held)
  checked_same k mode v g (Sleep l) t = ap (λ (now : ℕ). checked_row mode v g now (Sleep l) (with_phase (Checked k mode v g) held)) t
  checked_same k mode v g e t = refl

  asleep_same : (k : ℕ) (mode : Mode) (v : Level) (g : ℕ) (e : Event) → Tells (word_for e (with_phase (Asleep k mode v g) held)) n w m
      → asleep_row mode v g n e (with_phase (Asleep k mode v g) held) ≡ asleep_row mode v g m.generation e (with_phase (Asleep k mode v g) held)
  asleep_same k mode v g (Sleep l) t = ap (λ (now : ℕ). asleep_row mode v g now (Sleep l) (with_phase (Asleep k mode v g) held)) t
  asleep_same k mode v g e t = refl

  next_same : (k : ℕ) (v : Level) (e : Event) → Tells (word_for e (with_phase (Next k v) held)) n w m → next_row v (word_in n) n e (with_phase (Next k v) held) ≡ next_row v w m.ex_generation e (with_phase (Next k v) held)
  next_same k v (Ready l) t = ap (λ (w : ℤ). readying l (Next l v) w (with_phase (Next k v) held)) t
  next_same k v (Exarm l) t = ap (λ (now : ℕ). next_row v w now (Exarm l) (with_phase (Next k v) held)) t
  next_same k v e t = refl

  next_armed_same : (k : ℕ) (v : Level) (g : ℕ) (e : Event) → Tells (word_for e (with_phase (NextArmed k v g) held)) n w m → next_armed_row v g (word_in n) e (with_phase (NextArmed k v g) held) ≡ next_armed_row v g w e (with_phase (NextArmed k v g) held)
  next_armed_same k v g (Ready l) t = ap (λ (w : ℤ). next_armed_row v g w (Ready l) (with_phase (NextArmed k v g) held)) t
  next_armed_same k v g e t = refl

  next_checked_same : (k : ℕ) (v : Level) (g : ℕ) (e : Event) → Tells (word_for e (with_phase (NextChecked k v g) held)) n w m → next_waits_row v g n e (with_phase (NextChecked k v g) held) ≡ next_waits_row v g m.ex_generation e (with_phase (NextChecked k v g) held)
  next_checked_same k v g (Sleep l) t = ap (λ (now : ℕ). next_waits_row v g now (Sleep l) (with_phase (NextChecked k v g) held)) t
  next_checked_same k v g e t = refl

  next_asleep_same : (k : ℕ) (v : Level) (g : ℕ) (e : Event) → Tells (word_for e (with_phase (NextAsleep k v g) held)) n w m → next_waits_row v g n e (with_phase (NextAsleep k v g) held) ≡ next_waits_row v g m.ex_generation e (with_phase (NextAsleep k v g) held)
  next_asleep_same k v g (Sleep l) t = ap (λ (now : ℕ). next_waits_row v g now (Sleep l) (with_phase (NextAsleep k v g) held)) t
  next_asleep_same k v g e t = refl

  look_same : (k : ℕ) (e : Event) → Tells (word_for e (with_phase (OwesLook k) held)) n w m → owes_look_row (nat_lt 0 n) e (with_phase (OwesLook k) held) ≡ owes_look_row m.waiters e (with_phase (OwesLook k) held)
  look_same k (Look l) t = ap (λ b. owes_look_row b (Look l) (with_phase (OwesLook k) held)) t
  look_same k e t = refl

  clear_same : (k : ℕ) (e : Event) → Tells (word_for e (with_phase (OwesClear k) held)) n w m → owes_clear_row (nat_lt 0 n) e (with_phase (OwesClear k) held) ≡ owes_clear_row m.waiters e (with_phase (OwesClear k) held)
  clear_same k (Clear l) t = ap (λ b. owes_clear_row b (Clear l) (with_phase (OwesClear k) held)) t
  clear_same k e t = refl

  raise_same : (k : ℕ) (e : Event) → Tells (word_for e (with_phase (OwesRaise k) held)) n w m → owes_raise_row n e (with_phase (OwesRaise k) held) ≡ owes_raise_row m.generation e (with_phase (OwesRaise k) held)
  raise_same k (Raise l) t = ap (λ (now : ℕ). owes_raise_row now (Raise l) (with_phase (OwesRaise k) held)) t
  raise_same k e t = refl

  raise_ex_same : (k : ℕ) (e : Event) → Tells (word_for e (with_phase (OwesRaiseEx k) held)) n w m → owes_raise_row n e (with_phase (OwesRaiseEx k) held) ≡ owes_raise_row m.ex_generation e (with_phase (OwesRaiseEx k) held)
  raise_ex_same k (Raise l) t = ap (λ (now : ℕ). owes_raise_row now (Raise l) (with_phase (OwesRaiseEx k) held)) t
  raise_ex_same k e t = refl

  row_same : (p : Phase) (e : Event) → Tells (word_for e (with_phase p held)) n w m → row_of p (word_in n) (marks_found n) e (with_phase p held) ≡ row_of p w m e (with_phase p held)
  row_same Free e t = free_same e t
  row_same (Armed k mode v g) e t = refl
  row_same (Flagged k mode v g) e t = flagged_same k mode v g e t
  row_same (Checked k mode v g) e t = checked_same k mode v g e t
  row_same (Asleep k mode v g) e t = asleep_same k mode v g e t
  row_same (Next k v) e t = next_same k v e t
  row_same (NextArmed k v g) e t = next_armed_same k v g e t
  row_same (NextChecked k v g) e t = next_checked_same k v g e t
  row_same (NextAsleep k v g) e t = next_asleep_same k v g e t
  row_same (OwesLook k) e t = look_same k e t
  row_same (OwesClear k) e t = clear_same k e t
  row_same (OwesRaise k) e t = raise_same k e t
  row_same (OwesRaiseEx k) e t = raise_ex_same k e t

  pub response_same : (p : Phase) (e : Event) → Tells (word_for e (with_phase p held)) n w m → response_of (word_in n) (marks_found n) e (with_phase p held) ≡ response_of w m e (with_phase p held)
  response_same p e t = ap (λ (r : Response). if is_elsewhere (latch_of e) p then refused OutOfTurn (with_phase p held) else r) (row_same p e t)

flag_back : (b : Bool) → nat_lt 0 (flag_word b) ≡ b
flag_back true = refl
flag_back false = refl

-- a word that stays as it is found
same_with : (c : LatchWord) (n : ℕ) (w : ℤ) (m : Marks) → Tells c n w m → with_mark c (mark_in c (marks_found n)) m ≡ m
same_with Lock n w m t = refl
same_with Writer n w m t = refl
same_with Waiters n w m t = ap (λ b. record m { waiters = b }) (flag_back (nat_lt 0 n) ∙ t)
same_with Generation n w m t = ap (λ (g : ℕ). record m { generation = g }) t
same_with ExGeneration n w m t = ap (λ (g : ℕ). record m { ex_generation = g }) t

module _ (n : ℕ) (w : ℤ) (m : Marks) (held : List Holding) where
  armed_with : (k : ℕ) (mode : Mode) (v : Level) (g : ℕ) (e : Event) → Tells (word_for e (with_phase (Armed k mode v g) held)) n w m
      → with_mark (word_for e (with_phase (Armed k mode v g) held)) (mark_in (word_for e (with_phase (Armed k mode v g) held)) (flag_marks e (marks_found n))) m ≡ flag_marks e m
  armed_with k mode v g (Flag l) t = refl
  armed_with k mode v g e t = same_with (word_for e (with_phase (Armed k mode v g) held)) n w m t

  clear_with : (k : ℕ) (e : Event) → Tells (word_for e (with_phase (OwesClear k) held)) n w m
      → with_mark (word_for e (with_phase (OwesClear k) held)) (mark_in (word_for e (with_phase (OwesClear k) held)) (clear_marks e (marks_found n))) m ≡ clear_marks e m
  clear_with k (Clear l) t = refl
  clear_with k e t = same_with (word_for e (with_phase (OwesClear k) held)) n w m t

  raise_with : (k : ℕ) (e : Event) → Tells (word_for e (with_phase (OwesRaise k) held)) n w m
      → with_mark (word_for e (with_phase (OwesRaise k) held)) (mark_in (word_for e (with_phase (OwesRaise k) held)) (record (marks_found n) { generation = raised_by e n })) m ≡ record m { generation = raised_by e m.generation }
  raise_with k (Raise l) t = ap (λ (g : ℕ). record m { generation = g + 1 }) t
  raise_with k e t = same_with (word_for e (with_phase (OwesRaise k) held)) n w m t

  raise_ex_with : (k : ℕ) (e : Event) → Tells (word_for e (with_phase (OwesRaiseEx k) held)) n w m
      → with_mark (word_for e (with_phase (OwesRaiseEx k) held)) (mark_in (word_for e (with_phase (OwesRaiseEx k) held)) (record (marks_found n) { ex_generation = raised_by e n })) m ≡ record m { ex_generation = raised_by e m.ex_generation }
  raise_ex_with k (Raise l) t = ap (λ (g : ℕ). record m { ex_generation = g + 1 }) t
  raise_ex_with k e t = same_with (word_for e (with_phase (OwesRaiseEx k) held)) n w m t

  by_with : (p : Phase) (e : Event) → Tells (word_for e (with_phase p held)) n w m
      → with_mark (word_for e (with_phase p held)) (mark_in (word_for e (with_phase p held)) (marks_by p e (marks_found n))) m ≡ marks_by p e m
  by_with (Armed k mode v g) e t = armed_with k mode v g e t
  by_with (OwesClear k) e t = clear_with k e t
  by_with (OwesRaise k) e t = raise_with k e t
  by_with (OwesRaiseEx k) e t = raise_ex_with k e t
  by_with p e t = same_with (word_for e (with_phase p held)) n w m t

  -- the marks after the turn are those with the word that the turn at the word found leaves
  pub marks_with : (p : Phase) (e : Event) → Tells (word_for e (with_phase p held)) n w m
      → with_mark (word_for e (with_phase p held)) (mark_in (word_for e (with_phase p held)) (marks_after p e (marks_found n))) m ≡ marks_after p e m
  marks_with p e t = by_test (is_elsewhere (latch_of e) p)
    where
      by_test : (b : Bool) → with_mark (word_for e (with_phase p held)) (mark_in (word_for e (with_phase p held)) (if b then marks_found n else marks_by p e (marks_found n))) m ≡ (if b then m else marks_by p e m)
      by_test true = same_with (word_for e (with_phase p held)) n w m t
      by_test false = by_with p e t

-- what is taken off the lock word moves by a step on that alone
module _ (w : ℤ) (held : List Holding) where
  abbrev Weighs : ℕ → Response → Type 0
  Weighs l r = taken l r.session ≡ taken l (with_phase Free held)

  allowed_weighs : (l : ℕ) (answer : Result (Unit {0}) LevelsAgainst) (r : Response) → Weighs l r → Weighs l (if_allowed answer (with_phase Free held) r)
  allowed_weighs l (Ok u) r weighs = weighs
  allowed_weighs l (Err e) r weighs = refl

  free_weighs : (now : ℕ) (e : Event) → IsProper (with_phase Free held) → word_for e (with_phase Free held) ≢ Lock → Weighs (latch_of e) (free_row w now e (with_phase Free held))
  free_weighs now (S l v) is off = absurd (off refl)
  free_weighs now (Sx l v) is off = by_sx (nat_lt 0 (sx_grants l (with_phase Free held))) refl
    where
      by_sx : (b : Bool) → nat_lt 0 (sx_grants l (with_phase Free held)) ≡ b → Weighs l (taking_sx l v w (with_phase Free held))
      by_sx true e =
          let c = counted l (with_phase Free held) (is.single l) in let sx = some_by (sx_grants l (with_phase Free held)) e in
          choose (λ (r : Response). taken l r.session ≡ taken l (with_phase Free held)) (nat_lt 0 (reads l (with_phase Free held))) _ _ (λ _. refl)
          (λ _. allowed_weighs l (answer_to (is_held l held) v (levels_of held)) _
          (choose (λ (r : Response). taken l r.session ≡ taken l (with_phase Free held)) (nat_lt 0 (claims l (with_phase Free held))) _ _
          (λ _. further_sx_taken l (with_phase Free held) (is.single l) (omega arith) sx)
          (λ no. let z = none_by (claims l (with_phase Free held)) no in absurd (omega arith))))
      by_sx false e = absurd (off (ap (λ b. if b then Writer else Lock) e))
  free_weighs now (X l v) is off = absurd (off refl)
  free_weighs now (Us l) is off = absurd (off refl)
  free_weighs now (Usx l) is off = by_sx (nat_lt 1 (sx_grants l (with_phase Free held))) refl
    where
      by_sx : (b : Bool) → nat_lt 1 (sx_grants l (with_phase Free held)) ≡ b → Weighs l (giving_sx l (with_phase Free held))
      by_sx true e = choose (λ (r : Response). taken l r.session ≡ taken l (with_phase Free held)) (nat_lt 0 (sx_grants l (with_phase Free held))) _ _
          (λ _. back_more_sx_taken l (with_phase Free held) is (several_by (sx_grants l (with_phase Free held)) e)) (λ _. refl)
      by_sx false e = absurd (off (ap (λ b. if b then Writer else Lock) e))
  free_weighs now (Ux l) is off = absurd (off refl)
  free_weighs now (Arm l mode v) is off = choose (λ (r : Response). taken l r.session ≡ taken l (with_phase Free held)) (is_held l held) _ _ (λ _. refl)
      (λ _. allowed_weighs l (answer_to (is_held l held) v (levels_of held)) _ refl)
  free_weighs now e is off = refl

  flagged_weighs : (k : ℕ) (mode : Mode) (v : Level) (g : ℕ) (e : Event) → word_for e (with_phase (Flagged k mode v g) held) ≢ Lock → Weighs (latch_of e) (flagged_row mode v g w e (with_phase (Flagged k mode v g) held))
  flagged_weighs k mode v g (Again l) off = absurd (off refl)
  flagged_weighs k mode v g (Quit l) off = refl
  flagged_weighs k mode v g e off = refl

  armed_weighs : (k : ℕ) (mode : Mode) (v : Level) (g : ℕ) (e : Event) → Weighs (latch_of e) (armed_row mode v g e (with_phase (Armed k mode v g) held))
  armed_weighs k mode v g (Flag l) = refl
  armed_weighs k mode v g (Quit l) = refl
  armed_weighs k mode v g e = refl

  checked_weighs : (k : ℕ) (mode : Mode) (v : Level) (g now : ℕ) (e : Event) → Weighs (latch_of e) (checked_row mode v g now e (with_phase (Checked k mode v g) held))
  checked_weighs k mode v g now (Sleep l) = choose (λ (r : Response). taken l r.session ≡ taken l (with_phase Free held)) (now == g) _ _ (λ _. refl) (λ _. refl)
  checked_weighs k mode v g now (Quit l) = refl
  checked_weighs k mode v g now e = refl

  asleep_weighs : (k : ℕ) (mode : Mode) (v : Level) (g now : ℕ) (e : Event) → Weighs (latch_of e) (asleep_row mode v g now e (with_phase (Asleep k mode v g) held))
  asleep_weighs k mode v g now (Sleep l) = choose (λ (r : Response). taken l r.session ≡ taken l (with_phase Free held)) (now == g) _ _ (λ _. refl) (λ _. refl)
  asleep_weighs k mode v g now e = refl

  next_weighs : (k : ℕ) (v : Level) (now : ℕ) (e : Event) → Weighs (latch_of e) (next_row v w now e (with_phase (Next k v) held))
  next_weighs k v now (Ready l) = choose (λ (r : Response). taken l r.session ≡ taken l (with_phase Free held)) (owns_x_at (sx_grants l (with_phase Free held)) w) _ _ (λ _. refl) (λ _. refl)
  next_weighs k v now (Exarm l) = refl
  next_weighs k v now e = refl

  next_armed_weighs : (k : ℕ) (v : Level) (g : ℕ) (e : Event) → Weighs (latch_of e) (next_armed_row v g w e (with_phase (NextArmed k v g) held))
  next_armed_weighs k v g (Ready l) = choose (λ (r : Response). taken l r.session ≡ taken l (with_phase Free held)) (owns_x_at (sx_grants l (with_phase Free held)) w) _ _ (λ _. refl) (λ _. refl)
  next_armed_weighs k v g e = refl

  next_waits_weighs : (p : Phase) (v : Level) (g now : ℕ) (e : Event) → Weighs (latch_of e) (next_waits_row v g now e (with_phase p held))
  next_waits_weighs p v g now (Sleep l) = choose (λ (r : Response). taken l r.session ≡ taken l (with_phase Free held)) (now == g) _ _ (λ _. refl) (λ _. refl)
  next_waits_weighs p v g now e = refl

  look_weighs : (p : Phase) (b : Bool) (e : Event) → Weighs (latch_of e) (owes_look_row b e (with_phase p held))
  look_weighs p b (Look l) = refl
  look_weighs p b e = refl

  clear_weighs : (p : Phase) (b : Bool) (e : Event) → Weighs (latch_of e) (owes_clear_row b e (with_phase p held))
  clear_weighs p b (Clear l) = refl
  clear_weighs p b e = refl

  raise_weighs : (p : Phase) (now : ℕ) (e : Event) → Weighs (latch_of e) (owes_raise_row now e (with_phase p held))
  raise_weighs p now (Raise l) = refl
  raise_weighs p now e = refl

  row_weighs : (p : Phase) (m : Marks) (e : Event) → IsProper (with_phase p held) → word_for e (with_phase p held) ≢ Lock → Weighs (latch_of e) (row_of p w m e (with_phase p held))
  row_weighs Free m e is off = free_weighs m.generation e is off
  row_weighs (Armed k mode v g) m e is off = armed_weighs k mode v g e
  row_weighs (Flagged k mode v g) m e is off = flagged_weighs k mode v g e off
  row_weighs (Checked k mode v g) m e is off = checked_weighs k mode v g m.generation e
  row_weighs (Asleep k mode v g) m e is off = asleep_weighs k mode v g m.generation e
  row_weighs (Next k v) m e is off = next_weighs k v m.ex_generation e
  row_weighs (NextArmed k v g) m e is off = next_armed_weighs k v g e
  row_weighs (NextChecked k v g) m e is off = next_waits_weighs (NextChecked k v g) v g m.ex_generation e
  row_weighs (NextAsleep k v g) m e is off = next_waits_weighs (NextAsleep k v g) v g m.ex_generation e
  row_weighs (OwesLook k) m e is off = look_weighs (OwesLook k) m.waiters e
  row_weighs (OwesClear k) m e is off = clear_weighs (OwesClear k) m.waiters e
  row_weighs (OwesRaise k) m e is off = raise_weighs (OwesRaise k) m.generation e
  row_weighs (OwesRaiseEx k) m e is off = raise_weighs (OwesRaiseEx k) m.ex_generation e

  pub response_weighs : (p : Phase) (m : Marks) (e : Event) → IsProper (with_phase p held) → word_for e (with_phase p held) ≢ Lock → Weighs (latch_of e) (response_of w m e (with_phase p held))
  response_weighs p m e is off = choose (λ (r : Response). taken (latch_of e) r.session ≡ taken (latch_of e) (with_phase Free held)) (is_elsewhere (latch_of e) p) _ _ (λ _. refl) (λ _. row_weighs p m e is off)
