-- The events of a session that waits keep a good state good: arm, flag, again, quit, sleep, exarm and ready.
use Rattle.std.proofs.Common.{◌≡◌, ◌≢◌, ℕ, ◌<◌, ◌≤◌, inl, Bool, true, false, List, set, refl, sym, ap, ◌∙◌, arith}
use Rattle.ib_levels.specs.declared.holding.Holding.{Holding}
use Rattle.ib_levels.specs.declared.level.Level.{Level}
use Rattle.ib_levels.specs.declared.level.Mode.{Mode}
use Rattle.ib_levels.specs.Level.{MayFollowAll}
use Rattle.ib_levels.specs.Holding.{levels_of}
use Rattle.ib_core.specs.declared.phase.Phase.{Phase}
use Rattle.ib_core.specs.declared.phase.Phase.TheVariants.{Free, Armed, Flagged, Checked, Asleep, Next, NextArmed, NextChecked, NextAsleep}
use Rattle.ib_core.specs.declared.session.Session.{Session}
use Rattle.ib_core.specs.declared.session.Marks.{Marks}
use Rattle.ib_core.specs.Sessions.{Stands, is_next, holdings, reads, owned}
use Rattle.ib_core.specs.Responses.{is_elsewhere}
use Rattle.ib_core.specs.Good.{Suits, MustWait, MustDrain, Heard, IsGood, owes_raise, owes_raise_ex, owes_signal}
use Rattle.ib_core.proofs.Quiet.{at_itself}
use Rattle.ib_core.proofs.Heard.{Heeds, heard_move}
use Rattle.ib_core.proofs.Phased.{with_phase, phase_kept, heeds_phase, drains_phase, owned_as_before}

-- a phase in which nothing is owed
pub record OwesNothing (p : Phase) : Type 0 where
  pub raise_ex : (k : ℕ) → owes_raise_ex k p ≡ false
  pub raise : (k : ℕ) → owes_raise k p ≡ false
  pub signal : (k : ℕ) → owes_signal k p ≡ false

-- .. may be left for any phase that suits and has heard what it says
pub quiet_kept : (m : ℕ → Marks) (ss : List Session) (i : ℕ) (held : List Holding) (l : ℕ) (p p' : Phase) → IsGood ss m → Stands ss i (with_phase p held)
    → is_elsewhere l p ≡ false → is_elsewhere l p' ≡ false → OwesNothing p → Suits p' (with_phase p' held)
    → ((j : ℕ) (b : Session) → Stands ss j b → i ≢ j → 0 < owned l (with_phase p' held) → reads l b ≡ 0)
    → Heard m ss p' → IsGood (set ss i (with_phase p' held)) m
quiet_kept m ss i held l p p' good at before after quiet suits alone heard =
    phase_kept ss i held l p p' m m good at before after (λ k n. refl) suits alone
    (heard_move m m ss (set ss i (with_phase p' held)) heeds p' (λ k _. drains_phase ss i held l p p' k (m k) (m k) at (λ z. absurd (not_so (owes_raise_ex k p) (quiet.raise_ex k) z))) heard)
    (heeds l)
    (drains_phase ss i held l p p' l (m l) (m l) at (λ z. absurd (not_so (owes_raise_ex l p) (quiet.raise_ex l) z)))
  where
    not_so : (b : Bool) → b ≡ false → b ≡ true → ⊥
    not_so b f t = let z : true ≡ false = sym t ∙ f in cc

    heeds : (k : ℕ) → Heeds k (m k) (m k) ss (set ss i (with_phase p' held))
    heeds k = heeds_phase ss i held l p p' k (m k) at (λ z. absurd (not_so (owes_raise k p) (quiet.raise k) z)) (λ z. absurd (not_so (owes_signal k p) (quiet.signal k) z))

pub nothing_free : OwesNothing Free
nothing_free = record { raise_ex = λ k. refl; raise = λ k. refl; signal = λ k. refl }

pub nothing_armed : (l : ℕ) (mode : Mode) (v : Level) (g : ℕ) → OwesNothing (Armed l mode v g)
nothing_armed l mode v g = record { raise_ex = λ k. refl; raise = λ k. refl; signal = λ k. refl }

pub nothing_flagged : (l : ℕ) (mode : Mode) (v : Level) (g : ℕ) → OwesNothing (Flagged l mode v g)
nothing_flagged l mode v g = record { raise_ex = λ k. refl; raise = λ k. refl; signal = λ k. refl }

pub nothing_checked : (l : ℕ) (mode : Mode) (v : Level) (g : ℕ) → OwesNothing (Checked l mode v g)
nothing_checked l mode v g = record { raise_ex = λ k. refl; raise = λ k. refl; signal = λ k. refl }

pub nothing_asleep : (l : ℕ) (mode : Mode) (v : Level) (g : ℕ) → OwesNothing (Asleep l mode v g)
nothing_asleep l mode v g = record { raise_ex = λ k. refl; raise = λ k. refl; signal = λ k. refl }

pub nothing_next : (l : ℕ) (v : Level) → OwesNothing (Next l v)
nothing_next l v = record { raise_ex = λ k. refl; raise = λ k. refl; signal = λ k. refl }

pub nothing_next_armed : (l : ℕ) (v : Level) (g : ℕ) → OwesNothing (NextArmed l v g)
nothing_next_armed l v g = record { raise_ex = λ k. refl; raise = λ k. refl; signal = λ k. refl }

pub nothing_next_checked : (l : ℕ) (v : Level) (g : ℕ) → OwesNothing (NextChecked l v g)
nothing_next_checked l v g = record { raise_ex = λ k. refl; raise = λ k. refl; signal = λ k. refl }

pub nothing_next_asleep : (l : ℕ) (v : Level) (g : ℕ) → OwesNothing (NextAsleep l v g)
nothing_next_asleep l v g = record { raise_ex = λ k. refl; raise = λ k. refl; signal = λ k. refl }

module _ (m : ℕ → Marks) (ss : List Session) (i : ℕ) (held : List Holding) (l : ℕ) (good : IsGood ss m) where
  -- a session that waits for a grant goes on to another such phase, or to none
  pub waits_on : (p p' : Phase) → Stands ss i (with_phase p held) → is_elsewhere l p ≡ false → is_elsewhere l p' ≡ false → OwesNothing p → is_next l p' ≡ is_next l p
      → Suits p' (with_phase p' held) → Heard m ss p' → IsGood (set ss i (with_phase p' held)) m
  waits_on p p' at before after quiet same suits heard =
      quiet_kept m ss i held l p p' good at before after quiet suits (owned_as_before ss i held l p p' m good at same) heard

  pub arms : (mode : Mode) (v : Level) → Stands ss i (with_phase Free held) → holdings l (with_phase Free held) ≡ 0 → MayFollowAll v (levels_of held)
      → IsGood (set ss i (with_phase (Armed l mode v (m l).generation) held)) m
  arms mode v at none may = waits_on Free (Armed l mode v (m l).generation) at refl (at_itself l) nothing_free refl (none, may) (omega arith)

  -- the flag is set
  pub flags : (mode : Mode) (v : Level) (g : ℕ) (m' : ℕ → Marks) → Stands ss i (with_phase (Armed l mode v g) held) → m' l ≡ record (m l) { waiters = true } → ((k : ℕ) → l ≢ k → m' k ≡ m k)
      → IsGood (set ss i (with_phase (Flagged l mode v g) held)) m'
  flags mode v g m' at here away =
      let p : Phase = Armed l mode v g in let p' : Phase = Flagged l mode v g in
      let gen = ap (λ (z : Marks). z.generation) here in let ex = ap (λ (z : Marks). z.ex_generation) here in
      let up : (m' l).waiters ≡ true = ap (λ (z : Marks). z.waiters) here in
      let was : g ≤ (m l).generation = good.heard i (with_phase p held) at in
      let same = heeds_phase ss i held l p p' l (m l) at (λ z. z) (λ z. z) in
      phase_kept ss i held l p p' m m' good at (at_itself l) (at_itself l) away (good.proper i (with_phase p held) at).suits (owned_as_before ss i held l p p' m good at refl)
      (omega arith, λ _. inl up)
      record { rises = omega arith; ex_rises = omega arith; wakes = λ _ w. inl up; waits = λ _ w mode d. same.waits refl w mode d }
      (drains_phase ss i held l p p' l (m l) (m' l) at (λ z. z))

  pub quits_armed : (mode : Mode) (v : Level) (g : ℕ) → Stands ss i (with_phase (Armed l mode v g) held) → IsGood (set ss i (with_phase Free held)) m
  quits_armed mode v g at = waits_on (Armed l mode v g) Free at (at_itself l) refl (nothing_armed l mode v g) refl tt tt

  pub quits_flagged : (mode : Mode) (v : Level) (g : ℕ) → Stands ss i (with_phase (Flagged l mode v g) held) → IsGood (set ss i (with_phase Free held)) m
  quits_flagged mode v g at = waits_on (Flagged l mode v g) Free at (at_itself l) refl (nothing_flagged l mode v g) refl tt tt

  pub quits_checked : (mode : Mode) (v : Level) (g : ℕ) → Stands ss i (with_phase (Checked l mode v g) held) → IsGood (set ss i (with_phase Free held)) m
  quits_checked mode v g at = waits_on (Checked l mode v g) Free at (at_itself l) refl (nothing_checked l mode v g) refl tt tt

  pub quits_asleep : (mode : Mode) (v : Level) (g : ℕ) → Stands ss i (with_phase (Asleep l mode v g) held) → IsGood (set ss i (with_phase Free held)) m
  quits_asleep mode v g at = waits_on (Asleep l mode v g) Free at (at_itself l) refl (nothing_asleep l mode v g) refl tt tt

  -- the wish is refused once more, by a word at which it is not grantable
  pub checks : (mode : Mode) (v : Level) (g : ℕ) → Stands ss i (with_phase (Flagged l mode v g) held) → MustWait mode l ss → IsGood (set ss i (with_phase (Checked l mode v g) held)) m
  checks mode v g at must =
      let p : Phase = Flagged l mode v g in let h = good.heard i (with_phase p held) at in
      waits_on p (Checked l mode v g) at (at_itself l) (at_itself l) (nothing_flagged l mode v g) refl (good.proper i (with_phase p held) at).suits (h.0, h.1, λ _. must)

  pub falls_asleep : (mode : Mode) (v : Level) (g : ℕ) → Stands ss i (with_phase (Checked l mode v g) held) → IsGood (set ss i (with_phase (Asleep l mode v g) held)) m
  falls_asleep mode v g at =
      let p : Phase = Checked l mode v g in
      waits_on p (Asleep l mode v g) at (at_itself l) (at_itself l) (nothing_checked l mode v g) refl (good.proper i (with_phase p held) at).suits (good.heard i (with_phase p held) at)

  pub sleeps_on : (mode : Mode) (v : Level) (g : ℕ) → Stands ss i (with_phase (Asleep l mode v g) held) → IsGood (set ss i (with_phase (Asleep l mode v g) held)) m
  sleeps_on mode v g at =
      let p : Phase = Asleep l mode v g in
      waits_on p p at (at_itself l) (at_itself l) (nothing_asleep l mode v g) refl (good.proper i (with_phase p held) at).suits (good.heard i (with_phase p held) at)

  -- the next writer, who has one X
  pub next_on : (p p' : Phase) → Stands ss i (with_phase p held) → is_elsewhere l p ≡ false → is_elsewhere l p' ≡ false → OwesNothing p → is_next l p' ≡ is_next l p
      → Suits p' (with_phase p' held) → Heard m ss p' → IsGood (set ss i (with_phase p' held)) m
  next_on p p' at before after quiet same suits heard = waits_on p p' at before after quiet same suits heard

  pub exarms : (v : Level) → Stands ss i (with_phase (Next l v) held) → IsGood (set ss i (with_phase (NextArmed l v (m l).ex_generation) held)) m
  exarms v at =
      let p : Phase = Next l v in
      waits_on p (NextArmed l v (m l).ex_generation) at (at_itself l) (at_itself l) (nothing_next l v) refl (good.proper i (with_phase p held) at).suits (omega arith)

  pub next_stays : (v : Level) → Stands ss i (with_phase (Next l v) held) → IsGood (set ss i (with_phase (Next l v) held)) m
  next_stays v at = let p : Phase = Next l v in waits_on p p at (at_itself l) (at_itself l) (nothing_next l v) refl (good.proper i (with_phase p held) at).suits tt

  pub next_checks : (v : Level) (g : ℕ) → Stands ss i (with_phase (NextArmed l v g) held) → MustDrain l ss → IsGood (set ss i (with_phase (NextChecked l v g) held)) m
  next_checks v g at must =
      let p : Phase = NextArmed l v g in
      waits_on p (NextChecked l v g) at (at_itself l) (at_itself l) (nothing_next_armed l v g) refl (good.proper i (with_phase p held) at).suits (good.heard i (with_phase p held) at, λ _. must)

  pub next_falls_asleep : (v : Level) (g : ℕ) → Stands ss i (with_phase (NextChecked l v g) held) → IsGood (set ss i (with_phase (NextAsleep l v g) held)) m
  next_falls_asleep v g at =
      let p : Phase = NextChecked l v g in
      waits_on p (NextAsleep l v g) at (at_itself l) (at_itself l) (nothing_next_checked l v g) refl (good.proper i (with_phase p held) at).suits (good.heard i (with_phase p held) at)

  pub next_sleeps_on : (v : Level) (g : ℕ) → Stands ss i (with_phase (NextAsleep l v g) held) → IsGood (set ss i (with_phase (NextAsleep l v g) held)) m
  next_sleeps_on v g at =
      let p : Phase = NextAsleep l v g in
      waits_on p p at (at_itself l) (at_itself l) (nothing_next_asleep l v g) refl (good.proper i (with_phase p held) at).suits (good.heard i (with_phase p held) at)

  pub next_awakes_checked : (v : Level) (g : ℕ) → Stands ss i (with_phase (NextChecked l v g) held) → IsGood (set ss i (with_phase (Next l v) held)) m
  next_awakes_checked v g at =
      let p : Phase = NextChecked l v g in
      waits_on p (Next l v) at (at_itself l) (at_itself l) (nothing_next_checked l v g) refl (good.proper i (with_phase p held) at).suits tt

  pub next_awakes_asleep : (v : Level) (g : ℕ) → Stands ss i (with_phase (NextAsleep l v g) held) → IsGood (set ss i (with_phase (Next l v) held)) m
  next_awakes_asleep v g at =
      let p : Phase = NextAsleep l v g in
      waits_on p (Next l v) at (at_itself l) (at_itself l) (nothing_next_asleep l v g) refl (good.proper i (with_phase p held) at).suits tt

  -- the next writer owns X once nobody else reads
  pub owns : (p : Phase) → Stands ss i (with_phase p held) → is_elsewhere l p ≡ false → OwesNothing p
      → ((j : ℕ) (b : Session) → Stands ss j b → i ≢ j → reads l b ≡ 0) → IsGood (set ss i (with_phase Free held)) m
  owns p at before quiet alone = quiet_kept m ss i held l p Free good at before refl quiet tt (λ j b e n _. alone j b e n) tt
