-- What each step on a lock word leaves there, from the conditions of its call.
use Rattle.std.proofs.Common.{◌≡◌, ℕ, ◌+◌, ◌-◌, ◌%◌, ◌^◌, ◌<◌, ◌≤◌, Bool, true, false, ℤ, pos, negsuc, ◌≤ℤ◌, refl, sym, ap, ◌∙◌, subst, arith}
use Rattle.std.specs.Prelude.{int_lt, nat_lt, if◌then◌else◌}
use Rattle.std.proofs.Math.Nat.{mod-eq_of_lt, add-mod_right}
use Rattle.std.proofs.lemmas.Bool.Decides.{nat_tests}
use Rattle.std.proofs.lemmas.Int.{ints}
use Rattle.ib_word.specs.declared.word.TheConstants.{X_LOCK_DECR, X_LOCK_HALF_DECR, WORD_BIAS}
use Rattle.ib_word.specs.Weight.{x_weight}
use Rattle.ib_word.specs.Word.{word_in, cell_of}
use Rattle.ib_word.proofs.Cells.{word_in-cell_of}
use Rattle.ib_levels.specs.declared.level.Level.{Level}
use Rattle.ib_levels.specs.declared.level.Level.TheVariants.{Log}
use Rattle.ib_levels.specs.declared.level.Mode.{Mode}
use Rattle.ib_levels.specs.declared.level.Mode.TheVariants.{S as ModeS, Sx as ModeSx, X as ModeX}
use Rattle.ib_levels.proofs.Counts.{on-none}
use Rattle.ib_core.specs.declared.latch_word.LatchWord.TheVariants.{Lock}
use Rattle.ib_core.specs.declared.phase.Phase.{Phase}
use Rattle.ib_core.specs.declared.phase.Phase.TheVariants.{Free, Armed, Flagged, Checked, Asleep, Next, NextArmed, NextChecked, NextAsleep, OwesLook, OwesClear, OwesRaise, OwesRaiseEx}
use Rattle.ib_core.specs.declared.event.Event.{Event}
use Rattle.ib_core.specs.declared.event.Event.TheVariants.{Sx, X, Us, Usx, Ux, Again, Ready}
use Rattle.ib_core.specs.declared.session.Session.{Session}
use Rattle.ib_core.specs.Sessions.{reads, sx_grants, x_grants}
use Rattle.ib_core.specs.Good.{IsProper}
use Rattle.ib_core.specs.Responses.{latch_of, is_above_0}
use Rattle.ib_core.specs.Takings.{first_weight, is_given_at, wish}
use Rattle.ib_core.specs.Turns.{Leaves, marks_found, turn_at, word_for}
use Rattle.ib_core.specs.Member.{TakesMore}
use Rattle.ib_core.proofs.Weighed.{wish_weighs, again_weighs, ready_weighs, upgrade_weighs, further_x_weighs, sx_beside_x_weighs, s_back_weighs, last_sx_back_weighs, x_back_weighs}
use Rattle.ib_rule.specs.declared.view.View.{View}
use Rattle.ib_rule.specs.Told.{CanBe}
use Rattle.ib_rule.specs.Conditions.{CanTake, MayGrow, MayTry, try_event}
use Rattle.ib_rule.proofs.Grows.{may_grow, none_grows}

-- a subtraction that does not wrap
pub sub_mod : (n k : ℕ) → k ≤ n → n < 2 ^ 64 → (n + (2 ^ 64 - k)) % 2 ^ 64 ≡ n - k
sub_mod n k fits small = let e : n + (2 ^ 64 - k) ≡ (n - k) + 2 ^ 64 = omega arith in ap (λ (m : ℕ). m % 2 ^ 64) e ∙ (add-mod_right (n - k) (2 ^ 64) ∙ mod-eq_of_lt (omega arith))

-- a session that takes this much more, or less, leaves this
takes_leave : (e : Event) (a : Session) (n k : ℕ) → k ≤ n → TakesMore (latch_of e) k (turn_at e n a).session a → Leaves Lock e a n (n - k)
takes_leave e a n k fits more = omega arith

subs_leave : (e : Event) (a : Session) (n k : ℕ) → k ≤ X_LOCK_DECR → CanBe Lock (latch_of e) a n → TakesMore (latch_of e) k (turn_at e n a).session a → Leaves Lock e a n ((n + (2 ^ 64 - k)) % 2 ^ 64)
subs_leave e a n k small found more = let low = found.1 in let high = found.0 in let whole = sub_mod n k (omega arith) (omega arith) in omega arith

adds_leave : (e : Event) (a : Session) (n k : ℕ) → k ≤ X_LOCK_DECR → CanBe Lock (latch_of e) a n → TakesMore (latch_of e) k a (turn_at e n a).session → Leaves Lock e a n ((n + k) % 2 ^ 64)
adds_leave e a n k small found more = let high = found.0 in let whole : (n + k) % 2 ^ 64 ≡ n + k = mod-eq_of_lt (omega arith) in omega arith

module _ (v : View) (l n : ℕ) (free : v.session.phase ≡ Free) (proper : IsProper v.session) where
  -- a further X, and a first SX beside X
  pub further_x_step : (k x : ℕ) → MayGrow v → x ≡ x_grants l v.session → 0 < x_grants l v.session → x_weight (x + 1) ≡ x_weight x + k → k ≤ X_LOCK_DECR → CanBe Lock l v.session n
      → CanTake (X l Log) v n × Leaves Lock (X l Log) v.session n ((n + (2 ^ 64 - k)) % 2 ^ 64)
  further_x_step k x grow at has is small found = (
    may_grow (X l Log) v n grow,
    subs_leave (X l Log) v.session n k small found (further_x_weighs (word_in n) (marks_found n) l v.session proper free Log k has (subst (λ (x : ℕ). x_weight (x + 1) ≡ x_weight x + k) at is)),
  )

  pub sx_under_x_step : MayGrow v → 0 < x_grants l v.session → sx_grants l v.session ≡ 0 → CanBe Lock l v.session n
      → CanTake (Sx l Log) v n × Leaves Lock (Sx l Log) v.session n ((n + (2 ^ 64 - X_LOCK_HALF_DECR)) % 2 ^ 64)
  sx_under_x_step grow has no_sx found = (
    may_grow (Sx l Log) v n grow,
    subs_leave (Sx l Log) v.session n X_LOCK_HALF_DECR (omega arith) found (sx_beside_x_weighs (word_in n) (marks_found n) l v.session proper free Log has no_sx),
  )

  -- the releases
  pub s_back_step : 0 < reads l v.session → CanBe Lock l v.session n → CanTake (Us l) v n × Leaves Lock (Us l) v.session n ((n + 1) % 2 ^ 64)
  s_back_step has found = (
    none_grows (Us l) v n refl,
    adds_leave (Us l) v.session n 1 (omega arith) found (s_back_weighs (word_in n) (marks_found n) l v.session proper free has),
  )

  pub last_sx_step : sx_grants l v.session ≡ 1 → CanBe Lock l v.session n → CanTake (Usx l) v n × Leaves Lock (Usx l) v.session n ((n + X_LOCK_HALF_DECR) % 2 ^ 64)
  last_sx_step last found = (
    none_grows (Usx l) v n refl,
    adds_leave (Usx l) v.session n X_LOCK_HALF_DECR (omega arith) found (last_sx_back_weighs (word_in n) (marks_found n) l v.session proper free last),
  )

  pub x_back_step : (k x : ℕ) → x ≡ x_grants l v.session → 0 < x_grants l v.session → x_weight x ≡ x_weight (x - 1) + k → k ≤ X_LOCK_DECR → CanBe Lock l v.session n
      → CanTake (Ux l) v n × Leaves Lock (Ux l) v.session n ((n + k) % 2 ^ 64)
  x_back_step k x at has is small found = (
    none_grows (Ux l) v n refl,
    adds_leave (Ux l) v.session n k small found (x_back_weighs (word_in n) (marks_found n) l v.session proper free k has (subst (λ (x : ℕ). x_weight x ≡ x_weight (x - 1) + k) at is)),
  )

  pub last_x_step : x_grants l v.session ≡ 1 → CanBe Lock l v.session n → CanTake (Ux l) v n × Leaves Lock (Ux l) v.session n ((n + X_LOCK_DECR) % 2 ^ 64)
  last_x_step last found = x_back_step X_LOCK_DECR (x_grants l v.session) refl (omega arith) (ap x_weight last ∙ sym (ap (λ (x : ℕ). x_weight (x - 1) + X_LOCK_DECR) last)) (omega arith) found

-- what `again_x` and `give_x` answer is small
pub either_small : (b : Bool) (k : ℕ) → k ≡ (if b then X_LOCK_DECR else 1) → k ≤ X_LOCK_DECR
either_small true k is = omega arith
either_small false k is = omega arith

-- a look whether the next writer owns X
pub ready_step : (l : ℕ) (v : View) (n : ℕ) → CanTake (Ready l) v n × Leaves Lock (Ready l) v.session n n
ready_step l v n = (none_grows (Ready l) v n refl, let t = ready_weighs (word_in n) (marks_found n) l v.session in omega arith)

-- words that are not negative, as cells
above : (w : ℤ) → int_lt (pos 0) w ≡ true → pos 0 ≤ℤ w
above w is = grind (arith, ints)

above_half : (w : ℤ) → int_lt (pos X_LOCK_HALF_DECR) w ≡ true → pos 0 ≤ℤ w
above_half w is = grind (arith, ints)

not_negative : (mode : Mode) (w : ℤ) → is_given_at mode w ≡ true → pos 0 ≤ℤ w
not_negative ModeS w given = above w given
not_negative ModeSx w given = above_half w given
not_negative ModeX w given = above_half w given

pub cell_back : (w : ℤ) → pos 0 ≤ℤ w → word_in (cell_of w) ≡ w
cell_back w up = word_in-cell_of w (omega (arith, ints))

cell_high : (w : ℤ) → pos 0 ≤ℤ w → WORD_BIAS ≤ cell_of w
cell_high (pos n) up = omega arith
cell_high (negsuc n) up = absurd (omega (arith, ints))

weight_small : (mode : Mode) → first_weight mode ≤ X_LOCK_DECR
weight_small ModeS = omega arith
weight_small ModeSx = omega arith
weight_small ModeX = omega arith

-- the word of a wish that is given is the cell's, and its weight fits
pub given_word : (mode : Mode) (w : ℤ) → is_given_at mode w ≡ true → word_in (cell_of w) ≡ w
given_word mode w given = cell_back w (not_negative mode w given)

pub given_fits : (mode : Mode) (w : ℤ) → is_given_at mode w ≡ true → first_weight mode ≤ cell_of w
given_fits mode w given = let h = cell_high w (not_negative mode w given) in let s = weight_small mode in omega arith

given_there : (mode : Mode) (w : ℤ) → is_given_at mode w ≡ true → is_given_at mode (word_in (cell_of w)) ≡ true
given_there mode w given = ap (is_given_at mode) (given_word mode w given) ∙ given

-- the phase of one that set the flag for this wish
pub flagged_for : (mode : Mode) (l : ℕ) (level : Level) (a : Session) (k : ℕ) (m : Mode) (u : Level) (g : ℕ) → a.phase ≡ Flagged k m u g → MayTry mode l level a (Flagged k m u g) → a.phase ≡ Flagged l mode level g
flagged_for mode l level a k m u g is may = is ∙ (λ j. Flagged (may.0 j) (may.1 j) (may.2 j) g)

-- a first try, by a wish or once more
module _ (v : View) (l : ℕ) (level : Level) (mode : Mode) where
  pub first_step : (w : ℤ) (p : Phase) → v.session.phase ≡ p → MayTry mode l level v.session p → MayGrow v → is_given_at mode w ≡ true
      → CanTake (try_event mode l level p) v (cell_of w) × Leaves Lock (try_event mode l level p) v.session (cell_of w) (cell_of w - first_weight mode)
  first_step w Free is may grow given = (may_grow (try_event mode l level Free) v (cell_of w) grow, by_mode mode may given)
    where
      by_mode : (mode : Mode) → MayTry mode l level v.session Free → is_given_at mode w ≡ true → Leaves Lock (wish mode l level) v.session (cell_of w) (cell_of w - first_weight mode)
      by_mode ModeS may given = takes_leave (wish ModeS l level) v.session (cell_of w) (first_weight ModeS) (given_fits ModeS w given) (wish_weighs (word_in (cell_of w)) (marks_found (cell_of w)) l v.session ModeS level may (given_there ModeS w given))
      by_mode ModeSx may given = takes_leave (wish ModeSx l level) v.session (cell_of w) (first_weight ModeSx) (given_fits ModeSx w given) (wish_weighs (word_in (cell_of w)) (marks_found (cell_of w)) l v.session ModeSx level may (given_there ModeSx w given))
      by_mode ModeX may given = takes_leave (wish ModeX l level) v.session (cell_of w) (first_weight ModeX) (given_fits ModeX w given) (wish_weighs (word_in (cell_of w)) (marks_found (cell_of w)) l v.session ModeX level may (given_there ModeX w given))
  first_step w (Flagged k m u g) is may grow given = (
    may_grow (Again l) v (cell_of w) grow,
    takes_leave (Again l) v.session (cell_of w) (first_weight mode) (given_fits mode w given)
        (again_weighs (word_in (cell_of w)) (marks_found (cell_of w)) l v.session mode level g (flagged_for mode l level v.session k m u g is may) (given_there mode w given)),
  )
  first_step w (Armed k m u g) is may grow given = absurd may
  first_step w (Checked k m u g) is may grow given = absurd may
  first_step w (Asleep k m u g) is may grow given = absurd may
  first_step w (Next k u) is may grow given = absurd may
  first_step w (NextArmed k u g) is may grow given = absurd may
  first_step w (NextChecked k u g) is may grow given = absurd may
  first_step w (NextAsleep k u g) is may grow given = absurd may
  first_step w (OwesLook k) is may grow given = absurd may
  first_step w (OwesClear k) is may grow given = absurd may
  first_step w (OwesRaise k) is may grow given = absurd may
  first_step w (OwesRaiseEx k) is may grow given = absurd may

  pub first_word : (p : Phase) → MayTry mode l level v.session p → word_for (try_event mode l level p) v.session ≡ Lock
  first_word Free may = by_mode mode may
    where
      by_mode : (mode : Mode) → MayTry mode l level v.session Free → word_for (wish mode l level) v.session ≡ Lock
      by_mode ModeS may = refl
      by_mode ModeSx may =
          let none : sx_grants l v.session ≡ 0 = on-none l (λ h. h.sx) v.session.held may.none in
          let not : nat_lt 0 (sx_grants l v.session) ≡ false = grind (arith, nat_tests) in ap (λ b. if b then Rattle.ib_core.specs.declared.latch_word.LatchWord.TheVariants.Writer else Lock) not
      by_mode ModeX may = refl
  first_word (Flagged k m u g) may = refl
  first_word (Armed k m u g) may = absurd may
  first_word (Checked k m u g) may = absurd may
  first_word (Asleep k m u g) may = absurd may
  first_word (Next k u) may = absurd may
  first_word (NextArmed k u g) may = absurd may
  first_word (NextChecked k u g) may = absurd may
  first_word (NextAsleep k u g) may = absurd may
  first_word (OwesLook k) may = absurd may
  first_word (OwesClear k) may = absurd may
  first_word (OwesRaise k) may = absurd may
  first_word (OwesRaiseEx k) may = absurd may

-- .. as a call has it: the event and the weight that it computed
pub first_try : (v : View) (l : ℕ) (level : Level) (mode : Mode) (w : ℤ) (e : Event) (k : ℕ) → e ≡ try_event mode l level v.session.phase → k ≡ first_weight mode → MayTry mode l level v.session v.session.phase → MayGrow v
    → is_given_at mode w ≡ true → CanTake e v (cell_of w) × Leaves Lock e v.session (cell_of w) (cell_of w - k)
first_try v l level mode w e k is weighs may grow given =
    subst (λ (z : ℕ × Event). CanTake z.1 v (cell_of w) × Leaves Lock z.1 v.session (cell_of w) (cell_of w - z.0)) (λ j. (sym weighs j, sym is j))
    (first_step v l level mode w v.session.phase refl may grow given)

-- X beside one's own SX
pub upgrade_try : (v : View) (l : ℕ) (w : ℤ) (k : ℕ) → k ≡ X_LOCK_DECR → v.session.phase ≡ Free → IsProper v.session → MayGrow v → 0 < sx_grants l v.session → x_grants l v.session ≡ 0 → is_above_0 w ≡ true
    → CanTake (X l Log) v (cell_of w) × Leaves Lock (X l Log) v.session (cell_of w) (cell_of w - k)
upgrade_try v l w k weighs free proper grow has no_x up =
    let h = cell_high w (above w up) in (
      may_grow (X l Log) v (cell_of w) grow,
      subst (λ (k : ℕ). Leaves Lock (X l Log) v.session (cell_of w) (cell_of w - k)) (sym weighs)
          (takes_leave (X l Log) v.session (cell_of w) X_LOCK_DECR (omega arith) (upgrade_weighs (word_in (cell_of w)) (marks_found (cell_of w)) l v.session proper free Log has no_x (ap is_above_0 (cell_back w (above w up)) ∙ up))),
    )
