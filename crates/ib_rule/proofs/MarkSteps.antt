-- What each step on a mark of a latch leaves there: the waiters flag, the generations, and the writer.
use Rattle.std.proofs.Common.{◌≡◌, ◌≢◌, ℕ, ◌+◌, ◌%◌, ◌^◌, ◌<◌, ◌≤◌, true, false, Option, Some, None, refl, ap, ◌∙◌, arith}
use Rattle.std.specs.Prelude.{nat_lt, if◌then◌else◌}
use Rattle.std.proofs.Math.Nat.{mod-eq_of_lt}
use Rattle.std.proofs.lemmas.Bool.Decides.{nat_tests}
use Rattle.ib_core.specs.Sessions.{sx_grants}
use Rattle.ib_levels.specs.declared.level.Level.{Level}
use Rattle.ib_levels.specs.declared.level.Level.TheVariants.{Log}
use Rattle.ib_levels.specs.declared.level.Mode.{Mode}
use Rattle.ib_core.specs.declared.latch_word.LatchWord.{LatchWord}
use Rattle.ib_core.specs.declared.latch_word.LatchWord.TheVariants.{Lock, Waiters, Writer, Generation, ExGeneration}
use Rattle.ib_core.specs.declared.phase.Phase.{Phase}
use Rattle.ib_core.specs.declared.phase.Phase.TheVariants.{Free, Armed, Checked, Asleep, Next, NextChecked, NextAsleep, OwesLook, OwesClear, OwesRaise, OwesRaiseEx}
use Rattle.ib_core.specs.declared.event.Event.{Event}
use Rattle.ib_core.specs.declared.event.Event.TheVariants.{Sx, Usx, Flag, Clear, Raise}
use Rattle.ib_core.specs.Turns.{Leaves, word_for, writes_mark}
use Rattle.ib_core.proofs.Left.{reads_leave, flag_leaves, clear_leaves, raise_leaves, ex_raise_leaves}
use Rattle.ib_rule.specs.declared.view.View.{View}
use Rattle.ib_rule.specs.Conditions.{CanTake, IsArmed, MayGrow, MayLoadExGen, MayLoadGen, ex_gen_event, flag_event, gen_event}
use Rattle.ib_rule.proofs.Grows.{is_taking, may_grow, none_grows}

-- a load of a word other than the lock word, for an event that writes none and takes no grant
load_step : (c : LatchWord) (e : Event) (v : View) (n : ℕ) → c ≢ Lock → writes_mark e ≡ false → is_taking e ≡ false → (c ≡ Waiters → n ≤ 1) → CanTake e v n × Leaves c e v.session n n
load_step c e v n off quiet none small = (none_grows e v n none, reads_leave c e v.session n off quiet small)

module _ (v : View) (l n : ℕ) where
  pub gen_step : (wish : Option (Mode × Level)) (e : Event) → e ≡ gen_event l wish → CanTake e v n × Leaves Generation e v.session n n
  gen_step wish e is = load_step Generation e v n (λ z. absurd (cc)) (ap writes_mark is ∙ (quiet wish).0) (ap is_taking is ∙ (quiet wish).1) (λ z. absurd (cc))
    where
      quiet : (wish : Option (Mode × Level)) → (writes_mark (gen_event l wish) ≡ false) × (is_taking (gen_event l wish) ≡ false)
      quiet None = (refl, refl)
      quiet (Some wish) = (refl, refl)

  pub gen_word : (wish : Option (Mode × Level)) (p : Phase) → v.session.phase ≡ p → MayLoadGen l wish v.session p → word_for (gen_event l wish) v.session ≡ Generation
  gen_word (Some wish) Free is may = refl
  gen_word None (Checked k m u g) is may = ap (λ p. Rattle.ib_core.specs.Turns.sleep_word p) is
  gen_word None (Asleep k m u g) is may = ap (λ p. Rattle.ib_core.specs.Turns.sleep_word p) is
  gen_word wish p is may = absurd may

  pub ex_gen_step : (p : Phase) (e : Event) → e ≡ ex_gen_event l p → CanTake e v n × Leaves ExGeneration e v.session n n
  ex_gen_step p e is = load_step ExGeneration e v n (λ z. absurd (cc)) (ap writes_mark is ∙ (quiet p).0) (ap is_taking is ∙ (quiet p).1) (λ z. absurd (cc))
    where
      quiet : (p : Phase) → (writes_mark (ex_gen_event l p) ≡ false) × (is_taking (ex_gen_event l p) ≡ false)
      quiet (Next k u) = (refl, refl)
      quiet p = (refl, refl)

  pub ex_gen_word : (p : Phase) → v.session.phase ≡ p → MayLoadExGen l p → word_for (ex_gen_event l p) v.session ≡ ExGeneration
  ex_gen_word (Next k u) is may = refl
  ex_gen_word (NextChecked k u g) is may = ap (λ p. Rattle.ib_core.specs.Turns.sleep_word p) is
  ex_gen_word (NextAsleep k u g) is may = ap (λ p. Rattle.ib_core.specs.Turns.sleep_word p) is
  ex_gen_word p is may = absurd may

  pub flag_load_step : (p : Phase) (e : Event) → e ≡ flag_event l p → n ≤ 1 → CanTake e v n × Leaves Waiters e v.session n n
  flag_load_step p e is small = load_step Waiters e v n (λ z. absurd (cc)) (ap writes_mark is ∙ (quiet p).0) (ap is_taking is ∙ (quiet p).1) (λ _. small)
    where
      quiet : (p : Phase) → (writes_mark (flag_event l p) ≡ false) × (is_taking (flag_event l p) ≡ false)
      quiet (OwesLook k) = (refl, refl)
      quiet p = (refl, refl)

  pub flag_load_word : (p : Phase) → word_for (flag_event l p) v.session ≡ Waiters
  flag_load_word (OwesLook k) = refl
  flag_load_word p = refl

  pub flag_step : (p : Phase) → v.session.phase ≡ p → IsArmed l p → CanTake (Flag l) v n × Leaves Waiters (Flag l) v.session n 1
  flag_step (Armed k m u g) is here = (none_grows (Flag l) v n refl, flag_leaves l n g m u v.session (is ∙ ap (λ k. Armed k m u g) here))
  flag_step p is here = absurd here

  pub clear_step : v.session.phase ≡ OwesClear l → CanTake (Clear l) v n × Leaves Waiters (Clear l) v.session n 0
  clear_step is = (none_grows (Clear l) v n refl, clear_leaves l n v.session is)

  pub raise_step : v.session.phase ≡ OwesRaise l → n ≤ 2 ^ 62 → CanTake (Raise l) v n × Leaves Generation (Raise l) v.session n ((n + 1) % 2 ^ 64)
  raise_step is small = (none_grows (Raise l) v n refl, mod-eq_of_lt (omega arith) ∙ raise_leaves l n v.session is)

  pub ex_raise_step : v.session.phase ≡ OwesRaiseEx l → n ≤ 2 ^ 62 → CanTake (Raise l) v n × Leaves ExGeneration (Raise l) v.session n ((n + 1) % 2 ^ 64)
  ex_raise_step is small = (none_grows (Raise l) v n refl, mod-eq_of_lt (omega arith) ∙ ex_raise_leaves l n v.session is)

  -- a load of the writer counts a further SX, and one given back that is not the last
  pub counted_sx_step : MayGrow v → CanTake (Sx l Log) v n × Leaves Writer (Sx l Log) v.session n n
  counted_sx_step grow = (may_grow (Sx l Log) v n grow, refl)

  pub counted_sx_word : 0 < sx_grants l v.session → word_for (Sx l Log) v.session ≡ Writer
  counted_sx_word some = let is : nat_lt 0 (sx_grants l v.session) ≡ true = grind (arith, nat_tests) in ap (λ b. if b then Writer else Lock) is

  pub counted_back_step : CanTake (Usx l) v n × Leaves Writer (Usx l) v.session n n
  counted_back_step = (none_grows (Usx l) v n refl, refl)

  pub counted_back_word : 1 < sx_grants l v.session → word_for (Usx l) v.session ≡ Writer
  counted_back_word more = let is : nat_lt 1 (sx_grants l v.session) ≡ true = grind (arith, nat_tests) in ap (λ b. if b then Writer else Lock) is
