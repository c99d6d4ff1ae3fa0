-- The words of a table as its space opens.
use Rattle.std.proofs.Common.{◌≡◌, ◌≢◌, ℕ, zero, suc, ◌+◌, ◌<◌, List, set, get_or, replicate, length, refl, sym, ap, ◌∙◌, subst, arith, length-set, get_or-set_same, get_or-set_other}
use Rattle.std.specs.Prelude.{slice_index, slice_set}
use Rattle.std.proofs.lemmas.List.{length-replicate}
use mathlib.Core.Logic.{dite}
use native.Mathlib.Decide.{ℕ_discrete}
use Rattle.ib_word.specs.declared.word.TheConstants.{X_LOCK_DECR, WORD_BIAS}
use Rattle.ib_layout.specs.Geometry.{Sizes}
use Rattle.ib_layout.specs.Places.{lock_place, waiters_place, gen_place, ex_gen_place, words_of, latches_of, drawn_place, end_place}
use Rattle.ib_logrec.specs.Log.{by_place}
use Rattle.ib_rule.specs.Memory.{base, page_places}
use Rattle.ib_rule.specs.Rule.{IsOpening}
use Rattle.ib_rule.specs.Opening.{AreFreed, AreOpened}

-- no latch is free yet, and one more
pub none_freed : (words : List ℕ) → AreFreed 0 words words
none_freed words = record { sized = refl; freed = λ l h. absurd (omega arith); others = λ p h. refl }

pub one_freed : (n p w : ℕ) (old now : List ℕ) → AreFreed n old now → p ≡ lock_place n → p < length old → w ≡ WORD_BIAS + X_LOCK_DECR → AreFreed (n + 1) old (slice_set now p w)
one_freed n p w old now are at fits free = record {
  sized = length-set now p w ∙ are.sized;
  freed = λ l h. dite (ℕ_discrete l n)
      (λ z. subst (λ p. get_or (set now p w) (lock_place l) 0 ≡ WORD_BIAS + X_LOCK_DECR) (let e : lock_place l ≡ p = omega arith in e) (get_or-set_same now (lock_place l) w 0 (let s = are.sized in omega arith) ∙ free))
      (λ z. get_or-set_other now p (lock_place l) w 0 (λ e. z (omega arith)) ∙ are.freed l (omega arith));
  others = λ q away. get_or-set_other now p q w 0 (λ e. away n (omega arith) (sym (e ∙ at))) ∙ are.others q (λ l h. away l (omega arith));
}

-- no page word is the law's yet, and one more
pub none_opened : (opening : ℕ → ℕ → ℕ → ℕ) (sizes : Sizes) (words : List ℕ) → AreOpened opening sizes 0 words words
none_opened opening sizes words = record { sized = refl; opened = λ q h. absurd (omega arith); before = λ p h. refl }

pub one_opened : (opening : ℕ → ℕ → ℕ → ℕ) (sizes : Sizes) (n p w : ℕ) (old now : List ℕ) → AreOpened opening sizes n old now → p ≡ base sizes + n → base sizes + n < length old → w ≡ by_place opening sizes.pages n → AreOpened opening sizes (n + 1) old (slice_set now p w)
one_opened opening sizes n p w old now are at fits word = record {
  sized = length-set now p w ∙ are.sized;
  opened = λ q h. dite (ℕ_discrete q n)
      (λ z. subst (λ q. get_or (set now p w) q 0 ≡ by_place opening sizes.pages n) (let e : p ≡ base sizes + q = omega arith in e) (get_or-set_same now p w 0 (let s = are.sized in omega arith) ∙ word)
      ∙ sym (ap (λ (n : ℕ). by_place opening sizes.pages n) z))
      (λ z. get_or-set_other now p (base sizes + q) w 0 (λ e. z (omega arith)) ∙ are.opened q (omega arith));
  before = λ q h. get_or-set_other now p q w 0 (λ e. omega arith) ∙ are.before q h;
}

get_zero : (n p : ℕ) → get_or (replicate {A = ℕ} n 0) p 0 ≡ 0
get_zero zero p = refl
get_zero (suc n) zero = refl
get_zero (suc n) (suc p) = get_zero n p

-- zeros with the lock words freed and the pages opened are the words at the start
pub opens_so : (opening : ℕ → ℕ → ℕ → ℕ) (sizes : Sizes) (mid words : List ℕ) → AreFreed (latches_of sizes) (replicate (words_of sizes) 0) mid → AreOpened opening sizes (page_places sizes) mid words → IsOpening opening sizes words
opens_so opening sizes mid words freed opened = record {
  sized = opened.sized ∙ (freed.sized ∙ length-replicate (words_of sizes) 0);
  none_drawn = zero_at drawn_place (omega arith) (λ l h e. omega arith);
  none_logged = zero_at end_place (omega arith) (λ l h e. omega arith);
  all_free = λ l h. opened.before (lock_place l) (omega arith) ∙ freed.freed l h;
  none_waits = λ l h. zero_at (waiters_place l) (omega arith) (λ k h e. omega arith);
  none_raised = λ l h. zero_at (gen_place l) (omega arith) (λ k h e. omega arith);
  none_drained = λ l h. zero_at (ex_gen_place l) (omega arith) (λ k h e. omega arith);
  opened = opened.opened;
}
  where
    zero_at : (p : ℕ) → p < base sizes → ((l : ℕ) → l < latches_of sizes → lock_place l ≢ p) → slice_index words p ≡ 0
    zero_at p low away = opened.before p low ∙ (freed.others p away ∙ get_zero (words_of sizes) p)
