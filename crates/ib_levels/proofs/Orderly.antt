-- Laws of orderly lists of levels.
use Rattle.std.proofs.Common.{◌≡◌, ◌↔◌, ℕ, suc, ◌<◌, ◌⊎◌, inl, inr, Bool, true, false, not, cond, IsTrue, IsOk, List, [], ◌∷◌, ◌++◌, length, get_or, length-append, Option, Some, None, Result, refl, sym, ap, ◌∙◌, subst, arith}
use Rattle.std.specs.List.{All, remove}
use Rattle.std.proofs.lemmas.List.{get_or_append_left}
use Rattle.std.proofs.Math.Seq.{get_or-append_seam}
use Rattle.std.proofs.lemmas.List.Elements.{All-nil, All-cons, All-head, All-tail}
use Rattle.std.proofs.lemmas.List.Quantifiers.{all_pairs_push, all_pairs_remove}
use Rattle.ib_levels.specs.declared.level.Level.{Level}
use Rattle.ib_levels.specs.declared.listed.Against.{Against}
use Rattle.ib_levels.specs.Level.{may_follow, MayFollow, IsOrderly, MayFollowAll, first_against}
use Rattle.ib_levels.specs.Listed.{Allows, answer_to, refused_by}

-- the empty list is orderly
pub orderly_nil : IsOrderly []
orderly_nil i j d before within = absurd (omega arith)

-- a latch that may be taken keeps the list orderly
pub orderly_push : (levels : List Level) (wanted : Level) → IsOrderly levels → MayFollowAll wanted levels → IsOrderly (levels ++ wanted ∷ [])
orderly_push levels wanted orderly may = all_pairs_push MayFollow levels wanted orderly (λ k d within. may k d within)

-- the first level that forbids a request is none exactly where the latch may be taken
may_by_test : (test : Bool) (wanted held : Level) (levels : List Level) → may_follow held wanted ≡ test → (first_against wanted levels ≡ None → MayFollowAll wanted levels)
    → cond (not test) (Some held) (first_against wanted levels) ≡ None → MayFollowAll wanted (held ∷ levels)
may_by_test true wanted held levels follows rest none = All-cons (λ h. MayFollow h wanted) held levels follows (rest none)
may_by_test false wanted held levels against rest none = absurd (cc)

pub may_from_none : (wanted : Level) (levels : List Level) → first_against wanted levels ≡ None → MayFollowAll wanted levels
may_from_none wanted [] none = All-nil (λ held. MayFollow held wanted)
may_from_none wanted (held ∷ levels) none = may_by_test (may_follow held wanted) wanted held levels refl (may_from_none wanted levels) none

pub none_from_may : (wanted : Level) (levels : List Level) → MayFollowAll wanted levels → first_against wanted levels ≡ None
none_from_may wanted [] may = refl
none_from_may wanted (held ∷ levels) may =
    let follows : may_follow held wanted ≡ true = All-head (λ h. MayFollow h wanted) held levels may in
    ap (λ test. cond (not test) (Some held) (first_against wanted levels)) follows ∙ none_from_may wanted levels (All-tail (λ h. MayFollow h wanted) held levels may)

-- in a list with one more level that is orderly, the last may be taken beside the others, which are orderly
pub may_from_orderly : (levels : List Level) (wanted : Level) → IsOrderly (levels ++ wanted ∷ []) → MayFollowAll wanted levels
may_from_orderly levels wanted orderly k d within =
    subst (λ w. MayFollow (get_or levels k d) w) (get_or-append_seam levels wanted [] d)
    (subst (λ h. MayFollow h (get_or (levels ++ wanted ∷ []) (length levels) d)) (get_or_append_left levels (wanted ∷ []) d k within)
    (orderly k (length levels) d within (simp length-append (omega arith))))

-- the answer is yes exactly where the latch is held already, or may be taken
pub answer_ok : (is_held : Bool) (wanted : Level) (levels : List Level) → IsOk (answer_to is_held wanted levels) ↔ (IsTrue is_held ⊎ MayFollowAll wanted levels)
answer_ok true wanted levels = (λ ok. inl refl, λ may. refl)
answer_ok false wanted levels = (λ ok. inr (may_from_none wanted levels (none (first_against wanted levels) ok)), λ may. ok_from may)
  where
    none : (first : Option Level) → IsOk (refused_by wanted first) → first ≡ None
    none None ok = refl
    none (Some held) ok = absurd (cc)

    ok_from : (false ≡ true) ⊎ MayFollowAll wanted levels → IsOk (refused_by wanted (first_against wanted levels))
    ok_from (inl held) = absurd (cc)
    ok_from (inr may) = rw (none_from_may wanted levels may) refl

-- .. and of an orderly list, where it stays orderly with the new level
pub answer_orderly : (is_held : Bool) (wanted : Level) (levels : List Level) → IsOrderly levels → IsOk (answer_to is_held wanted levels) ↔ (IsTrue is_held ⊎ IsOrderly (levels ++ wanted ∷ []))
answer_orderly is_held wanted levels orderly =
    let answered = answer_ok is_held wanted levels in
    (λ ok. after (answered.0 ok), λ stays. answered.1 (before stays))
  where
    after : IsTrue is_held ⊎ MayFollowAll wanted levels → IsTrue is_held ⊎ IsOrderly (levels ++ wanted ∷ [])
    after (inl held) = inl held
    after (inr may) = inr (orderly_push levels wanted orderly may)

    before : IsTrue is_held ⊎ IsOrderly (levels ++ wanted ∷ []) → IsTrue is_held ⊎ MayFollowAll wanted levels
    before (inl held) = inl held
    before (inr stays) = inr (may_from_orderly levels wanted stays)

-- the answer of a request on a latch that is not held already
pub answer_unheld : (is_held : Bool) (wanted : Level) (levels : List Level) (first : Option Level) (answer : Result (Unit {0}) Against)
    → is_held ≡ false → first ≡ first_against wanted levels → answer ≡ refused_by wanted first → answer ≡ answer_to is_held wanted levels
answer_unheld is_held wanted levels first answer unheld found is =
    is ∙ (ap (refused_by wanted) found ∙ sym (ap (λ held. answer_to held wanted levels) unheld))

-- what is said of the answer holds of a result that is the answer
pub allowed : (is_held : Bool) (wanted : Level) (levels : List Level) (answer : Result (Unit {0}) Against) → answer ≡ answer_to is_held wanted levels
    → Allows is_held wanted levels answer
allowed is_held wanted levels answer is = record {
  answer = is;
  ok = subst (λ a. IsOk a ↔ (IsTrue is_held ⊎ MayFollowAll wanted levels)) (sym is) (answer_ok is_held wanted levels);
  orderly = λ orderly. subst (λ a. IsOk a ↔ (IsTrue is_held ⊎ IsOrderly (levels ++ wanted ∷ []))) (sym is) (answer_orderly is_held wanted levels orderly);
}

-- the parts of an orderly list: its first level allows the others, which are orderly
pub orderly_head : (level : Level) (levels : List Level) → IsOrderly (level ∷ levels) → All (MayFollow level) levels
orderly_head level levels orderly k d within = orderly 0 (suc k) d (omega arith) (omega arith)

pub orderly_tail : (level : Level) (levels : List Level) → IsOrderly (level ∷ levels) → IsOrderly levels
orderly_tail level levels orderly i j d before within = orderly (suc i) (suc j) d (omega arith) (omega arith)

-- a list from which one level is taken stays orderly
pub orderly_remove : (levels : List Level) (i : ℕ) → i < length levels → IsOrderly levels → IsOrderly (remove levels i)
orderly_remove levels i within orderly = all_pairs_remove MayFollow levels i within orderly
