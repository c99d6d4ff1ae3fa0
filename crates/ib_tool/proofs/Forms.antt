-- Words that are no form.
use Rattle.std.proofs.Common.{◌≡◌, ℕ, List, [], ◌∷◌, None, length, refl}
use Rattle.ib_tool.specs.Words.{form_of}

-- neither one word nor four
pub other-words : (words : List (List ℕ)) → (length words ≡ 1 → ⊥) → (length words ≡ 4 → ⊥) → form_of words ≡ None
other-words [] one four = refl
other-words (a ∷ []) one four = absurd (one refl)
other-words (a ∷ b ∷ []) one four = refl
other-words (a ∷ b ∷ c ∷ []) one four = refl
other-words (a ∷ b ∷ c ∷ d ∷ []) one four = absurd (four refl)
other-words (a ∷ b ∷ c ∷ d ∷ e ∷ words) one four = refl
