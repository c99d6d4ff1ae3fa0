-- A text is cut at the first separator: the part before it, and the parts of the rest.
use Rattle.std.proofs.Common.{◌≡◌, ◌∙◌, ℕ, ◌+◌, ◌-◌, ◌<◌, ◌≤◌, List, [], ◌∷◌, Bool, true, false, cond, ap, sym, subst, refl, length, take, drop, arith, not}
use Rattle.std.specs.Prelude.{◌==◌}
use Rattle.std.specs.List.{slice_split, onto_first, position_or_len}
use Rattle.std.proofs.lemmas.List.{take_rest}
use Rattle.std.proofs.lemmas.List.Splits.{slice_split_first}
use Rattle.ib_io.specs.Lines.{lines_of, without_empty_last}

-- where the separator stands at i
pub split-first : (p : ℕ → Bool) (text : List ℕ) (i : ℕ) → i ≡ position_or_len p text → i < length text
    → slice_split p text ≡ take i text ∷ slice_split p (take (length text - (i + 1)) (drop (i + 1) text))
split-first p text i found lt =
    let cut = slice_split_first p text 0 (omega arith) in
    rw take_rest (subst (λ (n : ℕ). slice_split p text ≡ take n text ∷ slice_split p (drop (n + 1) text)) (sym found) cut)

-- where there is none
pub split-none : (p : ℕ → Bool) (text : List ℕ) → length text ≤ position_or_len p text → slice_split p text ≡ text ∷ []
split-none p [] h = refl
split-none p (x ∷ xs) h =
    elim (p x) as (λ b. length (x ∷ xs) ≤ cond (not b) (1 + position_or_len p xs) 0 → cond b ([] ∷ slice_split p xs) (onto_first x (slice_split p xs)) ≡ (x ∷ xs) ∷ []) [
      | true ↦ λ k. absurd (omega arith)
      | false ↦ λ k. ap (onto_first x) (split-none p xs (omega arith))
    ] h

-- there is always a first part
pub split-some : (p : ℕ → Bool) (text : List ℕ) → (part : List ℕ) × (parts : List (List ℕ)) × (slice_split p text ≡ part ∷ parts)
split-some p [] = ([], [], refl)
split-some p (x ∷ xs) =
    elim (p x) as (λ b. (part : List ℕ) × (parts : List (List ℕ)) × (cond b ([] ∷ slice_split p xs) (onto_first x (slice_split p xs)) ≡ part ∷ parts)) [
      | true ↦ ([], slice_split p xs, refl)
      | false ↦ let rest = split-some p xs in (x ∷ rest.0, rest.1, ap (onto_first x) rest.2)
    ]

pub lines-first : (text line rest : List ℕ) → slice_split (λ byte. byte == 10) text ≡ line ∷ slice_split (λ byte. byte == 10) rest
    → lines_of text ≡ line ∷ lines_of rest
lines-first text line rest h =
    let more = split-some (λ byte. byte == 10) rest in
    ap without_empty_last h ∙ rw more.2 refl

pub lines-last : (text : List ℕ) → 0 < length text → slice_split (λ byte. byte == 10) text ≡ text ∷ [] → lines_of text ≡ text ∷ []
lines-last [] some h = absurd (omega arith)
lines-last (x ∷ xs) some h = ap without_empty_last h
