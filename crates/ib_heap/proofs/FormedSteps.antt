-- One step of the walk of a chain: what holds from a record on is what holds behind it.
use Rattle.std.proofs.Common.{◌≡◌, ℕ, suc, ◌+◌, ◌-◌, ◌/◌, ◌%◌, ◌<◌, ◌≤◌, ◌∙◌, Bool, ◌&&◌, List, ◌∷◌, get_or, refl, ap, arith, eqb, true, false, [], sym, length, inl, inr}
use Rattle.std.specs.Prelude.{Some}
use Rattle.std.proofs.lemmas.Bool.{eq-eqb, ne_eqb, le-leb, cases_lt, and_left, and_right, false_from_ne_true}
use Rattle.ib_map.specs.Keys.{rank, end_rank, MapKey}
use Rattle.ib_heap.specs.declared.formed.ChainStep.{ChainStep}
use Rattle.ib_heap.specs.Page.{rises}
use Rattle.ib_heap.specs.Chain.{chain_from, is_owned, is_directory, owners, records_in, key_at, is_key_at, are_keys}
use Rattle.ib_heap.specs.Walks.{end_from, low_of, chain_holds}
use Rattle.ib_heap.proofs.HeapLaws.{IsOwner}

-- the step behind a record, by how many records then stand behind the last one that has a slot, and by the next slot
abbrev pub step_behind : List ℕ → ChainStep → ℕ → ℕ → ChainStep
step_behind ws s owned slot = record { at = get_or ws s.at 0 % 256; owned = owned; slot = slot; last = Some (key_at ws s.at) }

-- the four parts of what holds
abbrev owned_part : List ℕ → ℕ → ChainStep → Bool
owned_part ws n s = is_owned s.owned (chain_from ws n s.at) (get_or ws 19 0 / 256)

abbrev slots_part : List ℕ → ℕ → ChainStep → Bool
slots_part ws n s = is_directory ws (10 - s.slot) (8 + s.slot) (owners (chain_from ws n s.at))

abbrev keys_part : List ℕ → ℕ → ChainStep → Bool
keys_part ws n s = are_keys ws (chain_from ws n s.at) && rises (low_of s.last) (records_in ws (chain_from ws n s.at)) end_rank

and-same : (a b c d : Bool) → a ≡ c → b ≡ d → (a && b) ≡ (c && d)
and-same a b c d e f = ap (λ (x : Bool). x && b) e ∙ ap (λ (x : Bool). c && x) f

parts-same : (ws : List ℕ) (m : ℕ) (s t : ChainStep) → t.at ≡ get_or ws s.at 0 % 256 → owned_part ws (suc m) s ≡ owned_part ws m t → slots_part ws (suc m) s ≡ slots_part ws m t → keys_part ws (suc m) s ≡ keys_part ws m t → chain_holds ws (suc m) s ≡ chain_holds ws m t
parts-same ws m s t at e f g =
    and-same (eqb (end_from ws (suc m) s.at) 19) (owned_part ws (suc m) s && (slots_part ws (suc m) s && keys_part ws (suc m) s)) (eqb (end_from ws m t.at) 19) (owned_part ws m t && (slots_part ws m t && keys_part ws m t))
    (ap (λ p. eqb (end_from ws m p) 19) (let back : get_or ws s.at 0 % 256 ≡ t.at = omega arith in back))
    (and-same (owned_part ws (suc m) s) (slots_part ws (suc m) s && keys_part ws (suc m) s) (owned_part ws m t) (slots_part ws m t && keys_part ws m t) e
    (and-same (slots_part ws (suc m) s) (keys_part ws (suc m) s) (slots_part ws m t) (keys_part ws m t) f g))

and_one : (b : Bool) → (b && true) ≡ b
and_one true = refl
and_one false = refl

-- the end of a chain
pub end-holds : (ws : List ℕ) (s : ChainStep) → s.at ≡ 19 → get_or ws 19 0 / 256 ≡ s.owned + 1 → get_or ws 19 0 / 256 ≤ 8 → (s.slot < 10) × (get_or ws (8 + s.slot) 0 ≡ 19) → low_of s.last ≤ end_rank
    → is_directory ws (10 - (s.slot + 1)) (8 + (s.slot + 1)) [] ≡ chain_holds ws 0 s
end-holds ws s at header few owner low =
    let lt = owner.0 in
    let more : 10 - s.slot ≡ suc (10 - (s.slot + 1)) = omega arith in
    let next : 8 + s.slot + 1 ≡ 8 + (s.slot + 1) = omega arith in
    let slots : is_directory ws (10 - s.slot) (8 + s.slot) (19 ∷ []) ≡ is_directory ws (10 - (s.slot + 1)) (8 + (s.slot + 1)) [] =
    ap (λ n. is_directory ws n (8 + s.slot) (19 ∷ [])) more ∙ rw (eq-eqb (get_or ws (8 + s.slot) 0) 19 owner.1) (ap (λ i. is_directory ws (10 - (s.slot + 1)) i []) next) in
    sym (rw (eq-eqb s.at 19 at, eq-eqb (get_or ws 19 0 / 256) (s.owned + 1) header, le-leb (get_or ws 19 0 / 256) 8 few, le-leb (low_of s.last) end_rank low) (and_one _ ∙ slots))

module _ (ws : List ℕ) (s : ChainStep) (m : ℕ) where
  abbrev header : ℕ
  header = get_or ws s.at 0 / 256

  abbrev key : MapKey
  key = key_at ws s.at

  abbrev rest_at : ℕ
  rest_at = get_or ws s.at 0 % 256

  keys-behind : (owned slot : ℕ) → low_of s.last ≤ rank key → is_key_at ws s.at ≡ true → keys_part ws (suc m) s ≡ keys_part ws m (step_behind ws s owned slot)
  keys-behind owned slot le is = rw (le-leb (low_of s.last) (rank key) le, is) refl

  pub holds-none : header ≡ 0 → low_of s.last ≤ rank key → is_key_at ws s.at ≡ true → chain_holds ws (suc m) s ≡ chain_holds ws m (step_behind ws s (s.owned + 1) s.slot)
  holds-none z le is = parts-same ws m s (step_behind ws s (s.owned + 1) s.slot) refl (rw (eq-eqb header 0 z) refl) (rw (eq-eqb header 0 z) refl) (keys-behind (s.owned + 1) s.slot le is)

  owned-some : (header ≡ 0 → ⊥) → IsOwner s.owned header → owned_part ws (suc m) s ≡ is_owned 0 (chain_from ws m rest_at) (get_or ws 19 0 / 256)
  owned-some ne is = rw (ne_eqb header 0 ne, eq-eqb header (s.owned + 1) is.0, le-leb 4 header is.1.0, le-leb header 8 is.1.1) refl

  slots-some : (header ≡ 0 → ⊥) → (s.slot < 10) × (get_or ws (8 + s.slot) 0 ≡ s.at) → slots_part ws (suc m) s ≡ is_directory ws (10 - (s.slot + 1)) (8 + (s.slot + 1)) (owners (chain_from ws m rest_at))
  slots-some ne owner =
      let lt = owner.0 in
      let first : owners (chain_from ws (suc m) s.at) ≡ s.at ∷ owners (chain_from ws m rest_at) = rw (ne_eqb header 0 ne) refl in
      let more : 10 - s.slot ≡ suc (10 - (s.slot + 1)) = omega arith in
      let next : 8 + s.slot + 1 ≡ 8 + (s.slot + 1) = omega arith in
      ap (λ (slots : List ℕ). is_directory ws (10 - s.slot) (8 + s.slot) slots) first
      ∙ (ap (λ n. is_directory ws n (8 + s.slot) (s.at ∷ owners (chain_from ws m rest_at))) more
      ∙ rw (eq-eqb (get_or ws (8 + s.slot) 0) s.at owner.1) (ap (λ i. is_directory ws (10 - (s.slot + 1)) i (owners (chain_from ws m rest_at))) next))

  pub holds-some : (header ≡ 0 → ⊥) → IsOwner s.owned header → (s.slot < 10) × (get_or ws (8 + s.slot) 0 ≡ s.at) → low_of s.last ≤ rank key → is_key_at ws s.at ≡ true → chain_holds ws (suc m) s ≡ chain_holds ws m (step_behind ws s 0 (s.slot + 1))
  holds-some ne is owner le is_key = parts-same ws m s (step_behind ws s 0 (s.slot + 1)) refl (owned-some ne is) (slots-some ne owner) (keys-behind 0 (s.slot + 1) le is_key)

  -- words that are no key's
  pub holds-keyless : (is_key_at ws s.at ≡ true → ⊥) → chain_holds ws (suc m) s ≡ false
  holds-keyless none =
      let keyless : are_keys ws (chain_from ws (suc m) s.at) ≡ false = and_left (is_key_at ws s.at) (are_keys ws (chain_from ws m rest_at)) (false_from_ne_true (is_key_at ws s.at) none) in
      let keys : keys_part ws (suc m) s ≡ false = and_left (are_keys ws (chain_from ws (suc m) s.at)) (rises (low_of s.last) (records_in ws (chain_from ws (suc m) s.at)) end_rank) keyless in
      and_right (eqb (end_from ws (suc m) s.at) 19) (owned_part ws (suc m) s && (slots_part ws (suc m) s && keys_part ws (suc m) s))
      (and_right (owned_part ws (suc m) s) (slots_part ws (suc m) s && keys_part ws (suc m) s) (and_right (slots_part ws (suc m) s) (keys_part ws (suc m) s) keys))

  -- a slot that is another's
  pub holds-unowned : (header ≡ 0 → ⊥) → ((s.slot < 10) × (get_or ws (8 + s.slot) 0 ≡ s.at) → ⊥) → chain_holds ws (suc m) s ≡ false
  holds-unowned ne not =
      let rest : List ℕ = owners (chain_from ws m rest_at) in
      let first : owners (chain_from ws (suc m) s.at) ≡ s.at ∷ rest = rw (ne_eqb header 0 ne) refl in
      let slots : slots_part ws (suc m) s ≡ false = ap (λ (os : List ℕ). is_directory ws (10 - s.slot) (8 + s.slot) os) first ∙ elim (cases_lt s.slot 10) [
        | inl lt ↦ (let more : 10 - s.slot ≡ suc (10 - (s.slot + 1)) = omega arith in
            ap (λ n. is_directory ws n (8 + s.slot) (s.at ∷ rest)) more ∙ and_left _ _ (ne_eqb (get_or ws (8 + s.slot) 0) s.at (λ e. not (lt, e))))
        | inr ge ↦ (let none : 10 - s.slot ≡ 0 = omega arith in
            ap (λ n. is_directory ws n (8 + s.slot) (s.at ∷ rest)) none ∙ ne_eqb (length (s.at ∷ rest)) 0 (λ e. absurd (omega arith)))
      ] in
      and_right _ _ (and_right _ _ (and_left _ _ slots))
