-- The words of writes, and the writes that words spell.
use Rattle.std.proofs.Common.{◌≡◌, ℕ, zero, suc, ◌+◌, ◌*◌, ◌≤◌, Bool, true, false, List, [], ◌∷◌, ◌++◌, length, take, Some, None, Option, refl, ap, arith}
use Rattle.std.specs.Prelude.{nat_lt, nat_le}
use Rattle.std.proofs.lemmas.Bool.{ltb-true, leb-true, lt-ltb, le-leb}
use Rattle.ib_map.specs.declared.TheConstants.{PAGE_WORDS}
use Rattle.ib_map.specs.declared.write.Write.{Write}
use Rattle.ib_logrec.specs.declared.fault.LogFault.{LogFault}
use Rattle.ib_logrec.specs.declared.fault.LogFault.TheVariants.{BadWrite, Outside}
use Rattle.ib_map.specs.Writes.{PlacesRise, write_words}
use Rattle.ib_map.proofs.WriteLaws.{length-write_words}
use Rattle.ib_logrec.specs.Words.{writes_in}
use Rattle.ib_logrec.specs.Grammar.{unless, ◌or◌, place_fault}

-- writes are those that their words spell
pub writes_in-words : (ws : List Write) (rest : List ℕ) → writes_in (length ws) (write_words ws ++ rest) ≡ ws
writes_in-words [] rest = refl
writes_in-words (w ∷ ws) rest = ap (λ (vs : List Write). record { place = w.place; value = w.value } ∷ vs) (writes_in-words ws rest)

pub length-writes_in : (n : ℕ) (words : List ℕ) → 2 * n ≤ length words → length (writes_in n words) ≡ n
length-writes_in zero words long = refl
length-writes_in (suc n) [] long = absurd (omega arith)
length-writes_in (suc n) (place ∷ []) long = absurd (omega arith)
length-writes_in (suc n) (place ∷ value ∷ words) long = ap suc (length-writes_in n words (omega arith))

pub length-write_words_in : (n : ℕ) (words : List ℕ) → 2 * n ≤ length words → length (write_words (writes_in n words)) ≡ 2 * n
length-write_words_in n words long = omega (arith, length-write_words (writes_in n words), length-writes_in n words long)

-- words are those of the writes that they spell
pub write_words-writes_in : (n : ℕ) (words : List ℕ) → 2 * n ≤ length words → write_words (writes_in n words) ≡ take (2 * n) words
write_words-writes_in zero words long = refl
write_words-writes_in (suc n) [] long = absurd (omega arith)
write_words-writes_in (suc n) (place ∷ []) long = absurd (omega arith)
write_words-writes_in (suc n) (place ∷ value ∷ words) long =
    let two : 2 * suc n ≡ suc (suc (2 * n)) = omega arith in
    rw two (ap (λ (ws : List ℕ). place ∷ value ∷ ws) (write_words-writes_in n words (omega arith)))

-- ---- faults of places

-- there is a fault where none is said only if a test failed
pub unless-none : (b : Bool) (fault : LogFault) → unless b fault ≡ None → b ≡ true
unless-none true fault none = refl
unless-none false fault none = cc

pub or-none : (found next : Option LogFault) → (found or next) ≡ None → (found ≡ None) × (next ≡ None)
or-none (Some fault) next none = cc
or-none None next none = (refl, none)

-- no place is at fault exactly where the places rise on the pages
pub PlacesRise-no_fault : (pages entry low : ℕ) (ws : List Write) → place_fault pages entry low ws ≡ None → PlacesRise low ws (pages * PAGE_WORDS)
PlacesRise-no_fault pages entry low [] none = tt
PlacesRise-no_fault pages entry low (w ∷ ws) none =
    let first = or-none _ _ none in
    let second = or-none _ _ first.1 in
    let on = unless-none (nat_lt w.place (pages * PAGE_WORDS)) (Outside entry w.place) first.0 in
    let above = unless-none (nat_le low w.place) (BadWrite entry w.place) second.0 in
    (leb-true low w.place above, ltb-true w.place (pages * PAGE_WORDS) on, PlacesRise-no_fault pages entry (w.place + 1) ws second.1)

pub no_fault-PlacesRise : (pages entry low : ℕ) (ws : List Write) → PlacesRise low ws (pages * PAGE_WORDS) → place_fault pages entry low ws ≡ None
no_fault-PlacesRise pages entry low [] rise = refl
no_fault-PlacesRise pages entry low (w ∷ ws) rise =
    rw (lt-ltb w.place (pages * PAGE_WORDS) rise.1, le-leb low w.place rise.0) (no_fault-PlacesRise pages entry (w.place + 1) ws rise.2)
