-- The writes that words spell, one after another, and their first fault.
use Rattle.std.proofs.Common.{◌≡◌, ℕ, zero, suc, [], ◌+◌, ◌-◌, ◌*◌, ◌<◌, ◌≤◌, List, ◌∷◌, Bool, eqb, length, get_or, drop, Some, refl, arith}
use Rattle.std.proofs.lemmas.Bool.{lt-ltb, le-ltb, le-leb, lt-leb}
use Rattle.std.proofs.lemmas.List.{drop_more}
use Rattle.ib_map.specs.declared.TheConstants.{PAGE_WORDS}
use Rattle.std.specs.Prelude.{not}
use Rattle.std.specs.List.{list_any}
use Rattle.ib_map.specs.Writes.{page_at, spans_pages}
use Rattle.ib_map.specs.declared.write.Write.{Write}
use Rattle.ib_logrec.specs.declared.fault.LogFault.TheVariants.{BadWrite, Outside}
use Rattle.ib_logrec.specs.Words.{writes_in}
use Rattle.ib_logrec.specs.Grammar.{place_fault}

-- the write at this number, and those behind it
pub writes_in-more : (count i : ℕ) (words : List ℕ) → i < count → 2 * count ≤ length words
    → writes_in (count - i) (drop (2 * i) words)
    ≡ record { place = get_or words (2 * i) 0; value = get_or words (2 * i + 1) 0 } ∷ writes_in (count - (i + 1)) (drop (2 * (i + 1)) words)
writes_in-more count i words lt long =
    let left : count - i ≡ suc (count - (i + 1)) = omega arith in
    let first : drop (2 * i) words ≡ get_or words (2 * i) 0 ∷ drop (2 * i + 1) words = drop_more words (2 * i) 0 (omega arith) in
    let second : drop (2 * i + 1) words ≡ get_or words (2 * i + 1) 0 ∷ drop (2 * i + 1 + 1) words = drop_more words (2 * i + 1) 0 (omega arith) in
    let behind : 2 * i + 1 + 1 ≡ 2 * (i + 1) = omega arith in
    rw (left, first, second, behind) refl

-- one of the writes
pub writes_in-get : (count i : ℕ) (words : List ℕ) (d : Write) → i < count → 2 * count ≤ length words → get_or (writes_in count words) i d ≡ record { place = get_or words (2 * i) 0; value = get_or words (2 * i + 1) 0 }
writes_in-get zero i words d lt long = absurd (omega arith)
writes_in-get (suc count) i [] d lt long = absurd (omega arith)
writes_in-get (suc count) i (place ∷ []) d lt long = absurd (omega arith)
writes_in-get (suc count) zero (place ∷ value ∷ words) d lt long = refl
writes_in-get (suc count) (suc i) (place ∷ value ∷ words) d lt long =
    let first : 2 * suc i ≡ suc (suc (2 * i)) = omega arith in
    let second : suc (suc (2 * i)) + 1 ≡ suc (suc (2 * i + 1)) = omega arith in
    rw (first, second) (writes_in-get count i words d (omega arith) (omega arith))

module _ (pages entry low : ℕ) (w : Write) (ws : List Write) where
  pub place_fault-outside : pages * PAGE_WORDS ≤ w.place → place_fault pages entry low (w ∷ ws) ≡ Some (Outside entry w.place)
  place_fault-outside out = rw (le-ltb w.place (pages * PAGE_WORDS) out) refl

  pub place_fault-below : w.place < pages * PAGE_WORDS → w.place < low → place_fault pages entry low (w ∷ ws) ≡ Some (BadWrite entry w.place)
  place_fault-below on below = rw (lt-ltb w.place (pages * PAGE_WORDS) on, lt-leb low w.place below) refl

  pub place_fault-more : w.place < pages * PAGE_WORDS → low ≤ w.place → place_fault pages entry low (w ∷ ws) ≡ place_fault pages entry (w.place + 1) ws
  place_fault-more on above = rw (lt-ltb w.place (pages * PAGE_WORDS) on, le-leb low w.place above) refl

-- a write that lies on another page than this one
abbrev pub leaves : ℕ → Write → Bool
leaves page w = not (eqb (page_at w.place) page)

pub spans_pages-first : (count : ℕ) (words : List ℕ) → 2 * count ≤ length words → list_any (leaves (page_at (get_or words 0 0))) (writes_in (count - 1) (drop 2 words)) ≡ spans_pages (writes_in count words)
spans_pages-first zero words long = refl
spans_pages-first (suc count) [] long = absurd (omega arith)
spans_pages-first (suc count) (place ∷ []) long = absurd (omega arith)
spans_pages-first (suc count) (place ∷ value ∷ words) long = let one : suc count - 1 ≡ count = omega arith in rw one refl
