-- The first fault of the places of old writes, and whether they lie on more than one page.
use Rattle.std.proofs.Common.{◌≡◌, ℕ, zero, suc, [], ◌+◌, ◌-◌, ◌*◌, ◌<◌, ◌≤◌, List, ◌∷◌, Bool, eqb, length, get_or, drop, Some, refl, arith}
use Rattle.std.proofs.lemmas.Bool.{lt-ltb, le-ltb, le-leb, lt-leb}
use Rattle.std.specs.Prelude.{not}
use Rattle.std.specs.List.{list_any}
use Rattle.ib_map.specs.declared.write.Write.{Write}
use Rattle.ib_logrec.specs.declared.fault.LogFault.TheVariants.{BadWrite, Outside}
use Rattle.ib_logrec.specs.Words.{writes_in}
use Rattle.ib_old_log.specs.declared.TheConstants.{OLD_PAGE_WORDS}
use Rattle.ib_old_log.specs.OldEntries.{old_page_at, spans_old_pages}
use Rattle.ib_old_log.specs.OldGrammar.{old_place_fault}

module _ (pages entry low : ℕ) (w : Write) (ws : List Write) where
  pub old_place_fault-outside : pages * OLD_PAGE_WORDS ≤ w.place → old_place_fault pages entry low (w ∷ ws) ≡ Some (Outside entry w.place)
  old_place_fault-outside out = rw (le-ltb w.place (pages * OLD_PAGE_WORDS) out) refl

  pub old_place_fault-below : w.place < pages * OLD_PAGE_WORDS → w.place < low → old_place_fault pages entry low (w ∷ ws) ≡ Some (BadWrite entry w.place)
  old_place_fault-below on below = rw (lt-ltb w.place (pages * OLD_PAGE_WORDS) on, lt-leb low w.place below) refl

  pub old_place_fault-more : w.place < pages * OLD_PAGE_WORDS → low ≤ w.place → old_place_fault pages entry low (w ∷ ws) ≡ old_place_fault pages entry (w.place + 1) ws
  old_place_fault-more on above = rw (lt-ltb w.place (pages * OLD_PAGE_WORDS) on, le-leb low w.place above) refl

-- a write that lies on another page than this one
abbrev pub leaves_old : ℕ → Write → Bool
leaves_old page w = not (eqb (old_page_at w.place) page)

pub spans_old_pages-first : (count : ℕ) (words : List ℕ) → 2 * count ≤ length words → list_any (leaves_old (old_page_at (get_or words 0 0))) (writes_in (count - 1) (drop 2 words)) ≡ spans_old_pages (writes_in count words)
spans_old_pages-first zero words long = refl
spans_old_pages-first (suc count) [] long = absurd (omega arith)
spans_old_pages-first (suc count) (place ∷ []) long = absurd (omega arith)
spans_old_pages-first (suc count) (place ∷ value ∷ words) long = let one : suc count - 1 ≡ count = omega arith in rw one refl
