-- The table, word by word.
use Rattle.std.proofs.Common.{ℕ, ◌≡◌, ◌<◌, true, ◌*◌, ◌+◌, ◌∙◌, get_or, eqb, refl, sym}
use Rattle.std.proofs.lemmas.Bool.{agree_below_at, eqb-true, eq-eqb}
use Rattle.ib_heap.specs.declared.formed.TheConstants.{NO_OFFSETS}
use Rattle.ib_heap.specs.Chain.{is_offset}
use Rattle.ib_heap.proofs.formed.unmet.Goals as goal

none : (r : ℕ) → r < 35 → get_or NO_OFFSETS (20 + 4 * r) 0 ≡ 0
none r lt = eqb-true (get_or NO_OFFSETS (20 + 4 * r) 0) 0 (agree_below_at (λ q. eqb (get_or NO_OFFSETS (20 + 4 * q) 0) 0) (λ q. true) 35 r refl lt)

only : (p : ℕ) → p < 160 → get_or NO_OFFSETS p 0 ≡ 0 → is_offset 35 p ≡ true
only p lt z = sym (agree_below_at (λ q. eqb (get_or NO_OFFSETS q 0) 0) (λ q. is_offset 35 q) 160 p refl lt) ∙ eq-eqb (get_or NO_OFFSETS p 0) 0 z

pub returns : goal.returns
returns c = record { size = refl; none = none; offsets = only }
