-- The pages of a new space, by their numbers.
use Rattle.std.proofs.Common.{◌≡◌, ◌≢◌, ℕ, ◌<◌, ◌≤◌, refl, arith}
use Rattle.std.proofs.lemmas.Bool.{eq-eqb, ne_eqb, le-leb, lt-leb}
use Rattle.ib_heap.specs.Words.{free_page_words}
use Rattle.ib_heap.specs.Form.{empty_leaf_words}
use Rattle.ib_page.specs.Opening.{opening_space_words, opening_words}

pub opening_space : (roots page : ℕ) → page ≡ 0 → opening_words roots page ≡ opening_space_words roots
unfolding opening_words
opening_space roots page is = rw (eq-eqb page 0 is) refl

pub opening_leaf : (roots page : ℕ) → page ≢ 0 → page ≤ roots → opening_words roots page ≡ empty_leaf_words 0
unfolding opening_words
opening_leaf roots page first root = rw (ne_eqb page 0 first, le-leb page roots root) refl

pub opening_free : (roots page : ℕ) → roots < page → opening_words roots page ≡ free_page_words 0
unfolding opening_words
opening_free roots page far = rw (ne_eqb page 0 (λ e. omega arith), lt-leb page roots far) refl
