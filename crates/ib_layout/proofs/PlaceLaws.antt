-- No two words of a space have one place, and each place lies within the table.
use Rattle.std.proofs.Common.{◌≡◌, ℕ, ◌+◌, ◌<◌, arith}
use Rattle.ib_map.specs.declared.TheConstants.{PAGE_WORDS}
use Rattle.ib_layout.specs.Geometry.{Sizes}
use Rattle.ib_layout.specs.Places.{end_place, lock_place, latches_of, page_place, log_place, words_of}

-- The five words of a latch are its lock place and the four places behind it.
pub latch_words_apart : (latch other i j : ℕ) → i < 5 → j < 5 → lock_place latch + i ≡ lock_place other + j → (latch ≡ other) × (i ≡ j)
latch_words_apart latch other i j lt lt_other same = (omega arith, omega arith)

pub latch_word_behind_first : (latch i : ℕ) → end_place < lock_place latch + i
latch_word_behind_first latch i = omega arith

pub latch_word_before_pages : (sizes : Sizes) (latch i page index : ℕ) → latch < latches_of sizes → i < 5 → lock_place latch + i < page_place sizes page index
latch_word_before_pages sizes latch i page index lt lt_word = omega arith

pub page_words_apart : (sizes : Sizes) (page other i j : ℕ) → i < PAGE_WORDS → j < PAGE_WORDS → page_place sizes page i ≡ page_place sizes other j → (page ≡ other) × (i ≡ j)
page_words_apart sizes page other i j lt lt_other same = (omega arith, omega arith)

pub page_word_before_log : (sizes : Sizes) (page index word : ℕ) → page < sizes.pages → index < PAGE_WORDS → page_place sizes page index < log_place sizes word
page_word_before_log sizes page index word lt lt_word = omega arith

pub log_words_apart : (sizes : Sizes) (word other : ℕ) → log_place sizes word ≡ log_place sizes other → word ≡ other
log_words_apart sizes word other same = omega arith

pub log_word-lt_words : (sizes : Sizes) (word : ℕ) → word < sizes.log_words → log_place sizes word < words_of sizes
log_word-lt_words sizes word lt = omega arith

pub page_word-lt_words : (sizes : Sizes) (page index : ℕ) → page < sizes.pages → index < PAGE_WORDS → page_place sizes page index < words_of sizes
page_word-lt_words sizes page index lt lt_word = omega arith

pub latch_word-lt_words : (sizes : Sizes) (latch i : ℕ) → latch < latches_of sizes → i < 5 → lock_place latch + i < words_of sizes
latch_word-lt_words sizes latch i lt lt_word = omega arith
