-- Where the words of a space stand in its table: two words, five words for each latch, the words of the pages, the log.
use Rattle.std.specs.Prelude.{ℕ, ◌+◌, ◌*◌}
use Rattle.ib_map.specs.declared.TheConstants.{PAGE_WORDS}
use Rattle.ib_layout.specs.declared.geometry.TheConstants.{DRAWN_PLACE, END_PLACE, LATCHES, LATCH_WORDS}
use Rattle.ib_layout.specs.Geometry.{Sizes}

-- how many sessions were drawn, and the end of the log
abbrev pub drawn_place : ℕ
drawn_place = DRAWN_PLACE

abbrev pub end_place : ℕ
end_place = END_PLACE

-- the lock word of a latch
abbrev pub lock_place : ℕ → ℕ
lock_place latch = LATCHES + LATCH_WORDS * latch

-- its waiters flag
abbrev pub waiters_place : ℕ → ℕ
waiters_place latch = LATCHES + 1 + LATCH_WORDS * latch

-- the session that last took it in SX or X
abbrev pub writer_place : ℕ → ℕ
writer_place latch = LATCHES + 2 + LATCH_WORDS * latch

-- its generation
abbrev pub gen_place : ℕ → ℕ
gen_place latch = LATCHES + 3 + LATCH_WORDS * latch

-- its generation of next writers
abbrev pub ex_gen_place : ℕ → ℕ
ex_gen_place latch = LATCHES + 4 + LATCH_WORDS * latch

-- how many latches a space has: the log's, the index's and one a page
abbrev pub latches_of : Sizes → ℕ
latches_of sizes = sizes.pages + 2

-- a word of a page
abbrev pub page_place : Sizes → ℕ → ℕ → ℕ
page_place sizes page index = LATCHES + LATCH_WORDS * latches_of sizes + PAGE_WORDS * page + index

-- a word of the log
abbrev pub log_place : Sizes → ℕ → ℕ
log_place sizes word = LATCHES + LATCH_WORDS * latches_of sizes + PAGE_WORDS * sizes.pages + word

-- how many words the table has
abbrev pub words_of : Sizes → ℕ
words_of sizes = LATCHES + LATCH_WORDS * latches_of sizes + PAGE_WORDS * sizes.pages + sizes.log_words
