-- The law of places, clause by clause.
use Rattle.ib_layout.proofs.PlaceLaws.{latch_words_apart, page_words_apart, log_words_apart, latch_word_behind_first, latch_word_before_pages, page_word_before_log, latch_word-lt_words, page_word-lt_words, log_word-lt_words}
use Rattle.ib_layout.proofs.laws.place_law.Goals as goal

pub returns-clause-latches : goal.returns-clause-latches
returns-clause-latches c latch other i j lt lt_other same = latch_words_apart latch other i j lt lt_other same

pub returns-clause-pages : goal.returns-clause-pages
returns-clause-pages c sizes page other i j lt lt_other same = page_words_apart sizes page other i j lt lt_other same

pub returns-clause-log : goal.returns-clause-log
returns-clause-log c sizes word other same = log_words_apart sizes word other same

pub returns-clause-latches_behind_first : goal.returns-clause-latches_behind_first
returns-clause-latches_behind_first c latch i = latch_word_behind_first latch i

pub returns-clause-pages_behind_latches : goal.returns-clause-pages_behind_latches
returns-clause-pages_behind_latches c sizes latch i page index lt lt_word = latch_word_before_pages sizes latch i page index lt lt_word

pub returns-clause-log_behind_pages : goal.returns-clause-log_behind_pages
returns-clause-log_behind_pages c sizes page index word lt lt_word = page_word_before_log sizes page index word lt lt_word

pub returns-clause-latch_in_range : goal.returns-clause-latch_in_range
returns-clause-latch_in_range c sizes latch i lt lt_word = latch_word-lt_words sizes latch i lt lt_word

pub returns-clause-page_in_range : goal.returns-clause-page_in_range
returns-clause-page_in_range c sizes page index lt lt_word = page_word-lt_words sizes page index lt lt_word

pub returns-clause-log_in_range : goal.returns-clause-log_in_range
returns-clause-log_in_range c sizes word lt = log_word-lt_words sizes word lt
