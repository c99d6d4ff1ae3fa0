-- Each word is that of some counts.
use Rattle.std.proofs.Common.{◌≡◌, ℕ, ◌<◌, ◌≤◌, refl, arith}
use Rattle.ib_word.specs.declared.word.TheConstants.{MOST_READERS, MOST_X}
use Rattle.ib_word.specs.Word.{IsCounted, word_of}
use Rattle.ib_latch_tests.proofs.words.states_of_words.Goals as goal

counted : (s sx x : ℕ) → s ≤ MOST_READERS → x ≤ MOST_X → (1 < x → s ≡ 0) → IsCounted (word_of s sx x)
counted s sx x few_readers few_grants alone =
    record { s = s; sx = sx; x = x; within = record { few_readers = few_readers; few_grants = few_grants; alone = alone }; is = refl }

pub classify-with_reader-requires : goal.classify-with_reader-requires
classify-with_reader-requires g c = counted 1 1 0 (omega arith) (omega arith) (λ more. omega arith)

pub classify-next_with_sx-requires : goal.classify-next_with_sx-requires
classify-next_with_sx-requires g c = counted 1 1 1 (omega arith) (omega arith) (λ more. omega arith)

pub classify-three-requires : goal.classify-three-requires
classify-three-requires g c = counted 0 0 3 (omega arith) (omega arith) (λ more. omega arith)

pub classify-two_with_sx-requires : goal.classify-two_with_sx-requires
classify-two_with_sx-requires g c = counted 0 1 2 (omega arith) (omega arith) (λ more. omega arith)

pub classify-three_with_sx-requires : goal.classify-three_with_sx-requires
classify-three_with_sx-requires g c = counted 0 1 3 (omega arith) (omega arith) (λ more. omega arith)
