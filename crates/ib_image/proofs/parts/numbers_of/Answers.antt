-- The words that are read are those that the bytes spell.
use Rattle.std.proofs.Common.{◌≡◌, ◌++◌, length, take, drop, arith}
use Rattle.std.proofs.lemmas.List.{take_at}
use Rattle.ib_replay.proofs.FileLaws.{word_bytes-read, words_fit}
use Rattle.ib_image.proofs.parts.numbers_of.Goals as goal
use Rattle.ib_image.proofs.parts.numbers_of.Goals.{After-read_u64_into}

length_is : (c : After-read_u64_into) → length c.read_u64_into.new.dst ≡ c.in_ok-numbers.numbers.len
length_is c = omega (arith, c.read_u64_into.auto.dst, c.deref_mut.ensures.len, c.in_ok-numbers.numbers.ok.0)

written : (c : After-read_u64_into) → take c.in_ok-numbers.numbers.len (c.read_u64_into.new.dst ++ drop (length c.read_u64_into.new.dst) c.in_ok-numbers.numbers.items) ≡ c.read_u64_into.new.dst
written c = take_at c.read_u64_into.new.dst _ c.in_ok-numbers.numbers.len (length_is c)

pub returns-clause-numbers : goal.returns-clause-numbers
returns-clause-numbers c =
    let at = (goal.at.returns-clause-numbers c).After-read_u64_into in
    rw (written at) (word_bytes-read c.read_u64_into.new.dst c.args.bytes.now (omega (arith, length_is at, c.in_ok-numbers.ensures.len)) (λ i. omega (arith, c.type_inv.bytes i)) c.read_u64_into.ensures)

pub returns-clause-fits : goal.returns-clause-fits
returns-clause-fits c =
    let at = (goal.at.returns-clause-fits c).After-read_u64_into in
    rw (written at) (words_fit c.read_u64_into.new.dst c.args.bytes.now (λ i. omega (arith, c.type_inv.bytes i)) c.read_u64_into.ensures)
