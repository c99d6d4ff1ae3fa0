-- The bytes are the file of what is read from them.
use Rattle.std.proofs.Common.{arith, sym, ◌∙◌}
use Rattle.std.proofs.lemmas.List.{take_rest}
use Rattle.ib_replay.proofs.FileLaws.{file_with-read}
use Rattle.ib_replay.proofs.file.log_of.Goals as goal

pub returns-clause-found : goal.returns-clause-found
returns-clause-found c =
    file_with-read c.args.form c.args.bytes.now c.in_ok-words.words.items c.read_u64-pages.result c.if-bytes-lt16.false (λ i. omega (arith, c.type_inv.bytes i))
    (sym c.read_u64-first.ensures ∙ c.if-first-form.false) (rw take_rest at c.read_u64-pages.ensures) (rw take_rest at c.in_ok-words.ensures.words)
