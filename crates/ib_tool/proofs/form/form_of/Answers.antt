use Rattle.std.proofs.Common.{sym, map, string_bytes, arith}
use Rattle.std.proofs.lemmas.List.{length-map}
use Rattle.ib_tool.proofs.Forms.{other-words}
use Rattle.ib_tool.proofs.form.form_of.Goals as goal

pub returns-in_default-2-clause-form : goal.returns-in_default-2-clause-form
returns-in_default-2-clause-form c =
    let low = c.in_default.len_at_least in
    let high = c.in_default.len_below in
    let size = length-map c.args.words.now (λ w. string_bytes w) in
    sym (other-words (map (λ w. string_bytes w) c.args.words.now) (λ one. absurd (omega (arith, low, size, one))) (λ four. absurd (omega (arith, high, size, four))))
