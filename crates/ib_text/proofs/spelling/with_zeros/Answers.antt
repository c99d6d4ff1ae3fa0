use Rattle.std.proofs.Common.{◌≡◌, ◌∙◌, ◌++◌, [], ◌-◌, ◌+◌, List, ℕ, ap, drop, length, length-append, length-drop, set, arith}
use Rattle.std.proofs.lemmas.List.{get_or-append_right, get_or-drop, take_at}
use Rattle.ib_text.proofs.PaddedKeys.{from, with-count, zeros-at}
use Rattle.ib_text.proofs.spelling.with_zeros.Goals as goal

pub returns : goal.returns
returns c =
    let field = c.args.field.now in
    let len = length field in
    let zeros = from 0 16 [] in
    let copied : c.copy_from_slice.new.self ≡ field = c.copy_from_slice.ensures.after in
    ap (λ (xs : List ℕ). set (xs ++ drop len zeros) 15 len) copied
    ∙ with-count field (field ++ drop len zeros) len (omega (arith, length-append field (drop len zeros), length-drop len zeros)) (omega arith) (omega arith) (take_at field (drop len zeros) len (omega arith))
    (λ i le. get_or-append_right field (drop len zeros) len i 0 (omega arith) le ∙ (get_or-drop len zeros (i - len) 0 ∙ zeros-at 0 16 (len + (i - len))))
