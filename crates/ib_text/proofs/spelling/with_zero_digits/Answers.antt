use Rattle.std.proofs.Common.{◌∙◌, ◌++◌, ◌-◌, ◌+◌, List, ℕ, ap, arith, drop, get_or, length, refl, replicate}
use Rattle.std.proofs.lemmas.List.{get_or-append_right, get_or-drop}
use Rattle.std.proofs.lemmas.Simd.{get_or-replicate}
use Rattle.ib_text.proofs.spelling.with_zero_digits.Goals as goal

pub returns-clause-others : goal.returns-clause-others
returns-clause-others c k le lt =
    let digits = c.args.digits.now in
    let len = length digits in
    let zeros = replicate 32 48 in
    ap (λ (xs : List ℕ). get_or (xs ++ drop len zeros) k 0) c.copy_from_slice.ensures.after
    ∙ (get_or-append_right digits (drop len zeros) len k 0 refl le ∙ (get_or-drop len zeros (k - len) 0 ∙ get_or-replicate 32 (len + (k - len)) 48 0 (omega (arith, le, lt))))
