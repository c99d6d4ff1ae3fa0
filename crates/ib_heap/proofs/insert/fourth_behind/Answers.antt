-- One offset further.
use Rattle.std.proofs.Common.{◌≡◌, ℕ, zero, suc, ◌+◌, ◌%◌, ◌∙◌, List, get_or, ap, sym, refl, arith}
use Rattle.ib_heap.specs.Walks.{end_from}
use Rattle.ib_heap.proofs.insert.fourth_behind.Goals as goal

end-more : (ws : List ℕ) (i p : ℕ) → end_from ws (i + 1) p ≡ get_or ws (end_from ws i p) 0 % 256
end-more ws zero p = refl
end-more ws (suc i) p = ap (λ n. end_from ws n p) (let e : suc i + 1 ≡ suc (i + 1) = omega arith in e) ∙ end-more ws i (get_or ws p 0 % 256)

pub next_word-at-requires : goal.next_word-at-requires
next_word-at-requires c = let lt = c.requires c.loop-step._step c.loop-step-test.true in rw c.loop-step.invariant lt

pub loop-step-preserved : goal.loop-step-preserved
loop-step-preserved c =
    c.next_word-at.ensures.next ∙ (ap (λ n. get_or c.args.words.now n 0 % 256) c.loop-step.invariant ∙ sym (end-more c.args.words.now c.loop-step._step c.args.offset))
