-- The words around the clock are 0.
use Rattle.std.proofs.lemmas.List.{take_rest}
use Rattle.ib_heap.proofs.FreeLaws.{free-from, free-to}
use Rattle.ib_heap.proofs.page.is_free.Goals as goal

pub returns-then-are_zeros : goal.returns-then-are_zeros
returns-then-are_zeros c = (
  λ yes. free-from c.args.words.now c.requires (c.are_zeros.ensures.0 c.if-are_zeros.true) (rw take_rest at (c.are_zeros-then-are_zeros.ensures.0 yes)),
  λ is. c.are_zeros-then-are_zeros.ensures.1 (rw take_rest (free-to c.args.words.now is).1),
)

pub returns-else-are_zeros : goal.returns-else-are_zeros
returns-else-are_zeros c = (λ yes. let no = c.if-are_zeros.false in cc, λ is. c.are_zeros.ensures.1 (free-to c.args.words.now is).0)
