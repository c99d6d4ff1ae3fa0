use Rattle.std.proofs.Common.{rules, ◌≡◌, ◌+◌, take, drop, length, min, arith, ◌≤◌, ap, sym, ◌∙◌}
use Rattle.std.proofs.lemmas.List.{drop_all, take_rest}
use Rattle.std.proofs.lemmas.Grind.{common_steps}
use Rattle.ib_io.proofs.Pieces.{read_some, read_end}
use Rattle.ib_io.proofs.memory_source.MemorySourceSource.read.Goals as goal

pub returns-clause-bytes : goal.returns-clause-bytes
returns-clause-bytes c =
    let copied : c.copy_from_slice.new.self ≡ take c.min-count.result (drop c.self.inside.at c.self.inside.bytes.items) = grind (arith, common_steps, take_rest) in
    let le : c.self.inside.at + c.min-count.result ≤ length c.self.inside.bytes.items = search rules in
    let smallest : c.min-count.result ≡ min (min (length (drop c.self.inside.at c.self.inside.bytes.items)) (length c.args.buf.now)) c.self.inside.most = grind (arith, common_steps, take_rest) in (
      ap (λ s. s.left) (sym c.self.view_is) ∙ read_some c.self.inside.bytes.items c.copy_from_slice.new.self c.args.buf.now c.self.inside.at c.min-count.result copied le,
      λ none room. drop_all (c.self.inside.at + c.min-count.result) c.self.inside.bytes.items
          (read_end c.self.inside.bytes.items c.copy_from_slice.new.self c.args.buf.now c.self.inside.at c.min-count.result c.self.inside.most copied c.self.invariant.0 smallest none room),
    )
