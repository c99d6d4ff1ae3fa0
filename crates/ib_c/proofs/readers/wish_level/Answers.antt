use Rattle.std.proofs.Common.{subst, sym}
use Rattle.std.specs.Prelude.{IfErr}
use Rattle.ib_levels.specs.declared.level.Mode.{Mode}
use Rattle.ib_c.specs.Readers.{allowance_of}
use Rattle.ib_c.specs.Wishes.{IsRefusedFor}
use Rattle.ib_c.proofs.readers.wish_level.Goals as goal

pub returns-in-S-clause-refused : goal.returns-in-S-clause-refused
returns-in-S-clause-refused c =
    subst (λ (mode : Mode). IfErr c.may_take.result (IsRefusedFor (allowance_of mode) c.args.latch c.args.level c.args.table.now c.args.pass.now)) (sym c.in-S.is) c.may_take.ensures.refused
