-- A page that is taken out is left out, and one that is not there is left out too.
use Rattle.std.proofs.Common.{◌≡◌, ◌∙◌, sym, false, None, Option, Some, MatchOption}
use Rattle.std.specs.Prelude.{is_some}
use Rattle.ib_mtr.proofs.Pages.{none_by_filter, without_by_filter}
use Rattle.ib_mtr.proofs.memo.take_out.Goals as goal

none_of : {X : Type 0} (o : Option X) (P : Type 0) (Q : X → Type 0) → is_some o ≡ false → MatchOption o P Q → P
none_of None P Q none is = is
none_of (Some x) P Q none is = absurd (cc)

pub returns-then-is_some : goal.returns-then-is_some
returns-then-is_some c = c.remove.ensures.removed ∙ without_by_filter 0 c.args.page c.args.work.now c.remove.ensures.work.ascends

pub returns-else-is_some : goal.returns-else-is_some
returns-else-is_some c = sym (none_by_filter c.args.page c.args.work.now (none_of c.image.result _ _ (sym c.is_some.ensures ∙ c.if-is_some.false) c.image.ensures.image))
