-- The words behind the clock, and the pages beyond the last one.
use Rattle.std.proofs.Common.{◌∙◌, get_or, length, ap, sym}
use Rattle.std.proofs.lemmas.Bool.{eq-eqb, eqb-true}
use Rattle.ib_page.specs.declared.space.TheConstants.{MAPPED_PAGES}
use Rattle.ib_page.proofs.SpaceLaws.{free_beyond, count_beyond}
use Rattle.ib_page.proofs.space.SpaceImage.is_formed.Goals as goal

pub returns-then-ends_with_zeros : goal.returns-then-ends_with_zeros
returns-then-ends_with_zeros c = (
  λ yes. record {
    size = ap length (sym c.self.view_is) ∙ c.ends_with_zeros.ensures.size;
    beyond = free_beyond c.args.self.now c.args.pages MAPPED_PAGES c.free_count.result c.free_count-then-ends_with_zeros.result c.requires c.free_count.ensures.count c.free_count-then-ends_with_zeros.ensures.count (eqb-true _ _ yes);
    behind = λ i lt. ap (λ vs. get_or vs i 0) (sym c.self.view_is) ∙ c.ends_with_zeros.ensures.zeros.0 c.if-ends_with_zeros.true i lt;
  },
  λ formed. eq-eqb _ _ (count_beyond c.args.self.now c.args.pages MAPPED_PAGES c.free_count.result c.free_count-then-ends_with_zeros.result c.requires c.free_count.ensures.count c.free_count-then-ends_with_zeros.ensures.count formed.beyond),
)

pub returns-else-ends_with_zeros : goal.returns-else-ends_with_zeros
returns-else-ends_with_zeros c = (
  λ yes. let no = c.if-ends_with_zeros.false in cc,
  λ formed. c.ends_with_zeros.ensures.zeros.1 (λ i lt. ap (λ vs. get_or vs i 0) c.self.view_is ∙ formed.behind i lt),
)
