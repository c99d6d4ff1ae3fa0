-- The pages before this one are copied.
use Rattle.std.proofs.Common.{◌≡◌, length}
use Rattle.ib_logrec.specs.Log.{by_place}
use Rattle.ib_rule.specs.Pass.{IsOf}
use Rattle.ib_image.specs.Copying.{HasCopied}
use Rattle.ib_image.proofs.copying.copy_pages.Given as goal

abbrev pub invariant-loop-page : goal.invariant-loop-page
invariant-loop-page g l = record {
  own : IsOf l.latches l.pass;
  size : length l.out ≡ length l.fn.out;
  copied : HasCopied l.latches.sizes (g.L.Law.lawful l.latches.sizes.pages) (by_place g.L.Law.opening l.latches.sizes.pages) l.page l.out l.tail_word l.fn.pass l.pass;
}
