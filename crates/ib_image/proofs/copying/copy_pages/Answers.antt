-- Page 0 is copied, and then one page more a step.
use Rattle.std.proofs.lemmas.List.{length-set}
use Rattle.std.proofs.Common.{◌≡◌, ◌<◌, ◌+◌, ◌∙◌, ℕ, length, ap, subst, arith}
use Rattle.ib_layout.specs.Geometry.{Sizes}
use Rattle.ib_logrec.specs.Log.{by_place}
use Rattle.ib_rule.specs.Views.{total}
use Rattle.ib_image.specs.Copying.{HasCopied}
use Rattle.ib_image.proofs.CopyLaws.{some-pages}
use Rattle.ib_image.proofs.CopyingLaws.{copied_first, copied_more}
use Rattle.ib_image.proofs.copying.copy_pages.Goals as goal

pub loop-page-init : goal.loop-page-init
loop-page-init g c =
    let least = some-pages c.args.latches.now.sizes.pages c.requires.pages in let many = c.requires.size in
    let some : 0 < length c.args.out.now = omega arith in
    let sizes : Sizes = c.args.latches.now.sizes in
    record {
      own = c.copy_page.ensures.own;
      size = length-set c.args.out.now 0 c.copy_page.new.out;
      copied = copied_first sizes (g.L.Law.lawful sizes.pages) (by_place g.L.Law.opening sizes.pages) c.copy_page.new.out c.args.out.now c.used-tail_word.result c.args.pass.now c.copy_page.new.pass (some) c.copy_page.ensures.copies c.used-tail_word.ensures.used;
    }

pub copy_page-requires-in-loop-page-clause-own : goal.copy_page-requires-in-loop-page-clause-own
copy_page-requires-in-loop-page-clause-own g c = c.loop-page.invariant.own

pub copy_page-requires-in-loop-page-clause-idle : goal.copy_page-requires-in-loop-page-clause-idle
copy_page-requires-in-loop-page-clause-idle g c = let h = c.loop-page.invariant.copied in h.idle

pub copy_page-requires-in-loop-page-clause-room : goal.copy_page-requires-in-loop-page-clause-room
copy_page-requires-in-loop-page-clause-room g c =
    let h = c.loop-page.invariant.copied in
    let now : total c.loop-page.pass.view.grants ≡ total c.args.pass.now.view.grants + c.loop-page.page = ap total h.grants ∙ omega arith in
    let room = c.requires.room in let size = c.loop-page.invariant.size in omega arith

pub loop-page-preserved : goal.loop-page-preserved
loop-page-preserved g c =
    let sizes : Sizes = c.args.latches.now.sizes in
    let lt = c.loop-page-test.true in let auto = c.loop-page.auto.out in
    let within : c.loop-page.page < length c.loop-page.out = omega arith in
    record {
      own = c.copy_page-in-loop-page.ensures.own;
      size = length-set c.loop-page.out c.loop-page.page c.copy_page-in-loop-page.new.out ∙ c.loop-page.invariant.size;
      copied = copied_more sizes (g.L.Law.lawful sizes.pages) (by_place g.L.Law.opening sizes.pages) c.loop-page.page c.copy_page-in-loop-page.new.out c.loop-page.out c.used-tail_word.result c.args.pass.now c.loop-page.pass c.copy_page-in-loop-page.new.pass
          within c.loop-page.invariant.copied c.copy_page-in-loop-page.ensures.copies;
    }

pub returns-clause-copied : goal.returns-clause-copied
returns-clause-copied g c =
    let sizes : Sizes = c.args.latches.now.sizes in
    let least = some-pages sizes.pages c.requires.pages in let many = c.requires.size in
    let long = length-set c.args.out.now 0 c.copy_page.new.out in
    let end = c.loop-page.auto.page-end in
    let past = c.loop-page-test.false in
    let at : c.loop-page.page ≡ length c.args.out.now = omega arith in
    subst (λ (n : ℕ). HasCopied sizes (g.L.Law.lawful sizes.pages) (by_place g.L.Law.opening sizes.pages) n c.loop-page.out c.used-tail_word.result c.args.pass.now c.loop-page.pass) at c.loop-page.invariant.copied
