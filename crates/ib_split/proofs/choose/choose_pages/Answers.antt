-- The space page is the image of page 0, and it counts the free pages.
use Rattle.std.proofs.Common.{◌≡◌, ◌∙◌, ap, sym, arith}
use Rattle.ib_walk.specs.Full.{chosen, free_of}
use Rattle.ib_walk.proofs.ChoiceLaws.{Some-same}
use Rattle.ib_plans.specs.Agreement.{bits_in}
use Rattle.ib_plans.specs.declared.fault.TreeFault.TheVariants.{NeedPages}
use Rattle.ib_split.proofs.FreeLaws.{free_below-of}
use Rattle.ib_split.proofs.choose.choose_pages.Goals as goal

pub returns-then-free-need-clause-short : goal.returns-then-free-need-clause-short
returns-then-free-need-clause-short c image is =
    let same : c.from_image-space.result ≡ image = c.from_image-space.ensures ∙ Some-same c.image_of.result.now image (sym c.image_of.ensures ∙ is) in
    let free : c.free_count-free.result ≡ free_of (bits_in c.args.pages image) c.args.pages = c.free_count-free.ensures.count ∙ (free_below-of c.args.pages c.from_image-space.result ∙ ap (λ ws. free_of (bits_in c.args.pages ws) c.args.pages) same) in
    (ap (λ n. NeedPages n c.args.need) free, let lt = c.if-free-need.true in omega arith)

pub lowest-requires-clause-free : goal.lowest-requires-clause-free
lowest-requires-clause-free c =
    let free = c.free_count-free.ensures.count ∙ free_below-of c.args.pages c.from_image-space.result in let ge = c.if-free-need.false in omega arith

pub returns-clause-chosen : goal.returns-clause-chosen
returns-clause-chosen c image is =
    let same : c.from_image-space.result ≡ image = c.from_image-space.ensures ∙ Some-same c.image_of.result.now image (sym c.image_of.ensures ∙ is) in
    let free : c.free_count-free.result ≡ free_of (bits_in c.args.pages image) c.args.pages = c.free_count-free.ensures.count ∙ (free_below-of c.args.pages c.from_image-space.result ∙ ap (λ ws. free_of (bits_in c.args.pages ws) c.args.pages) same) in
    (c.lowest.ensures ∙ ap (λ ws. chosen (bits_in c.args.pages ws) c.args.pages c.args.need) same, let ge = c.if-free-need.false in omega arith)
