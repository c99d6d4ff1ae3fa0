-- The images of the pages have the trees of the log.
use Rattle.std.proofs.Common.{◌≡◌, ◌∙◌, true, subst}
use Rattle.std.proofs.lemmas.Result.{IfOk-weaker}
use Rattle.ib_map.specs.Pairs.{Pairs}
use Rattle.ib_map.specs.Space.{has_pages}
use Rattle.ib_layout.specs.Geometry.{Sizes}
use Rattle.ib_walk.specs.Trees.{content_of}
use Rattle.ib_walk.specs.Words.{memory_of}
use Rattle.ib_tree.specs.Logs.{pages_after}
use Rattle.ib_leaf.specs.Calls.{CallLaw}
use Rattle.ib_runs.specs.Outcomes.{images_in}
use Rattle.ib_runs.specs.Shared.{calls_under}
use Rattle.ib_runs.proofs.ReadOffLaws.{has_root, length-images_in, walked_is, words-in}
use Rattle.ib_runs.proofs.ran.pairs_of.Goals as goal

pub content_in-requires : goal.content_in-requires
content_in-requires g c =
    let sizes : Sizes = c.args.closed.now.sizes in let words = c.args.closed.now.words in
    let law : CallLaw = calls_under g.S.Shared.law sizes in
    let fits : has_pages sizes.pages ≡ true = subst (λ n. has_pages n ≡ true) c.requires.pages c.requires.in_range in
    has_root law g.S.Shared.root sizes (c.laws.ensures.logs sizes fits) words c.requires.log.0 fits c.requires.log.1 (images_in sizes words) (length-images_in sizes words) (words-in sizes words) c.args.root c.requires.root.0 c.requires.root.1

pub returns : goal.returns
returns g c = λ log h.
    let sizes : Sizes = c.args.closed.now.sizes in let words = c.args.closed.now.words in
    let law : CallLaw = calls_under g.S.Shared.law sizes in
    let fits : has_pages sizes.pages ≡ true = subst (λ n. has_pages n ≡ true) c.requires.pages c.requires.in_range in
    IfOk-weaker c.content_in.result (λ (pairs : Pairs). pairs ≡ content_of (memory_of (images_in sizes words)) c.args.root) (λ (pairs : Pairs). pairs ≡ content_of (pages_after law.start log) c.args.root)
    (λ pairs is. is ∙ walked_is law g.S.Shared.root sizes (c.laws.ensures.logs sizes fits) words log fits h (images_in sizes words) (length-images_in sizes words) (words-in sizes words) c.args.root)
    c.content_in.ensures
