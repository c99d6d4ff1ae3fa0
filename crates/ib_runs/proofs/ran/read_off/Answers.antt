-- The history of the log, and the pairs of its first tree.
use Rattle.std.proofs.Common.{◌≡◌, ◌∙◌, true, ap, sym, subst}
use Rattle.ib_map.specs.Space.{has_pages}
use Rattle.ib_layout.specs.Geometry.{Sizes}
use Rattle.ib_logrec.specs.Law.{AreInGrammar}
use Rattle.ib_logrec.specs.Log.{by_place}
use Rattle.ib_rule.specs.Closed.{log_in}
use Rattle.ib_tree.specs.Logs.{pages_after}
use Rattle.ib_walk.specs.Trees.{content_of}
use Rattle.ib_runs.specs.Outcomes.{HasLogUnder}
use Rattle.ib_shared.specs.SharedLaw.{SharedLaw}
use Rattle.ib_runs.specs.Shared.{calls_under}
use Rattle.ib_runs.proofs.ran.read_off.Goals as goal

pub pairs_of-requires-clause-log : goal.pairs_of-requires-clause-log
pairs_of-requires-clause-log g c = λ κs live.
    (c.requires.log.0, subst (λ (k : Sizes). HasLogUnder (calls_under g.S.Shared.law k) k c.args.closed.now.words c.requires.log.0) (sym c.requires.sizes) c.requires.log.1)

pub returns : goal.returns
returns g c = λ log h.
    let law : SharedLaw = g.S.Shared.law in
    let sizes : Sizes = c.args.sizes in
    let fits : has_pages sizes.pages ≡ true = subst (λ n. has_pages n ≡ true) c.pages-pages.ensures.pages c.pages-pages.ensures.in_range in
    let laws = c.laws.ensures.logs sizes fits in
    let there = subst (λ (k : Sizes). HasLogUnder (calls_under law k) k c.args.closed.now.words log) (sym c.requires.sizes) h in
    let walked = subst (λ (k : Sizes). c.in_ok-map.map ≡ content_of (pages_after (by_place law.opening k.pages) log) 1) c.requires.sizes (c.in_ok-map.ensures log there) in
    record {
      history_is = c.in_ok-history.ensures log (subst (λ (k : Sizes). AreInGrammar k.pages log) (sym c.requires.sizes) (laws.grammar log h.kept)) (ap (λ (k : Sizes). log_in k c.args.closed.now.words) c.requires.sizes ∙ h.logged);
      walked = walked;
      map_is = walked ∙ laws.content log h.kept;
    }
