-- The load is allowed by the rule.
use Rattle.std.proofs.Common.{◌≡◌, ◌+◌, ◌∙◌, ℕ, ap, arith, sym}
use Rattle.ib_layout.specs.Geometry.{Sizes}
use Rattle.ib_layout.specs.Places.{page_place}
use Rattle.ib_rule.specs.Pass.{PassState}
use Rattle.ib_rule.specs.Space.{SpaceState}
use Rattle.ib_rule.proofs.Seeing.{page_allowed_at}
use Rattle.ib_rule.proofs.space.Space.load_page_word_at.Goals as goal

-- a word stands as far behind the first word of its page as its index says
from_start : (sizes : Sizes) (page index : ℕ) → page_place sizes page 0 + index ≡ page_place sizes page index
from_start sizes page index = omega arith

pub act-requires-clause-allowed : goal.act-requires-clause-allowed
act-requires-clause-allowed g c =
    let start = rw (sym (ap (λ (o : SpaceState). o.sizes) c.self.view_is)) at c.requires.start in
    let mine = ap (λ (p : PassState). p.view) c.pass.view_is in
    page_allowed_at g.L.Law.lawful g.L.Law.opening _ _ _ _ _ (rw c.pass.invariant.role (λ e. absurd (cc))) _ c.args.page c.args.index
    (rw c.self.invariant.key (ap (λ (n : ℕ). n + c.args.index) start ∙ from_start c.self.inside.geometry c.args.page c.args.index))
    (rw (c.self.invariant.key, ap (λ (o : SpaceState). o.sizes) c.self.view_is) c.requires.page)
    c.requires.index
    (rw mine c.requires.own.closed)
    (rw mine c.requires.held)
