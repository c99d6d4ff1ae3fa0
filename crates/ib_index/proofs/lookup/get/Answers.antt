-- A lookup starts with what the session had seen, and ends at the leaf.
use Rattle.std.proofs.Common.{ap, subst, ◌∙◌, rules}
use Rattle.ib_layout.specs.Geometry.{Sizes}
use Rattle.ib_logrec.specs.Log.{by_place}
use Rattle.ib_rule.specs.Pass.{PassState}
use Rattle.ib_cursor.specs.Descent.{HasFound}
use Rattle.ib_index.specs.Lookups.{HasLookedUp}
use Rattle.ib_index.proofs.LookupLaws.{from_start}
use Rattle.ib_index.proofs.lookup.get.Goals as goal

pub returns-clause-looked_up : goal.returns-clause-looked_up
returns-clause-looked_up g c =
    let sizes : Sizes = c.args.latches.now.sizes in
    let p : PassState = c.args.pass.now in let q : PassState = c.find-value.new.mtr.pass.now in let r : PassState = c.look_up.new.mtr.1.0 in
    let first = ap (λ m. m.now.sizes) c.start-mtr.ensures.latches in
    let found = subst (λ (k : Sizes). HasFound k (g.L.Law.lawful k.pages) (by_place g.L.Law.opening k.pages) 1 c.args.key c.find-value.result c.start-mtr.result.pass.now q) first c.find-value.ensures.found in
    let looked = subst (λ (k : Sizes). (p : PassState) → HasFound k (g.L.Law.lawful k.pages) (by_place g.L.Law.opening k.pages) 1 c.args.key c.find-value.result p q
    → HasLookedUp k (g.L.Law.lawful k.pages) (by_place g.L.Law.opening k.pages) c.args.key c.look_up.result p r) (ap (λ m. m.now.sizes) c.find-value.ensures.still.latches ∙ first) c.look_up.ensures.looked_up in
    subst (HasLookedUp sizes (g.L.Law.lawful sizes.pages) (by_place g.L.Law.opening sizes.pages) c.args.key c.look_up.result p) (search rules)
    (from_start sizes (g.L.Law.lawful sizes.pages) (by_place g.L.Law.opening sizes.pages) c.args.key c.look_up.result p r
    (subst (λ (s : PassState). HasLookedUp sizes (g.L.Law.lawful sizes.pages) (by_place g.L.Law.opening sizes.pages) c.args.key c.look_up.result s r) c.start-mtr.ensures.started (looked c.start-mtr.result.pass.now found)))
