-- The key was looked up on its leaf.
use Rattle.std.proofs.Common.{rules, ◌≡◌, ◌∙◌, true, ap, subst}
use Rattle.ib_map.specs.declared.call.Call.TheVariants.{Get}
use Rattle.ib_map.specs.Space.{has_pages}
use Rattle.ib_layout.specs.Geometry.{Sizes}
use Rattle.ib_logrec.specs.Log.{by_place}
use Rattle.ib_tree.specs.TreeLog.{opening}
use Rattle.ib_planned_log.specs.Kept.{IsKeptLog}
use Rattle.ib_planned_log.specs.LeafChange.{leaf_after}
use Rattle.ib_rule.specs.Pass.{PassState}
use Rattle.ib_mtr.specs.Commits.{HasRead}
use Rattle.ib_mtr.specs.Mtr.{started}
use Rattle.ib_cursor.specs.Descent.{HasFound}
use Rattle.ib_leaf.specs.Leaf.{IsSeated}
use Rattle.ib_hash.specs.Lookups.{HasLookedByDescent}
use Rattle.ib_hash.proofs.DescentLaws.{looked-down}
use Rattle.ib_hash.proofs.lookup.get_by_descent.Goals as goal

pub returns-clause-space : goal.returns-clause-space
returns-clause-space g c =
    let first : c.start-mtr.result.latches.now.sizes ≡ c.args.latches.now.sizes = ap (λ m. m.now.sizes) c.start-mtr.ensures.latches in
    let last : c.find_leaf-found.new.mtr.latches.now.sizes ≡ c.args.latches.now.sizes = ap (λ m. m.now.sizes) c.find_leaf-found.ensures.still.latches ∙ first in
    subst (λ (s : Sizes). has_pages s.pages ≡ true) last c.facts_of_session.ensures.fits

pub returns-clause-looked : goal.returns-clause-looked
returns-clause-looked g c =
    let sizes : Sizes = c.args.latches.now.sizes in let key = c.args.key in let value = c.find_leaf-found.result.value in let leaf = c.find_leaf-found.result.leaf in
    let p : PassState = c.args.pass.now in let q : PassState = c.find_leaf-found.new.mtr.pass.now in let r : PassState = c.commit_read-place.new.self.1.0 in
    let first : c.start-mtr.result.latches.now.sizes ≡ sizes = ap (λ m. m.now.sizes) c.start-mtr.ensures.latches in
    let last : c.find_leaf-found.new.mtr.latches.now.sizes ≡ sizes = ap (λ m. m.now.sizes) c.find_leaf-found.ensures.still.latches ∙ first in
    let seated : IsSeated sizes q = subst (λ (s : Sizes). IsSeated s q) last c.facts_of_session.ensures in
    let found : HasFound sizes (IsKeptLog sizes.pages) (by_place opening sizes.pages) 1 key value (started p) q =
    subst (λ (s : PassState). HasFound sizes (IsKeptLog sizes.pages) (by_place opening sizes.pages) 1 key value s q) c.start-mtr.ensures.started
    (subst (λ (s : Sizes). HasFound s (IsKeptLog s.pages) (by_place opening s.pages) 1 key value c.start-mtr.result.pass.now q) first c.find_leaf-found.ensures.found) in
    let is : leaf ≡ leaf_after sizes.pages q.view.memory.seen key = c.find_leaf-found.ensures.leaf ∙ ap (λ (s : Sizes). leaf_after s.pages q.view.memory.seen key) first in
    let read : HasRead sizes (IsKeptLog sizes.pages) q c.commit_read-place.result r = subst (λ (s : Sizes). HasRead s (IsKeptLog s.pages) q c.commit_read-place.result r) last c.commit_read-place.ensures in
    subst (HasLookedByDescent sizes (IsKeptLog sizes.pages) (by_place opening sizes.pages) key leaf (record { call = Get key; reply = c.reply_of-reply.result; place = c.commit_read-place.result }) p) (search rules)
    (looked-down sizes seated.fits key value p q found seated.role c.commit_read-place.result r read leaf is c.reply_of-reply.result c.reply_of-reply.ensures)
