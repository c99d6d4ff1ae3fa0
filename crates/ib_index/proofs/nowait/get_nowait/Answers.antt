-- A lookup that does not wait starts with what the session had seen, and ends at the leaf or at a latch that it did not get.
use Rattle.std.proofs.Common.{ap, subst, ◌∙◌, rules, sym}
use Rattle.ib_layout.specs.Geometry.{Sizes}
use Rattle.ib_logrec.specs.Log.{by_place}
use Rattle.ib_rule.specs.Pass.{PassState}
use Rattle.ib_cursor.specs.Descent.{HasFound}
use Rattle.ib_cursor.specs.Contention.{IsContended}
use Rattle.ib_cursor.specs.Refusals.{AreFewLooks}
use Rattle.ib_index.specs.Lookups.{HasLookedUp}
use Rattle.ib_index.proofs.LookupLaws.{from_start, contended_start}
use Rattle.ib_index.proofs.nowait.get_nowait.Goals as goal

pub returns-in-Ok-clause-looked_up : goal.returns-in-Ok-clause-looked_up
returns-in-Ok-clause-looked_up g c =
    let sizes : Sizes = c.args.latches.now.sizes in
    let p : PassState = c.args.pass.now in let q : PassState = c.find_nowait.new.mtr.pass.now in let r : PassState = c.look_up.new.mtr.1.0 in
    let first = ap (λ m. m.now.sizes) c.start-mtr.ensures.latches in
    let found = subst (λ (k : Sizes). HasFound k (g.L.Law.lawful k.pages) (by_place g.L.Law.opening k.pages) 1 c.args.key c.in-Ok.value c.start-mtr.result.pass.now q) first c.in-Ok.ensures.found in
    let looked = subst (λ (k : Sizes). (p : PassState) → HasFound k (g.L.Law.lawful k.pages) (by_place g.L.Law.opening k.pages) 1 c.args.key c.in-Ok.value p q
    → HasLookedUp k (g.L.Law.lawful k.pages) (by_place g.L.Law.opening k.pages) c.args.key c.look_up.result p r) (ap (λ m. m.now.sizes) c.find_nowait.ensures.still.latches ∙ first) c.look_up.ensures.looked_up in
    subst (HasLookedUp sizes (g.L.Law.lawful sizes.pages) (by_place g.L.Law.opening sizes.pages) c.args.key c.look_up.result p) (search rules)
    (from_start sizes (g.L.Law.lawful sizes.pages) (by_place g.L.Law.opening sizes.pages) c.args.key c.look_up.result p r
    (subst (λ (s : PassState). HasLookedUp sizes (g.L.Law.lawful sizes.pages) (by_place g.L.Law.opening sizes.pages) c.args.key c.look_up.result s r) c.start-mtr.ensures.started (looked c.start-mtr.result.pass.now found)))

pub returns-in-Err-clause-contended : goal.returns-in-Err-clause-contended
returns-in-Err-clause-contended g c =
    let sizes : Sizes = c.args.latches.now.sizes in
    let p : PassState = c.args.pass.now in let q : PassState = c.find_nowait.new.mtr.pass.now in
    let stopped = subst (λ (k : Sizes). IsContended k (g.L.Law.lawful k.pages) (by_place g.L.Law.opening k.pages) 1 c.args.key c.in-Err.fault c.start-mtr.result.pass.now q) (ap (λ m. m.now.sizes) c.start-mtr.ensures.latches) c.in-Err.ensures.contended in
    let ended = contended_start sizes (g.L.Law.lawful sizes.pages) (by_place g.L.Law.opening sizes.pages) c.args.key c.in-Err.fault p q
    (subst (λ (s : PassState). IsContended sizes (g.L.Law.lawful sizes.pages) (by_place g.L.Law.opening sizes.pages) 1 c.args.key c.in-Err.fault s q) c.start-mtr.ensures.started stopped) in
    subst (IsContended sizes (g.L.Law.lawful sizes.pages) (by_place g.L.Law.opening sizes.pages) 1 c.args.key c.in-Err.fault p) (search rules)
    (subst (IsContended sizes (g.L.Law.lawful sizes.pages) (by_place g.L.Law.opening sizes.pages) 1 c.args.key c.in-Err.fault p) (sym c.finish.ensures.finished) ended)

pub returns-in-Ok-clause-twice : goal.returns-in-Ok-clause-twice
returns-in-Ok-clause-twice g c =
    let p : PassState = c.args.pass.now in let q : PassState = c.find_nowait.new.mtr.pass.now in
    let few : AreFewLooks 0 p.view q.view = subst (λ (s : PassState). AreFewLooks 0 s.view q.view) c.start-mtr.ensures.started c.in-Ok.ensures.twice in
    let done : AreFewLooks 0 p.view c.look_up.new.mtr.1.0.view = c.look_up.ensures.few p few in search (rules, done)
