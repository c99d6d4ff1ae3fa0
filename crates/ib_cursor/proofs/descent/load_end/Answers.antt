-- The leaf that was come to is loaded.
use Rattle.std.proofs.Common.{◌≡◌, ◌<◌, ◌+◌, ℕ, subst, true, sym}
use Rattle.ib_map.specs.Space.{has_pages}
use Rattle.ib_layout.specs.Geometry.{Sizes}
use Rattle.ib_core.specs.Sessions.{holdings}
use Rattle.ib_logrec.specs.Log.{by_place}
use Rattle.ib_rule.specs.Pass.{PassState}
use Rattle.ib_cursor.specs.Descent.{HasPage}
use Rattle.ib_cursor.proofs.PageLaws.{has_told}
use Rattle.ib_cursor.proofs.LogLaws.{laws_under}
use Rattle.ib_cursor.proofs.DownLaws.{last_of_path, leaf_held, leaf_image, descended}
use Rattle.ib_cursor.proofs.descent.load_end.Goals as goal

pub read-requires-clause-page : goal.read-requires-clause-page
read-requires-clause-page g c =
    let sizes : Sizes = c.args.mtr.now.latches.now.sizes in
    let has : has_pages sizes.pages ≡ true = has_told c.geometry.ensures c.pages.ensures.pages c.pages.ensures.in_range in
    let laws = laws_under g.L.Law g.L.Trees.ROOTS sizes.pages has g.met.L.Law.begins c.trees_law.ensures.memory g.met.L.Law.stays c.trees_law.ensures.range in
    let q : PassState = c.args.mtr.now.pass.now in
    let exclusive = c.requires.reached.0 in let p = c.requires.reached.1 in let d = c.requires.reached.2 in
    let at : c.unwrap-leaf.result ≡ d.leaf = last_of_path c.last.result c.unwrap-leaf.result c.args.path.now d.front d.leaf d.ends c.last.ensures.last c.unwrap-leaf.ensures in
    subst (λ (n : ℕ). n < sizes.pages) (sym at) (leaf_image sizes g.L.Trees.ROOTS (g.L.Law.lawful sizes.pages) (by_place g.L.Law.opening sizes.pages) laws c.args.sought.root c.requires.sought.some c.requires.sought.there c.args.sought.key c.requires.sought.is_key exclusive c.args.path.now p q d).there

pub read-requires-clause-held : goal.read-requires-clause-held
read-requires-clause-held g c =
    let sizes : Sizes = c.args.mtr.now.latches.now.sizes in
    let has : has_pages sizes.pages ≡ true = has_told c.geometry.ensures c.pages.ensures.pages c.pages.ensures.in_range in
    let laws = laws_under g.L.Law g.L.Trees.ROOTS sizes.pages has g.met.L.Law.begins c.trees_law.ensures.memory g.met.L.Law.stays c.trees_law.ensures.range in
    let q : PassState = c.args.mtr.now.pass.now in
    let exclusive = c.requires.reached.0 in let p = c.requires.reached.1 in let d = c.requires.reached.2 in
    let at : c.unwrap-leaf.result ≡ d.leaf = last_of_path c.last.result c.unwrap-leaf.result c.args.path.now d.front d.leaf d.ends c.last.ensures.last c.unwrap-leaf.ensures in
    subst (λ (n : ℕ). 0 < holdings (n + 2) q.view.session) (sym at) (leaf_held sizes g.L.Trees.ROOTS (g.L.Law.lawful sizes.pages) (by_place g.L.Law.opening sizes.pages) laws c.args.sought.root c.requires.sought.some c.requires.sought.there c.args.sought.key c.requires.sought.is_key exclusive c.args.path.now p q d)

pub returns-clause-descended : goal.returns-clause-descended
returns-clause-descended g c = λ exclusive p d.
    let sizes : Sizes = c.args.mtr.now.latches.now.sizes in
    let has : has_pages sizes.pages ≡ true = has_told c.geometry.ensures c.pages.ensures.pages c.pages.ensures.in_range in
    let laws = laws_under g.L.Law g.L.Trees.ROOTS sizes.pages has g.met.L.Law.begins c.trees_law.ensures.memory g.met.L.Law.stays c.trees_law.ensures.range in
    let q : PassState = c.args.mtr.now.pass.now in
    let at : c.unwrap-leaf.result ≡ d.leaf = last_of_path c.last.result c.unwrap-leaf.result c.args.path.now d.front d.leaf d.ends c.last.ensures.last c.unwrap-leaf.ensures in
    let s : PassState = c.read.new.mtr.pass.now in
    let loaded = subst (λ (n : ℕ). HasPage (by_place g.L.Law.opening sizes.pages) n q s) at c.read.ensures.loaded in
    descended sizes g.L.Trees.ROOTS (g.L.Law.lawful sizes.pages) (by_place g.L.Law.opening sizes.pages) laws c.args.sought.root c.requires.sought.some c.requires.sought.there c.args.sought.key c.requires.sought.is_key exclusive c.args.path.now p q d
    s c.requires.none c.read.ensures.looked_on.seen c.read.ensures.memo c.read.ensures.session c.read.ensures.grants loaded
