-- The leaf is searched where it lies.
use Rattle.std.proofs.Common.{◌≡◌, ◌<◌, ◌+◌, ◌∙◌, ℕ, true, false, ap, subst, sym, arith}
use Rattle.ib_map.proofs.KeyLaws.{rank-lt_end}
use Rattle.ib_map.specs.Pairs.{value_at}
use Rattle.ib_map.specs.Space.{has_pages}
use Rattle.ib_layout.specs.Geometry.{Sizes}
use Rattle.ib_core.specs.Sessions.{holdings}
use Rattle.ib_page.specs.Image.{IsTreePage, records_of}
use Rattle.ib_logrec.specs.Log.{by_place, memory_after}
use Rattle.ib_rule.specs.Pass.{PassState}
use Rattle.ib_rule.specs.Views.{is_watched}
use Rattle.ib_walk.specs.Search.{leaf_for}
use Rattle.ib_walk.specs.Words.{image_of}
use Rattle.ib_tree.specs.Logs.{pages_after}
use Rattle.ib_cursor.proofs.PageLaws.{has_told}
use Rattle.ib_cursor.proofs.LogLaws.{laws_under}
use Rattle.ib_cursor.proofs.DownLaws.{last_of_path, leaf_held, leaf_image}
use Rattle.ib_cursor.proofs.FindLaws.{found}
use Rattle.ib_cursor.proofs.lookup.found_at_end.Goals as goal

pub value_of-value-requires-clause-can : goal.value_of-value-requires-clause-can
value_of-value-requires-clause-can g c =
    let sizes : Sizes = c.args.mtr.now.latches.now.sizes in
    let has : has_pages sizes.pages ≡ true = has_told c.geometry.ensures c.pages.ensures.pages c.pages.ensures.in_range in
    let laws = laws_under g.L.Law g.L.Trees.ROOTS sizes.pages has g.met.L.Law.begins c.trees_law.ensures.memory g.met.L.Law.stays c.trees_law.ensures.range in
    let lt = rank-lt_end c.args.key in
    let q : PassState = c.args.mtr.now.pass.now in
    let p = c.requires.reached.0 in let d = c.requires.reached.1 in
    let at : c.unwrap-leaf.result ≡ d.leaf = last_of_path c.last.result c.unwrap-leaf.result c.args.path.now d.front d.leaf d.ends c.last.ensures.last c.unwrap-leaf.ensures in
    record {
      mtr = c.requires.mtr;
      there = subst (λ (n : ℕ). n < sizes.pages) (sym at) (leaf_image sizes g.L.Trees.ROOTS (g.L.Law.lawful sizes.pages) (by_place g.L.Law.opening sizes.pages) laws 1 (omega arith) c.requires.root c.args.key lt false c.args.path.now p q d).there;
      held = subst (λ (n : ℕ). 0 < holdings (n + 2) q.view.session) (sym at) (leaf_held sizes g.L.Trees.ROOTS (g.L.Law.lawful sizes.pages) (by_place g.L.Law.opening sizes.pages) laws 1 (omega arith) c.requires.root c.args.key lt false c.args.path.now p q d);
      watched = subst (λ (n : ℕ). is_watched (n + 2) q.view.memory.since ≡ true) (sym at) d.watched;
    }

pub value_of-value-requires-clause-tree : goal.value_of-value-requires-clause-tree
value_of-value-requires-clause-tree g c =
    let sizes : Sizes = c.args.mtr.now.latches.now.sizes in
    let has : has_pages sizes.pages ≡ true = has_told c.geometry.ensures c.pages.ensures.pages c.pages.ensures.in_range in
    let laws = laws_under g.L.Law g.L.Trees.ROOTS sizes.pages has g.met.L.Law.begins c.trees_law.ensures.memory g.met.L.Law.stays c.trees_law.ensures.range in
    let lt = rank-lt_end c.args.key in
    let q : PassState = c.args.mtr.now.pass.now in
    let p = c.requires.reached.0 in let d = c.requires.reached.1 in
    let at : c.unwrap-leaf.result ≡ d.leaf = last_of_path c.last.result c.unwrap-leaf.result c.args.path.now d.front d.leaf d.ends c.last.ensures.last c.unwrap-leaf.ensures in
    subst (λ (n : ℕ). IsTreePage (image_of (memory_after (by_place g.L.Law.opening sizes.pages) q.view.memory.seen) n)) (sym at) (leaf_image sizes g.L.Trees.ROOTS (g.L.Law.lawful sizes.pages) (by_place g.L.Law.opening sizes.pages) laws 1 (omega arith) c.requires.root c.args.key lt false c.args.path.now p q d).image.tree

pub returns-clause-found : goal.returns-clause-found
returns-clause-found g c = λ p d.
    let sizes : Sizes = c.args.mtr.now.latches.now.sizes in
    let has : has_pages sizes.pages ≡ true = has_told c.geometry.ensures c.pages.ensures.pages c.pages.ensures.in_range in
    let laws = laws_under g.L.Law g.L.Trees.ROOTS sizes.pages has g.met.L.Law.begins c.trees_law.ensures.memory g.met.L.Law.stays c.trees_law.ensures.range in
    let lt = rank-lt_end c.args.key in
    let q : PassState = c.args.mtr.now.pass.now in
    let at : c.unwrap-leaf.result ≡ d.leaf = last_of_path c.last.result c.unwrap-leaf.result c.args.path.now d.front d.leaf d.ends c.last.ensures.last c.unwrap-leaf.ensures in
    found sizes g.L.Trees.ROOTS (g.L.Law.lawful sizes.pages) (by_place g.L.Law.opening sizes.pages) laws 1 (omega arith) c.requires.root c.args.key lt c.args.path.now p q d c.requires.none c.value_of-value.result
    (c.value_of-value.ensures.value ∙ ap (λ (n : ℕ). value_at c.args.key (records_of (image_of (memory_after (by_place g.L.Law.opening sizes.pages) q.view.memory.seen) n))) at) c.value_of-value.new.mtr.pass.now c.value_of-value.ensures.read

pub returns-clause-leaf : goal.returns-clause-leaf
returns-clause-leaf g c =
    let sizes : Sizes = c.args.mtr.now.latches.now.sizes in
    let d = c.requires.reached.1 in
    let at : c.unwrap-leaf.result ≡ d.leaf = last_of_path c.last.result c.unwrap-leaf.result c.args.path.now d.front d.leaf d.ends c.last.ensures.last c.unwrap-leaf.ensures in
    at ∙ (d.is_leaf ∙ sym (ap (λ (r : PassState). leaf_for (pages_after (by_place g.L.Law.opening sizes.pages) r.view.memory.seen) c.args.key 1) c.value_of-value.ensures.read.same))

pub returns-clause-looks : goal.returns-clause-looks
returns-clause-looks g c = ap (λ (r : PassState). r.view.looks.count) c.value_of-value.ensures.read.same
