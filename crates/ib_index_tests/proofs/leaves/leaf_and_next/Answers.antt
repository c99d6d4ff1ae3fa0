-- Who has descended to read holds the leaf alone, and may go on from there.
use Rattle.std.proofs.Common.{◌≡◌, ◌+◌, ◌∙◌, [], ℕ, true, Option, List, Some, ap, subst, sym, arith}
use Rattle.std.specs.Prelude.{IfSome}
use Rattle.ib_map.specs.Space.{has_pages}
use Rattle.ib_map.proofs.KeyLaws.{rank-lt_end}
use Rattle.ib_levels.specs.declared.level.Level.TheVariants.{TreeNode}
use Rattle.ib_layout.specs.Geometry.{Sizes}
use Rattle.ib_core.specs.Holders.{CanWish}
use Rattle.ib_page.specs.Image.{next_of}
use Rattle.ib_page.specs.Work.{changed_of}
use Rattle.ib_logrec.specs.Log.{by_place}
use Rattle.ib_rule.specs.Pass.{PassState}
use Rattle.ib_cursor.specs.Nexts.{HeldLeaf}
use Rattle.ib_cursor.proofs.LogLaws.{laws_under}
use Rattle.ib_cursor.proofs.DownLaws.{last_of_path}
use Rattle.ib_cursor.proofs.NextLaws.{holds_end, there_in}
use Rattle.ib_cursor.proofs.PageLaws.{has_told}
use Rattle.ib_index_tests.proofs.leaves.leaf_and_next.Goals as goal

pub next_leaf-requires-clause-held : goal.next_leaf-requires-clause-held
next_leaf-requires-clause-held g c =
    let sizes : Sizes = c.args.mtr.now.latches.now.sizes in
    let has : has_pages sizes.pages ≡ true = has_told c.geometry.ensures c.pages.ensures.pages c.pages.ensures.in_range in
    let laws = laws_under g.L.Law g.L.Trees.ROOTS sizes.pages has g.met.L.Law.begins c.trees_law.ensures.memory g.met.L.Law.stays c.trees_law.ensures.range in
    let q : PassState = c.descend-path.new.mtr.pass.now in
    let same = ap (λ m. m.now.sizes) c.descend-path.ensures.still.latches in
    let end = c.descend-path.ensures.descended in
    let at : c.unwrap-leaf.result ≡ end.reached.leaf = last_of_path c.last.result c.unwrap-leaf.result c.descend-path.result end.reached.front end.reached.leaf end.reached.ends c.last.ensures.last c.unwrap-leaf.ensures in
    let held = holds_end sizes g.L.Trees.ROOTS (g.L.Law.lawful sizes.pages) (by_place g.L.Law.opening sizes.pages) laws 1 (omega arith) c.requires.root c.args.key (rank-lt_end c.args.key)
    c.descend-path.result c.args.mtr.now.pass.now q end in
    let there : changed_of c.unwrap-leaf.result q.work ≡ Some end.image = ap (λ (n : ℕ). changed_of n q.work) at ∙ (ap (changed_of end.reached.leaf) end.work ∙ there_in end.reached.leaf end.image) in
    let link : c.link_of.result ≡ next_of end.image = subst (λ (o : Option (List ℕ)). IfSome o (λ image. c.link_of.result ≡ next_of image)) there c.link_of.ensures.link in
    let here : HeldLeaf sizes (g.L.Law.lawful sizes.pages) (by_place g.L.Law.opening sizes.pages) g.L.Trees.ROOTS end.reached.leaf q = record {
      front = [];
      image = end.image;
      range = held.0;
      holds = held.1;
      grows = c.link_of.ensures.grows;
      may = λ some. subst (λ (n : ℕ). CanWish (n + 2) TreeNode q.view.session) link (c.link_of.ensures.may (λ z. some (sym link ∙ z)));
    } in
    subst (λ (k : Sizes). HeldLeaf k (g.L.Law.lawful k.pages) (by_place g.L.Law.opening k.pages) g.L.Trees.ROOTS c.unwrap-leaf.result q) (sym same)
    (subst (λ (n : ℕ). HeldLeaf sizes (g.L.Law.lawful sizes.pages) (by_place g.L.Law.opening sizes.pages) g.L.Trees.ROOTS n q) (sym at) here)
