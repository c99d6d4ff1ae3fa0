-- The child is tried, and then the node given up.
use Rattle.std.proofs.Common.{◌≡◌, ◌<◌, ◌+◌, true, ap, sym, subst, arith}
use Rattle.ib_map.specs.Space.{has_pages}
use Rattle.ib_layout.specs.Geometry.{Sizes}
use Rattle.ib_logrec.specs.Log.{by_place}
use Rattle.ib_rule.specs.Pass.{PassState}
use Rattle.ib_cursor.specs.Grants.{page_grant}
use Rattle.ib_cursor.specs.Going.{HasLatched}
use Rattle.ib_cursor.proofs.LogLaws.{laws_under}
use Rattle.ib_cursor.proofs.StepLaws.{node_child, node_held, node_image, step_at, step_grants, step_may, step_on, step_went}
use Rattle.ib_cursor.proofs.PageLaws.{few, has_told}
use Rattle.ib_cursor.specs.Refusals.{IsVainTry}
use Rattle.ib_cursor.proofs.RefusalLaws.{few_both, few_none, few_read, few_released, vain_read}
use Rattle.ib_cursor.proofs.nowait_descent.try_down_in.Goals as goal

pub child_of-child-requires-clause-can : goal.child_of-child-requires-clause-can
child_of-child-requires-clause-can g c =
    let sizes : Sizes = c.args.mtr.now.latches.now.sizes in
    let has : has_pages sizes.pages ≡ true = has_told c.geometry.ensures c.pages.ensures.pages c.pages.ensures.in_range in
    let laws = laws_under g.L.Law g.L.Trees.ROOTS sizes.pages has g.met.L.Law.begins c.trees_law.ensures.memory g.met.L.Law.stays c.trees_law.ensures.range in
    let p : PassState = c.args.mtr.now.pass.now in
    record {
      mtr = c.requires.mtr;
      there = (node_image sizes g.L.Trees.ROOTS (g.L.Law.lawful sizes.pages) (by_place g.L.Law.opening sizes.pages) laws c.args.sought.root c.requires.sought.some c.requires.sought.there c.args.sought.key c.requires.sought.is_key c.args.page c.args.level c.requires.node p c.requires.here).there;
      held = node_held sizes g.L.Trees.ROOTS (g.L.Law.lawful sizes.pages) (by_place g.L.Law.opening sizes.pages) laws c.args.sought.root c.requires.sought.some c.requires.sought.there c.args.sought.key c.requires.sought.is_key c.args.page c.args.level c.requires.node p c.requires.here;
      watched = c.requires.here.here.watched;
    }

pub child_of-child-requires-clause-tree : goal.child_of-child-requires-clause-tree
child_of-child-requires-clause-tree g c =
    let sizes : Sizes = c.args.mtr.now.latches.now.sizes in
    let has : has_pages sizes.pages ≡ true = has_told c.geometry.ensures c.pages.ensures.pages c.pages.ensures.in_range in
    let laws = laws_under g.L.Law g.L.Trees.ROOTS sizes.pages has g.met.L.Law.begins c.trees_law.ensures.memory g.met.L.Law.stays c.trees_law.ensures.range in
    let p : PassState = c.args.mtr.now.pass.now in
    (node_image sizes g.L.Trees.ROOTS (g.L.Law.lawful sizes.pages) (by_place g.L.Law.opening sizes.pages) laws c.args.sought.root c.requires.sought.some c.requires.sought.there c.args.sought.key c.requires.sought.is_key c.args.page c.args.level c.requires.node p c.requires.here).image.tree

pub child_of-child-requires-clause-first : goal.child_of-child-requires-clause-first
child_of-child-requires-clause-first g c =
    let sizes : Sizes = c.args.mtr.now.latches.now.sizes in
    let has : has_pages sizes.pages ≡ true = has_told c.geometry.ensures c.pages.ensures.pages c.pages.ensures.in_range in
    let laws = laws_under g.L.Law g.L.Trees.ROOTS sizes.pages has g.met.L.Law.begins c.trees_law.ensures.memory g.met.L.Law.stays c.trees_law.ensures.range in
    let p : PassState = c.args.mtr.now.pass.now in
    (node_image sizes g.L.Trees.ROOTS (g.L.Law.lawful sizes.pages) (by_place g.L.Law.opening sizes.pages) laws c.args.sought.root c.requires.sought.some c.requires.sought.there c.args.sought.key c.requires.sought.is_key c.args.page c.args.level c.requires.node p c.requires.here).first (omega arith)

pub child_of-child-requires-clause-small : goal.child_of-child-requires-clause-small
child_of-child-requires-clause-small g c =
    let sizes : Sizes = c.args.mtr.now.latches.now.sizes in
    let has : has_pages sizes.pages ≡ true = has_told c.geometry.ensures c.pages.ensures.pages c.pages.ensures.in_range in
    let laws = laws_under g.L.Law g.L.Trees.ROOTS sizes.pages has g.met.L.Law.begins c.trees_law.ensures.memory g.met.L.Law.stays c.trees_law.ensures.range in
    let p : PassState = c.args.mtr.now.pass.now in
    few sizes.pages _ has (node_child sizes g.L.Trees.ROOTS (g.L.Law.lawful sizes.pages) (by_place g.L.Law.opening sizes.pages) laws c.args.sought.root c.requires.sought.some c.requires.sought.there c.args.sought.key c.requires.sought.is_key c.args.page c.args.level c.requires.node p c.requires.here)

pub try_page-requires-clause-page : goal.try_page-requires-clause-page
try_page-requires-clause-page g c =
    let sizes : Sizes = c.args.mtr.now.latches.now.sizes in
    let has : has_pages sizes.pages ≡ true = has_told c.geometry.ensures c.pages.ensures.pages c.pages.ensures.in_range in
    let laws = laws_under g.L.Law g.L.Trees.ROOTS sizes.pages has g.met.L.Law.begins c.trees_law.ensures.memory g.met.L.Law.stays c.trees_law.ensures.range in
    let p : PassState = c.args.mtr.now.pass.now in
    subst (λ (s : Sizes). c.child_of-child.result < s.pages) (sym (ap (λ m. m.now.sizes) c.child_of-child.ensures.still.latches))
    (subst (λ k. k < sizes.pages) (sym c.child_of-child.ensures.child) (node_child sizes g.L.Trees.ROOTS (g.L.Law.lawful sizes.pages) (by_place g.L.Law.opening sizes.pages) laws c.args.sought.root c.requires.sought.some c.requires.sought.there c.args.sought.key c.requires.sought.is_key c.args.page c.args.level c.requires.node p c.requires.here))

pub try_page-requires-clause-may : goal.try_page-requires-clause-may
try_page-requires-clause-may g c =
    let sizes : Sizes = c.args.mtr.now.latches.now.sizes in
    let has : has_pages sizes.pages ≡ true = has_told c.geometry.ensures c.pages.ensures.pages c.pages.ensures.in_range in
    let laws = laws_under g.L.Law g.L.Trees.ROOTS sizes.pages has g.met.L.Law.begins c.trees_law.ensures.memory g.met.L.Law.stays c.trees_law.ensures.range in
    let p : PassState = c.args.mtr.now.pass.now in
    step_may sizes g.L.Trees.ROOTS (g.L.Law.lawful sizes.pages) (by_place g.L.Law.opening sizes.pages) laws c.args.sought.root c.requires.sought.some c.requires.sought.there c.args.sought.key c.requires.sought.is_key c.args.page c.args.level c.requires.node p c.requires.here c.child_of-child.new.mtr.pass.now c.child_of-child.ensures.read c.child_of-child.result c.child_of-child.ensures.child

pub returns-in-Ok-clause-here : goal.returns-in-Ok-clause-here
returns-in-Ok-clause-here g c =
    let sizes : Sizes = c.args.mtr.now.latches.now.sizes in
    let has : has_pages sizes.pages ≡ true = has_told c.geometry.ensures c.pages.ensures.pages c.pages.ensures.in_range in
    let laws = laws_under g.L.Law g.L.Trees.ROOTS sizes.pages has g.met.L.Law.begins c.trees_law.ensures.memory g.met.L.Law.stays c.trees_law.ensures.range in
    let p : PassState = c.args.mtr.now.pass.now in
    let p1 : PassState = c.child_of-child.new.mtr.pass.now in let p2 : PassState = c.try_page.new.mtr.pass.now in
    let latched = subst (λ (s : Sizes). HasLatched s (g.L.Law.lawful s.pages) (page_grant c.child_of-child.result c.args.mode) p1 p2) (ap (λ m. m.now.sizes) c.child_of-child.ensures.still.latches) c.in-Ok.ensures.latched in
    step_at sizes g.L.Trees.ROOTS (g.L.Law.lawful sizes.pages) (by_place g.L.Law.opening sizes.pages) laws c.args.sought.root c.requires.sought.some c.requires.sought.there c.args.sought.key c.requires.sought.is_key c.args.page c.args.level c.requires.node p c.requires.here c.child_of-child.new.mtr.pass.now c.child_of-child.ensures.read c.child_of-child.result c.child_of-child.ensures.child c.args.mode p2 latched c.release_at.new.self.pass.now c.release_at.ensures.released

pub returns-in-Ok-clause-went : goal.returns-in-Ok-clause-went
returns-in-Ok-clause-went g c =
    let sizes : Sizes = c.args.mtr.now.latches.now.sizes in
    let has : has_pages sizes.pages ≡ true = has_told c.geometry.ensures c.pages.ensures.pages c.pages.ensures.in_range in
    let laws = laws_under g.L.Law g.L.Trees.ROOTS sizes.pages has g.met.L.Law.begins c.trees_law.ensures.memory g.met.L.Law.stays c.trees_law.ensures.range in
    let p : PassState = c.args.mtr.now.pass.now in
    let p1 : PassState = c.child_of-child.new.mtr.pass.now in let p2 : PassState = c.try_page.new.mtr.pass.now in
    let latched = subst (λ (s : Sizes). HasLatched s (g.L.Law.lawful s.pages) (page_grant c.child_of-child.result c.args.mode) p1 p2) (ap (λ m. m.now.sizes) c.child_of-child.ensures.still.latches) c.in-Ok.ensures.latched in
    step_went sizes g.L.Trees.ROOTS (g.L.Law.lawful sizes.pages) (by_place g.L.Law.opening sizes.pages) laws c.args.sought.root c.requires.sought.some c.requires.sought.there c.args.sought.key c.requires.sought.is_key c.args.page c.args.level c.requires.node p c.requires.here c.child_of-child.new.mtr.pass.now c.child_of-child.ensures.read c.child_of-child.result c.child_of-child.ensures.child c.args.mode p2 latched c.release_at.new.self.pass.now c.release_at.ensures.released

pub returns-in-Ok-clause-grants : goal.returns-in-Ok-clause-grants
returns-in-Ok-clause-grants g c =
    let sizes : Sizes = c.args.mtr.now.latches.now.sizes in
    let has : has_pages sizes.pages ≡ true = has_told c.geometry.ensures c.pages.ensures.pages c.pages.ensures.in_range in
    let laws = laws_under g.L.Law g.L.Trees.ROOTS sizes.pages has g.met.L.Law.begins c.trees_law.ensures.memory g.met.L.Law.stays c.trees_law.ensures.range in
    let p : PassState = c.args.mtr.now.pass.now in
    let p1 : PassState = c.child_of-child.new.mtr.pass.now in let p2 : PassState = c.try_page.new.mtr.pass.now in
    let latched = subst (λ (s : Sizes). HasLatched s (g.L.Law.lawful s.pages) (page_grant c.child_of-child.result c.args.mode) p1 p2) (ap (λ m. m.now.sizes) c.child_of-child.ensures.still.latches) c.in-Ok.ensures.latched in
    step_grants sizes g.L.Trees.ROOTS (g.L.Law.lawful sizes.pages) (by_place g.L.Law.opening sizes.pages) laws c.args.sought.root c.requires.sought.some c.requires.sought.there c.args.sought.key c.requires.sought.is_key c.args.page c.args.level c.requires.node p c.requires.here c.child_of-child.new.mtr.pass.now c.child_of-child.ensures.read c.child_of-child.result c.child_of-child.ensures.child c.args.mode p2 latched c.release_at.new.self.pass.now c.release_at.ensures.released

pub returns-in-Ok-clause-few : goal.returns-in-Ok-clause-few
returns-in-Ok-clause-few g c =
    let p : PassState = c.args.mtr.now.pass.now in let p1 : PassState = c.child_of-child.new.mtr.pass.now in let p2 : PassState = c.try_page.new.mtr.pass.now in
    few_released 0 1 p p2 c.release_at.new.self.pass.now c.release_at.ensures.released
    (few_both 0 p.view p1.view p2.view (few_read 0 p p p1 c.child_of-child.ensures.read (few_none p)) c.in-Ok.ensures.few)

pub returns-in-Err-clause-vain : goal.returns-in-Err-clause-vain
returns-in-Err-clause-vain g c =
    let sizes : Sizes = c.args.mtr.now.latches.now.sizes in
    let has : has_pages sizes.pages ≡ true = has_told c.geometry.ensures c.pages.ensures.pages c.pages.ensures.in_range in
    let laws = laws_under g.L.Law g.L.Trees.ROOTS sizes.pages has g.met.L.Law.begins c.trees_law.ensures.memory g.met.L.Law.stays c.trees_law.ensures.range in
    let p : PassState = c.args.mtr.now.pass.now in
    let p1 : PassState = c.child_of-child.new.mtr.pass.now in let p2 : PassState = c.try_page.new.mtr.pass.now in
    let vain = subst (λ (s : Sizes). IsVainTry s (g.L.Law.lawful s.pages) c.args.mode (c.child_of-child.result + 2) c.in-Err.fault p1 p2) (ap (λ m. m.now.sizes) c.child_of-child.ensures.still.latches) c.in-Err.ensures.vain in (
      c.child_of-child.result,
      record {
        vain = vain_read sizes (g.L.Law.lawful sizes.pages) c.args.mode (c.child_of-child.result + 2) c.in-Err.fault p p1 p2 c.child_of-child.ensures.read vain;
        on_path = step_on sizes g.L.Trees.ROOTS (g.L.Law.lawful sizes.pages) (by_place g.L.Law.opening sizes.pages) laws c.args.sought.root c.requires.sought.some c.requires.sought.there c.args.sought.key c.requires.sought.is_key c.args.page c.args.level c.requires.node p c.requires.here c.child_of-child.new.mtr.pass.now c.child_of-child.ensures.read c.child_of-child.result c.child_of-child.ensures.child p2 vain.looked_on.seen;
      },
    )
