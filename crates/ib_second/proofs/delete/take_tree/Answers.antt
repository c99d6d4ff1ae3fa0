-- The rows of the path, and the leaf behind the last of them.
use Rattle.std.specs.Prelude.{◌-◌}
use Rattle.std.proofs.Common.{◌≡◌, ℕ, true, List, Some, length, ap, sym, subst, arith}
use Rattle.ib_map.specs.Space.{has_pages}
use Rattle.ib_layout.specs.Geometry.{Sizes}
use Rattle.ib_logrec.specs.Log.{by_place}
use Rattle.ib_page.specs.Image.{next_of}
use Rattle.ib_page.specs.Work.{changed_of}
use Rattle.ib_rule.specs.Pass.{PassState}
use Rattle.ib_cursor.specs.Claims.{beside}
use Rattle.ib_cursor.specs.Rows.{HasTakenRows}
use Rattle.ib_cursor.specs.Takings.{MayTakeFirst, TakesFirst}
use Rattle.ib_cursor.proofs.PageLaws.{has_told}
use Rattle.ib_pair_law.specs.Opening.{pair_opening}
use Rattle.ib_pair_law.specs.PairKept.{IsPairLog}
use Rattle.ib_second.proofs.TreeTaken.{last-link, may-behind, rows-room, tree-taken}
use Rattle.ib_second.proofs.delete.take_tree.Given.{Over}
use Rattle.ib_second.proofs.delete.take_tree.Goals.{After-take_rows-last}
use Rattle.ib_second.proofs.delete.take_tree.Goals as goal

-- the rows that were taken behind what was held
rows : (g : Over) (c : After-take_rows-last g) → HasTakenRows c.args.mtr.now.latches.now.sizes (IsPairLog c.args.mtr.now.latches.now.sizes.pages) (by_place pair_opening c.args.mtr.now.latches.now.sizes.pages)
    c.requires.ready.0 c.args.sought.root c.args.sought.key c.args.path.now.path (length c.args.path.now.path - 1) c.take_rows-last.result c.args.mtr.now.pass.now c.take_rows-last.new.mtr.pass.now
rows g c = c.take_rows-last.ensures.taken c.requires.ready.0 c.requires.ready.1

pub take_behind-requires-clause-loaded : goal.take_behind-requires-clause-loaded
take_behind-requires-clause-loaded g c =
    let sizes : Sizes = c.args.mtr.now.latches.now.sizes in let sought = c.args.sought in
    let fits : has_pages sizes.pages ≡ true = has_told c.geometry.ensures c.pages.ensures.pages c.pages.ensures.in_range in
    let link = last-link sizes fits sought.root c.requires.sought.some c.requires.sought.there sought.key c.args.path.now.path c.requires.ready.0 c.take_rows-last.result c.args.mtr.now.pass.now c.take_rows-last.new.mtr.pass.now
    c.requires.on_path c.requires.ready.1 (rows g (goal.at.take_behind-requires-clause-loaded g c).After-take_rows-last) in
    (link.image, link.there, link.formed)

pub take_behind-requires-clause-room : goal.take_behind-requires-clause-room
take_behind-requires-clause-room g c =
    let sizes : Sizes = c.args.mtr.now.latches.now.sizes in let sought = c.args.sought in
    let fits : has_pages sizes.pages ≡ true = has_told c.geometry.ensures c.pages.ensures.pages c.pages.ensures.in_range in
    let few = rows-room sizes fits sought.root c.requires.sought.some c.requires.sought.there sought.key c.args.path.now.path c.requires.ready.0 c.take_rows-last.result c.args.mtr.now.pass.now c.take_rows-last.new.mtr.pass.now
    c.requires.on_path c.requires.ready.1 (rows g (goal.at.take_behind-requires-clause-room g c).After-take_rows-last) in
    let room = c.requires.room in omega arith

pub take_behind-requires-clause-ready : goal.take_behind-requires-clause-ready
take_behind-requires-clause-ready g c =
    let sizes : Sizes = c.args.mtr.now.latches.now.sizes in let sought = c.args.sought in let last = c.take_rows-last.result in let s : PassState = c.take_rows-last.new.mtr.pass.now in
    let fits : has_pages sizes.pages ≡ true = has_told c.geometry.ensures c.pages.ensures.pages c.pages.ensures.in_range in
    subst (λ (k : Sizes). (image : List ℕ) → changed_of last s.work ≡ Some image → MayTakeFirst k (IsPairLog k.pages) (by_place pair_opening k.pages) (beside (next_of image)) s) (sym (ap (λ m. m.now.sizes) c.take_rows-last.ensures.still.latches))
    (may-behind sizes fits sought.root c.requires.sought.some c.requires.sought.there sought.key c.args.path.now.path c.requires.ready.0 last c.args.mtr.now.pass.now s
    c.requires.on_path c.requires.ready.1 (rows g (goal.at.take_behind-requires-clause-ready g c).After-take_rows-last))

pub returns-clause-taken : goal.returns-clause-taken
returns-clause-taken g c = λ held may.
    let sizes : Sizes = c.args.mtr.now.latches.now.sizes in let sought = c.args.sought in let last = c.take_rows-last.result in
    let p : PassState = c.args.mtr.now.pass.now in let s : PassState = c.take_rows-last.new.mtr.pass.now in let t : PassState = c.take_behind.new.mtr.pass.now in
    let path : List ℕ = c.args.path.now.path in
    let fits : has_pages sizes.pages ≡ true = has_told c.geometry.ensures c.pages.ensures.pages c.pages.ensures.in_range in
    let taken = c.take_rows-last.ensures.taken held may in
    let link = last-link sizes fits sought.root c.requires.sought.some c.requires.sought.there sought.key path held last p s c.requires.on_path may taken in
    let takes = subst (λ (k : Sizes). TakesFirst k (IsPairLog k.pages) (by_place pair_opening k.pages) (beside (next_of link.image)) s t) (ap (λ m. m.now.sizes) c.take_rows-last.ensures.still.latches) (c.take_behind.ensures.taken link.image link.there) in
    tree-taken sizes fits sought.root c.requires.sought.some c.requires.sought.there sought.key path held last p s c.requires.on_path may taken t takes
