-- The claim, the path, the rows, and the leaf behind them.
use Rattle.std.specs.Prelude.{◌-◌}
use Rattle.std.proofs.Common.{◌≡◌, ◌≤◌, ◌+◌, ◌∙◌, ◌++◌, ℕ, List, [], Some, ap, sym, subst, arith, length}
use Rattle.ib_map.proofs.KeyLaws.{rank-lt_end}
use Rattle.ib_layout.specs.Geometry.{Sizes}
use Rattle.ib_logrec.specs.Log.{by_place}
use Rattle.ib_page.specs.Image.{next_of}
use Rattle.ib_page.specs.Work.{changed_of}
use Rattle.ib_rule.specs.declared.looks.Grants.{Grants}
use Rattle.ib_rule.specs.Pass.{PassState}
use Rattle.ib_rule.specs.Under.{under}
use Rattle.ib_tree.specs.Logs.{pages_after}
use Rattle.ib_cursor.specs.Claims.{beside}
use Rattle.ib_cursor.specs.Rows.{HasTakenRows, MayTakeRows}
use Rattle.ib_cursor.specs.Shapes.{HasIndex, HasReadPath}
use Rattle.ib_cursor.specs.Takings.{WillTake, MayTakeFirst, TakesFirst}
use Rattle.ib_cursor.proofs.GrantLaws.{none_granted}
use Rattle.ib_cursor.proofs.EndLaws.{claimed_with, start_index, path_long}
use Rattle.ib_cursor.proofs.TakenLaws.{all_siblings, all_taken, behind_link, behind_will, rows_held, rows_none, rows_room}
use Rattle.ib_cursor.proofs.siblings.descend_to_delete.Given.{Over}
use Rattle.ib_cursor.proofs.siblings.descend_to_delete.Goals.{After-take_rows-last}
use Rattle.ib_cursor.proofs.siblings.descend_to_delete.Goals as goal

-- the path is read, and its rows are taken
taken : (g : Over) (c : After-take_rows-last g) → under g.L.Law c.args.mtr.now.latches.now HasReadPath c.args.root c.args.key c.read_path-found.result.path c.read_path-found.result.leaf c.read_path-found.result.left c.claim_index.new.mtr.pass.now c.read_path-found.new.mtr.pass.now × ((length c.read_path-found.result.path ≤ 8) × (length c.read_path-found.result.path - 1 + 1 ≡ length c.read_path-found.result.path))
    × under g.L.Law c.args.mtr.now.latches.now MayTakeRows c.args.root c.read_path-found.result.path [] c.read_path-found.new.mtr.pass.now
    × under g.L.Law c.args.mtr.now.latches.now HasTakenRows [] c.args.root c.args.key c.read_path-found.result.path (length c.read_path-found.result.path - 1) c.take_rows-last.result c.read_path-found.new.mtr.pass.now c.take_rows-last.new.mtr.pass.now
taken g c =
    let sizes : Sizes = c.args.mtr.now.latches.now.sizes in let r : PassState = c.read_path-found.new.mtr.pass.now in let s : PassState = c.take_rows-last.new.mtr.pass.now in
    let path = c.read_path-found.result.path in let last = c.take_rows-last.result in
    let q : PassState = c.claim_index.new.mtr.pass.now in let leaf = c.read_path-found.result.leaf in let left = c.read_path-found.result.left in
    let w = subst (λ (s : Sizes). HasReadPath s (g.L.Law.lawful s.pages) (by_place g.L.Law.opening s.pages) c.args.root c.args.key path leaf left q r) (ap (λ m. m.now.sizes) c.claim_index.ensures.still.latches) c.read_path-found.ensures.on_path in
    let long = path_long sizes g.L.Trees.ROOTS (g.L.Law.lawful sizes.pages) (by_place g.L.Law.opening sizes.pages) c.facts_of_trees.ensures.shapes c.args.root c.requires.root.some c.requires.root.there c.args.key (rank-lt_end c.args.key) path leaf left q r w in
    let may = rows_none sizes g.L.Trees.ROOTS (g.L.Law.lawful sizes.pages) (by_place g.L.Law.opening sizes.pages) c.facts_of_trees.ensures.shapes c.args.root c.requires.root.some c.requires.root.there c.args.key (rank-lt_end c.args.key) path r long.0 w.index in
    let same = ap (λ m. m.now.sizes) (c.read_path-found.ensures.still.latches ∙ c.claim_index.ensures.still.latches) in
    let taken = subst (λ (k : Sizes). (held : List ℕ) → MayTakeRows k (g.L.Law.lawful k.pages) (by_place g.L.Law.opening k.pages) c.args.root path held r
    → HasTakenRows k (g.L.Law.lawful k.pages) (by_place g.L.Law.opening k.pages) held c.args.root c.args.key path (length path - 1) last r s) same c.take_rows-last.ensures.taken in
    (w, long, may, taken [] may)

pub read_path-found-requires-clause-index : goal.read_path-found-requires-clause-index
read_path-found-requires-clause-index g c =
    let sizes : Sizes = c.args.mtr.now.latches.now.sizes in let p : PassState = c.args.mtr.now.pass.now in let q : PassState = c.claim_index.new.mtr.pass.now in
    subst (λ (s : Sizes). HasIndex s (g.L.Law.lawful s.pages) q) (sym (ap (λ m. m.now.sizes) c.claim_index.ensures.still.latches))
    (start_index sizes g.L.Trees.ROOTS (g.L.Law.lawful sizes.pages) (by_place g.L.Law.opening sizes.pages) c.facts_of_trees.ensures.shapes c.args.root c.requires.root.some c.requires.root.there c.args.key (rank-lt_end c.args.key) [] 0 0 p q q q q (none_granted c.args.mtr.now.latches.now c.args.mtr.now.pass.now c.requires.may.mtr c.requires.may.memo) c.requires.may.none c.claim_index.ensures.latched c.claim_index.ensures.claimed)

pub read_path-found-requires-clause-sought : goal.read_path-found-requires-clause-sought
read_path-found-requires-clause-sought g c = record { some = c.requires.root.some; there = c.requires.root.there; is_key = rank-lt_end c.args.key }

pub take_rows-last-requires-clause-sought : goal.take_rows-last-requires-clause-sought
take_rows-last-requires-clause-sought g c = record { some = c.requires.root.some; there = c.requires.root.there; is_key = rank-lt_end c.args.key }

pub take_rows-last-requires-clause-ready : goal.take_rows-last-requires-clause-ready
take_rows-last-requires-clause-ready g c =
    let sizes : Sizes = c.args.mtr.now.latches.now.sizes in let q : PassState = c.claim_index.new.mtr.pass.now in let r : PassState = c.read_path-found.new.mtr.pass.now in
    let path = c.read_path-found.result.path in let leaf = c.read_path-found.result.leaf in let left = c.read_path-found.result.left in
    let w = subst (λ (s : Sizes). HasReadPath s (g.L.Law.lawful s.pages) (by_place g.L.Law.opening s.pages) c.args.root c.args.key path leaf left q r) (ap (λ m. m.now.sizes) c.claim_index.ensures.still.latches) c.read_path-found.ensures.on_path in
    let long = path_long sizes g.L.Trees.ROOTS (g.L.Law.lawful sizes.pages) (by_place g.L.Law.opening sizes.pages) c.facts_of_trees.ensures.shapes c.args.root c.requires.root.some c.requires.root.there c.args.key (rank-lt_end c.args.key) path leaf left q r w in
    let may = rows_none sizes g.L.Trees.ROOTS (g.L.Law.lawful sizes.pages) (by_place g.L.Law.opening sizes.pages) c.facts_of_trees.ensures.shapes c.args.root c.requires.root.some c.requires.root.there c.args.key (rank-lt_end c.args.key) path r long.0 w.index in
    subst (λ (k : Sizes). (held : List ℕ) × MayTakeRows k (g.L.Law.lawful k.pages) (by_place g.L.Law.opening k.pages) c.args.root path held r)
    (sym (ap (λ m. m.now.sizes) (c.read_path-found.ensures.still.latches ∙ c.claim_index.ensures.still.latches))) ([], may)

pub take_behind-requires-clause-loaded : goal.take_behind-requires-clause-loaded
take_behind-requires-clause-loaded g c =
    let sizes : Sizes = c.args.mtr.now.latches.now.sizes in let r : PassState = c.read_path-found.new.mtr.pass.now in let s : PassState = c.take_rows-last.new.mtr.pass.now in
    let path = c.read_path-found.result.path in let last = c.take_rows-last.result in
    let so = taken g (goal.at.take_behind-requires-clause-loaded g c).After-take_rows-last in let long = so.1 in let may = so.2 in let rows = so.3 in
    let link = behind_link sizes g.L.Trees.ROOTS (g.L.Law.lawful sizes.pages) (by_place g.L.Law.opening sizes.pages) c.facts_of_trees.ensures.shapes c.args.root c.requires.root.some c.requires.root.there c.args.key (rank-lt_end c.args.key) path [] (length path - 1) last r s may rows long.1 in
    (link.image, link.there, link.formed)

pub take_behind-requires-clause-room : goal.take_behind-requires-clause-room
take_behind-requires-clause-room g c =
    let sizes : Sizes = c.args.mtr.now.latches.now.sizes in let r : PassState = c.read_path-found.new.mtr.pass.now in let s : PassState = c.take_rows-last.new.mtr.pass.now in
    let path = c.read_path-found.result.path in let last = c.take_rows-last.result in
    let so = taken g (goal.at.take_behind-requires-clause-room g c).After-take_rows-last in let long = so.1 in let may = so.2 in let rows = so.3 in
    let more = rows_room sizes g.L.Trees.ROOTS (g.L.Law.lawful sizes.pages) (by_place g.L.Law.opening sizes.pages) c.facts_of_trees.ensures.shapes c.args.root c.requires.root.some c.requires.root.there c.args.key (rank-lt_end c.args.key) path [] (length path - 1) last r s may rows in
    let gs = c.claim_index.ensures.latched.grants in let a = ap (λ (g : Grants). g.s) gs in let b = ap (λ (g : Grants). g.sx) gs in let d = ap (λ (g : Grants). g.x) gs in let room = c.requires.may.room in
    let w = so.0 in let e = w.s in let f = w.sx in let h = w.x in omega arith

pub take_behind-requires-clause-ready : goal.take_behind-requires-clause-ready
take_behind-requires-clause-ready g c =
    let sizes : Sizes = c.args.mtr.now.latches.now.sizes in let r : PassState = c.read_path-found.new.mtr.pass.now in let s : PassState = c.take_rows-last.new.mtr.pass.now in
    let path = c.read_path-found.result.path in let last = c.take_rows-last.result in
    let so = taken g (goal.at.take_behind-requires-clause-ready g c).After-take_rows-last in let long = so.1 in let may = so.2 in let rows = so.3 in
    let link = behind_link sizes g.L.Trees.ROOTS (g.L.Law.lawful sizes.pages) (by_place g.L.Law.opening sizes.pages) c.facts_of_trees.ensures.shapes c.args.root c.requires.root.some c.requires.root.there c.args.key (rank-lt_end c.args.key) path [] (length path - 1) last r s may rows long.1 in
    let next = (pages_after (by_place g.L.Law.opening sizes.pages) s.view.memory.seen last).next in let held = rows_held sizes g.L.Trees.ROOTS (g.L.Law.lawful sizes.pages) (by_place g.L.Law.opening sizes.pages) c.facts_of_trees.ensures.shapes c.args.root c.requires.root.some c.requires.root.there c.args.key (rank-lt_end c.args.key) path [] (length path - 1) last r s may rows in
    let will = behind_will sizes g.L.Trees.ROOTS (g.L.Law.lawful sizes.pages) (by_place g.L.Law.opening sizes.pages) c.facts_of_trees.ensures.shapes c.args.root c.requires.root.some c.requires.root.there c.args.key (rank-lt_end c.args.key) path [] (length path - 1) last r s may rows long.1 in
    let third = ap (λ m. m.now.sizes) (c.take_rows-last.ensures.still.latches ∙ c.read_path-found.ensures.still.latches ∙ c.claim_index.ensures.still.latches) in
    subst (λ (k : Sizes). (image : List ℕ) → changed_of last s.work ≡ Some image → MayTakeFirst k (g.L.Law.lawful k.pages) (by_place g.L.Law.opening k.pages) (beside (next_of image)) s) (sym third)
    (λ image there.
    let same : link.image ≡ image = let a = sym link.there ∙ there in cc in
    let is : next ≡ next_of image = sym link.right_is ∙ ap next_of same in
    (held, [], subst (λ n. WillTake sizes (g.L.Law.lawful sizes.pages) (by_place g.L.Law.opening sizes.pages) held (beside n ++ []) s) is will))

pub returns-clause-claimed : goal.returns-clause-claimed
returns-clause-claimed g c =
    let sizes : Sizes = c.args.mtr.now.latches.now.sizes in let r : PassState = c.read_path-found.new.mtr.pass.now in let s : PassState = c.take_rows-last.new.mtr.pass.now in
    let path = c.read_path-found.result.path in let last = c.take_rows-last.result in
    let so = taken g (goal.at.returns-clause-claimed g c).After-take_rows-last in let long = so.1 in let may = so.2 in let rows = so.3 in
    let link = behind_link sizes g.L.Trees.ROOTS (g.L.Law.lawful sizes.pages) (by_place g.L.Law.opening sizes.pages) c.facts_of_trees.ensures.shapes c.args.root c.requires.root.some c.requires.root.there c.args.key (rank-lt_end c.args.key) path [] (length path - 1) last r s may rows long.1 in
    let next = (pages_after (by_place g.L.Law.opening sizes.pages) s.view.memory.seen last).next in let held = rows_held sizes g.L.Trees.ROOTS (g.L.Law.lawful sizes.pages) (by_place g.L.Law.opening sizes.pages) c.facts_of_trees.ensures.shapes c.args.root c.requires.root.some c.requires.root.there c.args.key (rank-lt_end c.args.key) path [] (length path - 1) last r s may rows in
    let will = behind_will sizes g.L.Trees.ROOTS (g.L.Law.lawful sizes.pages) (by_place g.L.Law.opening sizes.pages) c.facts_of_trees.ensures.shapes c.args.root c.requires.root.some c.requires.root.there c.args.key (rank-lt_end c.args.key) path [] (length path - 1) last r s may rows long.1 in
    let third = ap (λ m. m.now.sizes) (c.take_rows-last.ensures.still.latches ∙ c.read_path-found.ensures.still.latches ∙ c.claim_index.ensures.still.latches) in
    let t : PassState = c.take_behind.new.mtr.pass.now in
    let taken = subst (λ (k : Sizes). TakesFirst k (g.L.Law.lawful k.pages) (by_place g.L.Law.opening k.pages) (beside (next_of link.image)) s t) third (c.take_behind.ensures.taken link.image link.there) in
    let more = (subst (λ n. TakesFirst sizes (g.L.Law.lawful sizes.pages) (by_place g.L.Law.opening sizes.pages) (beside n) s t) link.right_is taken) held [] will in
    let p : PassState = c.args.mtr.now.pass.now in let q : PassState = c.claim_index.new.mtr.pass.now in let idle = none_granted c.args.mtr.now.latches.now c.args.mtr.now.pass.now c.requires.may.mtr c.requires.may.memo in
    let all = all_taken sizes g.L.Trees.ROOTS (g.L.Law.lawful sizes.pages) (by_place g.L.Law.opening sizes.pages) c.facts_of_trees.ensures.shapes c.args.root c.requires.root.some c.requires.root.there c.args.key (rank-lt_end c.args.key) path [] (length path - 1) last r s may rows long.1 t more in (
      held ++ beside next,
      claimed_with sizes g.L.Trees.ROOTS (g.L.Law.lawful sizes.pages) (by_place g.L.Law.opening sizes.pages) c.facts_of_trees.ensures.shapes c.args.root c.requires.root.some c.requires.root.there c.args.key (rank-lt_end c.args.key) path c.read_path-found.result.leaf c.read_path-found.result.left p q r s t idle c.requires.may.none c.claim_index.ensures.latched c.claim_index.ensures.claimed so.0 (held ++ beside next) t all,
      all_siblings sizes g.L.Trees.ROOTS (g.L.Law.lawful sizes.pages) (by_place g.L.Law.opening sizes.pages) c.facts_of_trees.ensures.shapes c.args.root c.requires.root.some c.requires.root.there c.args.key (rank-lt_end c.args.key) path [] (length path - 1) last r s may rows long.1 t more,
    )

pub returns-clause-alone : goal.returns-clause-alone
returns-clause-alone g c =
    let sizes : Sizes = c.args.mtr.now.latches.now.sizes in let r : PassState = c.read_path-found.new.mtr.pass.now in let s : PassState = c.take_rows-last.new.mtr.pass.now in
    let path = c.read_path-found.result.path in let last = c.take_rows-last.result in
    let so = taken g (goal.at.returns-clause-alone g c).After-take_rows-last in let long = so.1 in let may = so.2 in let rows = so.3 in
    let link = behind_link sizes g.L.Trees.ROOTS (g.L.Law.lawful sizes.pages) (by_place g.L.Law.opening sizes.pages) c.facts_of_trees.ensures.shapes c.args.root c.requires.root.some c.requires.root.there c.args.key (rank-lt_end c.args.key) path [] (length path - 1) last r s may rows long.1 in
    let next = (pages_after (by_place g.L.Law.opening sizes.pages) s.view.memory.seen last).next in let held = rows_held sizes g.L.Trees.ROOTS (g.L.Law.lawful sizes.pages) (by_place g.L.Law.opening sizes.pages) c.facts_of_trees.ensures.shapes c.args.root c.requires.root.some c.requires.root.there c.args.key (rank-lt_end c.args.key) path [] (length path - 1) last r s may rows in
    let will = behind_will sizes g.L.Trees.ROOTS (g.L.Law.lawful sizes.pages) (by_place g.L.Law.opening sizes.pages) c.facts_of_trees.ensures.shapes c.args.root c.requires.root.some c.requires.root.there c.args.key (rank-lt_end c.args.key) path [] (length path - 1) last r s may rows long.1 in
    let third = ap (λ m. m.now.sizes) (c.take_rows-last.ensures.still.latches ∙ c.read_path-found.ensures.still.latches ∙ c.claim_index.ensures.still.latches) in
    let t : PassState = c.take_behind.new.mtr.pass.now in
    let taken = subst (λ (k : Sizes). TakesFirst k (g.L.Law.lawful k.pages) (by_place g.L.Law.opening k.pages) (beside (next_of link.image)) s t) third (c.take_behind.ensures.taken link.image link.there) in
    let more = (subst (λ n. TakesFirst sizes (g.L.Law.lawful sizes.pages) (by_place g.L.Law.opening sizes.pages) (beside n) s t) link.right_is taken) held [] will in
    more.holds.claimed
