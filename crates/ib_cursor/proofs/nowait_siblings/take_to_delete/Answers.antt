-- The claim, the path, the rows, and the leaf behind them, or the latch that was refused.
use Rattle.std.specs.Prelude.{◌-◌}
use Rattle.std.proofs.Common.{◌≡◌, ◌≤◌, ◌+◌, ◌∙◌, ◌++◌, ℕ, List, [], Some, ap, sym, subst, arith, length}
use Rattle.ib_layout.specs.Geometry.{Sizes}
use Rattle.ib_logrec.specs.Log.{by_place}
use Rattle.ib_page.specs.Image.{next_of}
use Rattle.ib_page.specs.Work.{changed_of}
use Rattle.ib_rule.specs.declared.looks.Grants.{Grants}
use Rattle.ib_rule.specs.Pass.{PassState}
use Rattle.ib_rule.specs.Under.{under}
use Rattle.ib_tree.specs.Logs.{pages_after}
use Rattle.ib_cursor.specs.Claims.{beside}
use Rattle.ib_cursor.specs.Refusals.{IsDeleteRefusal, IsHeldByDelete, IsPathRefusal, IsRefusedBehind, IsRowRefused}
use Rattle.ib_cursor.specs.Rows.{HasTakenRows, MayTakeRows}
use Rattle.ib_cursor.specs.Shapes.{HasIndex, HasReadPath}
use Rattle.ib_cursor.specs.Takings.{HasTakenMore, WillTake, MayTakeFirst, TakesFirst}
use Rattle.ib_cursor.proofs.GrantLaws.{none_granted}
use Rattle.ib_cursor.proofs.EndLaws.{claimed_with, start_index, path_long}
use Rattle.ib_cursor.proofs.RefusalLaws.{few_both, looks_two}
use Rattle.ib_cursor.proofs.RowRefusalLaws.{delete_behind, delete_row}
use Rattle.ib_cursor.proofs.TakeLaws.{beside_few}
use Rattle.ib_cursor.proofs.TakeRefusalLaws.{claim_refused, path_refused}
use Rattle.ib_cursor.proofs.TakenLaws.{all_siblings, all_taken, behind_link, behind_will, few-own, rows_held, rows_none, rows_room}
use Rattle.ib_cursor.proofs.nowait_siblings.take_to_delete.Given.{Over}
use Rattle.ib_cursor.proofs.nowait_siblings.take_to_delete.Goals.{In-Err-try_take_behind, In-Err-try_take_rows, In-Ok-try_path, In-Ok-try_take_behind, In-Ok-try_take_rows}
use Rattle.ib_cursor.proofs.nowait_siblings.take_to_delete.Goals as goal

-- the path is read, and its rows may be taken
path_read : (g : Over) (c : In-Ok-try_path g) → under g.L.Law c.args.mtr.now.latches.now HasReadPath c.args.sought.root c.args.sought.key c.in-Ok-try_path.found.path c.in-Ok-try_path.found.leaf c.in-Ok-try_path.found.left c.try_claim.new.mtr.pass.now c.try_path.new.mtr.pass.now
    × ((length c.in-Ok-try_path.found.path ≤ 8) × (length c.in-Ok-try_path.found.path - 1 + 1 ≡ length c.in-Ok-try_path.found.path))
    × under g.L.Law c.args.mtr.now.latches.now MayTakeRows c.args.sought.root c.in-Ok-try_path.found.path [] c.try_path.new.mtr.pass.now
path_read g c =
    let sizes : Sizes = c.args.mtr.now.latches.now.sizes in
    let q : PassState = c.try_claim.new.mtr.pass.now in let r : PassState = c.try_path.new.mtr.pass.now in
    let path = c.in-Ok-try_path.found.path in let leaf = c.in-Ok-try_path.found.leaf in let left = c.in-Ok-try_path.found.left in
    let w = subst (λ (s : Sizes). HasReadPath s (g.L.Law.lawful s.pages) (by_place g.L.Law.opening s.pages) c.args.sought.root c.args.sought.key path leaf left q r) (ap (λ m. m.now.sizes) c.try_claim.ensures.still.latches) c.in-Ok-try_path.ensures.on_path in
    let long = path_long sizes g.L.Trees.ROOTS (g.L.Law.lawful sizes.pages) (by_place g.L.Law.opening sizes.pages) c.facts_of_trees.ensures.shapes c.args.sought.root c.requires.sought.some c.requires.sought.there c.args.sought.key c.requires.sought.is_key path leaf left q r w in
    (w, long, rows_none sizes g.L.Trees.ROOTS (g.L.Law.lawful sizes.pages) (by_place g.L.Law.opening sizes.pages) c.facts_of_trees.ensures.shapes c.args.sought.root c.requires.sought.some c.requires.sought.there c.args.sought.key c.requires.sought.is_key path r long.0 w.index)

-- .. they were taken
rows_taken : (g : Over) (c : In-Ok-try_take_rows g) → under g.L.Law c.args.mtr.now.latches.now MayTakeRows c.args.sought.root c.in-Ok-try_path.found.path [] c.try_path.new.mtr.pass.now → under g.L.Law c.args.mtr.now.latches.now HasTakenRows [] c.args.sought.root c.args.sought.key c.in-Ok-try_path.found.path (length c.in-Ok-try_path.found.path - 1) c.in-Ok-try_take_rows.last c.try_path.new.mtr.pass.now c.try_take_rows.new.mtr.pass.now
rows_taken g c may =
    let r : PassState = c.try_path.new.mtr.pass.now in let s : PassState = c.try_take_rows.new.mtr.pass.now in let path = c.in-Ok-try_path.found.path in let last = c.in-Ok-try_take_rows.last in
    let taken = subst (λ (k : Sizes). (held : List ℕ) → MayTakeRows k (g.L.Law.lawful k.pages) (by_place g.L.Law.opening k.pages) c.args.sought.root path held r
    → HasTakenRows k (g.L.Law.lawful k.pages) (by_place g.L.Law.opening k.pages) held c.args.sought.root c.args.sought.key path (length path - 1) last r s) (ap (λ m. m.now.sizes) (c.try_path.ensures.still.latches ∙ c.try_claim.ensures.still.latches)) c.in-Ok-try_take_rows.ensures.taken in
    taken [] may

-- .. or a page of them was refused
row_refusal : (g : Over) (c : In-Err-try_take_rows g) → under g.L.Law c.args.mtr.now.latches.now HasReadPath c.args.sought.root c.args.sought.key c.in-Ok-try_path.found.path c.in-Ok-try_path.found.leaf c.in-Ok-try_path.found.left c.try_claim.new.mtr.pass.now c.try_path.new.mtr.pass.now
    → under g.L.Law c.args.mtr.now.latches.now IsDeleteRefusal c.args.sought.root c.args.sought.key c.in-Err-try_take_rows.fault c.args.mtr.now.pass.now c.try_take_rows.new.mtr.pass.now
row_refusal g c w =
    let sizes : Sizes = c.args.mtr.now.latches.now.sizes in
    let p : PassState = c.args.mtr.now.pass.now in
    let q : PassState = c.try_claim.new.mtr.pass.now in let r : PassState = c.try_path.new.mtr.pass.now in
    let path = c.in-Ok-try_path.found.path in let leaf = c.in-Ok-try_path.found.leaf in let left = c.in-Ok-try_path.found.left in
    let s : PassState = c.try_take_rows.new.mtr.pass.now in let f = c.in-Err-try_take_rows.fault in
    let v = subst (λ (k : Sizes). IsRowRefused k (g.L.Law.lawful k.pages) (by_place g.L.Law.opening k.pages) c.args.sought.root c.args.sought.key path f r s) (ap (λ m. m.now.sizes) (c.try_path.ensures.still.latches ∙ c.try_claim.ensures.still.latches)) c.in-Err-try_take_rows.ensures.refused in
    delete_row sizes g.L.Trees.ROOTS (g.L.Law.lawful sizes.pages) (by_place g.L.Law.opening sizes.pages) c.facts_of_trees.ensures.shapes c.args.sought.root c.requires.sought.some c.requires.sought.there c.args.sought.key c.requires.sought.is_key f p q c.in-Ok.ensures.latched c.in-Ok.ensures.few path leaf left r w c.in-Ok-try_path.ensures.few s v

-- .. the leaf behind them was taken
behind_taken : (g : Over) (c : In-Ok-try_take_behind g) (may : under g.L.Law c.args.mtr.now.latches.now MayTakeRows c.args.sought.root c.in-Ok-try_path.found.path [] c.try_path.new.mtr.pass.now) (rows : under g.L.Law c.args.mtr.now.latches.now HasTakenRows [] c.args.sought.root c.args.sought.key c.in-Ok-try_path.found.path (length c.in-Ok-try_path.found.path - 1) c.in-Ok-try_take_rows.last c.try_path.new.mtr.pass.now c.try_take_rows.new.mtr.pass.now) → length c.in-Ok-try_path.found.path - 1 + 1 ≡ length c.in-Ok-try_path.found.path
    → (let sizes : Sizes = c.args.mtr.now.latches.now.sizes in under g.L.Law c.args.mtr.now.latches.now HasTakenMore (rows_held sizes g.L.Trees.ROOTS (g.L.Law.lawful sizes.pages) (by_place g.L.Law.opening sizes.pages) c.facts_of_trees.ensures.shapes c.args.sought.root c.requires.sought.some c.requires.sought.there c.args.sought.key c.requires.sought.is_key c.in-Ok-try_path.found.path [] (length c.in-Ok-try_path.found.path - 1) c.in-Ok-try_take_rows.last c.try_path.new.mtr.pass.now c.try_take_rows.new.mtr.pass.now may rows)
    (beside (pages_after (by_place g.L.Law.opening sizes.pages) c.try_take_rows.new.mtr.pass.now.view.memory.seen c.in-Ok-try_take_rows.last).next) c.try_take_rows.new.mtr.pass.now c.try_take_behind.new.mtr.pass.now)
behind_taken g c may rows done =
    let sizes : Sizes = c.args.mtr.now.latches.now.sizes in
    let r : PassState = c.try_path.new.mtr.pass.now in let s : PassState = c.try_take_rows.new.mtr.pass.now in let path = c.in-Ok-try_path.found.path in let last = c.in-Ok-try_take_rows.last in
    let link = behind_link sizes g.L.Trees.ROOTS (g.L.Law.lawful sizes.pages) (by_place g.L.Law.opening sizes.pages) c.facts_of_trees.ensures.shapes c.args.sought.root c.requires.sought.some c.requires.sought.there c.args.sought.key c.requires.sought.is_key path [] (length path - 1) last r s may rows done in
    let next = (pages_after (by_place g.L.Law.opening sizes.pages) s.view.memory.seen last).next in let held = rows_held sizes g.L.Trees.ROOTS (g.L.Law.lawful sizes.pages) (by_place g.L.Law.opening sizes.pages) c.facts_of_trees.ensures.shapes c.args.sought.root c.requires.sought.some c.requires.sought.there c.args.sought.key c.requires.sought.is_key path [] (length path - 1) last r s may rows in
    let will = behind_will sizes g.L.Trees.ROOTS (g.L.Law.lawful sizes.pages) (by_place g.L.Law.opening sizes.pages) c.facts_of_trees.ensures.shapes c.args.sought.root c.requires.sought.some c.requires.sought.there c.args.sought.key c.requires.sought.is_key path [] (length path - 1) last r s may rows done in
    let third = ap (λ m. m.now.sizes) (c.try_take_rows.ensures.still.latches ∙ c.try_path.ensures.still.latches ∙ c.try_claim.ensures.still.latches) in
    let t : PassState = c.try_take_behind.new.mtr.pass.now in
    let first = subst (λ (k : Sizes). TakesFirst k (g.L.Law.lawful k.pages) (by_place g.L.Law.opening k.pages) (beside (next_of link.image)) s t) third (c.in-Ok-try_take_behind.ensures.taken link.image link.there) in
    (subst (λ n. TakesFirst sizes (g.L.Law.lawful sizes.pages) (by_place g.L.Law.opening sizes.pages) (beside n) s t) link.right_is first) held [] will

-- .. or refused
behind_refusal : (g : Over) (c : In-Err-try_take_behind g) → under g.L.Law c.args.mtr.now.latches.now HasReadPath c.args.sought.root c.args.sought.key c.in-Ok-try_path.found.path c.in-Ok-try_path.found.leaf c.in-Ok-try_path.found.left c.try_claim.new.mtr.pass.now c.try_path.new.mtr.pass.now → under g.L.Law c.args.mtr.now.latches.now MayTakeRows c.args.sought.root c.in-Ok-try_path.found.path [] c.try_path.new.mtr.pass.now → under g.L.Law c.args.mtr.now.latches.now HasTakenRows [] c.args.sought.root c.args.sought.key c.in-Ok-try_path.found.path (length c.in-Ok-try_path.found.path - 1) c.in-Ok-try_take_rows.last c.try_path.new.mtr.pass.now c.try_take_rows.new.mtr.pass.now → length c.in-Ok-try_path.found.path - 1 + 1 ≡ length c.in-Ok-try_path.found.path
    → under g.L.Law c.args.mtr.now.latches.now IsDeleteRefusal c.args.sought.root c.args.sought.key c.in-Err-try_take_behind.fault c.args.mtr.now.pass.now c.try_take_behind.new.mtr.pass.now
behind_refusal g c w may rows done =
    let sizes : Sizes = c.args.mtr.now.latches.now.sizes in
    let p : PassState = c.args.mtr.now.pass.now in
    let q : PassState = c.try_claim.new.mtr.pass.now in let leaf = c.in-Ok-try_path.found.leaf in let left = c.in-Ok-try_path.found.left in
    let r : PassState = c.try_path.new.mtr.pass.now in let s : PassState = c.try_take_rows.new.mtr.pass.now in let path = c.in-Ok-try_path.found.path in let last = c.in-Ok-try_take_rows.last in
    let link = behind_link sizes g.L.Trees.ROOTS (g.L.Law.lawful sizes.pages) (by_place g.L.Law.opening sizes.pages) c.facts_of_trees.ensures.shapes c.args.sought.root c.requires.sought.some c.requires.sought.there c.args.sought.key c.requires.sought.is_key path [] (length path - 1) last r s may rows done in
    let next = (pages_after (by_place g.L.Law.opening sizes.pages) s.view.memory.seen last).next in let held = rows_held sizes g.L.Trees.ROOTS (g.L.Law.lawful sizes.pages) (by_place g.L.Law.opening sizes.pages) c.facts_of_trees.ensures.shapes c.args.sought.root c.requires.sought.some c.requires.sought.there c.args.sought.key c.requires.sought.is_key path [] (length path - 1) last r s may rows in
    let will = behind_will sizes g.L.Trees.ROOTS (g.L.Law.lawful sizes.pages) (by_place g.L.Law.opening sizes.pages) c.facts_of_trees.ensures.shapes c.args.sought.root c.requires.sought.some c.requires.sought.there c.args.sought.key c.requires.sought.is_key path [] (length path - 1) last r s may rows done in
    let third = ap (λ m. m.now.sizes) (c.try_take_rows.ensures.still.latches ∙ c.try_path.ensures.still.latches ∙ c.try_claim.ensures.still.latches) in
    let t : PassState = c.try_take_behind.new.mtr.pass.now in let f = c.in-Err-try_take_behind.fault in
    let refused = subst (λ (k : Sizes). (held more : List ℕ) → WillTake k (g.L.Law.lawful k.pages) (by_place g.L.Law.opening k.pages) held (beside (next_of link.image) ++ more) s → IsRefusedBehind k (g.L.Law.lawful k.pages) (by_place g.L.Law.opening k.pages) held (beside (next_of link.image)) f s t) third (c.in-Err-try_take_behind.ensures.refused link.image link.there) in
    let v = (subst (λ n. (held more : List ℕ) → WillTake sizes (g.L.Law.lawful sizes.pages) (by_place g.L.Law.opening sizes.pages) held (beside n ++ more) s → IsRefusedBehind sizes (g.L.Law.lawful sizes.pages) (by_place g.L.Law.opening sizes.pages) held (beside n) f s t) link.right_is refused) held [] will in
    delete_behind sizes g.L.Trees.ROOTS (g.L.Law.lawful sizes.pages) (by_place g.L.Law.opening sizes.pages) c.facts_of_trees.ensures.shapes c.args.sought.root c.requires.sought.some c.requires.sought.there c.args.sought.key c.requires.sought.is_key f p q c.in-Ok.ensures.latched c.in-Ok.ensures.few path leaf left r w c.in-Ok-try_path.ensures.few (length path - 1) last s t may rows done c.in-Ok-try_take_rows.ensures.few v

pub returns-in-Err-clause-refusal : goal.returns-in-Err-clause-refusal
returns-in-Err-clause-refusal g c =
    let sizes : Sizes = c.args.mtr.now.latches.now.sizes in
    let p : PassState = c.args.mtr.now.pass.now in let q : PassState = c.try_claim.new.mtr.pass.now in
    claim_refused sizes (g.L.Law.lawful sizes.pages) (by_place g.L.Law.opening sizes.pages) c.args.sought.root c.args.sought.key (IsHeldByDelete c.args.sought.root c.args.sought.key) 23 c.in-Err.fault p q c.in-Err.ensures.vain

pub returns-in-Err-clause-few : goal.returns-in-Err-clause-few
returns-in-Err-clause-few g c =
    let v = c.in-Err.ensures.vain in let few = v.few.most in let tried = looks_two c.in-Err.fault in let a = ap (λ (g : Grants). g.s) v.grants in let b = ap (λ (g : Grants). g.sx) v.grants in let d = ap (λ (g : Grants). g.x) v.grants in omega arith

pub try_path-requires-clause-index : goal.try_path-requires-clause-index
try_path-requires-clause-index g c =
    let sizes : Sizes = c.args.mtr.now.latches.now.sizes in
    let p : PassState = c.args.mtr.now.pass.now in let q : PassState = c.try_claim.new.mtr.pass.now in
    subst (λ (s : Sizes). HasIndex s (g.L.Law.lawful s.pages) q) (sym (ap (λ m. m.now.sizes) c.try_claim.ensures.still.latches))
    (start_index sizes g.L.Trees.ROOTS (g.L.Law.lawful sizes.pages) (by_place g.L.Law.opening sizes.pages) c.facts_of_trees.ensures.shapes c.args.sought.root c.requires.sought.some c.requires.sought.there c.args.sought.key c.requires.sought.is_key [] 0 0 p q q q q (none_granted c.args.mtr.now.latches.now p c.requires.may.mtr c.requires.may.memo) c.requires.may.none c.in-Ok.ensures.latched c.in-Ok.ensures.claimed)

pub try_path-requires-clause-room : goal.try_path-requires-clause-room
try_path-requires-clause-room g c =
    let gs = c.in-Ok.ensures.latched.grants in let a = ap (λ (g : Grants). g.s) gs in let b = ap (λ (g : Grants). g.sx) gs in let d = ap (λ (g : Grants). g.x) gs in
    let room = c.requires.may.room in omega arith

pub returns-in-Err-try_path-clause-refusal : goal.returns-in-Err-try_path-clause-refusal
returns-in-Err-try_path-clause-refusal g c =
    let sizes : Sizes = c.args.mtr.now.latches.now.sizes in
    let p : PassState = c.args.mtr.now.pass.now in let q : PassState = c.try_claim.new.mtr.pass.now in
    let r : PassState = c.try_path.new.mtr.pass.now in let f = c.in-Err-try_path.fault in
    let v = subst (λ (s : Sizes). IsPathRefusal s (g.L.Law.lawful s.pages) (by_place g.L.Law.opening s.pages) c.args.sought.root c.args.sought.key f q r) (ap (λ m. m.now.sizes) c.try_claim.ensures.still.latches) c.in-Err-try_path.ensures.refusal in
    path_refused sizes (g.L.Law.lawful sizes.pages) (by_place g.L.Law.opening sizes.pages) c.args.sought.root c.args.sought.key (IsHeldByDelete c.args.sought.root c.args.sought.key) 23 f p q c.in-Ok.ensures.latched c.in-Ok.ensures.few r v

pub returns-in-Err-try_path-clause-few : goal.returns-in-Err-try_path-clause-few
returns-in-Err-try_path-clause-few g c =
    let gs = c.in-Ok.ensures.latched.grants in let a = ap (λ (g : Grants). g.s) gs in let b = ap (λ (g : Grants). g.sx) gs in let d = ap (λ (g : Grants). g.x) gs in
    let one = c.in-Ok.ensures.few.most in let v = c.in-Err-try_path.ensures.refusal in let two = v.few.most in let tried = looks_two c.in-Err-try_path.fault in let e = v.grants.s in let h = v.grants.sx in let i = v.grants.x in omega arith

pub try_take_rows-requires-clause-ready : goal.try_take_rows-requires-clause-ready
try_take_rows-requires-clause-ready g c =
    let at = goal.at.try_take_rows-requires-clause-ready g c in let read = path_read g at.In-Ok-try_path in let w = read.0 in let long = read.1 in let may = read.2 in
    let r : PassState = c.try_path.new.mtr.pass.now in let path = c.in-Ok-try_path.found.path in
    subst (λ (k : Sizes). (held : List ℕ) × MayTakeRows k (g.L.Law.lawful k.pages) (by_place g.L.Law.opening k.pages) c.args.sought.root path held r) (sym (ap (λ m. m.now.sizes) (c.try_path.ensures.still.latches ∙ c.try_claim.ensures.still.latches))) ([], may)

pub try_take_rows-requires-clause-room : goal.try_take_rows-requires-clause-room
try_take_rows-requires-clause-room g c =
    let at = goal.at.try_take_rows-requires-clause-room g c in let read = path_read g at.In-Ok-try_path in let w = read.0 in let long = read.1 in let may = read.2 in
    let gs = c.in-Ok.ensures.latched.grants in let a = ap (λ (g : Grants). g.s) gs in let b = ap (λ (g : Grants). g.sx) gs in let d = ap (λ (g : Grants). g.x) gs in
    let e = w.s in let f = w.sx in let h = w.x in
    let room = c.requires.may.room in let l = long.0 in omega arith

pub returns-in-Err-try_take_rows-clause-refusal : goal.returns-in-Err-try_take_rows-clause-refusal
returns-in-Err-try_take_rows-clause-refusal g c =
    let at = goal.at.returns-in-Err-try_take_rows-clause-refusal g c in let read = path_read g at.In-Ok-try_path in let w = read.0 in let long = read.1 in let may = read.2 in
    row_refusal g at.In-Err-try_take_rows w

pub returns-in-Err-try_take_rows-clause-few : goal.returns-in-Err-try_take_rows-clause-few
returns-in-Err-try_take_rows-clause-few g c =
    let at = goal.at.returns-in-Err-try_take_rows-clause-few g c in let read = path_read g at.In-Ok-try_path in let w = read.0 in let long = read.1 in let may = read.2 in
    let v = row_refusal g at.In-Err-try_take_rows w in
    let few = v.few.most in let tried = looks_two c.in-Err-try_take_rows.fault in let a = v.grants.s in let b = v.grants.sx in let d = v.grants.x in omega arith

pub try_take_behind-requires-clause-loaded : goal.try_take_behind-requires-clause-loaded
try_take_behind-requires-clause-loaded g c =
    let at = goal.at.try_take_behind-requires-clause-loaded g c in let read = path_read g at.In-Ok-try_path in let w = read.0 in let long = read.1 in let may = read.2 in
    let rows = rows_taken g at.In-Ok-try_take_rows may in let done = long.1 in
    let sizes : Sizes = c.args.mtr.now.latches.now.sizes in
    let r : PassState = c.try_path.new.mtr.pass.now in let s : PassState = c.try_take_rows.new.mtr.pass.now in let path = c.in-Ok-try_path.found.path in let last = c.in-Ok-try_take_rows.last in
    let link = behind_link sizes g.L.Trees.ROOTS (g.L.Law.lawful sizes.pages) (by_place g.L.Law.opening sizes.pages) c.facts_of_trees.ensures.shapes c.args.sought.root c.requires.sought.some c.requires.sought.there c.args.sought.key c.requires.sought.is_key path [] (length path - 1) last r s may rows done in
    (link.image, link.there, link.formed)

pub try_take_behind-requires-clause-room : goal.try_take_behind-requires-clause-room
try_take_behind-requires-clause-room g c =
    let at = goal.at.try_take_behind-requires-clause-room g c in let read = path_read g at.In-Ok-try_path in let w = read.0 in let long = read.1 in let may = read.2 in
    let rows = rows_taken g at.In-Ok-try_take_rows may in let done = long.1 in
    let sizes : Sizes = c.args.mtr.now.latches.now.sizes in
    let r : PassState = c.try_path.new.mtr.pass.now in let s : PassState = c.try_take_rows.new.mtr.pass.now in let path = c.in-Ok-try_path.found.path in let last = c.in-Ok-try_take_rows.last in
    let more = rows_room sizes g.L.Trees.ROOTS (g.L.Law.lawful sizes.pages) (by_place g.L.Law.opening sizes.pages) c.facts_of_trees.ensures.shapes c.args.sought.root c.requires.sought.some c.requires.sought.there c.args.sought.key c.requires.sought.is_key path [] (length path - 1) last r s may rows in
    let gs = c.in-Ok.ensures.latched.grants in let a = ap (λ (g : Grants). g.s) gs in let b = ap (λ (g : Grants). g.sx) gs in let d = ap (λ (g : Grants). g.x) gs in
    let e = w.s in let f = w.sx in let h = w.x in
    let room = c.requires.may.room in let l = long.0 in omega arith

pub try_take_behind-requires-clause-ready : goal.try_take_behind-requires-clause-ready
try_take_behind-requires-clause-ready g c =
    let at = goal.at.try_take_behind-requires-clause-ready g c in let read = path_read g at.In-Ok-try_path in let w = read.0 in let long = read.1 in let may = read.2 in
    let rows = rows_taken g at.In-Ok-try_take_rows may in let done = long.1 in
    let sizes : Sizes = c.args.mtr.now.latches.now.sizes in
    let r : PassState = c.try_path.new.mtr.pass.now in let s : PassState = c.try_take_rows.new.mtr.pass.now in let path = c.in-Ok-try_path.found.path in let last = c.in-Ok-try_take_rows.last in
    let link = behind_link sizes g.L.Trees.ROOTS (g.L.Law.lawful sizes.pages) (by_place g.L.Law.opening sizes.pages) c.facts_of_trees.ensures.shapes c.args.sought.root c.requires.sought.some c.requires.sought.there c.args.sought.key c.requires.sought.is_key path [] (length path - 1) last r s may rows done in
    let next = (pages_after (by_place g.L.Law.opening sizes.pages) s.view.memory.seen last).next in let held = rows_held sizes g.L.Trees.ROOTS (g.L.Law.lawful sizes.pages) (by_place g.L.Law.opening sizes.pages) c.facts_of_trees.ensures.shapes c.args.sought.root c.requires.sought.some c.requires.sought.there c.args.sought.key c.requires.sought.is_key path [] (length path - 1) last r s may rows in
    let will = behind_will sizes g.L.Trees.ROOTS (g.L.Law.lawful sizes.pages) (by_place g.L.Law.opening sizes.pages) c.facts_of_trees.ensures.shapes c.args.sought.root c.requires.sought.some c.requires.sought.there c.args.sought.key c.requires.sought.is_key path [] (length path - 1) last r s may rows done in
    let third = ap (λ m. m.now.sizes) (c.try_take_rows.ensures.still.latches ∙ c.try_path.ensures.still.latches ∙ c.try_claim.ensures.still.latches) in
    subst (λ (k : Sizes). (image : List ℕ) → changed_of last s.work ≡ Some image → MayTakeFirst k (g.L.Law.lawful k.pages) (by_place g.L.Law.opening k.pages) (beside (next_of image)) s) (sym third)
    (λ image there.
    let equal : link.image ≡ image = let a = sym link.there ∙ there in cc in
    let is : next ≡ next_of image = sym link.right_is ∙ ap next_of equal in
    (held, [], subst (λ n. WillTake sizes (g.L.Law.lawful sizes.pages) (by_place g.L.Law.opening sizes.pages) held (beside n ++ []) s) is will))

pub returns-in-Ok-try_take_behind-clause-claimed : goal.returns-in-Ok-try_take_behind-clause-claimed
returns-in-Ok-try_take_behind-clause-claimed g c =
    let at = goal.at.returns-in-Ok-try_take_behind-clause-claimed g c in let read = path_read g at.In-Ok-try_path in let w = read.0 in let long = read.1 in let may = read.2 in
    let rows = rows_taken g at.In-Ok-try_take_rows may in let done = long.1 in
    let more = behind_taken g at.In-Ok-try_take_behind may rows done in
    let sizes : Sizes = c.args.mtr.now.latches.now.sizes in
    let p : PassState = c.args.mtr.now.pass.now in
    let q : PassState = c.try_claim.new.mtr.pass.now in let leaf = c.in-Ok-try_path.found.leaf in let left = c.in-Ok-try_path.found.left in
    let r : PassState = c.try_path.new.mtr.pass.now in let s : PassState = c.try_take_rows.new.mtr.pass.now in let path = c.in-Ok-try_path.found.path in let last = c.in-Ok-try_take_rows.last in
    let next = (pages_after (by_place g.L.Law.opening sizes.pages) s.view.memory.seen last).next in let held = rows_held sizes g.L.Trees.ROOTS (g.L.Law.lawful sizes.pages) (by_place g.L.Law.opening sizes.pages) c.facts_of_trees.ensures.shapes c.args.sought.root c.requires.sought.some c.requires.sought.there c.args.sought.key c.requires.sought.is_key path [] (length path - 1) last r s may rows in
    let t : PassState = c.try_take_behind.new.mtr.pass.now in
    let idle = none_granted c.args.mtr.now.latches.now p c.requires.may.mtr c.requires.may.memo in
    let all = all_taken sizes g.L.Trees.ROOTS (g.L.Law.lawful sizes.pages) (by_place g.L.Law.opening sizes.pages) c.facts_of_trees.ensures.shapes c.args.sought.root c.requires.sought.some c.requires.sought.there c.args.sought.key c.requires.sought.is_key path [] (length path - 1) last r s may rows done t more in (
      held ++ beside next,
      claimed_with sizes g.L.Trees.ROOTS (g.L.Law.lawful sizes.pages) (by_place g.L.Law.opening sizes.pages) c.facts_of_trees.ensures.shapes c.args.sought.root c.requires.sought.some c.requires.sought.there c.args.sought.key c.requires.sought.is_key path leaf left p q r s t idle c.requires.may.none c.in-Ok.ensures.latched c.in-Ok.ensures.claimed w (held ++ beside next) t all,
      all_siblings sizes g.L.Trees.ROOTS (g.L.Law.lawful sizes.pages) (by_place g.L.Law.opening sizes.pages) c.facts_of_trees.ensures.shapes c.args.sought.root c.requires.sought.some c.requires.sought.there c.args.sought.key c.requires.sought.is_key path [] (length path - 1) last r s may rows done t more,
    )

pub returns-in-Ok-try_take_behind-clause-alone : goal.returns-in-Ok-try_take_behind-clause-alone
returns-in-Ok-try_take_behind-clause-alone g c =
    let at = goal.at.returns-in-Ok-try_take_behind-clause-alone g c in let read = path_read g at.In-Ok-try_path in let w = read.0 in let long = read.1 in let may = read.2 in
    let rows = rows_taken g at.In-Ok-try_take_rows may in let done = long.1 in
    let more = behind_taken g at.In-Ok-try_take_behind may rows done in
    more.holds.claimed

pub returns-in-Ok-try_take_behind-clause-few : goal.returns-in-Ok-try_take_behind-clause-few
returns-in-Ok-try_take_behind-clause-few g c =
    let at = goal.at.returns-in-Ok-try_take_behind-clause-few g c in let read = path_read g at.In-Ok-try_path in let w = read.0 in let long = read.1 in let may = read.2 in
    let rows = rows_taken g at.In-Ok-try_take_rows may in let done = long.1 in
    let more = behind_taken g at.In-Ok-try_take_behind may rows done in
    let sizes : Sizes = c.args.mtr.now.latches.now.sizes in
    let r : PassState = c.try_path.new.mtr.pass.now in let s : PassState = c.try_take_rows.new.mtr.pass.now in let path = c.in-Ok-try_path.found.path in let last = c.in-Ok-try_take_rows.last in
    let gs = c.in-Ok.ensures.latched.grants in let a = ap (λ (g : Grants). g.s) gs in let b = ap (λ (g : Grants). g.sx) gs in let d = ap (λ (g : Grants). g.x) gs in
    let e = w.s in let f = w.sx in let h = w.x in
    let l = long.0 in let own = few-own sizes g.L.Trees.ROOTS (g.L.Law.lawful sizes.pages) (by_place g.L.Law.opening sizes.pages) c.facts_of_trees.ensures.shapes c.args.sought.root c.requires.sought.some c.requires.sought.there c.args.sought.key c.requires.sought.is_key path [] (length path - 1) last r s may rows in
    let n1 = rows.taken.s in let n2 = rows.taken.sx in let n3 = rows.taken.x in let m1 = more.s in let m2 = more.sx in let m3 = more.x in let k = beside_few (pages_after (by_place g.L.Law.opening sizes.pages) s.view.memory.seen last).next in
    let one = c.in-Ok.ensures.few.most in let two = c.in-Ok-try_path.ensures.few.most in let three = c.in-Ok-try_take_rows.ensures.few.most in let four = c.in-Ok-try_take_behind.ensures.few.most in omega arith

pub returns-in-Ok-try_take_behind-clause-twice : goal.returns-in-Ok-try_take_behind-clause-twice
returns-in-Ok-try_take_behind-clause-twice g c =
    let p : PassState = c.args.mtr.now.pass.now in let q : PassState = c.try_claim.new.mtr.pass.now in let r : PassState = c.try_path.new.mtr.pass.now in let s : PassState = c.try_take_rows.new.mtr.pass.now in let t : PassState = c.try_take_behind.new.mtr.pass.now in
    few_both 0 p.view q.view t.view c.in-Ok.ensures.few (few_both 0 q.view r.view t.view c.in-Ok-try_path.ensures.few (few_both 0 r.view s.view t.view c.in-Ok-try_take_rows.ensures.few c.in-Ok-try_take_behind.ensures.few))

pub returns-in-Err-try_take_behind-clause-refusal : goal.returns-in-Err-try_take_behind-clause-refusal
returns-in-Err-try_take_behind-clause-refusal g c =
    let at = goal.at.returns-in-Err-try_take_behind-clause-refusal g c in let read = path_read g at.In-Ok-try_path in let w = read.0 in let long = read.1 in let may = read.2 in
    let rows = rows_taken g at.In-Ok-try_take_rows may in let done = long.1 in
    behind_refusal g at.In-Err-try_take_behind w may rows done

pub returns-in-Err-try_take_behind-clause-few : goal.returns-in-Err-try_take_behind-clause-few
returns-in-Err-try_take_behind-clause-few g c =
    let at = goal.at.returns-in-Err-try_take_behind-clause-few g c in let read = path_read g at.In-Ok-try_path in let w = read.0 in let long = read.1 in let may = read.2 in
    let rows = rows_taken g at.In-Ok-try_take_rows may in let done = long.1 in
    let v = behind_refusal g at.In-Err-try_take_behind w may rows done in
    let few = v.few.most in let tried = looks_two c.in-Err-try_take_behind.fault in let a = v.grants.s in let b = v.grants.sx in let d = v.grants.x in omega arith
