-- The claim, the path, and the pages, or the latch that was refused.
use Rattle.std.proofs.Common.{◌≡◌, ◌∙◌, ◌∷◌, ◌++◌, List, [], ℕ, ap, sym, subst, arith, length, length-append}
use Rattle.ib_layout.specs.Geometry.{Sizes}
use Rattle.ib_logrec.specs.Log.{by_place}
use Rattle.ib_rule.specs.declared.looks.Grants.{Grants}
use Rattle.ib_rule.specs.Pass.{PassState}
use Rattle.ib_rule.specs.Under.{under}
use Rattle.ib_tree.specs.Logs.{pages_after}
use Rattle.ib_cursor.specs.Claims.{beside}
use Rattle.ib_cursor.specs.Refusals.{IsHeldByInsert, IsInsertRefusal, IsPageRefused, IsPathRefusal}
use Rattle.ib_cursor.specs.Shapes.{HasIndex, HasReadPath}
use Rattle.ib_cursor.specs.Takings.{WillTake, HasTakenMore, MayTakeLeaves}
use Rattle.ib_cursor.proofs.EndLaws.{start_index, will_nodes, ready, has_claimed, with_leaves}
use Rattle.ib_cursor.proofs.GrantLaws.{none_granted}
use Rattle.ib_cursor.proofs.RefusalLaws.{few_both, looks_two}
use Rattle.ib_cursor.proofs.TakeLaws.{beside_few}
use Rattle.ib_cursor.proofs.TakeRefusalLaws.{claim_refused, insert_leaf, insert_node, path_refused}
use Rattle.ib_cursor.proofs.nowait_claim.take_to_insert.Given.{Over}
use Rattle.ib_cursor.proofs.nowait_claim.take_to_insert.Goals.{In-Err-try_take_leaves, In-Ok-try_take_leaves, In-Ok-try_take_nodes}
use Rattle.ib_cursor.proofs.nowait_claim.take_to_insert.Goals as goal

-- the path is read, and its nodes are taken
taken : (g : Over) (c : In-Ok-try_take_nodes g) → (w : under g.L.Law c.args.mtr.now.latches.now HasReadPath c.args.sought.root c.args.sought.key c.in-Ok-try_path.found.path c.in-Ok-try_path.found.leaf c.in-Ok-try_path.found.left c.try_claim.new.mtr.pass.now c.try_path.new.mtr.pass.now) × under g.L.Law c.args.mtr.now.latches.now HasTakenMore [] w.front c.try_path.new.mtr.pass.now c.try_take_nodes.new.mtr.pass.now
taken g c =
    let sizes : Sizes = c.args.mtr.now.latches.now.sizes in
    let p : PassState = c.args.mtr.now.pass.now in let q : PassState = c.try_claim.new.mtr.pass.now in let r : PassState = c.try_path.new.mtr.pass.now in let s : PassState = c.try_take_nodes.new.mtr.pass.now in
    let path = c.in-Ok-try_path.found.path in let leaf = c.in-Ok-try_path.found.leaf in let left = c.in-Ok-try_path.found.left in
    let idle = none_granted c.args.mtr.now.latches.now p c.requires.may.mtr c.requires.may.memo in
    let w = subst (λ (s : Sizes). HasReadPath s (g.L.Law.lawful s.pages) (by_place g.L.Law.opening s.pages) c.args.sought.root c.args.sought.key path leaf left q r) (ap (λ m. m.now.sizes) c.try_claim.ensures.still.latches) c.in-Ok-try_path.ensures.on_path in
    let will = will_nodes sizes g.L.Trees.ROOTS (g.L.Law.lawful sizes.pages) (by_place g.L.Law.opening sizes.pages) c.facts_of_trees.ensures.shapes c.args.sought.root c.requires.sought.some c.requires.sought.there c.args.sought.key c.requires.sought.is_key path leaf left p q r r r idle c.requires.may.none c.in-Ok.ensures.latched c.in-Ok.ensures.claimed w in
    let nodes = subst (λ (k : Sizes). (held front more : List ℕ) (leaf : ℕ) → path ≡ front ++ leaf ∷ [] → WillTake k (g.L.Law.lawful k.pages) (by_place g.L.Law.opening k.pages) held (front ++ more) r → HasTakenMore k (g.L.Law.lawful k.pages) (by_place g.L.Law.opening k.pages) held front r s)
    (ap (λ m. m.now.sizes) (c.try_path.ensures.still.latches ∙ c.try_claim.ensures.still.latches)) c.in-Ok-try_take_nodes.ensures.taken [] w.front (beside left ++ leaf ∷ beside (pages_after (by_place g.L.Law.opening sizes.pages) r.view.memory.seen leaf).next) leaf w.ends will in
    (w, nodes)

-- .. and so are the leaves
leaves : (g : Over) (c : In-Ok-try_take_leaves g) (w : under g.L.Law c.args.mtr.now.latches.now HasReadPath c.args.sought.root c.args.sought.key c.in-Ok-try_path.found.path c.in-Ok-try_path.found.leaf c.in-Ok-try_path.found.left c.try_claim.new.mtr.pass.now c.try_path.new.mtr.pass.now) → under g.L.Law c.args.mtr.now.latches.now HasTakenMore [] w.front c.try_path.new.mtr.pass.now c.try_take_nodes.new.mtr.pass.now
    → under g.L.Law c.args.mtr.now.latches.now HasTakenMore w.front (beside c.in-Ok-try_path.found.left ++ c.in-Ok-try_path.found.leaf ∷ beside (pages_after (by_place g.L.Law.opening c.args.mtr.now.latches.now.sizes.pages) c.try_path.new.mtr.pass.now.view.memory.seen c.in-Ok-try_path.found.leaf).next) c.try_take_nodes.new.mtr.pass.now c.try_take_leaves.new.mtr.pass.now
leaves g c w nodes =
    let sizes : Sizes = c.args.mtr.now.latches.now.sizes in
    let p : PassState = c.args.mtr.now.pass.now in let q : PassState = c.try_claim.new.mtr.pass.now in let r : PassState = c.try_path.new.mtr.pass.now in let s : PassState = c.try_take_nodes.new.mtr.pass.now in
    let path = c.in-Ok-try_path.found.path in let leaf = c.in-Ok-try_path.found.leaf in let left = c.in-Ok-try_path.found.left in
    let idle = none_granted c.args.mtr.now.latches.now p c.requires.may.mtr c.requires.may.memo in
    let t : PassState = c.try_take_leaves.new.mtr.pass.now in
    let may = ready sizes g.L.Trees.ROOTS (g.L.Law.lawful sizes.pages) (by_place g.L.Law.opening sizes.pages) c.facts_of_trees.ensures.shapes c.args.sought.root c.requires.sought.some c.requires.sought.there c.args.sought.key c.requires.sought.is_key path leaf left p q r s s idle c.requires.may.none c.in-Ok.ensures.latched c.in-Ok.ensures.claimed w nodes in
    subst (λ (k : Sizes). (r : MayTakeLeaves k (g.L.Law.lawful k.pages) (by_place g.L.Law.opening k.pages) leaf left s) → HasTakenMore k (g.L.Law.lawful k.pages) (by_place g.L.Law.opening k.pages) r.held (beside left ++ leaf ∷ beside r.right) s t)
    (ap (λ m. m.now.sizes) (c.try_take_nodes.ensures.still.latches ∙ c.try_path.ensures.still.latches ∙ c.try_claim.ensures.still.latches)) c.in-Ok-try_take_leaves.ensures.taken may

-- .. or one of them was refused
refused : (g : Over) (c : In-Err-try_take_leaves g) (w : under g.L.Law c.args.mtr.now.latches.now HasReadPath c.args.sought.root c.args.sought.key c.in-Ok-try_path.found.path c.in-Ok-try_path.found.leaf c.in-Ok-try_path.found.left c.try_claim.new.mtr.pass.now c.try_path.new.mtr.pass.now) → under g.L.Law c.args.mtr.now.latches.now HasTakenMore [] w.front c.try_path.new.mtr.pass.now c.try_take_nodes.new.mtr.pass.now
    → under g.L.Law c.args.mtr.now.latches.now IsInsertRefusal c.args.sought.root c.args.sought.key c.in-Err-try_take_leaves.fault c.args.mtr.now.pass.now c.try_take_leaves.new.mtr.pass.now
refused g c w nodes =
    let sizes : Sizes = c.args.mtr.now.latches.now.sizes in
    let p : PassState = c.args.mtr.now.pass.now in let q : PassState = c.try_claim.new.mtr.pass.now in let r : PassState = c.try_path.new.mtr.pass.now in let s : PassState = c.try_take_nodes.new.mtr.pass.now in
    let path = c.in-Ok-try_path.found.path in let leaf = c.in-Ok-try_path.found.leaf in let left = c.in-Ok-try_path.found.left in
    let idle = none_granted c.args.mtr.now.latches.now p c.requires.may.mtr c.requires.may.memo in
    let t : PassState = c.try_take_leaves.new.mtr.pass.now in let f = c.in-Err-try_take_leaves.fault in
    let may = ready sizes g.L.Trees.ROOTS (g.L.Law.lawful sizes.pages) (by_place g.L.Law.opening sizes.pages) c.facts_of_trees.ensures.shapes c.args.sought.root c.requires.sought.some c.requires.sought.there c.args.sought.key c.requires.sought.is_key path leaf left p q r s s idle c.requires.may.none c.in-Ok.ensures.latched c.in-Ok.ensures.claimed w nodes in
    let v = subst (λ (k : Sizes). (r : MayTakeLeaves k (g.L.Law.lawful k.pages) (by_place g.L.Law.opening k.pages) leaf left s) → IsPageRefused k (g.L.Law.lawful k.pages) (beside left ++ leaf ∷ beside r.right) f s t)
    (ap (λ m. m.now.sizes) (c.try_take_nodes.ensures.still.latches ∙ c.try_path.ensures.still.latches ∙ c.try_claim.ensures.still.latches)) c.in-Err-try_take_leaves.ensures.refused may in
    insert_leaf sizes g.L.Trees.ROOTS (g.L.Law.lawful sizes.pages) (by_place g.L.Law.opening sizes.pages) c.facts_of_trees.ensures.shapes c.args.sought.root c.requires.sought.some c.requires.sought.there c.args.sought.key c.requires.sought.is_key f p q c.in-Ok.ensures.latched c.in-Ok.ensures.few path leaf left r w c.in-Ok-try_path.ensures.few s t nodes c.in-Ok-try_take_nodes.ensures.few v

pub returns-in-Err-clause-refusal : goal.returns-in-Err-clause-refusal
returns-in-Err-clause-refusal g c =
    let sizes : Sizes = c.args.mtr.now.latches.now.sizes in
    let p : PassState = c.args.mtr.now.pass.now in let q : PassState = c.try_claim.new.mtr.pass.now in
    claim_refused sizes (g.L.Law.lawful sizes.pages) (by_place g.L.Law.opening sizes.pages) c.args.sought.root c.args.sought.key (IsHeldByInsert c.args.sought.root c.args.sought.key) 10 c.in-Err.fault p q c.in-Err.ensures.vain

pub returns-in-Err-clause-few : goal.returns-in-Err-clause-few
returns-in-Err-clause-few g c =
    let v = c.in-Err.ensures.vain in let few = v.few.most in let tried = looks_two c.in-Err.fault in let a = ap (λ (g : Grants). g.s) v.grants in let b = ap (λ (g : Grants). g.sx) v.grants in let d = ap (λ (g : Grants). g.x) v.grants in omega arith

pub try_path-requires-clause-index : goal.try_path-requires-clause-index
try_path-requires-clause-index g c =
    let sizes : Sizes = c.args.mtr.now.latches.now.sizes in
    let p : PassState = c.args.mtr.now.pass.now in let q : PassState = c.try_claim.new.mtr.pass.now in
    subst (λ (s : Sizes). HasIndex s (g.L.Law.lawful s.pages) q) (sym (ap (λ m. m.now.sizes) c.try_claim.ensures.still.latches))
    (start_index sizes g.L.Trees.ROOTS (g.L.Law.lawful sizes.pages) (by_place g.L.Law.opening sizes.pages) c.facts_of_trees.ensures.shapes c.args.sought.root c.requires.sought.some c.requires.sought.there c.args.sought.key c.requires.sought.is_key [] 0 0 p q q q q (none_granted c.args.mtr.now.latches.now p c.requires.may.mtr c.requires.may.memo) c.requires.may.none c.in-Ok.ensures.latched c.in-Ok.ensures.claimed)

pub try_path-requires-clause-room : goal.try_path-requires-clause-room
try_path-requires-clause-room g c =
    let gs = c.in-Ok.ensures.latched.grants in let a = ap (λ (g : Grants). g.s) gs in let b = ap (λ (g : Grants). g.sx) gs in let d = ap (λ (g : Grants). g.x) gs in
    let room = c.requires.may.room in omega arith

pub returns-in-Err-try_path-clause-refusal : goal.returns-in-Err-try_path-clause-refusal
returns-in-Err-try_path-clause-refusal g c =
    let sizes : Sizes = c.args.mtr.now.latches.now.sizes in
    let p : PassState = c.args.mtr.now.pass.now in let q : PassState = c.try_claim.new.mtr.pass.now in
    let r : PassState = c.try_path.new.mtr.pass.now in let f = c.in-Err-try_path.fault in
    let v = subst (λ (s : Sizes). IsPathRefusal s (g.L.Law.lawful s.pages) (by_place g.L.Law.opening s.pages) c.args.sought.root c.args.sought.key f q r) (ap (λ m. m.now.sizes) c.try_claim.ensures.still.latches) c.in-Err-try_path.ensures.refusal in
    path_refused sizes (g.L.Law.lawful sizes.pages) (by_place g.L.Law.opening sizes.pages) c.args.sought.root c.args.sought.key (IsHeldByInsert c.args.sought.root c.args.sought.key) 10 f p q c.in-Ok.ensures.latched c.in-Ok.ensures.few r v

pub returns-in-Err-try_path-clause-few : goal.returns-in-Err-try_path-clause-few
returns-in-Err-try_path-clause-few g c =
    let gs = c.in-Ok.ensures.latched.grants in let a = ap (λ (g : Grants). g.s) gs in let b = ap (λ (g : Grants). g.sx) gs in let d = ap (λ (g : Grants). g.x) gs in
    let one = c.in-Ok.ensures.few.most in let v = c.in-Err-try_path.ensures.refusal in let two = v.few.most in let tried = looks_two c.in-Err-try_path.fault in let e = v.grants.s in let h = v.grants.sx in let i = v.grants.x in omega arith

pub try_take_nodes-requires-clause-room : goal.try_take_nodes-requires-clause-room
try_take_nodes-requires-clause-room g c =
    let gs = c.in-Ok.ensures.latched.grants in let a = ap (λ (g : Grants). g.s) gs in let b = ap (λ (g : Grants). g.sx) gs in let d = ap (λ (g : Grants). g.x) gs in
    let room = c.requires.may.room in
    let w = c.in-Ok-try_path.ensures.on_path in let e = w.s in let f = w.sx in let h = w.x in let i = w.short in let j = ap length w.ends in let k = length-append w.front (c.in-Ok-try_path.found.leaf ∷ []) in omega arith

pub try_take_nodes-requires-clause-ready : goal.try_take_nodes-requires-clause-ready
try_take_nodes-requires-clause-ready g c =
    let sizes : Sizes = c.args.mtr.now.latches.now.sizes in
    let p : PassState = c.args.mtr.now.pass.now in let q : PassState = c.try_claim.new.mtr.pass.now in
    let r : PassState = c.try_path.new.mtr.pass.now in let found = c.in-Ok-try_path.found in
    let path = found.path in let leaf = found.leaf in let left = found.left in
    let idle = none_granted c.args.mtr.now.latches.now p c.requires.may.mtr c.requires.may.memo in
    let w = subst (λ (s : Sizes). HasReadPath s (g.L.Law.lawful s.pages) (by_place g.L.Law.opening s.pages) c.args.sought.root c.args.sought.key path leaf left q r) (ap (λ m. m.now.sizes) c.try_claim.ensures.still.latches) c.in-Ok-try_path.ensures.on_path in
    let will = will_nodes sizes g.L.Trees.ROOTS (g.L.Law.lawful sizes.pages) (by_place g.L.Law.opening sizes.pages) c.facts_of_trees.ensures.shapes c.args.sought.root c.requires.sought.some c.requires.sought.there c.args.sought.key c.requires.sought.is_key path leaf left p q r r r idle c.requires.may.none c.in-Ok.ensures.latched c.in-Ok.ensures.claimed w in
    subst (λ (k : Sizes). (held : List ℕ) × (front : List ℕ) × (more : List ℕ) × (leaf : ℕ) × (path ≡ front ++ leaf ∷ []) × WillTake k (g.L.Law.lawful k.pages) (by_place g.L.Law.opening k.pages) held (front ++ more) r)
    (sym (ap (λ m. m.now.sizes) (c.try_path.ensures.still.latches ∙ c.try_claim.ensures.still.latches))) ([], w.front, beside left ++ leaf ∷ beside (pages_after (by_place g.L.Law.opening sizes.pages) r.view.memory.seen leaf).next, leaf, w.ends, will)

pub returns-in-Err-try_take_nodes-clause-refusal : goal.returns-in-Err-try_take_nodes-clause-refusal
returns-in-Err-try_take_nodes-clause-refusal g c =
    let sizes : Sizes = c.args.mtr.now.latches.now.sizes in
    let p : PassState = c.args.mtr.now.pass.now in let q : PassState = c.try_claim.new.mtr.pass.now in
    let r : PassState = c.try_path.new.mtr.pass.now in let found = c.in-Ok-try_path.found in
    let path = found.path in let leaf = found.leaf in let left = found.left in
    let idle = none_granted c.args.mtr.now.latches.now p c.requires.may.mtr c.requires.may.memo in
    let w = subst (λ (s : Sizes). HasReadPath s (g.L.Law.lawful s.pages) (by_place g.L.Law.opening s.pages) c.args.sought.root c.args.sought.key path leaf left q r) (ap (λ m. m.now.sizes) c.try_claim.ensures.still.latches) c.in-Ok-try_path.ensures.on_path in
    let s : PassState = c.try_take_nodes.new.mtr.pass.now in let f = c.in-Err-try_take_nodes.fault in
    let v = subst (λ (k : Sizes). IsPageRefused k (g.L.Law.lawful k.pages) path f r s) (ap (λ m. m.now.sizes) (c.try_path.ensures.still.latches ∙ c.try_claim.ensures.still.latches)) c.in-Err-try_take_nodes.ensures.refused in
    insert_node sizes g.L.Trees.ROOTS (g.L.Law.lawful sizes.pages) (by_place g.L.Law.opening sizes.pages) c.facts_of_trees.ensures.shapes c.args.sought.root c.requires.sought.some c.requires.sought.there c.args.sought.key c.requires.sought.is_key f p q c.in-Ok.ensures.latched c.in-Ok.ensures.few path leaf left r w c.in-Ok-try_path.ensures.few s v

pub returns-in-Err-try_take_nodes-clause-few : goal.returns-in-Err-try_take_nodes-clause-few
returns-in-Err-try_take_nodes-clause-few g c =
    let gs = c.in-Ok.ensures.latched.grants in let a = ap (λ (g : Grants). g.s) gs in let b = ap (λ (g : Grants). g.sx) gs in let d = ap (λ (g : Grants). g.x) gs in
    let w = c.in-Ok-try_path.ensures.on_path in let e = w.s in let f = w.sx in let h = w.x in let i = w.short in let j = ap length w.ends in let k = length-append w.front (c.in-Ok-try_path.found.leaf ∷ []) in
    let v = c.in-Err-try_take_nodes.ensures.refused.refusal in let e2 = v.grants.s in let h2 = v.grants.sx in let i2 = v.grants.x in
    let one = c.in-Ok.ensures.few.most in let two = c.in-Ok-try_path.ensures.few.most in let three = v.few.most in let tried = looks_two c.in-Err-try_take_nodes.fault in omega arith

pub try_take_leaves-requires-clause-room : goal.try_take_leaves-requires-clause-room
try_take_leaves-requires-clause-room g c =
    let so = taken g (goal.at.try_take_leaves-requires-clause-room g c).In-Ok-try_take_nodes in let w = so.0 in let nodes = so.1 in
    let leaf = c.in-Ok-try_path.found.leaf in
    let gs = c.in-Ok.ensures.latched.grants in let a = ap (λ (g : Grants). g.s) gs in let b = ap (λ (g : Grants). g.sx) gs in let d = ap (λ (g : Grants). g.x) gs in
    let e = w.s in let f = w.sx in let h = w.x in let i = w.short in let j = ap length w.ends in let k = length-append w.front (leaf ∷ []) in
    let room = c.requires.may.room in let n1 = nodes.s in let n2 = nodes.sx in let n3 = nodes.x in omega arith

pub try_take_leaves-requires-clause-ready : goal.try_take_leaves-requires-clause-ready
try_take_leaves-requires-clause-ready g c =
    let sizes : Sizes = c.args.mtr.now.latches.now.sizes in
    let p : PassState = c.args.mtr.now.pass.now in let q : PassState = c.try_claim.new.mtr.pass.now in let r : PassState = c.try_path.new.mtr.pass.now in let s : PassState = c.try_take_nodes.new.mtr.pass.now in
    let path = c.in-Ok-try_path.found.path in let leaf = c.in-Ok-try_path.found.leaf in let left = c.in-Ok-try_path.found.left in
    let idle = none_granted c.args.mtr.now.latches.now p c.requires.may.mtr c.requires.may.memo in
    let so = taken g (goal.at.try_take_leaves-requires-clause-ready g c).In-Ok-try_take_nodes in let w = so.0 in let nodes = so.1 in
    subst (λ (k : Sizes). MayTakeLeaves k (g.L.Law.lawful k.pages) (by_place g.L.Law.opening k.pages) leaf left s) (sym (ap (λ m. m.now.sizes) (c.try_take_nodes.ensures.still.latches ∙ c.try_path.ensures.still.latches ∙ c.try_claim.ensures.still.latches)))
    (ready sizes g.L.Trees.ROOTS (g.L.Law.lawful sizes.pages) (by_place g.L.Law.opening sizes.pages) c.facts_of_trees.ensures.shapes c.args.sought.root c.requires.sought.some c.requires.sought.there c.args.sought.key c.requires.sought.is_key path leaf left p q r s s idle c.requires.may.none c.in-Ok.ensures.latched c.in-Ok.ensures.claimed w nodes)

pub returns-in-Ok-try_take_leaves-clause-claimed : goal.returns-in-Ok-try_take_leaves-clause-claimed
returns-in-Ok-try_take_leaves-clause-claimed g c =
    let sizes : Sizes = c.args.mtr.now.latches.now.sizes in
    let p : PassState = c.args.mtr.now.pass.now in let q : PassState = c.try_claim.new.mtr.pass.now in let r : PassState = c.try_path.new.mtr.pass.now in let s : PassState = c.try_take_nodes.new.mtr.pass.now in
    let path = c.in-Ok-try_path.found.path in let leaf = c.in-Ok-try_path.found.leaf in let left = c.in-Ok-try_path.found.left in
    let idle = none_granted c.args.mtr.now.latches.now p c.requires.may.mtr c.requires.may.memo in
    let so = taken g (goal.at.returns-in-Ok-try_take_leaves-clause-claimed g c).In-Ok-try_take_nodes in let w = so.0 in let nodes = so.1 in
    let last = leaves g (goal.at.returns-in-Ok-try_take_leaves-clause-claimed g c).In-Ok-try_take_leaves w nodes in let t : PassState = c.try_take_leaves.new.mtr.pass.now in (
      w.front ++ (beside left ++ leaf ∷ beside (pages_after (by_place g.L.Law.opening sizes.pages) r.view.memory.seen leaf).next),
      has_claimed sizes g.L.Trees.ROOTS (g.L.Law.lawful sizes.pages) (by_place g.L.Law.opening sizes.pages) c.facts_of_trees.ensures.shapes c.args.sought.root c.requires.sought.some c.requires.sought.there c.args.sought.key c.requires.sought.is_key path leaf left p q r s t idle c.requires.may.none c.in-Ok.ensures.latched c.in-Ok.ensures.claimed w nodes last,
      with_leaves sizes g.L.Trees.ROOTS (g.L.Law.lawful sizes.pages) (by_place g.L.Law.opening sizes.pages) c.facts_of_trees.ensures.shapes c.args.sought.root c.requires.sought.some c.requires.sought.there c.args.sought.key c.requires.sought.is_key path leaf left p q r s t idle c.requires.may.none c.in-Ok.ensures.latched c.in-Ok.ensures.claimed w nodes last,
    )

pub returns-in-Ok-try_take_leaves-clause-alone : goal.returns-in-Ok-try_take_leaves-clause-alone
returns-in-Ok-try_take_leaves-clause-alone g c =
    let so = taken g (goal.at.returns-in-Ok-try_take_leaves-clause-alone g c).In-Ok-try_take_nodes in let w = so.0 in let nodes = so.1 in
    let last = leaves g (goal.at.returns-in-Ok-try_take_leaves-clause-alone g c).In-Ok-try_take_leaves w nodes in
    last.holds.claimed

pub returns-in-Ok-try_take_leaves-clause-few : goal.returns-in-Ok-try_take_leaves-clause-few
returns-in-Ok-try_take_leaves-clause-few g c =
    let sizes : Sizes = c.args.mtr.now.latches.now.sizes in
    let r : PassState = c.try_path.new.mtr.pass.now in let leaf = c.in-Ok-try_path.found.leaf in let left = c.in-Ok-try_path.found.left in
    let so = taken g (goal.at.returns-in-Ok-try_take_leaves-clause-few g c).In-Ok-try_take_nodes in let w = so.0 in let nodes = so.1 in
    let last = leaves g (goal.at.returns-in-Ok-try_take_leaves-clause-few g c).In-Ok-try_take_leaves w nodes in
    let gs = c.in-Ok.ensures.latched.grants in let a = ap (λ (g : Grants). g.s) gs in let b = ap (λ (g : Grants). g.sx) gs in let d = ap (λ (g : Grants). g.x) gs in
    let e = w.s in let f = w.sx in let h = w.x in let i = w.short in let j = ap length w.ends in let k = length-append w.front (leaf ∷ []) in
    let n1 = nodes.s in let n2 = nodes.sx in let n3 = nodes.x in let l1 = last.s in let l2 = last.sx in let l3 = last.x in
    let b1 = beside_few left in let b2 = beside_few (pages_after (by_place g.L.Law.opening sizes.pages) r.view.memory.seen leaf).next in
    let b3 = length-append (beside left) (leaf ∷ beside (pages_after (by_place g.L.Law.opening sizes.pages) r.view.memory.seen leaf).next) in
    let one = c.in-Ok.ensures.few.most in let two = c.in-Ok-try_path.ensures.few.most in let three = c.in-Ok-try_take_nodes.ensures.few.most in let four = c.in-Ok-try_take_leaves.ensures.few.most in omega arith

pub returns-in-Ok-try_take_leaves-clause-twice : goal.returns-in-Ok-try_take_leaves-clause-twice
returns-in-Ok-try_take_leaves-clause-twice g c =
    let p : PassState = c.args.mtr.now.pass.now in let q : PassState = c.try_claim.new.mtr.pass.now in let r : PassState = c.try_path.new.mtr.pass.now in let s : PassState = c.try_take_nodes.new.mtr.pass.now in let t : PassState = c.try_take_leaves.new.mtr.pass.now in
    few_both 0 p.view q.view t.view c.in-Ok.ensures.few (few_both 0 q.view r.view t.view c.in-Ok-try_path.ensures.few (few_both 0 r.view s.view t.view c.in-Ok-try_take_nodes.ensures.few c.in-Ok-try_take_leaves.ensures.few))

pub returns-in-Err-try_take_leaves-clause-refusal : goal.returns-in-Err-try_take_leaves-clause-refusal
returns-in-Err-try_take_leaves-clause-refusal g c =
    let so = taken g (goal.at.returns-in-Err-try_take_leaves-clause-refusal g c).In-Ok-try_take_nodes in let w = so.0 in let nodes = so.1 in
    refused g (goal.at.returns-in-Err-try_take_leaves-clause-refusal g c).In-Err-try_take_leaves w nodes

pub returns-in-Err-try_take_leaves-clause-few : goal.returns-in-Err-try_take_leaves-clause-few
returns-in-Err-try_take_leaves-clause-few g c =
    let so = taken g (goal.at.returns-in-Err-try_take_leaves-clause-few g c).In-Ok-try_take_nodes in let w = so.0 in let nodes = so.1 in
    let v = refused g (goal.at.returns-in-Err-try_take_leaves-clause-few g c).In-Err-try_take_leaves w nodes in
    let few = v.few.most in let tried = looks_two c.in-Err-try_take_leaves.fault in let a = v.grants.s in let b = v.grants.sx in let d = v.grants.x in omega arith
