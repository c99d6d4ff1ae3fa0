-- The claim, the path, and the pages.
use Rattle.std.proofs.Common.{◌≡◌, ◌∙◌, ◌∷◌, ◌++◌, List, [], ℕ, ap, sym, subst, arith, length, length-append}
use Rattle.ib_map.proofs.KeyLaws.{rank-lt_end}
use Rattle.ib_layout.specs.Geometry.{Sizes}
use Rattle.ib_logrec.specs.Log.{by_place}
use Rattle.ib_rule.specs.declared.looks.Grants.{Grants}
use Rattle.ib_rule.specs.Pass.{PassState}
use Rattle.ib_rule.specs.Under.{under}
use Rattle.ib_tree.specs.Logs.{pages_after}
use Rattle.ib_cursor.specs.Claims.{beside}
use Rattle.ib_cursor.specs.Shapes.{HasIndex, HasReadPath}
use Rattle.ib_cursor.specs.Takings.{WillTake, HasTakenMore, MayTakeLeaves}
use Rattle.ib_cursor.proofs.GrantLaws.{none_granted}
use Rattle.ib_cursor.proofs.EndLaws.{start_index, will_nodes, ready, has_claimed, with_leaves}
use Rattle.ib_cursor.proofs.claim.descend_to_insert.Given.{Over}
use Rattle.ib_cursor.proofs.claim.descend_to_insert.Goals.{After-take_nodes}
use Rattle.ib_cursor.proofs.claim.descend_to_insert.Goals as goal

-- the path is read, and its nodes are taken
taken : (g : Over) (c : After-take_nodes g) → (w : under g.L.Law c.args.mtr.now.latches.now HasReadPath c.args.root c.args.key c.read_path-found.result.path c.read_path-found.result.leaf c.read_path-found.result.left c.claim_index.new.mtr.pass.now c.read_path-found.new.mtr.pass.now) × under g.L.Law c.args.mtr.now.latches.now HasTakenMore [] w.front c.read_path-found.new.mtr.pass.now c.take_nodes.new.mtr.pass.now
taken g c =
    let sizes : Sizes = c.args.mtr.now.latches.now.sizes in
    let p : PassState = c.args.mtr.now.pass.now in let q : PassState = c.claim_index.new.mtr.pass.now in let r : PassState = c.read_path-found.new.mtr.pass.now in
    let path = c.read_path-found.result.path in let leaf = c.read_path-found.result.leaf in let left = c.read_path-found.result.left in
    let idle = none_granted c.args.mtr.now.latches.now c.args.mtr.now.pass.now c.requires.may.mtr c.requires.may.memo in let s : PassState = c.take_nodes.new.mtr.pass.now in
    let w = subst (λ (s : Sizes). HasReadPath s (g.L.Law.lawful s.pages) (by_place g.L.Law.opening s.pages) c.args.root c.args.key path leaf left q r) (ap (λ m. m.now.sizes) c.claim_index.ensures.still.latches) c.read_path-found.ensures.on_path in
    let will = will_nodes sizes g.L.Trees.ROOTS (g.L.Law.lawful sizes.pages) (by_place g.L.Law.opening sizes.pages) c.facts_of_trees.ensures.shapes c.args.root c.requires.root.some c.requires.root.there c.args.key (rank-lt_end c.args.key) path leaf left p q r r r idle c.requires.may.none c.claim_index.ensures.latched c.claim_index.ensures.claimed w in
    let nodes = subst (λ (k : Sizes). (held front more : List ℕ) (leaf : ℕ) → path ≡ front ++ leaf ∷ [] → WillTake k (g.L.Law.lawful k.pages) (by_place g.L.Law.opening k.pages) held (front ++ more) r → HasTakenMore k (g.L.Law.lawful k.pages) (by_place g.L.Law.opening k.pages) held front r s)
    (ap (λ m. m.now.sizes) (c.read_path-found.ensures.still.latches ∙ c.claim_index.ensures.still.latches)) c.take_nodes.ensures.taken [] w.front (beside left ++ leaf ∷ beside (pages_after (by_place g.L.Law.opening sizes.pages) r.view.memory.seen leaf).next) leaf w.ends will in
    (w, nodes)

pub read_path-found-requires-clause-index : goal.read_path-found-requires-clause-index
read_path-found-requires-clause-index g c =
    let sizes : Sizes = c.args.mtr.now.latches.now.sizes in let p : PassState = c.args.mtr.now.pass.now in let q : PassState = c.claim_index.new.mtr.pass.now in
    subst (λ (s : Sizes). HasIndex s (g.L.Law.lawful s.pages) q) (sym (ap (λ m. m.now.sizes) c.claim_index.ensures.still.latches))
    (start_index sizes g.L.Trees.ROOTS (g.L.Law.lawful sizes.pages) (by_place g.L.Law.opening sizes.pages) c.facts_of_trees.ensures.shapes c.args.root c.requires.root.some c.requires.root.there c.args.key (rank-lt_end c.args.key) [] 0 0 p q q q q (none_granted c.args.mtr.now.latches.now c.args.mtr.now.pass.now c.requires.may.mtr c.requires.may.memo) c.requires.may.none c.claim_index.ensures.latched c.claim_index.ensures.claimed)

pub read_path-found-requires-clause-room : goal.read_path-found-requires-clause-room
read_path-found-requires-clause-room g c =
    let gs = c.claim_index.ensures.latched.grants in let a = ap (λ (g : Grants). g.s) gs in let b = ap (λ (g : Grants). g.sx) gs in let d = ap (λ (g : Grants). g.x) gs in let room = c.requires.may.room in omega arith

pub read_path-found-requires-clause-sought : goal.read_path-found-requires-clause-sought
read_path-found-requires-clause-sought g c = record { some = c.requires.root.some; there = c.requires.root.there; is_key = rank-lt_end c.args.key }

pub take_nodes-requires-clause-room : goal.take_nodes-requires-clause-room
take_nodes-requires-clause-room g c =
    let gs = c.claim_index.ensures.latched.grants in let a = ap (λ (g : Grants). g.s) gs in let b = ap (λ (g : Grants). g.sx) gs in let d = ap (λ (g : Grants). g.x) gs in let room = c.requires.may.room in
    let w = c.read_path-found.ensures.on_path in let e = w.s in let f = w.sx in let h = w.x in let i = w.short in let j = ap length w.ends in let k = length-append w.front (c.read_path-found.result.leaf ∷ []) in omega arith

pub take_nodes-requires-clause-ready : goal.take_nodes-requires-clause-ready
take_nodes-requires-clause-ready g c =
    let sizes : Sizes = c.args.mtr.now.latches.now.sizes in
    let p : PassState = c.args.mtr.now.pass.now in let q : PassState = c.claim_index.new.mtr.pass.now in let r : PassState = c.read_path-found.new.mtr.pass.now in
    let path = c.read_path-found.result.path in let leaf = c.read_path-found.result.leaf in let left = c.read_path-found.result.left in
    let idle = none_granted c.args.mtr.now.latches.now c.args.mtr.now.pass.now c.requires.may.mtr c.requires.may.memo in
    let w = subst (λ (s : Sizes). HasReadPath s (g.L.Law.lawful s.pages) (by_place g.L.Law.opening s.pages) c.args.root c.args.key path leaf left q r) (ap (λ m. m.now.sizes) c.claim_index.ensures.still.latches) c.read_path-found.ensures.on_path in
    let will = will_nodes sizes g.L.Trees.ROOTS (g.L.Law.lawful sizes.pages) (by_place g.L.Law.opening sizes.pages) c.facts_of_trees.ensures.shapes c.args.root c.requires.root.some c.requires.root.there c.args.key (rank-lt_end c.args.key) path leaf left p q r r r idle c.requires.may.none c.claim_index.ensures.latched c.claim_index.ensures.claimed w in
    subst (λ (k : Sizes). (held : List ℕ) × (front : List ℕ) × (more : List ℕ) × (leaf : ℕ) × (path ≡ front ++ leaf ∷ []) × WillTake k (g.L.Law.lawful k.pages) (by_place g.L.Law.opening k.pages) held (front ++ more) r)
    (sym (ap (λ m. m.now.sizes) (c.read_path-found.ensures.still.latches ∙ c.claim_index.ensures.still.latches))) ([], w.front, beside left ++ leaf ∷ beside (pages_after (by_place g.L.Law.opening sizes.pages) r.view.memory.seen leaf).next, leaf, w.ends, will)

pub take_leaves-requires-clause-room : goal.take_leaves-requires-clause-room
take_leaves-requires-clause-room g c =
    let so = taken g (goal.at.take_leaves-requires-clause-room g c).After-take_nodes in
    let gs = c.claim_index.ensures.latched.grants in let a = ap (λ (g : Grants). g.s) gs in let b = ap (λ (g : Grants). g.sx) gs in let d = ap (λ (g : Grants). g.x) gs in let room = c.requires.may.room in
    let w = so.0 in let e = w.s in let f = w.sx in let h = w.x in let i = w.short in let j = ap length w.ends in let k = length-append w.front (c.read_path-found.result.leaf ∷ []) in
    let n1 = so.1.s in let n2 = so.1.sx in let n3 = so.1.x in omega arith

pub take_leaves-requires-clause-ready : goal.take_leaves-requires-clause-ready
take_leaves-requires-clause-ready g c =
    let sizes : Sizes = c.args.mtr.now.latches.now.sizes in
    let p : PassState = c.args.mtr.now.pass.now in let q : PassState = c.claim_index.new.mtr.pass.now in let r : PassState = c.read_path-found.new.mtr.pass.now in
    let path = c.read_path-found.result.path in let leaf = c.read_path-found.result.leaf in let left = c.read_path-found.result.left in
    let idle = none_granted c.args.mtr.now.latches.now c.args.mtr.now.pass.now c.requires.may.mtr c.requires.may.memo in let s : PassState = c.take_nodes.new.mtr.pass.now in
    let so = taken g (goal.at.take_leaves-requires-clause-ready g c).After-take_nodes in
    subst (λ (k : Sizes). MayTakeLeaves k (g.L.Law.lawful k.pages) (by_place g.L.Law.opening k.pages) leaf left s) (sym (ap (λ m. m.now.sizes) (c.take_nodes.ensures.still.latches ∙ c.read_path-found.ensures.still.latches ∙ c.claim_index.ensures.still.latches)))
    (ready sizes g.L.Trees.ROOTS (g.L.Law.lawful sizes.pages) (by_place g.L.Law.opening sizes.pages) c.facts_of_trees.ensures.shapes c.args.root c.requires.root.some c.requires.root.there c.args.key (rank-lt_end c.args.key) path leaf left p q r s s idle c.requires.may.none c.claim_index.ensures.latched c.claim_index.ensures.claimed so.0 so.1)

pub returns-clause-claimed : goal.returns-clause-claimed
returns-clause-claimed g c =
    let sizes : Sizes = c.args.mtr.now.latches.now.sizes in
    let p : PassState = c.args.mtr.now.pass.now in let q : PassState = c.claim_index.new.mtr.pass.now in let r : PassState = c.read_path-found.new.mtr.pass.now in
    let path = c.read_path-found.result.path in let leaf = c.read_path-found.result.leaf in let left = c.read_path-found.result.left in
    let idle = none_granted c.args.mtr.now.latches.now c.args.mtr.now.pass.now c.requires.may.mtr c.requires.may.memo in let s : PassState = c.take_nodes.new.mtr.pass.now in let t : PassState = c.take_leaves.new.mtr.pass.now in
    let so = taken g (goal.at.returns-clause-claimed g c).After-take_nodes in
    let may = ready sizes g.L.Trees.ROOTS (g.L.Law.lawful sizes.pages) (by_place g.L.Law.opening sizes.pages) c.facts_of_trees.ensures.shapes c.args.root c.requires.root.some c.requires.root.there c.args.key (rank-lt_end c.args.key) path leaf left p q r s s idle c.requires.may.none c.claim_index.ensures.latched c.claim_index.ensures.claimed so.0 so.1 in
    let last = subst (λ (k : Sizes). (r : MayTakeLeaves k (g.L.Law.lawful k.pages) (by_place g.L.Law.opening k.pages) leaf left s) → HasTakenMore k (g.L.Law.lawful k.pages) (by_place g.L.Law.opening k.pages) r.held (beside left ++ leaf ∷ beside r.right) s t)
    (ap (λ m. m.now.sizes) (c.take_nodes.ensures.still.latches ∙ c.read_path-found.ensures.still.latches ∙ c.claim_index.ensures.still.latches)) c.take_leaves.ensures.taken may in (
      so.0.front ++ (beside left ++ leaf ∷ beside (pages_after (by_place g.L.Law.opening sizes.pages) r.view.memory.seen leaf).next),
      has_claimed sizes g.L.Trees.ROOTS (g.L.Law.lawful sizes.pages) (by_place g.L.Law.opening sizes.pages) c.facts_of_trees.ensures.shapes c.args.root c.requires.root.some c.requires.root.there c.args.key (rank-lt_end c.args.key) path leaf left p q r s t idle c.requires.may.none c.claim_index.ensures.latched c.claim_index.ensures.claimed so.0 so.1 last,
      with_leaves sizes g.L.Trees.ROOTS (g.L.Law.lawful sizes.pages) (by_place g.L.Law.opening sizes.pages) c.facts_of_trees.ensures.shapes c.args.root c.requires.root.some c.requires.root.there c.args.key (rank-lt_end c.args.key) path leaf left p q r s t idle c.requires.may.none c.claim_index.ensures.latched c.claim_index.ensures.claimed so.0 so.1 last,
    )

pub returns-clause-alone : goal.returns-clause-alone
returns-clause-alone g c =
    let sizes : Sizes = c.args.mtr.now.latches.now.sizes in
    let p : PassState = c.args.mtr.now.pass.now in let q : PassState = c.claim_index.new.mtr.pass.now in let r : PassState = c.read_path-found.new.mtr.pass.now in
    let path = c.read_path-found.result.path in let leaf = c.read_path-found.result.leaf in let left = c.read_path-found.result.left in
    let idle = none_granted c.args.mtr.now.latches.now c.args.mtr.now.pass.now c.requires.may.mtr c.requires.may.memo in let s : PassState = c.take_nodes.new.mtr.pass.now in let t : PassState = c.take_leaves.new.mtr.pass.now in
    let so = taken g (goal.at.returns-clause-alone g c).After-take_nodes in
    let may = ready sizes g.L.Trees.ROOTS (g.L.Law.lawful sizes.pages) (by_place g.L.Law.opening sizes.pages) c.facts_of_trees.ensures.shapes c.args.root c.requires.root.some c.requires.root.there c.args.key (rank-lt_end c.args.key) path leaf left p q r s s idle c.requires.may.none c.claim_index.ensures.latched c.claim_index.ensures.claimed so.0 so.1 in
    let last = subst (λ (k : Sizes). (r : MayTakeLeaves k (g.L.Law.lawful k.pages) (by_place g.L.Law.opening k.pages) leaf left s) → HasTakenMore k (g.L.Law.lawful k.pages) (by_place g.L.Law.opening k.pages) r.held (beside left ++ leaf ∷ beside r.right) s t)
    (ap (λ m. m.now.sizes) (c.take_nodes.ensures.still.latches ∙ c.read_path-found.ensures.still.latches ∙ c.claim_index.ensures.still.latches)) c.take_leaves.ensures.taken may in last.holds.claimed
