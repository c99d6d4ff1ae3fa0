-- The second path, the pages of the first tree, those of the second, and page 0.
use Rattle.std.proofs.Common.{◌≡◌, ◌∙◌, ℕ, false, List, [], ap, sym, subst, arith}
use Rattle.ib_map.proofs.KeyLaws.{rank-lt_end}
use Rattle.ib_levels.specs.declared.level.Level.TheVariants.{Space}
use Rattle.ib_layout.specs.Geometry.{Sizes}
use Rattle.ib_logrec.specs.Log.{by_place}
use Rattle.ib_plans.specs.Agreement.{path_of}
use Rattle.ib_tree.specs.PageLists.{is_listed}
use Rattle.ib_rule.specs.Pass.{PassState}
use Rattle.ib_cursor.specs.Rows.{MayTakeRows}
use Rattle.ib_cursor.proofs.PageLaws.{has_told}
use Rattle.ib_index.specs.Grows.{tree_pages}
use Rattle.ib_pair_law.specs.Opening.{pair_opening}
use Rattle.ib_pair_law.specs.PairKept.{IsPairLog}
use Rattle.ib_second.specs.PairComes.{HasTakenTree}
use Rattle.ib_second.specs.PairReady.{pages_seen}
use Rattle.ib_second.specs.Stands.{HasTakenAt, StandsOnPair}
use Rattle.ib_second.proofs.RowsOfBoth.{HasReadBoth, both-read, few-both, few-first, few-second, few2, first-taken, may-first, may-second, none-both, on-first, on-second, pages-both, second-taken, stands-both, taken-both}
use Rattle.ib_second.proofs.delete.claim_pages.Given.{Over}
use Rattle.ib_second.proofs.delete.claim_pages.Goals.{After-read_path-other, After-take_tree, After-take_tree-2}
use Rattle.ib_second.proofs.delete.claim_pages.Goals as goal

-- both paths were read
both : (g : Over) (c : After-read_path-other g) → HasReadBoth c.args.mtr.now.latches.now.sizes c.args.key c.args.first.path c.args.first.leaf c.args.second c.read_path-other.result.path c.args.mtr.now.pass.now c.read_path-other.new.mtr.pass.now
both g c = both-read c.read_path-other.result.leaf c.read_path-other.result.left (has_told c.geometry.ensures c.pages.ensures.pages c.pages.ensures.in_range) c.requires.index c.requires.on_path c.requires.leaf c.read_path-other.ensures.on_path

-- .. and the pages of the first tree are taken
one : (g : Over) (c : After-take_tree g) → HasReadBoth c.args.mtr.now.latches.now.sizes c.args.key c.args.first.path c.args.first.leaf c.args.second c.read_path-other.result.path c.args.mtr.now.pass.now c.read_path-other.new.mtr.pass.now
    × HasTakenTree c.args.mtr.now.latches.now.sizes [] 1 c.args.key c.args.first.path c.read_path-other.new.mtr.pass.now c.take_tree.new.mtr.pass.now
one g c =
    let h = both-read c.read_path-other.result.leaf c.read_path-other.result.left (has_told c.geometry.ensures c.pages.ensures.pages c.pages.ensures.in_range) c.requires.index c.requires.on_path c.requires.leaf c.read_path-other.ensures.on_path in
    (h, first-taken h c.take_tree.new.mtr.pass.now c.read_path-other.new.mtr.latches.now.sizes (ap (λ m. m.now.sizes) c.read_path-other.ensures.still.latches) (c.take_tree.ensures.taken []))

-- .. and then those of the second
two : (g : Over) (c : After-take_tree-2 g) → HasReadBoth c.args.mtr.now.latches.now.sizes c.args.key c.args.first.path c.args.first.leaf c.args.second c.read_path-other.result.path c.args.mtr.now.pass.now c.read_path-other.new.mtr.pass.now
    × (first : HasTakenTree c.args.mtr.now.latches.now.sizes [] 1 c.args.key c.args.first.path c.read_path-other.new.mtr.pass.now c.take_tree.new.mtr.pass.now)
    × HasTakenTree c.args.mtr.now.latches.now.sizes first.more 2 c.args.second c.read_path-other.result.path c.take_tree.new.mtr.pass.now c.take_tree-2.new.mtr.pass.now
two g c =
    let h = both-read c.read_path-other.result.leaf c.read_path-other.result.left (has_told c.geometry.ensures c.pages.ensures.pages c.pages.ensures.in_range) c.requires.index c.requires.on_path c.requires.leaf c.read_path-other.ensures.on_path in
    let first = first-taken h c.take_tree.new.mtr.pass.now c.read_path-other.new.mtr.latches.now.sizes (ap (λ m. m.now.sizes) c.read_path-other.ensures.still.latches) (c.take_tree.ensures.taken []) in
    (h, first, second-taken h first c.take_tree-2.new.mtr.pass.now c.take_tree.new.mtr.latches.now.sizes (ap (λ m. m.now.sizes) (c.take_tree.ensures.still.latches ∙ c.read_path-other.ensures.still.latches)) (c.take_tree-2.ensures.taken first.more))

pub read_path-other-requires-clause-sought : goal.read_path-other-requires-clause-sought
read_path-other-requires-clause-sought g c = record { some = omega arith; there = omega arith; is_key = rank-lt_end c.args.second }

pub take_tree-requires-clause-ready : goal.take_tree-requires-clause-ready
take_tree-requires-clause-ready g c =
    let h = both g (goal.at.take_tree-requires-clause-ready g c).After-read_path-other in let r : PassState = c.read_path-other.new.mtr.pass.now in
    subst (λ (s : Sizes). (held : List ℕ) × MayTakeRows s (IsPairLog s.pages) (by_place pair_opening s.pages) 1 c.args.first.path held r) (sym (ap (λ m. m.now.sizes) c.read_path-other.ensures.still.latches)) ([], may-first h)

pub take_tree-requires-clause-on_path : goal.take_tree-requires-clause-on_path
take_tree-requires-clause-on_path g c =
    let h = both g (goal.at.take_tree-requires-clause-on_path g c).After-read_path-other in let r : PassState = c.read_path-other.new.mtr.pass.now in let path : List ℕ = c.args.first.path in
    subst (λ (s : Sizes). path ≡ path_of (pages_seen s r) c.args.key 1) (sym (ap (λ m. m.now.sizes) c.read_path-other.ensures.still.latches)) (on-first h)

pub take_tree-requires-clause-room : goal.take_tree-requires-clause-room
take_tree-requires-clause-room g c =
    let h = both g (goal.at.take_tree-requires-clause-room g c).After-read_path-other in
    let a = h.read.s in let b = h.read.sx in let d = h.read.x in let few = few2 h in let room = c.requires.room in omega arith

pub take_tree-requires-clause-sought : goal.take_tree-requires-clause-sought
take_tree-requires-clause-sought g c = record { some = omega arith; there = omega arith; is_key = rank-lt_end c.args.key }

pub take_tree-requires-2-clause-ready : goal.take_tree-requires-2-clause-ready
take_tree-requires-2-clause-ready g c =
    let at = one g (goal.at.take_tree-requires-2-clause-ready g c).After-take_tree in let t1 : PassState = c.take_tree.new.mtr.pass.now in let path2 : List ℕ = c.read_path-other.result.path in
    subst (λ (s : Sizes). (held : List ℕ) × MayTakeRows s (IsPairLog s.pages) (by_place pair_opening s.pages) 2 path2 held t1) (sym (ap (λ m. m.now.sizes) (c.take_tree.ensures.still.latches ∙ c.read_path-other.ensures.still.latches)))
    (at.1.more, may-second at.0 at.1)

pub take_tree-requires-2-clause-on_path : goal.take_tree-requires-2-clause-on_path
take_tree-requires-2-clause-on_path g c =
    let at = one g (goal.at.take_tree-requires-2-clause-on_path g c).After-take_tree in let t1 : PassState = c.take_tree.new.mtr.pass.now in let path2 : List ℕ = c.read_path-other.result.path in
    subst (λ (s : Sizes). path2 ≡ path_of (pages_seen s t1) c.args.second 2) (sym (ap (λ m. m.now.sizes) (c.take_tree.ensures.still.latches ∙ c.read_path-other.ensures.still.latches))) (on-second at.0 at.1)

pub take_tree-requires-2-clause-room : goal.take_tree-requires-2-clause-room
take_tree-requires-2-clause-room g c =
    let at = one g (goal.at.take_tree-requires-2-clause-room g c).After-take_tree in let h = at.0 in let first = at.1 in
    let a = h.read.s in let b = h.read.sx in let d = h.read.x in let few = few2 h in let room = c.requires.room in
    let e = first.taken.s in let f = first.taken.sx in let k = first.taken.x in let l = few-first h first in omega arith

pub take_tree-requires-2-clause-sought : goal.take_tree-requires-2-clause-sought
take_tree-requires-2-clause-sought g c = record { some = omega arith; there = omega arith; is_key = rank-lt_end c.args.second }

pub take_space-requires-clause-room : goal.take_space-requires-clause-room
take_space-requires-clause-room g c =
    let at = two g (goal.at.take_space-requires-clause-room g c).After-take_tree-2 in let h = at.0 in let first = at.1 in let second = at.2 in
    let a = h.read.s in let b = h.read.sx in let d = h.read.x in let few = few2 h in let room = c.requires.room in
    let e = first.taken.s in let f = first.taken.sx in let k = first.taken.x in let l = few-first h first in
    let m = second.taken.s in let n = second.taken.sx in let o = second.taken.x in let q = few-second h first second in omega arith

pub take_space-requires-clause-ready : goal.take_space-requires-clause-ready
take_space-requires-clause-ready g c =
    let at = two g (goal.at.take_space-requires-clause-ready g c).After-take_tree-2 in let h = at.0 in let first = at.1 in let second = at.2 in
    let path : List ℕ = c.args.first.path in let path2 : List ℕ = c.read_path-other.result.path in let held : List ℕ = pages-both h first second in let t2 : PassState = c.take_tree-2.new.mtr.pass.now in
    let stands = subst (λ (s : Sizes). StandsOnPair s c.args.key path c.args.second path2 (tree_pages held) t2) (sym (ap (λ m. m.now.sizes) (c.take_tree-2.ensures.still.latches ∙ (c.take_tree.ensures.still.latches ∙ c.read_path-other.ensures.still.latches)))) (stands-both h first second) in
    (c.args.key, path, c.args.second, path2, held, stands, none-both h first second, (let few = few-both h first second in omega arith))

pub returns-clause-taken : goal.returns-clause-taken
returns-clause-taken g c = λ value second_is found.
    let at = two g (goal.at.returns-clause-taken g c).After-take_tree-2 in let h = at.0 in let first = at.1 in let second = at.2 in
    let path : List ℕ = c.args.first.path in let path2 : List ℕ = c.read_path-other.result.path in let held : List ℕ = pages-both h first second in
    let t2 : PassState = c.take_tree-2.new.mtr.pass.now in let t3 : PassState = c.take_space.new.mtr.pass.now in
    let last = subst (λ (s : Sizes). StandsOnPair s c.args.key path c.args.second path2 (tree_pages held) t2 → is_listed held 0 ≡ false → HasTakenAt s c.args.key path c.args.second path2 (tree_pages held) 0 Space t2 t3)
    (ap (λ m. m.now.sizes) (c.take_tree-2.ensures.still.latches ∙ (c.take_tree.ensures.still.latches ∙ c.read_path-other.ensures.still.latches))) (c.take_space.ensures.taken c.args.key path c.args.second path2 held) (stands-both h first second) (none-both h first second) in
    taken-both h first second last value second_is found
