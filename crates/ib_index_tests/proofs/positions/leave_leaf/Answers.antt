-- Who has descended to read may store the leaf, and give it up.
use Rattle.std.proofs.Common.{◌≡◌, [], ℕ, List, true, ap, subst, sym, arith, length}
use Rattle.ib_map.specs.Space.{has_pages}
use Rattle.ib_map.proofs.KeyLaws.{rank-lt_end}
use Rattle.ib_layout.specs.Geometry.{Sizes}
use Rattle.ib_logrec.specs.declared.entry.Entry.{Entry}
use Rattle.ib_logrec.specs.Log.{by_place}
use Rattle.ib_rule.specs.Pass.{PassState}
use Rattle.ib_cursor.specs.Positions.{IsPosition, LoadedLeaf}
use Rattle.ib_cursor.proofs.LogLaws.{laws_under}
use Rattle.ib_cursor.proofs.DownLaws.{last_of_path}
use Rattle.ib_cursor.proofs.NextLaws.{holds_end}
use Rattle.ib_cursor.proofs.PageLaws.{has_told}
use Rattle.ib_cursor.proofs.PositionLaws.{held_loaded, left_as, left_descend, may_leave}
use Rattle.ib_index_tests.proofs.positions.leave_leaf.Goals as goal

pub descend-path-requires-clause-may : goal.descend-path-requires-clause-may
descend-path-requires-clause-may g c = record { mtr = c.requires.mtr; memo = c.requires.memo; none = c.requires.none; room = omega arith }

pub store-position-requires-clause-loaded : goal.store-position-requires-clause-loaded
store-position-requires-clause-loaded g c =
    let sizes : Sizes = c.args.mtr.now.latches.now.sizes in
    let has : has_pages sizes.pages ≡ true = has_told c.geometry.ensures c.pages.ensures.pages c.pages.ensures.in_range in
    let laws = laws_under g.L.Law g.L.Trees.ROOTS sizes.pages has g.met.L.Law.begins c.trees_law.ensures.memory g.met.L.Law.stays c.trees_law.ensures.range in
    let q : PassState = c.descend-path.new.mtr.pass.now in
    let same = ap (λ m. m.now.sizes) c.descend-path.ensures.still.latches in
    let end = c.descend-path.ensures.descended in
    let at : c.unwrap-leaf.result ≡ end.reached.leaf = last_of_path c.last.result c.unwrap-leaf.result c.descend-path.result end.reached.front end.reached.leaf end.reached.ends c.last.ensures.last c.unwrap-leaf.ensures in
    let held = holds_end sizes g.L.Trees.ROOTS (g.L.Law.lawful sizes.pages) (by_place g.L.Law.opening sizes.pages) laws 1 (omega arith) c.requires.root c.args.key (rank-lt_end c.args.key)
    c.descend-path.result c.args.mtr.now.pass.now q end in
    let here = held_loaded sizes (g.L.Law.lawful sizes.pages) (by_place g.L.Law.opening sizes.pages) g.L.Trees.ROOTS [] end.reached.leaf end.image held.0 q held.1 in
    subst (λ (k : Sizes). LoadedLeaf k (g.L.Law.lawful k.pages) (by_place g.L.Law.opening k.pages) g.L.Trees.ROOTS c.unwrap-leaf.result q) (sym same)
    (subst (λ (n : ℕ). LoadedLeaf sizes (g.L.Law.lawful sizes.pages) (by_place g.L.Law.opening sizes.pages) g.L.Trees.ROOTS n q) (sym at) here)

pub release_at-requires-clause-at : goal.release_at-requires-clause-at
release_at-requires-clause-at g c = let one = ap length c.descend-path.ensures.descended.reached.grants.memo in omega arith

pub release_at-requires-clause-unchanged : goal.release_at-requires-clause-unchanged
release_at-requires-clause-unchanged g c =
    let end = c.descend-path.ensures.descended in
    may_leave end.reached.leaf end.image c.descend-path.new.mtr.pass.now end.reached.grants end.work

pub returns-clause-may : goal.returns-clause-may
returns-clause-may g c =
    let end = c.descend-path.ensures.descended in
    left_descend end.reached.leaf end.image c.descend-path.new.mtr.pass.now end.reached.grants end.work c.release_at.new.self.pass.now c.release_at.ensures.released c.release_at.new.self.latches.now c.release_at.ensures.still.mtr (omega arith)

pub returns-clause-position : goal.returns-clause-position
returns-clause-position g c =
    let end = c.descend-path.ensures.descended in
    let q : PassState = c.descend-path.new.mtr.pass.now in let t : PassState = c.release_at.new.self.pass.now in
    let seen = (left_as end.reached.leaf end.image q end.reached.grants end.work t c.release_at.ensures.released).beside.seen in
    let same = ap (λ m. m.now.sizes) c.release_at.ensures.still.latches in
    subst (λ (k : Sizes). IsPosition (g.L.Law.lawful k.pages) (by_place g.L.Law.opening k.pages) g.L.Trees.ROOTS t.view.memory.seen c.store-position.result) (sym same)
    (subst (λ (log : List Entry). IsPosition (g.L.Law.lawful c.descend-path.new.mtr.latches.now.sizes.pages) (by_place g.L.Law.opening c.descend-path.new.mtr.latches.now.sizes.pages) g.L.Trees.ROOTS log c.store-position.result) (sym seen) c.store-position.ensures.position)
