-- Chunk after chunk is read, until a leaf is refused.
use Rattle.std.proofs.Common.{◌≡◌, ◌≢◌, ◌<◌, ◌∙◌, ℕ, Bool, true, false, sym, ap, subst, arith}
use Rattle.ib_map.specs.Keys.{rank}
use Rattle.ib_map.specs.Chunks.{HeldChunks}
use Rattle.ib_map.proofs.KeyLaws.{rank_injective}
use Rattle.ib_layout.specs.Geometry.{Sizes}
use Rattle.ib_logrec.specs.Log.{by_place}
use Rattle.ib_rule.specs.Pass.{PassState}
use Rattle.ib_cursor.proofs.RefusalLaws.{few_both}
use Rattle.ib_scan.specs.Parts.{HasPut}
use Rattle.ib_scan.specs.Steps.{IsOnLeaf, HasReachedEnd}
use Rattle.ib_scan.proofs.LoopLaws.{along_loaded, some_front, on_leaf, span_read, ended, again, ends_within, some_after, part_short}
use Rattle.ib_scan_nowait.specs.Steps.{HasRunToFull, IsRefusedFrom, read_on}
use Rattle.ib_scan_nowait.proofs.LookLaws.{few_as}
use Rattle.ib_scan_nowait.proofs.LoopLaws.{run_full, run_halted, run_refused}
use Rattle.ib_scan_nowait.proofs.walk.scan_from_nowait.Given.{Over}
use Rattle.ib_scan_nowait.proofs.walk.scan_from_nowait.Goals.{In-Ok}
use Rattle.ib_scan_nowait.proofs.walk.scan_from_nowait.Goals as goal

-- the scan has come to the leaf that gives the next chunk
reached : (g : Over) (c : In-Ok g)
    → HasReachedEnd c.args.mtr.now.latches.now.sizes (g.L.Law.lawful c.args.mtr.now.latches.now.sizes.pages) (by_place g.L.Law.opening c.args.mtr.now.latches.now.sizes.pages) g.L.Trees.ROOTS 1 c.loop-high.start c.args.high
    c.in-Ok.found c.loop-high.mtr.pass.now c.reach_end_nowait.new.mtr.pass.now
reached g c =
    let sizes : Sizes = c.args.mtr.now.latches.now.sizes in let p : PassState = c.loop-high.mtr.pass.now in let q : PassState = c.reach_end_nowait.new.mtr.pass.now in
    subst (λ (k : Sizes). (h : IsOnLeaf k (g.L.Law.lawful k.pages) (by_place g.L.Law.opening k.pages) g.L.Trees.ROOTS c.loop-high.leaf c.loop-high.start p)
    → HasReachedEnd k (g.L.Law.lawful k.pages) (by_place g.L.Law.opening k.pages) g.L.Trees.ROOTS h.root c.loop-high.start c.args.high c.in-Ok.found p q) (ap (λ m. m.now.sizes) c.loop-high.invariant.latches) c.in-Ok.ensures.reached
    (on_leaf sizes g.L.Trees.ROOTS (g.L.Law.lawful sizes.pages) (by_place g.L.Law.opening sizes.pages) c.facts_of_trees.ensures.laws 1 c.args.first c.loop-high.leaf c.args.low c.loop-high.start c.args.high c.args.out.now c.loop-high.out c.args.mtr.now.pass.now p c.loop-high.invariant.to)

pub put-fits-requires-clause-loaded : goal.put-fits-requires-clause-loaded
put-fits-requires-clause-loaded g c =
    let sizes : Sizes = c.args.mtr.now.latches.now.sizes in let p : PassState = c.loop-high.mtr.pass.now in let q : PassState = c.reach_end_nowait.new.mtr.pass.now in
    let found = c.in-Ok.found in
    let at = reached g (goal.at.put-fits-requires-clause-loaded g c).In-Ok in
    let l = along_loaded sizes g.L.Trees.ROOTS (g.L.Law.lawful sizes.pages) (by_place g.L.Law.opening sizes.pages) c.facts_of_trees.ensures.laws 1 c.loop-high.start found.leaf found.passed p q at.along in
    (at.along.last.image, l.is, l.tree)

pub leave_front-requires-clause-front : goal.leave_front-requires-clause-front
leave_front-requires-clause-front g c =
    let sizes : Sizes = c.args.mtr.now.latches.now.sizes in let p : PassState = c.loop-high.mtr.pass.now in let q : PassState = c.reach_end_nowait.new.mtr.pass.now in
    let found = c.in-Ok.found in
    let at = reached g (goal.at.leave_front-requires-clause-front g c).In-Ok in
    some_front sizes g.L.Trees.ROOTS (g.L.Law.lawful sizes.pages) (by_place g.L.Law.opening sizes.pages) c.facts_of_trees.ensures.laws 1 c.loop-high.start found.leaf found.passed p q at.along

pub returns-then-room-eq0-clause-halted : goal.returns-then-room-eq0-clause-halted
returns-then-room-eq0-clause-halted g c =
    let sizes : Sizes = c.args.mtr.now.latches.now.sizes in let p0 : PassState = c.args.mtr.now.pass.now in let p : PassState = c.loop-high.mtr.pass.now in let i = c.loop-high.invariant.to in
    run_full sizes g.L.Trees.ROOTS (g.L.Law.lawful sizes.pages) (by_place g.L.Law.opening sizes.pages) c.facts_of_trees.ensures.laws 1 c.args.first c.loop-high.leaf c.args.low c.loop-high.start c.args.high c.args.out.now c.loop-high.out p0 p i c.loop-high.invariant.few (sym c.room.ensures.chunks ∙ c.if-room-eq0.true)

pub returns-in-Err-clause-halted : goal.returns-in-Err-clause-halted
returns-in-Err-clause-halted g c =
    let sizes : Sizes = c.args.mtr.now.latches.now.sizes in let p0 : PassState = c.args.mtr.now.pass.now in let p : PassState = c.loop-high.mtr.pass.now in let q : PassState = c.reach_end_nowait.new.mtr.pass.now in
    let i = c.loop-high.invariant.to in let f = c.in-Err.fault in
    let refused = subst (λ (k : Sizes). (h : IsOnLeaf k (g.L.Law.lawful k.pages) (by_place g.L.Law.opening k.pages) g.L.Trees.ROOTS c.loop-high.leaf c.loop-high.start p)
    → IsRefusedFrom k (g.L.Law.lawful k.pages) (by_place g.L.Law.opening k.pages) h.root c.loop-high.start (read_on c.loop-high.leaf h.image) f p q) (ap (λ m. m.now.sizes) c.loop-high.invariant.latches) c.in-Err.ensures.refused
    (on_leaf sizes g.L.Trees.ROOTS (g.L.Law.lawful sizes.pages) (by_place g.L.Law.opening sizes.pages) c.facts_of_trees.ensures.laws 1 c.args.first c.loop-high.leaf c.args.low c.loop-high.start c.args.high c.args.out.now c.loop-high.out p0 p i) in
    let some : 0 < c.loop-high.out.chunk_room = (let e = c.room.ensures.chunks in let ne = c.if-room-eq0.false in omega arith) in
    run_refused sizes g.L.Trees.ROOTS (g.L.Law.lawful sizes.pages) (by_place g.L.Law.opening sizes.pages) c.facts_of_trees.ensures.laws 1 c.args.first c.loop-high.leaf c.args.low c.loop-high.start c.args.high c.args.out.now c.loop-high.out p0 p i c.loop-high.invariant.few some f q refused

pub returns-then-not-fits-clause-halted : goal.returns-then-not-fits-clause-halted
returns-then-not-fits-clause-halted g c =
    let sizes : Sizes = c.args.mtr.now.latches.now.sizes in let p0 : PassState = c.args.mtr.now.pass.now in let p : PassState = c.loop-high.mtr.pass.now in let q : PassState = c.reach_end_nowait.new.mtr.pass.now in
    let found = c.in-Ok.found in let r : PassState = c.leave_front.new.mtr.pass.now in let i = c.loop-high.invariant.to in
    let at = reached g (goal.at.returns-then-not-fits-clause-halted g c).In-Ok in
    let l = along_loaded sizes g.L.Trees.ROOTS (g.L.Law.lawful sizes.pages) (by_place g.L.Law.opening sizes.pages) c.facts_of_trees.ensures.laws 1 c.loop-high.start found.leaf found.passed p q at.along in
    let front = some_front sizes g.L.Trees.ROOTS (g.L.Law.lawful sizes.pages) (by_place g.L.Law.opening sizes.pages) c.facts_of_trees.ensures.laws 1 c.loop-high.start found.leaf found.passed p q at.along in
    let span = span_read sizes g.L.Trees.ROOTS (g.L.Law.lawful sizes.pages) (by_place g.L.Law.opening sizes.pages) c.facts_of_trees.ensures.laws 1 c.args.first c.loop-high.leaf c.args.low c.loop-high.start c.args.high c.args.out.now c.loop-high.out p0 p i found q at in
    let put = subst (λ (b : Bool). HasPut span b c.loop-high.out c.put-fits.new.out) c.if-not-fits.true (subst (λ (n : ℕ). HasPut (record span { place = n }) c.put-fits.result c.loop-high.out c.put-fits.new.out) c.place-place.ensures (c.put-fits.ensures at.along.last.image l.is)) in
    let few = few_as 0 p0.view q.view r.view c.leave_front.ensures.looks c.leave_front.ensures.waits c.leave_front.ensures.aside.grants (few_both 0 p0.view p.view q.view c.loop-high.invariant.few c.in-Ok.ensures.few) in
    let some : 0 < c.loop-high.out.chunk_room = (let e = c.room.ensures.chunks in let ne = c.if-room-eq0.false in omega arith) in
    subst (λ (o : HeldChunks). HasRunToFull sizes (g.L.Law.lawful sizes.pages) (by_place g.L.Law.opening sizes.pages) g.L.Trees.ROOTS 1 c.args.first c.args.low c.args.high c.loop-high.start c.args.out.now o p0 r) (sym put.0)
    (run_halted sizes g.L.Trees.ROOTS (g.L.Law.lawful sizes.pages) (by_place g.L.Law.opening sizes.pages) c.facts_of_trees.ensures.laws 1 c.args.first c.loop-high.leaf c.args.low c.loop-high.start c.args.high c.args.out.now c.loop-high.out p0 p i c.loop-high.invariant.few found q at r (c.leave_front.ensures.left front) c.leave_front.ensures.aside some put.1 (part_short at.along.last.image c.loop-high.start found.end l.tree) few)

pub returns-then-is_same-clause-scanned : goal.returns-then-is_same-clause-scanned
returns-then-is_same-clause-scanned g c =
    let sizes : Sizes = c.args.mtr.now.latches.now.sizes in let p0 : PassState = c.args.mtr.now.pass.now in let p : PassState = c.loop-high.mtr.pass.now in let q : PassState = c.reach_end_nowait.new.mtr.pass.now in
    let found = c.in-Ok.found in let r : PassState = c.leave_front.new.mtr.pass.now in let i = c.loop-high.invariant.to in
    let at = reached g (goal.at.returns-then-is_same-clause-scanned g c).In-Ok in
    let l = along_loaded sizes g.L.Trees.ROOTS (g.L.Law.lawful sizes.pages) (by_place g.L.Law.opening sizes.pages) c.facts_of_trees.ensures.laws 1 c.loop-high.start found.leaf found.passed p q at.along in
    let front = some_front sizes g.L.Trees.ROOTS (g.L.Law.lawful sizes.pages) (by_place g.L.Law.opening sizes.pages) c.facts_of_trees.ensures.laws 1 c.loop-high.start found.leaf found.passed p q at.along in
    let span = span_read sizes g.L.Trees.ROOTS (g.L.Law.lawful sizes.pages) (by_place g.L.Law.opening sizes.pages) c.facts_of_trees.ensures.laws 1 c.args.first c.loop-high.leaf c.args.low c.loop-high.start c.args.high c.args.out.now c.loop-high.out p0 p i found q at in
    let put = subst (λ (b : Bool). HasPut span b c.loop-high.out c.put-fits.new.out) c.if-not-fits.false (subst (λ (n : ℕ). HasPut (record span { place = n }) c.put-fits.result c.loop-high.out c.put-fits.new.out) c.place-place.ensures (c.put-fits.ensures at.along.last.image l.is)) in
    let same : found.end ≡ c.args.high = rank_injective found.end c.args.high (c.is_same.ensures.same.0 c.if-is_same.true) in
    ended sizes g.L.Trees.ROOTS (g.L.Law.lawful sizes.pages) (by_place g.L.Law.opening sizes.pages) c.facts_of_trees.ensures.laws 1 c.args.first c.loop-high.leaf c.args.low c.loop-high.start c.args.high c.args.out.now c.loop-high.out p0 p i found q at
    r (c.leave_front.ensures.left front) c.leave_front.ensures.aside c.put-fits.new.out put (part_short at.along.last.image c.loop-high.start found.end l.tree) same

pub returns-then-is_same-clause-few : goal.returns-then-is_same-clause-few
returns-then-is_same-clause-few g c =
    let p0 : PassState = c.args.mtr.now.pass.now in let p : PassState = c.loop-high.mtr.pass.now in let q : PassState = c.reach_end_nowait.new.mtr.pass.now in let r : PassState = c.leave_front.new.mtr.pass.now in
    few_as 0 p0.view q.view r.view c.leave_front.ensures.looks c.leave_front.ensures.waits c.leave_front.ensures.aside.grants (few_both 0 p0.view p.view q.view c.loop-high.invariant.few c.in-Ok.ensures.few)

pub unwrap-start-requires : goal.unwrap-start-requires
unwrap-start-requires g c =
    let sizes : Sizes = c.args.mtr.now.latches.now.sizes in let p : PassState = c.loop-high.mtr.pass.now in let q : PassState = c.reach_end_nowait.new.mtr.pass.now in
    let found = c.in-Ok.found in
    let at = reached g (goal.at.unwrap-start-requires g c).In-Ok in
    let le = ends_within c.loop-high.start c.args.high found.end at.along.last.image at.ends in
    let ne : rank found.end ≢ rank c.args.high = λ e. (let t : c.is_same.result ≡ true = c.is_same.ensures.same.1 e in let f : c.is_same.result ≡ false = c.if-is_same.false in cc) in
    some_after found.end c.args.high c.after.result c.after.ensures.next (omega arith) c.is_same.ensures.second

pub loop-high-smaller : goal.loop-high-smaller
loop-high-smaller g c =
    let sizes : Sizes = c.args.mtr.now.latches.now.sizes in let p0 : PassState = c.args.mtr.now.pass.now in let p : PassState = c.loop-high.mtr.pass.now in let q : PassState = c.reach_end_nowait.new.mtr.pass.now in
    let found = c.in-Ok.found in let i = c.loop-high.invariant.to in
    let at = reached g (goal.at.loop-high-smaller g c).In-Ok in
    let l = along_loaded sizes g.L.Trees.ROOTS (g.L.Law.lawful sizes.pages) (by_place g.L.Law.opening sizes.pages) c.facts_of_trees.ensures.laws 1 c.loop-high.start found.leaf found.passed p q at.along in
    let span = span_read sizes g.L.Trees.ROOTS (g.L.Law.lawful sizes.pages) (by_place g.L.Law.opening sizes.pages) c.facts_of_trees.ensures.laws 1 c.args.first c.loop-high.leaf c.args.low c.loop-high.start c.args.high c.args.out.now c.loop-high.out p0 p i found q at in
    let put = subst (λ (b : Bool). HasPut span b c.loop-high.out c.put-fits.new.out) c.if-not-fits.false (subst (λ (n : ℕ). HasPut (record span { place = n }) c.put-fits.result c.loop-high.out c.put-fits.new.out) c.place-place.ensures (c.put-fits.ensures at.along.last.image l.is)) in
    let fell = put.chunk_room in omega arith

pub loop-high-preserved : goal.loop-high-preserved
loop-high-preserved g c =
    let sizes : Sizes = c.args.mtr.now.latches.now.sizes in let p0 : PassState = c.args.mtr.now.pass.now in let p : PassState = c.loop-high.mtr.pass.now in let q : PassState = c.reach_end_nowait.new.mtr.pass.now in
    let found = c.in-Ok.found in let r : PassState = c.leave_front.new.mtr.pass.now in let i = c.loop-high.invariant.to in
    let at = reached g (goal.at.loop-high-preserved g c).In-Ok in
    let l = along_loaded sizes g.L.Trees.ROOTS (g.L.Law.lawful sizes.pages) (by_place g.L.Law.opening sizes.pages) c.facts_of_trees.ensures.laws 1 c.loop-high.start found.leaf found.passed p q at.along in
    let front = some_front sizes g.L.Trees.ROOTS (g.L.Law.lawful sizes.pages) (by_place g.L.Law.opening sizes.pages) c.facts_of_trees.ensures.laws 1 c.loop-high.start found.leaf found.passed p q at.along in
    let span = span_read sizes g.L.Trees.ROOTS (g.L.Law.lawful sizes.pages) (by_place g.L.Law.opening sizes.pages) c.facts_of_trees.ensures.laws 1 c.args.first c.loop-high.leaf c.args.low c.loop-high.start c.args.high c.args.out.now c.loop-high.out p0 p i found q at in
    let put = subst (λ (b : Bool). HasPut span b c.loop-high.out c.put-fits.new.out) c.if-not-fits.false (subst (λ (n : ℕ). HasPut (record span { place = n }) c.put-fits.result c.loop-high.out c.put-fits.new.out) c.place-place.ensures (c.put-fits.ensures at.along.last.image l.is)) in
    let few = few_as 0 p0.view q.view r.view c.leave_front.ensures.looks c.leave_front.ensures.waits c.leave_front.ensures.aside.grants (few_both 0 p0.view p.view q.view c.loop-high.invariant.few c.in-Ok.ensures.few) in
    let le = ends_within c.loop-high.start c.args.high found.end at.along.last.image at.ends in
    let ne : rank found.end ≢ rank c.args.high = λ e. (let t : c.is_same.result ≡ true = c.is_same.ensures.same.1 e in let f : c.is_same.result ≡ false = c.if-is_same.false in cc) in
    let lt : rank found.end < rank c.args.high = omega arith in
    record {
      mtr = c.leave_front.ensures.still.mtr;
      latches = c.leave_front.ensures.still.latches ∙ (c.reach_end_nowait.ensures.still.latches ∙ c.loop-high.invariant.latches);
      pass = c.leave_front.ensures.still.pass ∙ (c.reach_end_nowait.ensures.still.pass ∙ c.loop-high.invariant.pass);
      few = few;
      to = again sizes g.L.Trees.ROOTS (g.L.Law.lawful sizes.pages) (by_place g.L.Law.opening sizes.pages) c.facts_of_trees.ensures.laws 1 c.args.first c.loop-high.leaf c.args.low c.loop-high.start c.args.high c.args.out.now c.loop-high.out p0 p i found q at
          r (c.leave_front.ensures.left front) c.leave_front.ensures.aside c.put-fits.new.out put (part_short at.along.last.image c.loop-high.start found.end l.tree)
          c.unwrap-start.result (sym c.after.ensures.next ∙ c.unwrap-start.ensures) lt;
    }
