-- Chunk after chunk is read.
use Rattle.std.proofs.Common.{◌≡◌, ◌≢◌, ◌<◌, ◌∙◌, ℕ, Bool, true, false, sym, ap, subst, arith}
use Rattle.ib_map.specs.Keys.{rank}
use Rattle.ib_map.specs.Chunks.{HeldChunks}
use Rattle.ib_map.proofs.KeyLaws.{rank_injective}
use Rattle.ib_layout.specs.Geometry.{Sizes}
use Rattle.ib_logrec.specs.Log.{by_place}
use Rattle.ib_rule.specs.Pass.{PassState}
use Rattle.ib_tree.specs.Logs.{pages_after}
use Rattle.ib_cursor.specs.Positions.{LoadedLeaf}
use Rattle.ib_scan.specs.Parts.{HasPut}
use Rattle.ib_scan.specs.Steps.{IsOnLeaf, HasReachedEnd, HasRunToStop}
use Rattle.ib_scan.proofs.LoopLaws.{along_loaded, some_front, on_leaf, span_read, full, halted, ended, again, ends_within, some_after, part_short}
use Rattle.ib_scan.proofs.KeptLaws.{kept_here, on_loaded}
use Rattle.ib_scan.proofs.walk.scan_from.Given.{Over}
use Rattle.ib_scan.proofs.walk.scan_from.Goals.{After-reach_end-found}
use Rattle.ib_scan.proofs.walk.scan_from.Goals as goal

-- the scan has come to the leaf that gives the next chunk
reached : (g : Over) (c : After-reach_end-found g)
    → HasReachedEnd c.args.mtr.now.latches.now.sizes (g.L.Law.lawful c.args.mtr.now.latches.now.sizes.pages) (by_place g.L.Law.opening c.args.mtr.now.latches.now.sizes.pages) g.L.Trees.ROOTS c.args.sought.root c.loop-sought.start c.args.sought.high
    c.reach_end-found.result c.loop-sought.mtr.pass.now c.reach_end-found.new.mtr.pass.now
reached g c =
    let sizes : Sizes = c.args.mtr.now.latches.now.sizes in let p : PassState = c.loop-sought.mtr.pass.now in let q : PassState = c.reach_end-found.new.mtr.pass.now in
    subst (λ (k : Sizes). (h : IsOnLeaf k (g.L.Law.lawful k.pages) (by_place g.L.Law.opening k.pages) g.L.Trees.ROOTS c.loop-sought.leaf c.loop-sought.start p)
    → HasReachedEnd k (g.L.Law.lawful k.pages) (by_place g.L.Law.opening k.pages) g.L.Trees.ROOTS h.root c.loop-sought.start c.args.sought.high c.reach_end-found.result p q) (ap (λ m. m.now.sizes) c.loop-sought.invariant.latches) c.reach_end-found.ensures.reached
    (on_leaf sizes g.L.Trees.ROOTS (g.L.Law.lawful sizes.pages) (by_place g.L.Law.opening sizes.pages) c.facts_of_trees.ensures.laws c.args.sought.root c.args.first c.loop-sought.leaf c.args.sought.low c.loop-sought.start c.args.sought.high c.args.out.now c.loop-sought.out c.args.mtr.now.pass.now p c.loop-sought.invariant.to)

pub put-fits-requires-clause-loaded : goal.put-fits-requires-clause-loaded
put-fits-requires-clause-loaded g c =
    let sizes : Sizes = c.args.mtr.now.latches.now.sizes in let p : PassState = c.loop-sought.mtr.pass.now in let q : PassState = c.reach_end-found.new.mtr.pass.now in
    let found = c.reach_end-found.result in
    let at = reached g (goal.at.put-fits-requires-clause-loaded g c).After-reach_end-found in
    let l = along_loaded sizes g.L.Trees.ROOTS (g.L.Law.lawful sizes.pages) (by_place g.L.Law.opening sizes.pages) c.facts_of_trees.ensures.laws c.args.sought.root c.loop-sought.start found.leaf found.passed p q at.along in
    (at.along.last.image, l.is, l.tree)

pub store-requires-clause-loaded : goal.store-requires-clause-loaded
store-requires-clause-loaded g c =
    let sizes : Sizes = c.args.mtr.now.latches.now.sizes in let p0 : PassState = c.args.mtr.now.pass.now in let p : PassState = c.loop-sought.mtr.pass.now in
    subst (λ (k : Sizes). LoadedLeaf k (g.L.Law.lawful k.pages) (by_place g.L.Law.opening k.pages) g.L.Trees.ROOTS c.loop-sought.leaf p) (sym (ap (λ m. m.now.sizes) c.loop-sought.invariant.latches))
    (on_loaded sizes g.L.Trees.ROOTS (g.L.Law.lawful sizes.pages) (by_place g.L.Law.opening sizes.pages) c.args.sought.root c.args.first c.loop-sought.leaf c.args.sought.low c.loop-sought.start c.args.sought.high c.args.out.now c.loop-sought.out p0 p c.loop-sought.invariant.to)

pub leave_front-requires-clause-front : goal.leave_front-requires-clause-front
leave_front-requires-clause-front g c =
    let sizes : Sizes = c.args.mtr.now.latches.now.sizes in let p : PassState = c.loop-sought.mtr.pass.now in let q : PassState = c.reach_end-found.new.mtr.pass.now in
    let found = c.reach_end-found.result in
    let at = reached g (goal.at.leave_front-requires-clause-front g c).After-reach_end-found in
    some_front sizes g.L.Trees.ROOTS (g.L.Law.lawful sizes.pages) (by_place g.L.Law.opening sizes.pages) c.facts_of_trees.ensures.laws c.args.sought.root c.loop-sought.start found.leaf found.passed p q at.along

pub returns-then-room-eq0-clause-scanned : goal.returns-then-room-eq0-clause-scanned
returns-then-room-eq0-clause-scanned g c =
    let sizes : Sizes = c.args.mtr.now.latches.now.sizes in let p0 : PassState = c.args.mtr.now.pass.now in let p : PassState = c.loop-sought.mtr.pass.now in
    let i = c.loop-sought.invariant.to in
    let same = ap (λ m. m.now.sizes) c.loop-sought.invariant.latches in
    let clock = subst (λ (k : Sizes). c.store.result.clock ≡ (pages_after (by_place g.L.Law.opening k.pages) p.view.memory.seen c.loop-sought.leaf).clock) same c.store.ensures.clock in
    let keeps = kept_here sizes g.L.Trees.ROOTS (g.L.Law.lawful sizes.pages) (by_place g.L.Law.opening sizes.pages) c.args.sought.root c.args.first c.loop-sought.leaf c.args.sought.low c.loop-sought.start c.args.sought.high c.args.out.now c.loop-sought.out p0 p i
    c.store.result c.store.ensures.page clock c.store.ensures.place in
    full sizes g.L.Trees.ROOTS (g.L.Law.lawful sizes.pages) (by_place g.L.Law.opening sizes.pages) c.facts_of_trees.ensures.laws c.args.sought.root c.args.first c.loop-sought.leaf c.args.sought.low c.loop-sought.start c.args.sought.high c.args.out.now c.loop-sought.out p0 p i
    (sym c.room.ensures.chunks ∙ c.if-room-eq0.true) c.store.result keeps c.store.ensures.page c.store.ensures.place

pub returns-then-not-fits-clause-scanned : goal.returns-then-not-fits-clause-scanned
returns-then-not-fits-clause-scanned g c =
    let sizes : Sizes = c.args.mtr.now.latches.now.sizes in let p0 : PassState = c.args.mtr.now.pass.now in let p : PassState = c.loop-sought.mtr.pass.now in let q : PassState = c.reach_end-found.new.mtr.pass.now in
    let r : PassState = c.leave_front.new.mtr.pass.now in
    let found = c.reach_end-found.result in
    let i = c.loop-sought.invariant.to in
    let at = reached g (goal.at.returns-then-not-fits-clause-scanned g c).After-reach_end-found in
    let l = along_loaded sizes g.L.Trees.ROOTS (g.L.Law.lawful sizes.pages) (by_place g.L.Law.opening sizes.pages) c.facts_of_trees.ensures.laws c.args.sought.root c.loop-sought.start found.leaf found.passed p q at.along in
    let front = some_front sizes g.L.Trees.ROOTS (g.L.Law.lawful sizes.pages) (by_place g.L.Law.opening sizes.pages) c.facts_of_trees.ensures.laws c.args.sought.root c.loop-sought.start found.leaf found.passed p q at.along in
    let span = span_read sizes g.L.Trees.ROOTS (g.L.Law.lawful sizes.pages) (by_place g.L.Law.opening sizes.pages) c.facts_of_trees.ensures.laws c.args.sought.root c.args.first c.loop-sought.leaf c.args.sought.low c.loop-sought.start c.args.sought.high c.args.out.now c.loop-sought.out p0 p i found q at in
    let put = subst (λ (b : Bool). HasPut span b c.loop-sought.out c.put-fits.new.out) c.if-not-fits.true (subst (λ (n : ℕ). HasPut (record span { place = n }) c.put-fits.result c.loop-sought.out c.put-fits.new.out) c.place-place.ensures (c.put-fits.ensures at.along.last.image l.is)) in
    let same = ap (λ m. m.now.sizes) c.loop-sought.invariant.latches in
    let clock = subst (λ (k : Sizes). c.store.result.clock ≡ (pages_after (by_place g.L.Law.opening k.pages) p.view.memory.seen c.loop-sought.leaf).clock) same c.store.ensures.clock in
    let keeps = kept_here sizes g.L.Trees.ROOTS (g.L.Law.lawful sizes.pages) (by_place g.L.Law.opening sizes.pages) c.args.sought.root c.args.first c.loop-sought.leaf c.args.sought.low c.loop-sought.start c.args.sought.high c.args.out.now c.loop-sought.out p0 p i
    c.store.result c.store.ensures.page clock c.store.ensures.place in
    let some : 0 < c.loop-sought.out.chunk_room = (let e = c.room.ensures.chunks in let ne = c.if-room-eq0.false in omega arith) in
    subst (λ (o : HeldChunks). HasRunToStop sizes (g.L.Law.lawful sizes.pages) (by_place g.L.Law.opening sizes.pages) g.L.Trees.ROOTS c.args.sought.root c.args.first c.args.sought.low c.args.sought.high (record { next = c.loop-sought.start; kept = c.store.result }) c.args.out.now o p0 r) (sym put.0)
    (halted sizes g.L.Trees.ROOTS (g.L.Law.lawful sizes.pages) (by_place g.L.Law.opening sizes.pages) c.facts_of_trees.ensures.laws c.args.sought.root c.args.first c.loop-sought.leaf c.args.sought.low c.loop-sought.start c.args.sought.high c.args.out.now c.loop-sought.out p0 p i found q at
    r (c.leave_front.ensures.left front) c.leave_front.ensures.aside some c.store.result keeps c.store.ensures.page c.store.ensures.place put.1 (part_short at.along.last.image c.loop-sought.start found.end l.tree))

pub returns-then-is_same-clause-scanned : goal.returns-then-is_same-clause-scanned
returns-then-is_same-clause-scanned g c =
    let sizes : Sizes = c.args.mtr.now.latches.now.sizes in let p0 : PassState = c.args.mtr.now.pass.now in let p : PassState = c.loop-sought.mtr.pass.now in let q : PassState = c.reach_end-found.new.mtr.pass.now in
    let r : PassState = c.leave_front.new.mtr.pass.now in
    let found = c.reach_end-found.result in
    let i = c.loop-sought.invariant.to in
    let at = reached g (goal.at.returns-then-is_same-clause-scanned g c).After-reach_end-found in
    let l = along_loaded sizes g.L.Trees.ROOTS (g.L.Law.lawful sizes.pages) (by_place g.L.Law.opening sizes.pages) c.facts_of_trees.ensures.laws c.args.sought.root c.loop-sought.start found.leaf found.passed p q at.along in
    let front = some_front sizes g.L.Trees.ROOTS (g.L.Law.lawful sizes.pages) (by_place g.L.Law.opening sizes.pages) c.facts_of_trees.ensures.laws c.args.sought.root c.loop-sought.start found.leaf found.passed p q at.along in
    let span = span_read sizes g.L.Trees.ROOTS (g.L.Law.lawful sizes.pages) (by_place g.L.Law.opening sizes.pages) c.facts_of_trees.ensures.laws c.args.sought.root c.args.first c.loop-sought.leaf c.args.sought.low c.loop-sought.start c.args.sought.high c.args.out.now c.loop-sought.out p0 p i found q at in
    let put = subst (λ (b : Bool). HasPut span b c.loop-sought.out c.put-fits.new.out) c.if-not-fits.false (subst (λ (n : ℕ). HasPut (record span { place = n }) c.put-fits.result c.loop-sought.out c.put-fits.new.out) c.place-place.ensures (c.put-fits.ensures at.along.last.image l.is)) in
    let same : found.end ≡ c.args.sought.high = rank_injective found.end c.args.sought.high (c.is_same.ensures.same.0 c.if-is_same.true) in
    ended sizes g.L.Trees.ROOTS (g.L.Law.lawful sizes.pages) (by_place g.L.Law.opening sizes.pages) c.facts_of_trees.ensures.laws c.args.sought.root c.args.first c.loop-sought.leaf c.args.sought.low c.loop-sought.start c.args.sought.high c.args.out.now c.loop-sought.out p0 p i found q at
    r (c.leave_front.ensures.left front) c.leave_front.ensures.aside c.put-fits.new.out put (part_short at.along.last.image c.loop-sought.start found.end l.tree) same

pub unwrap-start-requires : goal.unwrap-start-requires
unwrap-start-requires g c =
    let sizes : Sizes = c.args.mtr.now.latches.now.sizes in let p0 : PassState = c.args.mtr.now.pass.now in let p : PassState = c.loop-sought.mtr.pass.now in let q : PassState = c.reach_end-found.new.mtr.pass.now in
    let found = c.reach_end-found.result in
    let at = reached g (goal.at.unwrap-start-requires g c).After-reach_end-found in
    let le = ends_within c.loop-sought.start c.args.sought.high found.end at.along.last.image at.ends in
    let ne : rank found.end ≢ rank c.args.sought.high = λ e. (let t : c.is_same.result ≡ true = c.is_same.ensures.same.1 e in let f : c.is_same.result ≡ false = c.if-is_same.false in cc) in
    some_after found.end c.args.sought.high c.after.result c.after.ensures.next (omega arith) c.is_same.ensures.second

pub loop-sought-smaller : goal.loop-sought-smaller
loop-sought-smaller g c =
    let sizes : Sizes = c.args.mtr.now.latches.now.sizes in let p0 : PassState = c.args.mtr.now.pass.now in let p : PassState = c.loop-sought.mtr.pass.now in let q : PassState = c.reach_end-found.new.mtr.pass.now in
    let r : PassState = c.leave_front.new.mtr.pass.now in
    let found = c.reach_end-found.result in
    let i = c.loop-sought.invariant.to in
    let at = reached g (goal.at.loop-sought-smaller g c).After-reach_end-found in
    let l = along_loaded sizes g.L.Trees.ROOTS (g.L.Law.lawful sizes.pages) (by_place g.L.Law.opening sizes.pages) c.facts_of_trees.ensures.laws c.args.sought.root c.loop-sought.start found.leaf found.passed p q at.along in
    let span = span_read sizes g.L.Trees.ROOTS (g.L.Law.lawful sizes.pages) (by_place g.L.Law.opening sizes.pages) c.facts_of_trees.ensures.laws c.args.sought.root c.args.first c.loop-sought.leaf c.args.sought.low c.loop-sought.start c.args.sought.high c.args.out.now c.loop-sought.out p0 p i found q at in
    let put = subst (λ (b : Bool). HasPut span b c.loop-sought.out c.put-fits.new.out) c.if-not-fits.false (subst (λ (n : ℕ). HasPut (record span { place = n }) c.put-fits.result c.loop-sought.out c.put-fits.new.out) c.place-place.ensures (c.put-fits.ensures at.along.last.image l.is)) in
    let fell = put.chunk_room in omega arith

pub loop-sought-preserved : goal.loop-sought-preserved
loop-sought-preserved g c =
    let sizes : Sizes = c.args.mtr.now.latches.now.sizes in let p0 : PassState = c.args.mtr.now.pass.now in let p : PassState = c.loop-sought.mtr.pass.now in let q : PassState = c.reach_end-found.new.mtr.pass.now in
    let r : PassState = c.leave_front.new.mtr.pass.now in
    let found = c.reach_end-found.result in
    let i = c.loop-sought.invariant.to in
    let at = reached g (goal.at.loop-sought-preserved g c).After-reach_end-found in
    let l = along_loaded sizes g.L.Trees.ROOTS (g.L.Law.lawful sizes.pages) (by_place g.L.Law.opening sizes.pages) c.facts_of_trees.ensures.laws c.args.sought.root c.loop-sought.start found.leaf found.passed p q at.along in
    let span = span_read sizes g.L.Trees.ROOTS (g.L.Law.lawful sizes.pages) (by_place g.L.Law.opening sizes.pages) c.facts_of_trees.ensures.laws c.args.sought.root c.args.first c.loop-sought.leaf c.args.sought.low c.loop-sought.start c.args.sought.high c.args.out.now c.loop-sought.out p0 p i found q at in
    let put = subst (λ (b : Bool). HasPut span b c.loop-sought.out c.put-fits.new.out) c.if-not-fits.false (subst (λ (n : ℕ). HasPut (record span { place = n }) c.put-fits.result c.loop-sought.out c.put-fits.new.out) c.place-place.ensures (c.put-fits.ensures at.along.last.image l.is)) in
    let front = some_front sizes g.L.Trees.ROOTS (g.L.Law.lawful sizes.pages) (by_place g.L.Law.opening sizes.pages) c.facts_of_trees.ensures.laws c.args.sought.root c.loop-sought.start found.leaf found.passed p q at.along in
    let le = ends_within c.loop-sought.start c.args.sought.high found.end at.along.last.image at.ends in
    let ne : rank found.end ≢ rank c.args.sought.high = λ e. (let t : c.is_same.result ≡ true = c.is_same.ensures.same.1 e in let f : c.is_same.result ≡ false = c.if-is_same.false in cc) in
    let lt : rank found.end < rank c.args.sought.high = omega arith in
    record {
      mtr = c.leave_front.ensures.still.mtr;
      latches = c.leave_front.ensures.still.latches ∙ (c.reach_end-found.ensures.still.latches ∙ c.loop-sought.invariant.latches);
      pass = c.leave_front.ensures.still.pass ∙ (c.reach_end-found.ensures.still.pass ∙ c.loop-sought.invariant.pass);
      to = again sizes g.L.Trees.ROOTS (g.L.Law.lawful sizes.pages) (by_place g.L.Law.opening sizes.pages) c.facts_of_trees.ensures.laws c.args.sought.root c.args.first c.loop-sought.leaf c.args.sought.low c.loop-sought.start c.args.sought.high c.args.out.now c.loop-sought.out p0 p i found q at
          r (c.leave_front.ensures.left front) c.leave_front.ensures.aside c.put-fits.new.out put (part_short at.along.last.image c.loop-sought.start found.end l.tree)
          c.unwrap-start.result (sym c.after.ensures.next ∙ c.unwrap-start.ensures) lt;
    }
