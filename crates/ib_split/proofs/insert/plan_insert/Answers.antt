-- The plan, for every memory whose pages these are.
use Rattle.std.proofs.Common.{◌≡◌, ◌∙◌, ℕ, ◌<◌, ◌≤◌, List, length, take, length-take, false, refl, ap, sym, subst, arith, Option, Some, None}
use Rattle.std.specs.Prelude.{is_some}
use Rattle.std.specs.List.{AllByRecursion}
use Rattle.ib_map.specs.Keys.{MapKey}
use Rattle.ib_map.specs.Pairs.{value_at}
use Rattle.ib_page.specs.Work.{WorkPage}
use Rattle.ib_walk.specs.Full.{need_of, chosen}
use Rattle.ib_walk.specs.Trees.{height_of}
use Rattle.ib_plans.proofs.PathListLaws.{length-path_down}
use Rattle.ib_plans.specs.Agreement.{SetsBits, memory_in, reads_of, last_of}
use Rattle.ib_split.specs.Inserts.{CanInsert, IsInsertClimbedForAll, IsPlannedInsertForAll, MayTakePages}
use Rattle.ib_split.proofs.Climbing.{has-room}
use Rattle.ib_split.proofs.Planning.{AreFresh-take, chosen-below, planned-alone, may-take, planned-taken}
use Rattle.ib_split.proofs.insert.plan_insert.Goals as goal

-- where a path was climbed, page 0 makes it the plan
module _ (path fresh : List ℕ) (key : MapKey) (value used : ℕ) (old mid : List WorkPage) (can : CanInsert path fresh key old) (climbed : IsInsertClimbedForAll path fresh key value used old mid)
    (few : used ≤ length fresh) where
  count : length (take used fresh) ≡ used
  count = let t = length-take used fresh in omega arith

  below : (pages : ℕ) (bits : ℕ → ℕ) (need : ℕ) → fresh ≡ chosen bits pages need → AllByRecursion (λ q. q < pages) (take used fresh)
  below pages bits need is = subst (λ xs. AllByRecursion (λ q. q < pages) (take used xs)) (sym is) (chosen-below bits pages need used)

  alone : used ≡ 0 → IsPlannedInsertForAll path fresh key value old mid
  alone none pages roots root m bits agrees fits =
      planned-alone pages agrees.few (take used fresh) m _ bits _ _ _ old mid (climbed pages roots root m bits agrees fits) agrees.space
      (below pages bits (need_of m key root) fits.chosen_are) (let c = count in omega arith)

  may : 0 < used → value_at key (memory_in old (last_of path)).records ≡ None → MayTakePages (take used fresh) mid
  may some absent =
      let x = has-room path fresh key 0 old can.images can.clocks absent can.pages can.roots can.root can.memory can.bits can.agrees can.fits in
      may-take can.pages can.agrees.few (take used fresh) can.memory _ can.bits _ _ _ old mid (climbed can.pages can.roots can.root can.memory can.bits can.agrees can.fits) can.agrees.space
      (below can.pages can.bits (need_of can.memory key can.root) can.fits.chosen_are) (let c = count in omega arith)
      (can.images.space_there (omega arith)) (AreFresh-take used fresh can.bits x.free) can.clocks.1

  taken : 0 < used → (new : List WorkPage) → SetsBits 1 (take used fresh) mid new → IsPlannedInsertForAll path fresh key value old new
  taken some new takes pages roots root m bits agrees fits =
      planned-taken pages agrees.few (take used fresh) m _ bits _ _ _ old mid (climbed pages roots root m bits agrees fits) agrees.space
      (below pages bits (need_of m key root) fits.chosen_are) (let c = count in omega arith) new takes

  reads-alone : used ≡ 0 → reads_of mid ≡ reads_of old
  reads-alone none = (alone none can.pages can.roots can.root can.memory can.bits can.agrees can.fits).reads

  reads-taken : 0 < used → (new : List WorkPage) → SetsBits 1 (take used fresh) mid new → reads_of new ≡ reads_of old
  reads-taken some new takes = (taken some new takes can.pages can.roots can.root can.memory can.bits can.agrees can.fits).reads

-- the climb is along the path and over the fresh pages
climb-of : (path path2 fresh fresh2 : List ℕ) (key : MapKey) (value used : ℕ) (old mid : List WorkPage) → path2 ≡ path → fresh2 ≡ fresh → IsInsertClimbedForAll path2 fresh2 key value used old mid → IsInsertClimbedForAll path fresh key value used old mid
climb-of path path2 fresh fresh2 key value used old mid p f climbed =
    subst (λ xs. IsInsertClimbedForAll path xs key value used old mid) f (subst (λ xs. IsInsertClimbedForAll xs fresh2 key value used old mid) p climbed)

none-of : (o : Option ℕ) → is_some o ≡ false → o ≡ None
none-of None e = refl
none-of (Some x) e = cc

-- a path has a page
path-some : (path fresh : List ℕ) (key : MapKey) (work : List WorkPage) → CanInsert path fresh key work → 0 < length path
path-some path fresh key work can =
    let a = ap length can.agrees.way in let b = length-path_down can.memory key (height_of can.memory can.root) can.root in omega arith

pub value_in-requires-clause-some : goal.value_in-requires-clause-some
value_in-requires-clause-some c =
    let some = path-some c.args.path.now c.args.fresh.now c.args.key c.args.work.now c.requires in let e = ap length c.pages.ensures.pages in omega arith

pub climb-used-requires-clause-some : goal.climb-used-requires-clause-some
climb-used-requires-clause-some c =
    let some = path-some c.args.path.now c.args.fresh.now c.args.key c.args.work.now c.requires in let e = ap length c.pages-2.ensures.pages in omega arith

pub take_pages-requires : goal.take_pages-requires
take_pages-requires c =
    let climbed = climb-of c.args.path.now c.pages-2.result.now c.args.fresh.now c.pages-3.result.now c.args.key c.args.value c.climb-used.result c.args.work.now c.climb-used.new.work c.pages-2.ensures.pages c.pages-3.ensures.pages c.climb-used.ensures.climbed in
    let few : c.climb-used.result ≤ length c.args.fresh.now = let u = c.climb-used.ensures.used in let e = ap length c.pages-3.ensures.pages in omega arith in
    subst (λ xs. MayTakePages (take c.climb-used.result xs) c.climb-used.new.work) (sym c.pages-then-used-gt0.ensures.pages)
    (may c.args.path.now c.args.fresh.now c.args.key c.args.value c.climb-used.result c.args.work.now c.climb-used.new.work c.requires climbed few c.if-used-gt0.true
    (ap (λ ps. value_at c.args.key (memory_in c.args.work.now (last_of ps)).records) (sym c.pages.ensures.pages) ∙ (sym c.value_in.ensures ∙ none-of c.value_in.result (sym c.is_some.ensures ∙ c.if-is_some.false))))

pub returns-then-used-gt0-clause-planned : goal.returns-then-used-gt0-clause-planned
returns-then-used-gt0-clause-planned c =
    let climbed = climb-of c.args.path.now c.pages-2.result.now c.args.fresh.now c.pages-3.result.now c.args.key c.args.value c.climb-used.result c.args.work.now c.climb-used.new.work c.pages-2.ensures.pages c.pages-3.ensures.pages c.climb-used.ensures.climbed in
    let few : c.climb-used.result ≤ length c.args.fresh.now = let u = c.climb-used.ensures.used in let e = ap length c.pages-3.ensures.pages in omega arith in
    taken c.args.path.now c.args.fresh.now c.args.key c.args.value c.climb-used.result c.args.work.now c.climb-used.new.work c.requires climbed few c.if-used-gt0.true c.take_pages.new.work
    (subst (λ xs. SetsBits 1 (take c.climb-used.result xs) c.climb-used.new.work c.take_pages.new.work) c.pages-then-used-gt0.ensures.pages c.take_pages.ensures)

pub returns-then-used-gt0-clause-reads : goal.returns-then-used-gt0-clause-reads
returns-then-used-gt0-clause-reads c =
    let climbed = climb-of c.args.path.now c.pages-2.result.now c.args.fresh.now c.pages-3.result.now c.args.key c.args.value c.climb-used.result c.args.work.now c.climb-used.new.work c.pages-2.ensures.pages c.pages-3.ensures.pages c.climb-used.ensures.climbed in
    let few : c.climb-used.result ≤ length c.args.fresh.now = let u = c.climb-used.ensures.used in let e = ap length c.pages-3.ensures.pages in omega arith in
    reads-taken c.args.path.now c.args.fresh.now c.args.key c.args.value c.climb-used.result c.args.work.now c.climb-used.new.work c.requires climbed few c.if-used-gt0.true c.take_pages.new.work
    (subst (λ xs. SetsBits 1 (take c.climb-used.result xs) c.climb-used.new.work c.take_pages.new.work) c.pages-then-used-gt0.ensures.pages c.take_pages.ensures)

pub returns-else-used-gt0-clause-planned : goal.returns-else-used-gt0-clause-planned
returns-else-used-gt0-clause-planned c =
    let climbed = climb-of c.args.path.now c.pages-2.result.now c.args.fresh.now c.pages-3.result.now c.args.key c.args.value c.climb-used.result c.args.work.now c.climb-used.new.work c.pages-2.ensures.pages c.pages-3.ensures.pages c.climb-used.ensures.climbed in
    let few : c.climb-used.result ≤ length c.args.fresh.now = let u = c.climb-used.ensures.used in let e = ap length c.pages-3.ensures.pages in omega arith in
    alone c.args.path.now c.args.fresh.now c.args.key c.args.value c.climb-used.result c.args.work.now c.climb-used.new.work c.requires climbed few (let f = c.if-used-gt0.false in omega arith)

pub returns-else-used-gt0-clause-reads : goal.returns-else-used-gt0-clause-reads
returns-else-used-gt0-clause-reads c =
    let climbed = climb-of c.args.path.now c.pages-2.result.now c.args.fresh.now c.pages-3.result.now c.args.key c.args.value c.climb-used.result c.args.work.now c.climb-used.new.work c.pages-2.ensures.pages c.pages-3.ensures.pages c.climb-used.ensures.climbed in
    let few : c.climb-used.result ≤ length c.args.fresh.now = let u = c.climb-used.ensures.used in let e = ap length c.pages-3.ensures.pages in omega arith in
    reads-alone c.args.path.now c.args.fresh.now c.args.key c.args.value c.climb-used.result c.args.work.now c.climb-used.new.work c.requires climbed few (let f = c.if-used-gt0.false in omega arith)
