-- Each step of the climb, for every memory whose pages these are.
use Rattle.std.proofs.Common.{◌≡◌, ◌∙◌, ℕ, ◌-◌, false, List, length, get_or, take, ap, subst, sym, arith}
use Rattle.std.specs.Prelude.{IsSomeAnd, ◌==◌}
use Rattle.ib_heap.specs.declared.TheConstants.{MOST_RECORDS}
use Rattle.ib_page.specs.Image.{IsTreePage}
use Rattle.ib_map.specs.Keys.{MapKey}
use Rattle.ib_page.specs.Work.{WorkPage, changed_of}
use Rattle.ib_walk.specs.Pages.{PageMemory}
use Rattle.ib_walk.specs.Trees.{height_of}
use Rattle.ib_walk.proofs.SearchLaws.{above-zero}
use Rattle.ib_plans.specs.Insert.{planned_insert}
use Rattle.ib_plans.specs.Moves.{Puts, HasMoved}
use Rattle.ib_plans.specs.Agreement.{IsClimbed, memory_in, Sets, tick}
use Rattle.ib_split.specs.Inserts.{CanPut, with_record}
use Rattle.ib_split.proofs.OnPathLaws.{path-length, path-page, path-at}
use Rattle.ib_split.proofs.Pending.{IsPending, IsPending-leaf}
use Rattle.ib_split.proofs.Climbing.{tree-at, put-can, put-done, fresh-few, split-can, split-done, fresh-two, raise-can, raise-done}
use Rattle.ib_split.proofs.insert.climb.Goals as goal

pub loop-used-init : goal.loop-used-init
loop-used-init c pages roots root m bits agrees fits =
    let len = path-length pages roots root c.args.key c.args.path.now c.args.work.now m bits agrees in
    let tall = sym (above-zero (height_of m root)) in
    let last : length c.args.path.now - 1 - 0 ≡ height_of m root = omega arith in
    let page : get_or c.args.path.now (length c.args.path.now - 1 - 0) 0 ≡ _ = ap (λ i. get_or c.args.path.now i 0) last ∙ path-at pages roots root c.args.key c.args.path.now c.args.work.now m bits agrees (height_of m root) 0 tall in
    IsPending-leaf c.args.key c.args.value c.args.fresh.now c.args.work.now m bits (get_or c.args.path.now (length c.args.path.now - 1 - 0) 0)
    (λ z. (path-page pages roots root c.args.key c.args.path.now c.args.work.now m bits agrees (height_of m root) 0 tall).some (sym page ∙ z)) agrees.same

pub is_full-requires : goal.is_full-requires
is_full-requires c =
    let can = c.requires.can in
    tree-at c.args.path.now c.args.fresh.now c.args.key c.args.value c.args.work.now can.images can.clocks c.requires.absent can.pages can.roots can.root can.memory can.bits can.agrees can.fits
    c.loop-used.used (let t = c.loop-used-test.true in omega arith) c.loop-used.key c.loop-used.value c.loop-used.work (c.loop-used.invariant can.pages can.roots can.root can.memory can.bits can.agrees can.fits)

pub put_record-requires : goal.put_record-requires
put_record-requires c =
    let can = c.requires.can in
    put-can c.args.path.now c.args.fresh.now c.args.key c.args.value c.args.work.now can.images can.clocks c.requires.absent can.pages can.roots can.root can.memory can.bits can.agrees can.fits
    c.loop-used.used (let t = c.loop-used-test.true in omega arith) c.loop-used.key c.loop-used.value c.loop-used.work (c.loop-used.invariant can.pages can.roots can.root can.memory can.bits can.agrees can.fits)
    (sym c.is_full.ensures ∙ c.if-not-is_full.true)

pub returns-then-not-is_full-clause-climbed : goal.returns-then-not-is_full-clause-climbed
returns-then-not-is_full-clause-climbed c pages roots root m bits agrees fits =
    let can = c.requires.can in
    put-done c.args.path.now c.args.fresh.now c.args.key c.args.value c.args.work.now can.images can.clocks c.requires.absent pages roots root m bits agrees fits
    c.loop-used.used (let t = c.loop-used-test.true in omega arith) c.loop-used.key c.loop-used.value c.loop-used.work (c.loop-used.invariant pages roots root m bits agrees fits)
    (sym c.is_full.ensures ∙ c.if-not-is_full.true) c.put_record.new.work c.put_record.ensures.set c.put_record.ensures.put

pub returns-then-not-is_full-clause-used : goal.returns-then-not-is_full-clause-used
returns-then-not-is_full-clause-used c =
    let can = c.requires.can in (c.loop-used.invariant can.pages can.roots can.root can.memory can.bits can.agrees can.fits).few

pub bounds-fresh-used : goal.bounds-fresh-used
bounds-fresh-used c =
    let can = c.requires.can in
    fresh-few c.args.path.now c.args.fresh.now c.args.key c.args.value c.args.work.now can.images can.clocks c.requires.absent can.pages can.roots can.root can.memory can.bits can.agrees can.fits
    c.loop-used.used c.loop-used-test.true c.loop-used.key c.loop-used.value c.loop-used.work (c.loop-used.invariant can.pages can.roots can.root can.memory can.bits can.agrees can.fits)
    (sym c.is_full.ensures ∙ c.if-not-is_full.false)

pub split-key-requires : goal.split-key-requires
split-key-requires c =
    let can = c.requires.can in
    split-can c.args.path.now c.args.fresh.now c.args.key c.args.value c.args.work.now can.images can.clocks c.requires.absent can.pages can.roots can.root can.memory can.bits can.agrees can.fits
    c.loop-used.used c.loop-used-test.true c.loop-used.key c.loop-used.value c.loop-used.work (c.loop-used.invariant can.pages can.roots can.root can.memory can.bits can.agrees can.fits)
    (sym c.is_full.ensures ∙ c.if-not-is_full.false)

pub bounds-fresh-used-in-loop-used : goal.bounds-fresh-used-in-loop-used
bounds-fresh-used-in-loop-used c =
    let can = c.requires.can in
    fresh-few c.args.path.now c.args.fresh.now c.args.key c.args.value c.args.work.now can.images can.clocks c.requires.absent can.pages can.roots can.root can.memory can.bits can.agrees can.fits
    c.loop-used.used c.loop-used-test.true c.loop-used.key c.loop-used.value c.loop-used.work (c.loop-used.invariant can.pages can.roots can.root can.memory can.bits can.agrees can.fits)
    (sym c.is_full.ensures ∙ c.if-not-is_full.false)

pub loop-used-preserved : goal.loop-used-preserved
loop-used-preserved c pages roots root m bits agrees fits =
    let can = c.requires.can in
    split-done c.args.path.now c.args.fresh.now c.args.key c.args.value c.args.work.now can.images can.clocks c.requires.absent pages roots root m bits agrees fits
    c.loop-used.used c.loop-used-test.true c.loop-used.key c.loop-used.value c.loop-used.work (c.loop-used.invariant pages roots root m bits agrees fits)
    (sym c.is_full.ensures ∙ c.if-not-is_full.false) c.split-key.result c.split-key.new.work c.split-key.ensures

pub is_full-requires-2 : goal.is_full-requires-2
is_full-requires-2 c =
    let can = c.requires.can in
    let zero : length c.args.path.now - 1 - c.loop-used.used ≡ 0 = let f = c.loop-used-test.false in omega arith in
    subst (λ i. IsSomeAnd (changed_of (get_or c.args.path.now i 0) c.loop-used.work) IsTreePage) zero
    (tree-at c.args.path.now c.args.fresh.now c.args.key c.args.value c.args.work.now can.images can.clocks c.requires.absent can.pages can.roots can.root can.memory can.bits can.agrees can.fits
    c.loop-used.used (let t = c.loop-used.auto.used-end in let s = c.requires.some in omega arith) c.loop-used.key c.loop-used.value c.loop-used.work (c.loop-used.invariant can.pages can.roots can.root can.memory can.bits can.agrees can.fits))

pub put_record-requires-then-not-is_full-2 : goal.put_record-requires-then-not-is_full-2
put_record-requires-then-not-is_full-2 c =
    let can = c.requires.can in
    let zero : length c.args.path.now - 1 - c.loop-used.used ≡ 0 = let f = c.loop-used-test.false in omega arith in
    subst (λ i. CanPut (get_or c.args.path.now i 0) c.loop-used.key c.loop-used.work) zero
    (put-can c.args.path.now c.args.fresh.now c.args.key c.args.value c.args.work.now can.images can.clocks c.requires.absent can.pages can.roots can.root can.memory can.bits can.agrees can.fits
    c.loop-used.used (let t = c.loop-used.auto.used-end in let s = c.requires.some in omega arith) c.loop-used.key c.loop-used.value c.loop-used.work (c.loop-used.invariant can.pages can.roots can.root can.memory can.bits can.agrees can.fits)
    (subst (λ i. (length (memory_in c.loop-used.work (get_or c.args.path.now i 0)).records == MOST_RECORDS) ≡ false) (sym zero) (sym c.is_full-2.ensures ∙ c.if-not-is_full-2.true)))

pub returns-then-not-is_full-2-clause-climbed : goal.returns-then-not-is_full-2-clause-climbed
returns-then-not-is_full-2-clause-climbed c pages roots root m bits agrees fits =
    let can = c.requires.can in
    let zero : length c.args.path.now - 1 - c.loop-used.used ≡ 0 = let f = c.loop-used-test.false in omega arith in
    let whole : c.loop-used.used ≡ length c.args.path.now - 1 = let f = c.loop-used-test.false in let t = c.loop-used.auto.used-end in omega arith in
    subst (λ i. let g = planned_insert m bits c.args.fresh.now c.args.key c.args.value root in IsClimbed 1 (take i c.args.fresh.now) m g.memory g.bits bits g.touched g.moves c.args.work.now c.put_record-then-not-is_full-2.new.work) whole
    (put-done c.args.path.now c.args.fresh.now c.args.key c.args.value c.args.work.now can.images can.clocks c.requires.absent pages roots root m bits agrees fits
    c.loop-used.used (let s = c.requires.some in omega arith) c.loop-used.key c.loop-used.value c.loop-used.work (c.loop-used.invariant pages roots root m bits agrees fits)
    (subst (λ i. (length (memory_in c.loop-used.work (get_or c.args.path.now i 0)).records == MOST_RECORDS) ≡ false) (sym zero) (sym c.is_full-2.ensures ∙ c.if-not-is_full-2.true))
    c.put_record-then-not-is_full-2.new.work
    (subst (λ i. Sets (get_or c.args.path.now i 0) (tick (with_record c.loop-used.key c.loop-used.value (memory_in c.loop-used.work (get_or c.args.path.now i 0)))) c.loop-used.work c.put_record-then-not-is_full-2.new.work) (sym zero)
    c.put_record-then-not-is_full-2.ensures.set)
    (subst (λ i. HasMoved (Puts c.loop-used.key) (changed_of (get_or c.args.path.now i 0) c.loop-used.work) (changed_of (get_or c.args.path.now i 0) c.put_record-then-not-is_full-2.new.work)) (sym zero)
    c.put_record-then-not-is_full-2.ensures.put))

pub returns-then-not-is_full-2-clause-used : goal.returns-then-not-is_full-2-clause-used
returns-then-not-is_full-2-clause-used c =
    let can = c.requires.can in let f = (c.loop-used.invariant can.pages can.roots can.root can.memory can.bits can.agrees can.fits).few in
    let t = c.loop-used-test.false in omega arith

-- what is left at the root
at-root : (path fresh : List ℕ) (key : MapKey) (value : ℕ) (old : List WorkPage) (m : PageMemory) (bits : ℕ → ℕ) (used : ℕ) (k : MapKey) (v : ℕ) (work : List WorkPage)
    → IsPending key value fresh old m bits used (get_or path (length path - 1 - used) 0) k v work → used ≡ length path - 1 → IsPending key value fresh old m bits (length path - 1) (get_or path 0 0) k v work
at-root path fresh key value old m bits used k v work p whole =
    let zero : length path - 1 - (length path - 1) ≡ 0 = omega arith in
    subst (λ i. IsPending key value fresh old m bits (length path - 1) (get_or path i 0) k v work) zero
    (subst (λ h. IsPending key value fresh old m bits h (get_or path (length path - 1 - h) 0) k v work) whole p)

pub raise-requires : goal.raise-requires
raise-requires c =
    let can = c.requires.can in
    raise-can c.args.path.now c.args.fresh.now c.args.key c.args.value c.args.work.now can.images can.clocks c.requires.absent can.pages can.roots can.root can.memory can.bits can.agrees can.fits
    c.loop-used.key c.loop-used.value c.loop-used.work
    (at-root c.args.path.now c.args.fresh.now c.args.key c.args.value c.args.work.now can.memory can.bits c.loop-used.used c.loop-used.key c.loop-used.value c.loop-used.work
    (c.loop-used.invariant can.pages can.roots can.root can.memory can.bits can.agrees can.fits) (let f = c.loop-used-test.false in let t = c.loop-used.auto.used-end in omega arith))
    (sym c.is_full-2.ensures ∙ c.if-not-is_full-2.false)

pub bounds-fresh-used-2 : goal.bounds-fresh-used-2
bounds-fresh-used-2 c =
    let can = c.requires.can in
    let two = fresh-two c.args.path.now c.args.fresh.now c.args.key c.args.value c.args.work.now can.images can.clocks c.requires.absent can.pages can.roots can.root can.memory can.bits can.agrees can.fits
    c.loop-used.key c.loop-used.value c.loop-used.work
    (at-root c.args.path.now c.args.fresh.now c.args.key c.args.value c.args.work.now can.memory can.bits c.loop-used.used c.loop-used.key c.loop-used.value c.loop-used.work
    (c.loop-used.invariant can.pages can.roots can.root can.memory can.bits can.agrees can.fits) (let f = c.loop-used-test.false in let t = c.loop-used.auto.used-end in omega arith))
    (sym c.is_full-2.ensures ∙ c.if-not-is_full-2.false) in omega arith

pub bounds-fresh-used-3 : goal.bounds-fresh-used-3
bounds-fresh-used-3 c =
    let can = c.requires.can in
    let two = fresh-two c.args.path.now c.args.fresh.now c.args.key c.args.value c.args.work.now can.images can.clocks c.requires.absent can.pages can.roots can.root can.memory can.bits can.agrees can.fits
    c.loop-used.key c.loop-used.value c.loop-used.work
    (at-root c.args.path.now c.args.fresh.now c.args.key c.args.value c.args.work.now can.memory can.bits c.loop-used.used c.loop-used.key c.loop-used.value c.loop-used.work
    (c.loop-used.invariant can.pages can.roots can.root can.memory can.bits can.agrees can.fits) (let f = c.loop-used-test.false in let t = c.loop-used.auto.used-end in omega arith))
    (sym c.is_full-2.ensures ∙ c.if-not-is_full-2.false) in omega arith

pub returns-clause-climbed : goal.returns-clause-climbed
returns-clause-climbed c pages roots root m bits agrees fits =
    let can = c.requires.can in
    raise-done c.args.path.now c.args.fresh.now c.args.key c.args.value c.args.work.now can.images can.clocks c.requires.absent pages roots root m bits agrees fits
    c.loop-used.key c.loop-used.value c.loop-used.work
    (at-root c.args.path.now c.args.fresh.now c.args.key c.args.value c.args.work.now m bits c.loop-used.used c.loop-used.key c.loop-used.value c.loop-used.work
    (c.loop-used.invariant pages roots root m bits agrees fits) (let f = c.loop-used-test.false in let t = c.loop-used.auto.used-end in omega arith))
    (sym c.is_full-2.ensures ∙ c.if-not-is_full-2.false) c.raise.new.work c.raise.ensures

pub returns-clause-used : goal.returns-clause-used
returns-clause-used c =
    let can = c.requires.can in
    fresh-two c.args.path.now c.args.fresh.now c.args.key c.args.value c.args.work.now can.images can.clocks c.requires.absent can.pages can.roots can.root can.memory can.bits can.agrees can.fits
    c.loop-used.key c.loop-used.value c.loop-used.work
    (at-root c.args.path.now c.args.fresh.now c.args.key c.args.value c.args.work.now can.memory can.bits c.loop-used.used c.loop-used.key c.loop-used.value c.loop-used.work
    (c.loop-used.invariant can.pages can.roots can.root can.memory can.bits can.agrees can.fits) (let f = c.loop-used-test.false in let t = c.loop-used.auto.used-end in omega arith))
    (sym c.is_full-2.ensures ∙ c.if-not-is_full-2.false)
