-- The index is how many records stand before the offset at which the walk ended.
use Rattle.std.proofs.Common.{arith, ◌≡◌, ◌∙◌, ◌+◌, ◌-◌, ap, sym, subst, List, ℕ, Some, Option, slice_get, IsSomeAnd}
use Rattle.ib_map.specs.Keys.{MapKey, rank}
use Rattle.ib_map.specs.Pairs.{index_of, value_at}
use Rattle.ib_heap.specs.Chain.{nodes_of, up_to}
use Rattle.ib_heap.specs.Image.{records_of}
use Rattle.ib_heap.proofs.SeekLaws.{known}
use Rattle.ib_heap.proofs.FindLaws.{found, absent-at, has-record, within-records, up_to-records}
use Rattle.ib_heap.proofs.search.find_in.Goals as goal

-- the steps behind the slot before it give the key's index
is-index : (steps index : ℕ) (ws : List ℕ) (slot : ℕ) (key : MapKey) → up_to slot (nodes_of ws) + steps ≡ index_of key (records_of ws) → index ≡ up_to slot (nodes_of ws) → index + steps ≡ index_of key (records_of ws)
is-index steps index ws slot key one two = omega arith

pub overflow_add-index : goal.overflow_add-index
overflow_add-index g c =
    let ws = g.W.PageWords.words c.args.page.now in let kn = known ws c.requires.tree in let se = c.seek-cursor.ensures in
    let behind = rw se.still.same at c.index_behind.ensures.index in
    let e = is-index c.seek-cursor.result.steps c.index_behind.result ws (c.seek-cursor.result.slot - 1) c.args.key se.steps behind in
    let few = up_to-records ws c.args.key c.seek-cursor.result.before c.seek-cursor.result.at kn se.before se.at in
    let long = kn.long in let most = kn.few in omega arith

pub returns-then-cursor-clause-found : goal.returns-then-cursor-clause-found
returns-then-cursor-clause-found g c =
    let ws = g.W.PageWords.words c.args.page.now in let kn = known ws c.requires.tree in let se = c.seek-cursor.ensures in
    let behind = rw se.still.same at c.index_behind.ensures.index in
    let e = is-index c.seek-cursor.result.steps c.index_behind.result ws (c.seek-cursor.result.slot - 1) c.args.key se.steps behind in
    let there = se.found c.if-cursor.true in
    let lt = within-records ws c.args.key c.seek-cursor.result.before c.seek-cursor.result.at kn se.before se.at there.0 in
    let at = ap (λ i. slice_get (records_of ws) i) e ∙ has-record ws c.args.key c.seek-cursor.result.before c.seek-cursor.result.at kn se.before se.at there.0 in
    record {
      index = e;
      in_range = omega arith;
      found = subst (λ (o : Option (MapKey × ℕ)). IsSomeAnd o (λ r. r.0 ≡ c.args.key)) (sym at) there.1;
      value = subst (λ (o : Option (MapKey × ℕ)). IsSomeAnd o (λ r. value_at c.args.key (records_of ws) ≡ Some r.1)) (sym at)
          (found ws c.args.key c.seek-cursor.result.before c.seek-cursor.result.at kn se.before se.at there.0 (ap rank there.1));
      absent = tt;
    }

pub returns-else-cursor-clause-found : goal.returns-else-cursor-clause-found
returns-else-cursor-clause-found g c =
    let ws = g.W.PageWords.words c.args.page.now in let kn = known ws c.requires.tree in let se = c.seek-cursor.ensures in
    let behind = rw se.still.same at c.index_behind.ensures.index in
    let e = is-index c.seek-cursor.result.steps c.index_behind.result ws (c.seek-cursor.result.slot - 1) c.args.key se.steps behind in
    let few = up_to-records ws c.args.key c.seek-cursor.result.before c.seek-cursor.result.at kn se.before se.at in
    record {
      index = e;
      in_range = omega arith;
      found = tt;
      value = tt;
      absent = absent-at ws c.args.key c.seek-cursor.result.before c.seek-cursor.result.at kn se.before se.at (se.other c.if-cursor.false);
    }
