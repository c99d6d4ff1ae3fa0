-- The owner in the middle is below the key, or it is not.
use Rattle.std.proofs.Common.{◌≡◌, arith, ◌+◌, ◌-◌, ◌/◌, ◌∙◌, ◌<◌, ◌≤◌, ◌⊎◌, inl, inr, length, sym, subst, true, List, ℕ}
use Rattle.std.proofs.lemmas.Bool.{cases_lt}
use Rattle.ib_map.specs.Keys.{rank}
use Rattle.ib_map.specs.Pairs.{index_of}
use Rattle.ib_heap.specs.Chain.{is_key_at, key_at, nodes_of, owners, up_to}
use Rattle.ib_heap.specs.Image.{records_of}
use Rattle.ib_heap.proofs.SeekLaws.{known, slot-below, slot-above}
use Rattle.ib_heap.proofs.directory.slot_of.Goals as goal
use Rattle.ib_heap.proofs.directory.slot_of.Goals.{then-is_below_at, else-is_below_at}

pub is_below_at-requires-clause-keyed : goal.is_below_at-requires-clause-keyed
is_below_at-requires-clause-keyed g c =
    let test = c.loop-rest-test.true in
    let range = c.loop-rest.invariant.in_range in
    let keyed = rw c.loop-rest.invariant.same at c.owner-offset.ensures.keyed in
    subst (λ (xs : List ℕ). is_key_at xs c.owner-offset.result ≡ true) (sym (c.owner-offset.ensures.still.same ∙ c.loop-rest.invariant.same)) (keyed (omega arith) (omega arith))

pub loop-rest-preserved : goal.loop-rest-preserved
loop-rest-preserved g c =
    let ws = g.W.PageWords.words c.args.page.now in
    let middle = c.loop-rest.low + c.loop-rest.rest / 2 in
    let next = c.if-is_below_at.low + (c.loop-rest.rest - c.loop-rest.rest / 2) in
    let test = c.loop-rest-test.true in
    let range = c.loop-rest.invariant.in_range in
    let offset = rw c.loop-rest.invariant.same at c.owner-offset.ensures.offset in
    let same = c.owner-offset.ensures.still.same ∙ c.loop-rest.invariant.same in
    let below = rw same at c.is_below_at.ensures.below in
    let read = g.met.W.PageWords.read_more _ _ _ c.loop-rest.invariant.read (g.met.W.PageWords.read_more _ _ _ c.owner-offset.ensures.still.read c.is_below_at.ensures.still.read) in
    elim c.if-is_below_at.branch [
      | then-is_below_at w ↦
          let is = w.low-is in
          let lower = below.0 w.if-is_below_at.true in
          let end : c.loop-rest.low + c.loop-rest.rest ≡ next = omega arith in
          record {
            same = c.is_below_at.ensures.still.same ∙ same;
            can = c.is_below_at.ensures.still.can;
            read = read;
            some = omega arith;
            in_range = omega arith;
            low = rw is (slot-below ws middle c.owner-offset.result c.args.key (known ws c.requires.tree) (omega arith) (omega arith) (offset (omega arith)) lower);
            high = subst (λ (n : ℕ). (index_of c.args.key (records_of ws) < up_to n (nodes_of ws)) ⊎ (n ≡ length (owners (nodes_of ws)))) end c.loop-rest.invariant.high;
          }
      | else-is_below_at w ↦
          let is = w.low-is in
          let higher : rank c.args.key ≤ rank (key_at ws c.owner-offset.result) = elim (cases_lt (rank (key_at ws c.owner-offset.result)) (rank c.args.key)) [
            | inl lt ↦ absurd (let yes = below.1 lt in let no = w.if-is_below_at.false in cc)
            | inr ge ↦ ge
          ] in
          record {
            same = c.is_below_at.ensures.still.same ∙ same;
            can = c.is_below_at.ensures.still.can;
            read = read;
            some = omega arith;
            in_range = omega arith;
            low = rw is c.loop-rest.invariant.low;
            high = inl (slot-above ws middle next c.owner-offset.result c.args.key (known ws c.requires.tree) (omega arith) (omega arith) (omega arith) (offset (omega arith)) higher);
          }
    ]
