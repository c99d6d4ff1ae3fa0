-- The list is parted by the test, and the point that parts it is the index.
use Rattle.std.proofs.Common.{ℕ, sym, ltb, rules}
use Rattle.std.proofs.lemmas.Bool.{ltb_from_iff}
use Rattle.std.proofs.lemmas.List.Sorted.{IsPartitionPoint-from_clause}
use Rattle.ib_map.specs.Keys.{MapKey, rank, end_rank, least}
use Rattle.ib_map.proofs.IndexLaws.{prefix_len-parted, below-parted}
use Rattle.ib_map.proofs.plain.index_of.Goals as goal

pub returns-clause-index : goal.returns-clause-index
returns-clause-index c =
    let found = c.partition_point.ensures in
    let is_below_key = λ (pair : MapKey × ℕ). ltb (rank pair.0) (rank c.args.key) in
    sym (prefix_len-parted is_below_key _ _ (least, 0) found.bound
    (IsPartitionPoint-from_clause is_below_key _ _ found.partitioned (below-parted c.args.key 0 c.args.pairs.now end_rank c.requires) (λ x r f called. search (rules, ltb_from_iff))))
