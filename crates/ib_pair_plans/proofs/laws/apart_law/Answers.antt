-- The laws of changes beside each other, clause by clause.
use Rattle.ib_map.proofs.KeyLaws.{rank-lt_end}
use Rattle.ib_heap.specs.declared.TheConstants.{MOST_RECORDS}
use Rattle.ib_pair_plans.proofs.InsertApart.{IsApart-insert}
use Rattle.ib_pair_plans.proofs.DeleteApart.{IsApart-delete}
use Rattle.ib_pair_plans.proofs.TreeStays.{content-stays, height-stays, need-stays, root_full-stays, path-stays}
use Rattle.ib_pair_plans.proofs.TakenLaws.{chosen-both, free_of-left}
use Rattle.ib_plans.proofs.TakenLaws.{bits-taken}
use Rattle.ib_pair_plans.proofs.laws.apart_law.Goals as goal

pub returns-clause-insert : goal.returns-clause-insert
returns-clause-insert c m bits roots root key value fresh law some le free missing room = IsApart-insert m bits roots law key value (rank-lt_end key) root some le fresh free missing room

pub returns-clause-delete : goal.returns-clause-delete
returns-clause-delete c m bits roots root key law some le = IsApart-delete m bits roots law key (rank-lt_end key) root some le

pub returns-clause-stays : goal.returns-clause-stays
returns-clause-stays c m new bits after roots root key law now some le same = (
  path-stays (λ n. MOST_RECORDS) m new bits roots law root some le same key (rank-lt_end key),
  height-stays (λ n. MOST_RECORDS) m new bits roots law root some le same,
  content-stays (λ n. MOST_RECORDS) m new bits roots law root some le same,
  need-stays (λ n. MOST_RECORDS) m new bits roots law root some le same key (rank-lt_end key) (now.trees root some le).0,
  root_full-stays (λ n. MOST_RECORDS) m new bits roots law root some le same key (rank-lt_end key) (now.trees root some le).0,
)

pub returns-clause-taken : goal.returns-clause-taken
returns-clause-taken c m bits roots root key value fresh law some le free missing need = bits-taken m bits roots law key value (rank-lt_end key) root some le fresh free missing need

pub returns-clause-free : goal.returns-clause-free
returns-clause-free c bits pages need le = free_of-left bits pages need le

pub returns-clause-both : goal.returns-clause-both
returns-clause-both c bits pages one two = chosen-both bits pages one two
