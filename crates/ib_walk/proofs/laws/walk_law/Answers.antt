-- The law of walks, clause by clause.
use Rattle.std.specs.Prelude.{◌==◌}
use Rattle.std.proofs.Common.{arith}
use Rattle.std.proofs.lemmas.Map.Keys.{IsDistinct-tail}
use Rattle.ib_walk.specs.Trees.{pages_met}
use Rattle.ib_map.proofs.KeyLaws.{rank-lt_end}
use Rattle.ib_walk.proofs.TreeLaws.{IsPageFor-leaf, value_at-content_of, IsTiled-leaves, Rises-content_of}
use Rattle.ib_walk.proofs.SpaceLaws.{image_of-opening, IsLawfulMemory-opening, content_of-opening}
use Rattle.ib_walk.proofs.laws.walk_law.Goals as goal

pub returns-clause-map : goal.returns-clause-map
returns-clause-map c memory bits roots root law some le = Rises-content_of memory root (law.trees root some le).0

pub returns-clause-tiled : goal.returns-clause-tiled
returns-clause-tiled c memory bits roots root law some le = IsTiled-leaves memory root (law.trees root some le).0

pub returns-clause-once : goal.returns-clause-once
returns-clause-once c memory bits roots law = IsDistinct-tail ◌==◌ 0 (pages_met memory roots) law.met.once

pub returns-clause-leaf : goal.returns-clause-leaf
returns-clause-leaf c memory bits roots root key law some le = IsPageFor-leaf memory key root (rank-lt_end key) (law.trees root some le).0

pub returns-clause-value : goal.returns-clause-value
returns-clause-value c memory bits roots root key law some le = value_at-content_of memory key root (rank-lt_end key) (law.trees root some le).0

pub returns-clause-opening : goal.returns-clause-opening
returns-clause-opening c pages roots fits some few = IsLawfulMemory-opening roots some few pages fits

pub returns-clause-images : goal.returns-clause-images
returns-clause-images c roots page = image_of-opening roots page

pub returns-clause-empty : goal.returns-clause-empty
returns-clause-empty c roots root few some le = content_of-opening roots (omega arith) few root some le
