-- What a change holds of one of two trees when it has come to the key's path.
use Rattle.std.proofs.Common.{◌≡◌, ℕ, ◌≤◌, true, List, arith}
use Rattle.ib_map.specs.Keys.{MapKey}
use Rattle.ib_page.specs.Work.{WorkPage}
use Rattle.ib_walk.specs.Pages.{PageMemory}
use Rattle.ib_walk.specs.Trees.{height_of}
use Rattle.ib_plans.specs.Agreement.{Agrees, IsThere, last_of}
use Rattle.ib_tree.specs.PageLists.{is_listed}
use Rattle.ib_cursor.specs.Claims.{IsPathWithLeaves}
use Rattle.ib_second.specs.PathImages.{HasPathImages}
use Rattle.ib_index.proofs.HeldLaws.{held-last, held-trees, held-zero}
use Rattle.ib_index.proofs.PathHeld.{held-long, held-some, next-there, path-held}

module _ (pages root : ℕ) (key : MapKey) (path held : List ℕ) (work : List WorkPage) (m : PageMemory) (bits : ℕ → ℕ) (a : Agrees pages 2 root key path work m bits)
    (w : IsPathWithLeaves m path held) (there : (n : ℕ) → is_listed held n ≡ true → IsThere work n) where
  ways : (n : ℕ) → is_listed path n ≡ true → is_listed held n ≡ true
  ways = path-held pages 2 root key path held work m bits a w

  pub path-images : HasPathImages path held work
  path-images = record {
    trees = held-trees pages 2 root key path work m bits a held ways there;
    leaf = there (last_of path) (held-last pages 2 root key path work m bits a held ways there);
    next = next-there pages 2 root key path held work m bits a w there;
    zero = held-zero pages 2 root key path work m bits a held ways there (held-some pages 2 root key path held work m bits a w);
    few =
        let long = held-long pages 2 root key path held work m bits a w in
        let low : height_of m root ≤ 3 = (a.lawful.trees root a.some a.within).1 in omega arith;
  }
