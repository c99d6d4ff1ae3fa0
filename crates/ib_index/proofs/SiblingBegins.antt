-- What a delete that changes the tree's structure holds when it has come to the key's path.
use Rattle.std.proofs.Common.{◌≡◌, ℕ, ◌≤◌, true, List, length, arith}
use Rattle.ib_map.specs.Keys.{MapKey}
use Rattle.ib_map.specs.Space.{has_pages}
use Rattle.ib_layout.specs.Geometry.{Sizes}
use Rattle.ib_logrec.specs.Log.{by_place}
use Rattle.ib_walk.specs.Pages.{PageMemory}
use Rattle.ib_plans.specs.Agreement.{Agrees, IsThere}
use Rattle.ib_tree.specs.PageLists.{is_listed}
use Rattle.ib_tree.specs.TreeLog.{opening}
use Rattle.ib_planned_log.specs.Kept.{IsKeptLog}
use Rattle.ib_planned_log.specs.LeafChange.{kept_pages}
use Rattle.ib_rule.specs.Pass.{PassState}
use Rattle.ib_cursor.specs.Claims.{HasClaimed}
use Rattle.ib_cursor.specs.Refusals.{AreFewGrants}
use Rattle.ib_cursor.specs.Shapes.{is_claimed}
use Rattle.ib_cursor.specs.Siblings.{IsPathWithSiblings}
use Rattle.ib_index.specs.Shrinks.{HasClaimedSiblings}
use Rattle.ib_index.proofs.ClaimedLaws.{agreed, growing, path-long, path-low, path_bits}
use Rattle.ib_index.proofs.HeldLaws.{IsPageOfTree, held-zero}
use Rattle.ib_index.proofs.SiblingsHeld.{held-kind, held-long, nodes-children, path-held, some-held}

module _ (sizes : Sizes) (fits : has_pages sizes.pages ≡ true) (key : MapKey) (path held : List ℕ) (p q : PassState)
    (c : HasClaimed sizes (IsKeptLog sizes.pages) (by_place opening sizes.pages) 1 key path held p q) (w : IsPathWithSiblings (kept_pages sizes.pages q.view.memory.seen) 1 key path held) (claims : is_claimed q.view.memory.since ≡ true) where
  abbrev m : PageMemory
  m = kept_pages sizes.pages q.view.memory.seen

  abbrev bits : ℕ → ℕ
  bits = path_bits sizes fits key path held p q c claims

  agreement : Agrees sizes.pages 1 1 key path q.work m bits
  agreement = agreed sizes fits key path held p q c claims

  there : (n : ℕ) → is_listed held n ≡ true → IsThere q.work n
  there n among = (c.there n).1 among

  ways : (n : ℕ) → is_listed path n ≡ true → is_listed held n ≡ true
  ways = path-held sizes.pages 1 1 key path held q.work m bits agreement w there

  kinds : (n : ℕ) → is_listed held n ≡ true → IsPageOfTree m n
  kinds = held-kind sizes.pages 1 1 key path held q.work m bits agreement w there

  held-few : length held ≤ 23
  held-few = let l = held-long sizes.pages 1 1 key path held q.work m bits agreement w there in let h = path-low sizes fits key path held p q c claims in omega arith

  pub has-claimed-siblings : HasClaimedSiblings sizes key path p q
  has-claimed-siblings = record {
    held = held;
    growing = growing sizes fits key path held p q c claims ways kinds;
    children = nodes-children sizes.pages 1 1 key path held q.work m bits agreement w there;
    zero = held-zero sizes.pages 1 1 key path q.work m bits agreement held ways there (some-held sizes.pages 1 1 key path held q.work m bits agreement w there);
    few = held-few;
    went = c.went;
    looked = c.looked;
    claims = c.sx;
    grants =
        let a = c.s in let b = c.sx in let d = c.x in let g = path-long sizes fits key path held p q c claims in
        let j = path-low sizes fits key path held p q c claims in let f = held-few in omega arith;
  }

  -- .. and how many grants it took
  pub few-claimed-siblings : AreFewGrants (record { s = 8; sx = 1; x = 23 }) p.view q.view
  few-claimed-siblings =
      let a = c.s in let b = c.sx in let d = c.x in let g = path-long sizes fits key path held p q c claims in
      let j = path-low sizes fits key path held p q c claims in let f = held-few in record { s = omega arith; sx = omega arith; x = omega arith }
