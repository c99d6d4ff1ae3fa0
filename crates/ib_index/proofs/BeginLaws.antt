-- What an insert that changes the tree's structure holds when it has come to the key's path.
use Rattle.std.proofs.Common.{◌≡◌, ℕ, ◌<◌, ◌≤◌, true, List, length, sym, subst, arith}
use Rattle.ib_map.specs.Keys.{MapKey, rank, end_rank}
use Rattle.ib_map.specs.Space.{has_pages}
use Rattle.ib_map.proofs.KeyLaws.{rank-lt_end}
use Rattle.ib_layout.specs.Geometry.{Sizes}
use Rattle.ib_logrec.specs.Log.{by_place}
use Rattle.ib_walk.specs.Pages.{PageMemory}
use Rattle.ib_plans.specs.Agreement.{Agrees, IsThere}
use Rattle.ib_tree.specs.PageLists.{AreOnce, is_listed}
use Rattle.ib_tree.specs.TreeLog.{opening}
use Rattle.ib_planned_log.specs.Kept.{IsKeptLog}
use Rattle.ib_planned_log.specs.LeafChange.{kept_pages}
use Rattle.ib_rule.specs.Pass.{PassState}
use Rattle.ib_cursor.specs.Claims.{HasClaimed, IsPathWithLeaves}
use Rattle.ib_cursor.specs.Shapes.{ShapeLaws, is_claimed}
use Rattle.ib_cursor.specs.OnPath.{IsOnPath}
use Rattle.ib_cursor.specs.Refusals.{AreFewGrants}
use Rattle.ib_cursor.proofs.EndLaws.{all_once, beside-leaf}
use Rattle.ib_cursor.proofs.OnceLaws.{AreBeside}
use Rattle.ib_index.specs.Grows.{HasClaimedPath}
use Rattle.ib_index.proofs.HeldLaws.{IsPageOfTree, held-zero}
use Rattle.ib_index.proofs.PathHeld.{held-each, held-long, held-some, leaf-on, next-there, path-held}
use Rattle.ib_index.proofs.ClaimedLaws.{agreed, growing, held-kinds, held-there, path-low, path-long, path_bits}
use Rattle.ib_index.proofs.AgreeLaws.{kept-shapes}

module _ (sizes : Sizes) (fits : has_pages sizes.pages ≡ true) (key : MapKey) (path held : List ℕ) (p q : PassState)
    (c : HasClaimed sizes (IsKeptLog sizes.pages) (by_place opening sizes.pages) 1 key path held p q) (w : IsPathWithLeaves (kept_pages sizes.pages q.view.memory.seen) path held) (claims : is_claimed q.view.memory.since ≡ true) where
  abbrev start : ℕ → ℕ
  start = by_place opening sizes.pages

  abbrev m : PageMemory
  m = kept_pages sizes.pages q.view.memory.seen

  abbrev bits : ℕ → ℕ
  bits = path_bits sizes fits key path held p q c claims

  lt : rank key < end_rank
  lt = rank-lt_end key

  shape : ShapeLaws sizes.pages 1 (IsKeptLog sizes.pages) start
  shape = kept-shapes sizes.pages fits

  agreement : Agrees sizes.pages 1 1 key path q.work m bits
  agreement = agreed sizes fits key path held p q c claims

  on-leaf : IsOnPath m 1 key w.leaf 0
  on-leaf = leaf-on sizes.pages 1 1 key path held q.work m bits agreement w

  once : AreOnce held sizes.pages
  once = subst (λ ns. AreOnce ns sizes.pages) (sym w.are)
      (all_once sizes 1 (IsKeptLog sizes.pages) start shape 1 (omega arith) (omega arith) key lt q.view.memory.seen c.known.legal path w.front w.leaf c.on_path w.ends on-leaf)

  beside-is : AreBeside m 1 w.leaf
  beside-is = beside-leaf sizes 1 (IsKeptLog sizes.pages) start shape 1 (omega arith) (omega arith) key lt q.view.memory.seen c.known.legal w.leaf on-leaf

  -- the pages that are held are pages of the tree
  held-kind : (n : ℕ) → is_listed held n ≡ true → IsPageOfTree m n
  held-kind = held-each sizes.pages 1 1 key path held q.work m bits agreement w (IsPageOfTree m) (λ n kind. kind) (λ ne. ((beside-is.left ne).3, ne)) (λ ne. ((beside-is.right ne).3, ne))

  ways : (n : ℕ) → is_listed path n ≡ true → is_listed held n ≡ true
  ways = path-held sizes.pages 1 1 key path held q.work m bits agreement w

  there : (n : ℕ) → is_listed held n ≡ true → IsThere q.work n
  there = held-there sizes fits key path held p q c claims ways held-kind

  held-few : length held ≤ 10
  held-few = let l = held-long sizes.pages 1 1 key path held q.work m bits agreement w in let h = path-low sizes fits key path held p q c claims in omega arith

  pub has-reached : HasClaimedPath sizes key path p q
  has-reached = record {
    held = held;
    growing = growing sizes fits key path held p q c claims ways held-kind;
    next = next-there sizes.pages 1 1 key path held q.work m bits agreement w there;
    few = held-few;
    kinds = held-kinds sizes fits key path held p q c claims ways held-kind;
    zero = held-zero sizes.pages 1 1 key path q.work m bits agreement held ways there (held-some sizes.pages 1 1 key path held q.work m bits agreement w);
    once = once;
    went = c.went;
    looked = c.looked;
    claims = c.sx;
    grants =
        let a = c.s in let b = c.sx in let d = c.x in let g = path-long sizes fits key path held p q c claims in
        let j = path-low sizes fits key path held p q c claims in let f = held-few in omega arith;
  }

  -- .. and how many grants it took
  pub few-claimed : AreFewGrants (record { s = 8; sx = 1; x = 10 }) p.view q.view
  few-claimed =
      let a = c.s in let b = c.sx in let d = c.x in let g = path-long sizes fits key path held p q c claims in
      let j = path-low sizes fits key path held p q c claims in let f = held-few in record { s = omega arith; sx = omega arith; x = omega arith }
