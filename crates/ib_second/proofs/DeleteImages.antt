-- What a delete from one of two trees reads and writes, where the pages of its path are held with those beside them.
use Rattle.std.specs.List.{All}
use Rattle.std.specs.Prelude.{MatchOption, get_or}
use Rattle.std.proofs.Common.{◌≡◌, ◌≢◌, ℕ, ◌<◌, ◌≤◌, true, false, List, Option, Some, None, length, arith}
use Rattle.ib_map.specs.Keys.{MapKey}
use Rattle.ib_page.specs.Work.{WorkPage}
use Rattle.ib_walk.specs.Pages.{PageMemory}
use Rattle.ib_walk.specs.Trees.{height_of}
use Rattle.ib_plans.specs.Agreement.{Agrees, IsThere, last_of, memory_in}
use Rattle.ib_plans.specs.Merge.{siblings_of}
use Rattle.ib_merge.specs.Deletes.{HasDeleteImages, HasNext, nodes_on_path}
use Rattle.ib_tree.specs.PageLists.{is_listed}
use Rattle.ib_cursor.specs.Siblings.{IsPathWithSiblings}
use Rattle.ib_index.specs.Shrinks.{HasChildren, HasWithNext}
use Rattle.ib_index.proofs.HeldLaws.{held-last, held-same, held-trees, held-zero}
use Rattle.ib_index.proofs.SiblingsHeld.{held-long, nodes-children, path-held, some-held}

-- the leaf behind the last of three pages is there
behind-last : (work : List WorkPage) (o : Option (MapKey × ℕ)) (here : MapKey × ℕ) → MatchOption o (HasWithNext work here.1) (λ x. HasWithNext work x.1) → MatchOption o (HasNext work here.1) (λ x. HasNext work x.1)
behind-last work None here has = has.1
behind-last work (Some x) here has = has.1

module _ (pages root : ℕ) (key : MapKey) (path held : List ℕ) (work : List WorkPage) (m : PageMemory) (bits : ℕ → ℕ) (a : Agrees pages 2 root key path work m bits)
    (w : IsPathWithSiblings m root key path held) (there : (n : ℕ) → is_listed held n ≡ true → IsThere work n) where
  ways : (n : ℕ) → is_listed path n ≡ true → is_listed held n ≡ true
  ways = path-held pages 2 root key path held work m bits a w there

  some : (n : ℕ) → is_listed held n ≡ true → n ≢ 0
  some = some-held pages 2 root key path held work m bits a w there

  children : All (HasChildren key work) (nodes_on_path path)
  children = nodes-children pages 2 root key path held work m bits a w there

  pub delete-images : (1 < length path → IsThere work 0) → HasDeleteImages path key work
  delete-images space = record {
    path_there = held-trees pages 2 root key path work m bits a held ways there;
    siblings_there = λ i d lt. (children i d lt).siblings;
    behind_there = λ i d lt. let t = siblings_of key (memory_in work (get_or (nodes_on_path path) i d)).records in behind-last work t.right t.here (children i d lt).last;
    space_there = space;
  }

  -- page 0 is none of them, and they are few
  pub held-none : is_listed held 0 ≡ false
  held-none = held-zero pages 2 root key path work m bits a held ways there some

  pub held-few : length held ≤ 11
  held-few =
      let long = held-long pages 2 root key path held work m bits a w there in
      let low : height_of m root ≤ 3 = (a.lawful.trees root a.some a.within).1 in omega arith

  -- the path's leaf is as it is in the tree
  pub leaf-same : memory_in work (last_of path) ≡ m (last_of path)
  leaf-same = held-same pages 2 root key path work m bits a held ways there some (last_of path) (held-last pages 2 root key path work m bits a held ways there)
