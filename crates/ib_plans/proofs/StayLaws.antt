-- The records of a page that a plan does not touch stay where they are.
use Rattle.std.proofs.Common.{◌≡◌, ◌∙◌, ℕ, zero, suc, Bool, true, false, cond, List, refl, Option, Some, None}
use Rattle.std.specs.Prelude.{length, nat_lt, ◌==◌, ◌&&◌}
use Rattle.ib_map.specs.Keys.{MapKey}
use Rattle.ib_heap.specs.declared.TheConstants.{MOST_RECORDS}
use Rattle.ib_walk.specs.Pages.{PageMemory}
use Rattle.ib_walk.specs.Search.{child_for}
use Rattle.ib_walk.specs.Trees.{height_of}
use Rattle.ib_plans.specs.declared.TheConstants.{FEWEST_RECORDS}
use Rattle.ib_plans.specs.Marks.{mark, untouched}
use Rattle.ib_plans.specs.Moves.{Move, Stays, Puts, Takes, Fills, Frees, unmoved, with_move}
use Rattle.ib_plans.specs.Split.{right_part, first_key, next_or}
use Rattle.ib_plans.specs.Insert.{Growth, first_fresh, other_fresh, split, split_long, insert_below, raised, raise_long, planned_insert}
use Rattle.ib_plans.specs.Merge.{Siblings, siblings_of, fit_one, first_child}
use Rattle.ib_plans.specs.Delete.{Shrinkage, settled, merged, merge_left, merge_right, merge, merge_short, delete_below, lifted, lift_single, planned_delete}
use Rattle.ib_plans.proofs.MoveLaws.{with_move-other}
use Rattle.ib_plans.proofs.PageLaws.{mark-off}

-- one page more is touched, and moves
one-more : (page : ℕ) (move : Move) (touched : ℕ → Bool) (moves : ℕ → Move) (n : ℕ) → mark page touched n ≡ false → (touched n ≡ false → moves n ≡ Stays) → with_move page move moves n ≡ Stays
one-more page move touched moves n off stays = let m = mark-off page touched n off in with_move-other page move moves n m.0 ∙ stays m.1

-- .. is touched, and does not move
one-touched : (page : ℕ) (touched : ℕ → Bool) (moves : ℕ → Move) (n : ℕ) → mark page touched n ≡ false → (touched n ≡ false → moves n ≡ Stays) → moves n ≡ Stays
one-touched page touched moves n off stays = stays (mark-off page touched n off).1

module _ (n : ℕ) where
  split-stays : (parent child : ℕ) (g : Growth) → (g.touched n ≡ false → g.moves n ≡ Stays) → (split parent child g).touched n ≡ false → (split parent child g).moves n ≡ Stays
  split-stays parent child g stays off =
      let next = next_or (first_fresh g.fresh) (g.memory child) in
      let others = mark-off 0 (mark (first_fresh g.fresh) (mark child (mark parent (mark next g.touched)))) n off in
      one-more (first_fresh g.fresh) Fills (mark child (mark parent (mark next g.touched))) (with_move child Fills (with_move parent (Puts (first_key (right_part (g.memory child).records))) g.moves)) n others.1
      (λ off. one-more child Fills (mark parent (mark next g.touched)) (with_move parent (Puts (first_key (right_part (g.memory child).records))) g.moves) n off
      (λ off. one-more parent (Puts (first_key (right_part (g.memory child).records))) (mark next g.touched) g.moves n off (λ off. one-touched next g.touched g.moves n off stays)))

  split_long-stays : (parent child : ℕ) (g : Growth) → (g.touched n ≡ false → g.moves n ≡ Stays) → (split_long parent child g).touched n ≡ false → (split_long parent child g).moves n ≡ Stays
  split_long-stays parent child g stays = by (nat_lt MOST_RECORDS (length (g.memory child).records))
    where
      by : (b : Bool) → (cond b (split parent child g) g).touched n ≡ false → (cond b (split parent child g) g).moves n ≡ Stays
      by true = split-stays parent child g stays
      by false = stays

  raised-stays : (root : ℕ) (g : Growth) → (g.touched n ≡ false → g.moves n ≡ Stays) → (raised root g).touched n ≡ false → (raised root g).moves n ≡ Stays
  raised-stays root g stays off =
      let left = first_fresh g.fresh in
      let right = first_fresh (other_fresh g.fresh) in
      let others = mark-off 0 (mark left (mark right (mark root g.touched))) n off in
      one-more left Fills (mark right (mark root g.touched)) (with_move right Fills (with_move root Fills g.moves)) n others.1
      (λ off. one-more right Fills (mark root g.touched) (with_move root Fills g.moves) n off (λ off. one-more root Fills g.touched g.moves n off stays))

  raise_long-stays : (root : ℕ) (g : Growth) → (g.touched n ≡ false → g.moves n ≡ Stays) → (raise_long root g).touched n ≡ false → (raise_long root g).moves n ≡ Stays
  raise_long-stays root g stays = by (nat_lt MOST_RECORDS (length (g.memory root).records))
    where
      by : (b : Bool) → (cond b (raised root g) g).touched n ≡ false → (cond b (raised root g) g).moves n ≡ Stays
      by true = raised-stays root g stays
      by false = stays

  insert_below-stays : (m : PageMemory) (bits : ℕ → ℕ) (fresh : List ℕ) (key : MapKey) (value height page : ℕ)
      → (insert_below m bits fresh key value height page).touched n ≡ false → (insert_below m bits fresh key value height page).moves n ≡ Stays
  insert_below-stays m bits fresh key value zero page off = one-more page (Puts key) untouched unmoved n off (λ _. refl)
  insert_below-stays m bits fresh key value (suc height) page off =
      split_long-stays page (child_for key 0 (m page).records) (insert_below m bits fresh key value height (child_for key 0 (m page).records))
      (insert_below-stays m bits fresh key value height (child_for key 0 (m page).records)) off

  pub planned_insert-stays : (m : PageMemory) (bits : ℕ → ℕ) (fresh : List ℕ) (key : MapKey) (value root : ℕ)
      → (planned_insert m bits fresh key value root).touched n ≡ false → (planned_insert m bits fresh key value root).moves n ≡ Stays
  planned_insert-stays m bits fresh key value root =
      raise_long-stays root (insert_below m bits fresh key value (height_of m root) root) (insert_below-stays m bits fresh key value (height_of m root) root)

  merged-stays : (s : Shrinkage) (parent left : ℕ) (gone : MapKey × ℕ) → (s.touched n ≡ false → s.moves n ≡ Stays) → (merged s parent left gone).touched n ≡ false → (merged s parent left gone).moves n ≡ Stays
  merged-stays s parent left gone stays off =
      let next = next_or gone.1 (s.memory gone.1) in
      let others = mark-off 0 (mark gone.1 (mark left (mark parent (mark next s.touched)))) n off in
      one-more gone.1 Frees (mark left (mark parent (mark next s.touched))) (with_move left Fills (with_move parent (Takes gone.0) s.moves)) n others.1
      (λ off. one-more left Fills (mark parent (mark next s.touched)) (with_move parent (Takes gone.0) s.moves) n off
      (λ off. one-more parent (Takes gone.0) (mark next s.touched) s.moves n off (λ off. one-touched next s.touched s.moves n off stays)))

  module _ (s : Shrinkage) (parent : ℕ) (stays : s.touched n ≡ false → s.moves n ≡ Stays) where
    merge_left-stays : (left : Option (MapKey × ℕ)) (here : MapKey × ℕ) (other : Shrinkage) → (other.touched n ≡ false → other.moves n ≡ Stays)
        → (merge_left s parent left here other).touched n ≡ false → (merge_left s parent left here other).moves n ≡ Stays
    merge_left-stays None here other rest = rest
    merge_left-stays (Some left) here other rest = by (fit_one s.memory left.1 here.1)
      where
        by : (b : Bool) → (cond b (merged s parent left.1 here) other).touched n ≡ false → (cond b (merged s parent left.1 here) other).moves n ≡ Stays
        by true = merged-stays s parent left.1 here stays
        by false = rest

    merge_right-stays : (here : MapKey × ℕ) (right : Option (MapKey × ℕ)) (other : Shrinkage) → (other.touched n ≡ false → other.moves n ≡ Stays)
        → (merge_right s parent here right other).touched n ≡ false → (merge_right s parent here right other).moves n ≡ Stays
    merge_right-stays here None other rest = rest
    merge_right-stays here (Some right) other rest = by (fit_one s.memory here.1 right.1)
      where
        by : (b : Bool) → (cond b (merged s parent here.1 right) other).touched n ≡ false → (cond b (merged s parent here.1 right) other).moves n ≡ Stays
        by true = merged-stays s parent here.1 right stays
        by false = rest

    merge-stays : (t : Siblings) → (merge s parent t).touched n ≡ false → (merge s parent t).moves n ≡ Stays
    merge-stays t = merge_left-stays t.left t.here (merge_right s parent t.here t.right (settled s)) (merge_right-stays t.here t.right (settled s) stays)

  -- the child that lost a record is merged where it has few
  module _ (key : MapKey) (parent : ℕ) (s : Shrinkage) (stays : s.touched n ≡ false → s.moves n ≡ Stays) where
    abbrev u : Shrinkage
    u = merge s parent (siblings_of key (s.memory parent).records)

    few-stays : (b : Bool) → (cond b u (settled s)).touched n ≡ false → (cond b u (settled s)).moves n ≡ Stays
    few-stays true = merge-stays s parent stays (siblings_of key (s.memory parent).records)
    few-stays false = stays

    lost-stays : (a b : Bool) → (cond a (cond b u (settled s)) s).touched n ≡ false → (cond a (cond b u (settled s)) s).moves n ≡ Stays
    lost-stays true b = few-stays b
    lost-stays false b = stays

    merge_short-stays : (merge_short key parent s).touched n ≡ false → (merge_short key parent s).moves n ≡ Stays
    merge_short-stays = lost-stays s.lost (nat_lt (length (s.memory (siblings_of key (s.memory parent).records).here.1).records) FEWEST_RECORDS)

  delete_below-stays : (m : PageMemory) (bits : ℕ → ℕ) (key : MapKey) (height page : ℕ) → (delete_below m bits key height page).touched n ≡ false → (delete_below m bits key height page).moves n ≡ Stays
  delete_below-stays m bits key zero page off = one-more page (Takes key) untouched unmoved n off (λ _. refl)
  delete_below-stays m bits key (suc height) page off =
      merge_short-stays key page (delete_below m bits key height (child_for key 0 (m page).records)) (delete_below-stays m bits key height (child_for key 0 (m page).records)) off

  -- the root that is left with one child takes its place
  module _ (root : ℕ) (s : Shrinkage) (stays : s.touched n ≡ false → s.moves n ≡ Stays) where
    abbrev child : ℕ
    child = first_child (s.memory root).records

    lifted-stays : (lifted s root child).touched n ≡ false → (lifted s root child).moves n ≡ Stays
    lifted-stays off =
        let others = mark-off 0 (mark child (mark root s.touched)) n off in
        one-more child Frees (mark root s.touched) (with_move root Fills s.moves) n others.1 (λ off. one-more root Fills s.touched s.moves n off stays)

    single-stays : (b : Bool) → (cond b (lifted s root child) s).touched n ≡ false → (cond b (lifted s root child) s).moves n ≡ Stays
    single-stays true = lifted-stays
    single-stays false = stays

    lift_single-stays : (lift_single root s).touched n ≡ false → (lift_single root s).moves n ≡ Stays
    lift_single-stays = single-stays (s.lost && (nat_lt 0 (s.memory root).level && (length (s.memory root).records == 1)))

  pub planned_delete-stays : (m : PageMemory) (bits : ℕ → ℕ) (key : MapKey) (root : ℕ) → (planned_delete m bits key root).touched n ≡ false → (planned_delete m bits key root).moves n ≡ Stays
  planned_delete-stays m bits key root = lift_single-stays root (delete_below m bits key (height_of m root) root) (delete_below-stays m bits key (height_of m root) root)
