-- Behind an insert that is planned for the first tree, the insert into the second may be planned on the same work set.
use Rattle.std.proofs.Common.{◌≡◌, ℕ, ◌+◌, ◌<◌, ◌≤◌, ◌∙◌, true, List, length, Option, None, sym, ap, subst, arith}
use Rattle.ib_map.specs.Keys.{MapKey, end_rank, rank}
use Rattle.ib_map.specs.Pairs.{value_at, put}
use Rattle.ib_map.proofs.KeyLaws.{rank-lt_end}
use Rattle.ib_second_key.specs.SecondKeys.{second_key_of}
use Rattle.ib_heap.specs.declared.TheConstants.{MOST_RECORDS}
use Rattle.ib_page.specs.Work.{WorkPage, changed_of}
use Rattle.ib_walk.specs.Full.{chosen, free_of, is_root_full, need_of}
use Rattle.ib_walk.specs.Pages.{PageMemory, PageState}
use Rattle.ib_walk.specs.Trees.{content_of, height_of, most_height, weight_of}
use Rattle.ib_walk.specs.Walk.{counts_page}
use Rattle.ib_plans.specs.Agreement.{Agrees, IsPlanned, IsThere, last_of, memory_in, state_or_free, with_bits}
use Rattle.ib_plans.specs.Insert.{AreFresh, Growth, planned_insert}
use Rattle.ib_plans.specs.Leads.{LeadsTo}
use Rattle.ib_plans.specs.Marks.{ticked}
use Rattle.ib_plans.proofs.ChosenLaws.{chosen-fresh, chosen-length}
use Rattle.ib_plans.proofs.LeadsLaws.{LeadsTo-ticked}
use Rattle.ib_plans.proofs.NeedLaws.{IsPlannedInsert-need}
use Rattle.ib_split.specs.Inserts.{CanInsert, HasFresh, HasInsertImages, IsPlannedInsertForAll}
use Rattle.ib_planned_log.proofs.LeadLaws.{low-enough}
use Rattle.ib_pair_plans.specs.Apart.{IsApart}
use Rattle.ib_pair_plans.proofs.InsertApart.{IsApart-insert}
use Rattle.ib_pair_plans.proofs.TakenLaws.{free_of-left}
use Rattle.ib_plans.proofs.TakenLaws.{bits-taken}
use Rattle.ib_pair_plans.proofs.TreeStays.{height-stays, need-stays, root_full-stays}
use Rattle.ib_pair_change.specs.PairPlans.{CanInsertPair}
use Rattle.ib_pair_change.proofs.BehindLaws.{agrees-mid, clocks-mid, last-kept, leaf-content, map-all, same, there, tick-once, trees-mid}

module _ (path fresh : List ℕ) (key : MapKey) (value : ℕ) (path2 fresh2 : List ℕ) (old : List WorkPage) (can : CanInsertPair path fresh key value path2 fresh2 old) where
  abbrev key2 : MapKey
  key2 = second_key_of key value

  height1 : height_of can.memory 1 ≤ most_height 2
  height1 = (can.first.lawful.trees 1 (omega arith) (omega arith)).1

  low1 : is_root_full can.memory key 1 ≡ true → height_of can.memory 1 < most_height 2
  low1 = low-enough (is_root_full can.memory key 1) (height_of can.memory 1) (most_height 2) can.low height1

  low2 : is_root_full can.memory key2 2 ≡ true → height_of can.memory 2 < most_height 2
  low2 = low-enough (is_root_full can.memory key2 2) (height_of can.memory 2) (most_height 2) can.other_low (can.first.lawful.trees 2 (omega arith) (omega arith)).1

  pub first-fits : HasFresh can.pages 2 1 key fresh can.memory can.bits
  first-fits = record { chosen_are = can.fresh_are; enough = let e = can.enough in omega arith; low = low1 }

  -- the first insert may be planned
  pub can-first : CanInsert path fresh key old
  can-first = record {
    pages = can.pages;
    roots = 2;
    root = 1;
    memory = can.memory;
    bits = can.bits;
    agrees = can.first;
    fits = first-fits;
    images = can.images;
    clocks = tick-once old can.clocks;
  }

  module _ (mid : List WorkPage) (planned : IsPlannedInsertForAll path fresh key value old mid) where
    abbrev g : Growth
    g = planned_insert can.memory can.bits fresh key value 1

    abbrev then : PageMemory
    then = ticked can.memory g.touched g.memory

    in-range : rank key < end_rank
    in-range = rank-lt_end key

    in-range2 : rank key2 < end_rank
    in-range2 = rank-lt_end key2

    plan : IsPlanned can.pages can.memory g.memory g.bits g.touched g.moves old mid
    plan = planned can.pages 2 1 can.memory can.bits can.first first-fits

    missing : value_at key (content_of can.memory 1) ≡ None
    missing = leaf-content can.pages 2 1 key path old can.memory can.bits can.first can.images.path_there ∙ can.missing

    count : length fresh ≡ need_of can.memory key 1
    count = ap length can.fresh_are ∙ chosen-length can.bits can.pages (need_of can.memory key 1) (let e = can.enough in omega arith)

    free : AreFresh can.bits fresh
    free = subst (AreFresh can.bits) (sym can.fresh_are) (chosen-fresh can.bits can.pages (need_of can.memory key 1) can.first.few)

    leads : LeadsTo can.memory then g.bits 2 1 g.touched (put key value (content_of can.memory 1))
    leads =
        let p = IsPlannedInsert-need can.memory can.bits 2 can.first.lawful key value in-range 1 (omega arith) (omega arith) fresh free missing (let c = count in omega arith) low1 in
        LeadsTo-ticked can.memory g.memory g.bits 2 1 g.touched (put key value (content_of can.memory 1)) (omega arith) (omega arith) p.lawful p.holds p.others p.ranges p.rest

    apart : IsApart can.memory 2 1 g.touched
    apart = IsApart-insert can.memory can.bits 2 can.first.lawful key value in-range 1 (omega arith) (omega arith) fresh free missing (let c = count in omega arith)

    stays : (n : ℕ) → 0 < weight_of (counts_page n) can.memory 2 → then n ≡ can.memory n
    stays = same can.pages can.memory g.memory can.bits g.bits g.touched g.moves (put key value (content_of can.memory 1)) old mid can.first.lawful can.first.same leads apart plan

    bits-are : g.bits ≡ with_bits fresh 1 can.bits
    bits-are = bits-taken can.memory can.bits 2 can.first.lawful key value in-range 1 (omega arith) (omega arith) fresh free missing (sym count)

    need2 : need_of then key2 2 ≡ need_of can.memory key2 2
    need2 = need-stays (λ n. MOST_RECORDS) can.memory then can.bits 2 can.first.lawful 2 (omega arith) (omega arith) stays key2 in-range2 (leads.lawful.trees 2 (omega arith) (omega arith)).0

    full2 : is_root_full then key2 2 ≡ is_root_full can.memory key2 2
    full2 = root_full-stays (λ n. MOST_RECORDS) can.memory then can.bits 2 can.first.lawful 2 (omega arith) (omega arith) stays key2 in-range2 (leads.lawful.trees 2 (omega arith) (omega arith)).0

    height2 : height_of then 2 ≡ height_of can.memory 2
    height2 = height-stays (λ n. MOST_RECORDS) can.memory then can.bits 2 can.first.lawful 2 (omega arith) (omega arith) stays

    free-left : free_of (with_bits fresh 1 can.bits) can.pages + need_of can.memory key 1 ≡ free_of can.bits can.pages
    free-left = subst (λ xs. free_of (with_bits xs 1 can.bits) can.pages + need_of can.memory key 1 ≡ free_of can.bits can.pages) (sym can.fresh_are)
        (free_of-left can.bits can.pages (need_of can.memory key 1) (let e = can.enough in omega arith))

    pub fits-mid : HasFresh can.pages 2 2 key2 fresh2 then g.bits
    fits-mid = record {
      chosen_are = can.other_fresh_are ∙ (ap (λ (b : ℕ → ℕ). chosen b can.pages (need_of can.memory key2 2)) (sym bits-are) ∙ ap (chosen g.bits can.pages) (sym need2));
      enough = let f = free-left in let e = can.enough in let b = ap (λ (b : ℕ → ℕ). free_of b can.pages) bits-are in let n = need2 in omega arith;
      low = λ full. let h = height2 in let l = low2 (sym full2 ∙ full) in omega arith;
    }

    last-stays : changed_of (last_of path2) mid ≡ changed_of (last_of path2) old
    last-stays = last-kept can.pages can.memory g.memory can.bits g.bits g.touched g.moves (put key value (content_of can.memory 1)) old mid can.first.lawful can.first.same leads apart plan key2 path2 can.other

    is-there : (n : ℕ) → IsThere old n → IsThere mid n
    is-there = there can.pages can.memory g.memory can.bits g.bits g.touched g.moves (put key value (content_of can.memory 1)) old mid can.first.lawful can.first.same leads apart plan

    images-mid : HasInsertImages path2 fresh2 mid
    images-mid = record {
      path_there = trees-mid can.pages can.memory g.memory can.bits g.bits g.touched g.moves (put key value (content_of can.memory 1)) old mid can.first.lawful can.first.same leads apart plan key2 path2 can.other can.other_images.path_there;
      fresh_there = map-all (IsThere old) (IsThere mid) fresh2 is-there can.other_images.fresh_there;
      next_there = λ full ne.
          let e : memory_in mid (last_of path2) ≡ memory_in old (last_of path2) = ap state_or_free last-stays in
          let next = ap (λ (p : PageState). p.next) e in
          subst (IsThere mid) (sym next) (is-there (memory_in old (last_of path2)).next (can.other_images.next_there (let l = ap (λ (p : PageState). length p.records) e in omega arith) (λ z. ne (next ∙ z))));
      space_there = λ some. is-there 0 (can.other_images.space_there some);
    }

    pub agrees-second : Agrees can.pages 2 2 key2 path2 mid then g.bits
    agrees-second = agrees-mid can.pages can.memory g.memory can.bits g.bits g.touched g.moves (put key value (content_of can.memory 1)) old mid can.first.lawful can.first.same leads apart plan key2 path2 can.other

    -- the second insert may be planned
    pub can-second : CanInsert path2 fresh2 key2 mid
    can-second = record {
      pages = can.pages;
      roots = 2;
      root = 2;
      memory = then;
      bits = g.bits;
      agrees = agrees-second;
      fits = fits-mid;
      images = images-mid;
      clocks = clocks-mid can.pages can.memory g.memory can.bits g.bits g.touched g.moves (put key value (content_of can.memory 1)) old mid can.first.lawful can.first.same leads apart plan can.clocks;
    }

    -- and its key is not there
    pub missing-second : value_at key2 (memory_in mid (last_of path2)).records ≡ None
    missing-second = ap (λ (o : Option (List ℕ)). value_at key2 (state_or_free o).records) last-stays ∙ can.other_missing
