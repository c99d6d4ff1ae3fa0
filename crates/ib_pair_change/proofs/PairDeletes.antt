-- Behind a delete that is planned for the first tree, the delete from the second may be planned on the same work set.
use Rattle.ib_plans.specs.Delete.{Shrinkage, planned_delete}
use Rattle.ib_plans.proofs.DeletePlanLaws.{IsPlannedDelete-plan}
use Rattle.ib_plans.proofs.RecordLaws.{first_rank-some}
use Rattle.ib_plans.proofs.SiblingRecordLaws.{HasSiblings-of, one_or_none}
use Rattle.ib_plans.specs.Merge.{Siblings, siblings_of}
use Rattle.ib_map.specs.Pairs.{Pairs, first_rank, without}
use Rattle.ib_merge.specs.Deletes.{CanDelete, HasDeleteImages, HasNext, HasSiblings, IsPlannedDeleteForAll, nodes_on_path}
use Rattle.ib_walk.specs.Search.{IsPageFor}
use Rattle.ib_walk.specs.Trees.{IsTreeOf, top_of}
use Rattle.ib_walk.specs.Walk.{IsNodeAt, IsTree, below}
use Rattle.ib_walk.proofs.SearchLaws.{AllByRecursion-at, IsPageFor-below, IsTree-below}
use Rattle.ib_walk.proofs.TreeLaws.{IsPageFor-top}
use Rattle.ib_pair_plans.proofs.DeleteApart.{IsApart-delete}
use Rattle.ib_pair_plans.proofs.ChildLaws.{child-met}
use Rattle.std.specs.Prelude.{MatchOption}
use Rattle.std.proofs.Common.{append_assoc, ◌++◌}
use Rattle.std.specs.List.{All}
use Rattle.std.specs.Prelude.{IsSome, IfSome, IsSomeAnd}
use Rattle.std.proofs.Common.{◌≡◌, ◌≢◌, ℕ, zero, suc, ◌<◌, ◌≤◌, ◌∙◌, List, [], ◌∷◌, length, Option, None, Some, refl, sym, ap, subst, arith}
use Rattle.std.proofs.lemmas.List.Elements.{All-nil, All-cons, All-head, All-tail}
use Rattle.ib_map.specs.Keys.{MapKey, end_rank, rank}
use Rattle.ib_map.specs.Pairs.{value_at}
use Rattle.ib_map.proofs.KeyLaws.{rank-lt_end}
use Rattle.ib_second_key.specs.SecondKeys.{second_key_of}
use Rattle.ib_heap.specs.declared.TheConstants.{MOST_RECORDS}
use Rattle.ib_page.specs.Image.{IsTreePage}
use Rattle.ib_page.specs.Work.{WorkPage, changed_of}
use Rattle.ib_walk.specs.Pages.{PageMemory, PageState}
use Rattle.ib_walk.specs.Search.{child_for, page_below}
use Rattle.ib_walk.specs.Trees.{IsLawful, content_of, height_of, weight_of}
use Rattle.ib_walk.specs.Walk.{counts_page}
use Rattle.ib_walk.proofs.SearchLaws.{above}
use Rattle.ib_plans.specs.Agreement.{Agrees, IsPlanned, IsThere, last_of, memory_in, state_or_free, path_down}
use Rattle.ib_plans.specs.Leads.{LeadsTo}
use Rattle.ib_plans.specs.Marks.{ticked}
use Rattle.ib_plans.proofs.LeadsLaws.{LeadsTo-ticked}
use Rattle.ib_plans.proofs.LevelLaws.{above-suc}
use Rattle.ib_plans.proofs.MetLaws.{met-some}
use Rattle.ib_plans.proofs.PathLaws.{page_below-child}
use Rattle.ib_pair_plans.specs.Apart.{IsApart}
use Rattle.ib_pair_change.specs.PairPlans.{CanDeletePair}
use Rattle.ib_pair_change.proofs.BehindLaws.{agrees-mid, both-all, clocks-mid, kept, last-kept, path-met, there, tick-once, trees-mid}

-- what holds of each page of a path holds of its nodes
nodes-all : (P : ℕ → Type 0) (path : List ℕ) → All P path → All P (nodes_on_path path)
nodes-all P [] all = All-nil P
nodes-all P (x ∷ []) all = All-nil P
nodes-all P (x ∷ y ∷ ys) all = All-cons P x (nodes_on_path (y ∷ ys)) (All-head P x (y ∷ ys) all) (nodes-all P (y ∷ ys) (All-tail P x (y ∷ ys) all))

-- the key's child under a node, or the sibling at its right, is met
abbrev LastMet : PageMemory → ℕ → MapKey → ℕ → Type 0
LastMet m root key parent = let t = siblings_of key (m parent).records in
    MatchOption t.right (0 < weight_of (counts_page t.here.1) m root) (λ right. 0 < weight_of (counts_page right.1) m root)

module _ (m : PageMemory) (bits : ℕ → ℕ) (roots : ℕ) (law : IsLawful m bits roots) (key : MapKey) (in-range : rank key < end_rank) (root : ℕ) (some : 0 < root) (le : root ≤ roots) where
  last-met : (height depth page : ℕ) → height_of m root ≡ above depth (suc height) → page_below m key depth root ≡ page → LastMet m root key page
  last-met height depth page tall at =
      let t = subst (λ h. IsTreeOf m h root) tall (law.trees root some le).0 in
      let p = subst (IsPageFor key (below m depth (top_of root))) at (IsPageFor-below m depth (suc height) key (top_of root) root t.tree.nodes (IsPageFor-top key root in-range)) in
      let row = subst (IsTree m (suc height)) p.is (IsTree-below m depth (suc height) (top_of root) t.tree) in
      let node = AllByRecursion-at (IsNodeAt m (suc height)) p.before p.visit p.behind row.nodes.0 in
      let some-record = subst (λ (q : ℕ). 0 < length (m q).records) p.here node.some in
      let first = subst (λ (q : ℕ). first_rank (m q).records p.visit.high ≡ p.visit.low) p.here node.first in
      let low = p.low in
      let same = first_rank-some (m page).records end_rank p.visit.high some-record in
      let r = HasSiblings-of key (m page).records some-record (omega arith) in
      by_right (siblings_of key (m page).records).left (siblings_of key (m page).records).here (siblings_of key (m page).records).right r.before r.behind r.is
    where
      met : (front : Pairs) (x : MapKey × ℕ) (behind : Pairs) → (m page).records ≡ front ++ x ∷ behind → 0 < weight_of (counts_page x.1) m root
      met front x behind is = let c = child-met (λ n. MOST_RECORDS) m bits roots law key in-range root some le depth height tall page at front x behind is in omega arith

      by_right : (left : Option (MapKey × ℕ)) (here : MapKey × ℕ) (right : Option (MapKey × ℕ)) (front behind : Pairs)
          → (m page).records ≡ front ++ (one_or_none left ++ here ∷ (one_or_none right ++ behind))
          → MatchOption right (0 < weight_of (counts_page here.1) m root) (λ r. 0 < weight_of (counts_page r.1) m root)
      by_right left here None front behind is = met (front ++ one_or_none left) here behind (is ∙ sym (append_assoc front (one_or_none left) (here ∷ behind)))
      by_right left here (Some r) front behind is =
          met ((front ++ one_or_none left) ++ here ∷ []) r behind
          (is ∙ (sym (append_assoc front (one_or_none left) (here ∷ r ∷ behind)) ∙ sym (append_assoc (front ++ one_or_none left) (here ∷ []) (r ∷ behind))))

  pub all-last_met : (height depth page : ℕ) → height_of m root ≡ above depth height → page_below m key depth root ≡ page → All (LastMet m root key) (nodes_on_path (path_down m key height page))
  all-last_met zero depth page tall at = All-nil (LastMet m root key)
  all-last_met (suc height) depth page tall at =
      let child = child_for key 0 (m page).records in
      let rest = all-last_met height (suc depth) child (tall ∙ above-suc depth height) (page_below-child m key depth root ∙ ap (λ n. child_for key 0 (m n).records) at) in
      go (path_down m key height child) (way-begins height child) (last-met height depth page tall at) rest
    where
      way-begins : (h p : ℕ) → (rest : List ℕ) × (path_down m key h p ≡ p ∷ rest)
      way-begins zero p = ([], refl)
      way-begins (suc h) p = (path_down m key h (child_for key 0 (m p).records), refl)

      go : (ps : List ℕ) → (rest : List ℕ) × (ps ≡ child_for key 0 (m page).records ∷ rest) → LastMet m root key page → All (LastMet m root key) (nodes_on_path ps) → All (LastMet m root key) (nodes_on_path (page ∷ ps))
      go ps begins here all =
          let e : nodes_on_path (page ∷ ps) ≡ page ∷ nodes_on_path ps = ap (λ xs. nodes_on_path (page ∷ xs)) begins.1 ∙ ap (λ xs. page ∷ nodes_on_path xs) (sym begins.1) in
          subst (All (LastMet m root key)) (sym e) (All-cons (LastMet m root key) page (nodes_on_path ps) here all)

-- the pages that are there are there still
if-there : (a b : ℕ → Type 0) (o : Option (MapKey × ℕ)) → ((n : ℕ) → a n → b n) → IfSome o (λ x. a x.1) → IfSome o (λ x. b x.1)
if-there a b None so h = tt
if-there a b (Some x) so h = so x.1 h

match-there : (met a b : ℕ → Type 0) (right : Option (MapKey × ℕ)) (here : ℕ) → ((n : ℕ) → met n → a n → b n) → MatchOption right (met here) (λ r. met r.1) → MatchOption right (a here) (λ r. a r.1) → MatchOption right (b here) (λ r. b r.1)
match-there met a b None here so m h = so here m h
match-there met a b (Some r) here so m h = so r.1 m h

module _ (path : List ℕ) (key : MapKey) (value : ℕ) (path2 : List ℕ) (old : List WorkPage) (can : CanDeletePair path key value path2 old) where
  abbrev key2 : MapKey
  key2 = second_key_of key value

  -- the first delete may be planned
  pub can-first : CanDelete path key old
  can-first = record {
    pages = can.pages;
    roots = 2;
    root = 1;
    memory = can.memory;
    bits = can.bits;
    agrees = can.first;
    images = can.images;
    clocks = tick-once old can.clocks;
  }

  module _ (mid : List WorkPage) (planned : IsPlannedDeleteForAll path key old mid) where
    abbrev s : Shrinkage
    s = planned_delete can.memory can.bits key 1

    abbrev then : PageMemory
    then = ticked can.memory s.touched s.memory

    in-range : rank key < end_rank
    in-range = rank-lt_end key

    in-range2 : rank key2 < end_rank
    in-range2 = rank-lt_end key2

    plan : IsPlanned can.pages can.memory s.memory s.bits s.touched s.moves old mid
    plan = planned can.pages 2 1 can.memory can.bits can.first

    abbrev content : Pairs
    content = without key (content_of can.memory 1)

    leads : LeadsTo can.memory then s.bits 2 1 s.touched content
    leads =
        let p = IsPlannedDelete-plan can.memory can.bits 2 can.first.lawful key in-range 1 (omega arith) (omega arith) in
        LeadsTo-ticked can.memory s.memory s.bits 2 1 s.touched content (omega arith) (omega arith) p.lawful p.holds p.others p.ranges p.rest

    apart : IsApart can.memory 2 1 s.touched
    apart = IsApart-delete can.memory can.bits 2 can.first.lawful key in-range 1 (omega arith) (omega arith)

    is-there : (n : ℕ) → IsThere old n → IsThere mid n
    is-there = there can.pages can.memory s.memory can.bits s.bits s.touched s.moves content old mid can.first.lawful can.first.same leads apart plan

    is-kept : (n : ℕ) → 0 < weight_of (counts_page n) can.memory 2 → memory_in mid n ≡ memory_in old n
    is-kept n met = ap state_or_free (kept can.pages can.memory s.memory can.bits s.bits s.touched s.moves content old mid can.first.lawful can.first.same leads apart plan n met)

    all-met : All (λ p. 0 < weight_of (counts_page p) can.memory 2) path2
    all-met = path-met can.pages can.memory s.memory can.bits s.bits s.touched s.moves content old mid can.first.lawful can.first.same leads apart plan key2 path2 can.other

    -- a page of the way: as it was read, and as it was in the memory
    nodes-met : All (λ p. 0 < weight_of (counts_page p) can.memory 2) (nodes_on_path path2)
    nodes-met = nodes-all (λ p. 0 < weight_of (counts_page p) can.memory 2) path2 all-met

    some-there : (o : Option (List ℕ)) → IsSomeAnd o IsTreePage → IsSome o
    some-there None h = absurd h
    some-there (Some x) h = refl

    nodes-there : All (λ p. IsThere old p) (nodes_on_path path2)
    nodes-there = both-all (λ p. IsSomeAnd (changed_of p old) IsTreePage) (λ p. IsSomeAnd (changed_of p old) IsTreePage) (λ p. IsThere old p) (nodes_on_path path2)
        (λ p a b. some-there (changed_of p old) a) (nodes-all (λ p. IsSomeAnd (changed_of p old) IsTreePage) path2 can.other_images.path_there) (nodes-all (λ p. IsSomeAnd (changed_of p old) IsTreePage) path2 can.other_images.path_there)

    siblings-mid : All (HasSiblings key2 mid) (nodes_on_path path2)
    siblings-mid = both-all (λ p. 0 < weight_of (counts_page p) can.memory 2) (HasSiblings key2 old) (HasSiblings key2 mid) (nodes_on_path path2)
        (λ p met h.
        let e = ap (λ (q : PageState). siblings_of key2 q.records) (is-kept p met) in
        subst (λ (t : Siblings). IfSome t.left (λ left. IsThere mid left.1) × IfSome t.right (λ right. IsThere mid right.1)) (sym e)
        (if-there (IsThere old) (IsThere mid) (siblings_of key2 (memory_in old p).records).left is-there h.0, if-there (IsThere old) (IsThere mid) (siblings_of key2 (memory_in old p).records).right is-there h.1))
        nodes-met can.other_images.siblings_there

    next-mid : (n : ℕ) → 0 < weight_of (counts_page n) can.memory 2 → HasNext old n → HasNext mid n
    next-mid n met h ne =
        let next = ap (λ (q : PageState). q.next) (is-kept n met) in
        subst (IsThere mid) (sym next) (is-there (memory_in old n).next (h (λ z. ne (next ∙ z))))

    lasts : All (LastMet can.memory 2 key2) (nodes_on_path path2)
    lasts = subst (λ ps. All (LastMet can.memory 2 key2) (nodes_on_path ps)) (sym can.other.way)
        (all-last_met can.memory can.bits 2 can.first.lawful key2 in-range2 2 (omega arith) (omega arith) (height_of can.memory 2) 0 2 refl refl)

    abbrev LastNext : List WorkPage → ℕ → Type 0
    LastNext work p = MatchOption (siblings_of key2 (memory_in work p).records).right (HasNext work (siblings_of key2 (memory_in work p).records).here.1) (λ right. HasNext work right.1)

    some-page : (p : ℕ) → 0 < weight_of (counts_page p) can.memory 2 → p ≢ 0
    some-page p met = met-some (λ n. MOST_RECORDS) can.memory can.bits 2 can.first.lawful 2 (omega arith) (omega arith) p (omega arith)

    behind-mid : All (LastNext mid) (nodes_on_path path2)
    behind-mid =
        both-all (λ p. (0 < weight_of (counts_page p) can.memory 2) × IsThere old p) (λ p. LastMet can.memory 2 key2 p × LastNext old p) (LastNext mid) (nodes_on_path path2)
        (λ p a b.
        let t : Siblings = siblings_of key2 (memory_in old p).records in
        let e = ap (λ (q : PageState). siblings_of key2 q.records) (is-kept p a.0) in
        let was = ap (λ (q : PageState). siblings_of key2 q.records) (can.first.same p (some-page p a.0) a.1) in
        let met : MatchOption t.right (0 < weight_of (counts_page t.here.1) can.memory 2) (λ r. 0 < weight_of (counts_page r.1) can.memory 2) =
        subst (λ (t : Siblings). MatchOption t.right (0 < weight_of (counts_page t.here.1) can.memory 2) (λ r. 0 < weight_of (counts_page r.1) can.memory 2)) (sym was) b.0 in
        subst (λ (t : Siblings). MatchOption t.right (HasNext mid t.here.1) (λ right. HasNext mid right.1)) (sym e)
        (match-there (λ n. 0 < weight_of (counts_page n) can.memory 2) (HasNext old) (HasNext mid) t.right t.here.1 next-mid met b.1))
        (both-all (λ p. 0 < weight_of (counts_page p) can.memory 2) (IsThere old) (λ p. (0 < weight_of (counts_page p) can.memory 2) × IsThere old p) (nodes_on_path path2) (λ p a b. (a, b)) nodes-met nodes-there)
        (both-all (LastMet can.memory 2 key2) (LastNext old) (λ p. LastMet can.memory 2 key2 p × LastNext old p) (nodes_on_path path2) (λ p a b. (a, b)) lasts can.other_images.behind_there)

    images-mid : HasDeleteImages path2 key2 mid
    images-mid = record {
      path_there = trees-mid can.pages can.memory s.memory can.bits s.bits s.touched s.moves content old mid can.first.lawful can.first.same leads apart plan key2 path2 can.other can.other_images.path_there;
      siblings_there = siblings-mid;
      behind_there = behind-mid;
      space_there = λ some. is-there 0 (can.other_images.space_there some);
    }

    pub agrees-second : Agrees can.pages 2 2 key2 path2 mid then s.bits
    agrees-second = agrees-mid can.pages can.memory s.memory can.bits s.bits s.touched s.moves content old mid can.first.lawful can.first.same leads apart plan key2 path2 can.other

    -- the second delete may be planned
    pub can-second : CanDelete path2 key2 mid
    can-second = record {
      pages = can.pages;
      roots = 2;
      root = 2;
      memory = then;
      bits = s.bits;
      agrees = agrees-second;
      images = images-mid;
      clocks = clocks-mid can.pages can.memory s.memory can.bits s.bits s.touched s.moves content old mid can.first.lawful can.first.same leads apart plan can.clocks;
    }

    -- and its key is there
    pub found-second : value_at key2 (memory_in mid (last_of path2)).records ≡ value_at key2 (memory_in old (last_of path2)).records
    found-second = ap (λ (o : Option (List ℕ)). value_at key2 (state_or_free o).records)
        (last-kept can.pages can.memory s.memory can.bits s.bits s.touched s.moves content old mid can.first.lawful can.first.same leads apart plan key2 path2 can.other)
