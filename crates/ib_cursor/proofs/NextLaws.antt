-- The leaf behind a leaf, and the step to it.
use Rattle.std.specs.List.{All, AllByRecursion}
use Rattle.std.specs.Prelude.{◌==◌, not, ◌||◌, nat_lt, filter, slice_get, IsSome, IsSomeAnd, MatchOption, Option}
use Rattle.std.proofs.Common.{◌≡◌, ◌≢◌, inl, inr, ℕ, zero, suc, ◌+◌, ◌<◌, ◌≤◌, Bool, true, false, List, [], ◌∷◌, ◌++◌, map, Some, None, length, refl, sym, ap, subst, ◌∙◌, arith, append_assoc, eq-eqb, ne_eqb}
use Rattle.std.proofs.lemmas.Option.{get_or_from_slice_get, slice_get_within}
use Rattle.std.proofs.lemmas.Bool.{cases_Bool}
use Rattle.ib_map.specs.Keys.{MapKey, rank, end_rank}
use Rattle.ib_map.specs.Writes.{touches, word_place}
use Rattle.ib_map.specs.declared.TheConstants.{PAGE_WORDS}
use Rattle.ib_levels.specs.declared.latch.Latch.{Latch}
use Rattle.ib_levels.specs.declared.level.Level.TheVariants.{TreeNode}
use Rattle.ib_levels.specs.declared.level.Mode.{Mode}
use Rattle.ib_levels.specs.declared.level.Mode.TheVariants.{S}
use Rattle.ib_layout.specs.Geometry.{Sizes}
use Rattle.ib_core.specs.Holders.{CanWish}
use Rattle.ib_core.specs.Sessions.{holdings}
use Rattle.ib_page.specs.Image.{IsTreePage, IsFormed, next_of}
use Rattle.ib_page.specs.Work.{WorkPage, changed_of, with_read}
use Rattle.ib_heap.proofs.FormLaws.{formed-tree}
use Rattle.ib_logrec.specs.declared.entry.Entry.{Entry}
use Rattle.ib_logrec.specs.Law.{PageRange}
use Rattle.ib_logrec.specs.Log.{memory_after}
use Rattle.ib_rule.specs.Pass.{PassState}
use Rattle.ib_rule.specs.Views.{is_watched}
use Rattle.ib_walk.specs.Pages.{PageMemory}
use Rattle.ib_walk.specs.Walk.{Visit, below, sum_of, counts_page, counts_visit, AreLinked, IsTiled, first_page}
use Rattle.ib_walk.specs.Trees.{top_of, height_of, leaves_of, weight_of, IsTreeOf}
use Rattle.ib_walk.specs.Words.{image_of}
use Rattle.ib_walk.proofs.ImageLaws.{image_of-list}
use Rattle.ib_walk.proofs.MeetLaws.{counts_page-own, lowest-le_weight}
use Rattle.ib_walk.proofs.SearchLaws.{IsTiled-right}
use Rattle.ib_walk.proofs.TreeLaws.{weight_of-le, IsTiled-leaves}
use Rattle.ib_walk.proofs.WalkLaws.{sum_of-append}
use Rattle.ib_validate.specs.Patch.{IsGoodAt}
use Rattle.ib_tree.specs.Logs.{HasRange, pages_after}
use Rattle.ib_tree.proofs.PatchLaws.{counts_visit-own, IsGoodAt-tree}
use Rattle.ib_mtr.specs.Memo.{IsNewest}
use Rattle.ib_mtr.specs.Loads.{IsPageAfter}
use Rattle.ib_core.specs.declared.session.Session.{Session}
use Rattle.ib_rule.specs.declared.memory.Knowledge.{Knowledge}
use Rattle.ib_rule.proofs.Watching.{word_stays}
use Rattle.ib_map.proofs.WriteLaws.{page_at-word}
use Rattle.ib_mtr.specs.Mtr.{IsReleasedAt, released_at}
use Rattle.ib_cursor.specs.Grants.{Grant, memo_of, page_grant, HasGrants, HasTaken, IsAway}
use Rattle.ib_cursor.specs.Going.{HasSeen}
use Rattle.ib_cursor.specs.Descent.{HasPage, HasDescended}
use Rattle.ib_cursor.specs.Nexts.{HoldsLeaf, HoldsNext}
use Rattle.ib_cursor.proofs.LatchingLaws.{went_beside, went_both, known_beside, beside_taken}
use Rattle.ib_cursor.proofs.GrantLaws.{HasGiven, away-none, away_left, away_append, none_away, last_held, grants_more, given, grants_left, released_is}
use Rattle.ib_cursor.specs.Laws.{Laws}
use Rattle.ib_cursor.proofs.LogLaws.{tree_of-log, range_stays, bit_inside}
use Rattle.ib_cursor.proofs.OnPathLaws.{IsIn, latch_page, met_on-path}
use Rattle.ib_cursor.proofs.DownLaws.{leaf_path}
use Rattle.ib_cursor.proofs.PageLaws.{IsTreeImage, tree_image}
use Rattle.ib_walk.proofs.CountLaws.{bits-met, weight-met, met-weight}

-- a leaf among the leaves
pub record IsLeaf (m : PageMemory) (root : ℕ) (v : Visit) : Type 0 where
  pub before : List Visit
  pub behind : List Visit
  pub is : leaves_of m root ≡ before ++ v ∷ behind

pub record HasSplit (v : Visit) (vs : List Visit) : Type 0 where
  pub before : List Visit
  pub behind : List Visit
  pub is : vs ≡ before ++ v ∷ behind

split : (v : Visit) (vs : List Visit) → IsIn v vs → HasSplit v vs
split v [] there = absurd there
split v (x ∷ xs) (inl is) = record { before = []; behind = xs; is = ap (λ (u : Visit). u ∷ xs) (sym is) }
split v (x ∷ xs) (inr later) = let r = split v xs later in record { before = x ∷ r.before; behind = r.behind; is = ap (λ vs. x ∷ vs) r.is }

pub leaf-met : (m : PageMemory) (root : ℕ) (v : Visit) → 0 < weight_of (counts_visit 0 v) m root → IsLeaf m root v
leaf-met m root v met =
    let s = latch_page m (height_of m root) 0 v (top_of root) met in
    let deep : s.depth ≡ height_of m root = let h = s.height in omega arith in
    let r = split v (below m s.depth (top_of root)) s.there in
    record { before = r.before; behind = r.behind; is = ap (λ d. below m d (top_of root)) (sym deep) ∙ r.is }

pub leaf-counts : (m : PageMemory) (root : ℕ) (v : Visit) → IsLeaf m root v → (f : ℕ → Visit → ℕ) → 1 ≤ f 0 v → 1 ≤ weight_of f m root
leaf-counts m root v l f one =
    let a = lowest-le_weight f m (height_of m root) (top_of root) in
    let b = ap (sum_of (f 0)) l.is in
    let c = sum_of-append (f 0) l.before (v ∷ l.behind) in omega arith

-- behind a leaf that has a next link stands the leaf that the link names
pub linked-at : (m : PageMemory) (prev : ℕ) (before : List Visit) (v : Visit) (behind : List Visit) (next : ℕ) → AreLinked m prev (before ++ v ∷ behind) next → (m v.page).next ≡ first_page behind next
linked-at m prev [] v behind next h = h.1
linked-at m prev (x ∷ xs) v behind next h = linked-at m x.page xs v behind next h.2

pub record IsBehind (m : PageMemory) (root high next : ℕ) : Type 0 where
  pub end : ℕ
  pub leaf : IsLeaf m root (record { page = next; low = high; high = end })

behind-of : (m : PageMemory) (root : ℕ) (v : Visit) → IsTreeOf m (height_of m root) root → IsLeaf m root v → (m v.page).next ≢ 0 → IsBehind m root v.high (m v.page).next
behind-of m root v tree l some =
    let link = linked-at m 0 l.before v l.behind 0 (subst (λ vs. AreLinked m 0 vs 0) l.is tree.linked) in
    let tiles = IsTiled-right 0 l.before v l.behind end_rank (subst (λ vs. IsTiled 0 vs end_rank) l.is (IsTiled-leaves m root tree)) in
    go l.behind l.is link tiles
  where
    go : (behind : List Visit) → leaves_of m root ≡ l.before ++ v ∷ behind → (m v.page).next ≡ first_page behind 0 → IsTiled v.high behind end_rank → IsBehind m root v.high (m v.page).next
    go [] is link tiles = absurd (some link)
    go (x ∷ xs) is link tiles =
        let same : x ≡ record { page = (m v.page).next; low = v.high; high = x.high } = λ j. record { page = sym link j; low = tiles.0 j; high = x.high } in
        record {
          end = x.high;
          leaf = record {
            before = l.before ++ v ∷ [];
            behind = xs;
            is = is ∙ (sym (append_assoc l.before (v ∷ []) (x ∷ xs)) ∙ ap (λ (u : Visit). (l.before ++ v ∷ []) ++ u ∷ xs) same);
          };
        }

-- the leaf behind, with its range, is a page of the space
pub record IsNextMet (pages roots : ℕ) (m : PageMemory) (r : PageRange) (next : ℕ) : Type 0 where
  pub range : PageRange
  pub root : range.root ≡ r.root
  pub begins : range.low ≡ r.end
  pub lowest : range.level ≡ 0
  pub met : HasRange roots m next range
  pub inside : next < pages

module _ (pages roots : ℕ) (lawful : List Entry → Type 0) (opening : ℕ → ℕ) (laws : Laws pages roots lawful opening) (log : List Entry) (legal : lawful log)
    (leaf : ℕ) (image : List ℕ) (size : length image ≡ PAGE_WORDS) (r : PageRange) (lowest : r.level ≡ 0) (right : IsPageAfter opening log leaf image) (met : HasRange roots (pages_after opening log) leaf r) where
  tree : IsTreeOf (pages_after opening log) (height_of (pages_after opening log) r.root) r.root
  tree = tree_of-log pages roots lawful opening laws r.root met.0 met.1 log legal

  image-is : image_of (memory_after opening log) leaf ≡ image
  image-is = image_of-list (memory_after opening log) leaf image size (λ index lt. sym (right index lt))

  here : 0 < weight_of (counts_visit 0 (record { page = leaf; low = r.low; high = r.end })) (pages_after opening log) r.root
  here = subst (λ l. 0 < weight_of (counts_visit l (record { page = leaf; low = r.low; high = r.end })) (pages_after opening log) r.root) lowest (weight-met met.2)

  good : IsGoodAt (pages_after opening log) 0 (record { page = leaf; low = r.low; high = r.end })
  good = IsGoodAt-tree (pages_after opening log) (height_of (pages_after opening log) r.root) (top_of r.root) tree.tree 0 (record { page = leaf; low = r.low; high = r.end }) here

  is-tree : IsTreeImage (memory_after opening log) leaf
  is-tree = tree_image (memory_after opening log) leaf good.kind

  pub leaf_formed : IsFormed image
  leaf_formed = formed-tree image (subst IsTreePage image-is is-tree.tree)

  link : (pages_after opening log leaf).next ≡ next_of image
  link = is-tree.next ∙ ap next_of image-is

  inside-of : (page : ℕ) (v : Visit) → v.page ≡ page → IsLeaf (pages_after opening log) r.root v → page < pages
  inside-of page v at l =
      let own = counts_page-own page 0 v at in
      let one = leaf-counts (pages_after opening log) r.root v l (counts_page page) (omega arith) in
      let all = weight_of-le (counts_page page) (pages_after opening log) r.root roots met.0 met.1 in
      let law = bits-met (laws.memory log legal).law page in
      bit_inside pages (memory_after opening log) page (omega (arith, one, all, law))

  pub leaf_inside : leaf < pages
  leaf_inside = inside-of leaf (record { page = leaf; low = r.low; high = r.end }) refl (leaf-met (pages_after opening log) r.root (record { page = leaf; low = r.low; high = r.end }) here)

  pub next_met : next_of image ≢ 0 → IsNextMet pages roots (pages_after opening log) r (next_of image)
  next_met some = subst (IsNextMet pages roots (pages_after opening log) r) link (found (behind-of (pages_after opening log) r.root (record { page = leaf; low = r.low; high = r.end }) tree
      (leaf-met (pages_after opening log) r.root (record { page = leaf; low = r.low; high = r.end }) here) (λ z. some (sym link ∙ z))))
    where
      found : IsBehind (pages_after opening log) r.root r.end (pages_after opening log leaf).next → IsNextMet pages roots (pages_after opening log) r (pages_after opening log leaf).next
      found b = record {
        range = record { root = r.root; low = r.end; end = b.end; level = 0 };
        root = refl;
        begins = refl;
        lowest = refl;
        met = (
          met.0,
          met.1,
          met-weight (pages_after opening log) r.root 0 (record { page = (pages_after opening log leaf).next; low = r.end; high = b.end })
              (leaf-counts (pages_after opening log) r.root (record { page = (pages_after opening log leaf).next; low = r.end; high = b.end }) b.leaf
              (counts_visit 0 (record { page = (pages_after opening log leaf).next; low = r.end; high = b.end })) (let own = counts_visit-own 0 (record { page = (pages_after opening log leaf).next; low = r.end; high = b.end }) in omega arith)),
        );
        inside = inside-of (pages_after opening log leaf).next (record { page = (pages_after opening log leaf).next; low = r.end; high = b.end }) refl b.leaf;
      }

-- the place of the last grant in a memo
pub last_place : (l : ℕ) (m : Mode) (front : List Grant) (g : Grant) (at : ℕ) → g.latch ≡ l → IsAway l front → IsSomeAnd (slice_get (map memo_of (front ++ g ∷ [])) at) (λ h. h.0 ≡ record { 0 = l }) → at ≡ length front
last_place l m [] g zero is away there = refl
last_place l m [] g (suc at) is away there = absurd there
last_place l m (x ∷ xs) g zero is away there = absurd (away.0 (ap (λ (k : Latch). k.0) there))
last_place l m (x ∷ xs) g (suc at) is away there = ap suc (last_place l m xs g at is away.1 there)

memo-last : (front : List Grant) (g : Grant) → slice_get (map memo_of (front ++ g ∷ [])) (length front) ≡ Some (memo_of g)
memo-last [] g = refl
memo-last (x ∷ xs) g = memo-last xs g

pub memo_length : (front : List Grant) (g : Grant) → length (map memo_of (front ++ g ∷ [])) ≡ length front + 1
memo_length [] g = refl
memo_length (x ∷ xs) g = let r = memo_length xs g in omega arith

-- .. is found, as the newest on its latch
pub last_there : (o : Option ℕ) (latch : Latch) (memo : List (Latch × Mode)) (front : List Grant) (g : Grant) → memo ≡ map memo_of (front ++ g ∷ []) → latch ≡ record { 0 = g.latch }
    → MatchOption o (All (λ h. h.0 ≢ latch) memo) (λ at. IsNewest latch at memo) → IsSome o
last_there None latch memo front g is at none =
    let there : slice_get memo (length front) ≡ Some (memo_of g) = ap (λ (ms : List (Latch × Mode)). slice_get ms (length front)) is ∙ memo-last front g in
    let is_g = get_or_from_slice_get memo (length front) (memo_of g) (memo_of g) there in
    absurd (none (length front) (memo_of g) (slice_get_within memo (length front) (memo_of g) there) (ap (λ (h : Latch × Mode). h.0) is_g ∙ sym at))
last_there (Some n) latch memo front g is at newest = refl

pub place_is : (o : Option ℕ) (at : ℕ) (latch : Latch) (leaf : ℕ) (memo : List (Latch × Mode)) (front : List Grant) → memo ≡ map memo_of (front ++ page_grant leaf S ∷ []) → latch ≡ record { 0 = leaf + 2 } → IsAway (leaf + 2) front
    → o ≡ Some at → MatchOption o (All (λ h. h.0 ≢ latch) memo) (λ at. IsNewest latch at memo) → at ≡ length front
place_is o at latch leaf memo front is named away some newest =
    let n = subst (λ o. MatchOption o (All (λ h. h.0 ≢ latch) memo) (λ at. IsNewest latch at memo)) some newest in
    last_place (leaf + 2) S front (page_grant leaf S) at refl away
    (subst (λ (ms : List (Latch × Mode)). IsSomeAnd (slice_get ms at) (λ h. h.0 ≡ record { 0 = leaf + 2 })) is (subst (λ (l : Latch). IsSomeAnd (slice_get memo at) (λ h. h.0 ≡ l)) named n.there))

-- the leaf's page leaves the work set with its latch, and the next one is there alone
pub work_left : (leaf next : ℕ) (image out : List ℕ) → next ≢ leaf → (b : Bool) → b ≡ false
    → filter (λ (w : WorkPage). not (w.page + 2 == leaf + 2) || b) (with_read next out (record { page = leaf; before = image; changed = image } ∷ [])) ≡ record { page = next; before = out; changed = out } ∷ []
work_left leaf next image out other b is =
    let yes : (leaf + 2 == leaf + 2) ≡ true = eq-eqb (leaf + 2) (leaf + 2) refl in
    let none : (next + 2 == leaf + 2) ≡ false = ne_eqb (next + 2) (leaf + 2) (λ e. other (omega arith)) in
    elim (cases_Bool (nat_lt leaf next)) [
      | inl t ↦ rw (t, yes, none, is) refl
      | inr t ↦ rw (t, none, yes, is) refl
    ]

pub absent_in : (leaf next : ℕ) (image : List ℕ) → next ≢ leaf → changed_of next (record { page = leaf; before = image; changed = image } ∷ []) ≡ None
absent_in leaf next image other = let none = ne_eqb leaf next (λ e. other (sym e)) in rw none refl

pub there_in : (leaf : ℕ) (image : List ℕ) → changed_of leaf (record { page = leaf; before = image; changed = image } ∷ []) ≡ Some image
there_in leaf image = let yes = eq-eqb leaf leaf refl in rw yes refl

-- a reader who has descended holds the leaf with its range, alone: the step to the next may begin there
pub holds_end : (sizes : Sizes) (roots : ℕ) (lawful : List Entry → Type 0) (opening : ℕ → ℕ) (laws : Laws sizes.pages roots lawful opening) (root : ℕ) (some : 0 < root) (le : root ≤ roots) (key : MapKey) (lt : rank key < end_rank)
    (path : List ℕ) (p q : PassState) (end : HasDescended sizes lawful opening root key false path p q) → (r : PageRange) × HoldsLeaf sizes lawful opening roots [] end.reached.leaf end.image r q
holds_end sizes roots lawful opening laws root some le key lt path p q end =
    let m : PageMemory = pages_after opening q.view.memory.seen in
    let leaf : ℕ = end.reached.leaf in
    let on_path = leaf_path sizes roots lawful opening laws root some le key lt false path p q end.reached in
    let a = met_on-path m root (tree_of-log sizes.pages roots lawful opening laws root some le q.view.memory.seen end.reached.known.legal) key lt leaf 0 on_path in
    let same : a.visit ≡ record { page = leaf; low = a.visit.low; high = a.visit.high } = ap (λ (n : ℕ). let w : Visit = record { page = n; low = a.visit.low; high = a.visit.high } in w) a.here in (
      record { root = root; low = a.visit.low; end = a.visit.high; level = 0 },
      record {
        grants = end.reached.grants;
        once = tt;
        watched = end.reached.watched;
        work = end.work;
        size = end.size;
        is_page = end.is_page;
        known = end.reached.known;
        lowest = refl;
        met = (some, le, met-weight m root 0 (record { page = leaf; low = a.visit.low; high = a.visit.high }) (subst (λ u. 0 < weight_of (counts_visit 0 u) m root) same a.met));
      },
    )

-- the step
module _ (sizes : Sizes) (roots : ℕ) (lawful : List Entry → Type 0) (opening : ℕ → ℕ) (laws : Laws sizes.pages roots lawful opening) (front : List Grant) (leaf : ℕ) (image : List ℕ) (r : PageRange) (p : PassState)
    (h : HoldsLeaf sizes lawful opening roots front leaf image r p) where
  pub held_formed : IsFormed image
  held_formed = leaf_formed sizes.pages roots lawful opening laws p.view.memory.seen h.known.legal leaf image h.size r h.lowest h.is_page h.met

  pub held_inside : leaf < sizes.pages
  held_inside = leaf_inside sizes.pages roots lawful opening laws p.view.memory.seen h.known.legal leaf image h.size r h.lowest h.is_page h.met

  pub next_inside : next_of image ≢ 0 → next_of image < sizes.pages
  next_inside some = (next_met sizes.pages roots lawful opening laws p.view.memory.seen h.known.legal leaf image h.size r h.lowest h.is_page h.met some).inside

  module _ (some : next_of image ≢ 0) (may : CanWish (next_of image + 2) TreeNode p.view.session) where
    pub next_other : next_of image ≢ leaf
    next_other e =
        let some = last_held front (page_grant leaf S) p h.grants in
        let none = subst (λ (n : ℕ). holdings (n + 2) p.view.session ≡ 0) e may.none in omega arith

    away : IsAway (next_of image + 2) (front ++ page_grant leaf S ∷ [])
    away = none_away (next_of image + 2) (front ++ page_grant leaf S ∷ []) (subst (λ (a : Session). holdings (next_of image + 2) a ≡ 0) h.grants.session may.none)

    module _ (q s t : PassState) (taken : HasTaken (page_grant (next_of image) S) p q) (seen : HasSeen sizes lawful q s) (memo : s.memo ≡ q.memo) (session : s.view.session ≡ q.view.session) (grants : s.view.grants ≡ q.view.grants)
        (loaded : HasPage opening (next_of image) q s) (release : IsReleasedAt (length front) s t) where
      both : HasGrants (front ++ page_grant leaf S ∷ page_grant (next_of image) S ∷ []) s
      both =
          let more = grants_more (front ++ page_grant leaf S ∷ []) (page_grant (next_of image) S) p s h.grants (memo ∙ ap (λ (u : PassState). u.memo) taken.pass) (session ∙ taken.taken.session) in
          subst (λ gs. HasGrants gs s) (append_assoc front (page_grant leaf S ∷ []) (page_grant (next_of image) S ∷ [])) more

      gave : HasGiven (page_grant leaf S) s t
      gave = given front (page_grant leaf S) (page_grant (next_of image) S ∷ []) s t both h.once ((λ e. next_other (omega arith)), tt) release

      one : HasGrants (front ++ page_grant (next_of image) S ∷ []) t
      one = grants_left front (page_grant leaf S) (page_grant (next_of image) S ∷ []) s t both h.once ((λ e. next_other (omega arith)), tt) release

      calm : AllByRecursion (λ e. touches leaf e.writes ≡ false) seen.went.more
      calm = seen.steady leaf (subst (λ (m : Knowledge). is_watched (leaf + 2) m.since ≡ true) (sym taken.taken.memory) h.watched)

      log-is : s.view.memory.seen ≡ p.view.memory.seen ++ seen.went.more
      log-is = seen.went.seen ∙ ap (λ (m : Knowledge). m.seen ++ seen.went.more) taken.taken.memory

      legal : lawful (p.view.memory.seen ++ seen.went.more)
      legal = subst lawful log-is seen.known.legal

      was : IsPageAfter opening (p.view.memory.seen ++ seen.went.more) leaf image
      was index lt = h.is_page index lt ∙ sym (word_stays opening p.view.memory.seen seen.went.more (word_place leaf index)
          (subst (λ (n : ℕ). AllByRecursion (λ (e : Entry). touches n e.writes ≡ false) seen.went.more) (sym (page_at-word leaf index lt)) calm))

      still : HasRange roots (pages_after opening (p.view.memory.seen ++ seen.went.more)) leaf r
      still = range_stays sizes.pages roots lawful opening laws r.root h.met.0 h.met.1 p.view.memory.seen seen.went.more leaf r legal calm h.met

      now : IsNextMet sizes.pages roots (pages_after opening (p.view.memory.seen ++ seen.went.more)) r (next_of image)
      now = next_met sizes.pages roots lawful opening laws (p.view.memory.seen ++ seen.went.more) legal leaf image h.size r h.lowest was still some

      work-is : t.work ≡ record { page = next_of image; before = loaded.image; changed = loaded.image } ∷ []
      work-is =
          let is = released_is front (page_grant leaf S) (page_grant (next_of image) S ∷ []) s t both h.once ((λ e. next_other (omega arith)), tt) release in
          let none : holdings (leaf + 2) t.view.session ≡ 0 = ap (holdings (leaf + 2)) one.session ∙ away-none (leaf + 2) (λ h. 1) (front ++ page_grant (next_of image) S ∷ []) (away_both front) in
          let gone : nat_lt 0 (holdings (leaf + 2) (released_at (length front) (memo_of (page_grant leaf S)) s).view.session) ≡ false = ap (λ (u : PassState). nat_lt 0 (holdings (leaf + 2) u.view.session)) (sym is) ∙ ap (nat_lt 0) none in
          let before : s.work ≡ with_read (next_of image) loaded.image (record { page = leaf; before = image; changed = image } ∷ []) = loaded.work ∙ ap (with_read (next_of image) loaded.image) (ap (λ (u : PassState). u.work) taken.pass ∙ h.work) in
          ap (λ (u : PassState). u.work) is ∙ (ap (filter (λ (w : WorkPage). not (w.page + 2 == leaf + 2) || nat_lt 0 (holdings (leaf + 2) (released_at (length front) (memo_of (page_grant leaf S)) s).view.session))) before
          ∙ work_left leaf (next_of image) image loaded.image next_other (nat_lt 0 (holdings (leaf + 2) (released_at (length front) (memo_of (page_grant leaf S)) s).view.session)) gone)
        where
          away_both : (gs : List Grant) → IsAway (leaf + 2) (front ++ page_grant (next_of image) S ∷ [])
          away_both gs = away_append (leaf + 2) front (page_grant (next_of image) S) h.once (λ e. next_other (omega arith))

      pub stepped : HoldsNext sizes lawful opening roots front leaf image r (next_of image) p t
      stepped =
          let same : t.view.memory.seen ≡ p.view.memory.seen ++ seen.went.more = gave.beside.seen ∙ log-is in
          record {
            link = refl;
            was = subst (λ l. IsPageAfter opening l leaf image) (sym same) was;
            met = subst (λ l. HasRange roots (pages_after opening l) leaf r) (sym same) still;
            out = loaded.image;
            range = now.range;
            root = now.root;
            begins = now.begins;
            holds = record {
              grants = one;
              once = away_left (next_of image + 2) front (page_grant leaf S ∷ []) away;
              watched = gave.watched (next_of image + 2) (λ e. next_other (omega arith)) ∙ seen.watched (next_of image + 2) (subst (λ (a : Session). 0 < holdings (next_of image + 2) a) (sym session) (last_taken taken));
              work = work-is;
              size = loaded.size;
              is_page = subst (λ l. IsPageAfter opening l (next_of image) loaded.image) (sym gave.beside.seen) loaded.is_page;
              known = known_beside sizes lawful s t gave.beside seen.known;
              lowest = now.lowest;
              met = subst (λ l. HasRange roots (pages_after opening l) (next_of image) now.range) (sym same) now.met;
            };
            went = went_both p s t (went_both p q s (went_beside p q (beside_taken (page_grant (next_of image) S) p q taken)) seen.went) (went_beside s t gave.beside);
            grants = gave.grants ∙ (grants ∙ taken.taken.grants);
          }
        where
          last_taken : HasTaken (page_grant (next_of image) S) p q → 0 < holdings (next_of image + 2) q.view.session
          last_taken t = last_held (front ++ page_grant leaf S ∷ []) (page_grant (next_of image) S) q
              (grants_more (front ++ page_grant leaf S ∷ []) (page_grant (next_of image) S) p q h.grants (ap (λ (u : PassState). u.memo) t.pass) t.taken.session)
