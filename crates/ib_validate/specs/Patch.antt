-- The test of a patch: pages that an entry writes, tested by their old and new visits alone.
use Rattle.std.specs.Prelude.{◌≡◌, ◌≢◌, ℕ, zero, suc, ◌+◌, ◌<◌, ◌≤◌, Bool, true, false, List, [], ◌∷◌, ◌++◌, ◌==◌, ◌&&◌, nat_le, nat_lt, if◌then◌else◌}
use Rattle.ib_map.specs.Keys.{MapKey, rank, end_rank}
use Rattle.ib_map.specs.Pairs.{Pairs}
use Rattle.ib_heap.specs.declared.TheConstants.{MOST_LEVEL, MOST_RECORDS}
use Rattle.ib_page.specs.declared.space.TheConstants.{MAPPED_PAGES}
use Rattle.ib_walk.specs.Pages.{Free, PageMemory, IsSound}
use Rattle.ib_walk.specs.Walk.{Visit, children_of, children, sum_of, counts_page, IsNodeAt, IsLeafAt, counts_visit}
use Rattle.std.specs.List.{AllByRecursion}
use Rattle.ib_walk.specs.Trees.{height_of, top_of, weight_of, most_height}

-- a visit with its height
pub record LevelVisit : Type 0 where
  pub height : ℕ
  pub visit : Visit

-- what these weigh together
abbrev pub over : (ℕ → Visit → ℕ) → List LevelVisit → ℕ
over f [] = 0
over f (s ∷ ss) = f s.height s.visit + over f ss

-- what the children of a visit weigh
abbrev pub children_weight : PageMemory → (ℕ → Visit → ℕ) → ℕ → Visit → ℕ
children_weight m f zero v = 0
children_weight m f (suc h) v = sum_of (f h) (children_of (m v.page).records v.high)

-- the weight on written pages alone, and on the others
abbrev pub on_written : (ℕ → Bool) → (ℕ → Visit → ℕ) → ℕ → Visit → ℕ
on_written written f h v = if written v.page then f h v else 0

abbrev pub off_written : (ℕ → Bool) → (ℕ → Visit → ℕ) → ℕ → Visit → ℕ
off_written written f h v = if written v.page then 0 else f h v

-- the written ones of a level
abbrev pub written_visits : (ℕ → Bool) → ℕ → List Visit → List LevelVisit
written_visits written h [] = []
written_visits written h (v ∷ vs) = if written v.page then record { height = h; visit = v } ∷ written_visits written h vs else written_visits written h vs

-- the written ones of a level and those below
abbrev pub written_below : (ℕ → Bool) → PageMemory → ℕ → List Visit → List LevelVisit
written_below written m zero vs = written_visits written zero vs
written_below written m (suc h) vs = written_visits written (suc h) vs ++ written_below written m h (children m vs)

-- the visits of the written pages
abbrev pub old_visits : (ℕ → Bool) → PageMemory → ℕ → List LevelVisit
old_visits written m root = written_below written m (height_of m root) (top_of root)

abbrev pub top : ℕ → Visit
top root = record { page = root; low = 0; high = end_rank }

-- New visits, the old root and the old children are together the old visits, the new root and the new
-- children: by whatever weight.
abbrev pub IsBalanced : PageMemory → PageMemory → ℕ → List LevelVisit → List LevelVisit → Type 0
IsBalanced m new root old fresh = (f : ℕ → Visit → ℕ) →
    over f fresh + f (m root).level (top root) + over (children_weight m f) old ≡ over f old + f (new root).level (top root) + over (children_weight new f) fresh

-- a leaf, or a node of this height
abbrev pub IsGoodAt : PageMemory → ℕ → Visit → Type 0
IsGoodAt m zero v = IsLeafAt m v
IsGoodAt m (suc h) v = IsNodeAt m (suc h) v

-- a leaf of the tree after the patch: a new visit, or an old one of a page that isn't written
abbrev pub IsLeafIn : (ℕ → Bool) → PageMemory → ℕ → List LevelVisit → Visit → Type 0
IsLeafIn written m root fresh w = 0 < over (counts_visit 0 w) fresh + weight_of (off_written written (counts_visit 0 w)) m root

-- a leaf is linked with the leaves whose ranges touch its own
pub record IsLinkedAt (IsLeaf : Visit → Type 0) (new : PageMemory) (v : Visit) : Type 0 where
  pub first : v.low ≡ 0 → (new v.page).prev ≡ 0
  pub last : v.high ≡ end_rank → (new v.page).next ≡ 0
  pub left : (w : Visit) → IsLeaf w → v.low ≡ w.high → ((new w.page).next ≡ v.page) × ((new v.page).prev ≡ w.page)
  pub right : (w : Visit) → IsLeaf w → w.low ≡ v.high → ((new v.page).next ≡ w.page) × ((new w.page).prev ≡ v.page)

-- `fresh` are the new visits of the written pages in the tree of a root
pub record IsGrounded (written : ℕ → Bool) (m new : PageMemory) (root : ℕ) (fresh : List LevelVisit) : Type 0 where
  pub balanced : IsBalanced m new root (old_visits written m root) fresh
  pub mine : AllByRecursion (λ s. written s.visit.page ≡ true) fresh
  pub good : AllByRecursion (λ s. IsGoodAt new s.height s.visit) fresh
  pub low : AllByRecursion (λ s. s.height < MOST_LEVEL + 1) fresh

-- what is asked of a patch in the tree of a root
pub record IsPatch (written : ℕ → Bool) (m new : PageMemory) (root : ℕ) (fresh : List LevelVisit) : Type 0 where
  pub grounded : IsGrounded written m new root fresh
  pub linked : AllByRecursion (λ s. s.height ≡ 0 → IsLinkedAt (IsLeafIn written m root fresh) new s.visit) fresh

abbrev pub times_in : (ℕ → List LevelVisit) → ℕ → ℕ → ℕ
times_in fresh zero n = 0
times_in fresh (suc roots) n = over (counts_page n) (fresh (suc roots)) + times_in fresh roots n

-- what is asked of a patch
pub record IsPatched (written : ℕ → Bool) (m new : PageMemory) (bits after : ℕ → ℕ) (roots : ℕ) (fresh : ℕ → List LevelVisit) : Type 0 where
  pub trees : (root : ℕ) → 0 < root → root ≤ roots → IsPatch written m new root (fresh root) × ((new root).level ≤ most_height roots)
  pub sound : (n : ℕ) → n ≢ 0 → written n ≡ true → IsSound MOST_RECORDS (new n)
  pub taken : (n : ℕ) → written n ≡ true → after n ≡ times_in fresh roots n + (if n == 0 then 1 else 0)
  pub once : (n : ℕ) → written n ≡ true → after n ≤ 1
  pub few : (n : ℕ) → MAPPED_PAGES ≤ n → written n ≡ true → after n ≡ 0
  pub freed : (n : ℕ) → written n ≡ true → after n ≡ 0 → (new n).kind ≡ Free
  pub others : (n : ℕ) → written n ≡ false → after n ≡ bits n

-- the pairs whose keys' ranks are from `low` on and below `high`
abbrev pub slice : Pairs → ℕ → ℕ → Pairs
slice [] low high = []
slice (x ∷ xs) low high = if nat_le low (rank x.0) && nat_lt (rank x.0) high then x ∷ slice xs low high else slice xs low high

-- each written leaf has what the target has in its range, and the key's leaf is written
pub record IsSliced (new : PageMemory) (fresh : List LevelVisit) (target : Pairs) (key : MapKey) : Type 0 where
  pub each : AllByRecursion (λ s. s.height ≡ 0 → (new s.visit.page).records ≡ slice target s.visit.low s.visit.high) fresh
  pub there : (v : Visit) × (0 < over (counts_visit 0 v) fresh) × (v.low ≤ rank key) × (rank key < v.high)
