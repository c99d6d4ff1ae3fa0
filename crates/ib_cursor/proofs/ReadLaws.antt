-- The path that is read behind the claimed index.
use Rattle.std.proofs.Common.{◌≡◌, ℕ, zero, suc, ◌+◌, ◌<◌, ◌≤◌, List, [], ◌∷◌, ◌++◌, length, refl, sym, ap, subst, ◌∙◌, arith, append_assoc, length-append}
use Rattle.ib_map.specs.Keys.{MapKey, rank, end_rank}
use Rattle.ib_heap.specs.declared.TheConstants.{MOST_LEVEL}
use Rattle.ib_layout.specs.Geometry.{Sizes}
use Rattle.ib_logrec.specs.declared.entry.Entry.{Entry}
use Rattle.ib_rule.specs.declared.looks.Grants.{Grants}
use Rattle.ib_rule.specs.Pass.{PassState}
use Rattle.ib_walk.specs.Pages.{PageMemory}
use Rattle.ib_walk.specs.Trees.{height_of, IsTreeOf}
use Rattle.ib_walk.specs.Search.{child_for, page_below}
use Rattle.ib_plans.specs.Agreement.{path_down, path_of}
use Rattle.ib_tree.specs.Logs.{pages_after}
use Rattle.ib_cursor.specs.OnPath.{IsOnPath}
use Rattle.ib_cursor.specs.Going.{IsKnown}
use Rattle.ib_cursor.specs.Shapes.{ShapeLaws, KeepsClaim, HasReadLink, IsReading, HasReadPath}
use Rattle.ib_cursor.proofs.OnPathLaws.{root_on-path, child_on-path, page_on-path}
use Rattle.ib_cursor.proofs.LogLaws.{tree_of-log}
use Rattle.ib_cursor.proofs.LatchingLaws.{went_both}
use Rattle.ib_cursor.proofs.ClaimLaws.{keeps_both}
use Rattle.ib_cursor.proofs.LinkReadLaws.{keeps_on_path}

-- one page stands at a level of the path
one-at : (m : PageMemory) (root : ℕ) (key : MapKey) (a b level : ℕ) → IsOnPath m root key a level → IsOnPath m root key b level → a ≡ b
one-at m root key a b level o p =
    let d : o.depth ≡ p.depth = let x = o.height in let y = p.height in omega arith in
    sym o.below ∙ (ap (λ d. page_below m key d root) d ∙ p.below)

-- where pages stay on the path, the path stays
module _ (m new : PageMemory) (root : ℕ) (key : MapKey) (stay : (page level : ℕ) → IsOnPath m root key page level → IsOnPath new root key page level) where
  pub down_same : (level page : ℕ) → IsOnPath m root key page level → path_down new key level page ≡ path_down m key level page
  down_same zero page o = refl
  down_same (suc level) page o =
      let below = child_on-path m root key page level o in
      let same = one-at new root key (child_for key 0 (new page).records) (child_for key 0 (m page).records) level (child_on-path new root key page level (stay page (suc level) o)) (stay (child_for key 0 (m page).records) level below) in
      ap (λ ps. page ∷ ps) (ap (path_down new key level) same ∙ down_same level (child_for key 0 (m page).records) below)

  pub height_same : IsTreeOf new (height_of new root) root → rank key < end_rank → height_of new root ≡ height_of m root
  height_same tree lt = (page_on-path new root key root (height_of m root) tree lt (stay root (height_of m root) (root_on-path m root key))).height

  pub path_same : IsTreeOf new (height_of new root) root → rank key < end_rank → path_of new key root ≡ path_of m key root
  path_same tree lt = ap (λ h. path_down new key h root) (height_same tree lt) ∙ down_same (height_of m root) root (root_on-path m root key)

module _ (sizes : Sizes) (roots : ℕ) (lawful : List Entry → Type 0) (opening : ℕ → ℕ) (shape : ShapeLaws sizes.pages roots lawful opening) (root : ℕ) (some : 0 < root) (le : root ≤ roots) (key : MapKey) (lt : rank key < end_rank) where
  tree-of : (log : List Entry) → lawful log → IsTreeOf (pages_after opening log) (height_of (pages_after opening log) root) root
  tree-of log legal = tree_of-log sizes.pages roots lawful opening shape.laws root some le log legal

  level-is : (log : List Entry) (page level : ℕ) → lawful log → IsOnPath (pages_after opening log) root key page level → (pages_after opening log page).level ≡ level
  level-is log page level legal o = (page_on-path (pages_after opening log) root key page level (tree-of log legal) lt o).height

  -- the whole path stays
  pub keeps_path : (p q : PassState) → IsKnown sizes lawful q → KeepsClaim p q → path_of (pages_after opening q.view.memory.seen) key root ≡ path_of (pages_after opening p.view.memory.seen) key root
  keeps_path p q known k = path_same (pages_after opening p.view.memory.seen) (pages_after opening q.view.memory.seen) root key (keeps_on_path sizes roots lawful opening shape root some le key lt p q known k) (tree-of q.view.memory.seen known.legal) lt

  pub keeps_down : (p q : PassState) → IsKnown sizes lawful q → KeepsClaim p q → (page level : ℕ) → IsOnPath (pages_after opening p.view.memory.seen) root key page level
      → path_down (pages_after opening q.view.memory.seen) key level page ≡ path_down (pages_after opening p.view.memory.seen) key level page
  keeps_down p q known k page level o =
      down_same (pages_after opening p.view.memory.seen) (pages_after opening q.view.memory.seen) root key (keeps_on_path sizes roots lawful opening shape root some le key lt p q known k) level page o

  -- the root was read
  pub read_first : (level link : ℕ) (p q : PassState) → level ≤ MOST_LEVEL → HasReadLink sizes lawful opening root key root level link p q → IsReading sizes lawful opening root key [] root level link p q
  read_first level link p q low k = record {
    index = k.index;
    keeps = k.keeps;
    went = k.went;
    on_path = k.on_path;
    names = k.names;
    path = ap (λ h. path_down (pages_after opening q.view.memory.seen) key h root) (level-is q.view.memory.seen root level k.index.known.legal k.on_path);
    short = omega arith;
    s = ap (λ (g : Grants). g.s) k.grants ∙ omega arith;
    sx = ap (λ (g : Grants). g.sx) k.grants;
    x = ap (λ (g : Grants). g.x) k.grants;
  }

  -- the child of the last page
  pub read_child : (above : List ℕ) (page level link : ℕ) (p q : PassState) → 0 < level → IsReading sizes lawful opening root key above page level link p q → (n : ℕ) × IsOnPath (pages_after opening q.view.memory.seen) root key link n
  read_child above page zero link p q up r = absurd (omega arith)
  read_child above page (suc n) link p q up r =
      (n, subst (λ k. IsOnPath (pages_after opening q.view.memory.seen) root key k n) (sym (r.names.child (omega arith))) (child_on-path (pages_after opening q.view.memory.seen) root key page n r.on_path))

  -- .. was read
  pub read_step : (above : List ℕ) (page level link lower next : ℕ) (p q t : PassState) → 0 < level → IsReading sizes lawful opening root key above page level link p q → HasReadLink sizes lawful opening root key link lower next q t
      → IsReading sizes lawful opening root key (above ++ page ∷ []) link lower next p t × (lower < level)
  read_step above page zero link lower next p q t up r k = absurd (omega arith)
  read_step above page (suc n) link lower next p q t up r k =
      let m : PageMemory = pages_after opening q.view.memory.seen in
      let new : PageMemory = pages_after opening t.view.memory.seen in
      let on : IsOnPath m root key link n = subst (λ k. IsOnPath m root key k n) (sym (r.names.child (omega arith))) (child_on-path m root key page n r.on_path) in
      let later = keeps_on_path sizes roots lawful opening shape root some le key lt q t k.index.known k.keeps link n on in
      let same : lower ≡ n = sym (level-is t.view.memory.seen link lower k.index.known.legal k.on_path) ∙ level-is t.view.memory.seen link n k.index.known.legal later in
      let down : path_down m key (suc n) page ≡ page ∷ path_down m key n link = ap (λ c. page ∷ path_down m key n c) (sym (r.names.child (omega arith))) in
      let below : path_down m key n link ≡ path_down new key lower link = sym (keeps_down q t k.index.known k.keeps link n on) ∙ ap (λ h. path_down new key h link) (sym same) in
      let gs : t.view.grants.s ≡ q.view.grants.s + 1 = ap (λ (g : Grants). g.s) k.grants in
      let gsx : t.view.grants.sx ≡ q.view.grants.sx = ap (λ (g : Grants). g.sx) k.grants in
      let gx : t.view.grants.x ≡ q.view.grants.x = ap (λ (g : Grants). g.x) k.grants in
      let long = length-append above (page ∷ []) in (
        record {
          index = k.index;
          keeps = keeps_both p q t r.keeps k.keeps;
          went = went_both p q t r.went k.went;
          on_path = k.on_path;
          names = k.names;
          path = keeps_path q t k.index.known k.keeps ∙ (r.path ∙ (ap (λ ps. above ++ ps) (down ∙ ap (λ ps. page ∷ ps) below) ∙ sym (append_assoc above (page ∷ []) (path_down new key lower link))));
          short = let s = r.short in omega arith;
          s = let s = r.s in omega arith;
          sx = gsx ∙ r.sx;
          x = gx ∙ r.x;
        },
        omega arith,
      )

  -- the leaf was read
  pub read_done : (above path : List ℕ) (page level link : ℕ) (p q : PassState) → level ≡ 0 → path ≡ above ++ page ∷ [] → IsReading sizes lawful opening root key above page level link p q → HasReadPath sizes lawful opening root key path page link p q
  read_done above path page (suc n) link p q low is r = absurd (omega arith)
  read_done above path page zero link p q low is r =
      let long = ap length is ∙ length-append above (page ∷ []) in
      record {
        index = r.index;
        keeps = r.keeps;
        went = r.went;
        front = above;
        ends = is;
        on_path = is ∙ sym r.path;
        lowest = r.on_path;
        left_of = r.names.left refl;
        short = let s = r.short in omega arith;
        s = let s = r.s in omega arith;
        sx = r.sx;
        x = r.x;
      }
