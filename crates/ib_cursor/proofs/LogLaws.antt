-- What lawful entries say of the path of a key, and that entries which leave a page alone leave its place on the path.
use Rattle.std.specs.List.{AllByRecursion}
use Rattle.std.specs.Prelude.{◌↔◌, slice_get, IsSomeAnd}
use Rattle.std.proofs.Common.{◌≡◌, ◌≢◌, inl, inr, ℕ, suc, ◌<◌, ◌≤◌, true, false, List, [], ◌∷◌, ◌++◌, sym, ap, subst, ◌∙◌, arith, append_assoc, append-nil}
use Rattle.std.proofs.lemmas.Bool.{cases_lt, le-ltb}
use Rattle.ib_map.specs.Keys.{MapKey, rank, end_rank}
use Rattle.ib_map.specs.Space.{has_pages}
use Rattle.ib_map.specs.Writes.{touches}
use Rattle.ib_page.specs.Image.{level_of, records_of}
use Rattle.ib_logrec.specs.declared.entry.Entry.{Entry}
use Rattle.ib_logrec.specs.declared.law.Law.{Ghosts}
use Rattle.ib_logrec.specs.Law.{PageRange}
use Rattle.ib_logrec.specs.Log.{by_place, memory_after}
use Rattle.ib_walk.specs.Pages.{PageMemory}
use Rattle.ib_walk.specs.Trees.{height_of, IsTreeOf}
use Rattle.ib_walk.specs.Search.{child_for}
use Rattle.ib_walk.specs.Words.{image_of, bits_of, IsLawfulMemory}
use Rattle.ib_tree.specs.Logs.{HasRange, pages_after}
use Rattle.ib_cursor.specs.Laws.{Laws}
use Rattle.ib_cursor.specs.OnPath.{IsOnPath}
use Rattle.ib_cursor.proofs.OnPathLaws.{root_on-path, child_on-path, stays_on-path, page_on-path, bit_on-path}
use Rattle.ib_cursor.proofs.PageLaws.{IsTreeImage, tree_image}

-- .. from the clauses of a law of trees
pub laws_of : (pages roots : ℕ) (lawful : List Entry → Type 0) (opening : ℕ → ℕ) (range : List Entry → ℕ → PageRange → Type 0)
    → ((xs ys : List Entry) → lawful (xs ++ ys) → lawful xs)
    → ((log : List Entry) → lawful log → IsLawfulMemory pages roots (memory_after opening log))
    → ((xs : List Entry) (e : Entry) (page : ℕ) (r : PageRange) → lawful (xs ++ e ∷ []) → touches page e.writes ≡ false → range (xs ++ e ∷ []) page r ↔ range xs page r)
    → ((log : List Entry) (page : ℕ) (r : PageRange) → range log page r ↔ HasRange roots (pages_after opening log) page r)
    → Laws pages roots lawful opening
laws_of pages roots lawful opening range begins memory stays ranged = record {
  begins = begins;
  memory = memory;
  stays = λ xs e page r legal calm met. (ranged (xs ++ e ∷ []) page r).0 ((stays xs e page r legal calm).1 ((ranged xs page r).1 met));
}

-- .. of the law of a type parameter, on a space of so many pages
pub laws_under : {T : Type 0} (law : Ghosts T) (roots pages : ℕ) → has_pages pages ≡ true
    → ((pages : ℕ) (xs ys : List Entry) → has_pages pages ≡ true → law.lawful pages (xs ++ ys) → law.lawful pages xs)
    → ((pages : ℕ) (log : List Entry) → has_pages pages ≡ true → law.lawful pages log → IsLawfulMemory pages roots (memory_after (by_place law.opening pages) log))
    → ((pages : ℕ) (xs : List Entry) (e : Entry) (page : ℕ) (r : PageRange) → has_pages pages ≡ true → law.lawful pages (xs ++ e ∷ []) → touches page e.writes ≡ false
    → law.range pages (xs ++ e ∷ []) page r ↔ law.range pages xs page r)
    → ((pages : ℕ) (log : List Entry) (page : ℕ) (r : PageRange) → law.range pages log page r ↔ HasRange roots (pages_after (by_place law.opening pages) log) page r)
    → Laws pages roots (law.lawful pages) (by_place law.opening pages)
laws_under law roots pages has begins memory stays ranged =
    laws_of pages roots (law.lawful pages) (by_place law.opening pages) (law.range pages) (λ xs ys. begins pages xs ys has) (λ log. memory pages log has)
    (λ xs e page r. stays pages xs e page r has) (ranged pages)

-- a page whose bit is set is one of the space
pub bit_inside : (pages : ℕ) (words : ℕ → ℕ) (page : ℕ) → 0 < bits_of pages words page → page < pages
unfolding bits_of
bit_inside pages words page bit = elim (cases_lt page pages) [
  | inl in_space ↦ in_space
  | inr over ↦ absurd (let none = le-ltb page pages over in let z : 0 < 0 = rw none at bit in omega arith)
]

-- what is known of a page on the path after a lawful log
pub record IsPathImage (pages : ℕ) (words : ℕ → ℕ) (key : MapKey) (page level : ℕ) : Type 0 where
  pub there : page < pages
  pub some : page ≢ 0
  pub image : IsTreeImage words page
  pub height : level_of (image_of words page) ≡ level
  pub first : 0 < level → IsSomeAnd (slice_get (records_of (image_of words page)) 0) (λ r. rank r.0 ≤ rank key)

module _ (pages roots : ℕ) (lawful : List Entry → Type 0) (opening : ℕ → ℕ) (laws : Laws pages roots lawful opening) (root : ℕ) (some : 0 < root) (le : root ≤ roots) where
  pub tree_of-log : (log : List Entry) → lawful log → IsTreeOf (pages_after opening log) (height_of (pages_after opening log) root) root
  tree_of-log log legal = ((laws.memory log legal).law.trees root some le).0

  -- a range stays
  pub range_stays : (xs es : List Entry) (page : ℕ) (r : PageRange) → lawful (xs ++ es) → AllByRecursion (λ e. touches page e.writes ≡ false) es
      → HasRange roots (pages_after opening xs) page r → HasRange roots (pages_after opening (xs ++ es)) page r
  range_stays xs [] page r legal calm met = subst (λ l. HasRange roots (pages_after opening l) page r) (sym (append-nil xs)) met
  range_stays xs (e ∷ es) page r legal calm met =
      let same : (xs ++ e ∷ []) ++ es ≡ xs ++ e ∷ es = append_assoc xs (e ∷ []) es in
      let now = subst lawful (sym same) legal in
      subst (λ l. HasRange roots (pages_after opening l) page r) same
      (range_stays (xs ++ e ∷ []) es page r now calm.1 (laws.stays xs e page r (laws.begins (xs ++ e ∷ []) es now) calm.0 met))

  module _ (key : MapKey) (lt : rank key < end_rank) where
    -- a page stays on the path
    pub path_stays : (xs es : List Entry) (page level : ℕ) → lawful (xs ++ es) → AllByRecursion (λ e. touches page e.writes ≡ false) es
        → IsOnPath (pages_after opening xs) root key page level → IsOnPath (pages_after opening (xs ++ es)) root key page level
    path_stays xs es page level legal calm o =
        stays_on-path roots (pages_after opening xs) (pages_after opening (xs ++ es)) root key page level some le lt (tree_of-log xs (laws.begins xs es legal)) (tree_of-log (xs ++ es) legal)
        (λ r. range_stays xs es page r legal calm) o

    pub path_image : (log : List Entry) (page level : ℕ) → lawful log → IsOnPath (pages_after opening log) root key page level → IsPathImage pages (memory_after opening log) key page level
    path_image log page level legal o =
        let m : PageMemory = pages_after opening log in
        let h = page_on-path m root key page level (tree_of-log log legal) lt o in
        let b = bit_on-path m (bits_of pages (memory_after opening log)) roots root key page level (laws.memory log legal).law some le lt o in
        let image = tree_image (memory_after opening log) page h.kind in
        record {
          there = bit_inside pages (memory_after opening log) page b.1;
          some = b.0;
          image = image;
          height = sym image.level ∙ h.height;
          first = λ up. subst (λ rs. IsSomeAnd (slice_get rs 0) (λ r. rank r.0 ≤ rank key)) image.records (h.first up);
        }

    -- the child, by what the page's image says
    pub child_path : (log : List Entry) (page level : ℕ) → lawful log → IsOnPath (pages_after opening log) root key page (suc level)
        → IsOnPath (pages_after opening log) root key (child_for key 0 (records_of (image_of (memory_after opening log) page))) level
    child_path log page level legal o =
        subst (λ rs. IsOnPath (pages_after opening log) root key (child_for key 0 rs) level) (path_image log page (suc level) legal o).image.records
        (child_on-path (pages_after opening log) root key page level o)

    pub root_path : (log : List Entry) → lawful log → IsOnPath (pages_after opening log) root key root (level_of (image_of (memory_after opening log) root))
    root_path log legal =
        let o = root_on-path (pages_after opening log) root key in
        subst (λ n. IsOnPath (pages_after opening log) root key root n) (sym (path_image log root (height_of (pages_after opening log) root) legal o).height) o

    -- two pages of the path on different levels are two
    pub levels_differ : (log : List Entry) (a b level : ℕ) → lawful log → IsOnPath (pages_after opening log) root key a (suc level) → IsOnPath (pages_after opening log) root key b level → a ≢ b
    levels_differ log a b level legal o p e =
        let x = (path_image log a (suc level) legal o).height in let y = (path_image log b level legal p).height in
        let z = ap (λ q. level_of (image_of (memory_after opening log) q)) e in omega arith
