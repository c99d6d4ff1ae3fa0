-- Entries that are not structural leave the ranges of all pages, the path of a key, and the links of leaves.
use Rattle.std.specs.List.{AllByRecursion}
use Rattle.std.specs.Prelude.{◌↔◌}
use Rattle.std.proofs.Common.{◌≡◌, ◌≢◌, ℕ, ◌<◌, ◌≤◌, false, List, [], ◌∷◌, ◌++◌, refl, sym, subst, ◌∙◌, append_assoc, append-nil}
use Rattle.ib_map.specs.Keys.{MapKey, rank, end_rank}
use Rattle.ib_map.specs.Writes.{touches, spans_pages}
use Rattle.ib_logrec.specs.declared.entry.Entry.{Entry}
use Rattle.ib_logrec.specs.Law.{PageRange}
use Rattle.ib_logrec.specs.Log.{memory_after}
use Rattle.ib_walk.specs.Pages.{PageMemory}
use Rattle.ib_walk.specs.Words.{IsLawfulMemory}
use Rattle.ib_tree.specs.Logs.{visit_with, HasRange, pages_after}
use Rattle.ib_tree.proofs.LogLaws.{pages_after-untouched}
use Rattle.ib_cursor.specs.OnPath.{IsOnPath}
use Rattle.ib_cursor.specs.Shapes.{ShapeLaws, AreSingle}
use Rattle.ib_cursor.proofs.OnPathLaws.{stays_on-path}
use Rattle.ib_cursor.proofs.LogLaws.{laws_of, tree_of-log}
use Rattle.ib_cursor.proofs.LoneLaws.{IsLone, lone_met, lone_links, one_page}
use Rattle.ib_walk.proofs.CountLaws.{weight-met, met-weight}

-- the links of a page are those that it had
pub record HasLinks (old new : PageMemory) (page : ℕ) : Type 0 where
  pub prev : (new page).prev ≡ (old page).prev
  pub next : (new page).next ≡ (old page).next

-- .. from the clauses of a law of trees
single-last : (xs : List Entry) (e : Entry) → AllByRecursion (λ e. e.structural ≡ spans_pages e.writes) (xs ++ e ∷ []) → e.structural ≡ spans_pages e.writes
single-last [] e a = a.0
single-last (x ∷ xs) e a = single-last xs e a.1

pub shapes_of : (pages roots : ℕ) (lawful : List Entry → Type 0) (opening : ℕ → ℕ) (range : List Entry → ℕ → PageRange → Type 0)
    → ((xs ys : List Entry) → lawful (xs ++ ys) → lawful xs)
    → ((log : List Entry) → lawful log → IsLawfulMemory pages roots (memory_after opening log))
    → ((xs : List Entry) (e : Entry) (page : ℕ) (r : PageRange) → lawful (xs ++ e ∷ []) → touches page e.writes ≡ false → range (xs ++ e ∷ []) page r ↔ range xs page r)
    → ((log : List Entry) (page : ℕ) (r : PageRange) → range log page r ↔ HasRange roots (pages_after opening log) page r)
    → ((log : List Entry) → lawful log → AllByRecursion (λ e. e.structural ≡ spans_pages e.writes) log)
    → ShapeLaws pages roots lawful opening
shapes_of pages roots lawful opening range begins memory stays ranged structural = record {
  laws = laws_of pages roots lawful opening range begins memory stays ranged;
  stayed = λ xs e page r legal calm met. (ranged xs page r).0 ((stays xs e page r legal calm).0 ((ranged (xs ++ e ∷ []) page r).1 met));
  single = λ xs e legal. single-last xs e (structural (xs ++ e ∷ []) legal);
}

module _ (pages roots : ℕ) (lawful : List Entry → Type 0) (opening : ℕ → ℕ) (shape : ShapeLaws pages roots lawful opening) where
  lone-of : (xs : List Entry) (e : Entry) → lawful (xs ++ e ∷ []) → (p : ℕ) → ((n : ℕ) → n ≢ p → touches n e.writes ≡ false) → (root : ℕ) → 0 < root → root ≤ roots
      → IsLone (pages_after opening xs) (pages_after opening (xs ++ e ∷ [])) root p
  lone-of xs e legal p other root some le = record {
    was = tree_of-log pages roots lawful opening shape.laws root some le xs (shape.laws.begins xs (e ∷ []) legal);
    is = tree_of-log pages roots lawful opening shape.laws root some le (xs ++ e ∷ []) legal;
    same = λ n ne. pages_after-untouched opening xs e n (other n ne);
    stays = λ level v ne met. weight-met (shape.laws.stays xs e v.page (record { root = root; low = v.low; end = v.high; level = level }) legal (other v.page ne) (some, le, met-weight (pages_after opening xs) root level v met)).2;
    stayed = λ level v ne met. weight-met (shape.stayed xs e v.page (record { root = root; low = v.low; end = v.high; level = level }) legal (other v.page ne) (some, le, met-weight (pages_after opening (xs ++ e ∷ [])) root level v met)).2;
  }

  lone_stays : (xs : List Entry) (e : Entry) (page : ℕ) (r : PageRange) → lawful (xs ++ e ∷ []) → e.structural ≡ false
      → HasRange roots (pages_after opening xs) page r → HasRange roots (pages_after opening (xs ++ e ∷ [])) page r
  lone_stays xs e page r legal calm met =
      let one = one_page e.writes (sym (shape.single xs e legal) ∙ calm) in (
        met.0,
        met.1,
        met-weight (pages_after opening (xs ++ e ∷ [])) r.root r.level (visit_with page r)
            (lone_met (pages_after opening xs) (pages_after opening (xs ++ e ∷ [])) r.root one.page (lone-of xs e legal one.page one.other r.root met.0 met.1) r.level (visit_with page r) (weight-met met.2)),
      )

  lone_linked : (xs : List Entry) (e : Entry) (page : ℕ) (r : PageRange) → lawful (xs ++ e ∷ []) → e.structural ≡ false → r.level ≡ 0
      → HasRange roots (pages_after opening xs) page r → HasLinks (pages_after opening xs) (pages_after opening (xs ++ e ∷ [])) page
  lone_linked xs e page r legal calm low met =
      let one = one_page e.writes (sym (shape.single xs e legal) ∙ calm) in
      let at : HasRange roots (pages_after opening xs) page (record { root = r.root; low = r.low; end = r.end; level = 0 }) =
      subst (λ n. HasRange roots (pages_after opening xs) page (record { root = r.root; low = r.low; end = r.end; level = n })) low met in
      let l = lone_links (pages_after opening xs) (pages_after opening (xs ++ e ∷ [])) r.root one.page (lone-of xs e legal one.page one.other r.root met.0 met.1) (visit_with page r) (weight-met at.2) in
      record { prev = l.0; next = l.1 }

  -- each page's range stays, whichever page the entries write
  pub single_stays : (xs es : List Entry) (page : ℕ) (r : PageRange) → lawful (xs ++ es) → AreSingle es
      → HasRange roots (pages_after opening xs) page r → HasRange roots (pages_after opening (xs ++ es)) page r
  single_stays xs [] page r legal calm met = subst (λ l. HasRange roots (pages_after opening l) page r) (sym (append-nil xs)) met
  single_stays xs (e ∷ es) page r legal calm met =
      let same : (xs ++ e ∷ []) ++ es ≡ xs ++ e ∷ es = append_assoc xs (e ∷ []) es in
      let now = subst lawful (sym same) legal in
      subst (λ l. HasRange roots (pages_after opening l) page r) same
      (single_stays (xs ++ e ∷ []) es page r now calm.1 (lone_stays xs e page r (shape.laws.begins (xs ++ e ∷ []) es now) calm.0 met))

  -- .. and so do a leaf's links
  pub single_links : (xs es : List Entry) (page : ℕ) (r : PageRange) → lawful (xs ++ es) → AreSingle es → r.level ≡ 0
      → HasRange roots (pages_after opening xs) page r → HasLinks (pages_after opening xs) (pages_after opening (xs ++ es)) page
  single_links xs [] page r legal calm low met = subst (λ l. HasLinks (pages_after opening xs) (pages_after opening l) page) (sym (append-nil xs)) (record { prev = refl; next = refl })
  single_links xs (e ∷ es) page r legal calm low met =
      let same : (xs ++ e ∷ []) ++ es ≡ xs ++ e ∷ es = append_assoc xs (e ∷ []) es in
      let now = subst lawful (sym same) legal in
      let front = shape.laws.begins (xs ++ e ∷ []) es now in
      let one = lone_linked xs e page r front calm.0 low met in
      let more = single_links (xs ++ e ∷ []) es page r now calm.1 low (lone_stays xs e page r front calm.0 met) in
      subst (λ l. HasLinks (pages_after opening xs) (pages_after opening l) page) same (record { prev = more.prev ∙ one.prev; next = more.next ∙ one.next })

  -- a page stays on the path of a key
  pub single_path : (root : ℕ) → 0 < root → root ≤ roots → (key : MapKey) → rank key < end_rank → (xs es : List Entry) (page level : ℕ) → lawful (xs ++ es) → AreSingle es
      → IsOnPath (pages_after opening xs) root key page level → IsOnPath (pages_after opening (xs ++ es)) root key page level
  single_path root some le key lt xs es page level legal calm o =
      stays_on-path roots (pages_after opening xs) (pages_after opening (xs ++ es)) root key page level some le lt
      (tree_of-log pages roots lawful opening shape.laws root some le xs (shape.laws.begins xs es legal)) (tree_of-log pages roots lawful opening shape.laws root some le (xs ++ es) legal)
      (λ r. single_stays xs es page r legal calm) o
