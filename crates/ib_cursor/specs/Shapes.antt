-- What lawful entries say of the shape of trees, and of those that a session may first see while it has the index in SX.
use Rattle.std.specs.Prelude.{◌≡◌, ℕ, ◌+◌, ◌<◌, ◌≤◌, ◌==◌, ◌&&◌, ◌||◌, Bool, true, false, List, [], ◌∷◌, ◌++◌, length, Option, Some}
use Rattle.std.specs.List.{AllByRecursion}
use Rattle.ib_map.specs.Keys.{MapKey}
use Rattle.ib_map.specs.Pairs.{value_at}
use Rattle.ib_map.specs.Writes.{touches, spans_pages}
use Rattle.ib_levels.specs.declared.level.Mode.TheVariants.{S}
use Rattle.ib_heap.specs.declared.TheConstants.{MOST_LEVEL}
use Rattle.ib_layout.specs.Geometry.{Sizes}
use Rattle.ib_logrec.specs.declared.entry.Entry.{Entry}
use Rattle.ib_logrec.specs.Law.{PageRange}
use Rattle.ib_walk.specs.Pages.{PageMemory}
use Rattle.ib_walk.specs.Search.{child_for}
use Rattle.ib_plans.specs.Agreement.{path_down, path_of}
use Rattle.ib_tree.specs.Logs.{HasRange, pages_after}
use Rattle.ib_rule.specs.declared.memory.Since.{Since}
use Rattle.ib_rule.specs.Pass.{PassState}
use Rattle.ib_rule.specs.Views.{with_grant}
use Rattle.ib_cursor.specs.Laws.{Laws}
use Rattle.ib_cursor.specs.Grants.{HasGrants}
use Rattle.ib_cursor.specs.Going.{IsKnown, WentOn, HasSeen}
use Rattle.ib_cursor.specs.OnPath.{IsOnPath}
use Rattle.ib_cursor.specs.Descent.{IsAt}
use Rattle.ib_cursor.specs.Claims.{claim_grant}

-- the laws of trees, and more: a range that a page has after an entry which doesn't write it, it had before; and an entry is structural where it writes several pages
pub record ShapeLaws (pages roots : ℕ) (lawful : List Entry → Type 0) (opening : ℕ → ℕ) : Type 0 where
  pub laws : Laws pages roots lawful opening
  pub stayed : (xs : List Entry) (e : Entry) (page : ℕ) (r : PageRange) → lawful (xs ++ e ∷ []) → touches page e.writes ≡ false
      → HasRange roots (pages_after opening (xs ++ e ∷ [])) page r → HasRange roots (pages_after opening xs) page r
  pub single : (xs : List Entry) (e : Entry) → lawful (xs ++ e ∷ []) → e.structural ≡ spans_pages e.writes

-- the index is held in SX or X, with a look at the log's end since
abbrev pub is_claimed : List Since → Bool
is_claimed [] = false
is_claimed (s ∷ ss) = (s.claims && (s.latch == 1)) || is_claimed ss

-- none of the entries is structural
abbrev pub AreSingle : List Entry → Type 0
AreSingle es = AllByRecursion (λ e. e.structural ≡ false) es

-- entries more are seen, none of them structural, and the index is claimed still
pub record KeepsClaim (p q : PassState) : Type 0 where
  pub more : List Entry
  pub seen : q.view.memory.seen ≡ p.view.memory.seen ++ more
  pub single : AreSingle more
  pub claimed : is_claimed q.view.memory.since ≡ true

-- a look at the log's end, which keeps a claim
pub record HasLookedOn (sizes : Sizes) (lawful : List Entry → Type 0) (p q : PassState) : Type 0 where
  pub seen : HasSeen sizes lawful p q
  pub keeps : is_claimed p.view.memory.since ≡ true → KeepsClaim p q

-- the index is claimed, and nothing else is held or loaded
pub record HasIndex (sizes : Sizes) (lawful : List Entry → Type 0) (p : PassState) : Type 0 where
  pub grants : HasGrants (claim_grant ∷ []) p
  pub claimed : is_claimed p.view.memory.since ≡ true
  pub work : p.work ≡ []
  pub known : IsKnown sizes lawful p

-- what a page of the key's path names: a node the child of the key, a leaf the leaf before it
pub record IsLink (memory : PageMemory) (key : MapKey) (page level link : ℕ) : Type 0 where
  pub child : 0 < level → link ≡ child_for key 0 (memory page).records
  pub left : level ≡ 0 → link ≡ (memory page).prev

-- a page that is held in S behind the claimed index names this one; it is held still, and no page is loaded
pub record NamesLink (sizes : Sizes) (lawful : List Entry → Type 0) (opening : ℕ → ℕ) (root : ℕ) (key : MapKey) (page level link : ℕ) (p q : PassState) : Type 0 where
  pub at : IsAt sizes lawful opening root key (claim_grant ∷ []) page level S q
  pub keeps : KeepsClaim p q
  pub went : WentOn p q
  pub grants : q.view.grants ≡ p.view.grants
  pub names : IsLink (pages_after opening q.view.memory.seen) key page level link

-- a page of the key's path was looked at in S behind the claimed index, and given up again
pub record HasReadLink (sizes : Sizes) (lawful : List Entry → Type 0) (opening : ℕ → ℕ) (root : ℕ) (key : MapKey) (page level link : ℕ) (p q : PassState) : Type 0 where
  pub index : HasIndex sizes lawful q
  pub keeps : KeepsClaim p q
  pub went : WentOn p q
  pub grants : q.view.grants ≡ with_grant (Some S) p.view.grants
  pub on_path : IsOnPath (pages_after opening q.view.memory.seen) root key page level
  pub names : IsLink (pages_after opening q.view.memory.seen) key page level link

-- the key's leaf was looked at in S behind the claimed index, and given up again: this is what it has of the key
pub record HasReadValue (sizes : Sizes) (lawful : List Entry → Type 0) (opening : ℕ → ℕ) (key : MapKey) (leaf : ℕ) (value : Option ℕ) (p q : PassState) : Type 0 where
  pub index : HasIndex sizes lawful q
  pub keeps : KeepsClaim p q
  pub went : WentOn p q
  pub grants : q.view.grants ≡ with_grant (Some S) p.view.grants
  pub value_is : value ≡ value_at key (pages_after opening q.view.memory.seen leaf).records

-- the path was read down to a page, with these pages above it
pub record IsReading (sizes : Sizes) (lawful : List Entry → Type 0) (opening : ℕ → ℕ) (root : ℕ) (key : MapKey) (above : List ℕ) (page level link : ℕ) (p q : PassState) : Type 0 where
  pub index : HasIndex sizes lawful q
  pub keeps : KeepsClaim p q
  pub went : WentOn p q
  pub on_path : IsOnPath (pages_after opening q.view.memory.seen) root key page level
  pub names : IsLink (pages_after opening q.view.memory.seen) key page level link
  pub path : path_of (pages_after opening q.view.memory.seen) key root ≡ above ++ path_down (pages_after opening q.view.memory.seen) key level page
  pub short : length above + level ≤ MOST_LEVEL
  pub s : q.view.grants.s ≡ p.view.grants.s + length above + 1
  pub sx : q.view.grants.sx ≡ p.view.grants.sx
  pub x : q.view.grants.x ≡ p.view.grants.x

-- the whole path was read, and what the leaf named
pub record HasReadPath (sizes : Sizes) (lawful : List Entry → Type 0) (opening : ℕ → ℕ) (root : ℕ) (key : MapKey) (path : List ℕ) (leaf left : ℕ) (p q : PassState) : Type 0 where
  pub index : HasIndex sizes lawful q
  pub keeps : KeepsClaim p q
  pub went : WentOn p q
  pub front : List ℕ
  pub ends : path ≡ front ++ leaf ∷ []
  pub on_path : path ≡ path_of (pages_after opening q.view.memory.seen) key root
  pub lowest : IsOnPath (pages_after opening q.view.memory.seen) root key leaf 0
  pub left_of : left ≡ (pages_after opening q.view.memory.seen leaf).prev
  pub short : length front ≤ MOST_LEVEL
  pub s : q.view.grants.s ≡ p.view.grants.s + length path
  pub sx : q.view.grants.sx ≡ p.view.grants.sx
  pub x : q.view.grants.x ≡ p.view.grants.x
