-- The steps of a descent: the root is taken behind the index, and the child of a node, which is then given up.
use Rattle.std.specs.List.{AllByRecursion}
use Rattle.std.proofs.Common.{◌≡◌, ◌≢◌, ℕ, suc, ◌+◌, ◌-◌, ◌<◌, ◌≤◌, false, List, [], ◌∷◌, ◌++◌, Some, refl, sym, ap, subst, ◌∙◌, arith}
use Rattle.ib_map.specs.Keys.{MapKey, rank, end_rank}
use Rattle.ib_map.specs.Writes.{touches, word_place}
use Rattle.ib_levels.specs.declared.level.Level.TheVariants.{TreeNode}
use Rattle.ib_levels.specs.declared.level.Mode.{Mode}
use Rattle.ib_layout.specs.Geometry.{Sizes}
use Rattle.ib_core.specs.Holders.{CanWish}
use Rattle.ib_core.specs.Sessions.{holdings}
use Rattle.ib_page.specs.Image.{level_of, records_of}
use Rattle.ib_logrec.specs.declared.entry.Entry.{Entry}
use Rattle.ib_logrec.specs.Log.{memory_after}
use Rattle.ib_rule.specs.declared.memory.Loaded.{Loaded}
use Rattle.ib_rule.specs.Pass.{PassState, with_view}
use Rattle.ib_rule.specs.Views.{with_grant}
use Rattle.ib_rule.proofs.Watching.{word_stays}
use Rattle.ib_walk.specs.Trees.{height_of}
use Rattle.ib_walk.specs.Search.{child_for}
use Rattle.ib_walk.specs.Words.{image_of}
use Rattle.ib_map.proofs.WriteLaws.{page_at-word}
use Rattle.ib_walk.proofs.ImageLaws.{image_of-same}
use Rattle.ib_tree.specs.Logs.{pages_after}
use Rattle.ib_mtr.specs.Mtr.{IsReleasedAt}
use Rattle.ib_cursor.specs.OnPath.{IsOnPath}
use Rattle.ib_cursor.specs.Reading.{HasReadWords, with_loads}
use Rattle.ib_cursor.specs.Grants.{Grant, index_grant, page_grant, HasGrants, IsAway}
use Rattle.ib_cursor.specs.Going.{WentOn, HasSeen, HasLatched}
use Rattle.ib_cursor.specs.Descent.{IsAt, IsHeldAt}
use Rattle.ib_cursor.proofs.LatchingLaws.{IsBeside, went_beside, went_both, known_beside}
use Rattle.ib_cursor.proofs.GrantLaws.{HasGiven, can_wish, last_held, grants_more, given, grants_left}
use Rattle.ib_cursor.specs.Laws.{Laws}
use Rattle.ib_cursor.proofs.LogLaws.{IsPathImage, path_image, path_stays, child_path, root_path, levels_differ}

-- words that are loaded change nothing else
pub beside_read : (p q : PassState) → HasReadWords p q → IsBeside p q
beside_read p q read = subst (IsBeside p) (sym read.same) (record { table = refl; sizes = refl; number = refl; own = refl; seen = refl; ends = refl })

seen-loads : (sizes : Sizes) (lawful : List Entry → Type 0) (p q : PassState) (loaded : List Loaded) → HasSeen sizes lawful p q → HasSeen sizes lawful p (with_view q (with_loads loaded q.view))
seen-loads sizes lawful p q loaded s = record {
  went = record { table = s.went.table; sizes = s.went.sizes; number = s.went.number; own = s.went.own; more = s.went.more; seen = s.went.seen; added = s.went.added; ends = s.went.ends; bounds = s.went.bounds };
  one = s.one;
  known = record { legal = s.known.legal; room = s.known.room; mine = s.known.mine };
  steady = s.steady;
  watched = s.watched;
}

pub seen_read : (sizes : Sizes) (lawful : List Entry → Type 0) (p q r : PassState) → HasSeen sizes lawful p q → HasReadWords q r → HasSeen sizes lawful p r
seen_read sizes lawful p q r s read = subst (HasSeen sizes lawful p) (sym read.same) (seen-loads sizes lawful p q r.view.memory.loaded s)

at-loads : (sizes : Sizes) (lawful : List Entry → Type 0) (opening : ℕ → ℕ) (root : ℕ) (key : MapKey) (front : List Grant) (page level : ℕ) (mode : Mode) (p : PassState) (loaded : List Loaded)
    → IsAt sizes lawful opening root key front page level mode p → IsAt sizes lawful opening root key front page level mode (with_view p (with_loads loaded p.view))
at-loads sizes lawful opening root key front page level mode p loaded a = record {
  grants = record { memo = a.grants.memo; session = a.grants.session };
  watched = a.watched;
  work = a.work;
  known = record { legal = a.known.legal; room = a.known.room; mine = a.known.mine };
  on_path = a.on_path;
}

pub at_read : (sizes : Sizes) (lawful : List Entry → Type 0) (opening : ℕ → ℕ) (root : ℕ) (key : MapKey) (front : List Grant) (page level : ℕ) (mode : Mode) (p q : PassState)
    → IsAt sizes lawful opening root key front page level mode p → HasReadWords p q → IsAt sizes lawful opening root key front page level mode q
at_read sizes lawful opening root key front page level mode p q a read =
    subst (IsAt sizes lawful opening root key front page level mode) (sym read.same) (at-loads sizes lawful opening root key front page level mode p q.view.memory.loaded a)

-- the image of a page stays behind entries that write no word of it
pub image_stays : (opening : ℕ → ℕ) (seen more : List Entry) (page : ℕ) → AllByRecursion (λ e. touches page e.writes ≡ false) more → image_of (memory_after opening (seen ++ more)) page ≡ image_of (memory_after opening seen) page
image_stays opening seen more page calm = image_of-same (memory_after opening seen) (memory_after opening (seen ++ more)) page
    (λ index lt. word_stays opening seen more (word_place page index) (subst (λ (p : ℕ). AllByRecursion (λ (e : Entry). touches p e.writes ≡ false) more) (sym (page_at-word page index lt)) calm))

-- the latch of the page that is stood on is held
pub at_held : (sizes : Sizes) (lawful : List Entry → Type 0) (opening : ℕ → ℕ) (root : ℕ) (key : MapKey) (front : List Grant) (page level : ℕ) (mode : Mode) (p : PassState)
    → IsAt sizes lawful opening root key front page level mode p → 0 < holdings (page + 2) p.view.session
at_held sizes lawful opening root key front page level mode p a = last_held front (page_grant page mode) p a.grants

module _ (sizes : Sizes) (roots : ℕ) (lawful : List Entry → Type 0) (opening : ℕ → ℕ) (laws : Laws sizes.pages roots lawful opening) (root : ℕ) (some : 0 < root) (le : root ≤ roots) (key : MapKey) (lt : rank key < end_rank) where
  -- what the page that is stood on says
  pub at_image : (front : List Grant) (page level : ℕ) (mode : Mode) (p : PassState) → IsAt sizes lawful opening root key front page level mode p → IsPathImage sizes.pages (memory_after opening p.view.memory.seen) key page level
  at_image front page level mode p a = path_image sizes.pages roots lawful opening laws root some le key lt p.view.memory.seen page level a.known.legal a.on_path

  -- the root is a page of the space
  pub root_inside : lawful [] → root < sizes.pages
  root_inside legal = (path_image sizes.pages roots lawful opening laws root some le key lt [] root _ legal (root_path sizes.pages roots lawful opening laws root some le key lt [] legal)).there

  -- the root, taken behind the index
  module _ (mode : Mode) (p q : PassState) (index : HasGrants (index_grant ∷ []) p) (none : p.work ≡ []) (latched : HasLatched sizes lawful (page_grant root mode) p q) where
    pub root_at : IsAt sizes lawful opening root key (index_grant ∷ []) root (level_of (image_of (memory_after opening q.view.memory.seen) root)) mode q
    root_at =
        let two = grants_more (index_grant ∷ []) (page_grant root mode) p q index latched.memo latched.session in
        record {
          grants = two;
          watched = latched.seen.watched (root + 2) (last_held (index_grant ∷ []) (page_grant root mode) q two);
          work = latched.work ∙ none;
          known = latched.seen.known;
          on_path = root_path sizes.pages roots lawful opening laws root some le key lt q.view.memory.seen latched.seen.known.legal;
        }

    pub root_height : level_of (image_of (memory_after opening q.view.memory.seen) root) ≡ height_of (pages_after opening q.view.memory.seen) root
    root_height =
        sym (path_image sizes.pages roots lawful opening laws root some le key lt q.view.memory.seen root _ latched.seen.known.legal
        (root_path sizes.pages roots lawful opening laws root some le key lt q.view.memory.seen latched.seen.known.legal)).image.level

  -- the child of a node that is held
  module _ (page level : ℕ) (held : Mode) (p : PassState) (here : IsAt sizes lawful opening root key (index_grant ∷ []) page (suc level) held p) where
    child-path : IsOnPath (pages_after opening p.view.memory.seen) root key (child_for key 0 (records_of (image_of (memory_after opening p.view.memory.seen) page))) level
    child-path = child_path sizes.pages roots lawful opening laws root some le key lt p.view.memory.seen page level here.known.legal here.on_path

    pub child_inside : child_for key 0 (records_of (image_of (memory_after opening p.view.memory.seen) page)) < sizes.pages
    child_inside = (path_image sizes.pages roots lawful opening laws root some le key lt p.view.memory.seen _ level here.known.legal child-path).there

    pub child_other : page ≢ child_for key 0 (records_of (image_of (memory_after opening p.view.memory.seen) page))
    child_other = levels_differ sizes.pages roots lawful opening laws root some le key lt p.view.memory.seen page _ level here.known.legal here.on_path child-path

    module _ (child : ℕ) (is : child ≡ child_for key 0 (records_of (image_of (memory_after opening p.view.memory.seen) page))) where
      other : page ≢ child
      other e = child_other (e ∙ is)

      away : IsAway (child + 2) (index_grant ∷ page_grant page held ∷ [])
      away = ((λ e. absurd (omega arith)), ((λ e. other (omega arith)), tt))

      pub child_may : CanWish (child + 2) TreeNode p.view.session
      child_may = can_wish (index_grant ∷ page_grant page held ∷ []) p here.grants (child + 2) TreeNode away (refl, (refl, tt))

      -- the child is on the path after all that was seen since
      pub child_on : (q : PassState) → HasSeen sizes lawful p q → IsOnPath (pages_after opening q.view.memory.seen) root key child level
      child_on q seen =
          let calm = seen.steady page here.watched in
          let legal = subst lawful seen.went.seen seen.known.legal in
          let on = path_stays sizes.pages roots lawful opening laws root some le key lt p.view.memory.seen seen.went.more page (suc level) legal calm here.on_path in
          let below = child_path sizes.pages roots lawful opening laws root some le key lt (p.view.memory.seen ++ seen.went.more) page level legal on in
          let same = ap (λ ws. child_for key 0 (records_of ws)) (image_stays opening p.view.memory.seen seen.went.more page calm) ∙ sym is in
          subst (λ l. IsOnPath (pages_after opening l) root key child level) (sym seen.went.seen)
          (subst (λ c. IsOnPath (pages_after opening (p.view.memory.seen ++ seen.went.more)) root key c level) same below)

      module _ (mode : Mode) (q : PassState) (latched : HasLatched sizes lawful (page_grant child mode) p q) where
        three : HasGrants (index_grant ∷ page_grant page held ∷ page_grant child mode ∷ []) q
        three = grants_more (index_grant ∷ page_grant page held ∷ []) (page_grant child mode) p q here.grants latched.memo latched.session

        module _ (r : PassState) (release : IsReleasedAt 1 q r) where
          gave : HasGiven (page_grant page held) q r
          gave = given (index_grant ∷ []) (page_grant page held) (page_grant child mode ∷ []) q r three ((λ e. absurd (omega arith)), tt) ((λ e. other (omega arith)), tt) release

          pub child_at : IsAt sizes lawful opening root key (index_grant ∷ []) child level mode r
          child_at = record {
            grants = grants_left (index_grant ∷ []) (page_grant page held) (page_grant child mode ∷ []) q r three ((λ e. absurd (omega arith)), tt) ((λ e. other (omega arith)), tt) release;
            watched = gave.watched (child + 2) (λ e. other (omega arith)) ∙ latched.seen.watched (child + 2) (last_held (index_grant ∷ page_grant page held ∷ []) (page_grant child mode) q three);
            work = gave.work (latched.work ∙ here.work);
            known = known_beside sizes lawful q r gave.beside latched.seen.known;
            on_path = subst (λ l. IsOnPath (pages_after opening l) root key child level) (sym gave.beside.seen) (child_on q latched.seen);
          }

          pub child_went : WentOn p r
          child_went = went_both p q r latched.seen.went (went_beside q r gave.beside)

          pub child_grants : r.view.grants ≡ with_grant (Some mode) p.view.grants
          child_grants = gave.grants ∙ latched.grants

  -- a node that is stood on, whose level is above that of the leaves
  module _ (page level : ℕ) (node : 0 < level) (p : PassState) (here : IsHeldAt sizes lawful opening root key (index_grant ∷ []) page level p) where
    at-node : IsAt sizes lawful opening root key (index_grant ∷ []) page (suc (level - 1)) here.mode p
    at-node = let up : level ≡ suc (level - 1) = omega (arith, node) in subst (λ l. IsAt sizes lawful opening root key (index_grant ∷ []) page l here.mode p) up here.here

    pub node_image : IsPathImage sizes.pages (memory_after opening p.view.memory.seen) key page (suc (level - 1))
    node_image = at_image (index_grant ∷ []) page (suc (level - 1)) here.mode p at-node

    pub node_held : 0 < holdings (page + 2) p.view.session
    node_held = at_held sizes lawful opening root key (index_grant ∷ []) page (suc (level - 1)) here.mode p at-node

    pub node_child : child_for key 0 (records_of (image_of (memory_after opening p.view.memory.seen) page)) < sizes.pages
    node_child = child_inside page (level - 1) here.mode p at-node

    -- .. after its child was read
    module _ (q : PassState) (read : HasReadWords p q) (child : ℕ) (is : child ≡ child_for key 0 (records_of (image_of (memory_after opening p.view.memory.seen) page))) where
      at-read : IsAt sizes lawful opening root key (index_grant ∷ []) page (suc (level - 1)) here.mode q
      at-read = at_read sizes lawful opening root key (index_grant ∷ []) page (suc (level - 1)) here.mode p q at-node read

      is-read : child ≡ child_for key 0 (records_of (image_of (memory_after opening q.view.memory.seen) page))
      is-read = is ∙ ap (λ (log : List Entry). child_for key 0 (records_of (image_of (memory_after opening log) page))) (sym (beside_read p q read).seen)

      pub step_may : CanWish (child + 2) TreeNode q.view.session
      step_may = child_may page (level - 1) here.mode q at-read child is-read

      pub step_on : (r : PassState) → HasSeen sizes lawful q r → IsOnPath (pages_after opening r.view.memory.seen) root key child (level - 1)
      step_on = child_on page (level - 1) here.mode q at-read child is-read

      -- .. and the child taken, and the node given up
      module _ (mode : Mode) (r : PassState) (latched : HasLatched sizes lawful (page_grant child mode) q r) (s : PassState) (release : IsReleasedAt 1 r s) where
        pub step_at : IsAt sizes lawful opening root key (index_grant ∷ []) child (level - 1) mode s
        step_at = child_at page (level - 1) here.mode q at-read child is-read mode r latched s release

        pub step_went : WentOn p s
        step_went = went_both p q s (went_beside p q (beside_read p q read)) (child_went page (level - 1) here.mode q at-read child is-read mode r latched s release)

        pub step_grants : s.view.grants ≡ with_grant (Some mode) p.view.grants
        step_grants = child_grants page (level - 1) here.mode q at-read child is-read mode r latched s release ∙ ap (λ (r : PassState). with_grant (Some mode) r.view.grants) read.same
