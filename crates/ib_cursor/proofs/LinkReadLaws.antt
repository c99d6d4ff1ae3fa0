-- A page of the path is looked at behind the claimed index, and given up again.
use Rattle.std.proofs.Common.{◌≡◌, ℕ, zero, suc, ◌+◌, ◌<◌, ◌≤◌, true, List, [], ◌∷◌, Option, Some, refl, sym, ap, subst, ◌∙◌, arith, eq-eqb}
use Rattle.ib_map.specs.Keys.{MapKey, rank, end_rank}
use Rattle.ib_map.specs.Pairs.{value_at}
use Rattle.ib_levels.specs.declared.level.Level.TheVariants.{TreeNode}
use Rattle.ib_levels.specs.declared.level.Mode.TheVariants.{S}
use Rattle.ib_layout.specs.Geometry.{Sizes}
use Rattle.ib_core.specs.Holders.{CanWish}
use Rattle.ib_logrec.specs.declared.entry.Entry.{Entry}
use Rattle.ib_logrec.specs.Log.{memory_after}
use Rattle.ib_page.specs.Form.{page_of}
use Rattle.ib_page.specs.Image.{IsTreePage, IsFormed, prev_of, records_of}
use Rattle.ib_page.specs.Work.{changed_of, with_read, without_page}
use Rattle.ib_heap.proofs.FormLaws.{formed-tree}
use Rattle.ib_rule.specs.Pass.{PassState}
use Rattle.ib_walk.specs.Search.{child_for}
use Rattle.ib_walk.specs.Words.{image_of, pages_of}
use Rattle.ib_plans.proofs.EditLaws.{state-prev}
use Rattle.ib_walk.proofs.ImageLaws.{image_of-list, pages_of-image}
use Rattle.ib_tree.specs.Logs.{pages_after}
use Rattle.ib_mtr.specs.Mtr.{IsReleasedAt, with_work}
use Rattle.ib_cursor.specs.OnPath.{IsOnPath}
use Rattle.ib_cursor.specs.Reading.{HasReadWords}
use Rattle.ib_cursor.specs.Claims.{claim_grant}
use Rattle.ib_cursor.specs.Grants.{page_grant, HasGrants}
use Rattle.ib_cursor.specs.Going.{IsKnown, HasLatched}
use Rattle.ib_cursor.specs.Descent.{IsAt, HasPage}
use Rattle.ib_cursor.specs.Shapes.{ShapeLaws, is_claimed, KeepsClaim, HasLookedOn, HasIndex, IsLink, NamesLink, HasReadLink, HasReadValue}
use Rattle.ib_cursor.proofs.LogLaws.{IsPathImage, path_image, child_path}
use Rattle.ib_cursor.proofs.ShapeLaws.{single_path}
use Rattle.ib_cursor.proofs.LatchingLaws.{went_both, went_beside, known_beside}
use Rattle.ib_cursor.proofs.GrantLaws.{HasGiven, can_wish, last_held, grants_more, given, grants_left}
use Rattle.ib_cursor.proofs.StepLaws.{beside_read, at_read}
use Rattle.ib_cursor.proofs.ClaimLaws.{keeps_both, keeps_beside, claimed_given}

-- the link to the left, by the image
prev-image : (words : ℕ → ℕ) (page : ℕ) → (pages_of words page).prev ≡ prev_of (image_of words page)
prev-image words page = ap (λ s. s.prev) (pages_of-image words page) ∙ state-prev (page_of (image_of words page))

-- the page that was loaded, and is forgotten
pub loaded_there : (page : ℕ) (image : List ℕ) → changed_of page (with_read page image []) ≡ Some image
loaded_there page image = let yes = eq-eqb page page refl in rw yes refl

forgotten : (page : ℕ) (image : List ℕ) → without_page page (with_read page image []) ≡ []
forgotten page image = let yes = eq-eqb page page refl in rw yes refl

-- words that were loaded before change nothing
pub link_read_linked : (sizes : Sizes) (lawful : List Entry → Type 0) (opening : ℕ → ℕ) (root : ℕ) (key : MapKey) (page level link : ℕ) (p q r : PassState) → is_claimed p.view.memory.since ≡ true → HasReadWords p q
    → NamesLink sizes lawful opening root key page level link q r → NamesLink sizes lawful opening root key page level link p r
link_read_linked sizes lawful opening root key page level link p q r claimed read l =
    let b = beside_read p q read in
    let since : is_claimed q.view.memory.since ≡ true = ap (λ (r : PassState). is_claimed r.view.memory.since) read.same ∙ claimed in
    record {
      at = l.at;
      keeps = keeps_both p q r (keeps_beside p q b.seen since) l.keeps;
      went = went_both p q r (went_beside p q b) l.went;
      grants = l.grants ∙ ap (λ (r : PassState). r.view.grants) read.same;
      names = l.names;
    }

module _ (sizes : Sizes) (roots : ℕ) (lawful : List Entry → Type 0) (opening : ℕ → ℕ) (shape : ShapeLaws sizes.pages roots lawful opening) (root : ℕ) (some : 0 < root) (le : root ≤ roots) (key : MapKey) (lt : rank key < end_rank) where
  -- a page stays on the path
  pub keeps_on_path : (p q : PassState) → IsKnown sizes lawful q → KeepsClaim p q → (page level : ℕ) → IsOnPath (pages_after opening p.view.memory.seen) root key page level → IsOnPath (pages_after opening q.view.memory.seen) root key page level
  keeps_on_path p q known k page level o =
      subst (λ l. IsOnPath (pages_after opening l) root key page level) (sym k.seen)
      (single_path sizes.pages roots lawful opening shape root some le key lt p.view.memory.seen k.more page level (subst lawful k.seen known.legal) k.single o)

  pub page_image : (log : List Entry) (page level : ℕ) → lawful log → IsOnPath (pages_after opening log) root key page level → IsPathImage sizes.pages (memory_after opening log) key page level
  page_image log page level = path_image sizes.pages roots lawful opening shape.laws root some le key lt log page level

  -- the image that was loaded
  module _ (leaf : ℕ) (p q : PassState) (at : IsAt sizes lawful opening root key (claim_grant ∷ []) leaf 0 S p) (claimed : is_claimed p.view.memory.since ≡ true) (looked_on : HasLookedOn sizes lawful p q)
      (memo : q.memo ≡ p.memo) (session : q.view.session ≡ p.view.session) (grants : q.view.grants ≡ p.view.grants) (loaded : HasPage opening leaf p q) where
    on_path : IsOnPath (pages_after opening q.view.memory.seen) root key leaf 0
    on_path = keeps_on_path p q looked_on.seen.known (looked_on.keeps claimed) leaf 0 at.on_path

    image-is : image_of (memory_after opening q.view.memory.seen) leaf ≡ loaded.image
    image-is = image_of-list (memory_after opening q.view.memory.seen) leaf loaded.image loaded.size (λ index lt. sym (loaded.is_page index lt))

    pub left_loaded : changed_of leaf q.work ≡ Some loaded.image
    left_loaded = ap (changed_of leaf) (loaded.work ∙ ap (with_read leaf loaded.image) at.work) ∙ loaded_there leaf loaded.image

    pub left_formed : IsFormed loaded.image
    left_formed = formed-tree loaded.image (subst IsTreePage image-is (page_image q.view.memory.seen leaf 0 looked_on.seen.known.legal on_path).image.tree)

    pub left_linked : (link : ℕ) (r : PassState) → link ≡ prev_of loaded.image → r ≡ with_work (without_page leaf q.work) q → NamesLink sizes lawful opening root key leaf 0 link p r
    left_linked link r is forgot = subst (NamesLink sizes lawful opening root key leaf 0 link p) (sym forgot) (record {
      at = record {
        grants = record { memo = memo ∙ at.grants.memo; session = session ∙ at.grants.session };
        watched = looked_on.seen.watched (leaf + 2) (last_held (claim_grant ∷ []) (page_grant leaf S) q (record { memo = memo ∙ at.grants.memo; session = session ∙ at.grants.session }));
        work = ap (without_page leaf) (loaded.work ∙ ap (with_read leaf loaded.image) at.work) ∙ forgotten leaf loaded.image;
        known = record { legal = looked_on.seen.known.legal; room = looked_on.seen.known.room; mine = looked_on.seen.known.mine };
        on_path = on_path;
      };
      keeps = let k = looked_on.keeps claimed in record { more = k.more; seen = k.seen; single = k.single; claimed = k.claimed };
      went = let w = looked_on.seen.went in record { table = w.table; sizes = w.sizes; number = w.number; own = w.own; more = w.more; seen = w.seen; added = w.added; ends = w.ends; bounds = w.bounds };
      grants = grants;
      names = record { child = λ up. absurd (omega arith); left = λ _. is ∙ sym (prev-image (memory_after opening q.view.memory.seen) leaf ∙ ap prev_of image-is) };
    })

  -- the child of a node, read where it lies
  pub child_linked : (page level link : ℕ) (p q : PassState) → IsAt sizes lawful opening root key (claim_grant ∷ []) page level S p → is_claimed p.view.memory.since ≡ true → 0 < level
      → link ≡ child_for key 0 (records_of (image_of (memory_after opening p.view.memory.seen) page)) → HasReadWords p q → NamesLink sizes lawful opening root key page level link p q
  child_linked page level link p q at claimed up is read =
      let b = beside_read p q read in
      let since : is_claimed q.view.memory.since ≡ true = ap (λ (r : PassState). is_claimed r.view.memory.since) read.same ∙ claimed in
      let records = (page_image p.view.memory.seen page level at.known.legal at.on_path).image.records in
      record {
        at = at_read sizes lawful opening root key (claim_grant ∷ []) page level S p q at read;
        keeps = keeps_beside p q b.seen since;
        went = went_beside p q b;
        grants = ap (λ (r : PassState). r.view.grants) read.same;
        names = record { child = λ _. is ∙ (ap (child_for key 0) (sym records) ∙ ap (λ (l : List Entry). child_for key 0 (pages_after opening l page).records) (sym b.seen)); left = λ z. absurd (omega arith) };
      }

  -- the key's leaf, of which nothing is looked up but what it has of the key
  pub leaf_linked : (leaf : ℕ) (p q : PassState) → IsAt sizes lawful opening root key (claim_grant ∷ []) leaf 0 S p → is_claimed p.view.memory.since ≡ true → HasReadWords p q
      → NamesLink sizes lawful opening root key leaf 0 (pages_after opening q.view.memory.seen leaf).prev p q
  leaf_linked leaf p q at claimed read =
      let b = beside_read p q read in
      let since : is_claimed q.view.memory.since ≡ true = ap (λ (r : PassState). is_claimed r.view.memory.since) read.same ∙ claimed in
      record {
        at = at_read sizes lawful opening root key (claim_grant ∷ []) leaf 0 S p q at read;
        keeps = keeps_beside p q b.seen since;
        went = went_beside p q b;
        grants = ap (λ (r : PassState). r.view.grants) read.same;
        names = record { child = λ up. absurd (omega arith); left = λ _. refl };
      }

  pub leaf_value : (leaf : ℕ) (value : Option ℕ) (p q : PassState) → IsAt sizes lawful opening root key (claim_grant ∷ []) leaf 0 S p → HasReadWords p q
      → value ≡ value_at key (records_of (image_of (memory_after opening p.view.memory.seen) leaf)) → value ≡ value_at key (pages_after opening q.view.memory.seen leaf).records
  leaf_value leaf value p q at read is =
      let records = (page_image p.view.memory.seen leaf 0 at.known.legal at.on_path).image.records in
      is ∙ (ap (value_at key) (sym records) ∙ ap (λ (l : List Entry). value_at key (pages_after opening l leaf).records) (sym (beside_read p q read).seen))

  pub child_small : (page level : ℕ) (p : PassState) → IsAt sizes lawful opening root key (claim_grant ∷ []) page level S p → 0 < level
      → child_for key 0 (records_of (image_of (memory_after opening p.view.memory.seen) page)) < sizes.pages
  child_small page zero p at up = absurd (omega arith)
  child_small page (suc n) p at up =
      (page_image p.view.memory.seen (child_for key 0 (records_of (image_of (memory_after opening p.view.memory.seen) page))) n at.known.legal
      (child_path sizes.pages roots lawful opening shape.laws root some le key lt p.view.memory.seen page n at.known.legal at.on_path)).there

  -- the page is taken, with a look
  module _ (page level : ℕ) (p : PassState) (index : HasIndex sizes lawful p) (here : IsOnPath (pages_after opening p.view.memory.seen) root key page level) where
    pub link_read_inside : page < sizes.pages
    link_read_inside = (page_image p.view.memory.seen page level index.known.legal here).there

    pub link_read_may : CanWish (page + 2) TreeNode p.view.session
    link_read_may = can_wish (claim_grant ∷ []) p index.grants (page + 2) TreeNode ((λ e. absurd (omega arith)), tt) (refl, tt)

    module _ (q : PassState) (latched : HasLatched sizes lawful (page_grant page S) p q) (keeps : KeepsClaim p q) where
      two : HasGrants (claim_grant ∷ page_grant page S ∷ []) q
      two = grants_more (claim_grant ∷ []) (page_grant page S) p q index.grants latched.memo latched.session

      pub link_read_at : IsAt sizes lawful opening root key (claim_grant ∷ []) page level S q
      link_read_at = record {
        grants = two;
        watched = latched.seen.watched (page + 2) (last_held (claim_grant ∷ []) (page_grant page S) q two);
        work = latched.work ∙ index.work;
        known = latched.seen.known;
        on_path = keeps_on_path p q latched.seen.known keeps page level here;
      }

      module _ (link : ℕ) (r s : PassState) (linked : NamesLink sizes lawful opening root key page level link q r) (release : IsReleasedAt 1 r s) where
        gave : HasGiven (page_grant page S) r s
        gave = given (claim_grant ∷ []) (page_grant page S) [] r s linked.at.grants ((λ e. absurd (omega arith)), tt) tt release

        claimed-still : is_claimed s.view.memory.since ≡ true
        claimed-still = claimed_given (claim_grant ∷ []) (page_grant page S) [] r s linked.at.grants ((λ e. absurd (omega arith)), tt) tt release (λ e. absurd (omega arith)) linked.keeps.claimed

        pub link_read : HasReadLink sizes lawful opening root key page level link p s
        link_read = record {
          index = record {
            grants = grants_left (claim_grant ∷ []) (page_grant page S) [] r s linked.at.grants ((λ e. absurd (omega arith)), tt) tt release;
            claimed = claimed-still;
            work = gave.work linked.at.work;
            known = known_beside sizes lawful r s gave.beside linked.at.known;
          };
          keeps = keeps_both p r s (keeps_both p q r keeps linked.keeps) (keeps_beside r s gave.beside.seen claimed-still);
          went = went_both p r s (went_both p q r latched.seen.went linked.went) (went_beside r s gave.beside);
          grants = gave.grants ∙ (linked.grants ∙ latched.grants);
          on_path = subst (λ l. IsOnPath (pages_after opening l) root key page level) (sym gave.beside.seen) linked.at.on_path;
          names = subst (λ l. IsLink (pages_after opening l) key page level link) (sym gave.beside.seen) linked.names;
        }

        pub value_read : (value : Option ℕ) → value ≡ value_at key (pages_after opening r.view.memory.seen page).records → HasReadValue sizes lawful opening key page value p s
        value_read value is =
            let l = link_read in
            record {
              index = l.index;
              keeps = l.keeps;
              went = l.went;
              grants = l.grants;
              value_is = is ∙ ap (λ (l : List Entry). value_at key (pages_after opening l page).records) (sym gave.beside.seen);
            }
