-- The pages of a row are taken from left to right, by the records of the node above them.
use Rattle.std.specs.Prelude.{Option, slice_get, IsSomeAnd}
use Rattle.std.proofs.Common.{◌≡◌, ℕ, ◌+◌, ◌<◌, ◌≤◌, List, [], ◌∷◌, ◌++◌, Some, None, length, refl, sym, ap, subst, ◌∙◌, arith, append-nil, length-append}
use Rattle.ib_map.specs.Keys.{MapKey, rank}
use Rattle.ib_page.specs.Image.{IsTreePage, records_of}
use Rattle.ib_page.specs.Work.{changed_of}
use Rattle.ib_layout.specs.Geometry.{Sizes}
use Rattle.ib_logrec.specs.declared.entry.Entry.{Entry}
use Rattle.ib_logrec.specs.Log.{memory_after}
use Rattle.ib_rule.specs.Pass.{PassState}
use Rattle.ib_rule.specs.Views.{total}
use Rattle.ib_walk.specs.Words.{image_of}
use Rattle.ib_walk.proofs.ImageLaws.{image_of-list}
use Rattle.ib_plans.specs.Agreement.{last_of}
use Rattle.ib_plans.specs.Merge.{Siblings, siblings_of}
use Rattle.ib_tree.specs.Logs.{pages_after}
use Rattle.ib_tree.specs.PageLists.{AreOnce}
use Rattle.ib_cursor.specs.Rows.{CanTakeRow}
use Rattle.ib_cursor.specs.Siblings.{child_if, with_siblings}
use Rattle.ib_cursor.specs.Takings.{CanTakePage, HasTakenMore, HasTakenPage, WillTake}
use Rattle.ib_cursor.proofs.LevelLaws.{last_append}
use Rattle.ib_cursor.proofs.PageLaws.{tree_image}
use Rattle.ib_cursor.proofs.RowLaws.{few_siblings, once_right}
use Rattle.ib_cursor.proofs.TakeLaws.{can_first, found, more_both, more_none, more_one, will_rest}

-- the page of a record, where there is one
pub child_can : (sizes : Sizes) (lawful : List Entry → Type 0) (opening : ℕ → ℕ) (child : Option (MapKey × ℕ)) (key : MapKey) (page : ℕ) (p : PassState) → child ≡ Some (key, page) → (held more : List ℕ) → WillTake sizes lawful opening held (child_if child ++ more) p
    → CanTakePage sizes lawful opening held page p × (page < sizes.pages)
child_can sizes lawful opening child key page p is held more will =
    can_first sizes lawful opening held page more p (subst (λ c. WillTake sizes lawful opening held (child_if c ++ more) p) is will)

pub child_taken : (sizes : Sizes) (lawful : List Entry → Type 0) (opening : ℕ → ℕ) (child : Option (MapKey × ℕ)) (key : MapKey) (page : ℕ) (p q : PassState) → child ≡ Some (key, page) → (held : List ℕ) → HasTakenPage sizes lawful opening held page p q
    → HasTakenMore sizes lawful opening held (child_if child) p q
child_taken sizes lawful opening child key page p q is held t = subst (λ c. HasTakenMore sizes lawful opening held (child_if c) p q) (sym is) (more_one sizes lawful opening held page p q t)

pub child_none : (sizes : Sizes) (lawful : List Entry → Type 0) (opening : ℕ → ℕ) (child : Option (MapKey × ℕ)) (p : PassState) → ((r : MapKey × ℕ) → child ≡ Some r → ⊥) → (held more : List ℕ) → WillTake sizes lawful opening held (child_if child ++ more) p
    → HasTakenMore sizes lawful opening held (child_if child) p p
child_none sizes lawful opening None p none held more will = more_none sizes lawful opening held p will.holds
child_none sizes lawful opening (Some r) p none held more will = absurd (none r refl)

-- the last of pages that are each there once is one of the space
once-inside : (ps : List ℕ) (pages : ℕ) → 0 < length ps → AreOnce ps pages → last_of ps < pages
once-inside [] pages lt once = absurd (omega arith)
once-inside (x ∷ []) pages lt once = once.0
once-inside (x ∷ y ∷ ys) pages lt once = once-inside (y ∷ ys) pages (omega arith) once.2

-- the image of the node above a row
pub record IsNodeImage (key : MapKey) (opening : ℕ → ℕ) (node : ℕ) (p : PassState) : Type 0 where
  pub image : List ℕ
  pub there : changed_of node p.work ≡ Some image
  pub tree : IsTreePage image
  pub first : IsSomeAnd (slice_get (records_of image) 0) (λ r. rank r.0 ≤ rank key)
  pub records : (pages_after opening p.view.memory.seen node).records ≡ records_of image

module _ (sizes : Sizes) (lawful : List Entry → Type 0) (opening : ℕ → ℕ) (key : MapKey) (held : List ℕ) (node : ℕ) (p : PassState) (can : CanTakeRow sizes lawful opening key held node p) where
  pub node_image : IsNodeImage key opening node p
  node_image =
      let f = found opening p node p.work can.will.holds.read (can.will.holds.loaded node ∙ can.there) in
      let is : image_of (memory_after opening p.view.memory.seen) node ≡ f.image = image_of-list (memory_after opening p.view.memory.seen) node f.image f.size (λ index lt. sym (f.is_page index lt)) in
      let t = tree_image (memory_after opening p.view.memory.seen) node can.kind in
      let records = t.records ∙ ap records_of is in
      record {
        image = f.image;
        there = f.there;
        tree = subst IsTreePage is t.tree;
        first = subst (λ rs. IsSomeAnd (slice_get rs 0) (λ r. rank r.0 ≤ rank key)) records can.first;
        records = records;
      }

  -- by its records
  module _ (left : Option (MapKey × ℕ)) (here : MapKey × ℕ) (right : Option (MapKey × ℕ)) (is : (image : List ℕ) → changed_of node p.work ≡ Some image → siblings_of key (records_of image) ≡ record { left = left; here = here; right = right }) where
    abbrev row : List ℕ
    row = with_siblings (pages_after opening p.view.memory.seen) key node

    pub row-is : row ≡ child_if left ++ here.1 ∷ child_if right
    row-is =
        let n = node_image in
        ap (λ (t : Siblings). child_if t.left ++ t.here.1 ∷ child_if t.right) (ap (siblings_of key) n.records ∙ is n.image n.there)

    pub will_left : WillTake sizes lawful opening held (child_if left ++ here.1 ∷ child_if right) p
    will_left = subst (λ ps. WillTake sizes lawful opening held ps p) row-is can.will

    long : length (child_if left ++ here.1 ∷ child_if right) ≤ 3
    long = let a = ap length row-is in let b = few_siblings (pages_after opening p.view.memory.seen) key node in omega arith

    module _ (q : PassState) (one : HasTakenMore sizes lawful opening held (child_if left) p q) where
      pub will_here : WillTake sizes lawful opening (held ++ child_if left) (here.1 ∷ child_if right) q
      will_here = will_rest sizes lawful opening held (child_if left) (here.1 ∷ child_if right) p q will_left one

      pub room_here : total q.view.grants ≤ total p.view.grants + 3
      room_here = let a = one.s in let b = one.sx in let c = one.x in let d = long in let e = length-append (child_if left) (here.1 ∷ child_if right) in omega arith

      module _ (r : PassState) (two : HasTakenMore sizes lawful opening (held ++ child_if left) (here.1 ∷ []) q r) where
        pub will_right : WillTake sizes lawful opening ((held ++ child_if left) ++ here.1 ∷ []) (child_if right ++ []) r
        will_right = subst (λ ps. WillTake sizes lawful opening ((held ++ child_if left) ++ here.1 ∷ []) ps r) (sym (append-nil (child_if right)))
            (will_rest sizes lawful opening (held ++ child_if left) (here.1 ∷ []) (child_if right) q r will_here two)

        pub room_right : total r.view.grants ≤ total p.view.grants + 4
        room_right = let a = two.s in let b = two.sx in let c = two.x in let d = room_here in omega arith

        pub row_taken : (t : PassState) → HasTakenMore sizes lawful opening ((held ++ child_if left) ++ here.1 ∷ []) (child_if right) r t → HasTakenMore sizes lawful opening held row p t
        row_taken t three = subst (λ ps. HasTakenMore sizes lawful opening held ps p t) (sym row-is)
            (more_both sizes lawful opening held (child_if left) (here.1 ∷ child_if right) p q t one
            (more_both sizes lawful opening (held ++ child_if left) (here.1 ∷ []) (child_if right) q r t two three))

    -- the last of them
    pub last_is : last_of row ≡ last_of (here.1 ∷ child_if right)
    last_is = ap last_of row-is ∙ last_append (child_if left) (here.1 ∷ child_if right) (omega arith)

    pub last_inside : last_of (here.1 ∷ child_if right) < sizes.pages
    last_inside = once-inside (here.1 ∷ child_if right) sizes.pages (omega arith)
        (once_right (child_if left) (here.1 ∷ child_if right) sizes.pages (once_right held (child_if left ++ here.1 ∷ child_if right) sizes.pages will_left.once))
