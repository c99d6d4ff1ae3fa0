-- A position that was stored, and what its page is when it is restored.
use Rattle.std.specs.List.{AllByRecursion}
use Rattle.std.specs.Prelude.{◌==◌, ◌||◌, not, nat_lt, filter, slice_get, IfSome, Option, None}
use Rattle.std.proofs.Common.{◌≡◌, ◌≢◌, ℕ, ◌+◌, ◌<◌, ◌≤◌, ◌∙◌, Bool, true, false, cond, List, [], ◌∷◌, ◌++◌, Some, length, take, drop, refl, sym, ap, subst, arith, eq-eqb, append_assoc, append-nil, length-append}
use Rattle.std.proofs.lemmas.List.{take-append-le, take-append-drop}
use Rattle.std.proofs.Math.Seq.{take-length}
use Rattle.ib_map.specs.Keys.{MapKey}
use Rattle.ib_map.specs.Writes.{touches}
use Rattle.ib_levels.specs.declared.latch.Latch.{Latch}
use Rattle.ib_levels.specs.declared.level.Mode.{Mode}
use Rattle.ib_levels.specs.declared.level.Mode.TheVariants.{S}
use Rattle.ib_layout.specs.Geometry.{Sizes}
use Rattle.ib_core.specs.Sessions.{holdings}
use Rattle.ib_page.specs.Form.{page_of}
use Rattle.ib_page.specs.Image.{IsFormed, clock_of}
use Rattle.ib_page.specs.Work.{WorkPage, changed_of, with_read}
use Rattle.ib_heap.specs.declared.TheConstants.{MOST_RECORDS}
use Rattle.ib_logrec.specs.declared.entry.Entry.{Entry}
use Rattle.ib_logrec.specs.Law.{PageRange}
use Rattle.ib_logrec.specs.Log.{memory_after}
use Rattle.ib_walk.specs.Pages.{PageState, IsSound}
use Rattle.ib_walk.specs.Walk.{counts_page, counts_visit}
use Rattle.ib_walk.specs.Trees.{weight_of, height_of, times_met, top_of}
use Rattle.ib_walk.specs.Words.{bits_of, image_of}
use Rattle.ib_walk.proofs.ImageLaws.{image_of-list, pages_of-image}
use Rattle.ib_walk.proofs.TreeLaws.{weight_of-le}
use Rattle.ib_plans.proofs.EditLaws.{state-clock}
use Rattle.ib_validate.proofs.SoundLaws.{formed-sound}
use Rattle.ib_tree.specs.Clocks.{CountsWrites}
use Rattle.ib_tree.specs.Logs.{HasRange, pages_after, visit_with}
use Rattle.ib_tree.proofs.WeightLaws.{weight_along-le}
use Rattle.ib_tree.proofs.WholeLaws.{counts_visit-le_page}
use Rattle.ib_rule.specs.Conditions.{HasGrantsLeft}
use Rattle.ib_rule.specs.Pass.{PassState}
use Rattle.ib_rule.specs.Space.{SpaceState}
use Rattle.ib_rule.specs.Views.{total}
use Rattle.ib_mtr.specs.Mtr.{IsMtr, IsReleasedAt, IsUnchangedOn, MayRelease, released_at}
use Rattle.ib_cursor.specs.declared.position.Position.{Position}
use Rattle.ib_cursor.specs.Descent.{HasPage, HasDescended, MayDescend}
use Rattle.ib_cursor.specs.Going.{HasSeen}
use Rattle.ib_cursor.specs.Grants.{Grant, memo_of, page_grant, HasGrants, HasTaken}
use Rattle.ib_cursor.specs.Laws.{Laws}
use Rattle.ib_cursor.specs.Nexts.{HoldsLeaf}
use Rattle.ib_cursor.specs.Positions.{HasLoadedAlone, HasMoved, HasStayed, IsPosition, LoadedLeaf}
use Rattle.ib_cursor.proofs.GrantLaws.{HasGiven, away-none, given, grants_left, grants_more, last_held, released_is}
use Rattle.ib_cursor.proofs.LatchingLaws.{beside_taken, seen_after, went_beside, went_both}
use Rattle.ib_cursor.proofs.LogLaws.{bit_inside, range_stays}
use Rattle.ib_cursor.proofs.NextLaws.{there_in}
use Rattle.ib_walk.proofs.CountLaws.{bits-met, weight-met}

-- how a page's clock goes while entries are seen
module _ (lawful : List Entry → Type 0) (opening : ℕ → ℕ) (begins : (xs ys : List Entry) → lawful (xs ++ ys) → lawful xs) (counts : CountsWrites lawful opening) (page : ℕ) (some : page ≢ 0) where
  abbrev clock_after : List Entry → ℕ
  clock_after log = (pages_after opening log page).clock

  -- it never falls
  clock-le : (xs es : List Entry) → lawful (xs ++ es) → clock_after xs ≤ clock_after (xs ++ es)
  clock-le xs [] legal = let same = ap clock_after (append-nil xs) in omega arith
  clock-le xs (e ∷ es) legal =
      let same = append_assoc xs (e ∷ []) es in
      let now = subst lawful (sym same) legal in
      let rest = clock-le (xs ++ e ∷ []) es now in
      let one = counts xs e page some (begins (xs ++ e ∷ []) es now) in
      let at = ap clock_after same in omega arith

  -- where it is as it was, no entry wrote the page
  unwritten : (xs es : List Entry) → lawful (xs ++ es) → clock_after (xs ++ es) ≡ clock_after xs → AllByRecursion (λ e. touches page e.writes ≡ false) es
  unwritten xs [] legal is = tt
  unwritten xs (e ∷ es) legal is =
      let same = append_assoc xs (e ∷ []) es in
      let now = subst lawful (sym same) legal in
      let rest = clock-le (xs ++ e ∷ []) es now in
      let one = counts xs e page some (begins (xs ++ e ∷ []) es now) in
      let at = ap clock_after same in
      let none : touches page e.writes ≡ false = go (touches page e.writes) refl one (omega arith) in
      let first : clock_after (xs ++ e ∷ []) ≡ clock_after xs = one ∙ (let z = ap (λ b. clock_after xs + cond {A = ℕ} b 1 0) none in omega arith) in
      (none, unwritten (xs ++ e ∷ []) es now (omega arith))
    where
      go : (b : Bool) → touches page e.writes ≡ b → clock_after (xs ++ e ∷ []) ≡ clock_after xs + cond {A = ℕ} (touches page e.writes) 1 0 → clock_after (xs ++ e ∷ []) ≤ clock_after xs → touches page e.writes ≡ false
      go false is one le = is
      go true is one le = absurd (let z = ap (λ b. cond {A = ℕ} b 1 0) is in omega arith)

-- a page of lawful memory
module _ (pages roots : ℕ) (lawful : List Entry → Type 0) (opening : ℕ → ℕ) (laws : Laws pages roots lawful opening) (log : List Entry) (legal : lawful log) where
  -- but page 0 it is one of the tree, or free
  pub page_formed : (page : ℕ) → page ≢ 0 → IsFormed (image_of (memory_after opening log) page)
  page_formed page some =
      formed-sound (image_of (memory_after opening log) page) (subst (IsSound MOST_RECORDS) (pages_of-image (memory_after opening log) page) ((laws.memory log legal).law.sound page some))

  page_clock : (page : ℕ) → (pages_after opening log page).clock ≡ clock_of (image_of (memory_after opening log) page)
  page_clock page = ap (λ (s : PageState). s.clock) (pages_of-image (memory_after opening log) page) ∙ state-clock (page_of (image_of (memory_after opening log) page))

  -- a walk meets only pages of the space, and not page 0
  met_page : (page : ℕ) (r : PageRange) → HasRange roots (pages_after opening log) page r → (page < pages) × (page ≢ 0)
  met_page page r met =
      let le = weight_along-le (counts_visit r.level (visit_with page r)) (counts_page page) (pages_after opening log) (height_of (pages_after opening log) r.root) (top_of r.root) (counts_visit-le_page r.level (visit_with page r)) in
      let here = weight-met met.2 in
      let some : 0 < weight_of (counts_page page) (pages_after opening log) r.root = omega arith in
      let all = weight_of-le (counts_page page) (pages_after opening log) r.root roots met.0 met.1 in
      let times : 0 < times_met (pages_after opening log) roots page = omega (arith, some, all) in
      let law = bits-met (laws.memory log legal).law page in let bit = (laws.memory log legal).law.bit page in (
        bit_inside pages (memory_after opening log) page (omega (arith, times, law)),
        λ z. let yes = eq-eqb page 0 z in let full : bits_of pages (memory_after opening log) page ≡ times_met (pages_after opening log) roots page + 1 = rw yes at law in absurd (omega arith),
      )

-- what is stored of a leaf
module _ (sizes : Sizes) (roots : ℕ) (lawful : List Entry → Type 0) (opening : ℕ → ℕ) (laws : Laws sizes.pages roots lawful opening) (leaf : ℕ) (p : PassState) (l : LoadedLeaf sizes lawful opening roots leaf p) where
  leaf-image : image_of (memory_after opening p.view.memory.seen) leaf ≡ l.image
  leaf-image = image_of-list (memory_after opening p.view.memory.seen) leaf l.image l.size (λ index lt. sym (l.is_page index lt))

  pub stored_formed : IsFormed l.image
  stored_formed = subst IsFormed leaf-image (page_formed sizes.pages roots lawful opening laws p.view.memory.seen l.known.legal leaf (met_page sizes.pages roots lawful opening laws p.view.memory.seen l.known.legal leaf l.range l.met).1)

  pub stored_clock : clock_of l.image ≡ (pages_after opening p.view.memory.seen leaf).clock
  stored_clock = sym (page_clock sizes.pages roots lawful opening laws p.view.memory.seen l.known.legal leaf ∙ ap clock_of leaf-image)

  pub stored_position : (clock place : ℕ) → clock ≡ (pages_after opening p.view.memory.seen leaf).clock → place ≡ length p.view.memory.seen → IsPosition lawful opening roots p.view.memory.seen (record { page = leaf; clock = clock; place = place })
  stored_position clock place is_clock is_place =
      let all : take place p.view.memory.seen ≡ p.view.memory.seen = ap (λ n. take n p.view.memory.seen) is_place ∙ take-length p.view.memory.seen in
      record {
        within = omega arith;
        legal = subst lawful (sym all) l.known.legal;
        range = l.range;
        lowest = l.lowest;
        met = subst (λ log. HasRange roots (pages_after opening log) leaf l.range) (sym all) l.met;
        clock = is_clock ∙ sym (ap (λ log. (pages_after opening log leaf).clock) all);
      }

-- a leaf that is held and loaded may be stored
pub held_loaded : (sizes : Sizes) (lawful : List Entry → Type 0) (opening : ℕ → ℕ) (roots : ℕ) (front : List Grant) (leaf : ℕ) (image : List ℕ) (r : PageRange) (p : PassState) → HoldsLeaf sizes lawful opening roots front leaf image r p
    → LoadedLeaf sizes lawful opening roots leaf p
held_loaded sizes lawful opening roots front leaf image r p h = record {
  image = image;
  loaded = ap (changed_of leaf) h.work ∙ there_in leaf image;
  size = h.size;
  is_page = h.is_page;
  known = h.known;
  range = r;
  lowest = h.lowest;
  met = h.met;
}

-- a position in what is seen is one when more is seen
pub position_longer : (lawful : List Entry → Type 0) (opening : ℕ → ℕ) (roots : ℕ) (seen more : List Entry) (at : Position) → IsPosition lawful opening roots seen at → IsPosition lawful opening roots (seen ++ more) at
position_longer lawful opening roots seen more at stored =
    let same : take at.place (seen ++ more) ≡ take at.place seen = take-append-le at.place seen more stored.within in
    record {
      within = let long = length-append seen more in let within = stored.within in omega arith;
      legal = subst lawful (sym same) stored.legal;
      range = stored.range;
      lowest = stored.lowest;
      met = subst (λ log. HasRange roots (pages_after opening log) at.page stored.range) (sym same) stored.met;
      clock = stored.clock ∙ sym (ap (λ log. (pages_after opening log at.page).clock) same);
    }

-- a page is taken and loaded
pub loaded_alone : (sizes : Sizes) (lawful : List Entry → Type 0) (opening : ℕ → ℕ) (page : ℕ) (p q s : PassState) → HasGrants [] p → p.work ≡ [] → HasTaken (page_grant page S) p q → HasSeen sizes lawful q s
    → s.memo ≡ q.memo → s.view.session ≡ q.view.session → s.view.grants ≡ q.view.grants → HasPage opening page q s → HasLoadedAlone sizes lawful opening page p s
loaded_alone sizes lawful opening page p q s idle none taken seen memo session grants loaded =
    let has = grants_more [] (page_grant page S) p s idle (memo ∙ ap (λ (u : PassState). u.memo) taken.pass) (session ∙ taken.taken.session) in
    let after = seen_after sizes lawful p q s (beside_taken (page_grant page S) p q taken) taken.taken.memory seen in
    record {
      held = has;
      watched = after.watched (page + 2) (last_held [] (page_grant page S) s has);
      image = loaded.image;
      work = loaded.work ∙ ap (with_read page loaded.image) (ap (λ (u : PassState). u.work) taken.pass ∙ none);
      size = loaded.size;
      is_page = loaded.is_page;
      known = after.known;
      went = after.went;
      one = after.one;
      grants = grants ∙ taken.taken.grants;
    }

-- the one page of the work set leaves it with its latch
none-left : (page : ℕ) (image : List ℕ) (b : Bool) → b ≡ false → filter (λ (w : WorkPage). not (w.page + 2 == page + 2) || b) (record { page = page; before = image; changed = image } ∷ []) ≡ []
none-left page image b is = let yes : (page + 2 == page + 2) ≡ true = eq-eqb (page + 2) (page + 2) refl in rw (yes, is) refl

-- a page that alone is held and loaded, unchanged, may be given up; then nothing is held or loaded
module _ (page : ℕ) (image : List ℕ) (q : PassState) (held : HasGrants (page_grant page S ∷ []) q) (work : q.work ≡ record { page = page; before = image; changed = image } ∷ []) where
  pub may_leave : MayRelease 0 q
  may_leave = by_grant (slice_get q.memo 0)
    where
      unchanged : (l : ℕ) → IsUnchangedOn l (record { page = page; before = image; changed = image } ∷ [])
      unchanged l n is = refl

      by_grant : (o : Option (Latch × Mode)) → IfSome o (λ g. IsUnchangedOn g.0.0 q.work)
      by_grant None = tt
      by_grant (Some g) = subst (IsUnchangedOn g.0.0) (sym work) (unchanged g.0.0)

  module _ (t : PassState) (release : IsReleasedAt 0 q t) where
    pub left_as : HasGiven (page_grant page S) q t
    left_as = given [] (page_grant page S) [] q t held tt tt release

    none-held : HasGrants [] t
    none-held = grants_left [] (page_grant page S) [] q t held tt tt release

    none-loaded : t.work ≡ []
    none-loaded =
        let is = released_is [] (page_grant page S) [] q t held tt tt release in
        let none : holdings (page + 2) t.view.session ≡ 0 = ap (holdings (page + 2)) none-held.session ∙ away-none (page + 2) (λ h. 1) [] tt in
        let gone : nat_lt 0 (holdings (page + 2) (released_at 0 (memo_of (page_grant page S)) q).view.session) ≡ false = ap (λ (u : PassState). nat_lt 0 (holdings (page + 2) u.view.session)) (sym is) ∙ ap (nat_lt 0) none in
        ap (λ (u : PassState). u.work) is
        ∙ (ap (filter (λ (w : WorkPage). not (w.page + 2 == page + 2) || nat_lt 0 (holdings (page + 2) (released_at 0 (memo_of (page_grant page S)) q).view.session))) work
        ∙ none-left page image (nat_lt 0 (holdings (page + 2) (released_at 0 (memo_of (page_grant page S)) q).view.session)) gone)

    -- so a descent may begin
    pub left_descend : (space : SpaceState) → IsMtr space t → HasGrantsLeft 64 q.view → MayDescend space t
    left_descend space mtr room = record { mtr = mtr; memo = none-held.memo; none = none-loaded; room = let same = ap total left_as.grants in omega arith }

module _ (sizes : Sizes) (roots : ℕ) (lawful : List Entry → Type 0) (opening : ℕ → ℕ) (laws : Laws sizes.pages roots lawful opening) (at : Position) (p : PassState) (stored : IsPosition lawful opening roots p.view.memory.seen at) where
  position-met : (at.page < sizes.pages) × (at.page ≢ 0)
  position-met = met_page sizes.pages roots lawful opening laws (take at.place p.view.memory.seen) stored.legal at.page stored.range stored.met

  pub position_inside : at.page < sizes.pages
  position_inside = position-met.0

  module _ (q : PassState) (a : HasLoadedAlone sizes lawful opening at.page p q) where
    alone-image : image_of (memory_after opening q.view.memory.seen) at.page ≡ a.image
    alone-image = image_of-list (memory_after opening q.view.memory.seen) at.page a.image a.size (λ index lt. sym (a.is_page index lt))

    alone-clock : (pages_after opening q.view.memory.seen at.page).clock ≡ clock_of a.image
    alone-clock = page_clock sizes.pages roots lawful opening laws q.view.memory.seen a.known.legal at.page ∙ ap clock_of alone-image

    pub alone_there : changed_of at.page q.work ≡ Some a.image
    alone_there = ap (changed_of at.page) a.work ∙ there_in at.page a.image

    pub alone_formed : IsFormed a.image
    alone_formed = subst IsFormed alone-image (page_formed sizes.pages roots lawful opening laws q.view.memory.seen a.known.legal at.page position-met.1)

    -- what was seen when the position was stored, and what was seen since
    abbrev front : List Entry
    front = take at.place q.view.memory.seen

    abbrev since : List Entry
    since = drop at.place q.view.memory.seen

    front-is : front ≡ take at.place p.view.memory.seen
    front-is = ap (take at.place) a.went.seen ∙ take-append-le at.place p.view.memory.seen a.went.more stored.within

    both-are : front ++ since ≡ q.view.memory.seen
    both-are = take-append-drop at.place q.view.memory.seen

    legal-both : lawful (front ++ since)
    legal-both = subst lawful (sym both-are) a.known.legal

    front-clock : (pages_after opening front at.page).clock ≡ at.clock
    front-clock = ap (λ log. (pages_after opening log at.page).clock) front-is ∙ sym stored.clock

    module _ (counts : CountsWrites lawful opening) where
      pub stayed : clock_of a.image ≡ at.clock → HasStayed sizes lawful opening roots at stored.range p q
      stayed same =
          let calm = unwritten lawful opening laws.begins counts at.page position-met.1 front since legal-both (ap (λ log. (pages_after opening log at.page).clock) both-are ∙ (alone-clock ∙ (same ∙ sym front-clock))) in
          let met = subst (λ log. HasRange roots (pages_after opening log) at.page stored.range) (sym front-is) stored.met in
          let now = range_stays sizes.pages roots lawful opening laws stored.range.root met.0 met.1 front since at.page stored.range legal-both calm met in
          record {
            clock = alone-clock ∙ same;
            unwritten = calm;
            image = a.image;
            holds = record {
              grants = a.held;
              once = tt;
              watched = a.watched;
              work = a.work;
              size = a.size;
              is_page = a.is_page;
              known = a.known;
              lowest = stored.lowest;
              met = subst (λ log. HasRange roots (pages_after opening log) at.page stored.range) both-are now;
            };
            went = a.went;
            one = a.one;
            grants = a.grants;
          }

      -- a clock that is another is higher
      clock-risen : clock_of a.image ≢ at.clock → at.clock < (pages_after opening q.view.memory.seen at.page).clock
      clock-risen other =
          let le = clock-le lawful opening laws.begins counts at.page position-met.1 front since legal-both in
          let all = ap (λ log. (pages_after opening log at.page).clock) both-are in
          let is = front-clock in let now = alone-clock in
          omega (arith, other)

      pub moved : clock_of a.image ≢ at.clock → (t : PassState) → IsReleasedAt 0 q t → (key : MapKey) (path : List ℕ) (u : PassState) → HasDescended sizes lawful opening 1 key false path t u → HasMoved sizes lawful opening at key path p u
      moved other t release key path u descended =
          let gave = left_as at.page a.image q a.held a.work t release in
          let went = descended.reached.went in
          let longer : u.view.memory.seen ≡ q.view.memory.seen ++ went.more = went.seen ∙ ap (λ log. log ++ went.more) gave.beside.seen in
          let le = clock-le lawful opening laws.begins counts at.page position-met.1 q.view.memory.seen went.more (subst lawful longer descended.reached.known.legal) in
          let now = ap (λ log. (pages_after opening log at.page).clock) longer in
          let risen = clock-risen other in
          record {
            clock = omega arith;
            left = t;
            went = went_both p q t a.went (went_beside q t gave.beside);
            grants = gave.grants ∙ a.grants;
            descended = descended;
          }
