-- A page more is taken behind the claimed index.
use Rattle.std.specs.List.{All, AllByRecursion}
use Rattle.std.specs.Prelude.{◌==◌, ◌||◌, nat_lt, take, drop, get_or}
use Rattle.std.proofs.Common.{◌≡◌, ◌≢◌, inl, inr, ℕ, ◌+◌, ◌<◌, Bool, true, false, cond, List, [], ◌∷◌, ◌++◌, Some, None, length, map, refl, sym, ap, subst, ◌∙◌, arith, eq-eqb, ne_eqb, length-append, append_assoc, append-nil, ◌≤◌}
use Rattle.std.proofs.lemmas.Bool.{cases_eq}
use Rattle.std.proofs.lemmas.List.{map-append, take_at, take-append-drop, get_or_append_left}
use Rattle.std.proofs.lemmas.Grind.{take_at_read}
use Rattle.std.proofs.lemmas.List.Elements.{All-nil, All-cons, All-head, All-tail}
use Rattle.ib_map.specs.Writes.{touches, word_place}
use Rattle.ib_levels.specs.declared.level.Level.TheVariants.{TreeNode}
use Rattle.ib_levels.specs.declared.level.Mode.TheVariants.{X}
use Rattle.ib_levels.specs.Holding.{on}
use Rattle.ib_levels.specs.Level.{may_follow}
use Rattle.ib_levels.proofs.Counts.{on-cons, part-here}
use Rattle.ib_layout.specs.Geometry.{Sizes}
use Rattle.ib_core.specs.Holders.{CanWish}
use Rattle.ib_core.specs.declared.session.Session.{Session}
use Rattle.ib_core.specs.Sessions.{holdings}
use Rattle.ib_page.specs.Work.{WorkPage, changed_of, with_page, with_read}
use Rattle.ib_logrec.specs.declared.entry.Entry.{Entry}
use Rattle.ib_rule.specs.declared.memory.Knowledge.{Knowledge}
use Rattle.ib_rule.specs.declared.looks.Grants.{Grants}
use Rattle.ib_rule.specs.Pass.{PassState}
use Rattle.ib_rule.specs.Views.{is_watched, total}
use Rattle.ib_rule.proofs.Watching.{word_stays}
use Rattle.ib_rule.proofs.Lists.{or_denies}
use Rattle.ib_map.specs.declared.TheConstants.{PAGE_WORDS}
use Rattle.ib_page.specs.Image.{IsTreePage, IsFormed, next_of}
use Rattle.ib_heap.proofs.FormLaws.{formed-tree}
use Rattle.ib_logrec.specs.Log.{memory_after}
use Rattle.ib_walk.specs.Pages.{Tree}
use Rattle.ib_walk.specs.Words.{image_of}
use Rattle.ib_tree.specs.Logs.{pages_after}
use Rattle.ib_cursor.proofs.PageLaws.{tree_image}
use Rattle.ib_map.proofs.WriteLaws.{page_at-word}
use Rattle.ib_walk.proofs.ImageLaws.{image_of-list, pages_of-same}
use Rattle.ib_tree.specs.PageLists.{is_listed, AreOnce}
use Rattle.ib_mtr.specs.Loads.{IsPageAfter}
use Rattle.ib_mtr.proofs.Images.{All-with_page}
use Rattle.ib_cursor.specs.Claims.{claim_grant, IsAsRead, beside}
use Rattle.ib_cursor.specs.Descent.{HasPage}
use Rattle.ib_cursor.specs.Grants.{Grant, hold_of, page_grant, HasGrants, IsAway, HasTaken}
use Rattle.ib_cursor.specs.Shapes.{KeepsClaim, HasLookedOn}
use Rattle.ib_cursor.specs.Takings.{is_loaded, page_grants, AreSteady, IsHeldPage, HoldsClaimed, CanTakePage, HasTakenPage, HasTakenMore, WillTake}
use Rattle.ib_cursor.proofs.OnceLaws.{once_here}
use Rattle.ib_cursor.proofs.LatchingLaws.{went_none, went_both, went_beside, beside_taken}
use Rattle.ib_cursor.proofs.GrantLaws.{hold-latch, can_wish, grants_more}
use Rattle.ib_cursor.proofs.ClaimLaws.{keeps_after, keeps_both, keeps_beside}

-- the pages of a work set
pub loaded-more : (page : ℕ) (q : WorkPage) (ps : List WorkPage) → is_loaded page (with_page q ps) ≡ ((q.page == page) || is_loaded page ps)
loaded-more page q [] = refl
loaded-more page q (p ∷ ps) = by_test (loaded-more page q ps) (nat_lt p.page q.page)
  where
    turned : (a b c : Bool) → (a || (b || c)) ≡ (b || (a || c))
    turned true true c = refl
    turned true false c = refl
    turned false b c = refl

    by_test : is_loaded page (with_page q ps) ≡ ((q.page == page) || is_loaded page ps) → (b : Bool)
        → is_loaded page (cond b (p ∷ with_page q ps) (q ∷ p ∷ ps)) ≡ ((q.page == page) || is_loaded page (p ∷ ps))
    by_test r true = ap (λ t. (p.page == page) || t) r ∙ turned (p.page == page) (q.page == page) (is_loaded page ps)
    by_test r false = refl

pub among-more : (held : List ℕ) (new page : ℕ) → is_listed (held ++ new ∷ []) page ≡ ((new == page) || is_listed held page)
among-more [] new page = refl
among-more (x ∷ xs) new page = ap (λ t. (x == page) || t) (among-more xs new page) ∙ turned (x == page) (new == page) (is_listed xs page)
  where
    turned : (a b c : Bool) → (a || (b || c)) ≡ (b || (a || c))
    turned true true c = refl
    turned true false c = refl
    turned false b c = refl

pub long-more : (q : WorkPage) (ps : List WorkPage) → length (with_page q ps) ≡ length ps + 1
long-more q [] = refl
long-more q (p ∷ ps) = by_test (long-more q ps) (nat_lt p.page q.page)
  where
    by_test : length (with_page q ps) ≡ length ps + 1 → (b : Bool) → length (cond b (p ∷ with_page q ps) (q ∷ p ∷ ps)) ≡ length (p ∷ ps) + 1
    by_test r true = omega (arith, r)
    by_test r false = omega arith

pub absent_loaded : (page : ℕ) (ps : List WorkPage) → is_loaded page ps ≡ false → changed_of page ps ≡ None
absent_loaded page [] none = refl
absent_loaded page (p ∷ ps) none = let n = or_denies (p.page == page) (is_loaded page ps) none in ap (λ b. cond b (Some p.changed) (changed_of page ps)) n.0 ∙ absent_loaded page ps n.1

-- a page that is none of these has another latch
away-pages : (held : List ℕ) (page : ℕ) → is_listed held page ≡ false → IsAway (page + 2) (page_grants held)
away-pages [] page none = tt
away-pages (x ∷ xs) page none =
    let n = or_denies (x == page) (is_listed xs page) none in
    ((λ e. let y : (x == page) ≡ true = eq-eqb x page (omega (arith, e)) in absurd (let z : true ≡ false = sym y ∙ n.0 in cc)), away-pages xs page n.1)

follow-pages : (held : List ℕ) → AllByRecursion (λ (g : Grant). may_follow g.level TreeNode ≡ true) (page_grants held)
follow-pages [] = tt
follow-pages (x ∷ xs) = (refl, follow-pages xs)

-- what holds of each grant's latch
each-latch : (P : ℕ → Type 0) (gs : List Grant) → ((l : ℕ) → 0 < on l (λ h. 1) (map hold_of gs) → P l) → AllByRecursion (λ g. P g.latch) gs
each-latch P [] f = tt
each-latch P (g ∷ gs) f = (
  f g.latch (let c = on-cons g.latch (λ h. 1) (hold_of g) (map hold_of gs) in let p = part-here g.latch (λ h. 1) (hold_of g) (hold-latch g) in omega arith),
  each-latch P gs (λ l some. f l (let c = on-cons l (λ h. 1) (hold_of g) (map hold_of gs) in omega arith)),
)

each-page : (P : ℕ → Type 0) (held : List ℕ) → AllByRecursion (λ (g : Grant). P g.latch) (page_grants held) → AllByRecursion (λ page. P (page + 2)) held
each-page P [] a = tt
each-page P (x ∷ xs) a = (a.0, each-page P xs a.1)

pub all-both : (P Q R : WorkPage → Type 0) (ws : List WorkPage) → ((w : WorkPage) → P w → Q w → R w) → All P ws → All Q ws → All R ws
all-both P Q R [] f a b = All-nil R
all-both P Q R (w ∷ ws) f a b = All-cons R w ws (f w (All-head P w ws a) (All-head Q w ws b)) (all-both P Q R ws f (All-tail P w ws a) (All-tail Q w ws b))

module _ (sizes : Sizes) (lawful : List Entry → Type 0) (opening : ℕ → ℕ) (held : List ℕ) (page : ℕ) (p : PassState) (can : CanTakePage sizes lawful opening held page p) where
  away : IsAway (page + 2) (claim_grant ∷ page_grants held)
  away = ((λ e. absurd (omega arith)), away-pages held page can.other)

  pub page_may : CanWish (page + 2) TreeNode p.view.session
  page_may = can_wish (claim_grant ∷ page_grants held) p can.holds.grants (page + 2) TreeNode away (refl, follow-pages held)

  pub page_absent : changed_of page p.work ≡ None
  page_absent = absent_loaded page p.work (can.holds.loaded page ∙ can.other)

  module _ (q r : PassState) (was : All (λ w. 0 < holdings (w.page + 2) p.view.session) p.work) (taken : HasTaken (page_grant page X) p q) (looked_on : HasLookedOn sizes lawful q r) (memo : r.memo ≡ q.memo) (session : r.view.session ≡ q.view.session)
      (grants : r.view.grants ≡ q.view.grants) (load : HasPage opening page q r) (now : All (λ w. 0 < holdings (w.page + 2) r.view.session) r.work) where
    all-grants : HasGrants (claim_grant ∷ page_grants (held ++ page ∷ [])) r
    all-grants = subst (λ gs. HasGrants gs r) (ap (λ gs. claim_grant ∷ gs) (sym (map-append (λ page. page_grant page X) held (page ∷ []))))
        (grants_more (claim_grant ∷ page_grants held) (page_grant page X) p r can.holds.grants (memo ∙ ap (λ (u : PassState). u.memo) taken.pass) (session ∙ taken.taken.session))

    work-is : r.work ≡ with_read page load.image p.work
    work-is = load.work ∙ ap (λ (u : PassState). with_read page load.image u.work) taken.pass

    still : (w : WorkPage) → IsHeldPage opening p w → 0 < holdings (w.page + 2) p.view.session → IsAsRead opening r.view.memory.seen w
    still w h some =
        let calm = looked_on.seen.steady w.page (ap (λ (m : Knowledge). is_watched (w.page + 2) m.since) taken.taken.memory ∙ h.watched) in
        let log : r.view.memory.seen ≡ p.view.memory.seen ++ looked_on.seen.went.more = looked_on.seen.went.seen ∙ ap (λ (m : Knowledge). m.seen ++ looked_on.seen.went.more) taken.taken.memory in
        record {
          size = h.read.size;
          is_page = subst (λ l. IsPageAfter opening l w.page w.before) (sym log) (λ index lt. h.read.is_page index lt ∙ sym (word_stays opening p.view.memory.seen looked_on.seen.went.more (word_place w.page index)
              (subst (λ (n : ℕ). AllByRecursion (λ (e : Entry). touches n e.writes ≡ false) looked_on.seen.went.more) (sym (page_at-word w.page index lt)) calm)));
          unchanged = h.read.unchanged;
        }

    images : All (IsAsRead opening r.view.memory.seen) r.work
    images = subst (All (IsAsRead opening r.view.memory.seen)) (sym work-is) (All-with_page (IsAsRead opening r.view.memory.seen) (record { page = page; before = load.image; changed = load.image }) p.work
        (record { size = load.size; is_page = load.is_page; unchanged = refl })
        (all-both (IsHeldPage opening p) (λ w. 0 < holdings (w.page + 2) p.view.session) (IsAsRead opening r.view.memory.seen) p.work still can.holds.read was))

    keeps : KeepsClaim p r
    keeps = keeps_after p q r taken.taken.memory looked_on.keeps can.holds.claimed

    page-steady : (n : ℕ) → is_watched (n + 2) p.view.memory.since ≡ true → pages_after opening r.view.memory.seen n ≡ pages_after opening p.view.memory.seen n
    page-steady n watched =
        let calm = looked_on.seen.steady n (ap (λ (m : Knowledge). is_watched (n + 2) m.since) taken.taken.memory ∙ watched) in
        let log : r.view.memory.seen ≡ p.view.memory.seen ++ looked_on.seen.went.more = looked_on.seen.went.seen ∙ ap (λ (m : Knowledge). m.seen ++ looked_on.seen.went.more) taken.taken.memory in
        subst (λ l. pages_after opening l n ≡ pages_after opening p.view.memory.seen n) (sym log)
        (pages_of-same (memory_after opening p.view.memory.seen) (memory_after opening (p.view.memory.seen ++ looked_on.seen.went.more)) n (λ index lt. word_stays opening p.view.memory.seen looked_on.seen.went.more (word_place n index)
        (subst (λ (k : ℕ). AllByRecursion (λ (e : Entry). touches k e.writes ≡ false) looked_on.seen.went.more) (sym (page_at-word n index lt)) calm)))

    pages-steady : (ps : List ℕ) → AllByRecursion (λ n. is_watched (n + 2) p.view.memory.since ≡ true) ps → AreSteady opening ps p r
    pages-steady [] watched = tt
    pages-steady (n ∷ ns) watched = (page-steady n watched.0, pages-steady ns watched.1)

    pub page_taken : HasTakenPage sizes lawful opening held page p r
    page_taken = record {
      holds = record {
        grants = all-grants;
        claimed = keeps.claimed;
        watched = each-page (λ l. is_watched l r.view.memory.since ≡ true) (held ++ page ∷ []) (each-latch (λ l. is_watched l r.view.memory.since ≡ true) (claim_grant ∷ page_grants (held ++ page ∷ []))
            (λ l some. looked_on.seen.watched l (subst (λ (a : Session). 0 < holdings l a) (sym all-grants.session) some))).1;
        loaded = λ n. ap (is_loaded n) work-is ∙ (loaded-more n (record { page = page; before = load.image; changed = load.image }) p.work ∙ (ap (λ t. (page == n) || t) (can.holds.loaded n) ∙ sym (among-more held page n)));
        count = let a = ap length work-is in let b = long-more (record { page = page; before = load.image; changed = load.image }) p.work in let c = can.holds.count in let d = length-append held (page ∷ []) in omega arith;
        read = all-both (IsAsRead opening r.view.memory.seen) (λ w. 0 < holdings (w.page + 2) r.view.session) (IsHeldPage opening r) r.work (λ w a b. record { read = a; watched = looked_on.seen.watched (w.page + 2) b }) images now;
        known = looked_on.seen.known;
      };
      keeps = keeps;
      steady = pages-steady held can.holds.watched;
      went = went_both p q r (went_beside p q (beside_taken (page_grant page X) p q taken)) looked_on.seen.went;
      grants = grants ∙ taken.taken.grants;
    }

-- pages that are as they were
steady-none : (opening : ℕ → ℕ) (held : List ℕ) (p : PassState) → AreSteady opening held p p
steady-none opening [] p = tt
steady-none opening (n ∷ ns) p = (refl, steady-none opening ns p)

pub steady_both : (opening : ℕ → ℕ) (held more : List ℕ) (p q r : PassState) → AreSteady opening held p q → AreSteady opening (held ++ more) q r → AreSteady opening held p r
steady_both opening [] more p q r a b = tt
steady_both opening (n ∷ ns) more p q r a b = (b.0 ∙ a.0, steady_both opening ns more p q r a.1 b.1)

pub steady_at : (opening : ℕ → ℕ) (held : List ℕ) (p q : PassState) → AreSteady opening held p q → (page : ℕ) → is_listed held page ≡ true → pages_after opening q.view.memory.seen page ≡ pages_after opening p.view.memory.seen page
steady_at opening [] p q steady page is = cc
steady_at opening (n ∷ ns) p q steady page is = elim (cases_eq n page) [
  | inl e ↦ subst (λ k. pages_after opening q.view.memory.seen k ≡ pages_after opening p.view.memory.seen k) e steady.0
  | inr ne ↦ steady_at opening ns p q steady.1 page (ap (λ b. b || is_listed ns page) (sym (ne_eqb n page ne)) ∙ is)
]

-- one page after the other
pub more_none : (sizes : Sizes) (lawful : List Entry → Type 0) (opening : ℕ → ℕ) (held : List ℕ) (p : PassState) → HoldsClaimed sizes lawful opening held p → HasTakenMore sizes lawful opening held [] p p
more_none sizes lawful opening held p h = record {
  holds = subst (λ ps. HoldsClaimed sizes lawful opening ps p) (sym (append-nil held)) h;
  keeps = keeps_beside p p refl h.claimed;
  steady = steady-none opening held p;
  went = went_none p;
  s = refl;
  sx = refl;
  x = omega arith;
}

pub more_one : (sizes : Sizes) (lawful : List Entry → Type 0) (opening : ℕ → ℕ) (held : List ℕ) (page : ℕ) (p q : PassState) → HasTakenPage sizes lawful opening held page p q → HasTakenMore sizes lawful opening held (page ∷ []) p q
more_one sizes lawful opening held page p q t = record {
  holds = t.holds;
  keeps = t.keeps;
  steady = t.steady;
  went = t.went;
  s = ap (λ (g : Grants). g.s) t.grants;
  sx = ap (λ (g : Grants). g.sx) t.grants;
  x = ap (λ (g : Grants). g.x) t.grants;
}

pub more_both : (sizes : Sizes) (lawful : List Entry → Type 0) (opening : ℕ → ℕ) (held one two : List ℕ) (p q r : PassState) → HasTakenMore sizes lawful opening held one p q → HasTakenMore sizes lawful opening (held ++ one) two q r
    → HasTakenMore sizes lawful opening held (one ++ two) p r
more_both sizes lawful opening held one two p q r a b =
    let long = length-append one two in let x = a.x in let y = b.x in
    record {
      holds = subst (λ ps. HoldsClaimed sizes lawful opening ps r) (append_assoc held one two) b.holds;
      keeps = keeps_both p q r a.keeps b.keeps;
      steady = steady_both opening held one p q r a.steady b.steady;
      went = went_both p q r a.went b.went;
      s = b.s ∙ a.s;
      sx = b.sx ∙ a.sx;
      x = omega arith;
    }

-- the first of those that are to be taken may be
pub can_first : (sizes : Sizes) (lawful : List Entry → Type 0) (opening : ℕ → ℕ) (held : List ℕ) (page : ℕ) (more : List ℕ) (p : PassState) → WillTake sizes lawful opening held (page ∷ more) p
    → CanTakePage sizes lawful opening held page p × (page < sizes.pages)
can_first sizes lawful opening held page more p w =
    let o = once_here held page more sizes.pages w.once in
    (record { holds = w.holds; other = o.0; few = let f = w.few in let l = length-append held (page ∷ more) in omega arith }, o.1)

-- .. and then the rest is to be
pub will_rest : (sizes : Sizes) (lawful : List Entry → Type 0) (opening : ℕ → ℕ) (held one two : List ℕ) (p q : PassState) → WillTake sizes lawful opening held (one ++ two) p → HasTakenMore sizes lawful opening held one p q
    → WillTake sizes lawful opening (held ++ one) two q
will_rest sizes lawful opening held one two p q w t = record {
  holds = t.holds;
  once = subst (λ ps. AreOnce ps sizes.pages) (sym (append_assoc held one two)) w.once;
  few = let f = w.few in let e = ap length (append_assoc held one two) in omega arith;
}

-- the nodes of a path, by their places in it
module _ (sizes : Sizes) (lawful : List Entry → Type 0) (opening : ℕ → ℕ) (held front more path items : List ℕ) (leaf at : ℕ) (p q : PassState) (is : path ≡ front ++ leaf ∷ []) (same : items ≡ path) (upper : at + 1 < length items)
    (will : WillTake sizes lawful opening held (front ++ more) p) (taken : HasTakenMore sizes lawful opening held (take at front) p q) where
  within : at < length front
  within = let a = ap length same in let b = ap length is in let c = length-append front (leaf ∷ []) in omega arith

  page-is : get_or items at 0 ≡ get_or front at 0
  page-is = ap (λ ps. get_or ps at 0) (same ∙ is) ∙ get_or_append_left front (leaf ∷ []) 0 at within

  one-more : take (at + 1) front ≡ take at front ++ get_or items at 0 ∷ []
  one-more = (take_at_read front at 0 within).1 ∙ ap (λ n. take at front ++ n ∷ []) (sym page-is)

  whole : take at front ++ (get_or items at 0 ∷ drop (at + 1) front ++ more) ≡ front ++ more
  whole = sym (append_assoc (take at front) (get_or items at 0 ∷ drop (at + 1) front) more)
      ∙ ap (λ ps. ps ++ more) (sym (append_assoc (take at front) (get_or items at 0 ∷ []) (drop (at + 1) front)) ∙ (ap (λ ps. ps ++ drop (at + 1) front) (sym one-more) ∙ take-append-drop (at + 1) front))

  rest : WillTake sizes lawful opening (held ++ take at front) (get_or items at 0 ∷ drop (at + 1) front ++ more) q
  rest = will_rest sizes lawful opening held (take at front) (get_or items at 0 ∷ drop (at + 1) front ++ more) p q (subst (λ ps. WillTake sizes lawful opening held ps p) (sym whole) will) taken

  pub node_can : CanTakePage sizes lawful opening (held ++ take at front) (get_or items at 0) q × (get_or items at 0 < sizes.pages)
  node_can = can_first sizes lawful opening (held ++ take at front) (get_or items at 0) (drop (at + 1) front ++ more) q rest

  pub node_room : total q.view.grants ≤ total p.view.grants + 24
  node_room = let f = rest.few in let k = length-append held (take at front) in let l = length-append (held ++ take at front) (get_or items at 0 ∷ drop (at + 1) front ++ more) in let a = taken.s in let b = taken.sx in let c = taken.x in omega arith

  pub node_step : (r : PassState) → HasTakenPage sizes lawful opening (held ++ take at front) (get_or items at 0) q r → HasTakenMore sizes lawful opening held (take (at + 1) front) p r
  node_step r k = subst (λ ps. HasTakenMore sizes lawful opening held ps p r) (sym one-more)
      (more_both sizes lawful opening held (take at front) (get_or items at 0 ∷ []) p q r taken (more_one sizes lawful opening (held ++ take at front) (get_or items at 0) q r k))

pub take_whole : (front : List ℕ) (at : ℕ) → at ≡ length front → take at front ≡ front
take_whole front at e = ap (take at) (sym (append-nil front)) ∙ take_at front [] at (sym e)

pub take_nothing : (front : List ℕ) → take 0 front ≡ []
take_nothing front = take_at [] front 0 refl

-- a page that is held, as it is after all seen
pub record IsFound (opening : ℕ → ℕ) (p : PassState) (page : ℕ) (ws : List WorkPage) : Type 0 where
  pub image : List ℕ
  pub there : changed_of page ws ≡ Some image
  pub size : length image ≡ PAGE_WORDS
  pub is_page : IsPageAfter opening p.view.memory.seen page image

pub found : (opening : ℕ → ℕ) (p : PassState) (page : ℕ) (ws : List WorkPage) → All (IsHeldPage opening p) ws → is_loaded page ws ≡ true → IsFound opening p page ws
found opening p page [] all is = cc
found opening p page (w ∷ ws) all is = elim (cases_eq w.page page) [
  | inl e ↦ let h = All-head (IsHeldPage opening p) w ws all in record {
    image = w.changed;
    there = ap (λ b. cond b (Some w.changed) (changed_of page ws)) (eq-eqb w.page page e);
    size = ap length h.read.unchanged ∙ h.read.size;
    is_page = subst (λ (x : ℕ × List ℕ). IsPageAfter opening p.view.memory.seen x.0 x.1) (λ j. (e j, sym h.read.unchanged j)) h.read.is_page;
  }
  | inr ne ↦
      let differ = ne_eqb w.page page ne in
      let r = found opening p page ws (All-tail (IsHeldPage opening p) w ws all) (ap (λ b. b || is_loaded page ws) (sym differ) ∙ is) in
      record { image = r.image; there = ap (λ b. cond b (Some w.changed) (changed_of page ws)) differ ∙ r.there; size = r.size; is_page = r.is_page }
]

-- .. and its link to the right
pub record IsRightLink (opening : ℕ → ℕ) (p : PassState) (page right : ℕ) : Type 0 where
  pub image : List ℕ
  pub there : changed_of page p.work ≡ Some image
  pub formed : IsFormed image
  pub right_is : next_of image ≡ right

pub right_link : (sizes : Sizes) (lawful : List Entry → Type 0) (opening : ℕ → ℕ) (held : List ℕ) (page right : ℕ) (p : PassState) → HoldsClaimed sizes lawful opening held p → is_listed held page ≡ true
    → (pages_after opening p.view.memory.seen page).kind ≡ Tree → (pages_after opening p.view.memory.seen page).next ≡ right → IsRightLink opening p page right
right_link sizes lawful opening held page right p h among kind next =
    let f = found opening p page p.work h.read (h.loaded page ∙ among) in
    let is : image_of (memory_after opening p.view.memory.seen) page ≡ f.image = image_of-list (memory_after opening p.view.memory.seen) page f.image f.size (λ index lt. sym (f.is_page index lt)) in
    let t = tree_image (memory_after opening p.view.memory.seen) page kind in
    record { image = f.image; there = f.there; formed = formed-tree f.image (subst IsTreePage is t.tree); right_is = sym (ap next_of is) ∙ (sym t.next ∙ next) }

pub among_last : (held : List ℕ) (page : ℕ) → is_listed (held ++ page ∷ []) page ≡ true
among_last held page = among-more held page page ∙ ap (λ b. b || is_listed held page) (eq-eqb page page refl)

-- the page of a link: none, or one
pub beside_none : (page : ℕ) → page ≡ 0 → beside page ≡ []
beside_none page z = ap (λ b. cond b [] (page ∷ [])) (eq-eqb page 0 z)

pub beside_one : (page : ℕ) → page ≢ 0 → beside page ≡ page ∷ []
beside_one page ne = ap (λ b. cond b [] (page ∷ [])) (ne_eqb page 0 ne)

pub beside_few : (page : ℕ) → length (beside page) ≤ 1
beside_few page = by_test (page == 0)
  where
    by_test : (b : Bool) → length (cond b [] (page ∷ [])) ≤ 1
    by_test true = omega arith
    by_test false = omega arith
