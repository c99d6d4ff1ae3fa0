-- The pages of a work set, when the latch of one of them is given up.
use Rattle.std.proofs.Common.{◌≡◌, ℕ, ◌+◌, ◌<◌, true, false, cond, not, List, [], ◌∷◌, Some, None, refl, sym, ap, ◌∙◌, subst, arith, ltb-true, lt-ltb, eq-eqb, ne_eqb}
use Rattle.std.specs.Prelude.{◌==◌, ◌||◌, nat_lt, if◌then◌else◌}
use Rattle.std.specs.List.{All, filter}
use Rattle.std.proofs.lemmas.List.Elements.{filter_agree}
use Rattle.ib_levels.specs.declared.level.Mode.{Mode}
use Rattle.ib_levels.specs.Holding.{on}
use Rattle.ib_levels.proofs.Counts.{by_equal}
use Rattle.ib_core.specs.declared.session.Session.{Session}
use Rattle.ib_core.specs.Sessions.{holdings}
use Rattle.ib_page.specs.Work.{WorkPage, PagesAscend, changed_of, without_page}
use Rattle.ib_mtr.specs.Mtr.{held_after, pages_left}
use Rattle.ib_mtr.proofs.Grants.{after-away}
use Rattle.ib_mtr.proofs.Lists.{All-filter_by, filter_all, or_true, or_false}

-- pages from one on are others than a lower one
above_stay : (low page : ℕ) (ps : List WorkPage) → PagesAscend low ps → page < low → filter (λ w. not (w.page == page)) ps ≡ ps
above_stay low page [] ascends below = refl
above_stay low page (p ∷ ps) ascends below =
    ap (λ b. cond (not b) (p ∷ filter (λ w. not (w.page == page)) ps) (filter (λ w. not (w.page == page)) ps)) (ne_eqb p.page page (λ e. let a = ascends.0 in omega arith))
    ∙ ap (λ qs. p ∷ qs) (above_stay (p.page + 1) page ps ascends.1 (let a = ascends.0 in omega arith))

-- a page taken out is a page left out
pub without_by_filter : (low page : ℕ) (ps : List WorkPage) → PagesAscend low ps → without_page page ps ≡ filter (λ w. not (w.page == page)) ps
without_by_filter low page [] ascends = refl
without_by_filter low page (p ∷ ps) ascends =
    by_equal (λ b. (if b then ps else p ∷ without_page page ps) ≡ cond (not b) (p ∷ filter (λ w. not (w.page == page)) ps) (filter (λ w. not (w.page == page)) ps)) p.page page
    (λ e. sym (above_stay (p.page + 1) page ps ascends.1 (omega arith)))
    (λ _. ap (λ qs. p ∷ qs) (without_by_filter (p.page + 1) page ps ascends.1))

-- where the page is not there, none is left out
pub none_by_filter : (page : ℕ) (ps : List WorkPage) → changed_of page ps ≡ None → filter (λ w. not (w.page == page)) ps ≡ ps
none_by_filter page [] none = refl
none_by_filter page (p ∷ ps) none =
    by_equal (λ b. (if b then Some p.changed else changed_of page ps) ≡ None → cond (not b) (p ∷ filter (λ w. not (w.page == page)) ps) (filter (λ w. not (w.page == page)) ps) ≡ p ∷ ps) p.page page
    (λ e is. absurd (cc)) (λ _ is. ap (λ qs. p ∷ qs) (none_by_filter page ps is)) none

-- each page that is left is one whose latch is held
pub pages_held : (mode : Mode) (l : ℕ) (a b : Session) (pages : List WorkPage) → b.held ≡ held_after mode l a → All (λ w. 0 < holdings (w.page + 2) a) pages
    → All (λ w. 0 < holdings (w.page + 2) b) (pages_left l b pages)
pages_held mode l a b pages is all = All-filter_by (λ w. 0 < holdings (w.page + 2) a) (λ w. 0 < holdings (w.page + 2) b) (λ w. not (w.page + 2 == l) || nat_lt 0 (holdings l b)) pages
    (λ w passes has. by_equal (λ t. (not t || nat_lt 0 (holdings l b)) ≡ true → 0 < holdings (w.page + 2) b) (w.page + 2) l
    (λ e passes. subst (λ (k : ℕ). 0 < holdings k b) (sym e) (ltb-true 0 (holdings l b) passes))
    (λ n _. let same = after-away mode l (w.page + 2) (λ h. 1) a (λ e. n (sym e)) in let h = ap (on (w.page + 2) (λ h. 1)) is in omega arith) passes)
    all

-- a latch that is still held leaves all pages, and so does one that is no page's
pub left_held : (l : ℕ) (a : Session) (pages : List WorkPage) → 0 < holdings l a → pages_left l a pages ≡ pages
left_held l a pages has = filter_all _ pages (λ w. or_true (not (w.page + 2 == l)) _ (lt-ltb 0 (holdings l a) has))

pub left_low : (l : ℕ) (a : Session) (pages : List WorkPage) → l < 2 → pages_left l a pages ≡ pages
left_low l a pages low = filter_all _ pages (λ w. ap (λ b. not b || nat_lt 0 (holdings l a)) (ne_eqb (w.page + 2) l (λ e. omega arith)))

-- the page whose latch this is, is left out where nothing is held there
pub left_out : (l page : ℕ) (a : Session) (pages : List WorkPage) → holdings l a ≡ 0 → l ≡ page + 2 → filter (λ w. not (w.page == page)) pages ≡ pages_left l a pages
left_out l page a pages none is = filter_agree (λ w. not (w.page == page)) (λ w. not (w.page + 2 == l) || nat_lt 0 (holdings l a)) (λ w. sym (or_false (not (w.page + 2 == l)) _ (ltb-none none) ∙ ap not (same_test w))) pages
  where
    ltb-none : holdings l a ≡ 0 → nat_lt 0 (holdings l a) ≡ false
    ltb-none none = ap (nat_lt 0) none

    same_test : (w : WorkPage) → (w.page + 2 == l) ≡ (w.page == page)
    same_test w = by_equal (λ b. (w.page + 2 == l) ≡ b) w.page page (λ e. eq-eqb (w.page + 2) l (omega arith)) (λ n. ne_eqb (w.page + 2) l (λ e. n (omega arith)))
