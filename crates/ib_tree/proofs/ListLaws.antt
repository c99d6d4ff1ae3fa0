-- Lists of pages: those that are written, those that writes touch, and all pages.
use Rattle.std.specs.List.{AllByRecursion, range_with_len}
use Rattle.std.proofs.Common.{◌≡◌, ℕ, zero, suc, ◌+◌, ◌*◌, ◌<◌, ◌≤◌, inl, inr, Bool, true, false, cond, List, [], ◌∷◌, Option, Some, None, refl, sym, ap, subst, ◌∙◌, arith, eqb, ltb, leb, ◌≢◌}
use Rattle.std.specs.Prelude.{◌||◌, ◌&&◌}
use Rattle.std.proofs.lemmas.Bool.{cases_lt, cases_eq, eq-eqb, ne_eqb, lt-ltb, le-leb, lt-leb}
use Rattle.std.proofs.lemmas.Bool.Decides.{nat_tests}
use Rattle.ib_map.specs.Writes.{page_at, touches, PlacesRise}
use Rattle.ib_map.specs.declared.TheConstants.{PAGE_WORDS}
use Rattle.ib_map.specs.declared.write.Write.{Write}
use Rattle.ib_logrec.specs.declared.entry.Entry.{Entry}
use Rattle.ib_walk.specs.Walk.{Visit}
use Rattle.ib_validate.specs.Patch.{on_written}
use Rattle.ib_validate.specs.PatchTest.{Position, Positions, visit_of, at_page, positions_over, list_over, IsListed}
use Rattle.ib_tree.specs.PageLists.{is_listed, AreOnce, touched_pages, pages_below, is_below}
use Rattle.ib_tree.specs.Tests.{writes_page}

positions_over-empty : (f : ℕ → Visit → ℕ) (root : ℕ) (t : Positions) (n : ℕ) → positions_over (on_written (λ p. false) f) root t n ≡ 0
positions_over-empty f root t zero = refl
positions_over-empty f root t (suc n) = let r = positions_over-empty f root t n in let a = one (t n) in omega arith
  where
    one : (o : Option Position) → at_page (on_written (λ p. false) f) root n o ≡ 0
    one None = refl
    one (Some d) = elim (eqb d.tree root) as (λ c. cond {A = ℕ} c 0 0 ≡ 0) [ true ↦ refl | false ↦ refl ]

-- one page more is written
positions_over-more : (f : ℕ → Visit → ℕ) (root : ℕ) (t : Positions) (w : ℕ → Bool) (q : ℕ) → w q ≡ false → (n : ℕ)
    → (q < n → positions_over (on_written (λ p. eqb q p || w p) f) root t n ≡ at_page f root q (t q) + positions_over (on_written w f) root t n)
    × (n ≤ q → positions_over (on_written (λ p. eqb q p || w p) f) root t n ≡ positions_over (on_written w f) root t n)
positions_over-more f root t w q none zero = ((λ l. absurd (omega arith)), (λ l. refl))
positions_over-more f root t w q none (suc n) =
    let r = positions_over-more f root t w q none n in (
      (λ l. elim (cases_eq q n) [
        | inl e ↦ let a = r.1 (omega arith) in let b = here n e (t n) in let c = ap (λ k. at_page f root k (t k)) e in omega arith
        | inr ne ↦ let a = r.0 (omega (arith, ne)) in let b = other n ne (t n) in omega arith
      ]),
      (λ l. let a = r.1 (omega arith) in let b = other n (λ e. omega arith) (t n) in omega arith),
    )
  where
    here : (n : ℕ) → q ≡ n → (o : Option Position) → at_page (on_written (λ p. eqb q p || w p) f) root n o ≡ at_page f root n o + at_page (on_written w f) root n o
    here n e None = refl
    here n e (Some d) =
        let a = eq-eqb q n e in let b : w n ≡ false = ap w (sym e) ∙ none in
        rw (a, b) (elim (eqb d.tree root) as (λ c. cond c (f d.height (visit_of n d)) 0 ≡ cond c (f d.height (visit_of n d)) 0 + cond {A = ℕ} c 0 0) [ true ↦ omega arith | false ↦ refl ])

    other : (n : ℕ) → q ≢ n → (o : Option Position) → at_page (on_written (λ p. eqb q p || w p) f) root n o ≡ at_page (on_written w f) root n o
    other n ne None = refl
    other n ne (Some d) = let a : eqb q n ≡ false = grind (arith, nat_tests) in rw a refl

pub list_over-once : (f : ℕ → Visit → ℕ) (root : ℕ) (t : Positions) (ps : List ℕ) (n : ℕ) → AreOnce ps n → positions_over (on_written (is_listed ps) f) root t n ≡ list_over f root ps t
list_over-once f root t [] n o = positions_over-empty f root t n
list_over-once f root t (q ∷ qs) n o = let r = list_over-once f root t qs n o.2 in let a = (positions_over-more f root t (is_listed qs) q o.1 n).0 o.0 in omega arith

pub is_listed-self : (ps : List ℕ) → AllByRecursion (λ p. is_listed ps p ≡ true) ps
is_listed-self ps = by ps (λ p h. h)
  where
    by : (qs : List ℕ) → ((p : ℕ) → is_listed qs p ≡ true → is_listed ps p ≡ true) → AllByRecursion (λ p. is_listed ps p ≡ true) qs
    by [] h = tt
    by (q ∷ qs) h = (h q (let e = eq-eqb q q refl in rw e refl), by qs (λ p e. h p (later (eqb q p) (is_listed qs p) e)))
      where
        later : (a b : Bool) → b ≡ true → (a || b) ≡ true
        later true b e = refl
        later false b e = e

pub IsListed-once : (ps : List ℕ) (n : ℕ) → AreOnce ps n → IsListed (is_listed ps) ps n
IsListed-once ps n o = record { mine = is_listed-self ps; all = λ f root t. list_over-once f root t ps n o }

pub IsListed-among : (written : ℕ → Bool) (ps : List ℕ) (n : ℕ) → AreOnce ps n → ((p : ℕ) → written p ≡ is_listed ps p) → IsListed written ps n
IsListed-among written ps n once same = subst (λ w. IsListed w ps n) (λ i p. sym (same p) i) (IsListed-once ps n once)

-- the pages that writes touch
pub is_listed-touched : (ws : List Write) (page : ℕ) → is_listed (touched_pages ws) page ≡ touches page ws
is_listed-touched [] page = refl
is_listed-touched (w ∷ ws) page =
    let r = is_listed-touched ws page in
    elim (touches (page_at w.place) ws) as (λ b. touches (page_at w.place) ws ≡ b → is_listed (cond b (touched_pages ws) (page_at w.place ∷ touched_pages ws)) page ≡ (eqb (page_at w.place) page || touches page ws)) [
      | false ↦ λ e. ap (λ b. eqb (page_at w.place) page || b) r
      | true ↦ λ e. elim (cases_eq (page_at w.place) page) [
        | inl is ↦ let t : touches page ws ≡ true = ap (λ p. touches p ws) (sym is) ∙ e in let y = eq-eqb (page_at w.place) page is in rw y (r ∙ t)
        | inr ne ↦ let n = ne_eqb (page_at w.place) page ne in rw n r
      ]
    ] refl

pub AreOnce-touched : (pages low : ℕ) (ws : List Write) → PlacesRise low ws (pages * PAGE_WORDS) → AreOnce (touched_pages ws) pages
AreOnce-touched pages low [] rise = tt
AreOnce-touched pages low (w ∷ ws) rise =
    let r = AreOnce-touched pages (w.place + 1) ws rise.2 in
    elim (touches (page_at w.place) ws) as (λ b. touches (page_at w.place) ws ≡ b → AreOnce (cond b (touched_pages ws) (page_at w.place ∷ touched_pages ws)) pages) [
      | true ↦ λ e. r
      | false ↦ λ e. (let a = rise.1 in omega arith, is_listed-touched ws (page_at w.place) ∙ e, r)
    ] refl

-- the pages that an entry in the space writes are those that its writes touch
pub IsListed-touched : (pages : ℕ) (e : Entry) → PlacesRise 0 e.writes (pages * PAGE_WORDS) → IsListed (writes_page e) (touched_pages e.writes) pages
IsListed-touched pages e rise =
    IsListed-among (writes_page e) (touched_pages e.writes) pages (AreOnce-touched pages 0 e.writes rise) (λ p. sym (is_listed-touched e.writes p))

-- all pages
is_listed-range : (low n p : ℕ) → is_listed (range_with_len low n) p ≡ (leb low p && ltb p (low + n))
is_listed-range low zero p = grind (arith, nat_tests)
is_listed-range low (suc n) p =
    let r = is_listed-range (low + 1) n p in
    elim (cases_eq low p) [
      | inl is ↦ let y = eq-eqb low p is in let a = le-leb low p (omega arith) in let b = lt-ltb p (low + suc n) (omega arith) in rw (y, a, b) refl
      | inr ne ↦ let y = ne_eqb low p ne in rw y (r ∙ same ne)
    ]
  where
    same : low ≢ p → (leb (low + 1) p && ltb p (low + 1 + n)) ≡ (leb low p && ltb p (low + suc n))
    same ne = elim (cases_lt low p) [
      | inl lt ↦ let a = le-leb (low + 1) p (omega arith) in let b = le-leb low p (omega arith) in rw (a, b) (ap (ltb p) (omega arith))
      | inr ge ↦ let a = lt-leb (low + 1) p (omega arith) in let b = lt-leb low p (omega (arith, ne)) in rw (a, b) refl
    ]

AreOnce-range : (low n : ℕ) → AreOnce (range_with_len low n) (low + n)
AreOnce-range low zero = tt
AreOnce-range low (suc n) = (
  omega arith,
  is_listed-range (low + 1) n low ∙ (let a = lt-leb (low + 1) low (omega arith) in rw a refl),
  subst (AreOnce (range_with_len (low + 1) n)) (omega arith) (AreOnce-range (low + 1) n),
)

pub is_listed-below : (n p : ℕ) → is_listed (pages_below n) p ≡ is_below n p
is_listed-below n p = is_listed-range 0 n p ∙ (let a = le-leb 0 p (omega arith) in let b : 0 + n ≡ n = omega arith in rw (a, b) refl)

pub IsListed-below : (n : ℕ) → IsListed (is_below n) (pages_below n) n
IsListed-below n = IsListed-among (is_below n) (pages_below n) n (subst (AreOnce (pages_below n)) (omega arith) (AreOnce-range 0 n)) (λ p. sym (is_listed-below n p))
