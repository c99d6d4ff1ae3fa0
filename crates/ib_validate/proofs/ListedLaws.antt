-- The list of the written pages: one more page, how many there are, and that each written page is there.
use Rattle.std.proofs.Common.{◌≡◌, ◌≢◌, ℕ, zero, suc, ◌+◌, ◌<◌, ◌≤◌, Bool, true, false, cond, List, [], ◌∷◌, ◌++◌, length, get_or, take, drop, Option, Some, None, refl, sym, ap, subst, ◌∙◌, arith, eqb, inl, inr, All}
use Rattle.std.specs.List.{AllByRecursion}
use Rattle.std.proofs.Math.Seq.{take-append_seam}
use Rattle.std.proofs.lemmas.Bool.{cases_eq, cases_lt, cases_Bool, cond-true, cond-false}
use Rattle.ib_map.specs.declared.TheConstants.{LEAST_PAGES, MOST_PAGES}
use Rattle.ib_page.specs.Memory.{image_at}
use Rattle.ib_walk.specs.Walk.{Visit, counts_page}
use Rattle.ib_validate.specs.Patch.{on_written}
use Rattle.ib_validate.specs.PatchTest.{Position, Positions, visit_of, at_page, positions_over, list_over, IsListed}
use Rattle.ib_validate.specs.Positions.{marks_of}
use Rattle.ib_validate.specs.TreeMemory.{TreeMemory, IsTreeMemory}
use Rattle.ib_walk.proofs.ChoiceLaws.{cond-eq, cond-ne}
use Rattle.ib_validate.proofs.PositionLaws.{marks_of-within, marks_of-past}

at_page-marked : (w : ℕ → Bool) (f : ℕ → Visit → ℕ) (root p : ℕ) (o : Option Position) → w p ≡ true → at_page (on_written w f) root p o ≡ at_page f root p o
at_page-marked w f root p None e = refl
at_page-marked w f root p (Some d) e = ap (λ x. cond (eqb d.tree root) x 0) (cond-true (w p) (f d.height (visit_of p d)) 0 e)

at_page-unmarked : (w : ℕ → Bool) (f : ℕ → Visit → ℕ) (root p : ℕ) (o : Option Position) → w p ≡ false → at_page (on_written w f) root p o ≡ 0
at_page-unmarked w f root p None e = refl
at_page-unmarked w f root p (Some d) e = ap (λ x. cond (eqb d.tree root) x 0) (cond-false (w p) (f d.height (visit_of p d)) 0 e) ∙ zeros (eqb d.tree root)
  where
    zeros : (b : Bool) → cond {A = ℕ} b 0 0 ≡ 0
    zeros true = refl
    zeros false = refl

at_page-same : (w v : ℕ → Bool) (f : ℕ → Visit → ℕ) (root p : ℕ) (o : Option Position) → w p ≡ v p → at_page (on_written w f) root p o ≡ at_page (on_written v f) root p o
at_page-same w v f root p None e = refl
at_page-same w v f root p (Some d) e = ap (λ b. cond (eqb d.tree root) (cond b (f d.height (visit_of p d)) 0) 0) e

-- no page is written, and none is listed
listed-none : (w : ℕ → Bool) (n : ℕ) → ((p : ℕ) → w p ≡ false) → IsListed w [] n
listed-none w n none = record { mine = tt; all = λ f root t. zeros f root t n }
  where
    zeros : (f : ℕ → Visit → ℕ) (root : ℕ) (t : Positions) (k : ℕ) → positions_over (on_written w f) root t k ≡ 0
    zeros f root t zero = refl
    zeros f root t (suc k) = let a = at_page-unmarked w f root k (t k) (none k) in let r = zeros f root t k in omega arith

module _ (w v : ℕ → Bool) (p : ℕ) (others : (q : ℕ) → q ≢ p → v q ≡ w q) (here : v p ≡ true) (fresh : w p ≡ false) where
  before-page : (f : ℕ → Visit → ℕ) (root : ℕ) (t : Positions) (k : ℕ) → k ≤ p → positions_over (on_written v f) root t k ≡ positions_over (on_written w f) root t k
  before-page f root t zero le = refl
  before-page f root t (suc k) le =
      let a = at_page-same v w f root k (t k) (others k (λ e. omega arith)) in let r = before-page f root t k (omega arith) in omega arith

  one-more : (f : ℕ → Visit → ℕ) (root : ℕ) (t : Positions) (k : ℕ) → p < k → positions_over (on_written v f) root t k ≡ positions_over (on_written w f) root t k + at_page f root p (t p)
  one-more f root t zero lt = absurd (omega arith)
  one-more f root t (suc k) lt = elim (cases_eq k p) [
    | inl e ↦
        let r = before-page f root t k (omega arith) in
        let a = ap (λ (q : ℕ). at_page (on_written v f) root q (t q)) e ∙ at_page-marked v f root p (t p) here in
        let b = ap (λ (q : ℕ). at_page (on_written w f) root q (t q)) e ∙ at_page-unmarked w f root p (t p) fresh in omega arith
    | inr ne ↦
        let r = one-more f root t k (omega (arith, ne)) in
        let a = at_page-same v w f root k (t k) (others k ne) in omega arith
  ]

  list_over-push : (f : ℕ → Visit → ℕ) (root : ℕ) (ps : List ℕ) (t : Positions) → list_over f root (ps ++ p ∷ []) t ≡ list_over f root ps t + at_page f root p (t p)
  list_over-push f root [] t = omega arith
  list_over-push f root (q ∷ ps) t = let r = list_over-push f root ps t in omega arith

  still : (q : ℕ) → w q ≡ true → v q ≡ true
  still q e = elim (cases_eq q p) [ inl s ↦ ap v s ∙ here | inr ne ↦ others q ne ∙ e ]

  mine-push : (ps : List ℕ) → AllByRecursion (λ q. w q ≡ true) ps → AllByRecursion (λ q. v q ≡ true) (ps ++ p ∷ [])
  mine-push [] h = (here, tt)
  mine-push (q ∷ ps) h = (still q h.0, mine-push ps h.1)

  -- a further page
  pub listed-push : (ps : List ℕ) (n : ℕ) → p < n → IsListed w ps n → IsListed v (ps ++ p ∷ []) n
  listed-push ps n lt h = record {
    mine = mine-push ps h.mine;
    all = λ f root t. let a = one-more f root t n lt in let b = h.all f root t in let c = list_over-push f root ps t in omega arith;
  }

-- every page is met, in one tree
abbrev met : Positions
met n = Some (record { tree = 1; height = 0; low = 0; high = 0 })

list_over-length : (ps : List ℕ) → list_over (λ h v. 1) 1 ps met ≡ length ps
list_over-length [] = refl
list_over-length (p ∷ ps) = let r = list_over-length ps in omega arith

marked-few : (w : ℕ → Bool) (k : ℕ) → positions_over (on_written w (λ h v. 1)) 1 met k ≤ k
marked-few w zero = omega arith
marked-few w (suc k) = let r = marked-few w k in elim (cases_Bool (w k)) [
  | inl e ↦ let a = at_page-marked w (λ h v. 1) 1 k (met k) e in omega arith
  | inr e ↦ let a = at_page-unmarked w (λ h v. 1) 1 k (met k) e in omega arith
]

marked-fewer : (w : ℕ → Bool) (p k : ℕ) → w p ≡ false → p < k → positions_over (on_written w (λ h v. 1)) 1 met k < k
marked-fewer w p zero e lt = absurd (omega arith)
marked-fewer w p (suc k) e lt = elim (cases_eq k p) [
  | inl s ↦ let a = at_page-unmarked w (λ h v. 1) 1 k (met k) (ap w s ∙ e) in let r = marked-few w k in omega arith
  | inr ne ↦
      let r = marked-fewer w p k e (omega (arith, ne)) in
      elim (cases_Bool (w k)) [
        | inl m ↦ let a = at_page-marked w (λ h v. 1) 1 k (met k) m in omega arith
        | inr m ↦ let a = at_page-unmarked w (λ h v. 1) 1 k (met k) m in omega arith
      ]
]

-- where a page is not listed, there is room for it
pub listed-room : (w : ℕ → Bool) (ps : List ℕ) (n p : ℕ) → IsListed w ps n → w p ≡ false → p < n → length ps < n
listed-room w ps n p h e lt =
    let a = h.all (λ h v. 1) 1 met in let b = list_over-length ps in let c = marked-fewer w p n e lt in omega arith

list_over-other : (p : ℕ) (ps : List ℕ) → All (λ q. q ≢ p) ps → list_over (counts_page p) 1 ps met ≡ 0
list_over-other p [] h = refl
list_over-other p (q ∷ ps) h =
    let r = list_over-other p ps (λ k d lt. h (suc k) d (omega arith)) in let a = cond-ne {X = ℕ} q p 1 0 (h 0 q (omega arith)) in omega arith

marked-counts : (w : ℕ → Bool) (p k : ℕ) → w p ≡ true → p < k → 0 < positions_over (on_written w (counts_page p)) 1 met k
marked-counts w p zero e lt = absurd (omega arith)
marked-counts w p (suc k) e lt = elim (cases_eq k p) [
  | inl s ↦
      let a = ap (λ (q : ℕ). at_page (on_written w (counts_page p)) 1 q (met q)) s ∙ at_page-marked w (counts_page p) 1 p (met p) e in
      let b = cond-eq {X = ℕ} p p 1 0 refl in omega arith
  | inr ne ↦ let r = marked-counts w p k e (omega (arith, ne)) in omega arith
]

-- a page that is not listed is not written
pub listed-else : (w : ℕ → Bool) (ps : List ℕ) (n p : ℕ) → IsListed w ps n → p < n → All (λ q. q ≢ p) ps → w p ≡ false
listed-else w ps n p h lt other = elim (cases_Bool (w p)) [
  | inr e ↦ e
  | inl e ↦ absurd (let a = h.all (counts_page p) 1 met in let b = list_over-other p ps other in let c = marked-counts w p n e lt in omega arith)
]

-- what holds of the listed pages holds of each written page
pub listed-each : (w : ℕ → Bool) (ps : List ℕ) (n p : ℕ) (P : ℕ → Type 0) → IsListed w ps n → p < n → w p ≡ true → All P ps → P p
listed-each w ps n p P h lt e all = find ps all (λ none. let f = listed-else w ps n p h lt none in cc)
  where
    find : (qs : List ℕ) → All P qs → (All (λ q. q ≢ p) qs → ⊥) → P p
    find [] all never = absurd (never (λ k d l. absurd (omega arith)))
    find (q ∷ qs) all never = elim (cases_eq q p) [
      | inl s ↦ subst P s (all 0 q (omega arith))
      | inr ne ↦ find qs (λ k d l. all (suc k) d (omega arith)) (λ none. never (more ne none))
    ]
      where
        more : q ≢ p → All (λ r. r ≢ p) qs → All (λ r. r ≢ p) (q ∷ qs)
        more ne none zero d l = ne
        more ne none (suc k) d l = none k d (omega arith)

-- a listed page is written, so it is there
pub listed-mine : (w : ℕ → Bool) (ps : List ℕ) → AllByRecursion (λ p. w p ≡ true) ps → All (λ p. w p ≡ true) ps
listed-mine w [] h k d lt = absurd (omega arith)
listed-mine w (p ∷ ps) h zero d lt = h.0
listed-mine w (p ∷ ps) h (suc k) d lt = listed-mine w ps h.1 k d (omega arith)

-- the listed pages are there
pub listed-within : (t : TreeMemory) → IsTreeMemory t → (ps : List ℕ) (n : ℕ) → ps ≡ t.pages → n ≡ length t.before → All (λ p. p < n) ps
listed-within t kept ps n is size = subst (λ (qs : List ℕ). All (λ p. p < n) qs) (sym is) (λ k d lt.
    let marked = listed-mine (marks_of t.written) t.pages kept.listed.mine k d lt in
    let within = marks_of-within t.written (get_or t.pages k d) marked in let e = kept.written in omega arith)

-- a page that is not listed, there or not, has no mark
pub unlisted : (t : TreeMemory) → IsTreeMemory t → (page : ℕ) → All (λ p. p ≢ page) t.pages → marks_of t.written page ≡ false
unlisted t kept page none = elim (cases_lt page (length t.before)) [
  | inl lt ↦ listed-else (marks_of t.written) t.pages (length t.before) page kept.listed lt none
  | inr past ↦ marks_of-past t.written page (let size = kept.written in omega arith)
]

-- what is a memory with nothing under way
pub settled-memory : (t : TreeMemory) → t.after ≡ t.before → length t.met_before ≡ length t.before → length t.met_after ≡ length t.before → length t.written ≡ length t.before
    → LEAST_PAGES ≤ length t.before → length t.before ≤ MOST_PAGES → ((page : ℕ) → marks_of t.written page ≡ false) → t.pages ≡ [] → IsTreeMemory t
settled-memory t images old now written some few none pages = record {
  after = ap length images;
  met_before = old;
  met_after = now;
  written = written;
  some = some;
  few = few;
  same = λ page w. ap (λ (m : List (List ℕ)). image_at m page) images;
  listed = subst (λ (ps : List ℕ). IsListed (marks_of t.written) ps (length t.before)) (sym pages) (listed-none (marks_of t.written) (length t.before) none);
}

-- what was written to a part that was lent is there
pub written-back : {X : Type 0} (xs ys : List X) (n : ℕ) → length xs ≡ n → take n (xs ++ drop (length xs) ys) ≡ xs
written-back xs ys n e = ap (λ k. take k (xs ++ drop (length xs) ys)) (sym e) ∙ take-append_seam xs (drop (length xs) ys)
