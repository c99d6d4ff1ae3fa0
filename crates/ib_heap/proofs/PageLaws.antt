-- The limits of a page, tested.
use Rattle.std.proofs.Common.{◌≡◌, ℕ, zero, suc, ◌+◌, ◌<◌, ◌≤◌, ◌^◌, ◌⊎◌, [], ◌∷◌, length, refl, arith, leb, ltb, inl, inr}
use Rattle.std.specs.Bool.{Decides}
use Rattle.std.proofs.lemmas.Bool.{leb-true, le-leb, ltb-true, lt-ltb}
use Rattle.std.proofs.lemmas.Bool.Decides.{Decides-and, Decides-or, Decides-like, Decides-eqb}
use Rattle.ib_map.specs.Keys.{rank, end_rank}
use Rattle.ib_map.specs.Pairs.{Pairs, Rises}
use Rattle.ib_heap.specs.declared.TheConstants.{MOST_LEVEL, MOST_RECORDS}
use Rattle.ib_heap.specs.Page.{Page, IsPage, rises, is_page}

pub Decides-leb : (a b : ℕ) → Decides (leb a b) (a ≤ b)
Decides-leb a b = (leb-true a b, le-leb a b)

pub Decides-ltb : (a b : ℕ) → Decides (ltb a b) (a < b)
Decides-ltb a b = (ltb-true a b, lt-ltb a b)

pub rises-Decides : (low : ℕ) (xs : Pairs) (high : ℕ) → Decides (rises low xs high) (Rises low xs high)
rises-Decides low [] high = Decides-leb low high
rises-Decides low (x ∷ xs) high = Decides-and _ _ (Decides-leb low (rank x.0)) (rises-Decides (rank x.0 + 1) xs high)

-- no links, or a leaf
links_from : (level link other : ℕ) → (level ≡ 0) ⊎ ((link ≡ 0) × (other ≡ 0)) → (0 < level → link ≡ 0) × (0 < level → other ≡ 0)
links_from level link other (inl leaf) = (λ lt. absurd (omega arith), λ lt. absurd (omega arith))
links_from level link other (inr none) = (λ lt. none.0, λ lt. none.1)

links_to : (level link other : ℕ) → (0 < level → link ≡ 0) → (0 < level → other ≡ 0) → (level ≡ 0) ⊎ ((link ≡ 0) × (other ≡ 0))
links_to zero link other h k = inl refl
links_to (suc level) link other h k = inr (h (omega arith), k (omega arith))

pub counts_page-Decides : (p : Page) → Decides (is_page p) (IsPage p)
counts_page-Decides p = Decides-like (is_page p)
    (λ h. let links = links_from p.level p.prev p.next h.1.1.1.0 in
    record { level = h.0; prev = h.1.0; next = h.1.1.0; no_prev = links.0; no_next = links.1; few = h.1.1.1.1.0; ascends = h.1.1.1.1.1 })
    (λ h. (h.level, (h.prev, (h.next, (links_to p.level p.prev p.next h.no_prev h.no_next, (h.few, h.ascends))))))
    (Decides-and _ _ (Decides-leb p.level MOST_LEVEL)
    (Decides-and _ _ (Decides-ltb p.prev (2 ^ 32))
    (Decides-and _ _ (Decides-ltb p.next (2 ^ 32))
    (Decides-and _ _ (Decides-or _ _ (Decides-eqb p.level 0) (Decides-and _ _ (Decides-eqb p.prev 0) (Decides-eqb p.next 0)))
    (Decides-and _ _ (Decides-leb (length p.records) MOST_RECORDS) (rises-Decides 0 p.records end_rank))))))
