-- The last key of records, and records below a key.
use Rattle.std.proofs.Common.{◌≡◌, ◌≢◌, ℕ, suc, ◌+◌, ◌-◌, ◌<◌, ◌≤◌, List, [], ◌∷◌, ◌++◌, Some, length, slice_get, refl, sym, ap, subst, arith}
use Rattle.ib_map.specs.Keys.{MapKey, rank, end_rank}
use Rattle.ib_map.specs.Pairs.{Pairs, Rises, cut}
use Rattle.ib_map.proofs.CutLaws.{is_within-below}
use Rattle.ib_map.proofs.RiseLaws.{Rises-le}
use Rattle.ib_page.specs.Image.{IsTreePage, records_of}
use Rattle.ib_page.specs.Page.{page_in}
use Rattle.ib_heap.proofs.FormLaws.{tree_in}
use Rattle.ib_walk.specs.Chunk.{AreBelow, IsLastKey}

-- the last key stands at the last place
pub last_at : (xs : Pairs) (n : ℕ) (x : MapKey × ℕ) → n ≡ length xs → n ≢ 0 → slice_get xs (n - 1) ≡ Some x → IsLastKey xs x.0
last_at [] n x len some is = absurd (some len)
last_at (y ∷ []) n x len some is =
    let e : n - 1 ≡ 0 = omega (arith, len) in
    let s : Some y ≡ Some x = subst (λ k. slice_get (y ∷ []) k ≡ Some x) e is in
    let t : y ≡ x = cc in
    ([], x.1, ap (λ (p : MapKey × ℕ). let ps : Pairs = p ∷ [] in ps) t)
last_at (y ∷ z ∷ xs) n x len some is =
    let e : n - 1 ≡ suc (length xs) = omega (arith, len) in
    let s : slice_get (y ∷ z ∷ xs) (suc (length xs)) ≡ Some x = subst (λ k. slice_get (y ∷ z ∷ xs) k ≡ Some x) e is in
    let f : length xs ≡ suc (length xs) - 1 = omega arith in
    let r = last_at (z ∷ xs) (suc (length xs)) x refl (omega arith) (subst (λ k. slice_get (z ∷ xs) k ≡ Some x) f s) in
    (y ∷ r.0, r.1, ap (λ (ps : Pairs). y ∷ ps) r.2)

last-between : (low : ℕ) (front : Pairs) (key : MapKey) (value high : ℕ) → Rises low (front ++ (key, value) ∷ []) high → (low ≤ rank key) × (rank key < high)
last-between low [] key value high h = (h.0, (let e = h.1 in omega arith))
last-between low (x ∷ xs) key value high h = let r = last-between (rank x.0 + 1) xs key value high h.1 in let a = r.0 in let b = h.0 in (omega arith, r.1)

-- it is not below the start of a range, and below its end
pub last_between : (low : ℕ) (xs : Pairs) (high : ℕ) (key : MapKey) → Rises low xs high → IsLastKey xs key → (low ≤ rank key) × (rank key < high)
last_between low xs high key h l = last-between low l.0 key l.1 high (subst (λ (ps : Pairs). Rises low ps high) l.2 h)

last-below : (low : ℕ) (front : Pairs) (key : MapKey) (value high : ℕ) (start : MapKey) → Rises low (front ++ (key, value) ∷ []) high → rank key < rank start → AreBelow start (front ++ (key, value) ∷ [])
last-below low [] key value high start h lt = (lt, tt)
last-below low (x ∷ xs) key value high start h lt = let r = (last-between (rank x.0 + 1) xs key value high h.1).0 in (omega arith, last-below (rank x.0 + 1) xs key value high start h.1 lt)

-- where the last key is below another, all are
pub last_below : (low : ℕ) (xs : Pairs) (high : ℕ) (key start : MapKey) → Rises low xs high → IsLastKey xs key → rank key < rank start → AreBelow start xs
last_below low xs high key start h l lt = subst (AreBelow start) (sym l.2) (last-below low l.0 key l.1 high start (subst (λ (ps : Pairs). Rises low ps high) l.2 h) lt)

-- records of a range that ends not above a key are below it
pub rises_below : (low : ℕ) (xs : Pairs) (high : ℕ) (start : MapKey) → high ≤ rank start → Rises low xs high → AreBelow start xs
rises_below low [] high start le h = tt
rises_below low (x ∷ xs) high start le h = (let r = Rises-le (rank x.0 + 1) xs high h.1 in omega arith, rises_below (rank x.0 + 1) xs high start le h.1)

pub cut_below : (xs : Pairs) (start end : MapKey) → AreBelow start xs → cut xs start end ≡ []
cut_below [] start end b = refl
cut_below (x ∷ xs) start end b = rw (is_within-below start end x b.0) (cut_below xs start end b.1)

-- the records of a page of the tree ascend
pub tree_ascends : (ws : List ℕ) → IsTreePage ws → Rises 0 (records_of ws) end_rank
tree_ascends ws t = let h = tree_in ws t in subst (λ p. Rises 0 (page_in p).records end_rank) (sym h.holds) h.fits.ascends
