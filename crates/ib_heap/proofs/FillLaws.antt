-- Records that ascend, put in one behind another.
use Rattle.std.proofs.Common.{◌≡◌, ℕ, zero, suc, ◌+◌, ◌-◌, ◌<◌, ◌≤◌, [], ◌∷◌, ◌++◌, ◌∙◌, None, length, take, drop, get_or, append_assoc, ap, sym, arith, append-nil}
use Rattle.std.proofs.Math.Seq.{take-append_seam, take-append-add}
use Rattle.std.proofs.lemmas.List.{take-append-le}
use borrow.Rule.Slice.PartMut.{put_mid}
use Rattle.ib_map.specs.Keys.{MapKey, rank}
use Rattle.ib_map.specs.Pairs.{Pairs, Rises, put, value_at, index_of}
use Rattle.ib_map.proofs.PairLaws.{value_at-above, put-behind}
use Rattle.ib_map.proofs.IndexLaws.{index_of-behind}

-- a record whose key is above all others
module _ (xs : Pairs) (r : MapKey × ℕ) (rises : Rises 0 xs (rank r.0)) where
  pub is-absent : value_at r.0 xs ≡ None
  is-absent = value_at-above r.0 0 xs (rank r.0) rises (omega arith)

  pub is-put-last : put r.0 r.1 xs ≡ xs ++ r ∷ []
  is-put-last = ap (λ (ys : Pairs). put r.0 r.1 ys) (sym (append-nil xs)) ∙ put-behind r.0 r.1 0 xs (rank r.0) [] rises (omega arith)

  pub is-last-index : index_of r.0 xs ≡ length xs
  is-last-index = ap (λ (ys : Pairs). index_of r.0 ys) (sym (append-nil xs)) ∙ (index_of-behind r.0 0 xs (rank r.0) [] rises (omega arith) ∙ (let e : length xs + 0 ≡ length xs = omega arith in e))

-- the records before one of those that ascend
pub take-rises : (low : ℕ) (xs : Pairs) (high i : ℕ) (d : MapKey × ℕ) → Rises low xs high → i < length xs → Rises low (take i xs) (rank (get_or xs i d).0)
take-rises low [] high i d h lt = absurd (omega arith)
take-rises low (x ∷ xs) high zero d h lt = h.0
take-rises low (x ∷ xs) high (suc i) d h lt = (h.0, take-rises (rank x.0 + 1) xs high i d h.1 (omega arith))

-- records that were copied to the front of some room
pub front-of : (rs rest out : Pairs) (n : ℕ) → out ≡ rs ++ rest → n ≤ length rs → take n out ≡ take n rs
front-of rs rest out n is le = ap (λ (xs : Pairs). take n xs) is ∙ take-append-le n rs rest le

pub tail-of : (rs rest out : Pairs) (n len : ℕ) → out ≡ rs ++ rest → len ≡ length rs → n ≤ length rs → take (len - n) (drop n out) ≡ drop n rs
tail-of rs rest out n len is long le = ap (λ (xs : Pairs). take (len - n) (drop n xs)) is ∙ (ap (λ k. take (k - n) (drop n (rs ++ rest))) long ∙ go n rs le)
  where
    go : (m : ℕ) (ys : Pairs) → m ≤ length ys → take (length ys - m) (drop m (ys ++ rest)) ≡ drop m ys
    go zero ys h = ap (λ k. take k (ys ++ rest)) (let e : length ys - 0 ≡ length ys = omega arith in e) ∙ take-append_seam ys rest
    go (suc m) [] h = absurd (omega arith)
    go (suc m) (y ∷ ys) h = ap (λ k. take k (drop m (ys ++ rest))) (let e : length (y ∷ ys) - suc m ≡ length ys - m = omega arith in e) ∙ go m ys (omega arith)

pub all-of : (rs rest out : Pairs) (n : ℕ) → out ≡ rs ++ rest → n ≡ length rs → take n out ≡ rs
all-of rs rest out n is long = ap (λ (xs : Pairs). take n xs) is ∙ (ap (λ i. take i (rs ++ rest)) long ∙ take-append_seam rs rest)

-- .. and further ones behind them
pub both-of : (rs qs rest more out behind : Pairs) (n m k : ℕ) → out ≡ rs ++ rest → behind ≡ qs ++ more → n ≡ length rs → m ≡ length qs → take (n + m) (put_mid n k out behind) ≡ rs ++ qs
both-of rs qs rest more out behind n m k is also long other =
    let end = drop k (drop n out) in
    let front : take n out ≡ rs = all-of rs rest out n is long in
    let parts : put_mid n k out behind ≡ rs ++ (qs ++ (more ++ end)) =
    ap (λ (xs : Pairs). xs ++ (behind ++ end)) front ∙ (ap (λ (xs : Pairs). rs ++ (xs ++ end)) also ∙ ap (λ (xs : Pairs). rs ++ xs) (append_assoc qs more end)) in
    ap (λ (xs : Pairs). take (n + m) xs) parts ∙ (ap (λ i. take i (rs ++ (qs ++ (more ++ end)))) (let e : n + m ≡ length rs + m = omega arith in e)
    ∙ (take-append-add rs (qs ++ (more ++ end)) m ∙ ap (λ (xs : Pairs). rs ++ xs) (ap (λ i. take i (qs ++ (more ++ end))) other ∙ take-append_seam qs (more ++ end))))
