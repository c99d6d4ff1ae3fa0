-- The words that a page changes, one after another: their number, and how they stand in a buffer.
use Rattle.std.proofs.Common.{◌≡◌, ℕ, zero, suc, ◌+◌, ◌-◌, ◌*◌, ◌≤◌, ◌∙◌, [], ◌∷◌, ◌++◌, List, length, take, drop, get_or, refl, ap, subst, sym, arith, zero-add, inl, inr, append_assoc, append-nil, length-append}
use Rattle.std.proofs.lemmas.Bool.{cases_eq, eq-eqb, ne_eqb}
use Rattle.std.proofs.lemmas.List.{take_at, drop-drop, take-append-drop, length-take-le}
use Rattle.ib_map.specs.declared.TheConstants.{PAGE_WORDS}
use Rattle.ib_map.specs.declared.write.Write.{Write}
use Rattle.ib_map.specs.Writes.{word_place, write_words}
use Rattle.ib_map.proofs.WriteLaws.{length-write_words, write_words-append}
use Rattle.ib_page.specs.Work.{WorkPage}
use Rattle.ib_page.specs.Writes.{AreSame, HasWritten, page_writes, word_write, writes_below, writes_of}

-- what stands behind other words
drop-behind : (xs ys : List ℕ) (n i : ℕ) → length xs ≡ n → drop (n + i) (xs ++ ys) ≡ drop i ys
drop-behind [] ys n i long = ap (λ k. drop k ys) (let e : n + i ≡ i = omega arith in e)
drop-behind (x ∷ xs) ys zero i long = absurd (omega arith)
drop-behind (x ∷ xs) ys (suc n) i long = ap (λ k. drop k (x ∷ (xs ++ ys))) (let e : suc n + i ≡ suc (n + i) = omega arith in e) ∙ drop-behind xs ys n i (omega arith)

-- one word more
pub writes_none : (page : ℕ) (before changed : List ℕ) → writes_below page before changed 0 ≡ []
unfolding writes_below
writes_none page before changed = refl

pub writes_more : (page : ℕ) (before changed : List ℕ) (n : ℕ) → writes_below page before changed (n + 1) ≡ writes_below page before changed n ++ word_write page before changed n
unfolding writes_below
writes_more page before changed n = ap (λ k. writes_below page before changed k) (let e : n + 1 ≡ suc n = omega arith in e)

pub writes_more_same : (page : ℕ) (before changed : List ℕ) (n : ℕ) → get_or before n 0 ≡ get_or changed n 0 → writes_below page before changed (n + 1) ≡ writes_below page before changed n
writes_more_same page before changed n same = writes_more page before changed n ∙ rw (eq-eqb (get_or before n 0) (get_or changed n 0) same) (append-nil (writes_below page before changed n))

pub writes_more_differ : (page : ℕ) (before changed : List ℕ) (n : ℕ) → (get_or before n 0 ≡ get_or changed n 0 → ⊥)
    → writes_below page before changed (n + 1) ≡ writes_below page before changed n ++ record { place = word_place page n; value = get_or changed n 0 } ∷ []
writes_more_differ page before changed n differ = writes_more page before changed n ∙ rw (ne_eqb (get_or before n 0) (get_or changed n 0) differ) refl

-- their number
pub count_same : (page : ℕ) (before changed : List ℕ) (n : ℕ) → get_or before n 0 ≡ get_or changed n 0 → length (writes_below page before changed (n + 1)) ≡ length (writes_below page before changed n)
count_same page before changed n same = ap length (writes_more_same page before changed n same)

pub count_differ : (page : ℕ) (before changed : List ℕ) (n : ℕ) → (get_or before n 0 ≡ get_or changed n 0 → ⊥) → length (writes_below page before changed (n + 1)) ≡ length (writes_below page before changed n) + 1
count_differ page before changed n differ =
    let w : Write = record { place = word_place page n; value = get_or changed n 0 } in
    ap length (writes_more_differ page before changed n differ) ∙ length-append (writes_below page before changed n) (w ∷ [])

pub count_rises : (page : ℕ) (before changed : List ℕ) (n m : ℕ) → length (writes_below page before changed n) ≤ length (writes_below page before changed (m + n))
count_rises page before changed n zero =
    let e : length (writes_below page before changed (0 + n)) ≡ length (writes_below page before changed n) = ap (λ k. length (writes_below page before changed k)) (zero-add n) in
    omega arith
count_rises page before changed n (suc m) =
    let rest = count_rises page before changed n m in
    let more : length (writes_below page before changed (suc m + n)) ≡ length (writes_below page before changed (m + n)) + length (word_write page before changed (m + n)) =
    ap (λ k. length (writes_below page before changed k)) (let e : suc m + n ≡ m + n + 1 = omega arith in e) ∙ (ap length (writes_more page before changed (m + n)) ∙ length-append (writes_below page before changed (m + n)) (word_write page before changed (m + n))) in
    omega arith

pub count-le : (page : ℕ) (before changed : List ℕ) (n m : ℕ) → n ≤ m → length (writes_below page before changed n) ≤ length (writes_below page before changed m)
count-le page before changed n m le =
    let rest = count_rises page before changed n (m - n) in
    let e : m - n + n ≡ m = omega arith in
    let same : length (writes_below page before changed (m - n + n)) ≡ length (writes_below page before changed m) = ap (λ k. length (writes_below page before changed k)) e in
    omega arith

-- no more than a page has words
count_few : (page : ℕ) (before changed : List ℕ) (n : ℕ) → length (writes_below page before changed n) ≤ n
count_few page before changed zero = let none = ap length (writes_none page before changed) in omega arith
count_few page before changed (suc n) =
    let rest = count_few page before changed n in
    let next : length (writes_below page before changed (suc n)) ≡ length (writes_below page before changed (n + 1)) = ap (λ k. length (writes_below page before changed k)) (let e : suc n ≡ n + 1 = omega arith in e) in
    elim (cases_eq (get_or before n 0) (get_or changed n 0)) [
      | inl same ↦ let one = count_same page before changed n same in omega arith
      | inr differ ↦ let one = count_differ page before changed n differ in omega arith
    ]

pub writes_few : (ps : List WorkPage) → length (writes_of ps) ≤ PAGE_WORDS * length ps
writes_few [] = omega arith
writes_few (p ∷ ps) =
    let rest = writes_few ps in let all = length-append (page_writes p) (writes_of ps) in
    let one = count_few p.page p.before p.changed PAGE_WORDS in omega arith

-- an image that isn't changed
pub writes_same : (page : ℕ) (image : List ℕ) (n : ℕ) → writes_below page image image n ≡ []
writes_same page image zero = writes_none page image image
writes_same page image (suc n) =
    ap (λ k. writes_below page image image k) (let e : suc n ≡ n + 1 = omega arith in e)
    ∙ (writes_more_same page image image n refl ∙ writes_same page image n)

-- what is put behind what was put
pub put_more : (front vs out more : List ℕ) (n k : ℕ) → vs ≡ front ++ drop n out → length front ≡ n → take n vs ++ more ++ drop (n + k) vs ≡ (front ++ more) ++ drop (n + k) out
put_more front vs out more n k is long =
    let first : take n vs ≡ front = ap (λ us. take n us) is ∙ take_at front (drop n out) n long in
    let e : k + n ≡ n + k = omega arith in
    let last : drop (n + k) vs ≡ drop (n + k) out =
    ap (λ us. drop (n + k) us) is ∙ (drop-behind front (drop n out) n k long ∙ (drop-drop k n out ∙ ap (λ j. drop j out) (let f : n + k ≡ n + k = refl in f))) in
    ap (λ us. us ++ more ++ drop (n + k) vs) first ∙ ap (λ us. (front ++ more) ++ us) last

-- the first writes
pub put_none : (out : List ℕ) (n : ℕ) → out ≡ take n out ++ [] ++ drop n out
put_none out n = sym (take-append-drop n out) ∙ ap (λ us. us ++ drop n out) (sym (append-nil (take n out)))

-- one more write behind those that stand there
pub written_more : (page : ℕ) (before changed : List ℕ) (n : ℕ) (out vs : List ℕ) (count place value : ℕ) → (get_or before n 0 ≡ get_or changed n 0 → ⊥)
    → 2 * count ≤ length out → place ≡ word_place page n → value ≡ get_or changed n 0
    → vs ≡ take (2 * count) out ++ write_words (writes_below page before changed n) ++ drop (2 * (count + length (writes_below page before changed n))) out
    → take (2 * (count + length (writes_below page before changed n))) vs ++ place ∷ value ∷ drop (2 * (count + length (writes_below page before changed n) + 1)) vs
    ≡ take (2 * count) out ++ write_words (writes_below page before changed (n + 1)) ++ drop (2 * (count + length (writes_below page before changed n) + 1)) out
written_more page before changed n out vs count place value differ room at is stands =
    let ws = writes_below page before changed n in
    let w : Write = record { place = place; value = value } in
    let front = take (2 * count) out ++ write_words ws in
    let long : length front ≡ 2 * (count + length ws) = omega (arith, length-append (take (2 * count) out) (write_words ws), length-take-le (2 * count) out room, length-write_words ws) in
    let two : 2 * (count + length ws + 1) ≡ 2 * (count + length ws) + 2 = omega arith in
    let put = put_more front vs out (place ∷ value ∷ []) (2 * (count + length ws)) 2 stands long in
    let made : writes_below page before changed (n + 1) ≡ ws ++ w ∷ [] =
    writes_more_differ page before changed n differ ∙ ap (λ (v : Write). ws ++ v ∷ []) (cc) in
    let words : write_words (writes_below page before changed (n + 1)) ≡ write_words ws ++ place ∷ value ∷ [] = ap write_words made ∙ write_words-append ws (w ∷ []) in
    let joined : front ++ place ∷ value ∷ [] ≡ take (2 * count) out ++ write_words (writes_below page before changed (n + 1)) =
    append_assoc (take (2 * count) out) (write_words ws) (place ∷ value ∷ []) ∙ ap (λ us. take (2 * count) out ++ us) (sym words) in
    ap (λ k. take (2 * (count + length ws)) vs ++ place ∷ value ∷ drop k vs) two
    ∙ (append_one (take (2 * (count + length ws)) vs) (drop (2 * (count + length ws) + 2) vs)
    ∙ (put ∙ (ap (λ us. us ++ drop (2 * (count + length ws) + 2) out) joined
    ∙ ap (λ k. take (2 * count) out ++ write_words (writes_below page before changed (n + 1)) ++ drop k out) (sym two))))
  where
    append_one : (xs ys : List ℕ) → xs ++ place ∷ value ∷ ys ≡ xs ++ (place ∷ value ∷ []) ++ ys
    append_one xs ys = sym (append_assoc xs (place ∷ value ∷ []) ys)

-- words that are the same add no write
pub writes_through : (page : ℕ) (before changed : List ℕ) (n k : ℕ) → AreSame n (n + k) before changed → writes_below page before changed (n + k) ≡ writes_below page before changed n
writes_through page before changed n zero same = ap (λ j. writes_below page before changed j) (let e : n + 0 ≡ n = omega arith in e)
writes_through page before changed n (suc k) same =
    ap (λ j. writes_below page before changed j) (let e : n + suc k ≡ n + k + 1 = omega arith in e)
    ∙ (writes_more_same page before changed (n + k) (same (n + k) (omega arith) (omega arith))
    ∙ writes_through page before changed n k (λ i behind here. same i behind (omega arith)))

-- what is written when words are passed that are the same
pub written_still : (page : ℕ) (before changed : List ℕ) (n m count : ℕ) (out : List ℕ) (end : ℕ) (now : List ℕ) → writes_below page before changed m ≡ writes_below page before changed n
    → HasWritten page before changed n count out end now → HasWritten page before changed m count out end now
written_still page before changed n m count out end now same written = record { ended = rw same written.ended; words = rw same written.words }

-- .. and when one word more is written
pub written_one : (page : ℕ) (before changed : List ℕ) (n count : ℕ) (out : List ℕ) (end : ℕ) (now : List ℕ) (place value : ℕ) → (get_or before n 0 ≡ get_or changed n 0 → ⊥)
    → 2 * count ≤ length out → place ≡ word_place page n → value ≡ get_or changed n 0 → HasWritten page before changed n count out end now
    → HasWritten page before changed (n + 1) count out (end + 1) (take (2 * end) now ++ place ∷ value ∷ drop (2 * (end + 1)) now)
written_one page before changed n count out end now place value differ room at is written =
    let more = count_differ page before changed n differ in
    let ended = written.ended in
    let stands = subst (λ (e : ℕ). now ≡ take (2 * count) out ++ write_words (writes_below page before changed n) ++ drop (2 * e) out) written.ended written.words in
    record {
      ended = omega arith;
      words = subst (λ (e : ℕ). take (2 * e) now ++ place ∷ value ∷ drop (2 * (e + 1)) now ≡ take (2 * count) out ++ write_words (writes_below page before changed (n + 1)) ++ drop (2 * (e + 1)) out) (sym written.ended)
          (written_more page before changed n out now count place value differ room at is stands);
    }
