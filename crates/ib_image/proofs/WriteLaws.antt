-- Numbers are written behind others.
use Rattle.std.proofs.Common.{◌≡◌, ℕ, ◌+◌, ◌-◌, ◌*◌, ◌<◌, ◌≤◌, ◌∙◌, List, [], ◌∷◌, ◌++◌, length, take, drop, get_or, refl, sym, ap, arith, append_assoc, append-nil, length-append}
use Rattle.std.specs.List.{flat_map}
use Rattle.std.proofs.lemmas.List.{take_at, drop_at, drop-drop, length-take-le, take_more}
use Rattle.std.proofs.lemmas.List.Concat.{flat_map-cons}
use Rattle.std.proofs.lemmas.Grind.{flat_map-append}
use Rattle.std.proofs.Math.ListN.{drop_of_length-le}
use Rattle.std.proofs.Math.Seq.{take-length}
use borrow.Rule.Slice.PartMut.{put_mid, mid_of}
use Rattle.byteorder.specs.Endian.{big_bytes}
use Rattle.ib_map.specs.declared.TheConstants.{PAGE_WORDS}
use Rattle.ib_replay.specs.Files.{word_bytes}
use Rattle.ib_replay.proofs.FileLaws.{length-word_bytes}
use Rattle.ib_image.specs.declared.copy.CopiedPage.{CopiedPage}
use Rattle.ib_image.specs.declared.image_file.TheConstants.{PAGE_NUMBERS}
use Rattle.ib_image.specs.ImageFiles.{page_numbers}

-- behind what stands in front of the rest this is written at the front of the rest
module _ (done rest out : List ℕ) (n k : ℕ) (out_is : out ≡ done ++ rest) (front : n ≡ length done) (back : k ≡ length out - n) where
  rest-is : drop n out ≡ rest
  rest-is = ap (drop n) out_is ∙ drop_at done rest n (sym front)

  rest-long : length rest ≤ k
  rest-long = let a = ap length out_is in let b = length-append done rest in omega arith

  mid-is : mid_of n k out ≡ rest
  mid-is = ap (take k) rest-is ∙ (ap (λ m. take m rest) (let a = ap length out_is in let b = length-append done rest in let e : k ≡ length rest = omega arith in e) ∙ take-length rest)

  pub all-behind : (new : List ℕ) → put_mid n k out new ≡ done ++ new
  all-behind new =
      let front-is : take n out ≡ done = ap (take n) out_is ∙ take_at done rest n (sym front) in
      let none : drop k (drop n out) ≡ [] = ap (drop k) rest-is ∙ drop_of_length-le rest rest-long in
      ap (λ xs. xs ++ (new ++ drop k (drop n out))) front-is ∙ ap (λ xs. done ++ xs) (ap (λ xs. new ++ xs) none ∙ append-nil new)

  pub written-behind : (xs new : List ℕ) (m : ℕ) → new ≡ xs ++ drop m (mid_of n k out) → put_mid n k out new ≡ (done ++ xs) ++ drop m rest
  written-behind xs new m is =
      all-behind new ∙ (ap (λ ys. done ++ ys) (is ∙ ap (λ ys. xs ++ drop m ys) mid-is) ∙ sym (append_assoc done xs (drop m rest)))

word_bytes-append : (xs ys : List ℕ) → word_bytes (xs ++ ys) ≡ word_bytes xs ++ word_bytes ys
word_bytes-append xs ys = flat_map-append (big_bytes 8) xs ys

pub word_bytes-single : (w : ℕ) → word_bytes (w ∷ []) ≡ big_bytes 8 w
word_bytes-single w = flat_map-cons (big_bytes 8) w [] ∙ append-nil (big_bytes 8 w)

-- one word more of an image is written
pub words-more : (words old out new : List ℕ) (i : ℕ) → i < length words → 8 * length words ≤ length old → out ≡ word_bytes (take i words) ++ drop (8 * i) old
    → new ≡ big_bytes 8 (get_or words i 0) ++ drop 8 (mid_of (8 * i) (length out - 8 * i) out)
    → put_mid (8 * i) (length out - 8 * i) out new ≡ word_bytes (take (i + 1) words) ++ drop (8 * (i + 1)) old
words-more words old out new i lt room is wrote =
    let size : 8 * i ≡ length (word_bytes (take i words)) = let a = length-word_bytes (take i words) in let b = length-take-le i words (omega arith) in omega arith in
    let at : 8 * i + 8 ≡ 8 * (i + 1) = omega arith in
    let one : word_bytes (take (i + 1) words) ≡ word_bytes (take i words) ++ big_bytes 8 (get_or words i 0) =
    ap word_bytes (take_more words i 0 lt) ∙ (word_bytes-append (take i words) (get_or words i 0 ∷ []) ∙ ap (λ xs. word_bytes (take i words) ++ xs) (word_bytes-single (get_or words i 0))) in
    written-behind (word_bytes (take i words)) (drop (8 * i) old) out (8 * i) (length out - 8 * i) is size refl (big_bytes 8 (get_or words i 0)) new 8 wrote
    ∙ (ap (λ xs. xs ++ drop 8 (drop (8 * i) old)) (sym one) ∙ ap (λ xs. word_bytes (take (i + 1) words) ++ xs) (drop-drop 8 (8 * i) old ∙ ap (λ n. drop n old) at))

-- one page more is written
pub page-numbers-more : (pages : List CopiedPage) (i : ℕ) (d : CopiedPage) → i < length pages → flat_map page_numbers (take (i + 1) pages) ≡ flat_map page_numbers (take i pages) ++ page_numbers (get_or pages i d)
page-numbers-more pages i d lt =
    ap (flat_map page_numbers) (take_more pages i d lt)
    ∙ (flat_map-append page_numbers (take i pages) (get_or pages i d ∷ [])
    ∙ ap (λ xs. flat_map page_numbers (take i pages) ++ xs) (flat_map-cons page_numbers (get_or pages i d) [] ∙ append-nil (page_numbers (get_or pages i d))))

module _ (pages : List CopiedPage) (old out new : List ℕ) (i : ℕ) (d : CopiedPage) (lt : i < length pages) (room : 8 * (PAGE_NUMBERS * length pages) ≤ length old)
    (is : out ≡ word_bytes (flat_map page_numbers (take i pages)) ++ drop (8 * (PAGE_NUMBERS * i)) old) (so_far : length (flat_map page_numbers (take i pages)) ≡ PAGE_NUMBERS * i)
    (size : length (get_or pages i d).image ≡ PAGE_WORDS) where
  pub pages-size : length (flat_map page_numbers (take (i + 1) pages)) ≡ PAGE_NUMBERS * (i + 1)
  pages-size = let a = ap length (page-numbers-more pages i d lt) in let b = length-append (flat_map page_numbers (take i pages)) (page_numbers (get_or pages i d)) in omega arith

  pub pages-more : new ≡ word_bytes (page_numbers (get_or pages i d)) ++ drop (8 * PAGE_NUMBERS) (mid_of (8 * (PAGE_NUMBERS * i)) (length out - 8 * (PAGE_NUMBERS * i)) out)
      → put_mid (8 * (PAGE_NUMBERS * i)) (length out - 8 * (PAGE_NUMBERS * i)) out new ≡ word_bytes (flat_map page_numbers (take (i + 1) pages)) ++ drop (8 * (PAGE_NUMBERS * (i + 1))) old
  pages-more wrote =
      let n = 8 * (PAGE_NUMBERS * i) in
      let front : n ≡ length (word_bytes (flat_map page_numbers (take i pages))) = let a = length-word_bytes (flat_map page_numbers (take i pages)) in omega arith in
      let at : n + 8 * PAGE_NUMBERS ≡ 8 * (PAGE_NUMBERS * (i + 1)) = omega arith in
      let one : word_bytes (flat_map page_numbers (take (i + 1) pages)) ≡ word_bytes (flat_map page_numbers (take i pages)) ++ word_bytes (page_numbers (get_or pages i d)) =
      ap word_bytes (page-numbers-more pages i d lt) ∙ word_bytes-append (flat_map page_numbers (take i pages)) (page_numbers (get_or pages i d)) in
      written-behind (word_bytes (flat_map page_numbers (take i pages))) (drop n old) out n (length out - n) is front refl (word_bytes (page_numbers (get_or pages i d))) new (8 * PAGE_NUMBERS) wrote
      ∙ (ap (λ xs. xs ++ drop (8 * PAGE_NUMBERS) (drop n old)) (sym one) ∙ ap (λ xs. word_bytes (flat_map page_numbers (take (i + 1) pages)) ++ xs) (drop-drop (8 * PAGE_NUMBERS) n old ∙ ap (λ m. drop m old) at))

-- the place and then the words of a page are written
pub page-written : (c : CopiedPage) (old out new : List ℕ) (k : ℕ) → 8 * PAGE_NUMBERS ≤ length old → out ≡ big_bytes 8 c.place ++ drop 8 old → k ≡ length out - 8 → new ≡ word_bytes c.image ++ drop (8 * PAGE_WORDS) (mid_of 8 k out)
    → put_mid 8 k out new ≡ word_bytes (page_numbers c) ++ drop (8 * PAGE_NUMBERS) old
page-written c old out new k room is back wrote =
    let one = word_bytes-single c.place in
    let front : 8 ≡ length (big_bytes 8 c.place) = let a = length-word_bytes (c.place ∷ []) in let b = ap length one in omega arith in
    written-behind (big_bytes 8 c.place) (drop 8 old) out 8 k is front back (word_bytes c.image) new (8 * PAGE_WORDS) wrote
    ∙ (ap (λ xs. xs ++ drop (8 * PAGE_WORDS) (drop 8 old)) (sym (flat_map-cons (big_bytes 8) c.place c.image)) ∙ ap (λ xs. word_bytes (page_numbers c) ++ xs) (drop-drop (8 * PAGE_WORDS) 8 old))

-- behind a head of three numbers stand the pages, and then the tail
module _ (head numbers tail old out pages : List ℕ) (k : ℕ) (size : length head ≡ 3) (out_is : out ≡ word_bytes head ++ drop 24 old) (back : k ≡ length out - 24) where
  pub pages-behind : (m : ℕ) → pages ≡ word_bytes numbers ++ drop m (mid_of 24 k out) → put_mid 24 k out pages ≡ word_bytes (head ++ numbers) ++ drop m (drop 24 old)
  pages-behind m wrote =
      let front : 24 ≡ length (word_bytes head) = let a = length-word_bytes head in omega arith in
      written-behind (word_bytes head) (drop 24 old) out 24 k out_is front back (word_bytes numbers) pages m wrote ∙ ap (λ xs. xs ++ drop m (drop 24 old)) (sym (word_bytes-append head numbers))

pub tail-behind : (front tail out rest : List ℕ) (n k : ℕ) → out ≡ word_bytes front ++ rest → n ≡ 8 * length front → k ≡ length out - n → put_mid n k out (word_bytes tail) ≡ word_bytes (front ++ tail)
tail-behind front tail out rest n k is at back =
    let long : n ≡ length (word_bytes front) = let a = length-word_bytes front in omega arith in
    all-behind (word_bytes front) rest out n k is long back (word_bytes tail) ∙ sym (word_bytes-append front tail)
