-- What the numbers of a file say of its pages.
use Rattle.std.specs.Prelude.{slice_index}
use Rattle.std.specs.List.{AllByRecursion, flat_map}
use Rattle.std.proofs.Common.{◌≡◌, ℕ, zero, suc, ◌+◌, ◌-◌, ◌*◌, ◌<◌, ◌≤◌, ◌∙◌, true, List, [], ◌∷◌, ◌++◌, length, take, drop, get_or, refl, sym, ap, subst, arith, inl, inr, append_assoc, append-nil, length-append, take-append-drop}
use Rattle.std.proofs.lemmas.Bool.{cases_eq}
use Rattle.std.proofs.lemmas.List.{drop-drop, drop_more, length-drop, length-take-le}
use Rattle.std.proofs.lemmas.List.Concat.{flat_map-cons}
use Rattle.std.proofs.lemmas.Grind.{flat_map-append}
use Rattle.std.proofs.Math.ListN.{get_or-append}
use Rattle.std.proofs.Math.Seq.{drop-append-add, get_or-append_seam, take-length}
use Rattle.byteorder.specs.Endian.{big_bytes, big_number}
use Rattle.byteorder.specs.Numbers.{length-bytes_high_first}
use Rattle.ib_map.specs.Space.{has_pages}
use Rattle.ib_map.specs.declared.TheConstants.{PAGE_WORDS}
use Rattle.ib_rule.proofs.Lists.{each_push}
use Rattle.ib_replay.specs.Files.{AreWords, file_number, word_bytes}
use Rattle.ib_replay.proofs.FileLaws.{big_number-words}
use Rattle.ib_image.specs.declared.copy.CopiedPage.{CopiedPage}
use Rattle.ib_image.specs.declared.front.Front.{Front}
use Rattle.ib_image.specs.declared.image_file.TheConstants.{HEAD_NUMBERS, IMAGE_FORM}
use Rattle.ib_image.specs.Copies.{page_in}
use Rattle.ib_image.specs.ImageFiles.{IsLaidOut, image_numbers, number_of, page_numbers}
use Rattle.ib_image.specs.Parsed.{IsFront, copy_in, page_in_file, tail_in}

pub length-copy_in : (numbers : List ℕ) (n : ℕ) → length (copy_in numbers n) ≡ n
length-copy_in numbers zero = refl
length-copy_in numbers (suc n) = let l = length-append (copy_in numbers n) (page_in_file numbers n ∷ []) in let r = length-copy_in numbers n in omega arith

-- a page of the first ones
pub page-of : (numbers : List ℕ) (n page : ℕ) → page < n → page_in (copy_in numbers n) page ≡ page_in_file numbers page
page-of numbers zero page lt = absurd (omega arith)
page-of numbers (suc n) page lt =
    let none : CopiedPage = record { image = []; place = 0 } in
    let long = length-copy_in numbers n in
    elim (cases_eq page n) [
      | inl e ↦
          let at : page ≡ length (copy_in numbers n) = omega (arith, e, long) in
          ap (page_in (copy_in numbers n ++ page_in_file numbers n ∷ [])) at ∙ (get_or-append_seam (copy_in numbers n) (page_in_file numbers n) [] none ∙ ap (page_in_file numbers) (sym e))
      | inr ne ↦ get_or-append (copy_in numbers n) (page_in_file numbers n ∷ []) none page (omega (arith, lt, ne, long)) ∙ page-of numbers n page (omega (arith, lt, ne))
    ]

-- .. and its place
pub place-of : (numbers : List ℕ) (n page at : ℕ) → page < n → at ≡ number_of page → (page_in (copy_in numbers n) page).place ≡ slice_index numbers at
place-of numbers n page at lt is = ap (λ (c : CopiedPage). c.place) (page-of numbers n page lt) ∙ ap (slice_index numbers) (sym is)

-- each has all its words, where they stand there
pub whole-copy_in : (numbers : List ℕ) (n : ℕ) → number_of n ≤ length numbers → AllByRecursion (λ (c : CopiedPage). length c.image ≡ PAGE_WORDS) (copy_in numbers n)
whole-copy_in numbers zero long = tt
whole-copy_in numbers (suc n) long =
    each_push (λ (c : CopiedPage). length c.image ≡ PAGE_WORDS) (copy_in numbers n) (page_in_file numbers n) (whole-copy_in numbers n (omega arith))
    (length-take-le PAGE_WORDS (drop (number_of n + 1) numbers) (let l = length-drop (number_of n + 1) numbers in omega arith))

-- the numbers from a page on
page-numbers : (numbers : List ℕ) (page : ℕ) → number_of (page + 1) ≤ length numbers → drop (number_of page) numbers ≡ page_numbers (page_in_file numbers page) ++ drop (number_of (page + 1)) numbers
page-numbers numbers page long =
    let at = number_of page in
    let behind : at + 1 + PAGE_WORDS ≡ number_of (page + 1) = omega arith in
    let parts : drop (at + 1) numbers ≡ take PAGE_WORDS (drop (at + 1) numbers) ++ drop (number_of (page + 1)) numbers =
    sym (take-append-drop PAGE_WORDS (drop (at + 1) numbers)) ∙ ap (λ xs. take PAGE_WORDS (drop (at + 1) numbers) ++ xs) (drop-drop PAGE_WORDS (at + 1) numbers ∙ ap (λ n. drop n numbers) behind) in
    drop_more numbers at 0 (omega arith) ∙ ap (λ xs. get_or numbers at 0 ∷ xs) parts

-- the pages and the words behind them are all that stands behind the front
pub pages-and-tail : (numbers : List ℕ) (n : ℕ) → number_of n ≤ length numbers → flat_map page_numbers (copy_in numbers n) ++ tail_in numbers n ≡ drop HEAD_NUMBERS numbers
pages-and-tail numbers zero long = refl
pages-and-tail numbers (suc n) long =
    let p = page_in_file numbers n in
    let up : suc n ≡ n + 1 = omega arith in
    let pages : flat_map page_numbers (copy_in numbers n ++ p ∷ []) ≡ flat_map page_numbers (copy_in numbers n) ++ page_numbers p =
    flat_map-append page_numbers (copy_in numbers n) (p ∷ []) ∙ ap (λ xs. flat_map page_numbers (copy_in numbers n) ++ xs) (flat_map-cons page_numbers p [] ∙ append-nil (page_numbers p)) in
    ap (λ xs. xs ++ drop (number_of (suc n)) numbers) pages
    ∙ (append_assoc (flat_map page_numbers (copy_in numbers n)) (page_numbers p) (drop (number_of (suc n)) numbers)
    ∙ (ap (λ xs. flat_map page_numbers (copy_in numbers n) ++ xs) (ap (λ (k : ℕ). page_numbers p ++ drop (number_of k) numbers) up ∙ sym (page-numbers numbers n (omega arith)))
    ∙ pages-and-tail numbers n (omega arith)))

drop-word_bytes : (i : ℕ) (words : List ℕ) → i ≤ length words → drop (8 * i) (word_bytes words) ≡ word_bytes (drop i words)
drop-word_bytes zero words le = refl
drop-word_bytes (suc i) [] le = absurd (omega arith)
drop-word_bytes (suc i) (w ∷ ws) le =
    let size = length-bytes_high_first 8 w in
    let at : 8 * suc i ≡ length (big_bytes 8 w) + 8 * i = omega arith in
    ap (drop (8 * suc i)) (flat_map-cons (big_bytes 8) w ws)
    ∙ (ap (λ n. drop n (big_bytes 8 w ++ word_bytes ws)) at ∙ (drop-append-add (big_bytes 8 w) (word_bytes ws) (8 * i) ∙ drop-word_bytes i ws (omega arith)))

-- a number of the bytes of numbers
pub number-at : (numbers : List ℕ) (i : ℕ) → AreWords numbers → i < length numbers → file_number (word_bytes numbers) i ≡ slice_index numbers i
number-at numbers i fits lt =
    ap (big_number 8) (drop-word_bytes i numbers (omega arith) ∙ ap word_bytes (drop_more numbers i 0 lt))
    ∙ big_number-words (get_or numbers i 0) (drop (i + 1) numbers) (fits i 0 lt)

-- bytes with a right front are laid out as an image file is
module _ (bytes numbers : List ℕ) (front : Front) (is : word_bytes numbers ≡ bytes) (fits : AreWords numbers) (right : IsFront bytes front) (whole : number_of front.pages ≤ length numbers) where
  number-is : (i : ℕ) → i < 3 → slice_index numbers i ≡ file_number bytes i
  number-is i lt = sym (number-at numbers i fits (omega arith)) ∙ ap (λ (bs : List ℕ). file_number bs i) is

  numbers-are : numbers ≡ image_numbers front.first (copy_in numbers front.pages) (tail_in numbers front.pages)
  numbers-are =
      let zero-is = number-is 0 (omega arith) ∙ right.form in
      let one-is = number-is 1 (omega arith) ∙ (sym right.pages ∙ sym (length-copy_in numbers front.pages)) in
      let two-is = number-is 2 (omega arith) ∙ sym right.first in
      let rest = sym (pages-and-tail numbers front.pages whole) in
      drop_more numbers 0 0 (omega arith)
      ∙ (ap (λ n. n ∷ drop 1 numbers) zero-is ∙ ap (λ xs. IMAGE_FORM ∷ xs) (drop_more numbers 1 0 (omega arith)
      ∙ (ap (λ n. n ∷ drop 2 numbers) one-is ∙ ap (λ xs. length (copy_in numbers front.pages) ∷ xs) (drop_more numbers 2 0 (omega arith)
      ∙ (ap (λ n. n ∷ drop 3 numbers) two-is ∙ ap (λ xs. front.first ∷ xs) rest)))))

  pub laid-out : IsLaidOut bytes front.first (copy_in numbers front.pages) (tail_in numbers front.pages)
  laid-out = record {
    space = subst (λ (n : ℕ). has_pages n ≡ true) (sym (length-copy_in numbers front.pages)) right.space;
    whole = whole-copy_in numbers front.pages whole;
    small = right.small;
    fits = subst AreWords numbers-are fits;
    file = sym is ∙ ap word_bytes numbers-are;
  }

-- the words behind the pages, as they are read
pub rest-is : (numbers : List ℕ) (pages at : ℕ) → at ≡ number_of pages → take (length numbers - at) (drop at numbers) ≡ tail_in numbers pages
rest-is numbers pages at is = ap (λ n. take n (drop at numbers)) (sym (length-drop at numbers)) ∙ (take-length (drop at numbers) ∙ ap (λ n. drop n numbers) is)
