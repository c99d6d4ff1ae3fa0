-- A record put into a list, and the two parts of the list then.
use Rattle.std.proofs.Common.{◌≡◌, ◌∙◌, ℕ, zero, suc, ◌+◌, ◌<◌, ◌≤◌, [], ◌∷◌, length, take, drop, refl, sym, ap, arith, ltb, eqb, Option, Some, None, length-drop}
use Rattle.std.specs.Prelude.{◌↔◌, List, Result, Ok, Err, OnOk, IsSome, IsNone}
use Rattle.std.proofs.lemmas.Bool.{cases_Bool}
use Rattle.std.proofs.Common.{inl, inr}
use Rattle.ib_map.specs.Keys.{MapKey, rank, end_rank, least}
use Rattle.ib_map.specs.Pairs.{Pairs, Rises, put, index_of, value_at}
use Rattle.ib_heap.specs.declared.TheConstants.{MOST_RECORDS}
use Rattle.ib_heap.specs.declared.fault.PageFault.{PageFault}
use Rattle.ib_heap.specs.declared.fault.PageFault.TheVariants.{Duplicate, PageFull, Missing}
use Rattle.ib_heap.specs.Filled.{filled}
use Rattle.ib_heap.specs.Heap.{read_heap}
use Rattle.ib_page.specs.Form.{page_of}
use Rattle.ib_page.specs.Page.{PageValue, HoldsTree, page_in}
use Rattle.ib_page.specs.Page.PageValue.{Malformed, Free, Tree}
use Rattle.ib_page.specs.Image.{records_of, value_with_records, with_links, with_level, value_with_clock}
use Rattle.ib_map.proofs.KeyLaws.{rank-least, rank-lt_end}
use Rattle.ib_map.proofs.PairLaws.{length-put, Rises-put}
use Rattle.ib_plans.specs.declared.TheConstants.{LEFT_RECORDS}
use Rattle.ib_plans.specs.Split.{right_part, first_key}

-- the record goes to the first part: it has one more, and the second part is what it would be with one less before it
pub take-put_low : (key : MapKey) (value n : ℕ) (xs : Pairs) → index_of key xs ≤ n → take (suc n) (put key value xs) ≡ put key value (take n xs)
take-put_low key value zero [] h = refl
take-put_low key value (suc n) [] h = refl
take-put_low key value zero (x ∷ xs) h = elim (cases_Bool (ltb (rank x.0) (rank key))) [
  | inl below ↦ let z : index_of key (x ∷ xs) ≡ 1 + index_of key xs = rw below refl in absurd (omega arith)
  | inr above ↦ rw above refl
]
take-put_low key value (suc n) (x ∷ xs) h = elim (cases_Bool (ltb (rank x.0) (rank key))) [
  | inl below ↦ let z : index_of key (x ∷ xs) ≡ 1 + index_of key xs = rw below refl in
      let r = take-put_low key value n xs (omega arith) in rw below (ap (λ ys. x ∷ ys) r)
  | inr above ↦ rw above refl
]

pub drop-put_low : (key : MapKey) (value n : ℕ) (xs : Pairs) → index_of key xs ≤ n → drop (suc n) (put key value xs) ≡ drop n xs
drop-put_low key value zero [] h = refl
drop-put_low key value (suc n) [] h = refl
drop-put_low key value zero (x ∷ xs) h = elim (cases_Bool (ltb (rank x.0) (rank key))) [
  | inl below ↦ let z : index_of key (x ∷ xs) ≡ 1 + index_of key xs = rw below refl in absurd (omega arith)
  | inr above ↦ rw above refl
]
drop-put_low key value (suc n) (x ∷ xs) h = elim (cases_Bool (ltb (rank x.0) (rank key))) [
  | inl below ↦ let z : index_of key (x ∷ xs) ≡ 1 + index_of key xs = rw below refl in
      let r = drop-put_low key value n xs (omega arith) in rw below r
  | inr above ↦ rw above refl
]

-- .. or to the second part
pub take-put_high : (key : MapKey) (value n : ℕ) (xs : Pairs) → n ≤ index_of key xs → take n (put key value xs) ≡ take n xs
take-put_high key value zero xs h = refl
take-put_high key value (suc n) [] h = absurd (omega arith)
take-put_high key value (suc n) (x ∷ xs) h = elim (cases_Bool (ltb (rank x.0) (rank key))) [
  | inl below ↦ let z : index_of key (x ∷ xs) ≡ 1 + index_of key xs = rw below refl in
      let r = take-put_high key value n xs (omega arith) in rw below (ap (λ ys. x ∷ ys) r)
  | inr above ↦ let z : index_of key (x ∷ xs) ≡ 0 = rw above refl in absurd (omega arith)
]

pub drop-put_high : (key : MapKey) (value n : ℕ) (xs : Pairs) → n ≤ index_of key xs → drop n (put key value xs) ≡ put key value (drop n xs)
drop-put_high key value zero xs h = refl
drop-put_high key value (suc n) [] h = absurd (omega arith)
drop-put_high key value (suc n) (x ∷ xs) h = elim (cases_Bool (ltb (rank x.0) (rank key))) [
  | inl below ↦ let z : index_of key (x ∷ xs) ≡ 1 + index_of key xs = rw below refl in
      let r = drop-put_high key value n xs (omega arith) in rw below r
  | inr above ↦ let z : index_of key (x ∷ xs) ≡ 0 = rw above refl in absurd (omega arith)
]

-- an insert into a page with room, of a key that is not there, succeeds
pub OnOk-put : (result : Result (Unit {0}) PageFault) (P : Type 0) (key : MapKey) (xs : Pairs) → OnOk result P
    → ((result ≡ Err Duplicate) ↔ IsSome (value_at key xs)) → ((result ≡ Err PageFull) ↔ (IsNone (value_at key xs) × (length xs ≡ MOST_RECORDS)))
    → (result ≡ Err Missing → ⊥) → value_at key xs ≡ None → length xs < MOST_RECORDS → P
OnOk-put (Ok x) P key xs ok duplicate full missing absent room = ok
OnOk-put (Err Duplicate) P key xs ok duplicate full missing absent room = absurd (none-some (value_at key xs) absent (duplicate.0 refl))
  where
    none-some : (v : Option ℕ) → v ≡ None → IsSome v → ⊥
    none-some v is some = cc
OnOk-put (Err PageFull) P key xs ok duplicate full missing absent room = absurd (let l = (full.0 refl).1 in omega arith)
OnOk-put (Err Missing) P key xs ok duplicate full missing absent room = absurd (missing refl)

-- a key that is not there is in no part
pub value_at-take : (key : MapKey) (n : ℕ) (xs : Pairs) → value_at key xs ≡ None → value_at key (take n xs) ≡ None
value_at-take key zero xs h = refl
value_at-take key (suc n) [] h = refl
value_at-take key (suc n) (x ∷ xs) h = elim (cases_Bool (eqb (rank x.0) (rank key))) [
  | inl below ↦ let z : Some x.1 ≡ None = rw below at h in cc
  | inr above ↦ let z : value_at key xs ≡ None = rw above at h in rw above (value_at-take key n xs z)
]

pub value_at-drop : (key : MapKey) (n : ℕ) (xs : Pairs) → value_at key xs ≡ None → value_at key (drop n xs) ≡ None
value_at-drop key zero xs h = h
value_at-drop key (suc n) [] h = refl
value_at-drop key (suc n) (x ∷ xs) h = elim (cases_Bool (eqb (rank x.0) (rank key))) [
  | inl below ↦ let z : Some x.1 ≡ None = rw below at h in cc
  | inr above ↦ let z : value_at key xs ≡ None = rw above at h in value_at-drop key n xs z
]

-- a page whose records were taken twice
pub with_records-twice : (v : PageValue) (xs ys : Pairs) → value_with_records ys (value_with_records xs v) ≡ value_with_records ys v
with_records-twice (Tree p) xs ys = refl
with_records-twice (Free clock) xs ys = refl
with_records-twice Malformed xs ys = refl

pub records-with_records : (v : PageValue) (xs : Pairs) → HoldsTree v → (page_in (value_with_records xs v)).records ≡ xs
records-with_records (Tree p) xs tree = refl
records-with_records (Free clock) xs tree = absurd tree
records-with_records Malformed xs tree = absurd tree

-- a record is put in, and all records anew
pub filled_with : (result : Result (Unit {0}) PageFault) (key : MapKey) (value : ℕ) (old mid new : List ℕ) → HoldsTree (page_of old)
    → OnOk result (page_of mid ≡ value_with_records (put key value (records_of old)) (page_of old)) → read_heap new ≡ filled (length (records_of mid))
    → OnOk result (read_heap new ≡ filled (length (records_of old) + 1))
filled_with (Ok x) key value old mid new tree inserted heap = heap ∙ ap filled (ap length (ap (λ q. (page_in q).records) inserted ∙ records-with_records (page_of old) (put key value (records_of old)) tree) ∙ length-put key value (records_of old))
filled_with (Err e) key value old mid new tree inserted heap = tt

-- a record that is not there, and for which there is room, is put in
pub put-done : (P : Type 0) (result : Result (Unit {0}) PageFault) (key : MapKey) (xs : Pairs) → value_at key xs ≡ None → length xs < MOST_RECORDS
    → ((result ≡ Err Duplicate) ↔ IsSome (value_at key xs)) → ((result ≡ Err PageFull) ↔ (IsNone (value_at key xs) × (length xs ≡ MOST_RECORDS))) → (result ≡ Err Missing → ⊥) → OnOk result P → P
put-done P (Ok x) key xs absent room duplicate full never p = p
put-done P (Err Duplicate) key xs absent room duplicate full never p = absurd (let there = duplicate.0 refl in cc)
put-done P (Err PageFull) key xs absent room duplicate full never p = absurd (let many = (full.0 refl).1 in omega arith)
put-done P (Err Missing) key xs absent room duplicate full never p = absurd (never refl)

-- a page with these records, into which a record was put
pub put-twice : (key : MapKey) (value : ℕ) (v mid new : PageValue) (xs ys : Pairs) → HoldsTree v → mid ≡ value_with_records xs v
    → new ≡ value_with_records (put key value (page_in mid).records) mid → ys ≡ put key value xs → new ≡ value_with_records ys v
put-twice key value v mid new xs ys tree is now same =
    let e : (page_in mid).records ≡ xs = ap (λ q. (page_in q).records) is ∙ records-with_records v xs tree in
    now ∙ (ap (λ rs. value_with_records (put key value rs) mid) e ∙ (ap (λ q. value_with_records (put key value xs) q) is
    ∙ (with_records-twice v xs (put key value xs) ∙ ap (λ rs. value_with_records rs v) (sym same))))

-- links, level and clock are not records
pub records-with_links : (prev next : ℕ) (v : PageValue) → (page_in (with_links prev next v)).records ≡ (page_in v).records
records-with_links prev next (Tree p) = refl
records-with_links prev next (Free clock) = refl
records-with_links prev next Malformed = refl

pub records-with_level : (level : ℕ) (v : PageValue) → (page_in (with_level level v)).records ≡ (page_in v).records
records-with_level level (Tree p) = refl
records-with_level level (Free clock) = refl
records-with_level level Malformed = refl

pub records-with_clock : (clock : ℕ) (v : PageValue) → (page_in (value_with_clock clock v)).records ≡ (page_in v).records
records-with_clock clock (Tree p) = refl
records-with_clock clock (Free old) = refl
records-with_clock clock Malformed = refl

-- a list that rises from 0 on has ranks of at least n from its n-th record on
pub first_key-drop : (low n : ℕ) (xs : Pairs) (high : ℕ) → Rises low xs high → n < length xs → low + n ≤ rank (first_key (drop n xs))
first_key-drop low zero [] high rises lt = absurd (omega arith)
first_key-drop low zero (x ∷ xs) high rises lt = let l = rises.0 in omega arith
first_key-drop low (suc n) [] high rises lt = absurd (omega arith)
first_key-drop low (suc n) (x ∷ xs) high rises lt =
    let r = first_key-drop (rank x.0 + 1) n xs high rises.1 (omega arith) in let l = rises.0 in omega arith

-- the upper half of a full page and one more record has records, above the least key
module _ (key : MapKey) (value : ℕ) (xs : Pairs) (full : length xs ≡ MOST_RECORDS) where
  pub right_part-some : 0 < length (right_part (put key value xs))
  right_part-some = let p = length-put key value xs in let d = length-drop LEFT_RECORDS (put key value xs) in omega arith

  pub right_part-above : value_at key xs ≡ None → Rises 0 xs end_rank → rank least < rank (first_key (right_part (put key value xs)))
  right_part-above absent rises =
      let p = length-put key value xs in
      let r = Rises-put key value 0 xs end_rank rises (omega arith) (rank-lt_end key) absent in
      let d = first_key-drop 0 LEFT_RECORDS (put key value xs) end_rank r (omega arith) in
      let z = rank-least in omega arith

-- the records of the right page of a root that is raised
pub right_page-records : (key : MapKey) (value prev next : ℕ) (root low cut high halved linked : PageValue) → HoldsTree low → HoldsTree high
    → cut ≡ value_with_records (page_in root).records low → halved ≡ value_with_records (right_part (put key value (page_in cut).records)) high → linked ≡ with_links prev next halved
    → (page_in linked).records ≡ right_part (put key value (page_in root).records)
right_page-records key value prev next root low cut high halved linked low_tree high_tree is_cut is_halved is_linked =
    let records : (page_in cut).records ≡ (page_in root).records = ap (λ v. (page_in v).records) is_cut ∙ records-with_records low (page_in root).records low_tree in
    ap (λ v. (page_in v).records) is_linked ∙ (records-with_links prev next halved
    ∙ (ap (λ v. (page_in v).records) is_halved ∙ (records-with_records high (right_part (put key value (page_in cut).records)) high_tree
    ∙ ap (λ rs. right_part (put key value rs)) records)))
