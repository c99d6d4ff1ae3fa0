-- Bytes are one image file at most, and have one first fault at most.
use Rattle.std.specs.Prelude.{slice_index, ◌/◌, ◌%◌, Result, Ok, Err, IfOk, IfErr, MatchResult}
use Rattle.std.specs.List.{AllByRecursion, flat_map}
use Rattle.std.proofs.Common.{◌≡◌, ◌⊎◌, ℕ, suc, ◌*◌, ◌^◌, ◌<◌, ◌≤◌, ◌∙◌, true, false, List, [], ◌∷◌, ◌++◌, length, take, drop, Some, None, refl, sym, ap, subst, arith, inl, inr, append_assoc, append-nil, length-append}
use Rattle.std.proofs.lemmas.Bool.{cases_order, eq-eqb, le-leb, lt-ltb}
use Rattle.std.proofs.lemmas.List.{take_at, drop_at}
use Rattle.std.proofs.lemmas.List.Concat.{flat_map-cons}
use Rattle.ib_map.specs.Space.{has_pages}
use Rattle.ib_map.specs.declared.TheConstants.{PAGE_WORDS}
use Rattle.ib_logrec.specs.declared.entry.Entry.{Entry}
use Rattle.ib_logrec.specs.declared.fault.LogFault.{LogFault}
use Rattle.ib_logrec.specs.Grammar.{IsInGrammar, fault_at}
use Rattle.ib_logrec.specs.Law.{AreInGrammar}
use Rattle.ib_logrec.specs.Log.{log_words, used}
use Rattle.ib_logrec.specs.Words.{words_of_entry}
use Rattle.ib_logrec.proofs.EntryLaws.{fault_at-words, length-words_of_entry}
use Rattle.ib_walk.specs.Words.{IsLawfulMemory}
use Rattle.ib_replay.specs.Files.{file_number}
use Rattle.ib_replay.proofs.FileLaws.{length-word_bytes, word_bytes-one}
use Rattle.ib_replay.proofs.OneFault.{fronts}
use Rattle.ib_replay.proofs.OnlyLog.{log_words-one}
use Rattle.ib_image.specs.declared.copy.CopiedPage.{CopiedPage}
use Rattle.ib_image.specs.declared.fault.ImageFault.{ImageFault}
use Rattle.ib_image.specs.declared.fault.ImageFault.TheVariants.{BadImage, OutOfMemory, Tail}
use Rattle.ib_image.specs.declared.image_file.TheConstants.{HEAD_NUMBERS, IMAGE_FORM, PAGE_NUMBERS}
use Rattle.ib_image.specs.declared.restored.Restored.{Restored}
use Rattle.ib_image.specs.Copies.{first_place, page_in, restored}
use Rattle.ib_image.specs.ImageFaults.{IsFaultBehind, IsImageFault, IsNoTree, IsPlaceFault, front_fault}
use Rattle.ib_image.specs.ImageFiles.{IsLaidOut, image_numbers, number_of, page_numbers}
use Rattle.ib_image.specs.Restored.{IsImageFile, IsRestored, IsRestoredMemory}
use Rattle.ib_image.specs.Tails.{IsTailFault}
use Rattle.ib_image.proofs.ParsedLaws.{number-at}

-- nothing is wrong with the words of an entry
no-fault : (pages place : ℕ) (rest tail : List ℕ) (e : Entry) (fault : LogFault) → rest ≡ words_of_entry e ++ tail → IsInGrammar pages e → fault_at pages place rest ≡ Some fault → ⊥
no-fault pages place rest tail e fault spelled is found =
    let none = ap (fault_at pages place) spelled ∙ fault_at-words pages place e tail is in let no : None ≡ Some fault = sym none ∙ found in cc

-- words have one first fault as a tail
tail_fault-one : (pages : ℕ) (words : List ℕ) (a b : LogFault) → IsTailFault pages words a → IsTailFault pages words b → a ≡ b
tail_fault-one pages words a b is_a is_b =
    elim (fronts pages is_a.front is_b.front is_a.rest is_b.rest is_a.grammar is_b.grammar (sym is_a.parts ∙ is_b.parts)) [
      | inl both ↦
          let here : fault_at pages (used is_b.front) is_b.rest ≡ Some a = ap (λ es. fault_at pages (used es) is_b.rest) (sym both.0) ∙ (ap (fault_at pages (used is_a.front)) (sym both.1) ∙ is_a.found) in
          let same : Some a ≡ Some b = sym here ∙ is_b.found in cc
      | inr (inl on) ↦ absurd (no-fault pages (used is_a.front) is_a.rest on.tail on.entry a on.spelled on.is is_a.found)
      | inr (inr on) ↦ absurd (no-fault pages (used is_b.front) is_b.rest on.tail on.entry b on.spelled on.is is_b.found)
    ]

-- .. and those of a tail have none
tail-no_fault : (pages : ℕ) (words : List ℕ) (tail : List Entry) (fault : LogFault) → AreInGrammar pages tail → words ≡ log_words tail → IsTailFault pages words fault → ⊥
tail-no_fault pages words tail fault grammar is f =
    elim (fronts pages f.front tail f.rest [] f.grammar grammar (sym f.parts ∙ (is ∙ sym (append-nil (log_words tail))))) [
      | inl both ↦ let none = ap length both.1 in let some = f.more in absurd (omega arith)
      | inr (inl on) ↦ no-fault pages (used f.front) f.rest on.tail on.entry fault on.spelled on.is f.found
      | inr (inr on) ↦ absurd (omega (arith, ap length on.spelled, length-append (words_of_entry on.entry) on.tail, length-words_of_entry on.entry))
    ]

parts-one : (xs ys u v : List ℕ) → length xs ≡ length ys → xs ++ u ≡ ys ++ v → (xs ≡ ys) × (u ≡ v)
parts-one xs ys u v size same = (
  sym (take_at xs u (length xs) refl) ∙ (ap (take (length xs)) same ∙ take_at ys v (length xs) (sym size)),
  sym (drop_at xs u (length xs) refl) ∙ (ap (drop (length xs)) same ∙ drop_at ys v (length xs) (sym size)),
)

page-one : (x y : CopiedPage) → page_numbers x ≡ page_numbers y → x ≡ y
page-one x y same = let places : x.place ≡ y.place = cc in let images : x.image ≡ y.image = cc in λ i. record { image = images i; place = places i }

-- as many whole pages are the same numbers only where they are the same
pages-one : (xs ys : List CopiedPage) (u v : List ℕ) → length xs ≡ length ys → AllByRecursion (λ (c : CopiedPage). length c.image ≡ PAGE_WORDS) xs → AllByRecursion (λ (c : CopiedPage). length c.image ≡ PAGE_WORDS) ys
    → flat_map page_numbers xs ++ u ≡ flat_map page_numbers ys ++ v → (xs ≡ ys) × (u ≡ v)
pages-one [] [] u v size x_is y_is same = (refl, same)
pages-one [] (y ∷ ys) u v size x_is y_is same = absurd (omega arith)
pages-one (x ∷ xs) [] u v size x_is y_is same = absurd (omega arith)
pages-one (x ∷ xs) (y ∷ ys) u v size x_is y_is same =
    let apart : page_numbers x ++ (flat_map page_numbers xs ++ u) ≡ page_numbers y ++ (flat_map page_numbers ys ++ v) =
    sym (append_assoc (page_numbers x) (flat_map page_numbers xs) u) ∙ (ap (λ (zs : List ℕ). zs ++ u) (sym (flat_map-cons page_numbers x xs))
    ∙ (same ∙ (ap (λ (zs : List ℕ). zs ++ v) (flat_map-cons page_numbers y ys) ∙ append_assoc (page_numbers y) (flat_map page_numbers ys) v))) in
    let long : length (page_numbers x) ≡ length (page_numbers y) = ap suc (x_is.0 ∙ sym y_is.0) in
    let parts = parts-one (page_numbers x) (page_numbers y) (flat_map page_numbers xs ++ u) (flat_map page_numbers ys ++ v) long apart in
    let rest = pages-one xs ys u v (omega arith) x_is.1 y_is.1 parts.1 in
    let head = page-one x y parts.0 in
    (λ i. head i ∷ rest.0 i, rest.1)

-- bytes are laid out as an image file in one way at most
pub laid_out-one : (bytes : List ℕ) (f g : ℕ) (xs ys : List CopiedPage) (u v : List ℕ) → IsLaidOut bytes f xs u → IsLaidOut bytes g ys v → (f ≡ g) × (xs ≡ ys) × (u ≡ v)
laid_out-one bytes f g xs ys u v a b =
    let same = word_bytes-one (image_numbers f xs u) (image_numbers g ys v) a.fits b.fits (sym a.file ∙ b.file) in
    let size : length xs ≡ length ys = cc in
    let first : f ≡ g = cc in
    let rest : flat_map page_numbers xs ++ u ≡ flat_map page_numbers ys ++ v = cc in
    let parts = pages-one xs ys u v size a.whole b.whole rest in
    (first, parts.0, parts.1)

pub length-pages : (copy : List CopiedPage) → AllByRecursion (λ (c : CopiedPage). length c.image ≡ PAGE_WORDS) copy → length (flat_map page_numbers copy) ≡ PAGE_NUMBERS * length copy
length-pages [] all = refl
length-pages (c ∷ cs) all =
    let a = ap length (flat_map-cons page_numbers c cs) in let b = length-append (page_numbers c) (flat_map page_numbers cs) in
    let d = length-pages cs all.1 in let e = all.0 in omega arith

right-front : (bytes : List ℕ) → length bytes % 8 ≡ 0 → HEAD_NUMBERS ≤ length bytes / 8 → file_number bytes 0 ≡ IMAGE_FORM → has_pages (file_number bytes 1) ≡ true → file_number bytes 2 < 2 ^ 32
    → number_of (file_number bytes 1) ≤ length bytes / 8 → front_fault bytes ≡ None
unfolding front_fault
right-front bytes even long form has small whole = rw (eq-eqb _ _ even, le-leb _ _ long, eq-eqb _ _ form, has, lt-ltb _ _ small, le-leb _ _ whole) refl

-- .. and then their front has no fault
pub front-none : (bytes : List ℕ) (first : ℕ) (copy : List CopiedPage) (words : List ℕ) → IsLaidOut bytes first copy words → front_fault bytes ≡ None
front-none bytes first copy words is =
    let numbers = image_numbers first copy words in
    let size : length bytes ≡ 8 * length numbers = ap length is.file ∙ length-word_bytes numbers in
    let pages = length-pages copy is.whole in
    let behind = length-append (flat_map page_numbers copy) words in
    let many : number_of (length copy) ≤ length numbers = omega arith in
    let eighth : length bytes / 8 ≡ length numbers = omega arith in
    let number : (i : ℕ) → i < length numbers → file_number bytes i ≡ slice_index numbers i = λ i lt. ap (λ (bs : List ℕ). file_number bs i) is.file ∙ number-at numbers i is.fits lt in
    let one : file_number bytes 1 ≡ length copy = number 1 (omega arith) in
    let two : file_number bytes 2 ≡ first = number 2 (omega arith) in
    let small = is.small in
    right-front bytes (omega arith) (omega arith) (number 0 (omega arith)) (ap has_pages one ∙ is.space) (omega (arith, two, small)) (omega (arith, one, many, eighth))

place_fault-one : (first entries : ℕ) (copy : List CopiedPage) (a b : ImageFault) → IsPlaceFault first entries copy a → IsPlaceFault first entries copy b → a ≡ b
place_fault-one first entries copy a b is_a is_b = elim (cases_order is_a.page is_b.page) [
  | inl e ↦ is_a.is ∙ (ap (λ (k : ℕ). BadImage (number_of k) (page_in copy k).place) e ∙ sym is_b.is)
  | inr (inl lt) ↦ let no : true ≡ false = sym (is_b.before is_a.page lt) ∙ is_a.wrong in absurd (cc)
  | inr (inr lt) ↦ let no : true ≡ false = sym (is_a.before is_b.page lt) ∙ is_b.wrong in absurd (cc)
]

of_tail-one : (first : ℕ) (copy : List CopiedPage) (tail : List Entry) (a b : ImageFault) → IsPlaceFault first (length tail) copy a ⊎ IsNoTree first copy tail a → IsPlaceFault first (length tail) copy b ⊎ IsNoTree first copy tail b → a ≡ b
of_tail-one first copy tail a b (inl p) (inl q) = place_fault-one first (length tail) copy a b p q
of_tail-one first copy tail a b (inl p) (inr n) = let no : true ≡ false = sym (n.places p.page p.inside) ∙ p.wrong in absurd (cc)
of_tail-one first copy tail a b (inr n) (inl p) = let no : true ≡ false = sym (n.places p.page p.inside) ∙ p.wrong in absurd (cc)
of_tail-one first copy tail a b (inr n) (inr m) = n.is ∙ sym m.is

behind-one : (first : ℕ) (copy : List CopiedPage) (words : List ℕ) (a b : ImageFault) → IsFaultBehind first copy words a → IsFaultBehind first copy words b → a ≡ b
behind-one first copy words a b (inl x) (inl y) = x.1 ∙ (ap Tail (tail_fault-one (length copy) words x.0 y.0 x.2 y.2) ∙ sym y.1)
behind-one first copy words a b (inl x) (inr y) = let h = y.1 in absurd (tail-no_fault (length copy) words y.0 x.0 h.grammar h.words_are x.2)
behind-one first copy words a b (inr x) (inl y) = let h = x.1 in absurd (tail-no_fault (length copy) words x.0 y.0 h.grammar h.words_are y.2)
behind-one first copy words a b (inr x) (inr y) =
    let h = x.1 in let k = y.1 in
    let same : x.0 ≡ y.0 = log_words-one (length copy) x.0 y.0 h.grammar k.grammar (sym h.words_are ∙ k.words_are) in
    of_tail-one first copy y.0 a b (subst (λ (es : List Entry). IsPlaceFault first (length es) copy a ⊎ IsNoTree first copy es a) same x.2) y.2

behind-moved : (f g : ℕ) (xs ys : List CopiedPage) (u v : List ℕ) (fault : ImageFault) → (f ≡ g) × (xs ≡ ys) × (u ≡ v) → IsFaultBehind f xs u fault → IsFaultBehind g ys v fault
behind-moved f g xs ys u v fault same is =
    subst (λ (ws : List ℕ). IsFaultBehind g ys ws fault) same.2 (subst (λ (ps : List CopiedPage). IsFaultBehind g ps u fault) same.1 (subst (λ (n : ℕ). IsFaultBehind n xs u fault) same.0 is))

-- bytes have one first fault
pub image_fault-one : (bytes : List ℕ) (a b : ImageFault) → IsImageFault bytes a → IsImageFault bytes b → a ≡ b
image_fault-one bytes a b (inl x) (inl y) = let same : Some a ≡ Some b = sym x ∙ y in cc
image_fault-one bytes a b (inl x) (inr y) = let no : None ≡ Some a = sym (front-none bytes y.first y.copy y.words y.laid_out) ∙ x in absurd (cc)
image_fault-one bytes a b (inr x) (inl y) = let no : None ≡ Some b = sym (front-none bytes x.first x.copy x.words x.laid_out) ∙ y in absurd (cc)
image_fault-one bytes a b (inr x) (inr y) =
    let same = laid_out-one bytes x.first y.first x.copy y.copy x.words y.words x.laid_out y.laid_out in
    behind-one y.first y.copy y.words a b (behind-moved x.first y.first x.copy y.copy x.words y.words a same x.behind) y.behind

-- .. and an image file that restores a lawful memory has none
pub image_file-no_fault : (bytes : List ℕ) (copy : List CopiedPage) (tail : List Entry) (fault : ImageFault) → IsImageFile bytes copy tail → IsLawfulMemory (length copy) 1 (restored copy tail) → IsImageFault bytes fault → ⊥
image_file-no_fault bytes copy tail fault is lawful (inl x) = let no : None ≡ Some fault = sym (front-none bytes (first_place copy) copy (log_words tail) is.laid_out) ∙ x in cc
image_file-no_fault bytes copy tail fault is lawful (inr y) =
    let same = laid_out-one bytes y.first (first_place copy) y.copy copy y.words (log_words tail) y.laid_out is.laid_out in
    here (behind-moved y.first (first_place copy) y.copy copy y.words (log_words tail) fault same y.behind)
  where
    nothing : IsPlaceFault (first_place copy) (length tail) copy fault ⊎ IsNoTree (first_place copy) copy tail fault → ⊥
    nothing (inl p) = let no : true ≡ false = sym (is.places p.page p.inside) ∙ p.wrong in cc
    nothing (inr n) = n.none lawful

    here : IsFaultBehind (first_place copy) copy (log_words tail) fault → ⊥
    here (inl t) = tail-no_fault (length copy) (log_words tail) tail t.0 is.grammar refl t.2
    here (inr r) =
        let h = r.1 in
        let same : r.0 ≡ tail = log_words-one (length copy) r.0 tail h.grammar is.grammar (sym h.words_are) in
        nothing (subst (λ (es : List Entry). IsPlaceFault (first_place copy) (length es) copy fault ⊎ IsNoTree (first_place copy) copy es fault) same r.2)

-- bytes are the file of one copy and one tail
pub image_file-one : (bytes : List ℕ) (xs ys : List CopiedPage) (s t : List Entry) → IsImageFile bytes xs s → IsImageFile bytes ys t → (xs ≡ ys) × (s ≡ t)
image_file-one bytes xs ys s t a b =
    let same = laid_out-one bytes (first_place xs) (first_place ys) xs ys (log_words s) (log_words t) a.laid_out b.laid_out in
    (same.1, log_words-one (length ys) s t (subst (λ (ps : List CopiedPage). AreInGrammar (length ps) s) same.1 a.grammar) b.grammar same.2)

-- what is read of an image file that restores a lawful memory is that memory
pub only_image : (bytes : List ℕ) (r : Result Restored ImageFault) → IfOk r (λ x. IsRestored bytes x.memory) → IfErr r (λ fault. (fault ≡ OutOfMemory) ⊎ IsImageFault bytes fault)
    → (copy : List CopiedPage) (tail : List Entry) → IsImageFile bytes copy tail → IsLawfulMemory (length copy) 1 (restored copy tail) → MatchResult r (λ x. IsRestoredMemory copy tail x.memory) (λ fault. fault ≡ OutOfMemory)
only_image bytes (Ok x) found fault copy tail is lawful =
    let same = image_file-one bytes found.copy copy found.tail tail found.file is in
    subst (λ (es : List Entry). IsRestoredMemory copy es x.memory) same.1 (subst (λ (ps : List CopiedPage). IsRestoredMemory ps found.tail x.memory) same.0 found.memory_is)
only_image bytes (Err e) found (inl memory) copy tail is lawful = memory
only_image bytes (Err e) found (inr fault) copy tail is lawful = absurd (image_file-no_fault bytes copy tail e is lawful fault)

-- bytes with a fault are refused, and for no other fault
pub only_image_fault : (bytes : List ℕ) (r : Result Restored ImageFault) → IfOk r (λ x. IsRestored bytes x.memory) → IfErr r (λ fault. (fault ≡ OutOfMemory) ⊎ IsImageFault bytes fault)
    → (other : ImageFault) → IsImageFault bytes other → MatchResult r (λ x. ⊥) (λ fault. (fault ≡ OutOfMemory) ⊎ (fault ≡ other))
only_image_fault bytes (Ok x) found fault other is = image_file-no_fault bytes found.copy found.tail other found.file found.lawful is
only_image_fault bytes (Err e) found (inl memory) other is = inl memory
only_image_fault bytes (Err e) found (inr fault) other is = inr (image_fault-one bytes e other fault is)
