-- Words as bytes, and bytes as words.
use Rattle.std.proofs.Common.{◌≡◌, ℕ, suc, ◌+◌, ◌*◌, ◌^◌, ◌<◌, ◌≤◌, List, [], ◌∷◌, ◌++◌, length, get_or, take, drop, refl, sym, ap, ◌∙◌, arith, inl, inr, length-append, length-take, length-drop, take-append-drop}
use Rattle.std.specs.Prelude.{Result, Ok, Err, IfOk, IfErr, MatchResult, None, true, ◌%◌, nat_le}
use Rattle.std.specs.Int.{w64, from_be_bytes}
use Rattle.std.proofs.lemmas.Nat.{be_bytes_8}
use Rattle.std.proofs.lemmas.List.{drop-drop, get_or-drop, get_or-take, get_or_past, get_or_default, nil_from_length, append_cancel_left, drop_at}
use Rattle.std.proofs.lemmas.List.Elements.{All-head, All-tail, All-cons}
use Rattle.std.proofs.lemmas.Bool.{cases_lt, eq-eqb, le-leb, leb-true, and_parts}
use Rattle.std.proofs.lemmas.List.Concat.{flat_map-cons}
use Rattle.byteorder.specs.Endian.{big_bytes, big_number, IsRead}
use Rattle.byteorder.specs.Numbers.{big_number-reads_back, big_from-lt, length-bytes_high_first}
use Rattle.ib_map.specs.declared.TheConstants.{MOST_PAGES}
use Rattle.ib_map.specs.declared.TheConstants.{LEAST_PAGES}
use Rattle.ib_map.specs.Space.{has_pages}
use Rattle.ib_logrec.specs.declared.fault.LogFault.{LogFault}
use Rattle.ib_logrec.specs.declared.fault.LogFault.TheVariants.{OutOfMemory}
use Rattle.ib_logrec.specs.Grammar.{IsFault}
use Rattle.ib_logrec.proofs.EntryLaws.{IsFault-none}
use Rattle.ib_replay.specs.declared.file.TheConstants.{FILE_FORM}
use Rattle.ib_replay.specs.Files.{LogFile, AreWords, word_bytes, file_with, file_of, file_number, file_fault, file_fault_with}

abbrev pub AreBytes : List ℕ → Type 0
AreBytes bytes = (i : ℕ) → get_or bytes i 0 < 256

-- the first number of the bytes, in the words of std
big_number-front : (bytes : List ℕ) → 8 ≤ length bytes → big_number 8 bytes ≡ from_be_bytes w64 (take 8 bytes)
big_number-front (a ∷ b ∷ c ∷ d ∷ e ∷ f ∷ g ∷ h ∷ rest) long = omega arith
big_number-front _ long = absurd (omega arith)

-- the first eight bytes are those of the first number
pub big_bytes-front : (bytes : List ℕ) → 8 ≤ length bytes → AreBytes bytes → big_bytes 8 (big_number 8 bytes) ≡ take 8 bytes
big_bytes-front bytes long fits =
    be_bytes_8 (take 8 bytes) (big_number 8 bytes) (omega (arith, length-take 8 bytes)) (λ i. elim (cases_lt i 8) [
      | inl below ↦ rw (get_or-take 8 bytes i 0 below) (fits i)
      | inr past ↦ rw (get_or_past (take 8 bytes) i 0 (omega (arith, length-take 8 bytes))) (omega arith)
    ]) (big_number-front bytes long)

-- bytes are those of the words that are read from them
pub word_bytes-read : (words bytes : List ℕ) → length bytes ≡ 8 * length words → AreBytes bytes → IsRead big_number 8 bytes words → word_bytes words ≡ bytes
word_bytes-read [] bytes size fits read = sym (nil_from_length bytes (omega arith))
word_bytes-read (w ∷ ws) bytes size fits read =
    let first : w ≡ big_number 8 bytes = read 0 (omega arith) in
    let behind = word_bytes-read ws (drop 8 bytes) (omega (arith, length-drop 8 bytes)) (λ i. rw get_or-drop (fits (8 + i)))
    (λ k lt. let at : 8 * suc k ≡ 8 + 8 * k = omega arith in
    read (suc k) (omega arith) ∙ ap (λ n. big_number 8 (drop n bytes)) at ∙ ap (big_number 8) (sym (drop-drop (8 * k) 8 bytes))) in
    flat_map-cons (big_bytes 8) w ws ∙ ap (λ n. big_bytes 8 n ++ word_bytes ws) first
    ∙ ap (λ (xs : List ℕ). xs ++ word_bytes ws) (big_bytes-front bytes (omega arith) fits)
    ∙ ap (λ (xs : List ℕ). take 8 bytes ++ xs) behind ∙ take-append-drop 8 bytes

pub length-word_bytes : (words : List ℕ) → length (word_bytes words) ≡ 8 * length words
length-word_bytes [] = refl
length-word_bytes (w ∷ ws) =
    ap length (flat_map-cons (big_bytes 8) w ws) ∙ length-append (big_bytes 8 w) (word_bytes ws) ∙ omega (arith, length-word_bytes ws, length-bytes_high_first 8 w)

-- the first word of bytes
pub big_number-words : (w : ℕ) (ws : List ℕ) → w < 2 ^ 64 → big_number 8 (word_bytes (w ∷ ws)) ≡ w
big_number-words w ws fits = ap (big_number 8) (flat_map-cons (big_bytes 8) w ws) ∙ big_number-reads_back 8 w (word_bytes ws) (omega arith)

-- no two lists of words are the same bytes
pub word_bytes-one : (xs ys : List ℕ) → AreWords xs → AreWords ys → word_bytes xs ≡ word_bytes ys → xs ≡ ys
word_bytes-one [] [] xs_fit ys_fit same = refl
word_bytes-one [] (y ∷ ys) xs_fit ys_fit same = absurd (omega (arith, ap length same, length-word_bytes (y ∷ ys)))
word_bytes-one (x ∷ xs) [] xs_fit ys_fit same = absurd (omega (arith, ap length same, length-word_bytes (x ∷ xs)))
word_bytes-one (x ∷ xs) (y ∷ ys) xs_fit ys_fit same =
    let x_fits = All-head (λ w. w < 2 ^ 64) x xs xs_fit in
    let y_fits = All-head (λ w. w < 2 ^ 64) y ys ys_fit in
    let first : x ≡ y = sym (big_number-words x xs x_fits) ∙ ap (big_number 8) same ∙ big_number-words y ys y_fits in
    let apart : big_bytes 8 x ++ word_bytes xs ≡ big_bytes 8 x ++ word_bytes ys =
    sym (flat_map-cons (big_bytes 8) x xs) ∙ same ∙ flat_map-cons (big_bytes 8) y ys ∙ ap (λ n. big_bytes 8 n ++ word_bytes ys) (sym first) in
    let rest = word_bytes-one xs ys (All-tail (λ w. w < 2 ^ 64) x xs xs_fit) (All-tail (λ w. w < 2 ^ 64) y ys ys_fit) (append_cancel_left (big_bytes 8 x) _ _ apart) in
    λ i. first i ∷ rest i

-- a file of a log is no other log's
pub file_with-one : (form p q : ℕ) (xs ys : List ℕ) → form < 2 ^ 64 → p < 2 ^ 64 → q < 2 ^ 64 → AreWords xs → AreWords ys → file_with form p xs ≡ file_with form q ys → (p ≡ q) × (xs ≡ ys)
unfolding file_with
file_with-one form p q xs ys form_fits p_fits q_fits xs_fit ys_fit same =
    let fits : ℕ → Type 0 = λ w. w < 2 ^ 64 in
    let words = word_bytes-one (form ∷ p ∷ xs) (form ∷ q ∷ ys)
    (All-cons fits form (p ∷ xs) form_fits (All-cons fits p xs p_fits xs_fit))
    (All-cons fits form (q ∷ ys) form_fits (All-cons fits q ys q_fits ys_fit)) same in
    (cc, cc)

pub file_of-one : (p q : ℕ) (xs ys : List ℕ) → p < 2 ^ 64 → q < 2 ^ 64 → AreWords xs → AreWords ys → file_of p xs ≡ file_of q ys → (p ≡ q) × (xs ≡ ys)
file_of-one p q xs ys p_fits q_fits xs_fit ys_fit same = file_with-one FILE_FORM p q xs ys (omega arith) p_fits q_fits xs_fit ys_fit same

-- words that are read fit
pub words_fit : (words bytes : List ℕ) → AreBytes bytes → IsRead big_number 8 bytes words → AreWords words
words_fit words bytes fits read k d lt =
    let bound : big_number 8 (drop (8 * k) bytes) < 256 ^ 8 = big_from-lt 0 8 (drop (8 * k) bytes) (λ i. rw get_or-drop (fits (8 * k + i))) in
    rw (get_or_default words k d 0 lt, read k lt) bound

-- bytes that begin with the form are the file of the pages and words that are read from them
pub file_with-read : (form : ℕ) (bytes words : List ℕ) (pages : ℕ) → 16 ≤ length bytes → AreBytes bytes → big_number 8 bytes ≡ form → pages ≡ big_number 8 (drop 8 bytes)
    → word_bytes words ≡ drop 16 bytes → bytes ≡ file_with form pages words
unfolding file_with
file_with-read form bytes words pages long fits first second rest =
    let front : big_bytes 8 form ≡ take 8 bytes = ap (big_bytes 8) (sym first) ∙ big_bytes-front bytes (omega arith) fits in
    let next : big_bytes 8 pages ≡ take 8 (drop 8 bytes) = ap (big_bytes 8) second ∙ big_bytes-front (drop 8 bytes) (omega (arith, length-drop 8 bytes)) (λ i. rw get_or-drop (fits (8 + i))) in
    let last : word_bytes words ≡ drop 8 (drop 8 bytes) = rest ∙ sym (drop-drop 8 8 bytes) in
    let behind : word_bytes (pages ∷ words) ≡ drop 8 bytes =
    flat_map-cons (big_bytes 8) pages words ∙ ap (λ (xs : List ℕ). xs ++ word_bytes words) next ∙ ap (λ (xs : List ℕ). take 8 (drop 8 bytes) ++ xs) last ∙ take-append-drop 8 (drop 8 bytes) in
    sym (flat_map-cons (big_bytes 8) form (pages ∷ words) ∙ ap (λ (xs : List ℕ). xs ++ word_bytes (pages ∷ words)) front ∙ ap (λ (xs : List ℕ). take 8 bytes ++ xs) behind ∙ take-append-drop 8 bytes)

module _ (form : ℕ) (form_fits : form < 2 ^ 64) (pages : ℕ) (words : List ℕ) where
  pub length-file_with : length (file_with form pages words) ≡ 16 + 8 * length words
  unfolding file_with
  length-file_with = length-word_bytes (form ∷ pages ∷ words) ∙ omega arith

  file_number-0 : file_number (file_with form pages words) 0 ≡ form
  unfolding file_with
  file_number-0 = big_number-words form (pages ∷ words) form_fits

  file_number-1 : pages < 2 ^ 64 → file_number (file_with form pages words) 1 ≡ pages
  unfolding file_with
  file_number-1 fits =
      let behind : drop 8 (word_bytes (form ∷ pages ∷ words)) ≡ word_bytes (pages ∷ words) =
      ap (drop 8) (flat_map-cons (big_bytes 8) form (pages ∷ words)) ∙ drop_at (big_bytes 8 form) (word_bytes (pages ∷ words)) 8 (length-bytes_high_first 8 form) in
      ap (big_number 8) behind ∙ big_number-words pages words fits

pub length-file_of : (pages : ℕ) (words : List ℕ) → length (file_of pages words) ≡ 16 + 8 * length words
length-file_of pages words = length-file_with FILE_FORM (omega arith) pages words

no_fault : (form : ℕ) (bytes : List ℕ) → length bytes % 8 ≡ 0 → 16 ≤ length bytes → file_number bytes 0 ≡ form → has_pages (file_number bytes 1) ≡ true → file_fault_with form bytes ≡ None
unfolding file_fault_with
no_fault form bytes whole long first has = rw (eq-eqb _ _ whole, le-leb _ _ long, eq-eqb _ _ first, has) refl

pub has_pages-fits : (pages : ℕ) → has_pages pages ≡ true → pages < 2 ^ 64
has_pages-fits pages has = below pages (leb-true pages MOST_PAGES (and_parts (nat_le LEAST_PAGES pages) (nat_le pages MOST_PAGES) has).1)
  where
    below : (n : ℕ) → n ≤ MOST_PAGES → n < 2 ^ 64
    below n most = omega arith

-- a file has no fault
pub file_fault_with-none : (form : ℕ) → form < 2 ^ 64 → (pages : ℕ) (words : List ℕ) → has_pages pages ≡ true → file_fault_with form (file_with form pages words) ≡ None
file_fault_with-none form form_fits pages words has =
    let size = length-file_with form form_fits pages words in
    no_fault form (file_with form pages words) (omega arith) (omega arith) (file_number-0 form form_fits pages words) (ap has_pages (file_number-1 form form_fits pages words (has_pages-fits pages has)) ∙ has)

pub file_fault-none : (pages : ℕ) (words : List ℕ) → has_pages pages ≡ true → file_fault (file_of pages words) ≡ None
file_fault-none pages words has = file_fault_with-none FILE_FORM (omega arith) pages words has

-- what is read of a file is the log that it is the file of
pub only_log : (bytes : List ℕ) (r : Result LogFile LogFault) → IfOk r (λ log. bytes ≡ file_of log.pages log.words) → IfOk r (λ log. has_pages log.pages ≡ true)
    → IfOk r (λ log. AreWords log.words) → IfErr r (IsFault (file_fault bytes))
    → (pages : ℕ) (words : List ℕ) → has_pages pages ≡ true → AreWords words → bytes ≡ file_of pages words
    → MatchResult r (λ log. log ≡ record { pages = pages; words = words }) (λ fault. fault ≡ OutOfMemory)
only_log bytes (Ok log) found has fits fault pages words has' fits' is =
    let same = file_of-one log.pages pages log.words words (has_pages-fits log.pages has) (has_pages-fits pages has') fits fits' (sym found ∙ is) in
    λ i. record { pages = same.0 i; words = same.1 i }
only_log bytes (Err fault) found has fits is_fault pages words has' fits' is =
    IsFault-none fault (rw (is, file_fault-none pages words has') at is_fault)
