-- The file of a copy of a log and its tail, and what it restores.
use Rattle.std.specs.Prelude.{nat_le, ◌^◌, Result, Ok, Err, IfOk, IfErr, MatchResult}
use Rattle.std.proofs.Common.{◌≡◌, ◌⊎◌, ℕ, zero, suc, ◌+◌, ◌*◌, ◌<◌, ◌≤◌, ◌∙◌, true, List, [], ◌∷◌, length, drop, refl, sym, ap, subst, arith, inl, inr}
use Rattle.std.proofs.lemmas.Bool.{cases_eq, cases_lt, and_from, eq-eqb, le-leb, ne_eqb}
use Rattle.std.proofs.lemmas.List.Elements.{recursion_from_All}
use Rattle.std.proofs.lemmas.List.{get_or_default, length-drop}
use Rattle.ib_map.specs.Space.{has_pages}
use Rattle.ib_map.specs.declared.TheConstants.{PAGE_WORDS}
use Rattle.ib_map.specs.Writes.{word_place}
use Rattle.ib_page.specs.Memory.{word_at}
use Rattle.ib_page.specs.Space.{IsSpacePage}
use Rattle.ib_logrec.specs.declared.entry.Entry.{Entry}
use Rattle.ib_logrec.specs.Law.{AreInGrammar}
use Rattle.ib_logrec.specs.Log.{by_place, log_words, map_of, memory_after}
use Rattle.ib_walk.specs.Opening.{opening_word}
use Rattle.ib_walk.specs.Trees.{IsLawful, content_of}
use Rattle.ib_walk.specs.Words.{IsLawfulMemory, bits_of, image_of, memory_of, pages_of}
use Rattle.ib_walk.proofs.ImageLaws.{image_of-same, length-image_of, memory_of-beyond, pages_of-same}
use Rattle.ib_tree.specs.Logs.{pages_after}
use Rattle.ib_tree.specs.TreeLog.{IsTreeLog, opening}
use Rattle.ib_tree.proofs.LogLaws.{IsLawfulMemory-after, content_of-after}
use Rattle.ib_tree.proofs.MemoryLaws.{memory_of-after, pages_after-beyond}
use Rattle.ib_tree.proofs.OpeningLaws.{by_place-opening, opens, opens-empty}
use Rattle.ib_replay.specs.Files.{AreWords}
use Rattle.ib_replay.specs.Replays.{IsMemory}
use Rattle.ib_image.specs.declared.copy.CopiedPage.{CopiedPage}
use Rattle.ib_image.specs.Copies.{IsCopy, first_place, page_in, restored, tail_of}
use Rattle.ib_image.specs.declared.fault.ImageFault.{ImageFault}
use Rattle.ib_image.specs.declared.fault.ImageFault.TheVariants.{OutOfMemory}
use Rattle.ib_image.specs.declared.restored.Restored.{Restored}
use Rattle.ib_image.specs.ImageFaults.{IsImageFault, is_place}
use Rattle.ib_image.specs.ImageFiles.{image_bytes, image_numbers}
use Rattle.ib_image.specs.Restored.{IsFileOfCopy, IsImageFile, IsRestored, IsRestoredMemory}
use Rattle.ib_image.proofs.CopyLaws.{copy_restores, from-first, some-pages}
use Rattle.ib_image.proofs.OneImage.{only_image}
use Rattle.ib_image.proofs.RestoreLaws.{no-word, restored-beyond}

grammar-behind : (pages n : ℕ) (log : List Entry) → AreInGrammar pages log → AreInGrammar pages (drop n log)
grammar-behind pages zero log are = are
grammar-behind pages (suc n) [] are = tt
grammar-behind pages (suc n) (e ∷ es) are = grammar-behind pages n es are.1

place-may : (first entries page place : ℕ) → (page ≡ 0 → place ≡ first) → first ≤ place → place ≤ first + entries → is_place first entries page place ≡ true
place-may first entries page place zero-is low high = elim (cases_eq page 0) [
  | inl z ↦ subst (λ (n : ℕ). is_place first entries n place ≡ true) (sym z) (eq-eqb place first (zero-is z))
  | inr some ↦ let off = ne_eqb page 0 some in rw off (and_from (nat_le first place) (nat_le place (first + entries)) (le-leb first place low) (le-leb place (first + entries) high))
]

module _ (start : ℕ → ℕ) (pages : ℕ) (log : List Entry) (copy : List CopiedPage) (is : IsCopy start pages log copy) where
  -- bytes with a copy of a log and its tail are their image file
  pub copy-file : has_pages pages ≡ true → AreInGrammar pages log → first_place copy < 2 ^ 32 → AreWords (image_numbers (first_place copy) copy (log_words (tail_of copy log)))
      → IsImageFile (image_bytes (first_place copy) copy (log_words (tail_of copy log))) copy (tail_of copy log)
  copy-file has grammar small fits =
      let size = is.size in
      record {
        laid_out = record {
          space = subst (λ (n : ℕ). has_pages n ≡ true) (sym size) has;
          whole = recursion_from_All (λ (c : CopiedPage). length c.image ≡ PAGE_WORDS) copy (λ page d lt.
              ap (λ (c : CopiedPage). length c.image) (get_or_default copy page d (record { image = []; place = 0 }) lt) ∙ (ap length (is.copied page (omega arith)).image ∙ length-image_of _ page));
          small = small;
          fits = fits;
          file = refl;
        };
        grammar = subst (λ (n : ℕ). AreInGrammar n (tail_of copy log)) (sym size) (grammar-behind pages (first_place copy) log grammar);
        places = λ page lt.
            let here : page < pages = omega arith in
            let within = (is.copied page here).within in
            let rest = length-drop (first_place copy) log in
            let low = from-first start pages log copy is page here in
            place-may (first_place copy) (length (tail_of copy log)) page (page_in copy page).place (λ z. ap (λ (k : ℕ). (page_in copy k).place) z) low (omega arith);
      }

module _ (pages : ℕ) (log : List Entry) (copy : List CopiedPage) (has : has_pages pages ≡ true) (lawful : IsTreeLog pages log) (is : IsCopy (by_place opening pages) pages log copy) where
  grammar : AreInGrammar pages log
  grammar = lawful.grammar

  tail-grammar : AreInGrammar (length copy) (tail_of copy log)
  tail-grammar = subst (λ (n : ℕ). AreInGrammar n (tail_of copy log)) (sym is.size) (grammar-behind pages (first_place copy) log grammar)

  words-are : (place : ℕ) → place < pages * PAGE_WORDS → restored copy (tail_of copy log) place ≡ memory_after (opening_word 1) log place
  words-are place lt = copy_restores (by_place opening pages) pages log copy is place lt ∙ ap (λ (words : ℕ → ℕ). memory_after words log place) (by_place-opening pages)

  opened : IsLawfulMemory pages 1 (memory_after (opening_word 1) log)
  opened = subst (λ (words : ℕ → ℕ). IsLawfulMemory pages 1 (memory_after words log)) (by_place-opening pages) (IsLawfulMemory-after pages 1 (by_place opening pages) (opens pages has) (opens-empty pages) log lawful)

  page-zero : image_of (restored copy (tail_of copy log)) 0 ≡ image_of (memory_after (opening_word 1) log) 0
  page-zero =
      let some = some-pages pages has in
      image_of-same (memory_after (opening_word 1) log) (restored copy (tail_of copy log)) 0 (λ index in-page. words-are (word_place 0 index) (omega arith))

  bits-are : (page : ℕ) → bits_of pages (restored copy (tail_of copy log)) page ≡ bits_of pages (memory_after (opening_word 1) log) page
  unfolding bits_of
  bits-are page = let e = page-zero in rw e refl

  pages-are : (page : ℕ) → pages_of (restored copy (tail_of copy log)) page ≡ pages_after (opening_word 1) log page
  pages-are page = elim (cases_lt page pages) [
    | inl lt ↦ pages_of-same (memory_after (opening_word 1) log) (restored copy (tail_of copy log)) page (λ index in-page. words-are (word_place page index) (omega arith))
    | inr far ↦
        let size = is.size in
        let nowhere : pages_of (restored copy (tail_of copy log)) page ≡ memory_of [] page =
        pages_of-same (word_at []) (restored copy (tail_of copy log)) page (λ index in-page. restored-beyond copy (tail_of copy log) tail-grammar (word_place page index) (omega arith) ∙ sym (no-word [] (word_place page index) (omega arith))) in
        nowhere ∙ (memory_of-beyond [] page (omega arith) ∙ sym (pages_after-beyond pages log has grammar page far))
  ]

  -- what a copy of a lawful log and its tail restore is lawful
  pub restored-lawful : IsLawfulMemory pages 1 (restored copy (tail_of copy log))
  restored-lawful =
      let bits : bits_of pages (restored copy (tail_of copy log)) ≡ bits_of pages (memory_after (opening_word 1) log) = λ i page. bits-are page i in
      let memory : pages_of (restored copy (tail_of copy log)) ≡ pages_after (opening_word 1) log = λ i page. pages-are page i in
      record {
        space = subst (IsSpacePage pages) (sym page-zero) opened.space;
        law = subst (λ m. IsLawful m (bits_of pages (restored copy (tail_of copy log))) 1) (sym memory) (subst (λ b. IsLawful (pages_after (opening_word 1) log) b 1) (sym bits) opened.law);
      }

  -- .. and has the map of the log
  pub restored-content : content_of (pages_of (restored copy (tail_of copy log))) 1 ≡ map_of log
  restored-content =
      let memory : pages_of (restored copy (tail_of copy log)) ≡ pages_after (opening_word 1) log = λ i page. pages-are page i in
      ap (λ m. content_of m 1) memory
      ∙ (ap (λ (words : ℕ → ℕ). content_of (pages_after words log) 1) (sym (by_place-opening pages)) ∙ content_of-after pages 1 (by_place opening pages) (opens pages has) (opens-empty pages) log lawful)

  -- images with it are the memory after the log, and have its map
  module _ (memory : List (List ℕ)) (h : IsRestoredMemory copy (tail_of copy log) memory) where
    images-size : length memory ≡ pages
    images-size = h.size ∙ is.size

    images-words : (place : ℕ) → place < pages * PAGE_WORDS → word_at memory place ≡ memory_after (opening_word 1) log place
    images-words place lt = let size = is.size in h.words place (omega arith) ∙ words-are place lt

    pub restored-memory : IsMemory pages log memory
    restored-memory = record { size = images-size; words = images-words }

    pub restored-map : content_of (memory_of memory) 1 ≡ map_of log
    restored-map =
        ap (λ m. content_of m 1) (memory_of-after pages log has grammar memory images-size images-words)
        ∙ (ap (λ (words : ℕ → ℕ). content_of (pages_after words log) 1) (sym (by_place-opening pages)) ∙ content_of-after pages 1 (by_place opening pages) (opens pages has) (opens-empty pages) log lawful)

-- the bytes with a copy of a lawful log and its tail are their image file, which restores a lawful memory
pub file_of_copy : (bytes : List ℕ) (pages : ℕ) (log : List Entry) (copy : List CopiedPage) → IsFileOfCopy bytes pages log copy → IsImageFile bytes copy (tail_of copy log) × IsLawfulMemory (length copy) 1 (restored copy (tail_of copy log))
file_of_copy bytes pages log copy is = (
  subst (λ (bs : List ℕ). IsImageFile bs copy (tail_of copy log)) (sym is.file) (copy-file (by_place opening pages) pages log copy is.copied is.space (let l = is.lawful in l.grammar) is.small is.fits),
  (let copied = is.copied in subst (λ (n : ℕ). IsLawfulMemory n 1 (restored copy (tail_of copy log))) (sym copied.size) (restored-lawful pages log copy is.space is.lawful is.copied)),
)

-- what is read of the file of a copy of a lawful log and its tail is the memory after the log, and its map
pub log_image : (bytes : List ℕ) (pages : ℕ) (log : List Entry) (copy : List CopiedPage) → IsFileOfCopy bytes pages log copy
    → (r : Result Restored ImageFault) → IfOk r (λ x. IsRestored bytes x.memory) → IfOk r (λ x. x.map ≡ content_of (memory_of x.memory) 1) → IfErr r (λ fault. (fault ≡ OutOfMemory) ⊎ IsImageFault bytes fault)
    → MatchResult r (λ x. IsMemory pages log x.memory × (x.map ≡ map_of log)) (λ fault. fault ≡ OutOfMemory)
log_image bytes pages log copy is r found map-is fault =
    let file = file_of_copy bytes pages log copy is in
    each r map-is (only_image bytes r found fault copy (tail_of copy log) file.0 file.1)
  where
    each : (r : Result Restored ImageFault) → IfOk r (λ x. x.map ≡ content_of (memory_of x.memory) 1) → MatchResult r (λ x. IsRestoredMemory copy (tail_of copy log) x.memory) (λ fault. fault ≡ OutOfMemory)
        → MatchResult r (λ x. IsMemory pages log x.memory × (x.map ≡ map_of log)) (λ fault. fault ≡ OutOfMemory)
    each (Ok x) map-is h = (restored-memory pages log copy is.space is.lawful is.copied x.memory h, map-is ∙ restored-map pages log copy is.space is.lawful is.copied x.memory h)
    each (Err e) map-is h = h
