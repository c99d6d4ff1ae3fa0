-- What stands behind the front restores, and its faults.
use Rattle.std.specs.Prelude.{slice_index, nat_le, ◌&&◌, Result, Ok, Err, IfOk, IfErr}
use Rattle.std.proofs.Common.{◌≡◌, ◌⊎◌, ℕ, ◌+◌, ◌-◌, ◌*◌, ◌^◌, ◌<◌, ◌≤◌, ◌∙◌, true, List, [], length, take, drop, refl, sym, ap, subst, arith, inl, inr}
use Rattle.std.proofs.lemmas.Bool.{cases_eq, cases_lt, eqb-true, leb-true, and_parts, ne_eqb}
use Rattle.std.proofs.lemmas.List.{get_or-map, get_or_past, length-drop, length-map}
use Rattle.ib_map.specs.declared.TheConstants.{PAGE_WORDS}
use Rattle.ib_map.specs.Writes.{page_at, index_at}
use Rattle.ib_page.specs.Memory.{image_at, word_at}
use Rattle.ib_logrec.specs.declared.entry.Entry.{Entry}
use Rattle.ib_logrec.specs.declared.fault.LogFault.{LogFault}
use Rattle.ib_logrec.specs.declared.fault.LogFault.TheVariants.{OutOfMemory as LogOutOfMemory}
use Rattle.ib_logrec.specs.Law.{AreInGrammar}
use Rattle.ib_logrec.specs.Log.{after, log_words}
use Rattle.ib_logrec.proofs.LogLaws.{used-least}
use Rattle.ib_walk.specs.Words.{IsLawfulMemory}
use Rattle.ib_tree.proofs.MemoryLaws.{memory_after-beyond}
use Rattle.ib_image.specs.declared.copy.CopiedPage.{CopiedPage}
use Rattle.ib_image.specs.declared.fault.ImageFault.{ImageFault}
use Rattle.ib_image.specs.declared.fault.ImageFault.TheVariants.{NotATree, OutOfMemory}
use Rattle.ib_image.specs.Applied.{IsApplied, start_of}
use Rattle.ib_image.specs.Copies.{first_place, page_in, restored}
use Rattle.ib_image.specs.ImageFaults.{ArePlaces, HasTail, IsFaultBehind, IsImageFault, IsPlaceFault, is_place}
use Rattle.ib_image.specs.declared.restored.Restored.{Restored}
use Rattle.ib_image.specs.ImageFiles.{IsLaidOut, number_of}
use Rattle.ib_image.specs.Parsed.{copy_in, images_of, of_tail, starts_from, tail_in}
use Rattle.ib_image.specs.Restored.{IsRestored, IsRestoredBehind, IsRestoredMemory}
use Rattle.ib_image.specs.Tails.{IsTailRefused}
use Rattle.ib_image.proofs.CopyLaws.{some-pages}
use Rattle.ib_image.proofs.ParsedLaws.{length-copy_in, rest-is}

-- the place of page 0 is the first
pub first-is : (first entries : ℕ) (copy : List CopiedPage) → 0 < length copy → ArePlaces first entries copy (length copy) → first_place copy ≡ first
first-is first entries copy some places = eqb-true (first_place copy) first (places 0 some)

-- no place is below the first, or behind the tail
pub place-near : (first entries page place : ℕ) → is_place first entries page place ≡ true → (first ≤ place) × (place ≤ first + entries)
place-near first entries page place is = elim (cases_eq page 0) [
  | inl z ↦
      let here : is_place first entries 0 place ≡ true = subst (λ (n : ℕ). is_place first entries n place ≡ true) z is in
      let same = eqb-true place first here in (omega arith, omega arith)
  | inr some ↦
      let off = ne_eqb page 0 some in
      let both : (nat_le first place && nat_le place (first + entries)) ≡ true = rw off at is in
      let parts = and_parts (nat_le first place) (nat_le place (first + entries)) both in
      (leb-true first place parts.0, leb-true place (first + entries) parts.1)
]

-- a tail applied to the images of a copy, to each from its place on, restores what the copy and the tail do
pub applied-memory : (first : ℕ) (copy : List CopiedPage) (images : List (List ℕ)) (starts : List ℕ) (tail : List Entry) (memory : List (List ℕ)) → first_place copy ≡ first → images ≡ images_of copy → starts ≡ starts_from first copy
    → IsApplied images starts tail memory → IsRestoredMemory copy tail memory
applied-memory first copy images starts tail memory zero-is images-are starts-are h =
    let none : CopiedPage = record { image = []; place = 0 } in
    let long = ap length images-are ∙ length-map copy (λ (c : CopiedPage). c.image) in
    record {
      size = h.size ∙ long;
      words = λ place lt.
          let page : page_at place < length copy = omega arith in
          let within : place < length images * PAGE_WORDS = omega arith in
          let image = ap (λ (is : List (List ℕ)). image_at is (page_at place)) images-are ∙ get_or-map (λ (c : CopiedPage). c.image) copy (page_at place) none [] page in
          let start = ap (λ (ns : List ℕ). start_of ns place) starts-are ∙ (get_or-map (λ (c : CopiedPage). c.place - first) copy (page_at place) none 0 page ∙ ap (λ (m : ℕ). (page_in copy (page_at place)).place - m) (sym zero-is)) in
          h.words place within
          ∙ (ap (λ n. after (drop n tail) place (word_at images place)) start
          ∙ ap (λ ws. after (drop ((page_in copy (page_at place)).place - first_place copy) tail) place (slice_index ws (index_at place))) image);
    }

-- where no page is, no word is restored
pub restored-beyond : (copy : List CopiedPage) (tail : List Entry) → AreInGrammar (length copy) tail → (place : ℕ) → length copy * PAGE_WORDS ≤ place → restored copy tail place ≡ 0
restored-beyond copy tail grammar place far =
    let none : CopiedPage = record { image = []; place = 0 } in
    let no_page : page_in copy (page_at place) ≡ none = get_or_past copy (page_at place) none (omega arith) in
    let from : 0 - first_place copy ≡ 0 = omega arith in
    ap (λ (c : CopiedPage). after (drop (c.place - first_place copy) tail) place (slice_index c.image (index_at place))) no_page
    ∙ (ap (λ n. after (drop n tail) place 0) from ∙ memory_after-beyond (λ _. 0) (length copy) tail place grammar far)

pub no-word : (memory : List (List ℕ)) (place : ℕ) → length memory * PAGE_WORDS ≤ place → word_at memory place ≡ 0
no-word memory place far =
    let no_image : image_at memory (page_at place) ≡ [] = get_or_past memory (page_at place) [] (omega arith) in ap (λ (ws : List ℕ). slice_index ws (index_at place)) no_image

-- the words of the images are those that are restored, also there
pub memory-same : (copy : List CopiedPage) (tail : List Entry) (memory : List (List ℕ)) → AreInGrammar (length copy) tail → IsRestoredMemory copy tail memory → word_at memory ≡ restored copy tail
memory-same copy tail memory grammar h = λ i place. each place i
  where
    each : (place : ℕ) → word_at memory place ≡ restored copy tail place
    each place = elim (cases_lt place (length copy * PAGE_WORDS)) [
      | inl lt ↦ h.words place lt
      | inr far ↦ let size = h.size in no-word memory place (omega arith) ∙ sym (restored-beyond copy tail grammar place far)
    ]

-- the entries that were read are the tail, behind the pages
module _ (first : ℕ) (numbers : List ℕ) (pages at : ℕ) (at-is : at ≡ number_of pages) where
  pub tail-refused : (fault : LogFault) → IsTailRefused pages (take (length numbers - at) (drop at numbers)) fault → IsTailRefused (length (copy_in numbers pages)) (tail_in numbers pages) fault
  tail-refused fault is =
      subst (λ (n : ℕ). IsTailRefused n (tail_in numbers pages) fault) (sym (length-copy_in numbers pages)) (subst (λ (ws : List ℕ). IsTailRefused pages ws fault) (rest-is numbers pages at at-is) is)

  pub tail-read : (tail : List Entry) → take (length numbers - at) (drop at numbers) ≡ log_words tail → AreInGrammar pages tail → HasTail (copy_in numbers pages) (tail_in numbers pages) tail
  tail-read tail words grammar = record {
    grammar = subst (λ (n : ℕ). AreInGrammar n tail) (sym (length-copy_in numbers pages)) grammar;
    words_are = sym (rest-is numbers pages at at-is) ∙ words;
  }

  pub tail-short : (tail : List Entry) → take (length numbers - at) (drop at numbers) ≡ log_words tail → length numbers < 2 ^ 32 → length tail < 2 ^ 32
  tail-short tail words few =
      let least = used-least tail in let same = ap length (sym (rest-is numbers pages at at-is) ∙ words) in let rest = length-drop (number_of pages) numbers in omega arith

pub all-places : (first count pages : ℕ) (copy : List CopiedPage) (tail : List Entry) → count ≡ length tail → length copy ≡ pages → ArePlaces first count copy pages → ArePlaces first (length tail) copy (length copy)
all-places first count pages copy tail count-is size places =
    subst (λ (n : ℕ). ArePlaces first (length tail) copy n) (sym size) (subst (λ (n : ℕ). ArePlaces first n copy pages) count-is places)

-- what stands behind the front, with a tail whose places may stand
module _ (first : ℕ) (copy : List CopiedPage) (words : List ℕ) (tail : List Entry) (has : HasTail copy words tail) where
  pub place-behind : (fault : ImageFault) → IsPlaceFault first (length tail) copy fault → IsFaultBehind first copy words fault
  place-behind fault is = inr (tail, has, inl is)

  module _ (some : 0 < length copy) (places : ArePlaces first (length tail) copy (length copy)) (images : List (List ℕ)) (starts : List ℕ) (images-are : images ≡ images_of copy) (starts-are : starts ≡ starts_from first copy) where
    pub images-size : length images ≡ length copy
    images-size = ap length images-are ∙ length-map copy (λ (c : CopiedPage). c.image)

    pub starts-size : length starts ≡ length copy
    starts-size = ap length starts-are ∙ length-map copy (λ (c : CopiedPage). c.place - first)

    memory-is : (memory : List (List ℕ)) → IsApplied images starts tail memory → IsRestoredMemory copy tail memory
    memory-is memory h = applied-memory first copy images starts tail memory (first-is first (length tail) copy some places) images-are starts-are h

    pub restored-behind : (memory : List (List ℕ)) → IsApplied images starts tail memory → IsLawfulMemory (length images) 1 (word_at memory) → IsRestoredBehind first copy words memory
    restored-behind memory h lawful = record {
      tail = tail;
      has = has;
      places = places;
      memory_is = memory-is memory h;
      lawful = subst (IsLawfulMemory (length copy) 1) (memory-same copy tail memory has.grammar (memory-is memory h)) (subst (λ (n : ℕ). IsLawfulMemory n 1 (word_at memory)) images-size lawful);
    }

    pub no-tree-behind : (fault : ImageFault) → (fault ≡ NotATree) × (memory : List (List ℕ)) × IsApplied images starts tail memory × (IsLawfulMemory (length images) 1 (word_at memory) → ⊥) → IsFaultBehind first copy words fault
    no-tree-behind fault found = let memory = found.1 in let h = found.2 in inr (
      tail,
      has,
      inr (record {
        places = places;
        none = λ lawful. found.3 (subst (λ (n : ℕ). IsLawfulMemory n 1 (word_at memory)) (sym images-size) (subst (IsLawfulMemory (length copy) 1) (sym (memory-same copy tail memory has.grammar (memory-is memory h))) lawful));
        is = found.0;
      }),
    )

    pub restored-result : (r : Result Restored ImageFault) → IfOk r (λ x. IsApplied images starts tail x.memory) → IfOk r (λ x. IsLawfulMemory (length images) 1 (word_at x.memory)) → IfOk r (λ x. IsRestoredBehind first copy words x.memory)
    restored-result (Ok x) applied lawful = restored-behind x.memory applied lawful
    restored-result (Err fault) applied lawful = tt

    pub fault-result : (r : Result Restored ImageFault) → IfErr r (λ fault. (fault ≡ OutOfMemory) ⊎ ((fault ≡ NotATree) × (memory : List (List ℕ)) × IsApplied images starts tail memory × (IsLawfulMemory (length images) 1 (word_at memory) → ⊥)))
        → IfErr r (λ fault. (fault ≡ OutOfMemory) ⊎ IsFaultBehind first copy words fault)
    fault-result (Ok x) is = tt
    fault-result (Err fault) (inl memory) = inl memory
    fault-result (Err fault) (inr none) = inr (no-tree-behind fault none)

-- the first fault of the tail's words is one behind the front
pub tail-behind : (first : ℕ) (copy : List CopiedPage) (words : List ℕ) (fault : LogFault) → IsTailRefused (length copy) words fault → (of_tail fault ≡ OutOfMemory) ⊎ IsFaultBehind first copy words (of_tail fault)
tail-behind first copy words LogOutOfMemory is = inl refl
tail-behind first copy words fault is = inr (inl (fault, refl, is))

-- the bytes restore what stands behind their front restores
pub restored-file : (bytes : List ℕ) (first : ℕ) (copy : List CopiedPage) (words : List ℕ) (memory : List (List ℕ)) → IsLaidOut bytes first copy words → IsRestoredBehind first copy words memory → IsRestored bytes memory
restored-file bytes first copy words memory laid_out r =
    let zero-is = sym (first-is first (length r.tail) copy (some-pages (length copy) laid_out.space) r.places) in
    let here = subst (λ (n : ℕ). IsLaidOut bytes n copy words) zero-is laid_out in
    record {
      copy = copy;
      tail = r.tail;
      file = record {
        laid_out = subst (λ (ws : List ℕ). IsLaidOut bytes (first_place copy) copy ws) (let h = r.has in h.words_are) here;
        grammar = let h = r.has in h.grammar;
        places = subst (λ (n : ℕ). ArePlaces n (length r.tail) copy (length copy)) zero-is r.places;
      };
      memory_is = r.memory_is;
      lawful = r.lawful;
    }

pub fault-file : (bytes : List ℕ) (first : ℕ) (copy : List CopiedPage) (words : List ℕ) (fault : ImageFault) → IsLaidOut bytes first copy words → (fault ≡ OutOfMemory) ⊎ IsFaultBehind first copy words fault → (fault ≡ OutOfMemory) ⊎ IsImageFault bytes fault
fault-file bytes first copy words fault laid_out (inl memory) = inl memory
fault-file bytes first copy words fault laid_out (inr behind) = inr (inr (record { first = first; copy = copy; words = words; laid_out = laid_out; behind = behind }))

module _ (bytes : List ℕ) (first : ℕ) (copy : List CopiedPage) (words : List ℕ) (laid_out : IsLaidOut bytes first copy words) where
  pub restored-bytes : (r : Result Restored ImageFault) → IfOk r (λ x. IsRestoredBehind first copy words x.memory) → IfOk r (λ x. IsRestored bytes x.memory)
  restored-bytes (Ok x) is = restored-file bytes first copy words x.memory laid_out is
  restored-bytes (Err fault) is = tt

  pub fault-bytes : (r : Result Restored ImageFault) → IfErr r (λ fault. (fault ≡ OutOfMemory) ⊎ IsFaultBehind first copy words fault) → IfErr r (λ fault. (fault ≡ OutOfMemory) ⊎ IsImageFault bytes fault)
  fault-bytes (Ok x) is = tt
  fault-bytes (Err fault) is = fault-file bytes first copy words fault laid_out is
