-- What is read off the words of a closed space.
use Rattle.std.proofs.Common.{◌≡◌, ℕ, zero, suc, ◌+◌, ◌*◌, ◌<◌, ◌≤◌, true, List, [], ◌∷◌, ◌++◌, take, drop, length, refl, sym, ap, subst, ◌∙◌, arith, append_assoc, append-nil, length-append}
use Rattle.std.specs.Prelude.{slice_index, slice_index_or}
use Rattle.std.proofs.lemmas.Bool.Decides.{nat_tests}
use Rattle.std.proofs.lemmas.List.{drop_at, ext_get_or, length-drop, take_at}
use Rattle.ib_map.specs.declared.call.LoggedChange.{LoggedChange}
use Rattle.ib_map.specs.Space.{has_pages}
use Rattle.ib_map.specs.Writes.{page_at, index_at, word_place, write_words}
use Rattle.ib_map.specs.declared.TheConstants.{PAGE_WORDS}
use Rattle.ib_page.specs.Memory.{word_at}
use Rattle.ib_layout.specs.Geometry.{Sizes}
use Rattle.ib_layout.specs.Places.{page_place}
use Rattle.ib_logrec.specs.declared.entry.Entry.{Entry}
use Rattle.ib_logrec.specs.declared.entry.TheConstants.{HEAD_WORDS}
use Rattle.ib_logrec.specs.declared.head.Head.{Head}
use Rattle.ib_logrec.specs.Grammar.{IsInGrammar}
use Rattle.ib_logrec.specs.Heads.{head_of, head_words, logged_head}
use Rattle.ib_logrec.specs.Law.{AreInGrammar}
use Rattle.ib_logrec.specs.Log.{history_of, log_words, memory_after, used}
use Rattle.ib_logrec.specs.Words.{words_of_entry}
use Rattle.ib_logrec.proofs.EntryLaws.{length-words_of_entry, words_of_entry-append}
use Rattle.ib_logrec.proofs.HeadLaws.{length-head_words}
use Rattle.ib_logrec.proofs.LogLaws.{history_of-push, log_words-append, log_words-push, used-append, used-least}
use Rattle.ib_walk.specs.Trees.{content_of, IsLawful}
use Rattle.ib_walk.specs.Words.{IsLawfulMemory, bits_of, image_of, memory_of}
use Rattle.ib_walk.proofs.ImageLaws.{length-image_of, word_of_image}
use Rattle.ib_page.specs.Space.{IsSpacePage}
use Rattle.ib_tree.specs.Logs.{pages_after}
use Rattle.ib_tree.specs.Roots.{HasRoot}
use Rattle.ib_tree.proofs.MemoryLaws.{bits_of-log, image_of-log, memory_of-log}
use Rattle.ib_leaf.specs.Calls.{CallLaw}
use Rattle.ib_runs.specs.Outcomes.{HasLogUnder, images_at, images_in}
use Rattle.ib_runs.specs.Shared.{LogLaws}

-- the history of the entries of a log before a place of its words
pub record IsReadTo (log : List Entry) (place : ℕ) (history : List LoggedChange) : Type 0 where
  pub front : List Entry
  pub back : List Entry
  pub are : log ≡ front ++ back
  pub at : place ≡ used front
  pub history_is : history ≡ history_of front

pub read_none : (log : List Entry) → IsReadTo log 0 []
read_none log = record { front = []; back = log; are = refl; at = refl; history_is = refl }

-- an entry that stands at a place of the log lies within it
pub entry_within : (log : List ℕ) (place : ℕ) (e : Entry) (rest : List ℕ) → drop place log ≡ words_of_entry e ++ rest → place + length (words_of_entry e) ≤ length log
entry_within log place e rest spelled =
    let a = ap length spelled in let b = length-append (words_of_entry e) rest in let d = length-drop place log in let some = length-words_of_entry e in omega arith

module _ (pages : ℕ) (words : List ℕ) (place : ℕ) (history : List LoggedChange) (log : List Entry) (grammar : AreInGrammar pages log) (spelled : words ≡ log_words log) where
  -- the entry that stands at a place before the end
  pub record StandsNext : Type 0 where
    pub front : List Entry
    pub e : Entry
    pub back : List Entry
    pub are : log ≡ front ++ e ∷ back
    pub at : place ≡ used front
    pub history_is : history ≡ history_of front
    pub grammar_is : IsInGrammar pages e
    pub words_are : drop place words ≡ words_of_entry e ++ log_words back

  grammar-at : (front back : List Entry) (e : Entry) → AreInGrammar pages (front ++ e ∷ back) → IsInGrammar pages e
  grammar-at [] back e are = are.0
  grammar-at (x ∷ front) back e are = grammar-at front back e are.1

  next-of : (front back : List Entry) → log ≡ front ++ back → place ≡ used front → history ≡ history_of front → place < length words → StandsNext
  next-of front [] are at is lt = absurd (let a = ap length spelled in let b = ap used (are ∙ append-nil front) in omega arith)
  next-of front (e ∷ back) are at is lt = record {
    front = front;
    e = e;
    back = back;
    are = are;
    at = at;
    history_is = is;
    grammar_is = grammar-at front back e (subst (AreInGrammar pages) are grammar);
    words_are = ap (drop place) (spelled ∙ (ap log_words are ∙ log_words-append front (e ∷ back))) ∙ drop_at (log_words front) (log_words (e ∷ back)) place (sym at);
  }

  pub stands_next : IsReadTo log place history → place < length words → StandsNext
  stands_next r lt = next-of r.front r.back r.are r.at r.history_is lt

  -- the entry lies within the words
  pub next_within : (s : StandsNext) (head : Head) → head ≡ head_of s.e → place + (HEAD_WORDS + 2 * head.writes) ≤ length words
  next_within s head is =
      let a = entry_within words place s.e (log_words s.back) s.words_are in let b = length-words_of_entry s.e in let w = ap (λ (h : Head). h.writes) is in omega arith

  -- the head of the entry there was read
  pub read_more : (s : StandsNext) (head : Head) → head ≡ head_of s.e → (next : ℕ) → next ≡ place + (HEAD_WORDS + 2 * head.writes) → (more : List LoggedChange) → more ≡ history ++ logged_head head ∷ [] → IsReadTo log next more
  read_more s head one next next_is more more_is = record {
    front = s.front ++ s.e ∷ [];
    back = s.back;
    are = s.are ∙ sym (append_assoc s.front (s.e ∷ []) s.back);
    at =
        let a = s.at in let b = ap length (log_words-push s.front s.e) in let c = length-append (log_words s.front) (words_of_entry s.e) in
        let d = length-words_of_entry s.e in let w = ap (λ (h : Head). h.writes) one in omega arith;
    history_is = more_is ∙ (ap (λ hs. hs ++ logged_head head ∷ []) s.history_is ∙ (ap (λ h. history_of s.front ++ logged_head h ∷ []) one ∙ sym (history_of-push s.front s.e)));
  }

  read-end : (front back : List Entry) → log ≡ front ++ back → place ≡ used front → length words ≤ place → log ≡ front
  read-end front [] are at le = are ∙ append-nil front
  read-end front (e ∷ back) are at le =
      absurd (let a = ap length spelled in let b = ap used are in let c = used-append front (e ∷ back) in let d = used-least (e ∷ back) in omega arith)

  -- all of the log was read
  pub read_all : IsReadTo log place history → length words ≤ place → history ≡ history_of log
  read_all r le = r.history_is ∙ ap history_of (sym (read-end r.front r.back r.are r.at le))

-- as many words from a place of the log on as a head has are the head of the entry there
pub head_there : (words log : List ℕ) (place : ℕ) (e : Entry) (rest : List ℕ) → words ≡ take HEAD_WORDS (drop place log) → drop place log ≡ words_of_entry e ++ rest → words ≡ head_words (head_of e) ++ []
head_there words log place e rest made spelled =
    made ∙ ap (take HEAD_WORDS) (spelled ∙ words_of_entry-append e rest) ∙ take_at (head_words (head_of e)) (write_words e.writes ++ rest) HEAD_WORDS (length-head_words (head_of e)) ∙ sym (append-nil (head_words (head_of e)))

-- as many images as pages, each that of its page
pub length-images_at : (words : ℕ → ℕ) (page n : ℕ) → length (images_at words page n) ≡ n
length-images_at words page zero = refl
length-images_at words page (suc n) = ap suc (length-images_at words (page + 1) n)

pub image-at : (words : ℕ → ℕ) (page n k : ℕ) → k < n → slice_index_or (images_at words page n) k [] ≡ image_of words (page + k)
image-at words page zero k lt = absurd (omega arith)
image-at words page (suc n) zero lt = ap (image_of words) (let e : page ≡ page + 0 = omega arith in e)
image-at words page (suc n) (suc k) lt = image-at words (page + 1) n k (omega arith) ∙ ap (image_of words) (let e : page + 1 + k ≡ page + suc k = omega arith in e)

-- a word of an image of a closed space is the word at its place
module _ (sizes : Sizes) (words : List ℕ) where
  abbrev pub word_in : ℕ → ℕ
  word_in place = slice_index words (page_place sizes (page_at place) (index_at place))

  pub length-images_in : length (images_in sizes words) ≡ sizes.pages
  length-images_in = length-images_at word_in 0 sizes.pages

  pub image-in : (page : ℕ) → page < sizes.pages → slice_index_or (images_in sizes words) page [] ≡ image_of word_in page
  image-in page lt = image-at word_in 0 sizes.pages page lt ∙ ap (image_of word_in) (let e : 0 + page ≡ page = omega arith in e)

  pub word-in_image : (page index : ℕ) → index < PAGE_WORDS → slice_index (image_of word_in page) index ≡ slice_index words (page_place sizes page index)
  word-in_image page index low =
      let p : page_at (word_place page index) ≡ page = omega arith in
      let i : index_at (word_place page index) ≡ index = omega arith in
      word_of_image word_in page index low ∙ (λ k. slice_index words (page_place sizes (p k) (i k)))

  pub words-in : (page index : ℕ) → page < sizes.pages → index < PAGE_WORDS → slice_index (slice_index_or (images_in sizes words) page []) index ≡ slice_index words (page_place sizes page index)
  words-in page index lt low = ap (λ (ws : List ℕ). slice_index ws index) (image-in page lt) ∙ word-in_image page index low

  -- an image with these words is that of the page
  pub image-is : (page : ℕ) (image : List ℕ) → page < sizes.pages → length image ≡ PAGE_WORDS → ((index : ℕ) → index < PAGE_WORDS → slice_index image index ≡ slice_index words (page_place sizes page index))
      → image ≡ slice_index_or (images_in sizes words) page []
  image-is page image lt whole same =
      ext_get_or 0 image (image_of word_in page) (whole ∙ sym (length-image_of word_in page)) (λ index low. same index (omega arith) ∙ sym (word-in_image page index (omega arith)))
      ∙ sym (image-in page lt)

-- the trees of a closed space
module _ (law : CallLaw) (root : ℕ) (sizes : Sizes) (laws : LogLaws law root sizes.pages) (words : List ℕ) (log : List Entry) (fits : has_pages sizes.pages ≡ true) (h : HasLogUnder law sizes words log) (images : List (List ℕ))
    (size : length images ≡ sizes.pages)
    (same : (page index : ℕ) → page < sizes.pages → index < PAGE_WORDS → slice_index (slice_index_or images page []) index ≡ slice_index words (page_place sizes page index)) where
  in-grammar : AreInGrammar sizes.pages log
  in-grammar = laws.grammar log h.kept

  -- the images have the words after the log
  words-after : (place : ℕ) → place < sizes.pages * PAGE_WORDS → word_at images place ≡ memory_after law.start log place
  words-after place lt =
      let page = page_at place in
      let index = index_at place in
      let whole : word_place page index ≡ place = omega arith in
      let few : page < sizes.pages = omega arith in
      let in-page : index < PAGE_WORDS = omega arith in
      same page index few in-page ∙ (h.paged page index few in-page ∙ ap (memory_after law.start log) whole)

  pages-are : memory_of images ≡ pages_after law.start log
  pages-are = memory_of-log law.start sizes.pages laws.free log in-grammar images size words-after

  -- the walk of the images finds what the pages after the log have
  pub walked_is : (r : ℕ) → content_of (memory_of images) r ≡ content_of (pages_after law.start log) r
  walked_is r = ap (λ m. content_of m r) pages-are

  -- a page is the root of a tree of the images where it is one of a tree after the log
  pub has_root : (r : ℕ) → 1 ≤ r → r ≤ root → HasRoot images r
  has_root r some le =
      let least : 1 ≤ sizes.pages = grind (arith, nat_tests, fits) in
      let opened : IsLawfulMemory sizes.pages laws.roots (memory_after law.start log) = laws.memory log h.kept in
      let image = image_of-log law.start sizes.pages laws.free log in-grammar images size words-after least in
      let bits : bits_of sizes.pages (word_at images) ≡ bits_of sizes.pages (memory_after law.start log) = λ i page. bits_of-log law.start sizes.pages laws.free log in-grammar images size words-after least page i in
      let here : IsLawfulMemory sizes.pages laws.roots (word_at images) = record {
        space = subst (IsSpacePage sizes.pages) (sym image) opened.space;
        law = subst (λ m. IsLawful m (bits_of sizes.pages (word_at images)) laws.roots) (sym pages-are) (subst (λ b. IsLawful (pages_after law.start log) b laws.roots) (sym bits) opened.law);
      } in
      record {
        roots = laws.roots;
        few = laws.few;
        some = omega arith;
        within = let w = laws.within in omega arith;
        least = grind (arith, nat_tests, fits, size);
        most = grind (arith, nat_tests, fits, size);
        lawful = subst (λ n. IsLawfulMemory n laws.roots (word_at images)) (sym size) here;
      }
