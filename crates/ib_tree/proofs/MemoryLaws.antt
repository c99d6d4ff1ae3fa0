-- The memory of a replay, a list of images, has the pages of the log.
use Rattle.std.proofs.Common.{◌≡◌, ℕ, ◌*◌, ◌<◌, ◌≤◌, inl, inr, Bool, true, false, List, [], ◌∷◌, ◌++◌, length, refl, sym, subst, ◌∙◌, arith}
use Rattle.std.proofs.lemmas.Bool.{cases_lt}
use Rattle.std.proofs.lemmas.Bool.Decides.{nat_tests}
use Rattle.ib_map.specs.Keys.{end_rank}
use Rattle.ib_map.specs.Map.{key_of}
use Rattle.ib_map.specs.Space.{has_pages}
use Rattle.ib_map.specs.Writes.{stored, writes_at, word_place, PlacesRise}
use Rattle.ib_map.specs.declared.TheConstants.{PAGE_WORDS}
use Rattle.ib_map.specs.declared.write.Write.{Write}
use Rattle.ib_map.proofs.WriteLaws.{stored-unwritten, writes_at-range}
use Rattle.ib_page.specs.Memory.{word_at}
use Rattle.ib_page.specs.Space.{IsSpacePage}
use Rattle.ib_logrec.specs.declared.entry.Entry.{Entry}
use Rattle.ib_logrec.specs.Law.{AreInGrammar, AreInGrammar-front}
use Rattle.ib_logrec.specs.Log.{after, memory_after, map_of}
use Rattle.ib_walk.specs.Opening.{opening_word}
use Rattle.ib_walk.specs.Pages.{PageMemory}
use Rattle.ib_walk.specs.Walk.{Visit}
use Rattle.ib_walk.specs.Trees.{free_page}
use Rattle.ib_walk.specs.Words.{image_of, bits_of, memory_of, pages_of}
use Rattle.ib_walk.proofs.ImageLaws.{image_of-same, pages_of-same, memory_of-beyond}
use Rattle.ib_walk.proofs.SpaceLaws.{pages_of-other}
use Rattle.ib_validate.specs.Patch.{IsSliced}
use Rattle.ib_validate.specs.PatchTest.{Positions, fresh_of, PassesTest}
use Rattle.ib_tree.specs.Logs.{pages_after}
use Rattle.ib_tree.specs.Tests.{writes_page, PassesEntry}

-- no word behind the space is written
stored-beyond : (ws : List Write) (end place word : ℕ) → PlacesRise 0 ws end → end ≤ place → stored ws place word ≡ word
stored-beyond ws end place word rise far = stored-unwritten ws place word (by (writes_at place ws) refl)
  where
    by : (b : Bool) → writes_at place ws ≡ b → writes_at place ws ≡ false
    by false is = is
    by true is = absurd (let r = writes_at-range 0 ws end place rise is in let a = r.1 in omega arith)

after-beyond : (pages : ℕ) (log : List Entry) (place word : ℕ) → AreInGrammar pages log → pages * PAGE_WORDS ≤ place → after log place word ≡ word
after-beyond pages [] place word are far = refl
after-beyond pages (e ∷ es) place word are far =
    let a = stored-beyond e.writes (pages * PAGE_WORDS) place word (let g = are.0 in g.places) far in
    after-beyond pages es place (stored e.writes place word) are.1 far ∙ a

pub memory_after-beyond : (opening : ℕ → ℕ) (pages : ℕ) (log : List Entry) (place : ℕ) → AreInGrammar pages log → pages * PAGE_WORDS ≤ place
    → memory_after opening log place ≡ opening place
memory_after-beyond opening pages log place are far = after-beyond pages log place (opening place) are far

-- images whose words are those after a log have its pages, its page 0 and its bits
module _ (start : ℕ → ℕ) (pages : ℕ) (free : (page : ℕ) → pages ≤ page → pages_of start page ≡ free_page) (log : List Entry) (are : AreInGrammar pages log) where
  -- the pages that the space does not have stay free
  pub log-beyond : (page : ℕ) → pages ≤ page → pages_after start log page ≡ free_page
  log-beyond page far = pages_of-same start (memory_after start log) page (λ index lt. memory_after-beyond start pages log (word_place page index) are (omega arith)) ∙ free page far

  module _ (images : List (List ℕ)) (size : length images ≡ pages)
      (words : (place : ℕ) → place < pages * PAGE_WORDS → word_at images place ≡ memory_after start log place) where
    pub memory_of-log : memory_of images ≡ pages_after start log
    memory_of-log = λ i page. each page i
      where
        each : (page : ℕ) → memory_of images page ≡ pages_after start log page
        each page = elim (cases_lt page pages) [
          | inl lt ↦ pages_of-same (memory_after start log) (word_at images) page (λ index in-page. words (word_place page index) (omega arith))
          | inr far ↦ memory_of-beyond images page (omega arith) ∙ sym (log-beyond page far)
        ]

    pub image_of-log : 1 ≤ pages → image_of (word_at images) 0 ≡ image_of (memory_after start log) 0
    image_of-log some = image_of-same (memory_after start log) (word_at images) 0 (λ index in-page. words (word_place 0 index) (omega arith))

    pub bits_of-log : 1 ≤ pages → (page : ℕ) → bits_of pages (word_at images) page ≡ bits_of pages (memory_after start log) page
    unfolding bits_of
    bits_of-log some page = let e = image_of-log some in rw e refl

-- the same behind the opening of one tree
module _ (pages : ℕ) (log : List Entry) (fits : has_pages pages ≡ true) (are : AreInGrammar pages log) where
  least : 1 < pages
  least = grind (arith, nat_tests, fits)

  free : (page : ℕ) → pages ≤ page → pages_of (opening_word 1) page ≡ free_page
  free page far = let some = least in pages_of-other 1 page (omega arith)

  pub pages_after-beyond : (page : ℕ) → pages ≤ page → pages_after (opening_word 1) log page ≡ free_page
  pages_after-beyond = log-beyond (opening_word 1) pages free log are

  module _ (images : List (List ℕ)) (size : length images ≡ pages)
      (words : (place : ℕ) → place < pages * PAGE_WORDS → word_at images place ≡ memory_after (opening_word 1) log place) where
    pub memory_of-after : memory_of images ≡ pages_after (opening_word 1) log
    memory_of-after = memory_of-log (opening_word 1) pages free log are images size words

    pub image_of-after : image_of (word_at images) 0 ≡ image_of (memory_after (opening_word 1) log) 0
    image_of-after = image_of-log (opening_word 1) pages free log are images size words (let some = least in omega arith)

    pub bits_of-after : (page : ℕ) → bits_of pages (word_at images) page ≡ bits_of pages (memory_after (opening_word 1) log) page
    bits_of-after = bits_of-log (opening_word 1) pages free log are images size words (let some = least in omega arith)

-- The test of an entry over images before and after it is that over the pages of the log.
module _ (pages : ℕ) (fits : has_pages pages ≡ true) (front : List Entry) (e : Entry) (are : AreInGrammar pages (front ++ e ∷ []))
    (before after : List (List ℕ)) (size_before : length before ≡ pages) (size_after : length after ≡ pages)
    (words_before : (place : ℕ) → place < pages * PAGE_WORDS → word_at before place ≡ memory_after (opening_word 1) front place)
    (words_after : (place : ℕ) → place < pages * PAGE_WORDS → word_at after place ≡ memory_after (opening_word 1) (front ++ e ∷ []) place)
    (good : ℕ → Visit → Bool) (ps : List ℕ) (old table : Positions) where
  abbrev pub PassesOver : PageMemory → PageMemory → (ℕ → ℕ) → (ℕ → ℕ) → Type 0
  PassesOver m new bits bits-after = PassesTest (writes_page e) m new good bits bits-after 1 end_rank ps old table

  abbrev pub IsSlicedOver : PageMemory → Type 0
  IsSlicedOver new = IsSliced new (fresh_of ps table 1) (map_of (front ++ e ∷ [])) (key_of e.change)

  m-is : memory_of before ≡ pages_after (opening_word 1) front
  m-is = memory_of-after pages front fits (AreInGrammar-front pages front (e ∷ []) are) before size_before words_before

  new-is : memory_of after ≡ pages_after (opening_word 1) (front ++ e ∷ [])
  new-is = memory_of-after pages (front ++ e ∷ []) fits are after size_after words_after

  bits-is : bits_of pages (word_at before) ≡ bits_of pages (memory_after (opening_word 1) front)
  bits-is = λ i page. bits_of-after pages front fits (AreInGrammar-front pages front (e ∷ []) are) before size_before words_before page i

  after-is : bits_of pages (word_at after) ≡ bits_of pages (memory_after (opening_word 1) (front ++ e ∷ []))
  after-is = λ i page. bits_of-after pages (front ++ e ∷ []) fits are after size_after words_after page i

  space-is : image_of (word_at after) 0 ≡ image_of (memory_after (opening_word 1) (front ++ e ∷ [])) 0
  space-is = image_of-after pages (front ++ e ∷ []) fits are after size_after words_after

  pub PassesEntry-images : (writes_page e 0 ≡ true → IsSpacePage pages (image_of (word_at after) 0))
      → PassesOver (memory_of before) (memory_of after) (bits_of pages (word_at before)) (bits_of pages (word_at after)) → IsSlicedOver (memory_of after)
      → PassesEntry pages 1 (opening_word 1) front e good ps old table
  PassesEntry-images space passes sliced = record {
    space = λ w. subst (IsSpacePage pages) space-is (space w);
    patch = subst (λ (T : Type 0). T) (λ i. PassesOver (m-is i) (new-is i) (bits-is i) (after-is i)) passes;
    content = subst IsSlicedOver new-is sliced;
  }

  pub images-PassesEntry : PassesEntry pages 1 (opening_word 1) front e good ps old table
      → (writes_page e 0 ≡ true → IsSpacePage pages (image_of (word_at after) 0))
      × PassesOver (memory_of before) (memory_of after) (bits_of pages (word_at before)) (bits_of pages (word_at after)) × IsSlicedOver (memory_of after)
  images-PassesEntry passes = (
    λ w. subst (IsSpacePage pages) (sym space-is) (passes.space w),
    subst (λ (T : Type 0). T) (sym (λ i. PassesOver (m-is i) (new-is i) (bits-is i) (after-is i))) passes.patch,
    subst IsSlicedOver (sym new-is) passes.content,
  )
