-- The words of a page among those of all pages.
use Rattle.std.proofs.Common.{◌≡◌, ℕ, zero, suc, ◌+◌, ◌*◌, ◌-◌, ◌<◌, ◌≤◌, List, [], ◌∷◌, length, get_or, refl, sym, ap, subst, ◌∙◌, arith}
use Rattle.std.proofs.lemmas.List.{get_or_past}
use Rattle.ib_map.specs.declared.TheConstants.{PAGE_WORDS}
use Rattle.ib_map.specs.Writes.{word_place, page_at, index_at}
use Rattle.ib_map.proofs.WriteLaws.{page_at-word, index_at-word}
use Rattle.ib_page.specs.Form.{page_of}
use Rattle.ib_page.specs.Memory.{image_at, word_at}
use Rattle.ib_page.specs.Page.{HoldsPage}
use Rattle.ib_page.specs.Words.{free_page_words}
use Rattle.ib_heap.proofs.FormLaws.{length-formed, page_of-free_page_words}
use Rattle.ib_heap.proofs.FreeLaws.{free_word}
use Rattle.ib_walk.specs.Trees.{free_page}
use Rattle.ib_walk.specs.Words.{state_of, words_at, image_of, pages_of, memory_of}

pub words_at-list : (words : ℕ → ℕ) (place : ℕ) (xs : List ℕ) → ((i : ℕ) → i < length xs → words (place + i) ≡ get_or xs i 0) → words_at words place (length xs) ≡ xs
words_at-list words place [] same = refl
words_at-list words place (x ∷ xs) same =
    let first : words place ≡ x = ap words (omega arith) ∙ same 0 (omega arith) in
    let rest = words_at-list words (place + 1) xs (λ i lt. ap words (omega arith) ∙ same (suc i) (omega arith)) in
    cc

pub words_at-same : (words new : ℕ → ℕ) (place n : ℕ) → ((q : ℕ) → place ≤ q → q < place + n → new q ≡ words q) → words_at new place n ≡ words_at words place n
words_at-same words new place zero same = refl
words_at-same words new place (suc n) same =
    let first = same place (omega arith) (omega arith) in
    let rest = words_at-same words new (place + 1) n (λ q l h. same q (omega arith) (omega arith)) in
    cc

length-words_at : (words : ℕ → ℕ) (place n : ℕ) → length (words_at words place n) ≡ n
length-words_at words place zero = refl
length-words_at words place (suc n) = ap suc (length-words_at words (place + 1) n)

-- a page has all its words
pub length-image_of : (words : ℕ → ℕ) (page : ℕ) → length (image_of words page) ≡ PAGE_WORDS
unfolding image_of
length-image_of words page = length-words_at words (page * PAGE_WORDS) PAGE_WORDS

-- the words of a page that are those of an image are the image
pub image_of-list : (words : ℕ → ℕ) (page : ℕ) (image : List ℕ) → length image ≡ PAGE_WORDS
    → ((index : ℕ) → index < PAGE_WORDS → words (word_place page index) ≡ get_or image index 0) → image_of words page ≡ image
unfolding image_of
image_of-list words page image size same =
    ap (words_at words (page * PAGE_WORDS)) (sym size) ∙ words_at-list words (page * PAGE_WORDS) image (λ i lt. same i (omega arith))

-- a page none of whose words has changed is as it was
pub image_of-same : (words new : ℕ → ℕ) (page : ℕ) → ((index : ℕ) → index < PAGE_WORDS → new (word_place page index) ≡ words (word_place page index)) → image_of new page ≡ image_of words page
unfolding image_of
image_of-same words new page same =
    words_at-same words new (page * PAGE_WORDS) PAGE_WORDS (λ q low high. subst (λ n. new n ≡ words n) (omega arith) (same (q - page * PAGE_WORDS) (omega arith)))

-- a word of an image
word-at : (words : ℕ → ℕ) (place n i : ℕ) → i < n → get_or (words_at words place n) i 0 ≡ words (place + i)
word-at words place zero i lt = absurd (omega arith)
word-at words place (suc n) zero lt = ap words (let e : place ≡ place + 0 = omega arith in e)
word-at words place (suc n) (suc i) lt = word-at words (place + 1) n i (omega arith) ∙ ap words (let e : place + 1 + i ≡ place + suc i = omega arith in e)

pub word_of_image : (words : ℕ → ℕ) (page index : ℕ) → index < PAGE_WORDS → get_or (image_of words page) index 0 ≡ words (word_place page index)
unfolding image_of
word_of_image words page index lt = word-at words (page * PAGE_WORDS) PAGE_WORDS index lt

pub pages_of-image : (words : ℕ → ℕ) (page : ℕ) → pages_of words page ≡ state_of (page_of (image_of words page))
unfolding pages_of
pages_of-image words page = refl

pub pages_of-same : (words new : ℕ → ℕ) (page : ℕ) → ((index : ℕ) → index < PAGE_WORDS → new (word_place page index) ≡ words (word_place page index)) → pages_of new page ≡ pages_of words page
unfolding pages_of
pages_of-same words new page same = ap (λ ws. state_of (page_of ws)) (image_of-same words new page same)

pub length-free_page_words : length (free_page_words 0) ≡ PAGE_WORDS
length-free_page_words = length-formed (free_page_words 0) (subst HoldsPage (sym (page_of-free_page_words 0)) tt)

-- the pages of a list of images
pub image_of-images : (images : List (List ℕ)) (page : ℕ) → length (image_at images page) ≡ PAGE_WORDS → image_of (word_at images) page ≡ image_at images page
image_of-images images page size = image_of-list (word_at images) page (image_at images page) size (λ index lt.
    let a = page_at-word page index lt in let b = index_at-word page index lt in
    let at : ℕ → ℕ → ℕ = λ p i. get_or (image_at images p) i 0 in
    let c : at (page_at (word_place page index)) (index_at (word_place page index)) ≡ at page index = cc in c)

pub memory_of-image : (images : List (List ℕ)) (page : ℕ) → length (image_at images page) ≡ PAGE_WORDS → memory_of images page ≡ state_of (page_of (image_at images page))
memory_of-image images page size = pages_of-image (word_at images) page ∙ ap (λ ws. state_of (page_of ws)) (image_of-images images page size)

-- a page behind the last image is free
pub memory_of-beyond : (images : List (List ℕ)) (page : ℕ) → length images ≤ page → memory_of images page ≡ free_page
memory_of-beyond images page beyond =
    pages_of-image (word_at images) page
    ∙ (ap (λ ws. state_of (page_of ws)) (image_of-list (word_at images) page (free_page_words 0) length-free_page_words zero) ∙ ap state_of (page_of-free_page_words 0))
  where
    none : image_at images page ≡ []
    none = get_or_past images page [] beyond

    zero : (index : ℕ) → index < PAGE_WORDS → word_at images (word_place page index) ≡ get_or (free_page_words 0) index 0
    zero index lt =
        let a = page_at-word page index lt in
        let b : image_at images (page_at (word_place page index)) ≡ [] = ap (image_at images) a ∙ none in
        ap (λ (ws : List ℕ). get_or ws (index_at (word_place page index)) 0) b ∙ sym (free_word index)
