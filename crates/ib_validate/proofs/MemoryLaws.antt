-- The pages of a list of images are those of its images.
use Rattle.std.proofs.Common.{◌≡◌, ℕ, ◌<◌, List, [], length, get_or, sym, ap, ◌∙◌}
use Rattle.std.proofs.lemmas.List.{get_or_default}
use Rattle.ib_map.specs.declared.TheConstants.{PAGE_WORDS}
use Rattle.ib_map.specs.Writes.{word_place, index_at}
use Rattle.ib_map.proofs.WriteLaws.{page_at-word, index_at-word}
use Rattle.ib_page.specs.Form.{page_of}
use Rattle.ib_page.specs.Memory.{image_at, word_at}
use Rattle.ib_walk.specs.Words.{state_of, image_of, pages_of, memory_of}
use Rattle.ib_walk.proofs.ImageLaws.{image_of-images, image_of-same as image_of-words, pages_of-same}

-- a word of a page stands in its image
word_at-page : (images : List (List ℕ)) (page k : ℕ) → k < PAGE_WORDS → word_at images (word_place page k) ≡ get_or (image_at images page) k 0
word_at-page images page k lt =
    ap (λ p. get_or (image_at images p) (index_at (word_place page k)) 0) (page_at-word page k lt) ∙ ap (λ i. get_or (image_at images page) i 0) (index_at-word page k lt)

image_of-at : (images : List (List ℕ)) (page : ℕ) (image : List ℕ) → page < length images → length (get_or images page image) ≡ PAGE_WORDS
    → image_of (word_at images) page ≡ get_or images page image
image_of-at images page image within whole =
    let same = get_or_default images page image [] within in
    image_of-images images page (sym (ap length same) ∙ whole) ∙ sym same

-- a page of the list is that of its image
memory_of-at : (images : List (List ℕ)) (page : ℕ) (image : List ℕ) → page < length images → length (get_or images page image) ≡ PAGE_WORDS
    → memory_of images page ≡ state_of (page_of (get_or images page image))
unfolding pages_of
memory_of-at images page image within whole = ap (λ words. state_of (page_of words)) (image_of-at images page image within whole)

-- the words of a page are the same where its image is, and so is the page
words-same : (images others : List (List ℕ)) (page : ℕ) → image_at images page ≡ image_at others page → (k : ℕ) → k < PAGE_WORDS → word_at images (word_place page k) ≡ word_at others (word_place page k)
words-same images others page same k lt = word_at-page images page k lt ∙ ap (λ (ws : List ℕ). get_or ws k 0) same ∙ sym (word_at-page others page k lt)

pub image_of-same : (images others : List (List ℕ)) (page : ℕ) → image_at images page ≡ image_at others page → image_of (word_at images) page ≡ image_of (word_at others) page
image_of-same images others page same = image_of-words (word_at others) (word_at images) page (words-same images others page same)

pub memory_of-same : (images others : List (List ℕ)) (page : ℕ) → image_at images page ≡ image_at others page → memory_of images page ≡ memory_of others page
memory_of-same images others page same = pages_of-same (word_at others) (word_at images) page (words-same images others page same)

-- a page whose image was read
pub memory_of-read : (images : List (List ℕ)) (page : ℕ) (image : List ℕ) → page < length images → image ≡ get_or images page image → length image ≡ PAGE_WORDS
    → memory_of images page ≡ state_of (page_of image)
memory_of-read images page image within is whole = memory_of-at images page image within (sym (ap length is) ∙ whole) ∙ sym (ap (λ ws. state_of (page_of ws)) is)

-- .. by its number
pub memory_of-page : (images : List (List ℕ)) (page : ℕ) (image : List ℕ) → page < length images → image ≡ image_at images page → length image ≡ PAGE_WORDS
    → memory_of images page ≡ state_of (page_of image)
memory_of-page images page image within is whole = memory_of-read images page image within (is ∙ sym (get_or_default images page image [] within)) whole
