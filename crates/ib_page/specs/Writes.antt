-- The words in which the changed images of a work set differ from those that were read, as the writes of an entry.
use Rattle.std.specs.Prelude.{◌≡◌, ℕ, zero, suc, ◌+◌, ◌*◌, ◌<◌, ◌≤◌, ◌==◌, take, drop, length, List, [], ◌∷◌, ◌++◌, Option, Some, None, slice_index, if◌then◌else◌}
use Rattle.std.specs.List.{flat_map}
use Rattle.ib_map.specs.declared.TheConstants.{PAGE_WORDS}
use Rattle.ib_map.specs.declared.write.Write.{Write}
use Rattle.ib_map.specs.Writes.{word_place, write_words}
use Rattle.ib_page.specs.Work.{WorkPage}

-- a word of a page as a write, where its two images differ in it
abbrev pub word_write : ℕ → List ℕ → List ℕ → ℕ → List Write
word_write page before changed index = if slice_index before index == slice_index changed index then []
    else record { place = word_place page index; value = slice_index changed index } ∷ []

-- those of the first n words of a page in which its two images differ
unfoldable pub writes_below : ℕ → List ℕ → List ℕ → ℕ → List Write
writes_below page before changed zero = []
writes_below page before changed (suc n) = writes_below page before changed n ++ word_write page before changed n

-- the words that a page changes, in order
abbrev pub page_writes : WorkPage → List Write
page_writes p = writes_below p.page p.before p.changed PAGE_WORDS

-- the words that all pages change, page by page
abbrev pub writes_of : List WorkPage → List Write
writes_of ps = flat_map page_writes ps

-- a word of an image, where there is one
abbrev pub word_in : Option (List ℕ) → ℕ → Option ℕ
word_in None index = None
word_in (Some image) index = Some (slice_index image index)

-- two images are the same in each word from `first` on that stands before `end`
abbrev pub AreSame : ℕ → ℕ → List ℕ → List ℕ → Type 0
AreSame first end before changed = (i : ℕ) → first ≤ i → i < end → slice_index before i ≡ slice_index changed i

-- a buffer has `end` writes now: behind the `count` that it had when its words were `out` stand those of the first n words of a page that differ
pub record HasWritten (page : ℕ) (before changed : List ℕ) (n count : ℕ) (out : List ℕ) (end : ℕ) (now : List ℕ) : Type 0 where
  pub ended : end ≡ count + length (writes_below page before changed n)
  pub words : now ≡ take (2 * count) out ++ write_words (writes_below page before changed n) ++ drop (2 * end) out
