-- A copy and its tail restore the memory after the whole log.
use Rattle.std.proofs.Common.{◌≡◌, ℕ, true, zero, suc, ◌+◌, ◌-◌, ◌*◌, ◌<◌, ◌≤◌, ◌∙◌, List, ◌++◌, take, drop, refl, sym, ap, subst, arith, length-append}
use Rattle.std.specs.Prelude.{slice_index, nat_le}
use Rattle.std.proofs.lemmas.Bool.{leb-true, and_parts}
use Rattle.std.proofs.lemmas.List.{drop_at, drop-drop, take-append-drop, take-append-le}
use Rattle.std.proofs.lemmas.Grind.{flat_map-append}
use Rattle.ib_map.specs.Space.{has_pages}
use Rattle.ib_map.specs.declared.TheConstants.{LEAST_PAGES, MOST_PAGES, PAGE_WORDS}
use Rattle.ib_map.specs.Writes.{page_at, index_at, word_place}
use Rattle.ib_logrec.specs.declared.entry.Entry.{Entry}
use Rattle.ib_logrec.specs.Log.{after, log_words, memory_after, used}
use Rattle.ib_logrec.specs.Words.{words_of_entry}
use Rattle.ib_logrec.proofs.LogLaws.{after-append}
use Rattle.ib_walk.specs.Words.{image_of}
use Rattle.ib_walk.proofs.ImageLaws.{word_of_image}
use Rattle.ib_image.specs.declared.copy.CopiedPage.{CopiedPage}
use Rattle.ib_image.specs.Copies.{IsCopiedPage, IsCopy, first_place, page_in, restored, tail_of}

-- a space has pages
pub some-pages : (pages : ℕ) → has_pages pages ≡ true → 0 < pages
some-pages pages has = let least = leb-true LEAST_PAGES pages (and_parts (nat_le LEAST_PAGES pages) (nat_le pages MOST_PAGES) has).0 in omega arith

module _ (opening : ℕ → ℕ) (pages : ℕ) (log : List Entry) (copy : List CopiedPage) (is : IsCopy opening pages log copy) where
  -- no page was read before page 0
  pub from-first : (page : ℕ) → page < pages → first_place copy ≤ (page_in copy page).place
  from-first zero lt = omega arith
  from-first (suc page) lt =
      let rest = from-first page (omega arith) in
      let up = is.rises page (omega arith) in
      let same : (page_in copy (page + 1)).place ≡ (page_in copy (suc page)).place = ap (λ n. (page_in copy n).place) (omega arith) in omega arith

  pub copy_restores : (place : ℕ) → place < pages * PAGE_WORDS → restored copy (tail_of copy log) place ≡ memory_after opening log place
  copy_restores place lt =
      let page = page_at place in let index = index_at place in
      let in_space : page < pages = omega arith in
      let in_page : index < PAGE_WORDS = omega arith in
      let at : word_place page index ≡ place = omega arith in
      let c = page_in copy page in
      let first = from-first page in_space in
      let sum : first_place copy + (c.place - first_place copy) ≡ c.place = omega arith in
      let dropped : drop (c.place - first_place copy) (drop (first_place copy) log) ≡ drop c.place log = drop-drop (c.place - first_place copy) (first_place copy) log ∙ ap (λ n. drop n log) sum in
      let word : slice_index c.image index ≡ memory_after opening (take c.place log) place =
      ap (λ ws. slice_index ws index) (is.copied page in_space).image ∙ (word_of_image (memory_after opening (take c.place log)) page index in_page ∙ ap (memory_after opening (take c.place log)) at) in
      ap (λ es. after es place (slice_index c.image index)) dropped
      ∙ (ap (after (drop c.place log) place) word
      ∙ (sym (after-append (take c.place log) (drop c.place log) place (opening place))
      ∙ ap (λ es. after es place (opening place)) (take-append-drop c.place log)))

-- a page that was copied is one of each longer log
pub copied_longer : (opening : ℕ → ℕ) (log more new : List Entry) (page : ℕ) (c : CopiedPage) → new ≡ log ++ more → IsCopiedPage opening log page c → IsCopiedPage opening new page c
copied_longer opening log more new page c is old =
    subst (λ (es : List Entry). IsCopiedPage opening es page c) (sym is) (record {
      within = let w = old.within in let l = length-append log more in omega arith;
      image = old.image ∙ ap (λ es. image_of (memory_after opening es) page) (sym (take-append-le c.place log more old.within));
    })

pub copy-longer : (opening : ℕ → ℕ) (pages : ℕ) (log more : List Entry) (copy : List CopiedPage) → IsCopy opening pages log copy → IsCopy opening pages (log ++ more) copy
copy-longer opening pages log more copy is = record {
  size = is.size;
  copied = λ page lt. copied_longer opening log more (log ++ more) page (page_in copy page) refl (is.copied page lt);
  rises = is.rises;
}

-- the words of a tail are those behind the words of the first entries
pub tail-words : (n : ℕ) (log : List Entry) → drop (used (take n log)) (log_words log) ≡ log_words (drop n log)
tail-words n log =
    ap (drop (used (take n log))) (ap log_words (sym (take-append-drop n log)) ∙ flat_map-append words_of_entry (take n log) (drop n log))
    ∙ drop_at (log_words (take n log)) (log_words (drop n log)) (used (take n log)) refl
