-- The words of a new space with one root or two are those of lawful trees.
use Rattle.std.proofs.Common.{◌≡◌, ◌≢◌, ℕ, ◌+◌, ◌<◌, ◌≤◌, inl, inr, true, cond, [], get_or, length, refl, sym, ap, subst, ◌∙◌, arith, ltb}
use Rattle.std.proofs.lemmas.Bool.{cases_lt, cases_eq, lt-ltb, le-ltb}
use Rattle.std.proofs.lemmas.Bool.Decides.{nat_tests}
use Rattle.ib_map.specs.declared.TheConstants.{PAGE_WORDS}
use Rattle.ib_map.specs.Space.{has_pages}
use Rattle.ib_map.specs.Writes.{word_place, page_at, index_at}
use Rattle.ib_page.specs.Form.{page_of, empty_leaf_words}
use Rattle.ib_page.specs.Opening.{opening_space_words, opening_words}
use Rattle.ib_page.specs.Page.{HoldsPage}
use Rattle.ib_page.specs.Space.{is_taken, space_clock_of, IsSpacePage}
use Rattle.ib_heap.proofs.FormLaws.{length-formed, page_of-free_page_words}
use Rattle.ib_heap.proofs.EmptyLaws.{page_of-leaf}
use Rattle.ib_page.proofs.OpeningLaws.{opening_space, opening_leaf, opening_free}
use Rattle.ib_page.proofs.SpaceLaws.{length-space, space_taken, space_formed, space_word}
use Rattle.ib_walk.specs.Opening.{opening_word}
use Rattle.ib_page.specs.declared.space.TheConstants.{MAPPED_PAGES}
use Rattle.ib_walk.specs.Pages.{PageState}
use Rattle.ib_walk.specs.Trees.{content_of, IsLawful, opening_pages, opening_bits, free_page, empty_leaf}
use Rattle.ib_walk.specs.Words.{state_of, image_of, pages_of, bits_of, IsLawfulMemory}
use Rattle.ib_map.proofs.WriteLaws.{page_at-word, index_at-word}
use Rattle.ib_walk.proofs.ImageLaws.{length-free_page_words, image_of-list, pages_of-image}
use Rattle.ib_walk.proofs.OpeningLaws.{IsLawful-opens, content_of-opens}

length-leaf : length (empty_leaf_words 0) ≡ PAGE_WORDS
length-leaf = length-formed (empty_leaf_words 0) (subst HoldsPage (sym (page_of-leaf 0)) tt)

module _ (roots : ℕ) where
  pub length-opening : (page : ℕ) → length (opening_words roots page) ≡ PAGE_WORDS
  length-opening page = elim (cases_eq page 0) [
    | inl z ↦ ap length (opening_space roots page z) ∙ length-space roots
    | inr ne ↦ elim (cases_lt roots page) [
      | inl far ↦ ap length (opening_free roots page far) ∙ length-free_page_words
      | inr le ↦ ap length (opening_leaf roots page ne le) ∙ length-leaf
    ]
  ]

  pub image_of-opening : (page : ℕ) → image_of (opening_word roots) page ≡ opening_words roots page
  unfolding opening_word
  image_of-opening page = image_of-list (opening_word roots) page (opening_words roots page) (length-opening page) (λ index lt.
      let a = page_at-word page index lt in let b = index_at-word page index lt in
      let at : ℕ → ℕ → ℕ = λ p i. get_or (opening_words roots p) i 0 in
      let c : at (page_at (word_place page index)) (index_at (word_place page index)) ≡ at page index = cc in c)

  pub pages_of-root : (page : ℕ) → page ≢ 0 → page ≤ roots → pages_of (opening_word roots) page ≡ empty_leaf
  pages_of-root page ne le = pages_of-image (opening_word roots) page
      ∙ (ap (λ ws. state_of (page_of ws)) (image_of-opening page ∙ opening_leaf roots page ne le) ∙ ap state_of (page_of-leaf 0))

  pub pages_of-other : (page : ℕ) → roots < page → pages_of (opening_word roots) page ≡ free_page
  pages_of-other page far = pages_of-image (opening_word roots) page
      ∙ (ap (λ ws. state_of (page_of ws)) (image_of-opening page ∙ opening_free roots page far) ∙ ap state_of (page_of-free_page_words 0))

  pub image_of-space : image_of (opening_word roots) 0 ≡ opening_space_words roots
  image_of-space = image_of-opening 0 ∙ opening_space roots 0 refl

  -- no page of a new space has been changed
  pub clock-opening : (page : ℕ) → page ≢ 0 → (pages_of (opening_word roots) page).clock ≡ 0
  clock-opening page ne = elim (cases_lt roots page) [
    | inl far ↦ ap (λ (p : PageState). p.clock) (pages_of-other page far)
    | inr le ↦ ap (λ (p : PageState). p.clock) (pages_of-root page ne le)
  ]

  pub space_clock-opening : space_clock_of (image_of (opening_word roots) 0) ≡ 0
  space_clock-opening = ap space_clock_of image_of-space ∙ space_word roots 64

  same : (n : ℕ) → n ≢ 0 → pages_of (opening_word roots) n ≡ opening_pages roots n
  same n ne = elim (cases_lt roots n) [
    | inl far ↦ let yes = lt-ltb roots n far in pages_of-other n far ∙ rw yes refl
    | inr le ↦ let no = le-ltb roots n le in pages_of-root n ne le ∙ rw no refl
  ]

  module _ (some : 0 < roots) (few : roots ≤ 2) where
    pub content_of-opening : (r : ℕ) → 0 < r → r ≤ roots → content_of (pages_of (opening_word roots)) r ≡ []
    content_of-opening r below le = content_of-opens roots (omega arith) (pages_of (opening_word roots)) same r below le

    module _ (pages : ℕ) (fits : has_pages pages ≡ true) where
      least : roots < pages
      least = let l : 16 ≤ pages = grind (arith, nat_tests, fits) in omega arith

      most : pages ≤ MAPPED_PAGES
      most = grind (arith, nat_tests, fits)

      bits_of-opening : (n : ℕ) → bits_of pages (opening_word roots) n ≡ opening_bits roots n
      unfolding bits_of
      bits_of-opening n =
          elim (cases_lt n pages) [
            | inr ge ↦ let z = le-ltb n pages ge in let y = lt-ltb roots n (let l = least in omega arith) in rw (z, y) refl
            | inl lt ↦
                let z = lt-ltb n pages lt in
                let t : is_taken (image_of (opening_word roots) 0) n ≡ ltb n (roots + 1) = ap (λ ws. is_taken ws n) image_of-space ∙ space_taken roots n some few (let l = most in omega arith) in
                rw (z, t) (turned n)
          ]
        where
          turned : (n : ℕ) → cond {A = ℕ} (ltb n (roots + 1)) 1 0 ≡ cond (ltb roots n) 0 1
          turned n = elim (cases_lt roots n) [
            | inl lt ↦ let a = lt-ltb roots n lt in let b = le-ltb n (roots + 1) (omega arith) in rw (a, b) refl
            | inr le ↦ let a = le-ltb roots n le in let b = lt-ltb n (roots + 1) (omega arith) in rw (a, b) refl
          ]

      pub IsLawfulMemory-opening : IsLawfulMemory pages roots (opening_word roots)
      IsLawfulMemory-opening = record {
        space = subst (IsSpacePage pages) (sym image_of-space) (space_formed roots pages some few least);
        law = subst (λ bits. IsLawful (pages_of (opening_word roots)) bits roots) (λ i n. sym (bits_of-opening n) i) (IsLawful-opens roots (omega arith) (pages_of (opening_word roots)) same);
      }
