-- Where the descent to both leaves ends, and that the work set agrees there with the memory after all seen, for both trees.
use Rattle.std.specs.List.{All}
use Rattle.std.specs.Prelude.{IsSome, IfSome}
use Rattle.std.proofs.Common.{◌≡◌, ℕ, ◌<◌, ◌≤◌, true, List, Option, Some, None, refl, sym, ap, subst, ◌∙◌, arith}
use Rattle.std.proofs.lemmas.Bool.Decides.{nat_tests}
use Rattle.ib_map.specs.Keys.{MapKey}
use Rattle.ib_map.specs.Space.{has_pages}
use Rattle.ib_levels.specs.declared.level.Level.{Level}
use Rattle.ib_layout.specs.Geometry.{Sizes}
use Rattle.ib_page.specs.Form.{page_of}
use Rattle.ib_page.specs.Space.{IsSpacePage}
use Rattle.ib_page.specs.Work.{WorkPage, changed_of}
use Rattle.ib_logrec.specs.Log.{by_place}
use Rattle.ib_walk.specs.Words.{bits_of, image_of, pages_of, state_of}
use Rattle.ib_walk.proofs.ImageLaws.{image_of-list, pages_of-image}
use Rattle.ib_plans.specs.Agreement.{Agrees, HasBits, bits_in, state_or_free, path_of}
use Rattle.ib_rule.specs.Pass.{PassState}
use Rattle.ib_cursor.specs.Takings.{IsHeldPage}
use Rattle.ib_cursor.proofs.EndLaws.{all-read}
use Rattle.ib_pair_law.specs.Opening.{pair_opening}
use Rattle.ib_pair_law.proofs.PushLaws.{lawful-before}
use Rattle.ib_pair_change.specs.PairCommits.{words_after}
use Rattle.ib_second.specs.Stands.{StandsOnPair}
use Rattle.ib_second.proofs.PairMay.{still-in}

state-in : (words : ℕ → ℕ) (page : ℕ) (o : Option (List ℕ)) → IfSome o (λ image. image_of words page ≡ image) → IsSome o → state_or_free o ≡ pages_of words page
state-in words page None is there = cc
state-in words page (Some image) is there = sym (pages_of-image words page ∙ ap (λ (ws : List ℕ). state_of (page_of ws)) is)

bits-in : (pages : ℕ) (words : ℕ → ℕ) (page : ℕ) → bits_of pages words page ≡ bits_in pages (image_of words 0) page
unfolding bits_of
bits-in pages words page = refl

space-in : (pages : ℕ) (words : ℕ → ℕ) → IsSpacePage pages (image_of words 0) → (o : Option (List ℕ)) → IfSome o (λ image. image_of words 0 ≡ image) → IfSome o (HasBits pages (bits_of pages words))
space-in pages words space None is = tt
space-in pages words space (Some image) is = subst (HasBits pages (bits_of pages words)) is (space, bits-in pages words)

-- what is loaded agrees with the memory after all seen
module _ (sizes : Sizes) (fits : has_pages sizes.pages ≡ true) (key : MapKey) (path : List ℕ) (key2 : MapKey) (path2 : List ℕ) (held : List (ℕ × Level)) (p : PassState)
    (at : StandsOnPair sizes key path key2 path2 held p) where
  abbrev words : ℕ → ℕ
  words = words_after sizes.pages p.view.memory.seen

  image-now : (w : WorkPage) → IsHeldPage (by_place pair_opening sizes.pages) p w → image_of words w.page ≡ w.changed
  image-now w h = image_of-list words w.page w.before h.read.size (λ index lt. sym (h.read.is_page index lt)) ∙ sym h.read.unchanged

  pub images-now : All (λ w. image_of words w.page ≡ w.changed) p.work
  images-now = all-read (IsHeldPage (by_place pair_opening sizes.pages) p) (λ w. image_of words w.page ≡ w.changed) p.work image-now at.read

  agrees-at : (root : ℕ) → 0 < root → root ≤ 2 → (key : MapKey) → (path : List ℕ) → path ≡ path_of (pages_of words) key root → Agrees sizes.pages 2 root key path p.work (pages_of words) (bits_of sizes.pages words)
  agrees-at root some le key path way =
      let memory = lawful-before sizes.pages fits p.view.memory.seen at.known.legal in
      record {
        lawful = memory.law;
        few = grind (arith, nat_tests, fits);
        some = some;
        within = le;
        way = way;
        same = λ page ne there. state-in words page (changed_of page p.work) (still-in words page p.work images-now) there;
        space = space-in sizes.pages words memory.space (changed_of 0 p.work) (still-in words 0 p.work images-now);
      }

  pub agrees-first : Agrees sizes.pages 2 1 key path p.work (pages_of words) (bits_of sizes.pages words)
  agrees-first = agrees-at 1 (omega arith) (omega arith) key path at.on_path

  pub agrees-other : Agrees sizes.pages 2 2 key2 path2 p.work (pages_of words) (bits_of sizes.pages words)
  agrees-other = agrees-at 2 (omega arith) (omega arith) key2 path2 at.on_other_path
