-- The clocks of what is held may rise twice: each is at most twice the number of entries; and as a page of a tree page 0 has none.
use Rattle.std.specs.Prelude.{IfSome, IsSome}
use Rattle.std.proofs.Common.{◌≡◌, ◌≢◌, ℕ, ◌+◌, ◌^◌, ◌<◌, true, false, List, length, Option, Some, None, inl, inr, refl, sym, ap, subst, ◌∙◌, arith}
use Rattle.std.proofs.lemmas.Bool.{cases_eq}
use Rattle.ib_map.specs.Keys.{MapKey}
use Rattle.ib_map.specs.Space.{has_pages}
use Rattle.ib_levels.specs.declared.level.Level.{Level}
use Rattle.ib_layout.specs.Geometry.{Sizes}
use Rattle.ib_page.specs.Form.{page_of}
use Rattle.ib_page.specs.Space.{space_clock_of}
use Rattle.ib_page.specs.Work.{changed_of}
use Rattle.ib_walk.specs.Words.{bits_of, image_of, pages_of, state_of}
use Rattle.ib_plans.specs.Agreement.{Agrees, HasBits, memory_in, state_or_free}
use Rattle.ib_plans.proofs.MetLaws.{met-set, root-met}
use Rattle.ib_plans.proofs.PageZeroLaws.{zero-no_clock}
use Rattle.ib_rule.specs.Pass.{PassState}
use Rattle.ib_pair_law.proofs.ClockLaws.{clock-le, space_clock-le}
use Rattle.ib_pair_change.specs.PairCommits.{words_after}
use Rattle.ib_pair_change.specs.PairPlans.{MayTickTwice}
use Rattle.ib_second.specs.Stands.{StandsOnPair}
use Rattle.ib_second.proofs.PairMay.{still-in}
use Rattle.ib_second.proofs.StandLaws.{agrees-first, images-now}

module _ (sizes : Sizes) (fits : has_pages sizes.pages ≡ true) (key : MapKey) (path : List ℕ) (key2 : MapKey) (path2 : List ℕ) (held : List (ℕ × Level)) (p : PassState)
    (at : StandsOnPair sizes key path key2 path2 held p) (few : length p.view.memory.seen < 2 ^ 31) where
  abbrev words : ℕ → ℕ
  words = words_after sizes.pages p.view.memory.seen

  agrees : Agrees sizes.pages 2 1 key path p.work (pages_of words) (bits_of sizes.pages words)
  agrees = agrees-first sizes fits key path key2 path2 held p at

  -- of another page than page 0
  page-ticks : (n : ℕ) → n ≢ 0 → (memory_in p.work n).clock + 1 < 2 ^ 63
  page-ticks n ne = go (changed_of n p.work) refl
    where
      go : (o : Option (List ℕ)) → changed_of n p.work ≡ o → (memory_in p.work n).clock + 1 < 2 ^ 63
      go None none = let z : (memory_in p.work n).clock ≡ 0 = ap (λ o. (state_or_free o).clock) none in omega arith
      go (Some image) there =
          let e = ap (λ s. s.clock) (agrees.same n ne (subst IsSome (sym there) refl)) in
          let le = clock-le sizes.pages fits p.view.memory.seen n ne at.known.legal in omega arith

  zero-ticks : (memory_in p.work 0).clock + 1 < 2 ^ 63
  zero-ticks = go (changed_of 0 p.work) refl
    where
      go : (o : Option (List ℕ)) → changed_of 0 p.work ≡ o → (memory_in p.work 0).clock + 1 < 2 ^ 63
      go None none = let z : (memory_in p.work 0).clock ≡ 0 = ap (λ o. (state_or_free o).clock) none in omega arith
      go (Some image) there =
          let has : HasBits sizes.pages (bits_of sizes.pages words) image = subst (λ (o : Option (List ℕ)). IfSome o (HasBits sizes.pages (bits_of sizes.pages words))) there agrees.space in
          let set = met-set _ (pages_of words) (bits_of sizes.pages words) 2 agrees.lawful 1 (omega arith) (omega arith) 1 (root-met (pages_of words) 1) in
          let none = zero-no_clock sizes.pages image (λ z. set (has.1 1 ∙ z)) in
          let e : (memory_in p.work 0).clock ≡ (state_of (page_of image)).clock = ap (λ o. (state_or_free o).clock) there in omega arith

  zero-clock : (o : Option (List ℕ)) → IfSome o (λ image. image_of words 0 ≡ image) → space_clock_of (image_of words 0) + 1 < 2 ^ 63 → IfSome o (λ image. space_clock_of image + 1 < 2 ^ 63)
  zero-clock None here lt = tt
  zero-clock (Some image) here lt = subst (λ (ws : List ℕ). space_clock_of ws + 1 < 2 ^ 63) here lt

  zero-image : IfSome (changed_of 0 p.work) (λ image. image_of words 0 ≡ image)
  zero-image = still-in words 0 p.work (images-now sizes fits key path key2 path2 held p at)

  zero-low : space_clock_of (image_of words 0) + 1 < 2 ^ 63
  zero-low = let le = space_clock-le sizes.pages fits p.view.memory.seen at.known.legal in omega arith

  pub may-tick-twice : MayTickTwice p.work
  may-tick-twice = (ticks, zero-clock (changed_of 0 p.work) zero-image zero-low)
    where
      ticks : (n : ℕ) → (memory_in p.work n).clock + 1 < 2 ^ 63
      ticks n = elim (cases_eq n 0) [
        | inl z ↦ subst (λ n. (memory_in p.work n).clock + 1 < 2 ^ 63) (sym z) zero-ticks
        | inr ne ↦ page-ticks n ne
      ]
