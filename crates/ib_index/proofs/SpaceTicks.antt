-- The clocks of what is held may tick: each is not above the number of entries; and as a page of the tree page 0 has none.
use Rattle.std.specs.Prelude.{IfSome, IsSome}
use Rattle.std.proofs.Common.{◌≡◌, ◌≢◌, ℕ, ◌^◌, ◌<◌, List, [], ◌++◌, length, Option, Some, None, inl, inr, refl, sym, ap, subst, ◌∙◌, arith, append-nil}
use Rattle.std.proofs.lemmas.Bool.{cases_eq}
use Rattle.ib_map.specs.Keys.{MapKey}
use Rattle.ib_layout.specs.Geometry.{Sizes}
use Rattle.ib_page.specs.Form.{page_of}
use Rattle.ib_page.specs.Space.{space_clock_of}
use Rattle.ib_page.specs.Work.{changed_of}
use Rattle.ib_walk.specs.Words.{state_of, image_of, bits_of}
use Rattle.ib_logrec.specs.Log.{by_place, memory_after}
use Rattle.ib_tree.specs.TreeLog.{opening}
use Rattle.ib_plans.specs.Agreement.{MayTick, memory_in, state_or_free}
use Rattle.ib_plans.proofs.MetLaws.{met-set, root-met}
use Rattle.ib_plans.proofs.PageZeroLaws.{zero-no_clock}
use Rattle.ib_planned_log.specs.Kept.{IsKeptLog}
use Rattle.ib_planned_log.specs.LeafChange.{kept_pages}
use Rattle.ib_planned_log.proofs.ClockLaws.{clock-le, space_clock-le}
use Rattle.ib_rule.specs.Pass.{PassState}
use Rattle.ib_index.specs.Grows.{HoldsPath}
use Rattle.ib_leaf.specs.Leaf.{IsSeated}
use Rattle.ib_index.proofs.AgreeLaws.{agrees-now, still-in, images-now}
use Rattle.ib_index.proofs.FreshLaws.{bits-same}

module _ (sizes : Sizes) (key : MapKey) (path : List ℕ) (t : PassState) (seated : IsSeated sizes t) (at : HoldsPath sizes key path t) where
  -- of another page than page 0
  page-ticks : (n : ℕ) → n ≢ 0 → (memory_in t.work n).clock < 2 ^ 63
  page-ticks n ne = go (changed_of n t.work) refl
    where
      go : (o : Option (List ℕ)) → changed_of n t.work ≡ o → (memory_in t.work n).clock < 2 ^ 63
      go None none = let z : (memory_in t.work n).clock ≡ 0 = ap (λ o. (state_or_free o).clock) none in omega arith
      go (Some image) there =
          let a = agrees-now sizes seated.fits key path t at in
          let e = ap (λ s. s.clock) (a.same n ne (subst IsSome (sym there) refl)) in
          let le = clock-le sizes.pages seated.fits t.view.memory.seen n ne at.known.legal in
          let few = seated.few in omega arith

  zero-ticks : (memory_in t.work 0).clock < 2 ^ 63
  zero-ticks = go (changed_of 0 t.work) refl
    where
      go : (o : Option (List ℕ)) → changed_of 0 t.work ≡ o → (memory_in t.work 0).clock < 2 ^ 63
      go None none = let z : (memory_in t.work 0).clock ≡ 0 = ap (λ o. (state_or_free o).clock) none in omega arith
      go (Some image) there =
          let a = agrees-now sizes seated.fits key path t at in
          let m = kept_pages sizes.pages t.view.memory.seen in
          let bits = bits_of sizes.pages (memory_after (by_place opening sizes.pages) t.view.memory.seen) in
          let set = met-set _ m bits 1 a.lawful 1 (omega arith) (omega arith) 1 (root-met m 1) in
          let same = ap (λ (b : ℕ → ℕ). b 1) (bits-same sizes.pages key path t.work m bits image a there) in
          let none = zero-no_clock sizes.pages image (λ z. set (sym same ∙ z)) in
          let e : (memory_in t.work 0).clock ≡ (state_of (page_of image)).clock = ap (λ o. (state_or_free o).clock) there in omega arith

  space-ticks : IfSome (changed_of 0 t.work) (λ image. space_clock_of image < 2 ^ 63)
  space-ticks =
      let log = t.view.memory.seen in
      let kept = subst (IsKeptLog sizes.pages) (sym (append-nil log)) at.known.legal in
      let all = images-now sizes seated.fits key path t at t.number [] tt kept in
      let here = still-in (memory_after (by_place opening sizes.pages) (log ++ [])) 0 t.work all in
      let le = space_clock-le sizes.pages seated.fits (log ++ []) kept in
      let long : length (log ++ []) ≡ length log = ap length (append-nil log) in
      let few = seated.few in
      go (changed_of 0 t.work) here (let l : space_clock_of (image_of (memory_after (by_place opening sizes.pages) (log ++ [])) 0) < 2 ^ 63 = omega arith in l)
    where
      go : (o : Option (List ℕ)) → IfSome o (λ image. image_of (memory_after (by_place opening sizes.pages) (t.view.memory.seen ++ [])) 0 ≡ image)
          → space_clock_of (image_of (memory_after (by_place opening sizes.pages) (t.view.memory.seen ++ [])) 0) < 2 ^ 63 → IfSome o (λ image. space_clock_of image < 2 ^ 63)
      go None here lt = tt
      go (Some image) here lt = subst (λ (ws : List ℕ). space_clock_of ws < 2 ^ 63) here lt

  pub may-tick : MayTick t.work
  may-tick = (ticks, space-ticks)
    where
      ticks : (n : ℕ) → (memory_in t.work n).clock < 2 ^ 63
      ticks n = elim (cases_eq n 0) [
        | inl z ↦ subst (λ n. (memory_in t.work n).clock < 2 ^ 63) (sym z) zero-ticks
        | inr ne ↦ page-ticks n ne
      ]
