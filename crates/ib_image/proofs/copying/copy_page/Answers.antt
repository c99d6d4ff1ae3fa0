-- The page is latched, read with the log's end, and given up.
use Rattle.std.proofs.Common.{◌≡◌, ◌<◌, ℕ, subst}
use Rattle.ib_levels.specs.declared.latch.Latch.{Latch}
use Rattle.ib_levels.specs.Holding.{without_latch}
use Rattle.ib_layout.specs.Geometry.{Sizes}
use Rattle.std.specs.Prelude.{slice_index}
use Rattle.ib_map.specs.declared.TheConstants.{PAGE_WORDS}
use Rattle.ib_map.specs.Writes.{word_place}
use Rattle.ib_logrec.specs.Log.{by_place, memory_after}
use Rattle.ib_rule.specs.Stores.{IsLook}
use Rattle.ib_rule.specs.Pass.{PassState}
use Rattle.ib_rule.specs.Space.{SpaceState}
use Rattle.ib_latch.specs.Unlocks.{IsReleased}
use Rattle.ib_image.specs.Copying.{level_for}
use Rattle.ib_image.proofs.OnePageLaws.{page_copied}
use Rattle.ib_image.proofs.copying.copy_page.Goals as goal

pub returns-clause-copies : goal.returns-clause-copies
returns-clause-copies g c =
    let sizes : Sizes = c.args.latches.now.sizes in
    let p : PassState = c.args.pass.now in let q : PassState = c.latch_page.new.pass in let r : PassState = c.read_page.new.pass in let t : PassState = c.unlock_s.new.pass in
    let look = subst (λ (k : SpaceState). IsLook k.sizes (g.L.Law.lawful k.sizes.pages) q.view r.view.memory.seen) c.space.ensures c.read_page.ensures.looked in
    let words = subst (λ (k : SpaceState). (index : ℕ) → index < PAGE_WORDS → slice_index c.read_page.new.out index ≡ memory_after (by_place g.L.Law.opening k.sizes.pages) r.view.memory.seen (word_place c.args.page index)) c.space.ensures c.read_page.ensures.words in
    let three = subst (λ (l : Latch). IsReleased 1 l.0 (without_latch l.0 r.view.session.held) r t) c.page-latch.ensures c.unlock_s.ensures in
    page_copied sizes (g.L.Law.lawful sizes.pages) (by_place g.L.Law.opening sizes.pages) c.args.page (level_for c.args.page) p q r t (record { image = c.read_page.new.out; place = c.place-out.result })
    c.requires.idle c.latch_page.ensures.still.same c.latch_page.ensures.won c.number-out.ensures.session c.read_page.ensures.view look words c.word.ensures.size c.place-out.ensures three
