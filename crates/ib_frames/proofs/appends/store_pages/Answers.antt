-- A write more of the entry is stored in its page.
use Rattle.std.proofs.Common.{◌≡◌, ℕ, ◌+◌, ◌*◌, ◌<◌, ◌≤◌, true, List, length, arith, ap, sym, ◌∙◌, subst, get_or}
use Rattle.std.proofs.lemmas.Bool.Decides.{nat_tests}
use Rattle.ib_logrec.specs.declared.entry.TheConstants.{HEAD_WORDS}
use Rattle.ib_map.specs.declared.TheConstants.{PAGE_WORDS}
use Rattle.ib_map.specs.Writes.{word_place, writes_at, stored}
use Rattle.ib_map.proofs.WriteLaws.{PlacesRise-get}
use Rattle.ib_layout.specs.Geometry.{Sizes}
use Rattle.ib_logrec.specs.declared.entry.Entry.{Entry}
use Rattle.ib_rule.specs.Pass.{PassState, with_view}
use Rattle.ib_rule.specs.Stores.{storing_page}
use Rattle.ib_rule.specs.Writing.{entry_of}
use Rattle.ib_frames.specs.Storing.{no_write, place_at}
use Rattle.ib_frames.proofs.LaidOut.{spelled_place, spelled_value}
use Rattle.ib_frames.proofs.Storing.{during_entry, is_written, is_value, kept_page}
use Rattle.ib_frames.proofs.appends.store_pages.Goals as goal

pub write_at-write-requires-clause-place : goal.write_at-write-requires-clause-place
write_at-write-requires-clause-place g c =
    let t = c.loop-i-test.true in let n = c.requires.writes in
    let h : c.loop-i.i < length (entry_of c.args.pass.now).writes = omega arith in
    let words : c.words.result.now ≡ c.args.pass.now.words = c.words.ensures.words ∙ ap (λ (p : PassState). p.words) c.loop-i.invariant.during.same in
    let place = spelled_place (entry_of c.args.pass.now) c.args.pass.now.words c.loop-i.i no_write c.requires.ready.spelled h in
    let low = (PlacesRise-get 0 (entry_of c.args.pass.now).writes (c.args.space.now.sizes.pages * PAGE_WORDS) c.loop-i.i no_write c.requires.ready.ready.fits.grammar.places h).1 in
    let few = c.pages.ensures.in_range in let pages = c.pages.ensures.pages ∙ ap (λ (s : Sizes). s.pages) c.geometry.ensures in
    rw words (let small : c.args.space.now.sizes.pages ≤ 4096 = grind (arith, nat_tests) in omega arith)

pub store_page_word-requires-clause-page : goal.store_page_word-requires-clause-page
store_page_word-requires-clause-page g c =
    let t = c.loop-i-test.true in let n = c.requires.writes in
    let h : c.loop-i.i < length (entry_of c.args.pass.now).writes = omega arith in
    let words : c.words.result.now ≡ c.args.pass.now.words = c.words.ensures.words ∙ ap (λ (p : PassState). p.words) c.loop-i.invariant.during.same in
    let place : c.write_at-write.result.place ≡ place_at (entry_of c.args.pass.now).writes c.loop-i.i =
    c.write_at-write.ensures.place ∙ (ap (λ (ws : List ℕ). get_or ws (HEAD_WORDS + 2 * c.loop-i.i) 0) words ∙ spelled_place (entry_of c.args.pass.now) c.args.pass.now.words c.loop-i.i no_write c.requires.ready.spelled h) in
    let low = (PlacesRise-get 0 (entry_of c.args.pass.now).writes (c.args.space.now.sizes.pages * PAGE_WORDS) c.loop-i.i no_write c.requires.ready.ready.fits.grammar.places h).1 in
    let on = c.page.ensures in omega arith

pub store_page_word-requires-clause-written : goal.store_page_word-requires-clause-written
store_page_word-requires-clause-written g c =
    let t = c.loop-i-test.true in let n = c.requires.writes in
    let h : c.loop-i.i < length (entry_of c.args.pass.now).writes = omega arith in
    let words : c.words.result.now ≡ c.args.pass.now.words = c.words.ensures.words ∙ ap (λ (p : PassState). p.words) c.loop-i.invariant.during.same in
    let place : c.write_at-write.result.place ≡ place_at (entry_of c.args.pass.now).writes c.loop-i.i =
    c.write_at-write.ensures.place ∙ (ap (λ (ws : List ℕ). get_or ws (HEAD_WORDS + 2 * c.loop-i.i) 0) words ∙ spelled_place (entry_of c.args.pass.now) c.args.pass.now.words c.loop-i.i no_write c.requires.ready.spelled h) in
    subst (λ (e : Entry). writes_at (word_place c.page.result c.index.result) e.writes ≡ true) (sym (during_entry (entry_of c.args.pass.now) c.args.pass.now c.loop-i.pass c.loop-i.invariant.during))
    (is_written (entry_of c.args.pass.now).writes c.loop-i.i c.page.result c.index.result c.write_at-write.result.place place c.page.ensures c.index.ensures.index h)

pub store_page_word-requires-clause-value : goal.store_page_word-requires-clause-value
store_page_word-requires-clause-value g c =
    let t = c.loop-i-test.true in let n = c.requires.writes in
    let h : c.loop-i.i < length (entry_of c.args.pass.now).writes = omega arith in
    let words : c.words.result.now ≡ c.args.pass.now.words = c.words.ensures.words ∙ ap (λ (p : PassState). p.words) c.loop-i.invariant.during.same in
    let place : c.write_at-write.result.place ≡ place_at (entry_of c.args.pass.now).writes c.loop-i.i =
    c.write_at-write.ensures.place ∙ (ap (λ (ws : List ℕ). get_or ws (HEAD_WORDS + 2 * c.loop-i.i) 0) words ∙ spelled_place (entry_of c.args.pass.now) c.args.pass.now.words c.loop-i.i no_write c.requires.ready.spelled h) in
    let value : c.write_at-write.result.value ≡ (get_or (entry_of c.args.pass.now).writes c.loop-i.i no_write).value =
    c.write_at-write.ensures.value ∙ (ap (λ (ws : List ℕ). get_or ws (HEAD_WORDS + (2 * c.loop-i.i + 1)) 0) words ∙ spelled_value (entry_of c.args.pass.now) c.args.pass.now.words c.loop-i.i no_write c.requires.ready.spelled h) in
    subst (λ (e : Entry). c.write_at-write.result.value ≡ stored e.writes (word_place c.page.result c.index.result) 0) (sym (during_entry (entry_of c.args.pass.now) c.args.pass.now c.loop-i.pass c.loop-i.invariant.during))
    (is_value (entry_of c.args.pass.now).writes c.loop-i.i c.page.result c.index.result c.write_at-write.result.place c.write_at-write.result.value (c.args.space.now.sizes.pages * PAGE_WORDS) place c.page.ensures c.index.ensures.index value h c.requires.ready.ready.fits.grammar.places)

pub loop-i-preserved : goal.loop-i-preserved
loop-i-preserved g c =
    let t = c.loop-i-test.true in let n = c.requires.writes in
    let h : c.loop-i.i < length (entry_of c.args.pass.now).writes = omega arith in
    let words : c.words.result.now ≡ c.args.pass.now.words = c.words.ensures.words ∙ ap (λ (p : PassState). p.words) c.loop-i.invariant.during.same in
    let place : c.write_at-write.result.place ≡ place_at (entry_of c.args.pass.now).writes c.loop-i.i =
    c.write_at-write.ensures.place ∙ (ap (λ (ws : List ℕ). get_or ws (HEAD_WORDS + 2 * c.loop-i.i) 0) words ∙ spelled_place (entry_of c.args.pass.now) c.args.pass.now.words c.loop-i.i no_write c.requires.ready.spelled h) in
    let is = during_entry (entry_of c.args.pass.now) c.args.pass.now c.loop-i.pass c.loop-i.invariant.during in
    let k = kept_page (entry_of c.args.pass.now) c.args.pass.now c.loop-i.pass c.store_page_word.new.pass c.loop-i.i c.page.result c.index.result c.write_at-write.result.place c.loop-i.invariant.during c.loop-i.invariant.done
    (c.store_page_word.ensures ∙ (λ j. with_view c.loop-i.pass (storing_page (is j) (word_place c.page.result c.index.result) c.loop-i.pass.view))) place c.page.ensures c.index.ensures.index in
    record { during = k.0; done = k.1 }
