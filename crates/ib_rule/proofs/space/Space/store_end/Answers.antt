-- The append is allowed by the rule, and the pass mirrors it.
use Rattle.std.proofs.Common.{◌≡◌, ℕ, List, [], ◌∷◌, sym, ap, ◌∙◌, subst, refl, arith, length-append}
use mathlib.Core.List.{IsPrefix}
use Rattle.ib_layout.specs.Geometry.{Sizes}
use Rattle.ib_logrec.specs.declared.entry.Entry.{Entry}
use Rattle.ib_logrec.specs.Words.{entry_in, words_of_entry}
use Rattle.ib_logrec.proofs.EntryLaws.{length-words_of_entry}
use Rattle.ib_logrec.proofs.LogLaws.{used-push}
use Rattle.ib_rule.specs.declared.view.View.{View}
use Rattle.ib_rule.specs.Pass.{PassState}
use Rattle.ib_rule.specs.Space.{SpaceState}
use Rattle.ib_rule.specs.Stores.{IsReady, AllStored, appending}
use Rattle.ib_rule.proofs.Passing.{pass_knows}
use Rattle.ib_rule.proofs.Watching.{watching_same}
use Rattle.ib_rule.proofs.Spelling.{length_spelled, longer_fits_more}
use Rattle.ib_rule.proofs.Stored.{store_end_allowed}
use Rattle.ib_rule.proofs.RoomLaws.{room-of}
use Rattle.ib_rule.proofs.space.Space.store_end.Goals as goal

pub store-requires-clause-allowed : goal.store-requires-clause-allowed
store-requires-clause-allowed g c =
    let mine = ap (λ (p : PassState). p.view) c.pass.view_is in
    let words : c.as_slice-2.result.now ≡ c.args.pass.now.words = c.as_slice-2.ensures.value ∙ ap (λ (p : PassState). p.words) c.pass.view_is in
    let first : c.as_slice-2.result.now ≡ c.as_slice.result.now = c.as_slice-2.ensures.value ∙ sym c.as_slice.ensures.value in
    let sizes = c.self.invariant.key ∙ ap (λ (o : SpaceState). o.sizes) c.self.view_is in
    let e : Entry = entry_in c.as_slice-2.result.now in
    let ready : IsReady c.self.inside.table.shared.key (g.L.Law.lawful c.self.inside.table.shared.key.pages) c.pass.inside.seat.me.0 (entry_in c.as_slice-2.result.now) =
    subst (λ (z : Sizes × View × List ℕ). IsReady z.0 (g.L.Law.lawful z.0.pages) z.1 (entry_in z.2)) (λ j. (sym sizes j, sym mine j, sym words j)) c.requires.ready.ready in
    let spelled : IsPrefix (words_of_entry (entry_in c.as_slice-2.result.now)) c.as_slice.result.now =
    subst (λ (z : List ℕ × List ℕ). IsPrefix (words_of_entry (entry_in z.0)) z.1) (λ j. (sym words j, (sym words ∙ first) j)) c.requires.ready.spelled in
    let long = length_spelled (entry_in c.as_slice-2.result.now) c.as_slice.result.now ready.fits.grammar.most_writes spelled in
    store_end_allowed g.L.Law.lawful g.L.Law.opening c.self.inside.table.shared.key (entry_in c.as_slice-2.result.now) _ _ c.pass.inside.seat.me ready _
    (subst (λ (z : View × List ℕ). AllStored (entry_in z.1) z.0.memory.append) (λ j. (sym mine j, sym words j)) c.requires.stored)
    (let a = c.from.ensures in let b = c.from-2.ensures in let l = c.entry_length-length.ensures in let p = c.pass.invariant.place in let u = c.pass.invariant.used in omega arith)

pub invariant_of-pass : goal.invariant_of-pass
invariant_of-pass g c =
    let mine = ap (λ (p : PassState). p.view) c.pass.view_is in
    let words : c.as_slice-2.result.now ≡ c.args.pass.now.words = c.as_slice-2.ensures.value ∙ ap (λ (p : PassState). p.words) c.pass.view_is in
    let first : c.as_slice-2.result.now ≡ c.as_slice.result.now = c.as_slice-2.ensures.value ∙ sym c.as_slice.ensures.value in
    let geometry : c.pass.inside.geometry ≡ c.args.self.now.sizes = ap (λ (p : PassState). p.sizes) c.pass.view_is ∙ c.requires.own.1 in
    let ready : IsReady c.pass.inside.geometry (g.L.Law.lawful c.pass.inside.geometry.pages) c.pass.inside.seat.me.0 (entry_in c.as_slice-2.result.now) =
    subst (λ (z : Sizes × View × List ℕ). IsReady z.0 (g.L.Law.lawful z.0.pages) z.1 (entry_in z.2)) (λ j. (sym geometry j, sym mine j, sym words j)) c.requires.ready.ready in
    let spelled : IsPrefix (words_of_entry (entry_in c.as_slice-2.result.now)) c.as_slice.result.now =
    subst (λ (z : List ℕ × List ℕ). IsPrefix (words_of_entry (entry_in z.0)) z.1) (λ j. (sym words j, (sym words ∙ first) j)) c.requires.ready.spelled in
    let long = length_spelled (entry_in c.as_slice-2.result.now) c.as_slice.result.now ready.fits.grammar.most_writes spelled in
    let v : View = c.pass.inside.seat.me.0 in
    let seen = length-append v.memory.seen (entry_in c.as_slice-2.result.now ∷ []) in
    let own = length-append v.memory.own (entry_in c.as_slice-2.result.now ∷ []) in
    let more = used-push v.memory.seen (entry_in c.as_slice-2.result.now) in
    let words_long = length-words_of_entry (entry_in c.as_slice-2.result.now) in
    let told = c.store.ensures.told.1 in
    pass_knows c.pass.inside _ (appending (entry_in c.as_slice-2.result.now) c.pass.inside.seat.me.0).memory c.pass.invariant (λ j. (told.0.view j, told.1 j)) told.0.known
    (let p = c.pass.invariant.place in omega arith) (let u = c.pass.invariant.used in let l = c.entry_length-length.ensures in omega arith) (let m = c.pass.invariant.made in omega arith)
    (longer_fits_more c.pass.inside.geometry c.pass.inside.seat.me.0 (entry_in c.as_slice-2.result.now) c.pass.invariant.front
    (room-of c.pass.inside.geometry (g.L.Law.lawful c.pass.inside.geometry.pages) _ _ _ v.memory.seen (entry_in c.as_slice-2.result.now) ready.fits))
    refl refl refl refl refl refl
    (watching_same c.pass.inside.looked_after c.pass.inside.seat.me.0 _ (ap (λ (v : View). v.grants) told.0.view) (ap (λ (v : View). v.session) told.0.view) (ap (λ (v : View). v.memory.since) told.0.view) c.pass.invariant.watches)
