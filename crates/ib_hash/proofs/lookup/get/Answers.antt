-- The key was looked up by the guess, or by a descent.
use Rattle.std.proofs.Common.{rules, ◌≡◌, ◌∙◌, Option, None, sym, ap, subst, arith}
use Rattle.std.specs.Prelude.{MatchOption}
use Rattle.ib_map.specs.declared.call.Record.{Record}
use Rattle.ib_layout.specs.Geometry.{Sizes}
use Rattle.ib_logrec.specs.Log.{by_place}
use Rattle.ib_tree.specs.TreeLog.{opening}
use Rattle.ib_planned_log.specs.Kept.{IsKeptLog}
use Rattle.ib_rule.specs.Pass.{PassState}
use Rattle.ib_hash.specs.Lookups.{HasGot, HasLookedByGuess, HasNotLooked}
use Rattle.ib_hash.specs.Pass.{GuessPassState, looked_at, stored_at}
use Rattle.ib_hash.specs.Slots.{slot_for}
use Rattle.ib_hash.proofs.GotLaws.{got-else, got-right}
use Rattle.ib_hash.proofs.lookup.get.Goals as goal

pub returns-in-Some-clause-got : goal.returns-in-Some-clause-got
returns-in-Some-clause-got g c =
    let sizes : Sizes = c.args.latches.now.sizes in let key = c.args.key in let page = c.load_guess-page.result in
    let p : PassState = c.args.pass.now in let q : PassState = c.get_if_guessed.new.pass in let gp : GuessPassState = c.args.gp.now in
    let found : HasLookedByGuess sizes (IsKeptLog sizes.pages) (by_place opening sizes.pages) key page c.in-Some.answer p q =
    subst (λ (o : Option Record). MatchOption o (HasNotLooked sizes key page p q) (λ answer. HasLookedByGuess sizes (IsKeptLog sizes.pages) (by_place opening sizes.pages) key page answer p q)) c.in-Some.is c.get_if_guessed.ensures.looked in
    let looked : c.load_guess-page.new.gp ≡ looked_at (slot_for key) page gp = c.load_guess-page.ensures.looked ∙ ap (λ n. looked_at n page gp) c.slot_of-slot.ensures.slot in
    subst (λ (h : GuessPassState). HasGot sizes (IsKeptLog sizes.pages) (by_place opening sizes.pages) key c.in-Some.answer gp h p q) (sym looked) (got-right sizes key page 0 c.in-Some.answer gp p q found)

pub store_guess-requires-clause-page : goal.store_guess-requires-clause-page
store_guess-requires-clause-page g c = let there = c.get_by_descent-leaf.ensures.looked.there in let same = c.requires.may.pages in omega arith

pub returns-clause-got : goal.returns-clause-got
returns-clause-got g c =
    let sizes : Sizes = c.args.latches.now.sizes in let key = c.args.key in let page = c.load_guess-page.result in
    let p : PassState = c.args.pass.now in let o : PassState = c.get_if_guessed.new.pass in let q : PassState = c.get_by_descent-leaf.new.pass in let gp : GuessPassState = c.args.gp.now in
    let leaf = c.get_by_descent-leaf.result.leaf in let answer = c.get_by_descent-leaf.result.answer in
    let none : c.get_if_guessed.result ≡ None = search rules in
    let not_looked : HasNotLooked sizes key page p o =
    subst (λ (x : Option Record). MatchOption x (HasNotLooked sizes key page p o) (λ answer. HasLookedByGuess sizes (IsKeptLog sizes.pages) (by_place opening sizes.pages) key page answer p o)) none c.get_if_guessed.ensures.looked in
    let stored : c.store_guess.new.gp ≡ stored_at (slot_for key) leaf (looked_at (slot_for key) page gp) =
    c.store_guess.ensures
    ∙ (ap (λ (h : GuessPassState). stored_at c.slot_of-slot.result leaf h) c.load_guess-page.ensures.looked
    ∙ ap (λ n. stored_at n leaf (looked_at n page gp)) c.slot_of-slot.ensures.slot) in
    subst (λ (h : GuessPassState). HasGot sizes (IsKeptLog sizes.pages) (by_place opening sizes.pages) key answer gp h p q) (sym stored) (got-else sizes key page leaf answer gp p q c.get_by_descent-leaf.ensures.space o not_looked c.get_by_descent-leaf.ensures.looked)
