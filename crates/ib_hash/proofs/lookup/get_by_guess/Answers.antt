-- The key was looked up on the page that was guessed, or the guess is wrong.
use Rattle.std.proofs.Common.{rules, ◌≡◌, ◌∙◌, None, sym, ap, subst}
use Rattle.ib_map.specs.declared.call.Call.TheVariants.{Get}
use Rattle.ib_map.specs.declared.call.Reply.{Reply}
use Rattle.ib_levels.specs.declared.level.Mode.TheVariants.{S}
use Rattle.ib_layout.specs.Geometry.{Sizes}
use Rattle.ib_page.specs.Image.{IsFormed}
use Rattle.ib_logrec.specs.Log.{by_place, memory_after}
use Rattle.ib_walk.specs.Words.{image_of}
use Rattle.ib_tree.specs.TreeLog.{opening}
use Rattle.ib_planned_log.specs.Kept.{IsKeptLog}
use Rattle.ib_rule.specs.Pass.{PassState}
use Rattle.ib_mtr.specs.Commits.{HasRead}
use Rattle.ib_leaf.specs.Leaf.{IsSeated}
use Rattle.ib_hash.specs.Lookups.{HasLookedByGuess, HasMissed, reply_for}
use Rattle.ib_hash.proofs.GuessLaws.{looked, missed, role-read, standing-then, tested}
use Rattle.ib_hash.proofs.lookup.get_by_guess.Goals as goal

pub key_standing-requires-clause-formed : goal.key_standing-requires-clause-formed
key_standing-requires-clause-formed g c =
    let q : PassState = c.latch_guess.new.mtr.pass.now in
    subst (λ (s : Sizes). IsFormed (image_of (memory_after (by_place opening s.pages) q.view.memory.seen) c.args.page)) (sym (ap (λ m. m.now.sizes) c.latch_guess.ensures.still.latches)) c.latch_guess.ensures.latched.formed

pub returns-in_default-clause-looked : goal.returns-in_default-clause-looked
returns-in_default-clause-looked g c =
    let sizes : Sizes = c.args.latches.now.sizes in let key = c.args.key in let page = c.args.page in
    let p : PassState = c.args.pass.now in let held : PassState = c.latch_guess.new.mtr.pass.now in let q : PassState = c.key_standing.new.mtr.pass.now in let r : PassState = c.commit_read.new.self.1.0 in
    let first : c.start-mtr.result.latches.now.sizes ≡ sizes = ap (λ m. m.now.sizes) c.start-mtr.ensures.latches in
    let then : c.latch_guess.new.mtr.latches.now.sizes ≡ sizes = ap (λ m. m.now.sizes) c.latch_guess.ensures.still.latches ∙ first in
    let last : c.key_standing.new.mtr.latches.now.sizes ≡ sizes = ap (λ m. m.now.sizes) c.key_standing.ensures.still.latches ∙ then in
    let seated : IsSeated sizes held = subst (λ (s : Sizes). IsSeated s held) then c.facts_of_session.ensures in
    let at = tested sizes c.start-mtr.result.latches.now.sizes page S p c.start-mtr.result.pass.now held q first c.start-mtr.ensures.started c.latch_guess.ensures.latched c.key_standing.ensures.read in
    let standing = standing-then sizes c.latch_guess.new.mtr.latches.now.sizes key page held q c.key_standing.result then c.key_standing.ensures.standing c.key_standing.ensures.read in
    let read : HasRead sizes (IsKeptLog sizes.pages) q c.commit_read.result r = subst (λ (s : Sizes). HasRead s (IsKeptLog s.pages) q c.commit_read.result r) last c.commit_read.ensures in
    let none : c.reply_by.result ≡ None = search rules in
    subst (HasMissed sizes key page p) (search rules)
    (missed sizes seated.fits key page c.requires.may.some p q at (role-read held q seated.role c.key_standing.ensures.read) c.commit_read.result r read
    (ap reply_for (sym standing) ∙ (sym c.reply_by.ensures ∙ none)))

pub returns-clause-looked : goal.returns-clause-looked
returns-clause-looked g c =
    let sizes : Sizes = c.args.latches.now.sizes in let key = c.args.key in let page = c.args.page in let reply : Reply = c.in-Some.reply in
    let p : PassState = c.args.pass.now in let held : PassState = c.latch_guess.new.mtr.pass.now in let q : PassState = c.key_standing.new.mtr.pass.now in let r : PassState = c.commit_read-place.new.self.1.0 in
    let first : c.start-mtr.result.latches.now.sizes ≡ sizes = ap (λ m. m.now.sizes) c.start-mtr.ensures.latches in
    let then : c.latch_guess.new.mtr.latches.now.sizes ≡ sizes = ap (λ m. m.now.sizes) c.latch_guess.ensures.still.latches ∙ first in
    let last : c.key_standing.new.mtr.latches.now.sizes ≡ sizes = ap (λ m. m.now.sizes) c.key_standing.ensures.still.latches ∙ then in
    let seated : IsSeated sizes held = subst (λ (s : Sizes). IsSeated s held) then c.facts_of_session.ensures in
    let at = tested sizes c.start-mtr.result.latches.now.sizes page S p c.start-mtr.result.pass.now held q first c.start-mtr.ensures.started c.latch_guess.ensures.latched c.key_standing.ensures.read in
    let standing = standing-then sizes c.latch_guess.new.mtr.latches.now.sizes key page held q c.key_standing.result then c.key_standing.ensures.standing c.key_standing.ensures.read in
    let read : HasRead sizes (IsKeptLog sizes.pages) q c.commit_read-place.result r = subst (λ (s : Sizes). HasRead s (IsKeptLog s.pages) q c.commit_read-place.result r) last c.commit_read-place.ensures in
    subst (HasLookedByGuess sizes (IsKeptLog sizes.pages) (by_place opening sizes.pages) key page (record { call = Get key; reply = reply; place = c.commit_read-place.result }) p) (search rules)
    (looked sizes seated.fits key page c.requires.may.some p q at (role-read held q seated.role c.key_standing.ensures.read) c.commit_read-place.result r read reply
    (ap reply_for (sym standing) ∙ (sym c.reply_by.ensures ∙ c.in-Some.is)))
