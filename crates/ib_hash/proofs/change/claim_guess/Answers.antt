-- The page was latched and tested where it lies, and loaded where the guess is right.
use Rattle.std.proofs.Common.{◌≡◌, ◌+◌, ◌<◌, ◌∙◌, List, [], length, None, refl, sym, ap, subst, arith}
use Rattle.ib_levels.specs.declared.level.Mode.TheVariants.{X}
use Rattle.ib_layout.specs.Geometry.{Sizes}
use Rattle.ib_page.specs.Image.{IsFormed}
use Rattle.ib_page.specs.Work.{WorkPage, changed_of}
use Rattle.ib_core.specs.Sessions.{holdings}
use Rattle.ib_logrec.specs.Log.{by_place, memory_after}
use Rattle.ib_walk.specs.Words.{image_of}
use Rattle.ib_tree.specs.TreeLog.{opening}
use Rattle.ib_planned_log.specs.Kept.{IsKeptLog}
use Rattle.ib_rule.specs.Pass.{PassState}
use Rattle.ib_cursor.specs.Descent.{HasPage}
use Rattle.ib_cursor.specs.Going.{HasSeen}
use Rattle.ib_leaf.specs.Leaf.{IsSeated}
use Rattle.ib_hash.specs.Right.{is_right}
use Rattle.ib_hash.proofs.GuessLaws.{latched-read, standing-then}
use Rattle.ib_hash.proofs.TryLaws.{claimed-right, claimed-wrong}
use Rattle.ib_hash.proofs.change.claim_guess.Goals as goal

pub key_standing-requires-clause-formed : goal.key_standing-requires-clause-formed
key_standing-requires-clause-formed g c =
    let q : PassState = c.latch_guess.new.mtr.pass.now in
    subst (λ (s : Sizes). IsFormed (image_of (memory_after (by_place opening s.pages) q.view.memory.seen) c.args.page)) (sym (ap (λ m. m.now.sizes) c.latch_guess.ensures.still.latches)) c.latch_guess.ensures.latched.formed

pub returns-then-not-is_right-clause-claimed : goal.returns-then-not-is_right-clause-claimed
returns-then-not-is_right-clause-claimed g c =
    let sizes : Sizes = c.args.mtr.now.latches.now.sizes in let key = c.args.key in let page = c.args.page in
    let p : PassState = c.args.mtr.now.pass.now in let held : PassState = c.latch_guess.new.mtr.pass.now in let q : PassState = c.key_standing.new.mtr.pass.now in
    let first : c.latch_guess.new.mtr.latches.now.sizes ≡ sizes = ap (λ m. m.now.sizes) c.latch_guess.ensures.still.latches in
    let last : c.key_standing.new.mtr.latches.now.sizes ≡ sizes = ap (λ m. m.now.sizes) c.key_standing.ensures.still.latches ∙ first in
    let seated : IsSeated sizes q = subst (λ (s : Sizes). IsSeated s q) last c.facts_of_session.ensures in
    let at = latched-read sizes (IsKeptLog sizes.pages) (by_place opening sizes.pages) page X p held q c.latch_guess.ensures.latched c.key_standing.ensures.read in
    let standing = standing-then sizes c.latch_guess.new.mtr.latches.now.sizes key page held q c.key_standing.result first c.key_standing.ensures.standing c.key_standing.ensures.read in
    claimed-wrong sizes key page c.requires.some p q at seated (ap is_right (sym standing) ∙ (sym c.is_right.ensures ∙ c.if-not-is_right.true))

pub read-requires-clause-held : goal.read-requires-clause-held
read-requires-clause-held g c =
    let q : PassState = c.key_standing.new.mtr.pass.now in
    subst (λ (s : PassState). 0 < holdings (c.args.page + 2) s.view.session) (sym c.key_standing.ensures.read.same) c.latch_guess.ensures.can.held

pub read-requires-clause-absent : goal.read-requires-clause-absent
read-requires-clause-absent g c =
    let work : c.key_standing.new.mtr.pass.now.work ≡ [] = ap (λ (s : PassState). s.work) c.key_standing.ensures.read.same ∙ c.latch_guess.ensures.latched.work in
    subst (λ (ws : List WorkPage). changed_of c.args.page ws ≡ None) (sym work) refl

pub read-requires-clause-few : goal.read-requires-clause-few
read-requires-clause-few g c =
    let work : c.key_standing.new.mtr.pass.now.work ≡ [] = ap (λ (s : PassState). s.work) c.key_standing.ensures.read.same ∙ c.latch_guess.ensures.latched.work in
    let none = ap length work in omega arith

pub returns-clause-claimed : goal.returns-clause-claimed
returns-clause-claimed g c =
    let sizes : Sizes = c.args.mtr.now.latches.now.sizes in let key = c.args.key in let page = c.args.page in
    let p : PassState = c.args.mtr.now.pass.now in let held : PassState = c.latch_guess.new.mtr.pass.now in let q : PassState = c.key_standing.new.mtr.pass.now in let r : PassState = c.read.new.mtr.pass.now in
    let first : c.latch_guess.new.mtr.latches.now.sizes ≡ sizes = ap (λ m. m.now.sizes) c.latch_guess.ensures.still.latches in
    let then : c.key_standing.new.mtr.latches.now.sizes ≡ sizes = ap (λ m. m.now.sizes) c.key_standing.ensures.still.latches ∙ first in
    let last : c.read.new.mtr.latches.now.sizes ≡ sizes = ap (λ m. m.now.sizes) c.read.ensures.still.latches ∙ then in
    let seated : IsSeated sizes r = subst (λ (s : Sizes). IsSeated s r) last c.facts_of_session-2.ensures in
    let at = latched-read sizes (IsKeptLog sizes.pages) (by_place opening sizes.pages) page X p held q c.latch_guess.ensures.latched c.key_standing.ensures.read in
    let standing = standing-then sizes c.latch_guess.new.mtr.latches.now.sizes key page held q c.key_standing.result first c.key_standing.ensures.standing c.key_standing.ensures.read in
    let seen : HasSeen sizes (IsKeptLog sizes.pages) q r = subst (λ (s : Sizes). HasSeen s (IsKeptLog s.pages) q r) then c.read.ensures.looked_on.seen in
    let load : HasPage (by_place opening sizes.pages) page q r = subst (λ (s : Sizes). HasPage (by_place opening s.pages) page q r) then c.read.ensures.loaded in
    claimed-right sizes key page c.requires.some p q at r seated (ap is_right (sym standing) ∙ (sym c.is_right.ensures ∙ c.if-not-is_right.false)) seen c.read.ensures.memo c.read.ensures.session c.read.ensures.grants load
