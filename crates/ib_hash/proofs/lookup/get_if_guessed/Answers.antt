-- There is no guess, or it was tried.
use Rattle.std.proofs.Common.{arith, inl, refl}
use Rattle.ib_logrec.specs.Log.{by_place}
use Rattle.ib_tree.specs.TreeLog.{opening}
use Rattle.ib_planned_log.specs.Kept.{IsKeptLog}
use Rattle.ib_layout.specs.Geometry.{Sizes}
use Rattle.ib_rule.specs.Pass.{PassState}
use Rattle.ib_hash.proofs.GotLaws.{else-of, room-of}
use Rattle.ib_hash.proofs.lookup.get_if_guessed.Goals as goal

pub returns-then-page-eq0-clause-looked : goal.returns-then-page-eq0-clause-looked
returns-then-page-eq0-clause-looked g c = inl (c.if-page-eq0.true, refl)

pub returns-clause-room : goal.returns-clause-room
returns-clause-room g c =
    let sizes : Sizes = c.args.latches.now.sizes in let p : PassState = c.args.pass.now in let few = c.requires.may.room in
    room-of sizes (IsKeptLog sizes.pages) (by_place opening sizes.pages) c.args.key c.args.page p c.get_by_guess.new.pass c.get_by_guess.result c.get_by_guess.ensures.looked (omega arith)

pub returns-clause-looked : goal.returns-clause-looked
returns-clause-looked g c =
    let sizes : Sizes = c.args.latches.now.sizes in let p : PassState = c.args.pass.now in
    else-of sizes (IsKeptLog sizes.pages) (by_place opening sizes.pages) c.args.key c.args.page p c.get_by_guess.new.pass c.get_by_guess.result c.if-page-eq0.false c.get_by_guess.ensures.looked
