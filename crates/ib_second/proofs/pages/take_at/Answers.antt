-- The page is taken, and then loaded.
use Rattle.std.proofs.Common.{◌≡◌, ◌∙◌, true, ap, sym, subst, arith}
use Rattle.ib_map.specs.Space.{has_pages}
use Rattle.ib_layout.specs.Geometry.{Sizes}
use Rattle.ib_levels.specs.declared.latch.Latch.{Latch}
use Rattle.ib_levels.specs.declared.level.Mode.TheVariants.{X}
use Rattle.ib_rule.specs.Takes.{MayTake}
use Rattle.ib_logrec.specs.Log.{by_place}
use Rattle.ib_page.specs.Work.{changed_of}
use Rattle.ib_rule.specs.Pass.{PassState}
use Rattle.ib_pair_law.specs.Opening.{pair_opening}
use Rattle.ib_pair_law.specs.PairKept.{IsPairLog}
use Rattle.ib_cursor.specs.Descent.{HasPage}
use Rattle.ib_cursor.specs.Grants.{HasTaken}
use Rattle.ib_cursor.specs.Shapes.{HasLookedOn}
use Rattle.ib_second.proofs.TakeMore.{taken-at}
use Rattle.ib_second.proofs.pages.take_at.Goals as goal

pub take-requires-clause-may : goal.take-requires-clause-may
take-requires-clause-may g c =
    subst (λ (l : Latch). MayTake c.args.mtr.now.latches.now l.0 c.args.level c.args.mtr.now.pass.now) (sym c.page.ensures) (record {
      own = c.requires.mtr.own;
      latch = let low = c.requires.page in omega arith;
      grows = c.requires.grows;
      may = c.requires.may;
    })

pub read-requires-clause-absent : goal.read-requires-clause-absent
read-requires-clause-absent g c = ap (λ (r : PassState). changed_of c.args.page r.work) c.take.ensures.taken.pass ∙ c.requires.absent

pub returns-clause-taken : goal.returns-clause-taken
returns-clause-taken g c = λ key path key2 path2 held can other.
    let sizes : Sizes = c.args.mtr.now.latches.now.sizes in
    let p : PassState = c.args.mtr.now.pass.now in let q : PassState = c.take.new.mtr.pass.now in let r : PassState = c.read.new.mtr.pass.now in
    let size : c.geometry.result ≡ sizes = c.geometry.ensures in
    let fits = subst (λ (s : Sizes). has_pages s.pages ≡ true) size (subst (λ n. has_pages n ≡ true) c.pages.ensures.pages c.pages.ensures.in_range) in
    let taken = subst (λ (l : Latch). HasTaken (record { latch = l.0; mode = X; level = c.args.level }) p q) c.page.ensures c.take.ensures.taken in
    let same = ap (λ m. m.now.sizes) c.take.ensures.still.latches in
    let l = c.read.ensures in
    taken-at sizes key path key2 path2 held c.args.page c.args.level p can other fits q r c.requires.page c.requires.mtr.held taken (subst (λ (k : Sizes). HasLookedOn k (IsPairLog k.pages) q r) same l.looked_on) l.memo l.session l.grants
    (subst (λ (k : Sizes). HasPage (by_place pair_opening k.pages) c.args.page q r) same l.loaded) l.still.mtr.held
