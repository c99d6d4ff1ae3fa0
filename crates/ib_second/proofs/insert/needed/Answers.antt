-- What both inserts need, where the session has come to both paths.
use Rattle.std.specs.Prelude.{IfOk, MatchResult, Result, Ok, Err}
use Rattle.std.proofs.Common.{◌≡◌, ◌≢◌, ◌++◌, [], List, ℕ, ap, length, arith, refl, sym, subst}
use Rattle.ib_map.specs.Keys.{MapKey}
use Rattle.ib_layout.specs.Geometry.{Sizes}
use Rattle.ib_page.specs.Work.{WorkPage}
use Rattle.ib_plans.specs.Agreement.{Agrees, HasTreePages}
use Rattle.ib_split.proofs.OnPathLaws.{path-length}
use Rattle.ib_rule.specs.Pass.{PassState}
use Rattle.ib_mtr.specs.Mtr.{IsMtr, with_work}
use Rattle.ib_cursor.proofs.PageLaws.{has_told}
use Rattle.ib_second.specs.PairReady.{bits_seen, pages_seen}
use Rattle.ib_index.specs.Grows.{tree_pages}
use Rattle.ib_second.proofs.StandLaws.{agrees-first, agrees-other}
use Rattle.ib_second.proofs.insert.needed.Goals as goal

some-way : (pages root : ℕ) (key : MapKey) (path : List ℕ) (work : List WorkPage) (p : PassState) (sizes : Sizes) → Agrees pages 2 root key path work (pages_seen sizes p) (bits_seen sizes p) → path ≢ []
some-way pages root key path work p sizes a is =
    let l = path-length pages 2 root key path work (pages_seen sizes p) (bits_seen sizes p) a in let z = ap length is in absurd (omega arith)

pub pair_pages_needed-requires-clause-some : goal.pair_pages_needed-requires-clause-some
pair_pages_needed-requires-clause-some c =
    let sizes : Sizes = c.args.mtr.now.latches.now.sizes in let p : PassState = c.args.mtr.now.pass.now in
    let size : c.geometry.result ≡ sizes = c.geometry.ensures in
    let fits = has_told size c.pages.ensures.pages c.pages.ensures.in_range in
    let r = c.requires.ready in let come = r.3 in (
      some-way sizes.pages 1 r.0 c.args.paths.now.first p.work p sizes (agrees-first sizes fits r.0 c.args.paths.now.first r.1 c.args.paths.now.second (tree_pages (come.held ++ come.other_held)) p come.stands),
      some-way sizes.pages 2 r.1 c.args.paths.now.second p.work p sizes (agrees-other sizes fits r.0 c.args.paths.now.first r.1 c.args.paths.now.second (tree_pages (come.held ++ come.other_held)) p come.stands),
    )

pub pair_pages_needed-requires-clause-there : goal.pair_pages_needed-requires-clause-there
pair_pages_needed-requires-clause-there c =
    let come = c.requires.ready.3 in
    subst (λ (ws : List WorkPage). HasTreePages c.args.paths.now.first ws × HasTreePages c.args.paths.now.second ws) (sym c.work.ensures.work) (come.images.trees, come.other_images.trees)

pub returns-clause-still : goal.returns-clause-still
returns-clause-still c = record {
  mtr = subst (λ (ws : List WorkPage). IsMtr c.args.mtr.now.latches.now (with_work ws c.args.mtr.now.pass.now)) (sym c.work.ensures.work) c.requires.mtr;
  latches = refl;
  pass = refl;
}

pub returns-clause-needed : goal.returns-clause-needed
returns-clause-needed c = λ key other_key before come.
    let sizes : Sizes = c.args.mtr.now.latches.now.sizes in let p : PassState = c.args.mtr.now.pass.now in
    let size : c.geometry.result ≡ sizes = c.geometry.ensures in
    let fits = has_told size c.pages.ensures.pages c.pages.ensures.in_range in
    let path : List ℕ = c.args.paths.now.first in let path2 : List ℕ = c.args.paths.now.second in
    let first = agrees-first sizes fits key path other_key path2 (tree_pages (come.held ++ come.other_held)) p come.stands in
    let other = agrees-other sizes fits key path other_key path2 (tree_pages (come.held ++ come.other_held)) p come.stands in
    c.pair_pages_needed.ensures.needed sizes.pages key other_key (pages_seen sizes p) (bits_seen sizes p)
    (subst (λ (ws : List WorkPage). Agrees sizes.pages 2 1 key path ws (pages_seen sizes p) (bits_seen sizes p)) (sym c.work.ensures.work) first)
    (subst (λ (ws : List WorkPage). Agrees sizes.pages 2 2 other_key path2 ws (pages_seen sizes p) (bits_seen sizes p)) (sym c.work.ensures.work) other)

-- what holds where all is well
ok-part : {A B : Type 0} (o : Result A B) (P R : A → Type 0) (Q : B → Type 0) → ((a : A) → P a → R a) → MatchResult o P Q → IfOk o R
ok-part (Ok a) P R Q so m = so a m
ok-part (Err b) P R Q so m = tt

pub returns-clause-few : goal.returns-clause-few
returns-clause-few c =
    let r = c.requires.ready in
    ok-part c.pair_pages_needed.result _ _ _ (λ needs are. are.4) (returns-clause-needed c r.0 r.1 r.2 r.3)
