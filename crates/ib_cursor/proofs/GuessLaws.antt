-- A page that is latched alone.
use Rattle.std.proofs.Common.{◌≡◌, ◌≢◌, ℕ, ◌+◌, ◌<◌, ◌∙◌, List, [], ◌∷◌, sym, subst}
use Rattle.ib_levels.specs.declared.level.Mode.{Mode}
use Rattle.ib_layout.specs.Geometry.{Sizes}
use Rattle.ib_core.specs.Sessions.{holdings}
use Rattle.ib_logrec.specs.declared.entry.Entry.{Entry}
use Rattle.ib_rule.specs.declared.memory.Loaded.{Loaded}
use Rattle.ib_rule.specs.Pass.{PassState, with_view}
use Rattle.ib_cursor.specs.Going.{HasLatched}
use Rattle.ib_cursor.specs.Grants.{page_grant, HasGrants}
use Rattle.ib_cursor.specs.Guesses.{HasLatchedAlone}
use Rattle.ib_cursor.specs.Laws.{Laws}
use Rattle.ib_cursor.specs.Reading.{HasReadWords, with_loads}
use Rattle.ib_cursor.proofs.GrantLaws.{grants_more, last_held}
use Rattle.ib_cursor.proofs.PositionLaws.{page_formed}

-- a page is latched where nothing is held
module _ (sizes : Sizes) (roots : ℕ) (lawful : List Entry → Type 0) (opening : ℕ → ℕ) (laws : Laws sizes.pages roots lawful opening) (page : ℕ) (some : page ≢ 0) (mode : Mode)
    (p q : PassState) (idle : HasGrants [] p) (none : p.work ≡ []) (latched : HasLatched sizes lawful (page_grant page mode) p q) where
  alone-held : HasGrants (page_grant page mode ∷ []) q
  alone-held = grants_more [] (page_grant page mode) p q idle latched.memo latched.session

  pub alone_holds : 0 < holdings (page + 2) q.view.session
  alone_holds = last_held [] (page_grant page mode) q alone-held

  pub latched_alone : HasLatchedAlone sizes lawful opening page mode p q
  latched_alone = record {
    held = alone-held;
    watched = latched.seen.watched (page + 2) alone_holds;
    work = latched.work ∙ none;
    known = latched.seen.known;
    formed = page_formed sizes.pages roots lawful opening laws q.view.memory.seen latched.seen.known.legal page some;
    went = latched.seen.went;
    one = latched.seen.one;
    grants = latched.grants;
  }

-- .. and words of it are read
alone-loads : (sizes : Sizes) (lawful : List Entry → Type 0) (opening : ℕ → ℕ) (page : ℕ) (mode : Mode) (p q : PassState) (loaded : List Loaded)
    → HasLatchedAlone sizes lawful opening page mode p q → HasLatchedAlone sizes lawful opening page mode p (with_view q (with_loads loaded q.view))
alone-loads sizes lawful opening page mode p q loaded a = record {
  held = record { memo = a.held.memo; session = a.held.session };
  watched = a.watched;
  work = a.work;
  known = record { legal = a.known.legal; room = a.known.room; mine = a.known.mine };
  formed = a.formed;
  went = record { table = a.went.table; sizes = a.went.sizes; number = a.went.number; own = a.went.own; more = a.went.more; seen = a.went.seen; added = a.went.added; ends = a.went.ends; bounds = a.went.bounds };
  one = a.one;
  grants = a.grants;
}

pub alone_read : (sizes : Sizes) (lawful : List Entry → Type 0) (opening : ℕ → ℕ) (page : ℕ) (mode : Mode) (p q r : PassState)
    → HasLatchedAlone sizes lawful opening page mode p q → HasReadWords q r → HasLatchedAlone sizes lawful opening page mode p r
alone_read sizes lawful opening page mode p q r a read =
    subst (HasLatchedAlone sizes lawful opening page mode p) (sym read.same) (alone-loads sizes lawful opening page mode p q r.view.memory.loaded a)
