-- A page that is read where it lies.
use Rattle.std.specs.Prelude.{◌≡◌, ℕ, ◌+◌, ◌<◌, true, List, refl}
use Rattle.std.specs.Borrow.{MutBor}
use Rattle.std.proofs.Common.{◌∙◌, ap}
use Rattle.ib_layout.specs.Places.{page_place}
use Rattle.ib_core.specs.Sessions.{holdings}
use Rattle.ib_rule.specs.declared.memory.Loaded.{Loaded}
use Rattle.ib_rule.specs.declared.view.View.{View}
use Rattle.ib_rule.specs.Pass.{PassState, with_view}
use Rattle.ib_rule.specs.Space.{SpaceState}
use Rattle.ib_rule.specs.Views.{is_watched, with_memory}
use Rattle.ib_mtr.specs.declared.mtr.Mtr.{Mtr}
use Rattle.ib_mtr.specs.Mtr.{IsMtr, IsStillMtr}

-- the words of a page may be read one by one: the latch of the page is held, with a look at the log's end since
pub record CanRead (space : SpaceState) (page : ℕ) (p : PassState) : Type 0 where
  pub mtr : IsMtr space p
  pub there : page < space.sizes.pages
  pub held : 0 < holdings (page + 2) p.view.session
  pub watched : is_watched (page + 2) p.view.memory.since ≡ true

-- .. and the first of them lies at this place of the table
pub record CanReadFrom (space : SpaceState) (page start : ℕ) (p : PassState) : Type 0 where
  pub can : CanRead space page p
  pub begins : start ≡ page_place space.sizes page 0

-- the view with other loaded words
abbrev pub with_loads : List Loaded → View → View
with_loads loaded v = with_memory (record v.memory { loaded = loaded }) v

-- some words more are loaded, and nothing else is changed
pub record HasReadWords (p q : PassState) : Type 0 where
  pub same : q ≡ with_view p (with_loads q.view.memory.loaded p.view)

pub read_none : (p : PassState) → HasReadWords p p
read_none p = record { same = refl }

pub read_more : (p q r : PassState) → HasReadWords p q → HasReadWords q r → HasReadWords p r
read_more p q r one two = record { same = two.same ∙ ap (λ (s : PassState). with_view s (with_loads r.view.memory.loaded s.view)) one.same }

-- .. through a reference to its mini-transaction, which is one still
pub record HasReadHeld {L S : Type 0} (old new : MutBor (Mtr L S)) : Type 0 where
  pub same : new.ghost_name ≡ old.ghost_name
  pub still : IsStillMtr old.now new.now
  pub words : HasReadWords old.now.pass.now new.now.pass.now
