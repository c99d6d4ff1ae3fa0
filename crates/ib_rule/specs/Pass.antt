-- What contracts see of a pass, and how its fields stand for that.
use Rattle.std.specs.Prelude.{◌≡◌, ℕ, ◌<◌, ◌≤◌, ◌^◌, Bool, true, List, [], length, vec_len, None}
use Rattle.atomic_table.specs.Seated.{TableId}
use Rattle.ib_layout.specs.Geometry.{Sizes}
use Rattle.ib_layout.specs.Places.{latches_of}
use Rattle.ib_core.specs.Good.{IsProper}
use Rattle.ib_core.specs.Sessions.{grants, holdings, idle}
use Rattle.ib_logrec.specs.declared.entry.TheConstants.{MOST_SESSIONS}
use Rattle.ib_logrec.specs.Log.{used}
use Rattle.ib_levels.specs.declared.latch.Latch.{Latch}
use Rattle.ib_levels.specs.declared.level.Mode.{Mode}
use Rattle.ib_page.specs.Work.{WorkPage}
use Rattle.ib_rule.specs.declared.pass.TheConstants.{ENTRY_WORDS, MOST_HELD}
use Rattle.ib_rule.specs.declared.pass.Pass.TheInside.{Inside}
use Rattle.ib_rule.specs.declared.memory.Knowledge.{Knowledge}
use Rattle.ib_rule.specs.declared.view.Role.TheVariants.{Session}
use Rattle.ib_rule.specs.declared.view.View.{View}
use Rattle.ib_rule.specs.ScratchHolder.{IsScratchHolder, holder_state}
use Rattle.ib_rule.specs.Views.{total, with_raises, KnowsHeld, is_watched}
use Rattle.ib_rule.specs.Space.{SpaceState}

-- a pass: the sizes of its space, its number and view, whether its scratch is in it and free, whether a mini-transaction works in the scratch, on which pages and with which grants, and its words for an entry
pub record PassState : Type 0 where
  pub table : TableId
  pub sizes : Sizes
  pub number : ℕ
  pub view : View
  pub has_scratch : Bool
  pub is_working : Bool
  pub work : List WorkPage
  pub memo : List (Latch × Mode)
  pub words : List ℕ

-- the pass with another view
abbrev pub with_view : PassState → View → PassState
with_view p v = record p { view = v }

-- .. with the raises of another pass
abbrev pub raising_as : PassState → PassState → PassState
raising_as q p = with_view p (with_raises q.view.looks.raises p.view)

-- the pass was drawn from this space
abbrev pub IsFrom : SpaceState → PassState → Type 0
IsFrom space p = (p.table ≡ space.table) × (p.sizes ≡ space.sizes)

-- .. and has no open append
pub record IsOf (space : SpaceState) (p : PassState) : Type 0 where
  pub table : p.table ≡ space.table
  pub sizes : p.sizes ≡ space.sizes
  pub closed : p.view.memory.append ≡ None

-- a pass of the space at rest, as a call on an index asks for it and leaves it: its session holds nothing and is in the middle of nothing, and its scratch is in it and free
pub record IsAtRest (space : SpaceState) (p : PassState) : Type 0 where
  pub own : IsOf space p
  pub idle : p.view.session ≡ idle
  pub scratch : p.has_scratch ≡ true

abbrev pub pass_state : Inside → PassState
pass_state p = let d = holder_state p.holder in record { table = p.seat.table_id; sizes = p.geometry; number = p.number; view = p.seat.me.0; has_scratch = d.is_free; is_working = d.is_taken; work = d.work; memo = d.memo; words = p.words.items }

-- what is seen fits the log, has at least a word for each entry, and has the session's own entries
pub record IsFront (sizes : Sizes) (m : Knowledge) : Type 0 where
  pub mine : length m.own ≤ length m.seen
  pub short : length m.seen ≤ used m.seen
  pub room : used m.seen ≤ sizes.log_words

-- so many grants were taken before the last look at the log's end: where none was since, each latch that is held has a since
pub record IsWatching (n : ℕ) (v : View) : Type 0 where
  pub before : n ≤ total v.grants
  pub all : n ≡ total v.grants → (l : ℕ) → 0 < holdings l v.session → is_watched l v.memory.since ≡ true

-- the fields of a pass mirror the view of its seat
pub record IsPass (p : Inside) : Type 0 where
  pub plain : p.seat.me.1 ≡ []
  pub role : p.seat.me.0.role ≡ Session p.number
  pub drawn : (1 ≤ p.number) × (p.number ≤ MOST_SESSIONS)
  pub latches : p.member.latches ≡ latches_of p.geometry
  pub session : p.member.session ≡ p.seat.me.0.session
  pub counts : p.grants ≡ p.seat.me.0.grants
  pub place : p.place ≡ length p.seat.me.0.memory.seen
  pub used : p.used ≡ used p.seat.me.0.memory.seen
  pub made : p.made ≡ length p.seat.me.0.memory.own
  pub watches : IsWatching p.looked_after p.seat.me.0
  pub front : IsFront p.geometry p.seat.me.0.memory
  pub proper : IsProper p.seat.me.0.session
  pub known : KnowsHeld p.seat.me.0
  pub few : (l : ℕ) → grants l p.seat.me.0.session ≤ MOST_HELD
  pub taken : total p.seat.me.0.grants ≤ 2 ^ 52
  pub sized : vec_len p.words ≡ ENTRY_WORDS
  pub holder : IsScratchHolder p.holder
