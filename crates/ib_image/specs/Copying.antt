-- A copy while it is made.
use Rattle.std.specs.Prelude.{◌≡◌, ℕ, ◌+◌, ◌<◌, ◌≤◌, ◌==◌, List, [], ◌∷◌, ◌++◌, length, map, take, if◌then◌else◌}
use Rattle.ib_levels.specs.declared.level.Level.{Level}
use Rattle.ib_levels.specs.declared.level.Level.TheVariants.{Space, TreeNode}
use Rattle.ib_levels.specs.declared.level.Mode.TheVariants.{S}
use Rattle.ib_layout.specs.Geometry.{Sizes}
use Rattle.ib_core.specs.Sessions.{idle}
use Rattle.ib_core.specs.Takings.{is_given_at}
use Rattle.ib_logrec.specs.declared.entry.Entry.{Entry}
use Rattle.ib_logrec.specs.Log.{memory_after, used}
use Rattle.ib_walk.specs.Words.{image_of}
use Rattle.ib_rule.specs.declared.memory.Knowledge.{Knowledge}
use Rattle.ib_rule.specs.Memory.{entries_of}
use Rattle.ib_rule.specs.Pass.{PassState, with_view}
use Rattle.ib_latch.specs.Waits.{EndsWon}
use Rattle.ib_image.specs.declared.copy.CopiedPage.{CopiedPage}
use Rattle.ib_image.specs.Copies.{IsCopiedPage, first_place, page_in}

-- the level of a page's latch
abbrev pub level_for : ℕ → Level
level_for page = if page == 0 then Space else TreeNode

-- of what a session knows nothing is changed but what it has seen, by which ends of the log it came there, and what belongs to a latch that it holds
abbrev pub HasOnlySeen : List ℕ → Knowledge → Knowledge → Type 0
HasOnlySeen ends m n = n ≡ record m { seen = n.seen; ends = m.ends ++ ends; since = n.since; loaded = n.loaded }

-- what is seen is lawful and fits the log, and the session's entries in it are its own
pub record KnowsLog (sizes : Sizes) (lawful : List Entry → Type 0) (q : PassState) : Type 0 where
  pub legal : lawful q.view.memory.seen
  pub room : used q.view.memory.seen ≤ sizes.log_words
  pub mine : entries_of q.number q.view.memory.seen ≡ q.view.memory.own

-- one page was copied, under one grant of S, which the last look at a lock word won and which was given back, and with one look at the log's end, which is its place. But for its looks at lock words nothing else is changed
pub record CopiesPage (sizes : Sizes) (lawful : List Entry → Type 0) (opening : ℕ → ℕ) (page : ℕ) (c : CopiedPage) (p q : PassState) : Type 0 where
  pub pass : q ≡ with_view p q.view
  pub idle : q.view.session ≡ idle
  pub more : List Entry
  pub seen : q.view.memory.seen ≡ p.view.memory.seen ++ more
  pub memory : HasOnlySeen (c.place ∷ []) p.view.memory q.view.memory
  pub place : c.place ≡ length q.view.memory.seen
  pub image : c.image ≡ image_of (memory_after opening q.view.memory.seen) page
  pub grants : q.view.grants ≡ record p.view.grants { s = p.view.grants.s + 1 }
  pub looks : EndsWon (is_given_at S) (page + 2) q.view.looks
  pub knows : KnowsLog sizes lawful q

-- the first pages were copied, one at least, each under one grant of S and with one look at the log's end, which is its place; so many words of the log stand before the place of page 0. The last look at a lock word won the last page's latch. But for such looks nothing else is changed
pub record HasCopied (sizes : Sizes) (lawful : List Entry → Type 0) (opening : ℕ → ℕ) (count : ℕ) (copy : List CopiedPage) (word : ℕ) (p q : PassState) : Type 0 where
  pub some : 0 < count
  pub pass : q ≡ with_view p q.view
  pub idle : q.view.session ≡ idle
  pub more : List Entry
  pub seen : q.view.memory.seen ≡ p.view.memory.seen ++ more
  pub memory : HasOnlySeen (map (λ c. c.place) (take count copy)) p.view.memory q.view.memory
  pub copied : (page : ℕ) → page < count → IsCopiedPage opening q.view.memory.seen page (page_in copy page)
  pub rises : (page : ℕ) → page + 1 < count → (page_in copy page).place ≤ (page_in copy (page + 1)).place
  pub from : length p.view.memory.seen ≤ first_place copy
  pub tail : word ≡ used (take (first_place copy) q.view.memory.seen)
  pub grants : q.view.grants ≡ record p.view.grants { s = p.view.grants.s + count }
  pub looks : EndsWon (is_given_at S) (count + 1) q.view.looks
  pub knows : KnowsLog sizes lawful q
