-- The end of a mini-transaction: what its commit asks, and what it leaves.
use Rattle.std.specs.Prelude.{◌≡◌, ℕ, ◌+◌, ◌<◌, ◌≤◌, true, false, List, [], ◌∷◌, ◌++◌, length, Some, None}
use Rattle.std.specs.List.{All, AllByRecursion}
use Rattle.ib_map.specs.declared.call.Change.{Change}
use Rattle.ib_map.specs.Writes.{spans_pages, touches}
use Rattle.ib_levels.specs.declared.level.Level.TheVariants.{Log}
use Rattle.ib_levels.specs.declared.level.Mode.TheVariants.{X}
use Rattle.ib_page.specs.Writes.{writes_of}
use Rattle.ib_layout.specs.Geometry.{Sizes}
use Rattle.ib_core.specs.Holders.{CanWish}
use Rattle.ib_core.specs.Sessions.{idle, sx_grants, x_grants}
use Rattle.ib_logrec.specs.declared.entry.Entry.{Entry}
use Rattle.ib_logrec.specs.declared.entry.TheConstants.{MOST_WRITES}
use Rattle.ib_logrec.specs.Log.{used}
use Rattle.ib_frames.specs.declared.appends.LogFull.{LogFull}
use Rattle.ib_frames.specs.Appends.{entry_for}
use Rattle.ib_rule.specs.declared.looks.Grants.{Grants}
use Rattle.ib_rule.specs.declared.pass.TheConstants.{ENTRY_WORDS}
use Rattle.ib_rule.specs.Conditions.{MayGrow}
use Rattle.ib_rule.specs.Memory.{entries_of}
use Rattle.ib_rule.specs.Pass.{PassState}
use Rattle.ib_rule.specs.Stores.{IsHarmless, IsLook}
use Rattle.ib_rule.specs.Views.{with_grant}
use Rattle.ib_mtr.specs.Loads.{IsPageAfter}

-- the entry by which a mini-transaction makes the change
abbrev pub commit_entry : PassState → Change → Entry
commit_entry p change = entry_for p change p.work

-- it may commit: the log latch may be wished for and a grant be taken; X is held on each page that it writes, and where it writes more than one, SX on the index and not X; and its entry is lawful behind whatever harmless entries of others come behind those seen
pub record MayCommit (lawful : List Entry → Type 0) (p : PassState) (change : Change) : Type 0 where
  pub grows : MayGrow p.view
  pub log : CanWish 0 Log p.view.session
  pub pages_x : (page : ℕ) → touches page (writes_of p.work) ≡ true → 0 < x_grants (page + 2) p.view.session
  pub index : spans_pages (writes_of p.work) ≡ true → (0 < sx_grants 1 p.view.session) × (x_grants 1 p.view.session ≡ 0)
  pub legal : (others : List Entry) → AllByRecursion (IsHarmless p.number p.view.memory.since) others → lawful (p.view.memory.seen ++ others)
      → lawful ((p.view.memory.seen ++ others) ++ commit_entry p change ∷ [])

-- what a commit asks under any law, and that as many words are changed as an entry may have writes: where every entry in the grammar is lawful, it asks no more
pub record MayCommitAny (p : PassState) : Type 0 where
  pub grows : MayGrow p.view
  pub log : CanWish 0 Log p.view.session
  pub pages_x : (page : ℕ) → touches page (writes_of p.work) ≡ true → 0 < x_grants (page + 2) p.view.session
  pub index : spans_pages (writes_of p.work) ≡ true → (0 < sx_grants 1 p.view.session) × (x_grants 1 p.view.session ≡ 0)
  pub changes : 0 < length (writes_of p.work)
  pub few : length (writes_of p.work) ≤ MOST_WRITES

-- the mini-transaction has ended: its scratch is free, its session holds nothing and knows of no page, and has seen these entries and made those, with these ends of the log
pub record HasEnded (p : PassState) (taken : Grants) (seen own : List Entry) (ends : List ℕ) (q : PassState) : Type 0 where
  pub pass : q ≡ record p { view = q.view; has_scratch = true; is_working = false; work = []; memo = []; words = q.words }
  pub role : q.view.role ≡ p.view.role
  pub session : q.view.session ≡ idle
  pub grants : q.view.grants ≡ taken
  pub written : q.view.written ≡ []
  pub looks : p.view.looks.count ≤ q.view.looks.count
  pub memory : q.view.memory ≡ record { met = p.view.memory.met; seen = seen; own = own; ends = ends; since = []; loaded = []; append = None }

-- the ends of the log that it found, with one look more that found this many entries
abbrev pub one_end_more : PassState → ℕ → List ℕ
one_end_more p found = p.view.memory.ends ++ found ∷ []

-- the grants of a commit: one of X more, on the log latch
abbrev pub commit_grants : PassState → Grants
commit_grants p = with_grant (Some X) p.view.grants

-- it committed at this place: its entry stands last, behind all that was seen and the harmless entries of others, where each entry had room; and each page of the work set is in the memory after it as it was changed
pub record HasCommitted (sizes : Sizes) (lawful : List Entry → Type 0) (opening : ℕ → ℕ) (change : Change) (p : PassState) (answer : ℕ) (q : PassState) : Type 0 where
  pub log : List Entry
  pub looked : IsLook sizes lawful p.view log
  pub place : answer ≡ length log
  pub ended : HasEnded p (commit_grants p) (log ++ commit_entry p change ∷ []) (p.view.memory.own ++ commit_entry p change ∷ []) (one_end_more p answer) q
  pub legal : lawful (log ++ commit_entry p change ∷ [])
  pub mine : entries_of p.number (log ++ commit_entry p change ∷ []) ≡ p.view.memory.own ++ commit_entry p change ∷ []
  pub room : used (log ++ commit_entry p change ∷ []) ≤ sizes.log_words
  pub wide : used log + ENTRY_WORDS ≤ sizes.log_words
  pub pages : All (λ w. IsPageAfter opening (log ++ commit_entry p change ∷ []) w.page w.changed) p.work

-- the log, all of which was seen, had no room for each entry
pub record IsFull (sizes : Sizes) (lawful : List Entry → Type 0) (p : PassState) (full : LogFull) (q : PassState) : Type 0 where
  pub log : List Entry
  pub looked : IsLook sizes lawful p.view log
  pub words : full.used ≡ used log
  pub cap : full.cap ≡ sizes.log_words
  pub short : sizes.log_words < used log + ENTRY_WORDS
  pub ended : HasEnded p (commit_grants p) log p.view.memory.own (one_end_more p (length log)) q

-- it ended without a change, having looked at the log's end once more, at no lock word, and with no step as one that waits
pub record HasRead (sizes : Sizes) (lawful : List Entry → Type 0) (p : PassState) (answer : ℕ) (q : PassState) : Type 0 where
  pub log : List Entry
  pub looked : IsLook sizes lawful p.view log
  pub place : answer ≡ length log
  pub ended : HasEnded p p.view.grants log p.view.memory.own (one_end_more p answer) q
  pub looks : q.view.looks.count ≡ p.view.looks.count
  pub waits : q.view.looks.waits ≡ p.view.looks.waits
