-- A search for a change that does not wait, and found a latch taken.
use Rattle.std.specs.Prelude.{◌≡◌, ◌⊎◌, ℕ, ◌+◌, ◌*◌, ◌<◌, ◌≤◌, true, List, [], ◌∷◌, ◌++◌, length}
use Rattle.std.specs.List.{flat_map}
use Rattle.ib_map.specs.Keys.{MapKey}
use Rattle.ib_levels.specs.declared.level.Mode.{Mode}
use Rattle.ib_levels.specs.declared.level.Mode.TheVariants.{S, Sx, X}
use Rattle.ib_layout.specs.Geometry.{Sizes}
use Rattle.ib_logrec.specs.declared.entry.Entry.{Entry}
use Rattle.ib_walk.specs.Pages.{PageMemory}
use Rattle.ib_plans.specs.Agreement.{path_of}
use Rattle.ib_tree.specs.Logs.{pages_after}
use Rattle.ib_tree.specs.PageLists.{is_listed}
use Rattle.ib_rule.specs.declared.looks.Grants.{Grants}
use Rattle.ib_rule.specs.declared.looks.Looks.{Looks}
use Rattle.ib_rule.specs.declared.view.View.{View}
use Rattle.ib_rule.specs.Pass.{PassState}
use Rattle.ib_rule.specs.Views.{total}
use Rattle.ib_latch.specs.declared.tries.TryFault.{TryFault}
use Rattle.ib_latch.specs.declared.tries.TryFault.TheVariants.{Busy as TryBusy, Raced as TryRaced}
use Rattle.ib_latch.specs.Refusals.{WasRefusedFor}
use Rattle.ib_cursor.specs.declared.fault.NowaitFault.{NowaitFault}
use Rattle.ib_cursor.specs.declared.fault.NowaitFault.TheVariants.{Busy, Raced}
use Rattle.ib_cursor.specs.Claims.{IsPathWithLeaves}
use Rattle.ib_cursor.specs.Contention.{IsAnywhereOnPath, refused_latch}
use Rattle.ib_cursor.specs.Going.{IsKnown, WentOn}
use Rattle.ib_cursor.specs.Grants.{HasGrants}
use Rattle.ib_cursor.specs.OnPath.{IsOnPath}
use Rattle.ib_cursor.specs.Shapes.{HasLookedOn, KeepsClaim}
use Rattle.ib_cursor.specs.Siblings.{IsPathWithSiblings, with_siblings}
use Rattle.ib_cursor.specs.Takings.{AreSteady}

-- the try of a fault
abbrev pub try_of : NowaitFault → TryFault
try_of (Busy latch word) = TryBusy word
try_of (Raced latch expected found) = TryRaced expected found

-- how many looks at its lock word a refused try takes: one that finds it taken; or one and an exchange, which finds another word
abbrev pub looks_of : NowaitFault → ℕ
looks_of (Busy latch word) = 1
looks_of (Raced latch expected found) = 2

-- the latch of the fault was tried for the mode in the steps between, and refused at the words that the fault tells
abbrev pub WasRefusedIn : Mode → NowaitFault → Looks → Looks → Type 0
WasRefusedIn mode fault first last = WasRefusedFor mode (refused_latch fault) (try_of fault) first last

-- there were two looks at lock words at most for each grant that was taken in the steps between, and so many more, and no step of who waits
pub record AreFewLooks (more : ℕ) (v w : View) : Type 0 where
  pub least : v.looks.count ≤ w.looks.count
  pub most : w.looks.count + 2 * total v.grants ≤ v.looks.count + 2 * total w.grants + more
  pub waits : w.looks.waits ≡ v.looks.waits

-- so many grants more at most
pub record AreFewGrants (most : Grants) (v w : View) : Type 0 where
  pub s : w.grants.s ≤ v.grants.s + most.s
  pub sx : w.grants.sx ≤ v.grants.sx + most.sx
  pub x : w.grants.x ≤ v.grants.x + most.x

-- a latch was tried for the mode in vain, and then the log's end looked at; nothing else is changed
pub record IsVainTry (sizes : Sizes) (lawful : List Entry → Type 0) (mode : Mode) (l : ℕ) (fault : NowaitFault) (p q : PassState) : Type 0 where
  pub looked_on : HasLookedOn sizes lawful p q
  pub memo : q.memo ≡ p.memo
  pub session : q.view.session ≡ p.view.session
  pub grants : q.view.grants ≡ p.view.grants
  pub work : q.work ≡ p.work
  pub at : refused_latch fault ≡ l
  pub refused : WasRefusedIn mode fault p.view.looks q.view.looks
  pub few : AreFewLooks (looks_of fault) p.view q.view

-- a search that takes such latches was refused one of them, at its last looks, and looked at the log's end since: it changed nothing, and took so many grants at most, with two looks at most for each and those of the refused try
pub record IsRefusal (sizes : Sizes) (lawful : List Entry → Type 0) (takes : List Entry → Mode → ℕ → Type 0) (most : Grants) (fault : NowaitFault) (p q : PassState) : Type 0 where
  pub went : WentOn p q
  pub looked : 0 < length went.added
  pub known : IsKnown sizes lawful q
  pub mode : Mode
  pub taken : takes q.view.memory.seen mode (refused_latch fault)
  pub refused : WasRefusedIn mode fault p.view.looks q.view.looks
  pub few : AreFewLooks (looks_of fault) p.view q.view
  pub grants : AreFewGrants most p.view q.view

-- .. and gave up: nothing is held, and no page is loaded
pub record HasGivenUp (sizes : Sizes) (lawful : List Entry → Type 0) (takes : List Entry → Mode → ℕ → Type 0) (most : Grants) (fault : NowaitFault) (p q : PassState) : Type 0 where
  pub refusal : IsRefusal sizes lawful takes most fault p q
  pub grants : HasGrants [] q
  pub work : q.work ≡ []

-- the latch of one of these pages
pub record IsLatchOf (pages : List ℕ) (l : ℕ) : Type 0 where
  pub page : ℕ
  pub listed : is_listed pages page ≡ true
  pub at : l ≡ page + 2

-- a page of the key's path in the tree after these entries
abbrev pub IsPathLatch : (ℕ → ℕ) → List Entry → ℕ → MapKey → ℕ → Type 0
IsPathLatch opening log root key l = (page : ℕ) × (level : ℕ) × (l ≡ page + 2) × IsOnPath (pages_after opening log) root key page level

-- what a search takes that is to change the key's leaf: in S the index and pages of the key's path, in X the leaf, or the root
abbrev pub TakesForLeaf : (ℕ → ℕ) → ℕ → MapKey → List Entry → Mode → ℕ → Type 0
TakesForLeaf opening root key log S l = IsAnywhereOnPath opening log root key l
TakesForLeaf opening root key log Sx l = ⊥
TakesForLeaf opening root key log X l = (page : ℕ) × (level : ℕ) × (l ≡ page + 2) × IsOnPath (pages_after opening log) root key page level × ((level ≡ 0) ⊎ (page ≡ root))

-- what a search takes that ends with such pages held: the index in SX, pages of the key's path in S while it reads them, and then those pages in X
abbrev pub TakesFor : (PageMemory → List ℕ → Type 0) → (ℕ → ℕ) → ℕ → MapKey → List Entry → Mode → ℕ → Type 0
TakesFor holds opening root key log S l = IsPathLatch opening log root key l
TakesFor holds opening root key log Sx l = l ≡ 1
TakesFor holds opening root key log X l = (held : List ℕ) × holds (pages_after opening log) held × IsLatchOf held l

-- an insert holds the key's path and the leaves beside its leaf; a delete the key's path and the pages beside those of the path
abbrev pub IsHeldByInsert : ℕ → MapKey → PageMemory → List ℕ → Type 0
IsHeldByInsert root key memory held = IsPathWithLeaves memory (path_of memory key root) held

abbrev pub IsHeldByDelete : ℕ → MapKey → PageMemory → List ℕ → Type 0
IsHeldByDelete root key memory held = IsPathWithSiblings memory root key (path_of memory key root) held

-- a search for a change of the leaf was refused a latch, and one that gave up
abbrev pub IsLeafRefusal : Sizes → (List Entry → Type 0) → (ℕ → ℕ) → ℕ → MapKey → NowaitFault → PassState → PassState → Type 0
IsLeafRefusal sizes lawful opening root key fault p q = IsRefusal sizes lawful (TakesForLeaf opening root key) (record { s = 9; sx = 0; x = 1 }) fault p q

abbrev pub IsLeafRefused : Sizes → (List Entry → Type 0) → (ℕ → ℕ) → ℕ → MapKey → NowaitFault → PassState → PassState → Type 0
IsLeafRefused sizes lawful opening root key fault p q = HasGivenUp sizes lawful (TakesForLeaf opening root key) (record { s = 9; sx = 0; x = 1 }) fault p q

-- .. one for an insert that may change the structure
abbrev pub IsInsertRefusal : Sizes → (List Entry → Type 0) → (ℕ → ℕ) → ℕ → MapKey → NowaitFault → PassState → PassState → Type 0
IsInsertRefusal sizes lawful opening root key fault p q = IsRefusal sizes lawful (TakesFor (IsHeldByInsert root key) opening root key) (record { s = 8; sx = 1; x = 10 }) fault p q

abbrev pub IsInsertRefused : Sizes → (List Entry → Type 0) → (ℕ → ℕ) → ℕ → MapKey → NowaitFault → PassState → PassState → Type 0
IsInsertRefused sizes lawful opening root key fault p q = HasGivenUp sizes lawful (TakesFor (IsHeldByInsert root key) opening root key) (record { s = 8; sx = 1; x = 10 }) fault p q

-- .. and one for such a delete
abbrev pub IsDeleteRefusal : Sizes → (List Entry → Type 0) → (ℕ → ℕ) → ℕ → MapKey → NowaitFault → PassState → PassState → Type 0
IsDeleteRefusal sizes lawful opening root key fault p q = IsRefusal sizes lawful (TakesFor (IsHeldByDelete root key) opening root key) (record { s = 8; sx = 1; x = 23 }) fault p q

abbrev pub IsDeleteRefused : Sizes → (List Entry → Type 0) → (ℕ → ℕ) → ℕ → MapKey → NowaitFault → PassState → PassState → Type 0
IsDeleteRefused sizes lawful opening root key fault p q = HasGivenUp sizes lawful (TakesFor (IsHeldByDelete root key) opening root key) (record { s = 8; sx = 1; x = 23 }) fault p q

-- on the way: a page of the key's path was refused in S, while the path was read
abbrev pub TakesPath : (ℕ → ℕ) → ℕ → MapKey → List Entry → Mode → ℕ → Type 0
TakesPath opening root key log mode l = (mode ≡ S) × IsPathLatch opening log root key l

abbrev pub IsPathRefusal : Sizes → (List Entry → Type 0) → (ℕ → ℕ) → ℕ → MapKey → NowaitFault → PassState → PassState → Type 0
IsPathRefusal sizes lawful opening root key fault p q = IsRefusal sizes lawful (TakesPath opening root key) (record { s = 8; sx = 0; x = 0 }) fault p q

-- .. such a page, at this level in the tree after all seen, was tried in vain
pub record IsVainOnPath (sizes : Sizes) (lawful : List Entry → Type 0) (opening : ℕ → ℕ) (root : ℕ) (key : MapKey) (mode : Mode) (page level : ℕ) (fault : NowaitFault) (p q : PassState) : Type 0 where
  pub vain : IsVainTry sizes lawful mode (page + 2) fault p q
  pub on_path : IsOnPath (pages_after opening q.view.memory.seen) root key page level

-- one of these pages was refused in X behind the claimed index, which is claimed still
abbrev pub TakesPages : List ℕ → List Entry → Mode → ℕ → Type 0
TakesPages pages log mode l = (mode ≡ X) × IsLatchOf pages l

pub record IsPageRefused (sizes : Sizes) (lawful : List Entry → Type 0) (pages : List ℕ) (fault : NowaitFault) (p q : PassState) : Type 0 where
  pub refusal : IsRefusal sizes lawful (TakesPages pages) (record { s = 0; sx = 0; x = length pages }) fault p q
  pub keeps : KeepsClaim p q

-- .. and the pages that were held are as they were
pub record IsRefusedBehind (sizes : Sizes) (lawful : List Entry → Type 0) (opening : ℕ → ℕ) (held pages : List ℕ) (fault : NowaitFault) (p q : PassState) : Type 0 where
  pub refused : IsPageRefused sizes lawful pages fault p q
  pub steady : AreSteady opening held p q

-- the root was refused, or a page of the row below a node of the path, which is not its last page
pub record IsRowRefused (sizes : Sizes) (lawful : List Entry → Type 0) (opening : ℕ → ℕ) (root : ℕ) (key : MapKey) (path : List ℕ) (fault : NowaitFault) (p q : PassState) : Type 0 where
  pub above : List ℕ
  pub node : ℕ
  pub rest : List ℕ
  pub is : path ≡ above ++ node ∷ rest
  pub refused : IsPageRefused sizes lawful (root ∷ flat_map (with_siblings (pages_after opening q.view.memory.seen) key) above) fault p q
