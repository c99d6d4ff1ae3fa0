-- The order of levels, and which list of levels is orderly.
use Rattle.std.specs.Prelude.{ℕ, Bool, true, false, not, nat_lt, nat_eq, ◌||◌, ◌&&◌, IsTrue, List, All, AllPairs, find}
use Rattle.ib_levels.specs.declared.level.Level.{Level}
use Rattle.ib_levels.specs.declared.level.Level.TheVariants.{Log, PageNew, Space, TreeNode, IndexTree}
use Rattle.std.specs.Prelude.{Option}

-- the levels from low to high
abbrev pub number_of : Level → ℕ
number_of Log = 1
number_of PageNew = 2
number_of Space = 3
number_of TreeNode = 4
number_of IndexTree = 5

-- the levels at which a session may hold several latches
abbrev pub may_repeat : Level → Bool
may_repeat Log = false
may_repeat PageNew = true
may_repeat Space = false
may_repeat TreeNode = true
may_repeat IndexTree = false

-- beside a latch at the level held one may be taken at the level wanted, which is lower, or the
-- same and one that may be repeated
abbrev pub may_follow : Level → Level → Bool
may_follow held wanted =
    nat_lt (number_of wanted) (number_of held)
    || (nat_eq (number_of wanted) (number_of held) && may_repeat wanted)

abbrev pub MayFollow : Level → Level → Type 0
MayFollow held wanted = IsTrue (may_follow held wanted)

-- a list of levels, in order of taking, never rises, and repeats no level but those that may be
abbrev pub IsOrderly : List Level → Type 0
IsOrderly levels = AllPairs MayFollow levels

-- none of the levels held forbids a latch at the level wanted
abbrev pub MayFollowAll : Level → List Level → Type 0
MayFollowAll wanted levels = All (λ held. MayFollow held wanted) levels

-- the first of the levels held that forbids it
abbrev pub first_against : Level → List Level → Option Level
first_against wanted levels = find (λ held. not (may_follow held wanted)) levels
