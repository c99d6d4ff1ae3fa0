-- Two plans on one work set: the pair's own in the first tree, and over the pages and the bits after it that of its second key.
use Rattle.std.specs.Prelude.{◌≡◌, ◌⊎◌, ℕ, ◌+◌, ◌<◌, ◌≤◌, ◌^◌, List, None, Some, true, false, IfSome}
use Rattle.ib_map.specs.Keys.{MapKey}
use Rattle.ib_map.specs.Pairs.{value_at}
use Rattle.ib_second_key.specs.SecondKeys.{second_key_of}
use Rattle.ib_page.specs.Space.{space_clock_of}
use Rattle.ib_page.specs.Work.{WorkPage, changed_of}
use Rattle.ib_walk.specs.Pages.{PageMemory}
use Rattle.ib_walk.specs.Full.{chosen, free_of, is_too_high, need_of}
use Rattle.ib_plans.specs.Agreement.{Agrees, last_of, memory_in, reads_of, with_bits}
use Rattle.ib_split.specs.Inserts.{HasInsertImages, IsPlannedInsertForAll}
use Rattle.ib_merge.specs.Deletes.{HasDeleteImages, IsPlannedDeleteForAll}

-- one of the two roots would be raised at the highest level that two trees may have
abbrev pub TooHighForPair : PageMemory → MapKey → MapKey → Type 0
TooHighForPair memory key other_key = (is_too_high 2 memory key 1 ≡ true) ⊎ (is_too_high 2 memory other_key 2 ≡ true)

-- clocks may rise twice
abbrev pub MayTickTwice : List WorkPage → Type 0
MayTickTwice work = ((page : ℕ) → (memory_in work page).clock + 1 < 2 ^ 63) × IfSome (changed_of 0 work) (λ image. space_clock_of image + 1 < 2 ^ 63)

-- a pair may be put into both trees by plan: for one memory whose pages these are, all that both inserts read and write is there, the fresh pages of the second are the lowest that the first leaves, and neither key is there
pub record CanInsertPair (path fresh : List ℕ) (key : MapKey) (value : ℕ) (other_path other_fresh : List ℕ) (work : List WorkPage) : Type 0 where
  pub pages : ℕ
  pub memory : PageMemory
  pub bits : ℕ → ℕ
  pub first : Agrees pages 2 1 key path work memory bits
  pub other : Agrees pages 2 2 (second_key_of key value) other_path work memory bits
  pub fresh_are : fresh ≡ chosen bits pages (need_of memory key 1)
  pub other_fresh_are : other_fresh ≡ chosen (with_bits fresh 1 bits) pages (need_of memory (second_key_of key value) 2)
  pub enough : need_of memory key 1 + need_of memory (second_key_of key value) 2 ≤ free_of bits pages
  pub low : is_too_high 2 memory key 1 ≡ false
  pub other_low : is_too_high 2 memory (second_key_of key value) 2 ≡ false
  pub images : HasInsertImages path fresh work
  pub other_images : HasInsertImages other_path other_fresh work
  pub missing : value_at key (memory_in work (last_of path)).records ≡ None
  pub other_missing : value_at (second_key_of key value) (memory_in work (last_of other_path)).records ≡ None
  pub clocks : MayTickTwice work

-- both plans were made, one after the other
pub record IsPlannedPair (path fresh : List ℕ) (key : MapKey) (value : ℕ) (other_path other_fresh : List ℕ) (old new : List WorkPage) : Type 0 where
  pub middle : List WorkPage
  pub first : IsPlannedInsertForAll path fresh key value old middle
  pub second : IsPlannedInsertForAll other_path other_fresh (second_key_of key value) 0 middle new
  pub first_reads : reads_of middle ≡ reads_of old
  pub second_reads : reads_of new ≡ reads_of middle

-- a pair may be taken out of both trees by plan: for one memory whose pages these are, all that both deletes read and write is there, and the pair is in both
pub record CanDeletePair (path : List ℕ) (key : MapKey) (value : ℕ) (other_path : List ℕ) (work : List WorkPage) : Type 0 where
  pub pages : ℕ
  pub memory : PageMemory
  pub bits : ℕ → ℕ
  pub first : Agrees pages 2 1 key path work memory bits
  pub other : Agrees pages 2 2 (second_key_of key value) other_path work memory bits
  pub images : HasDeleteImages path key work
  pub other_images : HasDeleteImages other_path (second_key_of key value) work
  pub found : value_at key (memory_in work (last_of path)).records ≡ Some value
  pub other_found : value_at (second_key_of key value) (memory_in work (last_of other_path)).records ≡ Some 0
  pub clocks : MayTickTwice work

-- both plans were made, one after the other
pub record IsPlannedPairDelete (path : List ℕ) (key : MapKey) (value : ℕ) (other_path : List ℕ) (old new : List WorkPage) : Type 0 where
  pub middle : List WorkPage
  pub first : IsPlannedDeleteForAll path key old middle
  pub second : IsPlannedDeleteForAll other_path (second_key_of key value) middle new
  pub first_reads : reads_of middle ≡ reads_of old
  pub second_reads : reads_of new ≡ reads_of middle
