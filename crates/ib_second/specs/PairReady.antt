-- All that an insert into both trees reads and writes is held.
use Rattle.std.specs.Prelude.{◌≡◌, ℕ, ◌+◌, ◌≤◌, false, List, None}
use Rattle.ib_map.specs.Keys.{MapKey}
use Rattle.ib_map.specs.Pairs.{value_at}
use Rattle.ib_levels.specs.declared.level.Level.{Level}
use Rattle.ib_layout.specs.Geometry.{Sizes}
use Rattle.ib_walk.specs.Full.{chosen, free_of, is_too_high, need_of}
use Rattle.ib_walk.specs.Pages.{PageMemory}
use Rattle.ib_walk.specs.Words.{bits_of, pages_of}
use Rattle.ib_plans.specs.Agreement.{last_of, memory_in, with_bits}
use Rattle.ib_rule.specs.Pass.{PassState}
use Rattle.ib_split.specs.Inserts.{HasInsertImages}
use Rattle.ib_second_key.specs.SecondKeys.{second_key_of}
use Rattle.ib_pair_change.specs.PairCommits.{words_after}
use Rattle.ib_second.specs.Stands.{StandsOnPair}

-- the pages and the bits after all seen
abbrev pub pages_seen : Sizes → PassState → PageMemory
pages_seen sizes p = pages_of (words_after sizes.pages p.view.memory.seen)

abbrev pub bits_seen : Sizes → PassState → ℕ → ℕ
bits_seen sizes p = bits_of sizes.pages (words_after sizes.pages p.view.memory.seen)

-- the paths of the key and of its pair's second key are held with all that both inserts touch, and the fresh pages are the lowest that are free: first those of the first tree, then those of the second. The key is not there
pub record IsPairReady (sizes : Sizes) (key : MapKey) (value : ℕ) (path fresh other_path other_fresh : List ℕ) (held : List (ℕ × Level)) (p : PassState) : Type 0 where
  pub stands : StandsOnPair sizes key path (second_key_of key value) other_path held p
  pub fresh_are : fresh ≡ chosen (bits_seen sizes p) sizes.pages (need_of (pages_seen sizes p) key 1)
  pub other_fresh_are : other_fresh ≡ chosen (with_bits fresh 1 (bits_seen sizes p)) sizes.pages (need_of (pages_seen sizes p) (second_key_of key value) 2)
  pub enough : need_of (pages_seen sizes p) key 1 + need_of (pages_seen sizes p) (second_key_of key value) 2 ≤ free_of (bits_seen sizes p) sizes.pages
  pub low : is_too_high 2 (pages_seen sizes p) key 1 ≡ false
  pub other_low : is_too_high 2 (pages_seen sizes p) (second_key_of key value) 2 ≡ false
  pub images : HasInsertImages path fresh p.work
  pub other_images : HasInsertImages other_path other_fresh p.work
  pub missing : value_at key (memory_in p.work (last_of path)).records ≡ None
