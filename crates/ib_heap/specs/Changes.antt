-- What a call that puts a record in, or takes one out, answers, and what it leaves of the page.
use Rattle.std.specs.Prelude.{◌≡◌, ◌≢◌, ◌↔◌, ℕ, List, length, Result, Err, Some, IsSome, IsNone, OnOk, OnErr, IfOk, IfErr}
use Rattle.ib_map.specs.Keys.{MapKey}
use Rattle.ib_map.specs.Pairs.{put, without, value_at, index_of}
use Rattle.ib_heap.specs.declared.TheConstants.{MOST_RECORDS}
use Rattle.ib_heap.specs.declared.fault.PageFault.{PageFault}
use Rattle.ib_heap.specs.declared.fault.PageFault.TheVariants.{Duplicate, PageFull, Missing}
use Rattle.ib_heap.specs.Form.{page_of}
use Rattle.ib_heap.specs.Heap.{read_heap}
use Rattle.ib_heap.specs.Image.{IsTreePage, records_of, value_with_records}
use Rattle.ib_heap.specs.Put.{put_in}
use Rattle.ib_heap.specs.Take.{remove_in}

-- The record is put in. `Duplicate` exactly where the key is there, and then `PageFull` exactly where there are
-- `MOST_RECORDS` records; a page that refuses is unchanged.
pub record HasPut (ws vs : List ℕ) (key : MapKey) (value : ℕ) (result : Result (Unit {0}) PageFault) : Type 0 where
  pub inserted : OnOk result (page_of vs ≡ value_with_records (put key value (records_of ws)) (page_of ws))
  pub tree : IsTreePage vs
  pub duplicate : (result ≡ Err Duplicate) ↔ IsSome (value_at key (records_of ws))
  pub full : (result ≡ Err PageFull) ↔ (IsNone (value_at key (records_of ws)) × (length (records_of ws) ≡ MOST_RECORDS))
  pub never_missing : result ≢ Err Missing
  pub unchanged : OnErr result (vs ≡ ws)
  pub heap : OnOk result (read_heap vs ≡ put_in (index_of key (records_of ws)) (read_heap ws))

-- The record of the key is taken out, and its value given. `Missing`, and no other fault, exactly where the key is not
-- there; the page is then unchanged.
pub record HasRemoved (ws vs : List ℕ) (key : MapKey) (result : Result ℕ PageFault) : Type 0 where
  pub value : IfOk result (λ v. value_at key (records_of ws) ≡ Some v)
  pub removed : OnOk result (page_of vs ≡ value_with_records (without key (records_of ws)) (page_of ws))
  pub tree : IsTreePage vs
  pub missing : (result ≡ Err Missing) ↔ IsNone (value_at key (records_of ws))
  pub only_missing : IfErr result (λ fault. fault ≡ Missing)
  pub unchanged : OnErr result (vs ≡ ws)
  pub heap : OnOk result (read_heap vs ≡ remove_in (index_of key (records_of ws)) (read_heap ws))
