-- What each end of a change leaves of the leaf on which it worked, however its session came there.
use Rattle.std.specs.Prelude.{IsSome, Result, Ok, Err}
use Rattle.std.proofs.Common.{◌≡◌, ℕ, ◌<◌, ◌⊎◌, false, true, List, length, None, Some, refl, sym, subst, ◌∙◌, inl, inr, arith}
use Rattle.ib_map.specs.Keys.{MapKey}
use Rattle.ib_map.specs.Pairs.{value_at}
use Rattle.ib_map.specs.declared.call.Call.TheVariants.{Insert as InsertCall, Delete as DeleteCall}
use Rattle.ib_map.specs.declared.call.Change.TheVariants.{Insert, Delete}
use Rattle.ib_map.specs.declared.call.Record.{Record}
use Rattle.ib_map.specs.declared.call.Reply.TheVariants.{Inserted, Duplicate, Deleted, Missing}
use Rattle.ib_heap.specs.declared.TheConstants.{MOST_RECORDS}
use Rattle.ib_page.specs.Work.{WorkPage}
use Rattle.ib_layout.specs.Geometry.{Sizes}
use Rattle.ib_plans.specs.declared.TheConstants.{FEWEST_RECORDS}
use Rattle.ib_planned_log.specs.Kept.{IsKeptLog}
use Rattle.ib_frames.specs.declared.appends.LogFull.{LogFull}
use Rattle.ib_rule.specs.Pass.{PassState}
use Rattle.ib_rule.specs.Space.{SpaceState}
use Rattle.ib_mtr.specs.Commits.{HasRead}
use Rattle.ib_mtr.specs.Mtr.{with_work}
use Rattle.ib_leaf.specs.Calls.{tree_calls}
use Rattle.ib_leaf.specs.Ends.{HasLeftLeaf}
use Rattle.ib_leaf.specs.Leaf.{IsFullFor, IsShortFor, WorksOnLeaf, leaf_page}
use Rattle.ib_leaf.proofs.CommitLaws.{CommitAnswered}
use Rattle.ib_leaf.proofs.LeafCalls.{called-deleted, called-duplicate, called-inserted, called-missing, full-delete, full-insert}
use Rattle.ib_leaf.proofs.LeafEnds.{left-full, left-made, left-none, left-read}

module _ (space : SpaceState) (key : MapKey) (leaf : ℕ) (q : PassState) (works : WorksOnLeaf space key leaf q) where
  abbrev sizes : Sizes
  sizes = space.sizes

  -- the key was there already
  pub insert-refused : (value old place : ℕ) (r : PassState) → HasRead sizes (IsKeptLog sizes.pages) q place r → value_at key (leaf_page sizes key q).records ≡ Some old
      → HasLeftLeaf space (IsFullFor key) key leaf (InsertCall key value) (Some (record { call = InsertCall key value; reply = Duplicate; place = place })) q r
  insert-refused value old place r read there =
      left-read space (IsFullFor key) key leaf q works place r read (InsertCall key value) Duplicate refl
      (λ full. let none = full.0 in let both : Some old ≡ None = sym there ∙ none in cc)
      (λ o came looked. called-duplicate sizes key leaf o q came looked works.at works.seated place r read value old there)

  -- the leaf was full
  pub insert-stopped : (value place : ℕ) (r : PassState) → HasRead sizes (IsKeptLog sizes.pages) q place r → IsFullFor key leaf (leaf_page sizes key q)
      → HasLeftLeaf space (IsFullFor key) key leaf (InsertCall key value) None q r
  insert-stopped value place r read full = left-none space (IsFullFor key) key leaf q works place r read (InsertCall key value) full

  -- the pair was put in and committed, or the log was full
  pub insert-ended : (o : Result ℕ LogFull) (work : List WorkPage) (value : ℕ) (answer : Record) (r : PassState)
      → value_at key (leaf_page sizes key q).records ≡ None → length (leaf_page sizes key q).records < MOST_RECORDS
      → CommitAnswered sizes (tree_calls sizes) (InsertCall key value) (Insert key value) Inserted o answer (with_work work q) r
      → HasLeftLeaf space (IsFullFor key) key leaf (InsertCall key value) (Some answer) q r
  insert-ended (Ok place) work value answer r missing room ends =
      subst (λ (a : Record). HasLeftLeaf space (IsFullFor key) key leaf (InsertCall key value) (Some a) q r) (sym ends.as_made)
      (left-made space (IsFullFor key) key leaf q works work (Insert key value) place r ends.committed (InsertCall key value) Inserted refl (λ full. let many = full.1 in omega arith)
      (λ o came looked. called-inserted sizes key leaf o q came looked works.at works.seated work value place r ends.committed missing))
  insert-ended (Err fault) work value answer r missing room ends =
      subst (λ (a : Record). HasLeftLeaf space (IsFullFor key) key leaf (InsertCall key value) (Some a) q r) (sym ends.as_full)
      (left-full space (IsFullFor key) key leaf q works work fault r ends.refused (InsertCall key value) (λ full. let many = full.1 in omega arith)
      (λ o came looked. full-insert sizes key leaf o q came looked works.at works.seated work fault r ends.refused value missing room))

  -- the key was not there
  pub delete-refused : (place : ℕ) (r : PassState) → HasRead sizes (IsKeptLog sizes.pages) q place r → value_at key (leaf_page sizes key q).records ≡ None
      → HasLeftLeaf space (IsShortFor key) key leaf (DeleteCall key) (Some (record { call = DeleteCall key; reply = Missing; place = place })) q r
  delete-refused place r read missing =
      left-read space (IsShortFor key) key leaf q works place r read (DeleteCall key) Missing refl
      (λ short. let bad : IsSome {T = ℕ} None = subst IsSome missing short.0 in let z : false ≡ true = bad in cc)
      (λ o came looked. called-missing sizes key leaf o q came looked works.at works.seated place r read missing)

  -- the leaf would be left with too few
  pub delete-stopped : (place : ℕ) (r : PassState) → HasRead sizes (IsKeptLog sizes.pages) q place r → IsShortFor key leaf (leaf_page sizes key q)
      → HasLeftLeaf space (IsShortFor key) key leaf (DeleteCall key) None q r
  delete-stopped place r read short = left-none space (IsShortFor key) key leaf q works place r read (DeleteCall key) short

  not-short : (leaf ≡ 1) ⊎ (FEWEST_RECORDS < length (leaf_page sizes key q).records) → IsShortFor key leaf (leaf_page sizes key q) → ⊥
  not-short (inl root) short = short.1 root
  not-short (inr more) short = absurd (let few = short.2 in omega arith)

  -- the pair was taken out and that committed, or the log was full
  pub delete-ended : (o : Result ℕ LogFull) (work : List WorkPage) (value : ℕ) (answer : Record) (r : PassState)
      → value_at key (leaf_page sizes key q).records ≡ Some value → (leaf ≡ 1) ⊎ (FEWEST_RECORDS < length (leaf_page sizes key q).records)
      → CommitAnswered sizes (tree_calls sizes) (DeleteCall key) (Delete key) (Deleted value) o answer (with_work work q) r
      → HasLeftLeaf space (IsShortFor key) key leaf (DeleteCall key) (Some answer) q r
  delete-ended (Ok place) work value answer r there enough ends =
      subst (λ (a : Record). HasLeftLeaf space (IsShortFor key) key leaf (DeleteCall key) (Some a) q r) (sym ends.as_made)
      (left-made space (IsShortFor key) key leaf q works work (Delete key) place r ends.committed (DeleteCall key) (Deleted value) refl (not-short enough)
      (λ o came looked. called-deleted sizes key leaf o q came looked works.at works.seated work value place r ends.committed there))
  delete-ended (Err fault) work value answer r there enough ends =
      subst (λ (a : Record). HasLeftLeaf space (IsShortFor key) key leaf (DeleteCall key) (Some a) q r) (sym ends.as_full)
      (left-full space (IsShortFor key) key leaf q works work fault r ends.refused (DeleteCall key) (not-short enough)
      (λ o came looked. full-delete sizes key leaf o q came looked works.at works.seated work fault r ends.refused value there))
