-- The ends of a delete from both trees, step by step from where the call began.
use Rattle.std.specs.Prelude.{Result}
use Rattle.std.proofs.Common.{◌∙◌, ℕ, List, None, Some, sym, arith}
use Rattle.ib_map.specs.Keys.{MapKey}
use Rattle.ib_map.specs.declared.call.Call.TheVariants.{Delete as DeleteCall}
use Rattle.ib_map.specs.declared.call.Change.TheVariants.{Delete}
use Rattle.ib_map.specs.declared.call.Record.{Record}
use Rattle.ib_map.specs.declared.call.Reply.TheVariants.{Deleted, Missing}
use Rattle.ib_layout.specs.Geometry.{Sizes}
use Rattle.ib_page.specs.Work.{WorkPage}
use Rattle.ib_frames.specs.declared.appends.LogFull.{LogFull}
use Rattle.ib_rule.specs.Pass.{PassState}
use Rattle.ib_mtr.specs.Commits.{HasRead}
use Rattle.ib_mtr.specs.Mtr.{with_work}
use Rattle.ib_cursor.proofs.LatchingLaws.{looked_first, went_both}
use Rattle.ib_leaf.specs.Leaf.{IsSeated}
use Rattle.ib_leaf.proofs.CommitLaws.{CommitAnswered}
use Rattle.ib_pair_law.specs.PairKept.{IsPairLog}
use Rattle.ib_second.specs.Calls.{HasCalledPair, TakesForChange, pair_calls}
use Rattle.ib_second.specs.PairComes.{HasTakenRowsOfBoth}
use Rattle.ib_second.specs.PairFinds.{HasFoundPair}
use Rattle.ib_second.proofs.InsertTakes.{few-ended, few-read}
use Rattle.ib_second.proofs.DeleteCalls.{called-ended, called-missing}
use Rattle.ib_second.proofs.DeleteReadyLaws.{pair-there}
use Rattle.ib_second.proofs.PairCalls.{value-on_leaf}

module _ {sizes : Sizes} {key : MapKey} {path : List ℕ} {leaf : ℕ} {p q : PassState} where
  -- a key that is missing
  pub missing-ended : HasFoundPair sizes key path leaf None p q → IsSeated sizes q → (place : ℕ) (r : PassState) → HasRead sizes (IsPairLog sizes.pages) q place r
      → HasCalledPair sizes (DeleteCall key) (record { call = DeleteCall key; reply = Missing; place = place }) p r
  missing-ended h seated place r read =
      called-missing sizes key p q h.went h.looked h.index.claimed h.index.known seated place r read (value-on_leaf sizes seated.fits key leaf q h.index.known.legal h.leaf_on ∙ sym h.found)

  pub missing-grants : HasFoundPair sizes key path leaf None p q → (place : ℕ) (r : PassState) → HasRead sizes (IsPairLog sizes.pages) q place r → TakesForChange 39 p r
  missing-grants h place r read = few-read sizes (IsPairLog sizes.pages) 39 place p q r read h.claims (let few = h.grants in omega arith)

  -- a commit, or a log without room
  module _ {value : ℕ} {path1 path2 : List ℕ} {t : PassState} (h : HasFoundPair sizes key path leaf (Some value) p q) (rows : HasTakenRowsOfBoth sizes key value path1 path2 q t)
      (o : Result ℕ LogFull) (work : List WorkPage) (answer : Record) (r : PassState) (ends : CommitAnswered sizes (pair_calls sizes) (DeleteCall key) (Delete key) (Deleted value) o answer (with_work work t) r) where
    pub delete-ended : IsSeated sizes t → HasCalledPair sizes (DeleteCall key) answer p r
    delete-ended seated =
        let went = went_both p q t h.went rows.went in
        called-ended sizes key p t went (looked_first p q t h.went rows.went h.looked) rows.stands.claimed rows.stands.known seated value
        (pair-there sizes key value path1 path2 rows.held t seated rows.stands rows.images rows.other_images rows.found) work o answer r ends

    pub delete-grants : TakesForChange 39 p r
    delete-grants = few-ended sizes (pair_calls sizes) (DeleteCall key) (Delete key) (Deleted value) o answer work 39 p t r ends (rows.claims ∙ h.claims) (let a = h.grants in let b = rows.grants in omega arith)
