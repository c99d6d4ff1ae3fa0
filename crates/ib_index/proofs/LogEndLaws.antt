-- How a commit that does not wait ended, as it says of its own sizes and state.
use Rattle.std.specs.Prelude.{IfErr, IfOk, Result, Ok, Err}
use Rattle.std.proofs.Common.{◌≡◌, ℕ, ◌+◌, ◌≤◌, ◌∙◌, List, ap, subst, arith}
use Rattle.ib_map.specs.declared.call.Change.{Change}
use Rattle.ib_layout.specs.Geometry.{Sizes}
use Rattle.ib_page.specs.Work.{WorkPage}
use Rattle.ib_logrec.specs.Log.{by_place}
use Rattle.ib_tree.specs.TreeLog.{opening}
use Rattle.ib_planned_log.specs.Kept.{IsKeptLog}
use Rattle.ib_frames.specs.declared.appends.LogFull.{LogFull}
use Rattle.ib_rule.specs.declared.looks.Grants.{Grants}
use Rattle.ib_rule.specs.Pass.{PassState}
use Rattle.ib_rule.specs.Views.{total}
use Rattle.ib_latch.specs.declared.tries.TryFault.{TryFault}
use Rattle.ib_mtr.specs.Commits.{HasCommitted, IsFull, commit_grants}
use Rattle.ib_mtr.specs.Mtr.{with_work}
use Rattle.ib_mtr.specs.NowaitCommits.{HasNotCommitted, IsRefusedByLog}
use Rattle.ib_mtr.specs.declared.commit_nowait.CommitFault.{CommitFault}
use Rattle.ib_mtr.specs.declared.commit_nowait.CommitFault.TheVariants.{LogRefused}
use Rattle.ib_cursor.specs.Refusals.{AreFewLooks}
use Rattle.ib_index.specs.Refusals.{by_log}

module _ (sizes : Sizes) (change : Change) (o : Result ℕ CommitFault) (u r : PassState) (committed : IfOk o (λ place. HasCommitted sizes (IsKeptLog sizes.pages) (by_place opening sizes.pages) change u place r))
    (not-committed : IfErr o (λ fault. HasNotCommitted sizes (IsKeptLog sizes.pages) u fault r)) where
  -- behind a commit that took the log latch, two looks for that grant are few still
  ended-few : r.view.grants ≡ commit_grants u → u.view.looks.count ≤ r.view.looks.count → (work : List WorkPage) (p t : PassState) → u ≡ with_work work t → r.view.looks.count ≤ u.view.looks.count + 2 → r.view.looks.waits ≡ u.view.looks.waits → AreFewLooks 0 p.view t.view → AreFewLooks 0 p.view r.view
  ended-few grants on work p t state most waits few =
      let s = ap (λ (g : Grants). g.s) grants in let sx = ap (λ (g : Grants). g.sx) grants in let x = ap (λ (g : Grants). g.x) grants in
      let count = ap (λ (v : PassState). v.view.looks.count) state in let all = ap (λ (v : PassState). total v.view.grants) state in
      let a = few.least in let b = few.most in record { least = omega arith; most = omega arith; waits = waits ∙ (ap (λ (v : PassState). v.view.looks.waits) state ∙ few.waits) }

  -- it came as far as the log
  pub told-made : (told : Result ℕ LogFull) → o ≡ by_log told → IfOk told (λ place. HasCommitted sizes (IsKeptLog sizes.pages) (by_place opening sizes.pages) change u place r)
  told-made (Ok place) is = subst (λ (o : Result ℕ CommitFault). IfOk o (λ place. HasCommitted sizes (IsKeptLog sizes.pages) (by_place opening sizes.pages) change u place r)) is committed
  told-made (Err full) is = tt

  pub told-full : (told : Result ℕ LogFull) → o ≡ by_log told → IfErr told (λ full. IsFull sizes (IsKeptLog sizes.pages) u full r)
  told-full (Ok place) is = tt
  told-full (Err full) is = subst (λ (o : Result ℕ CommitFault). IfErr o (λ fault. HasNotCommitted sizes (IsKeptLog sizes.pages) u fault r)) is not-committed

  -- .. with two looks at lock words at most, for its grant
  pub told-few : (told : Result ℕ LogFull) → o ≡ by_log told → (work : List WorkPage) (p t : PassState) → u ≡ with_work work t → r.view.looks.count ≤ u.view.looks.count + 2 → r.view.looks.waits ≡ u.view.looks.waits → AreFewLooks 0 p.view t.view → AreFewLooks 0 p.view r.view
  told-few (Ok place) is work p t state most waits few = ended-few (told-made (Ok place) is).ended.grants (told-made (Ok place) is).ended.looks work p t state most waits few
  told-few (Err full) is work p t state most waits few = ended-few (told-full (Err full) is).ended.grants (told-full (Err full) is).ended.looks work p t state most waits few

  -- .. or the log latch was refused
  pub log-refusal : (whole : Sizes) (t : PassState) (f : TryFault) → sizes ≡ whole → u ≡ t → o ≡ Err (LogRefused f) → IsRefusedByLog whole (IsKeptLog whole.pages) t f r
  log-refusal whole t f size state is =
      let refused : IsRefusedByLog sizes (IsKeptLog sizes.pages) u f r = subst (λ (o : Result ℕ CommitFault). IfErr o (λ fault. HasNotCommitted sizes (IsKeptLog sizes.pages) u fault r)) is not-committed in
      subst (λ (s : PassState). IsRefusedByLog whole (IsKeptLog whole.pages) s f r) state (subst (λ (k : Sizes). IsRefusedByLog k (IsKeptLog k.pages) u f r) size refused)
