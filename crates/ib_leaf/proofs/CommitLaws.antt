-- How a commit was answered, under any law of logs.
use Rattle.std.specs.Prelude.{IfErr, IfOk, Result, Ok, Err}
use Rattle.std.proofs.Common.{◌≡◌, ℕ, ◌+◌, ◌≤◌, List, length, ap, subst, arith}
use Rattle.ib_map.specs.declared.call.Call.{Call}
use Rattle.ib_map.specs.declared.call.Change.{Change}
use Rattle.ib_map.specs.declared.call.Record.{Record}
use Rattle.ib_map.specs.declared.call.Reply.{Reply}
use Rattle.ib_page.specs.Work.{WorkPage}
use Rattle.ib_layout.specs.Geometry.{Sizes}
use Rattle.ib_frames.specs.declared.appends.LogFull.{LogFull}
use Rattle.ib_rule.specs.declared.looks.Grants.{Grants}
use Rattle.ib_rule.specs.Pass.{PassState}
use Rattle.ib_rule.specs.Views.{total}
use Rattle.ib_mtr.specs.Commits.{HasCommitted, IsFull}
use Rattle.ib_mtr.specs.Mtr.{with_work}
use Rattle.ib_leaf.specs.Calls.{CallLaw}
use Rattle.ib_leaf.specs.Ends.{full_answer}

-- a change was committed from a state, or found the log full, and the answer says so: at the place of its entry, or at the end of what is seen
pub record CommitAnswered (sizes : Sizes) (law : CallLaw) (call : Call) (change : Change) (made : Reply) (o : Result ℕ LogFull) (answer : Record) (t r : PassState) : Type 0 where
  pub as_made : IfOk o (λ place. answer ≡ record { call = call; reply = made; place = place })
  pub as_full : IfErr o (λ full. answer ≡ full_answer call full (length r.view.memory.seen))
  pub committed : IfOk o (λ place. HasCommitted sizes law.lawful law.start change t place r)
  pub refused : IfErr o (λ full. IsFull sizes law.lawful t full r)

-- .. by what the commit says of its own sizes and state, and the answer of how many entries are seen
pub commit-answered : (sizes old : Sizes) (law : Sizes → CallLaw) (call : Call) (change : Change) (made : Reply) (o : Result ℕ LogFull) (answer : Record) (n : ℕ) (t u r : PassState)
    → old ≡ sizes → u ≡ t → n ≡ length r.view.memory.seen
    → IfOk o (λ place. answer ≡ record { call = call; reply = made; place = place })
    → IfErr o (λ full. answer ≡ full_answer call full n)
    → IfOk o (λ place. HasCommitted old (law old).lawful (law old).start change u place r)
    → IfErr o (λ full. IsFull old (law old).lawful u full r)
    → CommitAnswered sizes (law sizes) call change made o answer t r
commit-answered sizes old law call change made o answer n t u r size state seen as-made as-full committed refused = record {
  as_made = as-made;
  as_full = subst (λ (m : ℕ). IfErr o (λ full. answer ≡ full_answer call full m)) seen as-full;
  committed = subst (λ (s : PassState). IfOk o (λ place. HasCommitted sizes (law sizes).lawful (law sizes).start change s place r)) state
      (subst (λ (k : Sizes). IfOk o (λ place. HasCommitted k (law k).lawful (law k).start change u place r)) size committed);
  refused = subst (λ (s : PassState). IfErr o (λ full. IsFull sizes (law sizes).lawful s full r)) state
      (subst (λ (k : Sizes). IfErr o (λ full. IsFull k (law k).lawful u full r)) size refused);
}

-- the grants of a commit, none of which is of SX
pub ended-grants : (sizes : Sizes) (law : CallLaw) (call : Call) (change : Change) (made : Reply) (o : Result ℕ LogFull) (answer : Record) (work : List WorkPage) (t r : PassState)
    → CommitAnswered sizes law call change made o answer (with_work work t) r → (total r.view.grants ≤ total t.view.grants + 1) × (r.view.grants.sx ≡ t.view.grants.sx)
ended-grants sizes law call change made (Ok place) answer work t r e =
    let c = e.committed in
    let a = ap (λ (v : Grants). v.x) c.ended.grants in let b = ap (λ (v : Grants). v.s) c.ended.grants in let d = ap (λ (v : Grants). v.sx) c.ended.grants in (omega arith, d)
ended-grants sizes law call change made (Err full) answer work t r e =
    let c = e.refused in
    let a = ap (λ (v : Grants). v.x) c.ended.grants in let b = ap (λ (v : Grants). v.s) c.ended.grants in let d = ap (λ (v : Grants). v.sx) c.ended.grants in (omega arith, d)
