-- What the ends of a change of the tree leave.
use Rattle.std.specs.Prelude.{Result}
use Rattle.std.proofs.Common.{◌≡◌, ℕ, ◌+◌, ◌≤◌, List, ap, arith}
use Rattle.ib_map.specs.declared.call.Call.{Call}
use Rattle.ib_map.specs.declared.call.Change.{Change}
use Rattle.ib_map.specs.declared.call.Record.{Record}
use Rattle.ib_map.specs.declared.call.Reply.{Reply}
use Rattle.ib_page.specs.Work.{WorkPage}
use Rattle.ib_layout.specs.Geometry.{Sizes}
use Rattle.ib_logrec.specs.Log.{by_place}
use Rattle.ib_tree.specs.TreeLog.{opening}
use Rattle.ib_planned_log.specs.Kept.{IsKeptLog}
use Rattle.ib_frames.specs.declared.appends.LogFull.{LogFull}
use Rattle.ib_rule.specs.declared.looks.Grants.{Grants}
use Rattle.ib_rule.specs.Pass.{PassState}
use Rattle.ib_rule.specs.Views.{total}
use Rattle.ib_mtr.specs.Commits.{HasRead}
use Rattle.ib_mtr.specs.Mtr.{with_work}
use Rattle.ib_leaf.specs.Calls.{HasCalled, tree_calls}
use Rattle.ib_leaf.proofs.CommitLaws.{CommitAnswered, ended-grants}
use Rattle.ib_index.specs.Grows.{HasChangedTree, TakesAtMost}

-- a change of the tree was answered: without one, or by its commit
pub changed-read : (sizes : Sizes) (call : Call) (reply : Reply) (place : ℕ) (p t r : PassState) → HasRead sizes (IsKeptLog sizes.pages) t place r
    → t.view.grants.sx ≤ p.view.grants.sx + 1 → total t.view.grants ≤ total p.view.grants + 63
    → HasCalled sizes (IsKeptLog sizes.pages) (by_place opening sizes.pages) call (record { call = call; reply = reply; place = place }) p r
    → HasChangedTree sizes call (record { call = call; reply = reply; place = place }) p r
changed-read sizes call reply place p t r read claimed few called =
    let same = ap total read.ended.grants in let one = ap (λ (v : Grants). v.sx) read.ended.grants in
    let claims : r.view.grants.sx ≤ p.view.grants.sx + 1 = omega arith in
    let all : total r.view.grants ≤ total p.view.grants + 64 = omega arith in
    let takes : TakesAtMost 64 p r = record { claims = claims; all = all } in
    record { called = called; grants = takes }

pub changed-ended : (sizes : Sizes) (call : Call) (change : Change) (made : Reply) (o : Result ℕ LogFull) (answer : Record) (work : List WorkPage) (p t r : PassState)
    → CommitAnswered sizes (tree_calls sizes) call change made o answer (with_work work t) r → t.view.grants.sx ≤ p.view.grants.sx + 1 → total t.view.grants ≤ total p.view.grants + 63
    → HasCalled sizes (IsKeptLog sizes.pages) (by_place opening sizes.pages) call answer p r → HasChangedTree sizes call answer p r
changed-ended sizes call change made o answer work p t r e claimed few called =
    let took = ended-grants sizes (tree_calls sizes) call change made o answer work t r e in
    let most : total r.view.grants ≤ total t.view.grants + 1 = took.0 in
    let same : r.view.grants.sx ≡ t.view.grants.sx = took.1 in
    let claims : r.view.grants.sx ≤ p.view.grants.sx + 1 = omega arith in
    let all : total r.view.grants ≤ total p.view.grants + 64 = omega arith in
    let takes : TakesAtMost 64 p r = record { claims = claims; all = all } in
    record { called = called; grants = takes }
