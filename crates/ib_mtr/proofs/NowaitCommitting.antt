-- A commit that found the log latch taken.
use Rattle.std.proofs.Common.{◌≡◌, ◌+◌, ℕ, List, [], ◌∷◌, ◌++◌, length, refl, ap, ◌∙◌, arith}
use Rattle.ib_levels.specs.declared.latch.Latch.{Latch}
use Rattle.ib_levels.specs.declared.level.Mode.{Mode}
use Rattle.ib_levels.specs.declared.level.Mode.TheVariants.{X}
use Rattle.ib_layout.specs.Geometry.{Sizes}
use Rattle.ib_logrec.specs.declared.entry.Entry.{Entry}
use Rattle.ib_rule.specs.declared.looks.Looks.{Looks}
use Rattle.ib_rule.specs.declared.memory.Knowledge.{Knowledge}
use Rattle.ib_rule.specs.declared.view.View.{View}
use Rattle.ib_rule.specs.Pass.{PassState, with_view}
use Rattle.ib_rule.specs.Stores.{IsLook}
use Rattle.ib_rule.specs.Views.{reaching}
use Rattle.ib_latch.specs.declared.tries.TryFault.{TryFault}
use Rattle.ib_latch.specs.Refusals.{WasRefusedFor}
use Rattle.ib_latch.specs.Tries.{IsUnchanged, looks_of}
use Rattle.ib_latch.proofs.RefusalLaws.{refused_later}
use Rattle.ib_mtr.specs.Commits.{HasEnded}
use Rattle.ib_mtr.specs.Mtr.{IsReleasedTo, finished, with_work, without_all}
use Rattle.ib_mtr.specs.NowaitCommits.{HasNotCommitted, IsRefusedByLog}
use Rattle.ib_mtr.specs.declared.commit_nowait.CommitFault.{CommitFault}
use Rattle.ib_mtr.specs.declared.commit_nowait.CommitFault.TheVariants.{Full, LogRefused}
use Rattle.ib_mtr.proofs.Committing.{IsLater, ended_laid, ended_later, full_laid, look_before}

-- releases are no looks
pub all_looks : (memo : List (Latch × Mode)) (v : View) → (without_all memo v).looks.all ≡ v.looks.all
all_looks [] v = refl
all_looks (g ∷ gs) v = all_looks gs v

pub ended_all : (p q r : PassState) → IsReleasedTo 0 (with_work [] p) q → r ≡ finished q → r.view.looks.all ≡ p.view.looks.all
ended_all p q r given ended = ap (λ (s : PassState). s.view.looks.all) (ended ∙ ap finished given) ∙ all_looks p.memo p.view

-- the log latch was refused, which left the pass p1; then the log's end was looked at, and all was given back
pub refused_by_log : (sizes : Sizes) (lawful : List Entry → Type 0) (p p1 p2 q : PassState) (fault : TryFault) → p1.view.role ≡ p.view.role → p1 ≡ with_view p p1.view → IsUnchanged (looks_of fault) p.view p1.view → WasRefusedFor X 0 fault p.view.looks p1.view.looks
    → IsLook sizes lawful p1.view p2.view.memory.seen → p2 ≡ with_view p1 (reaching p2.view.memory.seen p1.view)
    → HasEnded p2 p2.view.grants p2.view.memory.seen p2.view.memory.own p2.view.memory.ends q
    → q.view.looks.all ≡ p2.view.looks.all → q.view.looks.count ≡ p2.view.looks.count → q.view.looks.waits ≡ p2.view.looks.waits → IsRefusedByLog sizes lawful p fault q
refused_by_log sizes lawful p p1 p2 q fault role same un was look is ended all count waits =
    let both : p2 ≡ with_view p (reaching p2.view.memory.seen p1.view) = is ∙ ap (λ (r : PassState). with_view r (reaching p2.view.memory.seen p1.view)) same in
    let looks : p2.view.looks ≡ p1.view.looks = ap (λ (r : PassState). r.view.looks) is in
    let counted : p2.view.looks.count ≡ p.view.looks.count + looks_of fault = ap (λ (k : Looks). k.count) looks ∙ un.looks in
    let later : IsLater p p2 = record {
      table = ap (λ (r : PassState). r.table) both;
      sizes = ap (λ (r : PassState). r.sizes) both;
      number = ap (λ (r : PassState). r.number) both;
      role = ap (λ (r : PassState). r.view.role) is ∙ role;
      met = ap (λ (r : PassState). r.view.memory.met) is ∙ ap (λ (m : Knowledge). m.met) un.memory;
      looks = omega arith;
    } in record {
      log = p2.view.memory.seen;
      looked = look_before sizes lawful p.view p1.view p2.view.memory.seen role un.memory look;
      ended = ended_later p p2 q p.view.grants p2.view.grants _ p2.view.memory.seen _ p2.view.memory.own _ p2.view.memory.ends later (ap (λ (r : PassState). r.view.grants) is ∙ un.grants) refl
          (ap (λ (r : PassState). r.view.memory.own) is ∙ ap (λ (m : Knowledge). m.own) un.memory)
          (ap (λ (r : PassState). r.view.memory.ends) is ∙ ap (λ (m : Knowledge). m.ends ++ length p2.view.memory.seen ∷ []) un.memory) ended;
      refused = refused_later X 0 fault p.view.looks p.view.looks p1.view.looks q.view.looks (omega arith) was (all ∙ ap (λ (k : Looks). k.all) looks) (count ∙ ap (λ (k : Looks). k.count) looks);
      looks = count ∙ counted;
      waits = waits ∙ (ap (λ (k : Looks). k.waits) looks ∙ un.waits);
    }

-- what is said of its end says nothing of the pass's words for an entry
pub refused_laid : (sizes : Sizes) (lawful : List Entry → Type 0) (p : PassState) (words : List ℕ) (fault : TryFault) (q : PassState) → IsRefusedByLog sizes lawful (record p { words = words }) fault q → IsRefusedByLog sizes lawful p fault q
refused_laid sizes lawful p words fault q h = record { log = h.log; looked = h.looked; ended = ended_laid p words _ _ _ _ q h.ended; refused = h.refused; looks = h.looks; waits = h.waits }

pub not_committed_laid : (sizes : Sizes) (lawful : List Entry → Type 0) (p : PassState) (words : List ℕ) (fault : CommitFault) (q : PassState) → HasNotCommitted sizes lawful (record p { words = words }) fault q → HasNotCommitted sizes lawful p fault q
not_committed_laid sizes lawful p words (Full f) q h = full_laid sizes lawful p words f q h
not_committed_laid sizes lawful p words (LogRefused fault) q h = refused_laid sizes lawful p words fault q h
