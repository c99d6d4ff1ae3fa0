-- Which log was run on.
use Rattle.std.proofs.Common.{◌≡◌, ◌⊎◌, ◌∙◌, ℕ, List, Result, Ok, Err, inl, map, ap, sym, subst, arith}
use Rattle.std.specs.Prelude.{IfOk}
use Rattle.ib_layout.specs.Geometry.{Sizes}
use Rattle.ib_logrec.specs.declared.entry.Entry.{Entry}
use Rattle.ib_runs.specs.Alone.{AreNeverFull}
use Rattle.ib_runs.specs.Answers.{answers_of}
use Rattle.ib_runs.specs.Outcomes.{HasRanUnder, IsSettled}
use Rattle.ib_runs.specs.Shared.{calls_under}
use Rattle.ib_runs.specs.declared.ran.Ran.{Ran}
use Rattle.ib_runs.proofs.script_run.run_script.Goals as goal

if-ok : {A B : Type 0} (P Q : A → Type 0) (r : Result A B) → ((x : A) → P x → Q x) → IfOk r P → IfOk r Q
if-ok P Q (Ok x) f h = f x h
if-ok P Q (Err e) f h = tt

pub returns-then-is_settled-clause-ran : goal.returns-then-is_settled-clause-ran
returns-then-is_settled-clause-ran g c =
    let script = c.args.script.now in
    let ran : Ran = c.in_ok-ran.ran in
    let h = c.in_ok-ran.ensures.ran in
    let wider = subst (λ (k : Sizes). (is : HasRanUnder (calls_under g.S.Shared.law) k script.commands ran) × (is.log ≡ h.ran_is.log)) c.geometry-sizes.ensures (c.is_settled.ensures.settled c.if-is_settled.true script.commands h.ran_is) in
    record {
      ran_is = wider.0;
      beside = subst (λ (log : List Entry). g.B.Beside.holds c.run_in.new.beside script.sizes.pages log) (sym wider.1)
          (subst (λ (n : ℕ). g.B.Beside.holds c.run_in.new.beside n h.ran_is.log) c.first_sizes-first.ensures.pages h.beside);
    }

pub returns-then-is_settled-clause-settled : goal.returns-then-is_settled-clause-settled
returns-then-is_settled-clause-settled g c =
    let first : Sizes = c.first_sizes-first.result in
    let words : c.in_ok-ran.ran.closed.sizes.log_words ≡ first.log_words = ap (λ (k : Sizes). k.log_words) c.in_ok-ran.ensures.sizes in
    let told = subst (λ (k : Sizes). (first.log_words ≡ k.log_words) ⊎ AreNeverFull (map answers_of c.in_ok-ran.ran.sessions.items)) c.geometry-sizes.ensures (c.is_settled.ensures.told c.if-is_settled.true) in
    record {
      within = let le = c.first_sizes-first.ensures.log in omega arith;
      settled = subst (λ (n : ℕ). (n ≡ c.args.script.now.sizes.log_words) ⊎ AreNeverFull (map answers_of c.in_ok-ran.ran.sessions.items)) (sym words) told;
    }

pub returns-clause-settled : goal.returns-clause-settled
returns-clause-settled g c =
    if-ok (λ (ran : Ran). ran.closed.sizes ≡ c.geometry-sizes.result) (IsSettled c.args.script.now.sizes) c.run_in-2.result
    (λ ran is. let words = ap (λ (k : Sizes). k.log_words) (is ∙ c.geometry-sizes.ensures) in record { within = omega arith; settled = inl words }) c.run_in-2.ensures.sizes
