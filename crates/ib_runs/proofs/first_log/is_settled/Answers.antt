use Rattle.std.proofs.Common.{◌≡◌, inr, ◌∙◌, Bool, true, false, List, map, not, refl, subst, sym, arith}
use Rattle.ib_runs.specs.Alone.{AreNeverFull}
use Rattle.ib_runs.specs.Answers.{KeptAnswers, answers_of}
use Rattle.ib_runs.proofs.FullLogLaws.{ran_same, ran_wider}
use Rattle.ib_runs.proofs.first_log.is_settled.Goals as goal

not-so : (b : Bool) → not b ≡ true → b ≡ false
not-so true is = absurd (cc)
not-so false is = refl

is-so : (b : Bool) → not b ≡ false → b ≡ true
is-so true is = refl
is-so false is = absurd (cc)

pub returns-then-log_words-clause-settled : goal.returns-then-log_words-clause-settled
returns-then-log_words-clause-settled g c = λ is commands h. ran_same g.S.Shared.law c.laws.ensures.wider c.args.first c.args.sizes c.requires.pages c.requires.log commands c.args.ran.now (omega arith) h

pub returns-else-log_words-clause-settled : goal.returns-else-log_words-clause-settled
returns-else-log_words-clause-settled g c = λ is commands h.
    let room : AreNeverFull (map answers_of c.args.ran.now.sessions.items) =
    subst (λ (outs : List KeptAnswers). AreNeverFull (map answers_of outs)) c.deref.ensures.value (c.met_full_log.ensures.0 (not-so c.met_full_log.result is)) in
    ran_wider g.S.Shared.law c.laws.ensures.wider c.args.first c.args.sizes c.requires.pages c.requires.log commands c.args.ran.now room h

pub returns-else-log_words-clause-told : goal.returns-else-log_words-clause-told
returns-else-log_words-clause-told g c = λ is.
    inr (subst (λ (outs : List KeptAnswers). AreNeverFull (map answers_of outs)) c.deref.ensures.value (c.met_full_log.ensures.0 (not-so c.met_full_log.result is)))

pub returns-else-log_words-clause-again : goal.returns-else-log_words-clause-again
returns-else-log_words-clause-again g c = λ is.
    let met = is-so c.met_full_log.result is in (
      omega arith,
      λ room.
          let never = c.met_full_log.ensures.1 (subst (λ (outs : List KeptAnswers). AreNeverFull (map answers_of outs)) (sym c.deref.ensures.value) room) in
          let bad = sym met ∙ never in cc,
    )
