use Rattle.std.proofs.Common.{◌∙◌, ap, refl, sym, subst}
use Rattle.ib_layout.specs.Geometry.{Sizes}
use Rattle.ib_rule.specs.Closed.{IsClosed}
use Rattle.ib_rule.specs.Space.{SpaceState}
use Rattle.ib_runs.specs.Outcomes.{HasLogUnder}
use Rattle.ib_shared.specs.SharedLaw.{SharedLaw}
use Rattle.ib_runs.specs.Shared.{calls_under}
use Rattle.ib_runs.proofs.OutcomeLaws.{done_whole, log_of, outcome_of, used_is}
use Rattle.ib_runs.proofs.script_run.finish.Goals as goal

pub returns-clause-sizes : goal.returns-clause-sizes
returns-clause-sizes g c = c.into_words-closed.ensures.0 ∙ c.requires.sizes

pub returns-clause-ran : goal.returns-clause-ran
returns-clause-ran g c =
    let law : SharedLaw = g.S.Shared.law in
    let space : SpaceState = g.S.Shared.space c.args.shared in
    let sizes : Sizes = c.args.sizes in
    let words = c.into_words-closed.result.words in
    let ok = c.into_words-closed.ensures in
    let same = ok.0 ∙ c.requires.sizes in
    let closed : IsClosed law.lawful law.opening sizes words space.ended = subst (λ (k : Sizes). IsClosed law.lawful law.opening k words space.ended) c.requires.sizes ok.2 in
    let log = closed.log in
    let records = c.laws.ensures.records sizes in
    let there = log_of law sizes records log words space.ended closed refl in
    record {
      ran_is = record {
        log = log;
        outcome = outcome_of law sizes records log space words c.args.script.now.commands c.args.sessions.items c.requires.sizes c.requires.done closed refl (used_is law sizes records log words space.ended closed closed.logged);
        pages_are = ap (λ (k : Sizes). k.pages) same;
        words = subst (λ (k : Sizes). HasLogUnder (calls_under law k) k words log) (sym same) there;
        read_off = c.in_ok-history.ensures log there;
        whole = done_whole (calls_under law space.sizes) space.sizes _ 1 c.requires.done.passes c.args.sessions.items c.requires.done.done;
      };
      beside = c.requires.holds log closed.sessions;
    }
