use Rattle.std.proofs.Common.{◌≡◌, ◌∙◌, List, ap, arith, length, get_or}
use Rattle.std.specs.Prelude.{sum_by}
use Rattle.std.proofs.lemmas.List.{take_all}
use Rattle.std.proofs.lemmas.List.Sums.{count_by-le-length, sum_by_more_le_part}
use Rattle.ib_runs.specs.Answers.{KeptAnswers}
use Rattle.ib_tool.specs.Counts.{is_of}
use Rattle.ib_tool.proofs.CountLaws.{among, count-sessions}
use Rattle.ib_tool.proofs.counting.count_of.Goals as goal

pub overflow_add-count : goal.overflow_add-count
overflow_add-count c =
    let outs : List KeptAnswers = c.args.sessions.now in
    let item : KeptAnswers = c.out-item.result in
    let all = sum_by_more_le_part (λ (o : KeptAnswers). among c.args.kind o.records) (λ o. length o.records) outs c.loop-out.out-index item c.loop-out-test.true
    (λ o. count_by-le-length (λ r. is_of c.args.kind r.reply) o.records) in
    let here : length item.records ≡ length (get_or outs c.loop-out.out-index item).records = ap (λ (o : KeptAnswers). length o.records) c.out-item.is in
    let size : length c.records.result.now ≡ length item.records = ap length c.records.ensures in
    let most = c.count_in-count.ensures.few in
    let so-far = c.loop-out.invariant in
    let few = c.requires in
    omega arith

pub returns : goal.returns
returns c =
    let outs : List KeptAnswers = c.args.sessions.now in
    c.loop-out.invariant
    ∙ ap (sum_by (λ (o : KeptAnswers). among c.args.kind o.records)) (take_all c.loop-out.out-index outs (let end = c.loop-out-test.false in omega arith))
    ∙ count-sessions c.args.kind outs
