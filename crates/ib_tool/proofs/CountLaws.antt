-- The replies of sessions are counted in their records.
use Rattle.std.proofs.Common.{◌≡◌, ◌∙◌, ℕ, ◌+◌, ◌≤◌, List, [], ◌∷◌, ap, sym, refl, cond, map, length, take, drop, suc, arith}
use Rattle.std.specs.Prelude.{count_by, sum_by}
use Rattle.std.proofs.lemmas.List.Sums.{sum_by-cons}
use Rattle.ib_map.specs.FullRecords.{chunk_count, full_records}
use Rattle.ib_map.specs.Replies.{FullRecord, Span, full_record}
use Rattle.ib_map.specs.declared.call.Record.{Record}
use Rattle.ib_logrec.specs.declared.entry.Entry.{Entry}
use Rattle.ib_runs.specs.Answers.{KeptAnswers, answers_of, calls_in}
use Rattle.ib_runs.specs.Outcomes.{IsOutcome}
use Rattle.ib_script.specs.Script.{IsSmall, ScriptValue}
use Rattle.ib_script.specs.declared.script_line.TheConstants.{MOST_COMMANDS}
use Rattle.ib_tool.specs.Counts.{count_of, is_of}
use Rattle.ib_tool.specs.declared.counting.ReplyKind.{ReplyKind}

-- how often a kind came among records
abbrev pub among : ReplyKind → List Record → ℕ
among kind rs = count_by (λ r. is_of kind r.reply) rs

-- the chunks of scans are no replies
among-full : (kind : ReplyKind) (rs : List Record) (spans : List Span) → count_by (λ r. is_of kind r.reply) (full_records rs spans) ≡ among kind rs
among-full kind [] spans = refl
among-full kind (r ∷ rs) spans =
    let n : ℕ = cond {A = ℕ} (is_of kind r.reply) 1 0 in
    let rest = drop (chunk_count r.reply) spans in
    sum_by-cons (λ (q : FullRecord). cond {A = ℕ} (is_of kind q.reply) 1 0) (full_record r (take (chunk_count r.reply) spans)) (full_records rs rest)
    ∙ ap (λ k. n + k) (among-full kind rs rest)
    ∙ sym (sum_by-cons (λ (q : Record). cond {A = ℕ} (is_of kind q.reply) 1 0) r rs)

-- the sessions' records are counted
pub count-sessions : (kind : ReplyKind) (outs : List KeptAnswers) → sum_by (λ out. among kind out.records) outs ≡ count_of kind (map answers_of outs)
count-sessions kind [] = refl
count-sessions kind (out ∷ outs) =
    sum_by-cons (λ (o : KeptAnswers). among kind o.records) out outs
    ∙ ap (λ n. n + sum_by (λ (o : KeptAnswers). among kind o.records) outs) (sym (among-full kind out.records _))
    ∙ ap (λ n. count_by (λ r. is_of kind r.reply) (answers_of out) + n) (count-sessions kind outs)
    ∙ sym (sum_by-cons (λ rs. count_by (λ r. is_of kind r.reply) rs) (answers_of out) (map answers_of outs))

length-calls : (rs : List Record) (spans : List Span) → length (calls_in (full_records rs spans)) ≡ length rs
length-calls [] spans = refl
length-calls (r ∷ rs) spans = ap suc (length-calls rs (drop (chunk_count r.reply) spans))

length-sessions : (outs : List KeptAnswers) → sum_by length (map calls_in (map answers_of outs)) ≡ sum_by (λ out. length out.records) outs
length-sessions [] = refl
length-sessions (out ∷ outs) =
    sum_by-cons length (calls_in (answers_of out)) (map calls_in (map answers_of outs))
    ∙ ap (λ n. n + sum_by length (map calls_in (map answers_of outs))) (length-calls out.records _)
    ∙ ap (λ n. length out.records + n) (length-sessions outs)
    ∙ sym (sum_by-cons (λ (o : KeptAnswers). length o.records) out outs)

-- the sessions of a small script have few records
pub few-records : (script : ScriptValue) (outs : List KeptAnswers) (log : List Entry) → IsSmall script → IsOutcome script.sizes script.commands (map answers_of outs) log
    → sum_by (λ out. length out.records) outs ≤ MOST_COMMANDS
few-records script outs log small outcome =
    let each = length-sessions outs in
    let whole = ap (sum_by length) outcome.same_calls in
    let few = small.commands in
    omega arith
