-- What a run of a script of two trees gives is one of its texts.
use Rattle.std.proofs.Common.{◌≡◌, ◌∙◌, List, ℕ, ap, map}
use Rattle.ib_map.specs.History.{History}
use Rattle.ib_map.specs.Pairs.{Pairs}
use Rattle.ib_second_key.specs.SecondKeys.{second_of}
use Rattle.ib_logrec.specs.declared.entry.Entry.{Entry}
use Rattle.ib_logrec.specs.Log.{by_place, history_of, map_of}
use Rattle.ib_walk.specs.Trees.{content_of}
use Rattle.ib_tree.specs.Logs.{pages_after}
use Rattle.ib_pair_law.specs.Opening.{pair_opening}
use Rattle.ib_pair_law.specs.PairKept.{IsPairLog}
use Rattle.ib_runs.specs.Answers.{answers_of}
use Rattle.ib_runs.specs.Outcomes.{HasRanUnder}
use Rattle.ib_runs.specs.Shared.{calls_under}
use Rattle.ib_runs.specs.declared.ran.Ran.{Ran}
use Rattle.ib_script.specs.Script.{ScriptValue}
use Rattle.ib_pair_form.specs.Answers.{IsPairRunText, pairs_in}
use Rattle.ib_pair_form.specs.PairOutput.{pair_output_of}
use Rattle.ib_pair_form.proofs.KeyLaws.{run-keys}
use Rattle.ib_second.specs.PairShared.{pair_law}

module _ (script : ScriptValue) (first : (log : List Entry) → IsPairLog script.sizes.pages log → content_of (pages_after (by_place pair_opening script.sizes.pages) log) 1 ≡ map_of log)
    (second : (log : List Entry) → IsPairLog script.sizes.pages log → content_of (pages_after (by_place pair_opening script.sizes.pages) log) 2 ≡ second_of (map_of log))
    (ran : Ran) (h : HasRanUnder (calls_under pair_law) script.sizes script.commands ran) (pairs : Pairs) (walked : pairs ≡ pairs_in ran.closed.sizes h.log 2) where
  pub pair_text : IsPairRunText script (pair_output_of (map answers_of ran.sessions.items) ran.history.items ran.map pairs)
  pair_text = record {
    runs = map answers_of ran.sessions.items;
    log = h.log;
    outcome = h.outcome;
    keys = run-keys script.sizes second h.log h.outcome.kept (map answers_of ran.sessions.items) h.outcome.run;
    first = first h.log h.outcome.kept;
    second = second h.log h.outcome.kept;
    printed = ap (λ (x : History). pair_output_of (map answers_of ran.sessions.items) x ran.map pairs) h.read_off.history_is
        ∙ (ap (λ (m : Pairs). pair_output_of (map answers_of ran.sessions.items) (history_of h.log) m pairs) h.read_off.walked
        ∙ ap (λ (m : Pairs). pair_output_of (map answers_of ran.sessions.items) (history_of h.log) (pairs_in script.sizes h.log 1) m)
        (walked ∙ ap (λ (n : ℕ). content_of (pages_after (by_place pair_opening n) h.log) 2) h.pages_are));
  }
