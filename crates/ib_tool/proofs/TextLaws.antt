-- What a run of a script gives is one of its texts.
use Rattle.std.proofs.Common.{◌≡◌, ◌∙◌, ◌<◌, ◌≤◌, ◌^◌, ℕ, List, ap, sym, subst, length, map, true, arith}
use Rattle.ib_layout.specs.declared.geometry.TheConstants.{MOST_LOG_WORDS}
use Rattle.ib_layout.specs.Geometry.{Sizes}
use Rattle.ib_logrec.specs.declared.entry.Entry.{Entry}
use Rattle.ib_logrec.specs.Log.{by_place, history_of, log_words, map_of}
use Rattle.ib_map.specs.History.{History}
use Rattle.ib_map.specs.Pairs.{Pairs}
use Rattle.ib_map.specs.Space.{has_pages}
use Rattle.ib_replay.specs.Files.{AreWords, file_of}
use Rattle.ib_rule.specs.Closed.{log_in}
use Rattle.ib_runs.specs.Answers.{answers_of}
use Rattle.ib_runs.specs.Outcomes.{HasRan}
use Rattle.ib_runs.specs.declared.ran.Ran.{Ran}
use Rattle.ib_script.specs.Generated.{IsGenerated}
use Rattle.ib_script.specs.Script.{ScriptValue}
use Rattle.ib_script.specs.declared.load.Load.{Load}
use Rattle.ib_text.specs.Output.{output_of}
use Rattle.ib_tool.specs.Counts.{counts_of}
use Rattle.ib_tree.proofs.LogLaws.{content_of-after}
use Rattle.ib_tree.proofs.OpeningLaws.{opens, opens-empty}
use Rattle.ib_tree.specs.TreeLog.{IsTreeLog, opening}
use Rattle.ib_tool.specs.Texts.{IsCountText, IsRawText, IsRunText, map_in}

-- the pages after a lawful log hold its map
pub map-walked : (sizes : Sizes) (log : List Entry) → has_pages sizes.pages ≡ true → IsTreeLog sizes.pages log → map_in sizes log ≡ map_of log
map-walked sizes log has lawful = content_of-after sizes.pages 1 (by_place opening sizes.pages) (opens sizes.pages has) (opens-empty sizes.pages) log lawful

module _ (script : ScriptValue) (ran : Ran) (h : HasRan script.sizes script.commands ran) where
  -- the text
  pub run-text : IsRunText script (output_of (map answers_of ran.sessions.items) ran.history.items ran.map)
  run-text = record {
    runs = map answers_of ran.sessions.items;
    log = h.log;
    outcome = h.outcome;
    printed = ap (λ (x : History). output_of (map answers_of ran.sessions.items) x ran.map) h.read_off.history_is
        ∙ ap (λ (m : Pairs). output_of (map answers_of ran.sessions.items) (history_of h.log) m) h.read_off.walked;
  }

  -- the words of the log
  pub log-words : (words : List ℕ) → words ≡ log_in ran.closed.sizes ran.closed.words → words ≡ log_words h.log
  log-words words is = is ∙ h.words.logged

  -- .. are few
  pub few-words : (words : List ℕ) → words ≡ log_in ran.closed.sizes ran.closed.words → script.sizes.log_words ≤ MOST_LOG_WORDS → length words < 2 ^ 32
  few-words words is most = let size = ap length (log-words words is) in let room = h.outcome.room in omega arith

  -- the file of the log, which is lawful
  pub raw-text : (words bytes : List ℕ) (pages : ℕ) → words ≡ log_in ran.closed.sizes ran.closed.words → pages ≡ script.sizes.pages → has_pages pages ≡ true → AreWords words
      → bytes ≡ file_of pages words → IsRawText script bytes
  raw-text words bytes pages is same has fits file =
      let kept = h.outcome.kept in record {
        runs = map answers_of ran.sessions.items;
        log = h.log;
        outcome = h.outcome;
        written = record {
          space = ap has_pages (sym same) ∙ has;
          lawful = kept.lawful;
          fits = subst AreWords (log-words words is) fits;
          file = file ∙ ap (λ n. file_of n words) same ∙ ap (file_of script.sizes.pages) (log-words words is);
        };
      }

  -- the counts, where the script was generated
  pub count-text : (load : Load) → IsGenerated load script → IsCountText load (counts_of (map answers_of ran.sessions.items) ran.map)
  count-text load generated = record {
    script = script;
    generated = generated;
    runs = map answers_of ran.sessions.items;
    log = h.log;
    outcome = h.outcome;
    printed = ap (λ (m : Pairs). counts_of (map answers_of ran.sessions.items) m) h.read_off.walked;
  }
