-- An event that is printed is read again.
use Rattle.std.proofs.Common.{◌≡◌, ◌∙◌, ℕ, ◌^◌, ◌<◌, ◌≤◌, List, [], ◌∷◌, ◌++◌, ap, append_assoc, arith, refl}
use Rattle.std.specs.Prelude.{Result, Ok, codes, decimal, nat_le, if◌then◌else◌}
use Rattle.std.proofs.lemmas.Bool.{le-leb}
use Rattle.ib_core.specs.Responses.{latch_of}
use Rattle.ib_core.specs.declared.event.Event.{Event}
use Rattle.ib_core.specs.declared.event.Event.TheVariants.{S, Sx, X, Us, Usx, Ux, Arm, Flag, Again, Quit, Sleep, Ready, Exarm, Look, Clear, Raise}
use Rattle.ib_io.proofs.Decimals.{fields-alone, fields-number, number_in-printed, passed-printed, said-number, session_in-printed}
use Rattle.ib_io.specs.Fields.{◌>>=◌, session_in, two_fields}
use Rattle.ib_io.specs.Lines.{fields_of}
use Rattle.ib_io.specs.declared.line_kind.LineKind.{LineKind}
use Rattle.ib_io.specs.declared.line_kind.LineKind.TheVariants.{Latch}
use Rattle.ib_latch_form.specs.EventText.{level_text, mode_text, step_text}
use Rattle.ib_latch_form.specs.Events.{IsEventInRange, event_of, event_on_latch, event_reading_of, event_reading_of_fields, event_word, latch_in, level_in, level_numbered, mode_in}
use Rattle.ib_latch_form.specs.declared.event_line.EventLine.TheVariants.{Skipped, Event as EventOf}
use Rattle.ib_latch_form.specs.declared.event_line.EventWord.{EventWord}
use Rattle.ib_latch_form.specs.declared.event_line.EventWord.TheVariants.{S as WordS, Sx as WordSx, X as WordX, Arm as WordArm, OnLatch}
use Rattle.ib_latch_form.specs.declared.event_line.LatchEventWord.{LatchEventWord}
use Rattle.ib_latch_form.specs.declared.event_line.LatchEventWord.TheVariants.{Us as WordUs, Usx as WordUsx, Ux as WordUx, Flag as WordFlag, Again as WordAgain, Quit as WordQuit, Sleep as WordSleep, Ready as WordReady, Exarm as WordExarm, Look as WordLook, Clear as WordClear, Raise as WordRaise}
use Rattle.ib_latch_form.specs.declared.event_line.TheConstants.{MOST_LATCH}
use Rattle.ib_levels.specs.declared.level.Level.{Level}
use Rattle.ib_levels.specs.declared.level.Level.TheVariants.{Log, PageNew, Space, TreeNode, IndexTree}
use Rattle.ib_levels.specs.declared.level.Mode.{Mode}
use Rattle.ib_levels.specs.declared.level.Mode.TheVariants.{S as ModeS, Sx as ModeSx, X as ModeX}

latch_in-printed : (latch : ℕ) → latch ≤ MOST_LATCH → latch_in (decimal latch) ≡ Ok latch
latch_in-printed latch few = passed-printed (λ n. nat_le n MOST_LATCH) Latch latch (omega arith) (le-leb latch MOST_LATCH few)

level-read : (level : Level) → level_in (level_text level) ≡ Ok level
level-read Log = ap (λ (r : Result ℕ LineKind). r >>= level_numbered) (number_in-printed 1 (omega arith))
level-read PageNew = ap (λ (r : Result ℕ LineKind). r >>= level_numbered) (number_in-printed 2 (omega arith))
level-read Space = ap (λ (r : Result ℕ LineKind). r >>= level_numbered) (number_in-printed 3 (omega arith))
level-read TreeNode = ap (λ (r : Result ℕ LineKind). r >>= level_numbered) (number_in-printed 4 (omega arith))
level-read IndexTree = ap (λ (r : Result ℕ LineKind). r >>= level_numbered) (number_in-printed 5 (omega arith))

level-alone : (level : Level) → fields_of (level_text level) ≡ level_text level ∷ []
level-alone Log = fields-alone 1 (omega arith)
level-alone PageNew = fields-alone 2 (omega arith)
level-alone Space = fields-alone 3 (omega arith)
level-alone TreeNode = fields-alone 4 (omega arith)
level-alone IndexTree = fields-alone 5 (omega arith)

mode-read : (mode : Mode) → mode_in (mode_text mode) ≡ Ok mode
mode-read ModeS = refl
mode-read ModeSx = refl
mode-read ModeX = refl

mode-cut : (mode : Mode) (rest : List ℕ) → fields_of (mode_text mode ++ 32 ∷ rest) ≡ mode_text mode ∷ fields_of rest
mode-cut ModeS rest = refl
mode-cut ModeSx rest = refl
mode-cut ModeX rest = refl

-- a latch and a level
level-fields : (latch : ℕ) (level : Level) → latch ≤ MOST_LATCH → fields_of (decimal latch ++ codes " " ++ level_text level) ≡ decimal latch ∷ level_text level ∷ []
level-fields latch level few =
    ap fields_of (append_assoc (decimal latch) (32 ∷ []) (level_text level)) ∙ fields-number latch (level_text level) (omega arith)
    ∙ ap (λ (fields : List (List ℕ)). decimal latch ∷ fields) (level-alone level)

-- a latch, a mode and a level
mode-fields : (latch : ℕ) (mode : Mode) (level : Level) → latch ≤ MOST_LATCH
    → fields_of (decimal latch ++ codes " " ++ mode_text mode ++ codes " " ++ level_text level) ≡ decimal latch ∷ mode_text mode ∷ level_text level ∷ []
mode-fields latch mode level few =
    let rest : List ℕ = 32 ∷ level_text level in
    ap fields_of (append_assoc (decimal latch ++ (32 ∷ []) ++ mode_text mode) (32 ∷ []) (level_text level)
    ∙ append_assoc (decimal latch ++ (32 ∷ [])) (mode_text mode) rest ∙ append_assoc (decimal latch) (32 ∷ []) (mode_text mode ++ rest))
    ∙ fields-number latch (mode_text mode ++ rest) (omega arith)
    ∙ ap (λ (fields : List (List ℕ)). decimal latch ∷ fields) (mode-cut mode (level_text level) ∙ ap (λ (fields : List (List ℕ)). mode_text mode ∷ fields) (level-alone level))

-- a line by its fields, the first of which is a session
module _ (first : List ℕ) (session : ℕ) (named : session_in first ≡ Ok session) where
  word-read : (name : List ℕ) (word : EventWord) (fields : List (List ℕ)) (event : Event) → event_word name ≡ Ok word → event_of word fields ≡ Ok event
      → event_reading_of_fields (first ∷ name ∷ fields) ≡ Ok (EventOf session event)
  word-read name word fields event is made =
      ap (λ (r : Result ℕ LineKind). r >>= (λ n. event_word name >>= (λ step. event_of step fields >>= (λ event. Ok (EventOf n event))))) named
      ∙ ap (λ (r : Result EventWord LineKind). r >>= (λ step. event_of step fields >>= (λ event. Ok (EventOf session event)))) is
      ∙ ap (λ (r : Result Event LineKind). r >>= (λ event. Ok (EventOf session event))) made

  on-latch : (name : List ℕ) (word : LatchEventWord) (latch : ℕ) → event_word name ≡ Ok (OnLatch word) → latch ≤ MOST_LATCH
      → event_reading_of_fields (first ∷ name ∷ fields_of (decimal latch)) ≡ Ok (EventOf session (event_on_latch word latch))
  on-latch name word latch is few =
      ap (λ (fields : List (List ℕ)). event_reading_of_fields (first ∷ name ∷ fields)) (fields-alone latch (omega arith))
      ∙ word-read name (OnLatch word) (decimal latch ∷ []) (event_on_latch word latch) is
      (ap (λ (r : Result ℕ LineKind). r >>= (λ n. Ok (event_on_latch word n))) (latch_in-printed latch few))

  at-level : (name : List ℕ) (word : EventWord) (make : ℕ → Level → Event) (latch : ℕ) (level : Level) → event_word name ≡ Ok word
      → ((fields : List (List ℕ)) → event_of word fields ≡ (two_fields latch_in level_in fields >>= (λ at. Ok (make at.0 at.1)))) → latch ≤ MOST_LATCH
      → event_reading_of_fields (first ∷ name ∷ fields_of (decimal latch ++ codes " " ++ level_text level)) ≡ Ok (EventOf session (make latch level))
  at-level name word make latch level is makes few =
      ap (λ (fields : List (List ℕ)). event_reading_of_fields (first ∷ name ∷ fields)) (level-fields latch level few)
      ∙ word-read name word (decimal latch ∷ level_text level ∷ []) (make latch level) is
      (makes (decimal latch ∷ level_text level ∷ [])
      ∙ ap (λ (r : Result ℕ LineKind). ◌>>=◌ {A = ℕ × Level} (r >>= (λ a. level_in (level_text level) >>= (λ b. Ok (a, b)))) (λ at. Ok (make at.0 at.1))) (latch_in-printed latch few)
      ∙ ap (λ (r : Result Level LineKind). ◌>>=◌ {A = ℕ × Level} (r >>= (λ b. Ok (latch, b))) (λ at. Ok (make at.0 at.1))) (level-read level))

  in-mode : (latch : ℕ) (mode : Mode) (level : Level) → latch ≤ MOST_LATCH
      → event_reading_of_fields (first ∷ codes "arm" ∷ fields_of (decimal latch ++ codes " " ++ mode_text mode ++ codes " " ++ level_text level)) ≡ Ok (EventOf session (Arm latch mode level))
  in-mode latch mode level few =
      ap (λ (fields : List (List ℕ)). event_reading_of_fields (first ∷ codes "arm" ∷ fields)) (mode-fields latch mode level few)
      ∙ word-read (codes "arm") WordArm (decimal latch ∷ mode_text mode ∷ level_text level ∷ []) (Arm latch mode level) refl
      (ap (λ (r : Result ℕ LineKind). ◌>>=◌ {A = ℕ × Mode × Level} (r >>= (λ a. mode_in (mode_text mode) >>= (λ m. level_in (level_text level) >>= (λ v. Ok (a, m, v))))) (λ at. Ok (Arm at.0 at.1 at.2))) (latch_in-printed latch few)
      ∙ ap (λ (r : Result Mode LineKind). ◌>>=◌ {A = ℕ × Mode × Level} (r >>= (λ m. level_in (level_text level) >>= (λ v. Ok (latch, m, v)))) (λ at. Ok (Arm at.0 at.1 at.2))) (mode-read mode)
      ∙ ap (λ (r : Result Level LineKind). ◌>>=◌ {A = ℕ × Mode × Level} (r >>= (λ v. Ok (latch, mode, v))) (λ at. Ok (Arm at.0 at.1 at.2))) (level-read level))

  step-read : (event : Event) → latch_of event ≤ MOST_LATCH → event_reading_of_fields (first ∷ fields_of (step_text event)) ≡ Ok (EventOf session event)
  step-read (S latch level) few = at-level (codes "s") WordS S latch level refl (λ fields. refl) few
  step-read (Sx latch level) few = at-level (codes "sx") WordSx Sx latch level refl (λ fields. refl) few
  step-read (X latch level) few = at-level (codes "x") WordX X latch level refl (λ fields. refl) few
  step-read (Arm latch mode level) few = in-mode latch mode level few
  step-read (Us latch) few = on-latch (codes "us") WordUs latch refl few
  step-read (Usx latch) few = on-latch (codes "usx") WordUsx latch refl few
  step-read (Ux latch) few = on-latch (codes "ux") WordUx latch refl few
  step-read (Flag latch) few = on-latch (codes "flag") WordFlag latch refl few
  step-read (Again latch) few = on-latch (codes "again") WordAgain latch refl few
  step-read (Quit latch) few = on-latch (codes "quit") WordQuit latch refl few
  step-read (Sleep latch) few = on-latch (codes "sleep") WordSleep latch refl few
  step-read (Ready latch) few = on-latch (codes "ready") WordReady latch refl few
  step-read (Exarm latch) few = on-latch (codes "exarm") WordExarm latch refl few
  step-read (Look latch) few = on-latch (codes "look") WordLook latch refl few
  step-read (Clear latch) few = on-latch (codes "clear") WordClear latch refl few
  step-read (Raise latch) few = on-latch (codes "raise") WordRaise latch refl few

pub event-read : (session : ℕ) (event : Event) → IsEventInRange (session, event) → event_reading_of (decimal session ++ codes " " ++ step_text event) ≡ Ok (EventOf session event)
event-read session event range =
    let small : session < 2 ^ 64 = let few = range.1 in omega arith in
    let rest : List ℕ = 32 ∷ step_text event in
    ap event_reading_of (append_assoc (decimal session) (32 ∷ []) (step_text event))
    ∙ ap (λ b. if b then Ok Skipped else event_reading_of_fields (fields_of (decimal session ++ rest))) (said-number session rest small)
    ∙ ap event_reading_of_fields (fields-number session (step_text event) small)
    ∙ step-read (decimal session) session (session_in-printed session range.0 range.1) event range.2
