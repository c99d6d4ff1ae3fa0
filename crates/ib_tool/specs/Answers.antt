-- What the program owes: which ending, for these words and what the source had and has left.
use Rattle.std.specs.Prelude.{◌≡◌, ◌⊎◌, ℕ, List, [], ◌+◌, ◌≤◌, length, Some, None}
use Rattle.std.specs.declared.option.Option.{Option}
use Rattle.std.specs.Io.KnownBytes.{Keeps}
use Rattle.ib_io.specs.Input.{ReadsAll, ConsumesMore, ConsumesAtMost}
use Rattle.ib_io.specs.Lines.{readings_by}
use Rattle.ib_io.specs.Told.{Ending, OwesLines, TellsFault, ends}
use Rattle.ib_io.specs.declared.read.TheConstants.{INPUT_BYTES, PIECE_BYTES}
use Rattle.ib_io.specs.declared.status.Status.{Status}
use Rattle.ib_io.specs.declared.status.Status.TheVariants.{Done, Usage, ReadFault, WriteFault, Memory, TooLarge}
use Rattle.ib_script.specs.Script.{ScriptValue, IsScript, first_fault, reading_of}
use Rattle.ib_script.specs.PairScript.{pair_reading_of}
use Rattle.ib_pair_form.specs.Answers.{AnswersPairScript}
use Rattle.ib_latch_form.specs.Answers.{AnswersEvents}
use Rattle.ib_latch_form.specs.Events.{event_fault}
use Rattle.ib_logrec.specs.declared.entry.Entry.{Entry}
use Rattle.ib_replay_form.specs.Answers.{AnswersLog, AnswersUpgrade}
use Rattle.ib_replay.specs.Files.{file_fault}
use Rattle.ib_replay.specs.OldLogs.{IsBroughtOver, old_file_fault}
use Rattle.ib_replay.specs.RawLogs.{IsRawLog}
use Rattle.ib_walk.specs.Words.{IsLawfulMemory}
use Rattle.ib_image.specs.Copies.{restored}
use Rattle.ib_image.specs.ImageFaults.{front_fault}
use Rattle.ib_image.specs.Restored.{IsImageFile}
use Rattle.ib_image.specs.declared.copy.CopiedPage.{CopiedPage}
use Rattle.ib_image_form.specs.Answers.{AnswersImage}
use Rattle.ib_tool.specs.Texts.{IsCountText, IsWrittenRun}
use Rattle.ib_tool.specs.Words.{form_of, usage_line, too_large_line}
use Rattle.ib_tool.specs.declared.form.Form.{Form}
use Rattle.ib_tool.specs.declared.form.Form.TheVariants.{Run, Fast, Pair, Raw, Image, Latch, Replay, Upgrade, Restore, Gen}
use Rattle.ib_tool.specs.declared.shape.Shape.{Shape}
use Rattle.ib_tool.specs.declared.shape.Shape.TheVariants.{Text, File, Image as ImageShape}

-- what may be written for the lines of a script
abbrev pub IsScriptText : Shape → List ℕ → List ℕ → Type 0
IsScriptText shape input text = (script : ScriptValue) × IsScript (readings_by reading_of input) script × IsWrittenRun shape script text

-- a script's first bad line is told, or else it is run
abbrev pub AnswersScript : Shape → List ℕ → Ending → Type 0
AnswersScript shape input e = OwesLines (first_fault (readings_by reading_of input)) (IsScriptText shape input) e

-- The ending that is owed for an input. A generated script takes nothing of it.
abbrev pub AnswersInput : Form → List ℕ → Ending → Type 0
AnswersInput Run input e = AnswersScript Text input e
AnswersInput Fast input e = AnswersScript Text input e
AnswersInput Pair input e = AnswersPairScript input e
AnswersInput Raw input e = AnswersScript File input e
AnswersInput Image input e = AnswersScript ImageShape input e
AnswersInput Latch input e = AnswersEvents input e
AnswersInput Replay input e = AnswersLog input e
AnswersInput Upgrade input e = AnswersUpgrade input e
AnswersInput Restore input e = AnswersImage input e
AnswersInput (Gen load) input e = (e.status ≡ Done) × IsCountText load e.text

-- memory may be wanting for an input: of lines where none is bad, of a log where the file itself has no fault
abbrev pub MayLackInput : Form → List ℕ → Type 0
MayLackInput Run input = first_fault (readings_by reading_of input) ≡ None
MayLackInput Fast input = first_fault (readings_by reading_of input) ≡ None
MayLackInput Pair input = first_fault (readings_by pair_reading_of input) ≡ None
MayLackInput Raw input = first_fault (readings_by reading_of input) ≡ None
MayLackInput Image input = first_fault (readings_by reading_of input) ≡ None
MayLackInput Latch input = event_fault input ≡ None
MayLackInput Replay input = file_fault input ≡ None
MayLackInput Upgrade input = old_file_fault input ≡ None
MayLackInput Restore input = front_fault input ≡ None
MayLackInput (Gen load) input = Unit {0}

-- The ending that is owed by a form that reads: that more was read than the limit, by a piece at most, or an answer to an input that was read to its end.
abbrev pub OwesInput : Form → Option (List ℕ) → Option (List ℕ) → Ending → Type 0
OwesInput form old new e =
    (ConsumesMore old new INPUT_BYTES × ConsumesAtMost old new (INPUT_BYTES + PIECE_BYTES) × (e ≡ ends TooLarge too_large_line))
    ⊎ ((input : List ℕ) × ReadsAll old new INPUT_BYTES input × AnswersInput form input e)

-- The ending that is owed by a form. `gen` reads nothing.
abbrev pub IsOwedAt : Form → Option (List ℕ) → Option (List ℕ) → Ending → Type 0
IsOwedAt (Gen load) old new e = Keeps old new × AnswersInput (Gen load) [] e
IsOwedAt form old new e = OwesInput form old new e

-- The ending that is owed for these words. Where they are no form nothing is read.
abbrev pub Owes : List (List ℕ) → Option (List ℕ) → Option (List ℕ) → Ending → Type 0
Owes words old new e =
    ((form_of words ≡ None) × Keeps old new × (e ≡ ends Usage usage_line))
    ⊎ ((form : Form) × (form_of words ≡ Some form) × IsOwedAt form old new e)

-- reading failed, or memory ran out, with no more read than the limit and a piece
abbrev pub IsCutOff : Option (List ℕ) → Option (List ℕ) → Status → Type 0
IsCutOff old new status = ((status ≡ ReadFault) × ConsumesAtMost old new INPUT_BYTES) ⊎ ((status ≡ Memory) × ConsumesAtMost old new (INPUT_BYTES + PIECE_BYTES))

-- where a form may end with nothing written: `gen` reads nothing then either
abbrev pub IsSilentAt : Form → Option (List ℕ) → Option (List ℕ) → Status → Type 0
IsSilentAt (Gen load) old new status = (status ≡ Memory) × Keeps old new
IsSilentAt form old new status = IsCutOff old new status

-- where a status that writes nothing may come: the words are a form
abbrev pub IsSilent : List (List ℕ) → Option (List ℕ) → Option (List ℕ) → Status → Type 0
IsSilent words old new status = (form : Form) × (form_of words ≡ Some form) × IsSilentAt form old new status

-- nothing is wrong with the input: each line is good, or the bytes are the file of a lawful log, or of an old one that can be brought over, or of an image that restores a tree
abbrev pub IsGoodInput : Form → List ℕ → Type 0
IsGoodInput Run input = first_fault (readings_by reading_of input) ≡ None
IsGoodInput Fast input = first_fault (readings_by reading_of input) ≡ None
IsGoodInput Pair input = first_fault (readings_by pair_reading_of input) ≡ None
IsGoodInput Raw input = first_fault (readings_by reading_of input) ≡ None
IsGoodInput Image input = first_fault (readings_by reading_of input) ≡ None
IsGoodInput Latch input = event_fault input ≡ None
IsGoodInput Replay input = (pages : ℕ) × (log : List Entry) × IsRawLog input pages log
IsGoodInput Upgrade input = (pages : ℕ) × (words : List ℕ) × IsBroughtOver input pages words
IsGoodInput Restore input = (copy : List CopiedPage) × (tail : List Entry) × IsImageFile input copy tail × IsLawfulMemory (length copy) 1 (restored copy tail)
IsGoodInput (Gen load) input = Unit {0}

-- all that a source has left is known, not too long, and good
abbrev pub HasGood : Form → Option (List ℕ) → Type 0
HasGood form None = ⊥
HasGood form (Some input) = (length input ≤ INPUT_BYTES) × IsGoodInput form input

-- The form gets what it needs of a source. `gen` needs nothing.
abbrev pub IsServed : Form → Option (List ℕ) → Type 0
IsServed (Gen load) left = Unit {0}
IsServed form left = HasGood form left

-- a status tells a fault of the source, and one of the sink, only where that one's count of faults rose, and where it tells none the count stands
pub record TellsFaults (status : Status) (reads reads_now writes writes_now : ℕ) : Type 0 where
  pub read : TellsFault ReadFault status reads reads_now
  pub write : TellsFault WriteFault status writes writes_now
