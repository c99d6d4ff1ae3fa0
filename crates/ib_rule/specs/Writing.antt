-- The entry that a pass writes: the one whose words stand at the front of its words for an entry.
use Rattle.std.specs.Prelude.{◌≡◌, ◌+◌, ◌<◌, ◌≤◌, true, List}
use mathlib.Core.List.{IsPrefix}
use Rattle.ib_layout.specs.Geometry.{Sizes}
use Rattle.ib_logrec.specs.declared.entry.Entry.{Entry}
use Rattle.ib_logrec.specs.Words.{entry_in, words_of_entry}
use Rattle.ib_logrec.specs.Log.{used}
use Rattle.ib_core.specs.Sessions.{sx_grants, x_grants}
use Rattle.ib_rule.specs.declared.pass.TheConstants.{ENTRY_WORDS}
use Rattle.ib_rule.specs.Pass.{PassState}
use Rattle.ib_rule.specs.Stores.{IsReady}

abbrev pub entry_of : PassState → Entry
entry_of p = entry_in p.words

-- words of it may be stored: they stand there, the log has room for each entry, and where the entry is structural, its writer has SX on the index and not X
pub record MayStore (sizes : Sizes) (lawful : List Entry → Type 0) (p : PassState) : Type 0 where
  pub spelled : IsPrefix (words_of_entry (entry_of p)) p.words
  pub longest : used p.view.memory.seen + ENTRY_WORDS ≤ sizes.log_words
  pub index : (entry_of p).structural ≡ true → (0 < sx_grants 1 p.view.session) × (x_grants 1 p.view.session ≡ 0)
  pub ready : IsReady sizes lawful p.view (entry_of p)
