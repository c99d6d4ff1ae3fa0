-- The form, the pages and the words are the file.
use Rattle.std.proofs.Common.{◌≡◌, ◌++◌, ◌∷◌, [], ℕ, List, subst, sym}
use Rattle.std.proofs.lemmas.Grind.{flat_map-append}
use Rattle.byteorder.specs.Endian.{big_bytes}
use Rattle.ib_io.specs.Writer.{Puts}
use Rattle.ib_io.proofs.Writing.{puts_on}
use Rattle.ib_replay.specs.Files.{file_of, file_with, word_bytes}
use Rattle.ib_replay.specs.declared.file.TheConstants.{FILE_FORM}
use Rattle.ib_replay_form.proofs.log_file.FileTextPrinted.print.Goals as goal

file-parts : (pages : ℕ) (words : List ℕ) → word_bytes (FILE_FORM ∷ pages ∷ []) ++ word_bytes words ≡ file_of pages words
unfolding file_with
file-parts pages words = sym (flat_map-append (big_bytes 8) (FILE_FORM ∷ pages ∷ []) words)

pub returns : goal.returns
returns g c = record {
  puts = subst (Puts g.K.Sink.written g.K.Sink.faults c.args.writer.now c.print_words-2.new.writer) (file-parts c.args.self.log.pages c.args.self.log.words)
      (puts_on (rw (c.from.ensures, c.pages.ensures) at c.print_words.ensures.puts) (rw c.words.ensures at c.print_words-2.ensures.puts));
}
