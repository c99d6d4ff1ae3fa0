-- What the words at whose front an entry stands say of its length.
use Rattle.std.proofs.Common.{◌≡◌, ℕ, ◌+◌, ◌*◌, ◌≤◌, List, [], ◌∷◌, ◌++◌, length, sym, ap, ◌∙◌, arith, length-append}
use mathlib.Core.List.{IsPrefix}
use Rattle.ib_map.specs.Writes.{write_words}
use Rattle.ib_layout.specs.Geometry.{Sizes}
use Rattle.ib_logrec.specs.declared.entry.TheConstants.{HEAD_WORDS, MOST_WRITES}
use Rattle.ib_logrec.specs.declared.entry.Entry.{Entry}
use Rattle.ib_logrec.specs.Heads.{head_of, count_in, first_at}
use Rattle.ib_logrec.specs.Words.{words_of_entry}
use Rattle.ib_logrec.specs.Log.{used}
use Rattle.ib_logrec.proofs.EntryLaws.{length-words_of_entry, words_of_entry-append}
use Rattle.ib_logrec.proofs.HeadLaws.{count_is, first_at-words}
use Rattle.ib_logrec.proofs.LogLaws.{used-push}
use Rattle.ib_rule.specs.declared.view.View.{View}
use Rattle.ib_rule.specs.Pass.{IsFront}
use Rattle.ib_rule.specs.Stores.{appending}

-- its words are those of a head, and two for each write that the first one counts
pub length_spelled : (e : Entry) (words : List ℕ) → length e.writes ≤ MOST_WRITES → IsPrefix (words_of_entry e) words → length (words_of_entry e) ≡ HEAD_WORDS + 2 * count_in (first_at words)
length_spelled e words few p =
    let count : count_in (first_at words) ≡ length e.writes =
    ap (λ (ws : List ℕ). count_in (first_at ws)) (sym p.1 ∙ words_of_entry-append e p.0)
    ∙ (ap count_in (first_at-words (head_of e) (write_words e.writes ++ p.0) few) ∙ count_is (head_of e) (write_words e.writes ++ p.0) few) in
    omega (arith, length-words_of_entry e)

-- the log with an entry more
pub longer_fits_more : (sizes : Sizes) (v : View) (e : Entry) → IsFront sizes v.memory → used v.memory.seen + length (words_of_entry e) ≤ sizes.log_words → IsFront sizes (appending e v).memory
longer_fits_more sizes v e is room =
    let seen : List Entry = v.memory.seen in
    let more = used-push seen e in let long = length-words_of_entry e in
    let a = length-append v.memory.own (e ∷ []) in let b = length-append seen (e ∷ []) in record {
      mine = let c = is.mine in omega arith;
      short = let c = is.short in omega arith;
      room = omega arith;
    }
