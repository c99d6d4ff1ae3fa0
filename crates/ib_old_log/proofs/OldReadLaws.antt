-- What stands at a place of an old log's words, by its head.
use Rattle.std.proofs.Common.{◌≡◌, ℕ, ◌+◌, ◌-◌, ◌*◌, List, length, take, drop, None, sym, ap, subst, ◌∙◌}
use Rattle.std.proofs.lemmas.List.{take_rest}
use Rattle.ib_logrec.specs.Heads.{count_in, first_at}
use Rattle.ib_old_log.specs.declared.TheConstants.{OLD_HEAD_WORDS}
use Rattle.ib_old_log.specs.declared.head.OldHead.{OldHead}
use Rattle.ib_old_log.specs.OldHeads.{old_head_in}
use Rattle.ib_old_log.specs.OldEntries.{old_entry_in}
use Rattle.ib_old_log.specs.OldGrammar.{OldStandsAt, OldHeadStandsAt, old_fault_at}
use Rattle.ib_old_log.proofs.OldEntryLaws.{OldStandsAt-no_fault, old_head_of-read}

count_read : (h : OldHead) (words : List ℕ) → h ≡ old_head_in words → h.writes ≡ count_in (first_at words)
unfolding old_head_in
count_read h words read = ap (λ (h : OldHead). h.writes) read

-- a head that was read where there is no fault is that of the entry there
OldHeadStandsAt-read : (pages place : ℕ) (words : List ℕ) (h : OldHead) → old_fault_at pages place (drop place words) ≡ None → h ≡ old_head_in (drop place words)
    → OldHeadStandsAt pages place (place + (OLD_HEAD_WORDS + 2 * h.writes)) words h
OldHeadStandsAt-read pages place words h none read = record {
  entry = old_entry_in (drop place words);
  stands = subst (λ (n : ℕ). OldStandsAt pages place (place + (OLD_HEAD_WORDS + 2 * n)) words (old_entry_in (drop place words))) (sym (count_read h (drop place words) read)) (OldStandsAt-no_fault pages place words none);
  head = read ∙ sym (old_head_of-read pages place (drop place words) none);
}

-- the same of the words from the place on, as a part of them
pub OldHeadStandsAt-part : (pages place : ℕ) (words : List ℕ) (h : OldHead) → old_fault_at pages place (take (length words - place) (drop place words)) ≡ None
    → h ≡ old_head_in (take (length words - place) (drop place words)) → OldHeadStandsAt pages place (place + (OLD_HEAD_WORDS + 2 * h.writes)) words h
OldHeadStandsAt-part pages place words h none read =
    OldHeadStandsAt-read pages place words h (subst (λ ws. old_fault_at pages place ws ≡ None) (take_rest words place) none) (read ∙ ap old_head_in (take_rest words place))
