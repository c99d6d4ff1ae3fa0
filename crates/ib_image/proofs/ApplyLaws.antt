-- A tail's writes, applied from each page's start on.
use Rattle.std.specs.List.{All}
use Rattle.std.proofs.Common.{◌≡◌, ℕ, zero, suc, ◌+◌, ◌*◌, ◌<◌, ◌≤◌, ◌∙◌, List, [], ◌∷◌, ◌++◌, length, take, drop, get_or, refl, sym, ap, arith, inl, inr, length-append}
use Rattle.std.proofs.lemmas.Bool.{cases_lt, le-leb, lt-leb}
use Rattle.std.proofs.lemmas.List.{take_more, length-take-le, drop-append-le}
use Rattle.std.proofs.Math.ListN.{drop_of_length-le}
use Rattle.ib_map.specs.declared.TheConstants.{PAGE_WORDS}
use Rattle.ib_map.specs.declared.write.Write.{Write}
use Rattle.ib_map.specs.Writes.{stored}
use Rattle.ib_map.proofs.WriteLaws.{stored-append, PlacesRise-get}
use Rattle.ib_logrec.specs.declared.entry.Entry.{Entry}
use Rattle.ib_logrec.specs.Law.{AreInGrammar}
use Rattle.ib_logrec.specs.Log.{after}
use Rattle.ib_logrec.proofs.LogLaws.{after-append}
use Rattle.ib_image.specs.Applied.{stored_from}

from-started : (start count : ℕ) (ws : List Write) (place word : ℕ) → start ≤ count → stored_from start count ws place word ≡ stored ws place word
from-started start count ws place word le = let yes = le-leb start count le in rw yes refl

from-later : (start count : ℕ) (ws : List Write) (place word : ℕ) → count < start → stored_from start count ws place word ≡ word
from-later start count ws place word lt = let no = lt-leb start count lt in rw no refl

-- one write more of an entry
pub entry_more : (start count : ℕ) (ws : List Write) (i : ℕ) (d : Write) (place word : ℕ) → i < length ws
    → stored_from start count (get_or ws i d ∷ []) place (stored_from start count (take i ws) place word) ≡ stored_from start count (take (i + 1) ws) place word
entry_more start count ws i d place word lt = elim (cases_lt count start) [
  | inl later ↦
      from-later start count (get_or ws i d ∷ []) place (stored_from start count (take i ws) place word) later
      ∙ (from-later start count (take i ws) place word later ∙ sym (from-later start count (take (i + 1) ws) place word later))
  | inr le ↦
      from-started start count (get_or ws i d ∷ []) place (stored_from start count (take i ws) place word) le
      ∙ (ap (stored (get_or ws i d ∷ []) place) (from-started start count (take i ws) place word le)
      ∙ (sym (stored-append (take i ws) (get_or ws i d ∷ []) place word)
      ∙ (ap (λ (vs : List Write). stored vs place word) (sym (take_more ws i d lt)) ∙ sym (from-started start count (take (i + 1) ws) place word le))))
]

-- no entry of a tail
pub tail_none : (start place word : ℕ) → after (drop start []) place word ≡ word
tail_none zero place word = refl
tail_none (suc start) place word = refl

-- one entry more of a tail
pub tail_more : (start count : ℕ) (tail : List Entry) (d : Entry) (place word : ℕ) → count < length tail
    → stored_from start count (get_or tail count d).writes place (after (drop start (take count tail)) place word) ≡ after (drop start (take (count + 1) tail)) place word
tail_more start count tail d place word lt =
    let more = take_more tail count d lt in
    let size = length-take-le count tail (omega arith) in
    elim (cases_lt count start) [
      | inl later ↦
          let long = length-append (take count tail) (get_or tail count d ∷ []) in
          let none : drop start (take count tail) ≡ [] = drop_of_length-le (take count tail) (omega arith) in
          let nothing : drop start (take count tail ++ get_or tail count d ∷ []) ≡ [] = drop_of_length-le (take count tail ++ get_or tail count d ∷ []) (omega arith) in
          from-later start count (get_or tail count d).writes place (after (drop start (take count tail)) place word) later
          ∙ (ap (λ es. after es place word) none ∙ sym (ap (λ es. after (drop start es) place word) more ∙ ap (λ es. after es place word) nothing))
      | inr le ↦
          from-started start count (get_or tail count d).writes place (after (drop start (take count tail)) place word) le
          ∙ (sym (after-append (drop start (take count tail)) (get_or tail count d ∷ []) place word)
          ∙ (ap (λ es. after es place word) (sym (drop-append-le start (take count tail) (get_or tail count d ∷ []) (omega arith))) ∙ ap (λ es. after (drop start es) place word) (sym more)))
    ]

-- the writes of an entry of the tail are on pages
pub tail_inside : (pages : ℕ) (tail : List Entry) (count : ℕ) (d : Entry) → AreInGrammar pages tail → count < length tail → All (λ w. w.place < pages * PAGE_WORDS) (get_or tail count d).writes
tail_inside pages [] count d are lt = absurd (omega arith)
tail_inside pages (e ∷ es) zero d are lt = λ k w in_. (PlacesRise-get 0 e.writes (pages * PAGE_WORDS) k w are.0.places in_).1
tail_inside pages (e ∷ es) (suc count) d are lt = tail_inside pages es count d are.1 (omega arith)
