-- The definitions tried on small scripts whose outcome was worked out by hand.
use Rattle.std.proofs.Common.{◌≡◌, ℕ, zero, suc, List, [], ◌∷◌, Some, refl, arith, eqb, false, lit≤}
use Rattle.std.proofs.lemmas.Bool.{ne_eqb}
use Rattle.ib_map.specs.KeyWords.{is_key_words, zero_bytes}
use Rattle.ib_map.specs.Keys.{MapKey, rank, end_rank, key_in, key_after, least, greatest}
use Rattle.ib_map.specs.Pairs.{Pairs, cut}
use Rattle.ib_map.specs.Map.{answer_of, effect_of}
use Rattle.ib_map.specs.History.{History, map_with, changes_of, IsLegalHistory}
use Rattle.ib_map.specs.Replies.{FullRecord, Fits}
use Rattle.ib_map.specs.Runs.{IsLegalSession, IsLegalRun}
use Rattle.ib_map.specs.declared.call.Call.TheVariants.{Insert, Delete, Get, Scan}
use Rattle.ib_map.specs.declared.call.Change.TheVariants.{Insert as InsertChange, Delete as DeleteChange}
use Rattle.ib_map.specs.declared.call.Reply.TheVariants.{Inserted, Duplicate, Deleted, Missing, Found, NotFound, Scanned}
use Rattle.ib_map.proofs.HistoryLaws.{IsLegalHistory-none, IsLegalHistory-push}

-- the key of a number has its 8 bytes; the next one has a zero byte more
abbrev number : ℕ → MapKey
number n = key_in n 8

pub after_eight_bytes : key_after (number 10) ≡ Some (key_in 10 9)
unfolding rank end_rank key_in key_after is_key_words zero_bytes
after_eight_bytes = refl

-- 14 bytes 0 and one byte 255, and behind it 13 bytes 0 and one byte 1
pub after_fifteen_bytes : key_after (key_in 0 65295) ≡ Some (key_in 0 65550)
unfolding rank end_rank key_in key_after is_key_words zero_bytes
after_fifteen_bytes = refl

-- the last byte says how many there are: 15 at most, with zeros behind them
pub sixteen_bytes : is_key_words 0 16 ≡ false
unfolding is_key_words zero_bytes
sixteen_bytes = refl

pub byte_behind_the_key : is_key_words 0 257 ≡ false
unfolding is_key_words zero_bytes
byte_behind_the_key = refl

-- a second insert of a key is a duplicate, and the first value stays
pub first_insert : answer_of [] (InsertChange (number 10) 100) ≡ Inserted
unfolding rank key_in is_key_words zero_bytes
first_insert = refl

pub second_insert : answer_of (effect_of [] (InsertChange (number 10) 100)) (InsertChange (number 10) 7) ≡ Duplicate
unfolding rank key_in is_key_words zero_bytes
second_insert = refl

pub first_value_stays : effect_of (effect_of [] (InsertChange (number 10) 100)) (InsertChange (number 10) 7) ≡ (number 10, 100) ∷ []
unfolding rank key_in is_key_words zero_bytes
first_value_stays = refl

-- a delete of a key that is not there is missing
pub delete_of_none : answer_of [] (DeleteChange (number 5)) ≡ Missing
delete_of_none = refl

pub delete_of_none_changes_nothing : effect_of [] (DeleteChange (number 5)) ≡ []
delete_of_none_changes_nothing = refl

-- the least and the greatest key, and a scan of both
abbrev pub both_ends : Pairs
both_ends = effect_of (effect_of [] (InsertChange greatest 1)) (InsertChange least 2)

pub both_ends_in_order : both_ends ≡ (least, 2) ∷ (greatest, 1) ∷ []
unfolding rank key_in is_key_words zero_bytes
both_ends_in_order = refl

pub scan_of_all : cut both_ends least greatest ≡ (least, 2) ∷ (greatest, 1) ∷ []
unfolding rank key_in is_key_words zero_bytes
scan_of_all = refl

pub scan_of_none : cut both_ends (number 5) (number 3) ≡ []
unfolding rank key_in is_key_words zero_bytes
scan_of_none = refl

-- one session inserts a key, reads it, deletes it, and reads it again
abbrev pub put_and_taken : History
put_and_taken = record { session = 1; number = 1; change = InsertChange (number 10) 100 } ∷ record { session = 1; number = 2; change = DeleteChange (number 10) } ∷ []

abbrev pub four_records : List FullRecord
four_records =
    record { call = Insert (number 10) 100; reply = Inserted; place = 0; spans = [] }
    ∷ record { call = Get (number 10); reply = Found 100; place = 1; spans = [] }
    ∷ record { call = Delete (number 10); reply = Deleted 100; place = 1; spans = [] }
    ∷ record { call = Get (number 10); reply = NotFound; place = 2; spans = [] }
    ∷ []

pub put_and_taken-map : map_with [] put_and_taken ≡ []
unfolding rank key_in is_key_words zero_bytes
put_and_taken-map = refl

pub put_and_taken-legal : IsLegalHistory put_and_taken
unfolding rank key_in is_key_words zero_bytes
put_and_taken-legal =
    IsLegalHistory-push (record { session = 1; number = 1; change = InsertChange (number 10) 100 } ∷ []) (record { session = 1; number = 2; change = DeleteChange (number 10) })
    (IsLegalHistory-push [] (record { session = 1; number = 1; change = InsertChange (number 10) 100 }) IsLegalHistory-none refl refl) refl refl

-- a session beside the first has no changes there
no_changes : (n : ℕ) → changes_of (suc (suc n)) put_and_taken ≡ []
no_changes n = let other : eqb 1 (suc (suc n)) ≡ false = ne_eqb 1 (suc (suc n)) (λ e. omega arith) in rw other refl

pub four_records-legal : IsLegalRun Fits put_and_taken (four_records ∷ [])
unfolding rank key_in is_key_words zero_bytes
four_records-legal zero = record { answers = tt; changes = refl }
four_records-legal (suc zero) = record {
  answers = (
    (lit≤ tt, ((refl, (record { session = 1; number = 1; change = InsertChange (number 10) 100 }, refl, refl, refl)), refl)),
    lit≤ tt,
    lit≤ tt,
    (
      (lit≤ tt, (refl, refl)),
      lit≤ tt,
      lit≤ tt,
      (
        (lit≤ tt, ((refl, (record { session = 1; number = 2; change = DeleteChange (number 10) }, refl, refl, refl)), refl)),
        lit≤ tt,
        lit≤ tt,
        ((lit≤ tt, (refl, refl)), lit≤ tt, lit≤ tt, tt),
      ),
    ),
  );
  changes = refl;
}
four_records-legal (suc (suc n)) = record { answers = tt; changes = no_changes n }

-- two sessions: the first inserts a key and reads it, the second deletes it after that
abbrev pub handed_over : History
handed_over = record { session = 1; number = 1; change = InsertChange (number 7) 1 } ∷ record { session = 2; number = 1; change = DeleteChange (number 7) } ∷ []

abbrev pub first_session : List FullRecord
first_session = record { call = Insert (number 7) 1; reply = Inserted; place = 0; spans = [] } ∷ record { call = Get (number 7); reply = Found 1; place = 1; spans = [] } ∷ []

abbrev pub second_session : List FullRecord
second_session = record { call = Delete (number 7); reply = Deleted 1; place = 1; spans = [] } ∷ []

pub handed_over-legal : IsLegalRun Fits handed_over (first_session ∷ second_session ∷ [])
unfolding rank key_in is_key_words zero_bytes
handed_over-legal zero = record { answers = tt; changes = refl }
handed_over-legal (suc zero) = record {
  answers = (
    (lit≤ tt, ((refl, (record { session = 1; number = 1; change = InsertChange (number 7) 1 }, refl, refl, refl)), refl)),
    lit≤ tt,
    lit≤ tt,
    ((lit≤ tt, (refl, refl)), lit≤ tt, lit≤ tt, tt),
  );
  changes = refl;
}
handed_over-legal (suc (suc zero)) = record {
  answers = ((lit≤ tt, ((refl, (record { session = 2; number = 1; change = DeleteChange (number 7) }, refl, refl, refl)), refl)), lit≤ tt, lit≤ tt, tt);
  changes = refl;
}
handed_over-legal (suc (suc (suc n))) =
    let first : eqb 1 (suc (suc (suc n))) ≡ false = ne_eqb 1 (suc (suc (suc n))) (λ e. omega arith) in
    let second : eqb 2 (suc (suc (suc n))) ≡ false = ne_eqb 2 (suc (suc (suc n))) (λ e. omega arith) in
    record { answers = tt; changes = rw (first, second) refl }

-- the first session does not read the key as gone before it is deleted
pub gone_too_early : Fits handed_over 1 1 (record { call = Get (number 7); reply = NotFound; place = 1; spans = [] }) → ⊥
unfolding rank key_in is_key_words zero_bytes
gone_too_early fits = let wrong = fits.1.0 in cc

-- nor does it read the older map once it has seen its own change
pub older_map : IsLegalSession (Fits handed_over 1) handed_over 1
    (record { call = Insert (number 7) 1; reply = Inserted; place = 0; spans = [] } ∷ record { call = Get (number 7); reply = NotFound; place = 0; spans = [] } ∷ []) → ⊥
older_map legal = let seen = legal.answers.3.1 in omega arith

-- and a change that nobody reports is no part of a legal run
pub unreported_change : IsLegalSession (Fits handed_over 1) handed_over 1 [] → ⊥
unreported_change legal = let changes = legal.changes in cc

-- a scan in two chunks, of which the second begins behind the first
abbrev pub three_keys : History
three_keys =
    record { session = 1; number = 1; change = InsertChange (number 1) 10 } ∷ record { session = 1; number = 2; change = InsertChange (number 5) 50 }
    ∷ record { session = 1; number = 3; change = InsertChange (number 7) 70 } ∷ []

abbrev pub in_two_chunks : FullRecord
in_two_chunks = record {
  call = Scan (number 0) (number 10);
  reply = Scanned 2 3;
  place = 3;
  spans = record { low = number 0; high = number 5; place = 3; pairs = (number 1, 10) ∷ (number 5, 50) ∷ [] } ∷ record { low = key_in 5 9; high = number 10; place = 3; pairs = (number 7, 70) ∷ [] } ∷ [];
}

pub in_two_chunks-fits : Fits three_keys 1 3 in_two_chunks
unfolding rank end_rank key_in key_after is_key_words zero_bytes
in_two_chunks-fits = (
  lit≤ tt,
  (
    refl,
    (
      lit≤ tt,
      (
        (record { begins = refl; ends = lit≤ tt; placed = lit≤ tt; holds = (lit≤ tt, refl) }),
        lit≤ tt,
        refl,
        (record { begins = refl; ends = lit≤ tt; placed = lit≤ tt; holds = (lit≤ tt, refl) }, refl, refl),
      ),
    ),
  ),
)

-- a chunk that ends below its beginning, so that the next one tells pairs again
pub backward_chunk : (pairs : Pairs) → Fits three_keys 1 3 (record {
  call = Scan (number 0) (number 10);
  reply = Scanned 3 4;
  place = 3;
  spans = record { low = number 0; high = number 5; place = 3; pairs = (number 1, 10) ∷ (number 5, 50) ∷ [] } ∷ record { low = number 6; high = number 2; place = 3; pairs = pairs }
      ∷ record { low = number 3; high = number 10; place = 3; pairs = (number 5, 50) ∷ (number 7, 70) ∷ [] } ∷ [];
}) → ⊥
unfolding rank key_in is_key_words zero_bytes
backward_chunk pairs fits = let second = fits.1.1.1.3.0.ends in omega arith

-- a scan with no chunk stands at what its session had seen, and nowhere else
pub empty_scan-fits : Fits three_keys 1 2 (record { call = Scan (number 9) (number 1); reply = Scanned 0 0; place = 2; spans = [] })
unfolding rank key_in is_key_words zero_bytes
empty_scan-fits = (lit≤ tt, (refl, (lit≤ tt, refl)))

pub empty_scan_elsewhere : Fits three_keys 1 2 (record { call = Scan (number 9) (number 1); reply = Scanned 0 0; place = 3; spans = [] }) → ⊥
empty_scan_elsewhere fits = let at = fits.1.1.1 in omega arith
