-- The records of a session are printed one behind another, each with the chunks of its scan.
use Rattle.std.proofs.Common.{◌≡◌, ◌∙◌, ℕ, ◌+◌, ◌<◌, ◌≤◌, List, [], ◌∷◌, ◌++◌, true, false, ap, sym, refl, arith, take, drop, get_or, length, append-nil}
use Rattle.std.proofs.lemmas.List.{take_more, drop-drop}
use Rattle.std.proofs.lemmas.List.Sums.{sum_by-append, sum_by-cons, sum_by-take-drop}
use Rattle.std.proofs.lemmas.Bool.{eqb-true}
use Rattle.std.proofs.lemmas.Grind.{flat_map-append}
use Rattle.std.specs.Prelude.{flat_map, codes, decimal, ◌==◌}
use Rattle.ib_map.specs.Replies.{Span, FullRecord, full_record}
use Rattle.ib_map.specs.FullRecords.{chunk_count, full_records, total_chunks}
use Rattle.ib_map.specs.declared.call.Record.{Record}
use Rattle.ib_text.specs.Output.{Telling, record_text_by, session_text_by}

-- one more record has its chunks behind those that the records before it count
full_records-more : (rs : List Record) (spans : List Span) (r : Record)
    → full_records (rs ++ r ∷ []) spans ≡ full_records rs spans ++ full_record r (take (chunk_count r.reply) (drop (total_chunks rs) spans)) ∷ []
full_records-more [] spans r = refl
full_records-more (x ∷ xs) spans r =
    let n : ℕ = chunk_count x.reply in
    let past : drop (total_chunks xs) (drop n spans) ≡ drop (total_chunks (x ∷ xs)) spans = drop-drop (total_chunks xs) n spans ∙ ap (λ k. drop k spans) (sym (sum_by-cons (λ q. chunk_count q.reply) x xs)) in
    ap (λ rest. full_record x (take n spans) ∷ rest)
    (full_records-more xs (drop n spans) r ∙ ap (λ rest. full_records xs (drop n spans) ++ full_record r (take (chunk_count r.reply) rest) ∷ []) past)

pub total_chunks-more : (rs : List Record) (i : ℕ) (d : Record) → i < length rs → total_chunks (take (i + 1) rs) ≡ total_chunks (take i rs) + chunk_count (get_or rs i d).reply
total_chunks-more rs i d lt = ap total_chunks (take_more rs i d lt) ∙ omega (arith, sum_by-append (λ q. chunk_count q.reply) (take i rs) (get_or rs i d ∷ []))

pub total_chunks-within : (rs : List Record) (i : ℕ) → total_chunks (take i rs) ≤ total_chunks rs
total_chunks-within rs i = omega (arith, sum_by-take-drop (λ q. chunk_count q.reply) rs i)

module _ (t : Telling) where
  pub records_text-more : (rs : List Record) (i : ℕ) (d : Record) (spans : List Span) → i < length rs
      → flat_map (record_text_by t) (full_records (take (i + 1) rs) spans)
      ≡ flat_map (record_text_by t) (full_records (take i rs) spans) ++ record_text_by t (full_record (get_or rs i d) (take (chunk_count (get_or rs i d).reply) (drop (total_chunks (take i rs)) spans)))
  records_text-more rs i d spans lt =
      let r : Record = get_or rs i d in
      let front : List FullRecord = full_records (take i rs) spans in
      let last : FullRecord = full_record r (take (chunk_count r.reply) (drop (total_chunks (take i rs)) spans)) in
      ap (λ seen. flat_map (record_text_by t) (full_records seen spans)) (take_more rs i d lt)
      ∙ ap (flat_map (record_text_by t)) (full_records-more (take i rs) spans r)
      ∙ flat_map-append (record_text_by t) front (last ∷ [])
      ∙ ap (λ text. flat_map (record_text_by t) front ++ text) (append-nil (record_text_by t last))

  -- the part of a session that has records
  pub session_lines-text : (session : ℕ) (rs : List Record) (spans : List Span) → (length rs == 0) ≡ false
      → codes "session " ++ decimal session ++ codes "\n" ++ flat_map (record_text_by t) (full_records rs spans) ≡ session_text_by t session (full_records rs spans)
  session_lines-text session [] spans some = absurd (cc)
  session_lines-text session (r ∷ rs) spans some = refl

  -- .. and that of one that has none
  pub no_lines-text : (session : ℕ) (rs : List Record) (spans : List Span) → (length rs == 0) ≡ true → session_text_by t session (full_records rs spans) ≡ []
  no_lines-text session [] spans none = refl
  no_lines-text session (r ∷ rs) spans none = let empty : length (r ∷ rs) ≡ 0 = eqb-true (length (r ∷ rs)) 0 none in absurd (omega arith)
