-- One more session is printed behind the others, however its calls are told.
use Rattle.std.proofs.Common.{◌≡◌, ◌∙◌, ℕ, ◌+◌, ◌<◌, List, [], ◌∷◌, ◌++◌, length, take, get_or, map, ap, sym, append_assoc, arith, add-zero}
use Rattle.std.proofs.lemmas.List.{append-nil, length-map, length-take-le, map_more}
use Rattle.ib_map.specs.Replies.{FullRecord}
use Rattle.ib_map.specs.Runs.{Runs}
use Rattle.ib_runs.specs.Answers.{KeptAnswers, answers_of}
use Rattle.ib_text.specs.Output.{Telling, session_text_by, sessions_from_by}

module _ (t : Telling) where
  sessions_from-push : (number : ℕ) (runs : Runs) (rs : List FullRecord) → sessions_from_by t number (runs ++ rs ∷ []) ≡ sessions_from_by t number runs ++ session_text_by t (number + length runs) rs
  sessions_from-push number [] rs = append-nil (session_text_by t number rs) ∙ ap (λ n. session_text_by t n rs) (sym (add-zero number))
  sessions_from-push number (qs ∷ runs) rs =
      let next : number + 1 + length runs ≡ number + length (qs ∷ runs) = omega arith in
      ap (λ z. session_text_by t number qs ++ z) (sessions_from-push (number + 1) runs rs)
      ∙ sym (append_assoc (session_text_by t number qs) (sessions_from_by t (number + 1) runs) (session_text_by t (number + 1 + length runs) rs))
      ∙ ap (λ n. session_text_by t number qs ++ sessions_from_by t (number + 1) runs ++ session_text_by t n rs) next

  -- the text of the first sessions, and then of the next
  pub sessions_from-more : (number : ℕ) (outs : List KeptAnswers) (i : ℕ) (d : KeptAnswers) → i < length outs
      → sessions_from_by t number (map answers_of (take (i + 1) outs)) ≡ sessions_from_by t number (map answers_of (take i outs)) ++ session_text_by t (number + i) (answers_of (get_or outs i d))
  sessions_from-more number outs i d lt =
      let front = map answers_of (take i outs) in
      let next = answers_of (get_or outs i d) in
      let count : length front ≡ i = length-map (take i outs) answers_of ∙ length-take-le i outs (omega arith) in
      ap (sessions_from_by t number) (map_more answers_of outs i d lt)
      ∙ sessions_from-push number front next
      ∙ ap (λ n. sessions_from_by t number front ++ session_text_by t (number + n) next) count
