-- The step of one member, on the words of its event's latch, is the event of the whole state.
use Rattle.std.proofs.Common.{◌≡◌, ℕ, ◌+◌, ◌<◌, ◌≤◌, List, set, get_or, length, refl, sym, ap, ◌∙◌, subst, arith}
use Rattle.std.proofs.lemmas.List.{get_or_default}
use mathlib.Core.Option.{some}
use lib.ListN.{get_elem?}
use Rattle.ib_word.specs.declared.word.LockWord.{LockWord}
use Rattle.ib_core.specs.declared.event.Event.{Event}
use Rattle.ib_core.specs.declared.event.Answer.{Answer}
use Rattle.ib_core.specs.declared.machine.TheConstants.{MOST_STEPS}
use Rattle.ib_core.specs.declared.session.Session.{Session}
use Rattle.ib_core.specs.declared.session.Marks.{Marks}
use Rattle.ib_core.specs.Sessions.{idle, word_on}
use Rattle.ib_core.specs.Responses.{Response, Turn, answered, latch_of}
use Rattle.ib_core.specs.Table.{response_of, marks_after, turn_of}
use Rattle.ib_core.specs.Machine.{Outcome, marks_at, fresh, free_word, session_at, outcome_of}
use Rattle.ib_core.specs.Member.{SessionAmong, sessions_of, CanStep, SameSum}
use Rattle.ib_core.specs.Keeping.{IsKept}
use Rattle.ib_core.proofs.Steps.{can_step, room_for, counted_after, stands_at, stands_map, value_at, map_set}

module _ (members : List SessionAmong) (words : List LockWord) (marks : List Marks) (steps : ℕ) (kept : IsKept members words marks steps)
    (e : Event) (i l l' : ℕ) (i_within : i < length members) (l_is : l ≡ latch_of e) (l'_is : l' ≡ latch_of e) (within : latch_of e < length marks)
    (m : SessionAmong) (m_is : m ≡ get_or members i m) (w : LockWord) (w_is : w ≡ get_or words l w) (mk : Marks) (mk_is : mk ≡ get_or marks l' mk) where
  at : get_elem? members i ≡ some m
  at = stands_at members i m i_within ∙ ap some (sym m_is)

  word : w.0 ≡ word_on (latch_of e) (sessions_of members)
  word =
      let sized = kept.sized in let inside : l < length words = omega arith in
      let v : get_or words l w ≡ get_or words l free_word = get_or_default words l w free_word inside in
      let c = kept.counted l inside in
      ap (λ (w : LockWord). w.0) (w_is ∙ v) ∙ (c ∙ ap (λ l. word_on l (sessions_of members)) l_is)

  mark : mk ≡ marks_at marks (latch_of e)
  mark =
      let inside : l' < length marks = omega arith in
      mk_is ∙ (get_or_default marks l' mk fresh inside ∙ ap (marks_at marks) l'_is)

  pub can : CanStep (latch_of e) w.0 m.session
  can = can_step members words marks steps kept i m at (latch_of e) within w.0 word

  pub room : latch_of e < m.latches
  room = room_for members words marks steps kept i m at (latch_of e) within

  -- the raises of a generation fit
  pub generation_fits : mk.generation ≤ steps
  generation_fits = let e' = ap (λ (z : Marks). z.generation) mark in let r = kept.raised (latch_of e) in omega arith

  pub ex_generation_fits : mk.ex_generation ≤ steps
  ex_generation_fits = let e' = ap (λ (z : Marks). z.ex_generation) mark in let r = kept.ex_raised (latch_of e) in omega arith

  module _ (r : Answer) (m' : SessionAmong) (w' : LockWord) (mk' : Marks)
      (turn : Path Turn (record { answer = r; session = m'.session; marks = mk' }) (turn_of w.0 mk e m.session)) (weighs : SameSum (latch_of e) w.0 m.session w'.0 m'.session)
      (latches : m'.latches ≡ m.latches) (more : steps + 1 ≤ MOST_STEPS) where
    responds : answered r m'.session ≡ response_of w.0 mk e m.session
    responds = ap (λ (t : Turn). answered t.answer t.session) turn

    marked : mk' ≡ marks_after m.session.phase e mk
    marked = ap (λ (t : Turn). t.marks) turn

    responds_at : answered r m'.session ≡ response_of (word_on (latch_of e) (sessions_of members)) (marks_at marks (latch_of e)) e m.session
    responds_at = responds ∙ (λ j. response_of (word j) (mark j) e m.session)

    marked_at : mk' ≡ marks_after m.session.phase e (marks_at marks (latch_of e))
    marked_at = marked ∙ ap (marks_after m.session.phase e) mark

    pub counted : IsKept (set members i m') (set words l w') (set marks l' mk') (steps + 1)
    counted =
        subst (λ l. IsKept (set members i m') (set words l w') (set marks l' mk') (steps + 1)) (sym l_is)
        (subst (λ l'. IsKept (set members i m') (set words (latch_of e) w') (set marks l' mk') (steps + 1)) (sym l'_is)
        (counted_after members words marks steps kept i m at (latch_of e) within e refl m' w' mk' (ap (λ (z : Response). z.session) responds_at) marked_at
        (subst (λ w. SameSum (latch_of e) w m.session w'.0 m'.session) word weighs) latches more))

    stands : session_at (record { sessions = sessions_of members; marks = marks }) i ≡ m.session
    stands = value_at (sessions_of members) i m.session idle (stands_map members i m at)

    pub event_of : Path Outcome (record { answer = r; state = record { sessions = sessions_of (set members i m'); marks = set marks l' mk' } }) (outcome_of (record { sessions = sessions_of members; marks = marks }) i e)
    event_of =
        (λ j. record {
          answer = (responds_at j).answer;
          state = record {
            sessions = (map_set members i m' ∙ ap (λ (z : Response). set (sessions_of members) i z.session) responds_at) j;
            marks = set marks (l'_is j) (marked_at j);
          };
        })
        ∙ sym (ap (λ (a : Session). outcome_at a) stands)
      where
        outcome_at : Session → Outcome
        outcome_at a = let t = turn_of (word_on (latch_of e) (sessions_of members)) (marks_at marks (latch_of e)) e a in record {
          answer = t.answer;
          state = record { sessions = set (sessions_of members) i t.session; marks = set marks (latch_of e) t.marks };
        }
